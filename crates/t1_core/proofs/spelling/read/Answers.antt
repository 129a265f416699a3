use Rattle.std.proofs.Common.{rules, ◌≡◌, ◌∙◌}
use Rattle.std.specs.Option.{option_map}
use Rattle.t1_core.specs.Block.{said}
use Rattle.t1_core.specs.BlockBytes.{block_of}
use Rattle.t1_core.proofs.BlockBytesFacts.{reads_written}
use Rattle.t1_core.proofs.spelling.read.Goals as goal

pub returns-clause-written : goal.returns-clause-written
returns-clause-written c = λ b few filled is.
    let exact : option_map said c.and_then.result ≡ block_of c.args.bytes.now = search rules in
    exact ∙ reads_written b c.args.bytes.now few filled is
