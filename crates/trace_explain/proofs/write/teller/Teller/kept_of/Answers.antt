use Rattle.std.proofs.Common.{ap, sym}
use Rattle.std.specs.String.{string_bytes}
use Rattle.trace_explain.proofs.write.teller.Teller.kept_of.Goals as goal

pub returns : goal.returns
returns c = λ whole. (
  c.tell_box.new.output.sheet,
  c.in_ok-text.ensures.0,
  ap string_bytes (sym c.in_ok-text.ensures.1),
  c.tell_box.ensures.puts whole,
)
