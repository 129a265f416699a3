use Rattle.std.proofs.Common.{◌∙◌, sym}
use Rattle.trace_explain.proofs.DigitLemmas.{pair_of}
use Rattle.trace_explain.proofs.read.digits.pair_at.Goals as goal

pub returns : goal.returns
returns c = pair_of c.args.spot c.args.digits.now c.byte_of.result
    (sym c.begins.ensures ∙ c.if-not-begins.false) (c.has_pair.ensures c.if-not-has_pair.false)
    c.byte_of.ensures
