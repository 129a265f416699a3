-- Any other letter is no step.
use Rattle.std.proofs.Common.{refl, sym, ◌∙◌, arith}
use Rattle.card_trace.proofs.ScriptFieldLemmas.{differs, no_steps}
use Rattle.card_trace.proofs.script.fields.read_steps.Goals as goal

pub returns-in_default-clause-refused : goal.returns-in_default-clause-refused
returns-in_default-clause-refused g c =
    let text = c.args.text.now in
    let dash = differs text c.as_slice.result.now c.as_slice.ensures
    (sym c.eq.ensures ∙ c.if-eq.false) in (
      refl,
      no_steps text c.loop-letter.letter-index c.loop-letter-test.true
          (omega (arith, c.in_default)) (omega (arith, c.in_default)) (omega (arith, c.in_default))
          dash,
    )
