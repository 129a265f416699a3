use Rattle.std.proofs.Common.{◌≡◌, ◌↔◌, ◌∙◌, Option, Some, None, is_some, Result, Ok, Err, true, false, refl, sym, ap}
use Rattle.std.specs.Result.{result_err}
use Rattle.atr_core.specs.declared.fault.AtrFault.{AtrFault}
use Rattle.atr_core.specs.FirstFault.{first_fault}
use Rattle.trace_explain.specs.Openings.{after_answer}
use Rattle.trace_explain.proofs.follow.opening.after_answer.Goals as goal

-- A reading returns the first fault.
fault_of : {T : Type 0} (r : Result T AtrFault) (f : Option AtrFault)
    → ((e : AtrFault) → (r ≡ Err e) ↔ (f ≡ Some e)) → result_err r ≡ f
fault_of (Ok x) None reads = refl
fault_of (Ok x) (Some e) reads =
    let no : false ≡ true = ap (λ r. is_some (result_err r)) ((reads e).1 refl) in absurd (cc)
fault_of (Err e) f reads = sym ((reads e).0 refl)

pub returns : goal.returns
returns c =
    c.after_reading.ensures
    ∙ ap after_answer (c.err.ensures.value
    ∙ fault_of c.read.result (first_fault c.args.bytes.now) c.read.ensures.fault)
