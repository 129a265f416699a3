-- The bytes of an answer are read as that answer.
use Rattle.std.proofs.Common.{◌≡◌, ℕ, List, Some, None, Result, Ok, Err, MatchResult, sym, ap, ◌∙◌}
use Rattle.atr_core.specs.Answer.{Answer, IsAnswer, characters}
use Rattle.atr_core.specs.FirstFault.{first_fault}
use Rattle.atr_core.specs.Reading.{IsWhole}
use Rattle.atr_core.specs.declared.fault.AtrFault.{AtrFault}
use Rattle.atr_core.proofs.OneReading.{one_reading}
use Rattle.atr_core.proofs.Spelled.{no_fault}

pub each : (all : List ℕ) (r : Result Answer AtrFault)
    → MatchResult r (IsWhole all) (λ f. first_fault all ≡ Some f)
    → (a : Answer) → IsAnswer a → all ≡ characters a → r ≡ Ok a
each all (Ok b) h a is e = ap Ok (one_reading b a h.answer is (sym h.is ∙ e))
each all (Err f) h a is e =
    let none : first_fault all ≡ None = ap first_fault e ∙ no_fault a is in cc
