-- There is no fault exactly if the value is a list of objects.
use Rattle.std.proofs.Common.{◌≡◌, ◌↔◌, List, ℕ, true, Bool, Option, Some, None, IsNone, MatchOption, refl, sym}
use Rattle.tlv_core.specs.FirstFault.{IsFirstFault}
use Rattle.tlv_core.specs.Spelling.{AreObjects}
use Rattle.tlv_core.specs.declared.fault.TlvFault.{TlvFault}
use Rattle.tlv_core.specs.PlaceLaws.{spelled_has_no_fault}
use Rattle.tlv_core.proofs.check.value_fault.Goals as goal

none_where_objects : (result : Option TlvFault) (value : List ℕ) (b : Bool) → b ≡ true
    → MatchOption result (AreObjects value 2)
    (λ fault. IsFirstFault value 2 fault.place fault.reason)
    → IsNone result ↔ (b ≡ true → AreObjects value 2)
none_where_objects None value b kind h = (λ none kind. h, λ objects. refl)
none_where_objects (Some fault) value b kind h = (
  λ clash. cc,
  λ objects. absurd (spelled_has_no_fault value 2 fault.place fault.reason
      (objects kind) h.here),
)

pub returns-then-is_constructed-clause-fits : goal.returns-then-is_constructed-clause-fits
returns-then-is_constructed-clause-fits c = none_where_objects _ _ _
    (sym c.if-is_constructed.ensures) c.first_fault.ensures
