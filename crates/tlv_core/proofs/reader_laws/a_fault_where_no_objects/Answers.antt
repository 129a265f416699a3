use Rattle.std.proofs.Common.{inl, inr}
use Rattle.tlv_core.specs.PlaceLaws.{spelled_has_no_fault}
use Rattle.tlv_core.proofs.FaultFacts.{judged}
use Rattle.tlv_core.proofs.reader_laws.a_fault_where_no_objects.Goals as goal

pub returns : goal.returns
returns c = λ bytes level. (
  λ (place, reason, first) objects. spelled_has_no_fault bytes level place reason objects
      first.here,
  λ none. elim (judged bytes level) [ inl objects ↦ absurd (none objects) | inr fault ↦ fault ],
)
