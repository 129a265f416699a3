-- What a read returns if it reads no forest.
use Rattle.std.proofs.Common.{◌≡◌, ℕ, List, ◌↔◌, Result, Ok, Err, IsErrAnd, IsErrOf}
use Rattle.tlv_core.specs.Spelling.{AreObjects}
use Rattle.tlv_core.specs.FirstFault.{IsFirstFault}
use Rattle.tlv_core.specs.declared.fault.TlvFault.{TlvFault}
use Rattle.tlv_core.specs.declared.read_fault.ReadFault.{ReadFault}
use Rattle.tlv_core.specs.declared.read_fault.ReadFault.TheVariants.{Tlv, OutOfMemory}
use Rattle.tlv_core.proofs.Agree.{first_faults_agree}
use Rattle.tlv_core.specs.PlaceLaws.{spelled_has_no_fault}

one_fault : (f g : TlvFault) → f.place ≡ g.place → f.reason ≡ g.reason → f ≡ g
one_fault f g place reason i = record { place = place i; reason = reason i }

-- the fault returned is the first one
pub fault_is_first : {X : Type 0} (bytes : List ℕ) (r : Result X ReadFault) (f : TlvFault)
    → IsErrAnd r (λ e. e ≡ Tlv f)
    → IsFirstFault bytes 1 f.place f.reason → (fault : TlvFault) → IsErrOf r (Tlv fault)
    ↔ IsFirstFault bytes 1 fault.place fault.reason
fault_is_first bytes (Ok x) f h first fault = absurd h
fault_is_first bytes (Err e) f h first fault = (
  λ is. let same : f ≡ fault = cc in rw (← same) first,
  λ other.
      let same = first_faults_agree bytes 1 f.place fault.place f.reason fault.reason first other in
      let both = one_fault f fault same.0 same.1 in cc,
)

-- running out of memory is not a fault of the bytes
pub want_is_no_fault : {X : Type 0} (bytes : List ℕ) (r : Result X ReadFault)
    → IsErrAnd r (λ e. e ≡ OutOfMemory) → AreObjects bytes 1
    → (fault : TlvFault) → IsErrOf r (Tlv fault) ↔ IsFirstFault bytes 1 fault.place fault.reason
want_is_no_fault bytes (Ok x) h objects fault = absurd h
want_is_no_fault bytes (Err e) h objects fault = (
  λ is. absurd cc,
  λ first. absurd (spelled_has_no_fault bytes 1 fault.place fault.reason objects
      first.here),
)

pub forest_is_no_fault : {X : Type 0} (bytes : List ℕ) (x : X) → AreObjects bytes 1
    → (fault : TlvFault) → IsErrOf (Ok x) (Tlv fault)
    ↔ IsFirstFault bytes 1 fault.place fault.reason
forest_is_no_fault bytes x objects fault = (
  λ is. absurd cc,
  λ first. absurd (spelled_has_no_fault bytes 1 fault.place fault.reason objects
      first.here),
)
