-- Faults at the front of bytes.
use Rattle.std.proofs.Common.{ℕ, List, [], refl, arith}
use Rattle.tlv_core.specs.Place.{at_front}
use Rattle.tlv_core.specs.FirstFault.{FailsFor, IsAtObject, IsFirstFault}
use Rattle.tlv_core.specs.declared.fault.Reason.{Reason}

-- A fault at the front is the first fault.
pub first_here : (bytes : List ℕ) (level : ℕ) (reason : Reason) → IsAtObject bytes
    → FailsFor bytes level reason
    → IsFirstFault bytes level 0 reason
first_here bytes level reason object fails = record {
  here = record {
    left = bytes;
    depth = level;
    path = [];
    reached = at_front refl refl refl refl;
    at_object = object;
    fails = fails;
  };
  none_before = λ p r f. omega arith;
}
