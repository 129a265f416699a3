-- The commands on whose direction of data both ends agree.
use Rattle.std.specs.Prelude.{ℕ, List, [], ◌∷◌, Option, Some, None}
use Rattle.apdu_core.specs.declared.header.Header.{Header}
use Rattle.apdu_core.specs.CommandBytes.{Command}
use Rattle.apdu_core.specs.Shared.{get_response}

-- In case 2 the card never takes data under the header. In cases 1, 3 and 4 it never sends any. In
-- cases 2 and 4 it never takes data under GET RESPONSE, which may follow (ISO/IEC 7816-3, 10.3.1: a
-- header does not contain the direction).
abbrev pub IsAgreed : (Header → Type 0) → (Header → Type 0) → Command → Type 0
IsAgreed MayReceive MaySend c = AgreedBy c.content c.le where
  AgreedBy : List ℕ → Option ℕ → Type 0
  AgreedBy [] None = MaySend c.header → ⊥
  AgreedBy [] (Some n) = (MayReceive c.header → ⊥) × (MayReceive get_response → ⊥)
  AgreedBy (b ∷ bs) None = MaySend c.header → ⊥
  AgreedBy (b ∷ bs) (Some n) = (MaySend c.header → ⊥) × (MayReceive get_response → ⊥)
