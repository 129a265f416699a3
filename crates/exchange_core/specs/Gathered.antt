-- How a command becomes TPDUs at T=0, and what they bring (ISO/IEC 7816-3, clause 12).
use Rattle.std.specs.Prelude.{◌≡◌, ◌≢◌, ℕ, ◌-◌, ◌<◌, min, List, [], ◌∷◌, ◌++◌, length, Option, Some, None, Bool, true, ◌==◌, nat_le, if◌then◌else◌}
use Rattle.std.specs.List.{flat_map}
use Rattle.apdu_core.specs.declared.header.Header.{Header}
use Rattle.apdu_core.specs.StatusWord.{StatusWord, count, announces, corrects}
use Rattle.apdu_core.specs.CommandBytes.{Command}
use Rattle.t0_core.specs.declared.direction.Direction.{Direction}
use Rattle.t0_core.specs.declared.direction.Direction.TheVariants.{ToCard, FromCard}
use Rattle.t0_core.specs.Dialogue.{Dialogue}
use Rattle.t0_core.specs.Meaning.{received}
use Rattle.apdu_core.specs.Shared.{get_response}
use Rattle.exchange_core.specs.declared.wanted.Wanted.{Wanted}
use Rattle.exchange_core.specs.declared.wanted.Wanted.TheVariants.{Bytes, Everything}

-- what a command with this Le wants: nothing without Le, and everything, even beyond 256 bytes,
-- with Le = 00, which means 256 (profile)
abbrev pub wanted_by : Option ℕ → Wanted
wanted_by None = Bytes 0
wanted_by (Some n) = if n == 256 then Everything else Bytes n

-- what is still wanted after `gathered` bytes
abbrev pub less : Wanted → ℕ → Wanted
less (Bytes n) gathered = Bytes (n - gathered)
less Everything gathered = Everything

abbrev pub wants_some : Wanted → Bool
wants_some (Bytes n) = nat_le 1 n
wants_some Everything = true

abbrev pub wants_at_least : ℕ → Wanted → Bool
wants_at_least k (Bytes n) = nat_le k n
wants_at_least k Everything = true

abbrev pub smaller : ℕ → Wanted → ℕ
smaller k (Bytes n) = min k n
smaller k Everything = k

-- a dialogue with this header that asks for `n` bytes
pub record Asks (header : Header) (n : ℕ) (d : Dialogue) : Type 0 where
  pub header_is : d.body.header ≡ header
  pub from_card : d.body.direction ≡ FromCard
  pub counts : count d.body.p3 ≡ n
  pub is_byte : d.body.p3 < 256

abbrev pub BeginsWith : List ℕ → List ℕ → Type 0
BeginsWith whole front = (rest : List ℕ) × (whole ≡ front ++ rest)

-- a dialogue with this header that sends these bytes, or only a first part of them
pub record SendsFrom (header : Header) (content : List ℕ) (d : Dialogue) : Type 0 where
  pub header_is : d.body.header ≡ header
  pub to_card : d.body.direction ≡ ToCard
  pub counts : d.body.p3 ≡ length content
  pub sends : BeginsWith content d.body.moved

-- The first dialogue of a command (12.2.1): in case 2 it asks for Le bytes. Otherwise it sends the
-- data, which case 1 does not have.
abbrev pub Opens : Command → Dialogue → Type 0
Opens c d = OpensBy c.content c.le where
  OpensBy : List ℕ → Option ℕ → Type 0
  OpensBy [] None = SendsFrom c.header [] d
  OpensBy [] (Some n) = Asks c.header n d
  OpensBy (b ∷ bs) le = SendsFrom c.header (b ∷ bs) d

-- what a unit begins with: the command, or a GET RESPONSE for `n` bytes
pub data Opening : Type 0 where
  By_command : (c : Command) → Opening
  By_fetch : (n : ℕ) → Opening

abbrev pub OpensWith : Opening → Dialogue → Type 0
OpensWith (By_command c) d = Opens c d
OpensWith (By_fetch n) d = Asks get_response n d

-- A unit: one dialogue, or two, if the second repeats the first with the count of a 6CXX.
pub data UnitOf : Type 0 where
  Single : (dialogue : Dialogue) → UnitOf
  Repeated : (refused repeated : Dialogue) → UnitOf

abbrev pub first_of : UnitOf → Dialogue
first_of (Single d) = d
first_of (Repeated d e) = d

abbrev pub last_of : UnitOf → Dialogue
last_of (Single d) = d
last_of (Repeated d e) = e

abbrev pub dialogues_of : UnitOf → List Dialogue
dialogues_of (Single d) = d ∷ []
dialogues_of (Repeated d e) = d ∷ e ∷ []

abbrev pub unit_data : UnitOf → List ℕ
unit_data u = flat_map received (dialogues_of u)

-- what is still wanted after a dialogue, and after a unit
abbrev pub after_dialogue : Wanted → Dialogue → Wanted
after_dialogue wanted d = less wanted (length (received d))

abbrev pub after_unit : Wanted → UnitOf → Wanted
after_unit wanted u = less wanted (length (unit_data u))

-- The count to repeat a dialogue with. If it asked for data, it is the count of 6CXX, whatever the
-- dialogue asked for, unless that exceeds what is still wanted.
abbrev pub correction_of : Direction → Wanted → Option ℕ → Option ℕ
correction_of ToCard left corrected = None
correction_of FromCard left None = None
correction_of FromCard left (Some n) = if wants_at_least n left then Some n else None

abbrev pub repeated_with : Wanted → Dialogue → Option ℕ
repeated_with wanted d = correction_of d.body.direction (after_dialogue wanted d)
    (corrects d.status)

-- a unit has two dialogues exactly if the first is repeated
abbrev pub IsUnit : Wanted → UnitOf → Type 0
IsUnit wanted (Single d) = repeated_with wanted d ≡ None
IsUnit wanted (Repeated d e) = (n : ℕ) × (repeated_with wanted d ≡ Some n) × Asks d.body.header n e

-- The count of the GET RESPONSE that follows, if one does: if something is still wanted, what is
-- announced (61XX), but no more than is wanted.
abbrev pub fetched_of : Wanted → Option ℕ → Option ℕ
fetched_of left None = None
fetched_of left (Some n) = if wants_some left then Some (smaller n left) else None

abbrev pub fetched_after : Wanted → StatusWord → Option ℕ
fetched_after left status = fetched_of left (announces status)

-- another fetch follows a fetch only if that brings data
abbrev pub BringsSome : Opening → UnitOf → Type 0
BringsSome (By_command c) u = Unit {0}
BringsSome (By_fetch n) u = unit_data u ≢ []

-- a unit after which `n` bytes are fetched
pub record IsFollowed (opening : Opening) (wanted : Wanted) (u : UnitOf) (n : ℕ) : Type 0 where
  pub opens : OpensWith opening (first_of u)
  pub is_unit : IsUnit wanted u
  pub brings : BringsSome opening u
  pub fetched : fetched_after (after_unit wanted u) (last_of u).status ≡ Some n

-- units one after another, each followed by the next; `next` opens one more, which still wants
-- `left`
abbrev pub AreFollowed : Opening → Wanted → List UnitOf → Opening → Wanted → Type 0
AreFollowed opening wanted [] next left = (next ≡ opening) × (left ≡ wanted)
AreFollowed opening wanted (u ∷ units) next left =
    (n : ℕ) × IsFollowed opening wanted u n
    × AreFollowed (By_fetch n) (after_unit wanted u) units next left

-- The units of an exchange so far: each is followed by the next, and the last may have any status.
pub record IsOpenExchange (c : Command) (units : List UnitOf) : Type 0 where
  pub before : List UnitOf
  pub last : UnitOf
  pub opening : Opening
  pub left : Wanted
  pub units_are : units ≡ before ++ last ∷ []
  pub followed : AreFollowed (By_command c) (wanted_by c.le) before opening left
  pub opens : OpensWith opening (first_of last)
  pub is_unit : IsUnit left last

-- The units of a whole exchange, their data, and the status of the last. Nothing is fetched after
-- the last.
pub record Gathers (c : Command) (units : List UnitOf) (gathered : List ℕ)
    (status : StatusWord) : Type 0 where
  pub is_open : IsOpenExchange c units
  pub ends : fetched_after (after_unit is_open.left is_open.last)
      (last_of is_open.last).status ≡ None
  pub status_is : status ≡ (last_of is_open.last).status
  pub gathered_is : gathered ≡ flat_map unit_data units

-- the number of TPDUs of the units
abbrev pub tpdus : List UnitOf → ℕ
tpdus units = length (flat_map dialogues_of units)
