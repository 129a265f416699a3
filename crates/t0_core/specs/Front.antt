-- The first characters of a dialogue, and how it continues with the next one.
use Rattle.std.specs.Prelude.{◌≡◌, ℕ, ◌-◌, ◌<◌, ◌≤◌, List, [], ◌∷◌, ◌++◌, length, false, ◌⊎◌}
use Rattle.std.specs.List.{AllByRecursion}
use Rattle.apdu_core.specs.declared.header.Header.{Header}
use Rattle.apdu_core.specs.HeaderBytes.{header_bytes, ins_is_valid}
use Rattle.apdu_core.specs.StatusWord.{IsStatusWord}
use Rattle.t0_core.specs.declared.end.End.TheVariants.{Terminal, Card}
use Rattle.t0_core.specs.declared.plan.Step.{Step}
use Rattle.t0_core.specs.declared.plan.Step.TheVariants.{Null}
use Rattle.t0_core.specs.Character.{Character, sent_by}
use Rattle.t0_core.specs.declared.direction.Direction.{Direction}
use Rattle.t0_core.specs.declared.direction.Direction.TheVariants.{ToCard, FromCard}
use Rattle.t0_core.specs.Dialogue.{Dialogue, Body, data_sender, foreseen, moves, procedure_byte, to_move, body_characters}

-- The characters so far: fewer than five of the header; or the header, segments, and data, possibly
-- without the last data of the last segment; or all that and SW1.
pub data Front : Type 0 where
  In_header : (bytes : List ℕ) → Front
  In_body : (body : Body) → Front
  After_first : (body : Body) (sw1 : ℕ) → Front

-- no characters yet
abbrev pub fresh : Front
fresh = In_header []

abbrev pub front_characters : Front → List Character
front_characters (In_header bytes) = sent_by Terminal bytes
front_characters (In_body b) = body_characters b
front_characters (After_first b sw1) = body_characters b ++ (Card, sw1) ∷ []

abbrev pub with_segment : Body → Step → Body
with_segment b s = record b { segments = b.segments ++ s ∷ [] }

abbrev pub with_moved : Body → ℕ → Body
with_moved b byte = record b { moved = b.moved ++ byte ∷ [] }

abbrev pub header_only : Header → ℕ → Direction → Body
header_only h p3 direction =
    record { header = h; p3 = p3; direction = direction; segments = []; moved = [] }

-- the segments so far have moved all their data
abbrev pub IsBetween : Body → Type 0
IsBetween b = length b.moved ≡ to_move b

-- the header continues; its fifth character settles the direction of the data
abbrev pub GoesOnInHeader : List ℕ → Character → Front → Type 0
GoesOnInHeader bytes c new = (c.0 ≡ Terminal)
    × (((length bytes < 4) × (new ≡ In_header (bytes ++ c.1 ∷ [])))
    ⊎ ((h : Header) × (direction : Direction) × (bytes ≡ header_bytes h)
    × (new ≡ In_body (header_only h c.1 direction))))

-- the current segment moves its next data character
abbrev pub MovesData : Body → Character → Front → Type 0
MovesData b c new = (length b.moved < to_move b) × (c.0 ≡ data_sender b.direction)
    × (new ≡ In_body (with_moved b c.1))

-- between segments the card starts the next one, which is a NULL if INS is invalid
abbrev pub BeginsSegment : Body → Character → Front → Type 0
BeginsSegment b c new = IsBetween b × (c.0 ≡ Card)
    × ((s : Step) × (ins_is_valid b.header.ins ≡ false → s ≡ Null)
    × (c.1 ≡ procedure_byte b.header.ins s) × (new ≡ In_body (with_segment b s)))

-- or it starts its status
abbrev pub BeginsStatus : Body → Character → Front → Type 0
BeginsStatus b c new = IsBetween b × (c.0 ≡ Card) × IsStatusWord (c.1, 0)
    × (new ≡ After_first b c.1)

-- a dialogue continues with one character
abbrev pub GoesOn : Front → Character → Front → Type 0
GoesOn (In_header bytes) c new = GoesOnInHeader bytes c new
GoesOn (In_body b) c new = MovesData b c new ⊎ BeginsSegment b c new ⊎ BeginsStatus b c new
GoesOn (After_first b sw1) c new = ⊥

-- a dialogue ends with SW2
abbrev pub Ends : Front → Character → Dialogue → Type 0
Ends (In_header bytes) c d = ⊥
Ends (In_body b) c d = ⊥
Ends (After_first b sw1) c d = (c.0 ≡ Card) × (c.1 < 256)
    × (d ≡ record { body = b; status = (sw1, c.1) })

-- the number k of data characters ends inside the last segment
abbrev pub EndInLast : List Step → ℕ → ℕ → Type 0
EndInLast [] n k = k ≡ 0
EndInLast (s ∷ []) n k = k ≤ moves s n
EndInLast (s ∷ t ∷ segments) n k =
    (moves s n ≤ k) × EndInLast (t ∷ segments) (n - moves s n) (k - moves s n)

-- the header, segments and data at the beginning of a dialogue
pub record IsBegun (b : Body) : Type 0 where
  pub in_last : EndInLast b.segments (foreseen b.direction b.p3) (length b.moved)
  pub only_nulls : ins_is_valid b.header.ins ≡ false → AllByRecursion (λ s. s ≡ Null) b.segments

-- the front begins some dialogue
abbrev pub IsFront : Front → Type 0
IsFront (In_header bytes) = length bytes < 5
IsFront (In_body b) = IsBegun b
IsFront (After_first b sw1) = IsBegun b × IsBetween b × IsStatusWord (sw1, 0)

-- from this front a dialogue continues with these characters, front by front, to its end
abbrev pub GoesThrough : Front → List Character → Dialogue → Type 0
GoesThrough front [] d = ⊥
GoesThrough front (c ∷ cs) d = (Ends front c d × (cs ≡ []))
    ⊎ ((new : Front) × GoesOn front c new × GoesThrough new cs d)

-- the data from the card among the moved ones
abbrev pub from_card : Direction → List ℕ → List ℕ
from_card ToCard moved = []
from_card FromCard moved = moved

abbrev pub brought : Front → List ℕ
brought (In_header bytes) = []
brought (In_body b) = from_card b.direction b.moved
brought (After_first b sw1) = from_card b.direction b.moved
