-- The characters of one command TPDU at T=0 (ISO/IEC 7816-3, clause 10.3).
use Rattle.std.specs.Prelude.{◌≡◌, ℕ, zero, suc, ◌+◌, ◌-◌, List, [], ◌∷◌, ◌++◌, length, take, drop, false, bit_xor}
use Rattle.std.specs.List.{AllByRecursion}
use Rattle.apdu_core.specs.declared.header.Header.{Header}
use Rattle.apdu_core.specs.HeaderBytes.{header_bytes, ins_is_valid}
use Rattle.apdu_core.specs.StatusWord.{StatusWord, IsStatusWord, count}
use Rattle.t0_core.specs.declared.end.End.{End}
use Rattle.t0_core.specs.declared.end.End.TheVariants.{Terminal, Card}
use Rattle.t0_core.specs.declared.direction.Direction.{Direction}
use Rattle.t0_core.specs.declared.direction.Direction.TheVariants.{ToCard, FromCard}
use Rattle.t0_core.specs.declared.plan.Step.{Step}
use Rattle.t0_core.specs.declared.plan.Step.TheVariants.{Null, One, All}
use Rattle.t0_core.specs.Character.{Character, sent_by}

abbrev pub data_sender : Direction → End
data_sender ToCard = Terminal
data_sender FromCard = Card

-- the number of data characters that P3 states (10.3.2); from the card 00 means 256, to the card
-- none
abbrev pub foreseen : Direction → ℕ → ℕ
foreseen ToCard p3 = p3
foreseen FromCard p3 = count p3

-- A segment is a procedure byte and the data characters that it starts (10.3.3). 60, a NULL, starts
-- none, INS xor FF the next one, and INS all that are left.
abbrev pub procedure_byte : ℕ → Step → ℕ
procedure_byte ins Null = 0x60
procedure_byte ins One = bit_xor ins 0xFF
procedure_byte ins All = ins

-- the number of data characters that it moves if `remain` are left
abbrev pub moves : Step → ℕ → ℕ
moves Null remain = 0
moves One zero = 0
moves One (suc remain) = 1
moves All remain = remain

abbrev pub all_moves : List Step → ℕ → ℕ
all_moves [] remain = 0
all_moves (s ∷ segments) remain = moves s remain + all_moves segments (remain - moves s remain)

-- the characters of the segments, which move these data
abbrev pub segment_characters : ℕ → Direction → List Step → ℕ → List ℕ → List Character
segment_characters ins direction [] remain moved = []
segment_characters ins direction (s ∷ segments) remain moved =
    (Card, procedure_byte ins s) ∷ (sent_by (data_sender direction) (take (moves s remain) moved)
    ++ segment_characters ins direction segments (remain - moves s remain)
    (drop (moves s remain) moved))

-- the characters before the status: the header, and the segments with their data
pub record Body : Type 0 where
  pub header : Header
  pub p3 : ℕ
  pub direction : Direction
  pub segments : List Step
  pub moved : List ℕ

abbrev pub body_characters : Body → List Character
body_characters b = sent_by Terminal (header_bytes b.header ++ b.p3 ∷ [])
    ++ segment_characters b.header.ins b.direction b.segments (foreseen b.direction b.p3) b.moved

-- the number of data characters that the segments move
abbrev pub to_move : Body → ℕ
to_move b = all_moves b.segments (foreseen b.direction b.p3)

pub record Dialogue : Type 0 where
  pub body : Body
  pub status : StatusWord

abbrev pub characters : Dialogue → List Character
characters d = body_characters d.body ++ sent_by Card (d.status.0 ∷ d.status.1 ∷ [])

-- The segments move exactly the data. If INS is invalid, each segment is a NULL, since 6X and 9X
-- are read as SW1.
pub record IsDialogue (d : Dialogue) : Type 0 where
  pub moved_by_segments : length d.body.moved ≡ to_move d.body
  pub is_status : IsStatusWord d.status
  pub only_nulls : ins_is_valid d.body.header.ins ≡ false
      → AllByRecursion (λ s. s ≡ Null) d.body.segments
