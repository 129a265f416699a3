-- The answer to reset that the card of a script hands out before it listens.
use Rattle.std.specs.Prelude.{◌≡◌, ℕ, List, [], take, drop, Option, Some, None, is_some, true}
use Rattle.atr_core.specs.Answer.{Answer, IsAnswer, characters}
use Rattle.atr_core.specs.FirstFault.{first_fault}
use Rattle.card_trace.specs.declared.script.reason.LineReason.{LineReason}
use Rattle.card_trace.specs.declared.script.reason.LineReason.TheVariants.{BadAtr, AtrTwice}

-- All its characters, and those that are left to hand out. Both are empty for a card without one.
pub record AnswerToReset : Type 0 where
  pub all : List ℕ
  pub left : List ℕ

-- at the start, and after a reset
abbrev pub at_first : List ℕ → AnswerToReset
at_first all = record { all = all; left = all }

-- of a script with an `atr` line, or without one
abbrev pub characters_of : Option (List ℕ) → List ℕ
characters_of None = []
characters_of (Some bytes) = bytes

-- all characters, or the first `most` of them
abbrev pub up_to : Option ℕ → List ℕ → List ℕ
up_to None characters = characters
up_to (Some most) characters = take most characters

-- the characters after those
abbrev pub rest_after : Option ℕ → List ℕ → List ℕ
rest_after None characters = []
rest_after (Some most) characters = drop most characters

-- the answer after these are handed out
abbrev pub without : Option ℕ → AnswerToReset → AnswerToReset
without most answer = record { all = answer.all; left = rest_after most answer.left }

-- all of the bytes are an answer to reset
abbrev pub AreOfAnswer : List ℕ → Type 0
AreOfAnswer bytes = (a : Answer) × IsAnswer a × (bytes ≡ characters a)

-- Why a card refuses these bytes as its answer: they are no answer, with their first fault; or they
-- are one, but the card already has one.
abbrev pub RefusesAnswer : Option (List ℕ) → List ℕ → LineReason → Type 0
RefusesAnswer kept bytes (BadAtr fault) = first_fault bytes ≡ Some fault
RefusesAnswer kept bytes AtrTwice = AreOfAnswer bytes × (is_some kept ≡ true)
RefusesAnswer kept bytes _ = ⊥
