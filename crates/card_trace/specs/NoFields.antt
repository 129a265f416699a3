-- Why fields are not those of a line: the reason of the first one that is invalid.
use Rattle.std.specs.Prelude.{◌≡◌, ◌≢◌, ◌⊎◌, ℕ, ◌<◌, ◌≤◌, List, [], ◌∷◌, length}
use Rattle.apdu_core.specs.CommandBytes.{Command, IsCommand, HasForm, HasInvalidIns, command_bytes}
use Rattle.tlv_core.specs.Address.{IsAddressable}
use Rattle.t0_core.specs.Plan.{Course}
use Rattle.object_card.specs.Tables.{IsAid}
use Rattle.object_card.specs.Agreed.{IsAgreed}
use Rattle.object_card.specs.Instructions.{MayReceive, MaySend}
use Rattle.card_trace.specs.declared.script.keyword.TableWord.{TableWord}
use Rattle.card_trace.specs.declared.script.keyword.TableWord.TheVariants as word
use Rattle.card_trace.specs.declared.script.reason.LineReason.{LineReason}
use Rattle.card_trace.specs.declared.script.reason.LineReason.TheVariants.{WrongWordCount, BadHex, BadTag, BadPlan, BadNumber, BadAid, CommandTooShort, BadCommandLength, InvalidIns}
use Rattle.card_trace.specs.ScriptFields.{IsHexText, IsNumberText, IsTagText, IsValueText, IsPlanText, AreOfAgreedCommand}
use Rattle.card_trace.specs.ScriptTable.{OneField}

abbrev pub NoHex : List ℕ → LineReason → Type 0
NoHex text reason = (reason ≡ BadHex) × ((bytes : List ℕ) → ¬ IsHexText text bytes)

-- no HEX, or HEX whose bytes don't have this property
abbrev pub NoHexOf : (List ℕ → Type 0) → LineReason → List ℕ → LineReason → Type 0
NoHexOf P other text reason = NoHex text reason
    ⊎ ((reason ≡ other) × (bytes : List ℕ) × IsHexText text bytes × ¬ P bytes)

abbrev pub NoAid : List ℕ → LineReason → Type 0
NoAid text reason = NoHexOf IsAid BadAid text reason

abbrev pub NoTag : List ℕ → LineReason → Type 0
NoTag text reason = NoHexOf IsAddressable BadTag text reason

abbrev pub NoValue : List ℕ → LineReason → Type 0
NoValue text reason = (reason ≡ BadHex) × ((value : List ℕ) → ¬ IsValueText text value)

abbrev pub NoNumber : List ℕ → LineReason → Type 0
NoNumber text reason = (reason ≡ BadNumber) × ((n : ℕ) → ¬ IsNumberText text n)

abbrev pub NoPlan : List ℕ → List ℕ → LineReason → Type 0
NoPlan steps cut reason = (reason ≡ BadPlan) × ((plan : Course) → ¬ IsPlanText steps cut plan)

-- the bytes are no command, or one that is not agreed
pub data IsNotAgreed (bytes : List ℕ) : LineReason → Type 0 where
  too_short : length bytes < 4 → IsNotAgreed bytes CommandTooShort
  no_form : 4 ≤ length bytes → ¬ HasForm bytes → IsNotAgreed bytes BadCommandLength
  invalid_ins : (c : Command) → HasInvalidIns c → bytes ≡ command_bytes c
      → IsNotAgreed bytes InvalidIns
  another_case : (c : Command) → IsCommand c → bytes ≡ command_bytes c
      → ¬ IsAgreed MayReceive MaySend c → IsNotAgreed bytes BadCommandLength

abbrev pub NoCommand : List ℕ → LineReason → Type 0
NoCommand text reason = NoHex text reason
    ⊎ ((bytes : List ℕ) × IsHexText text bytes × IsNotAgreed bytes reason
    × ¬ AreOfAgreedCommand bytes)

-- the line has fields, and may have no field
abbrev pub NotEmpty : List (List ℕ) → LineReason → Type 0
NotEmpty fields reason = (reason ≡ WrongWordCount) × (fields ≢ [])

-- not one field, or for this reason not the one
abbrev pub NotOne : (List ℕ → LineReason → Type 0) → List (List ℕ) → LineReason → Type 0
NotOne P fields reason = ((reason ≡ WrongWordCount) × ((text : List ℕ) → fields ≢ text ∷ []))
    ⊎ OneField fields (λ text. P text reason)

abbrev pub NotTwo : (List ℕ → List ℕ → LineReason → Type 0) → List (List ℕ) → LineReason → Type 0
NotTwo P fields reason =
    ((reason ≡ WrongWordCount) × ((first second : List ℕ) → fields ≢ first ∷ second ∷ []))
    ⊎ ((first second : List ℕ) × (fields ≡ first ∷ second ∷ []) × P first second reason)

-- TAG and VALUE, from the left
abbrev pub NoEntry : List (List ℕ) → LineReason → Type 0
NoEntry fields reason = NotTwo (λ tag_text value_text reason. NoTag tag_text reason
    ⊎ ((tag : List ℕ) × IsTagText tag_text tag × NoValue value_text reason)) fields reason

-- the field N, or no field
abbrev pub NoMost : List (List ℕ) → LineReason → Type 0
NoMost fields reason =
    ((reason ≡ WrongWordCount) × (fields ≢ []) × ((text : List ℕ) → fields ≢ text ∷ []))
    ⊎ OneField fields (λ text. NoNumber text reason)

-- the fields of a table line that `play` and `card` both have
abbrev pub NoAddition : TableWord → List (List ℕ) → LineReason → Type 0
NoAddition word.App fields reason = NotOne NoAid fields reason
NoAddition word.Object fields reason = NoEntry fields reason
NoAddition word.Locked fields reason = NoEntry fields reason
