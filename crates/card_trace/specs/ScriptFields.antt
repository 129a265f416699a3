-- What the fields of a script's lines stand for.
use Rattle.std.specs.Prelude.{◌≡◌, ◌≢◌, ◌⊎◌, ℕ, ◌<◌, ◌≤◌, List, [], ◌∷◌, ◌++◌, length, map, replicate, slice_index, codes, Ok}
use Rattle.std.specs.Str.Parse.{IsNumeral, digits_value}
use Rattle.hex.specs.Hex.{decode_of}
use Rattle.apdu_core.specs.CommandBytes.{Command, IsCommand, command_bytes}
use Rattle.tlv_core.specs.Address.{IsAddressable}
use Rattle.t0_core.specs.declared.plan.Step.{Step}
use Rattle.t0_core.specs.declared.plan.Step.TheVariants.{Null, One, All}
use Rattle.t0_core.specs.Plan.{Course, IsCut}
use Rattle.object_card.specs.Tables.{IsAid}
use Rattle.object_card.specs.Agreed.{IsAgreed}
use Rattle.object_card.specs.Instructions.{MayReceive, MaySend}

-- HEX: an even number of hexadecimal digits, at least two, in either case
pub record IsHexText (text bytes : List ℕ) : Type 0 where
  pub is_not_empty : 0 < length text
  pub digits : decode_of text ≡ Ok bytes

-- HEX of an application identifier
pub record IsAidText (text aid : List ℕ) : Type 0 where
  pub hex : IsHexText text aid
  pub is_aid : IsAid aid

-- TAG: HEX that is one tag, which a command can name
pub record IsTagText (text tag : List ℕ) : Type 0 where
  pub hex : IsHexText text tag
  pub is_addressable : IsAddressable tag

-- N: decimal, up to 65535, without a leading zero, and so at least 1
pub record IsNumberText (text : List ℕ) (n : ℕ) : Type 0 where
  pub is_numeral : IsNumeral 10 text
  pub no_leading_zero : slice_index text 0 ≢ 0x30
  pub value : digits_value 10 text ≡ n
  pub in_range : n ≤ 65535

-- HH and N of HH*N: the byte HH N times
pub record IsRepeatedText (digits times value : List ℕ) : Type 0 where
  pub byte : ℕ
  pub n : ℕ
  pub hex : IsHexText digits (byte ∷ [])
  pub number : IsNumberText times n
  pub repeats : value ≡ replicate n byte

-- VALUE: - for no bytes, HEX, or HH*N
pub data IsValueText (text value : List ℕ) : Type 0 where
  no_bytes : text ≡ codes "-" → value ≡ [] → IsValueText text value
  plain : IsHexText text value → IsValueText text value
  repeated : (digits times : List ℕ) → text ≡ digits ++ codes "*" ++ times
      → IsRepeatedText digits times value → IsValueText text value

-- the letter of a step: n, o or a
abbrev pub letter_of : Step → ℕ
letter_of Null = 0x6E
letter_of One = 0x6F
letter_of All = 0x61

-- STEPS: - for none, or their letters
abbrev pub IsStepsText : List ℕ → List Step → Type 0
IsStepsText text steps =
    ((text ≡ codes "-") × (steps ≡ [])) ⊎ (text ≡ map letter_of steps)

-- STEPS and CUT, which is 1 to 256
pub record IsPlanText (steps_text cut_text : List ℕ) (plan : Course) : Type 0 where
  pub steps : IsStepsText steps_text plan.steps
  pub cut : IsNumberText cut_text plan.cut
  pub cut_in_range : IsCut plan.cut

-- the bytes of a command that is agreed with a card of data objects
abbrev pub AreOfAgreedCommand : List ℕ → Type 0
AreOfAgreedCommand bytes = (c : Command) × IsCommand c × (bytes ≡ command_bytes c)
    × IsAgreed MayReceive MaySend c

-- HEX of such a command
pub record IsCommandText (text bytes : List ℕ) : Type 0 where
  pub hex : IsHexText text bytes
  pub command : AreOfAgreedCommand bytes
