-- What the lines of a script of `card` say, and why they say nothing.
use Rattle.std.specs.Prelude.{◌≡◌, ℕ, List, [], Option, Some, None}
use Rattle.t0_core.specs.Plan.{Course}
use Rattle.card_trace.specs.declared.script.keyword.Keyword.{Keyword}
use Rattle.card_trace.specs.declared.script.keyword.Keyword.TheVariants as keywords
use Rattle.card_trace.specs.declared.script.card_line.CardPart.{CardPart}
use Rattle.card_trace.specs.declared.script.card_line.CardPart.TheVariants as part
use Rattle.card_trace.specs.declared.script.card_line.CardAct.{CardAct}
use Rattle.card_trace.specs.declared.script.card_line.CardAct.TheVariants as act
use Rattle.card_trace.specs.declared.script.reason.LineReason.{LineReason}
use Rattle.card_trace.specs.declared.script.reason.LineReason.TheVariants.{UnknownWord}
use Rattle.card_trace.specs.NoFields.{NoHex, NoPlan, NotEmpty, NotOne, NotTwo, NoMost, NoAddition}
use Rattle.card_trace.specs.ScriptFields.{IsHexText, IsNumberText}
use Rattle.card_trace.specs.ScriptTable.{Addition, addition_of, OneField, ArePlanFields, SaysAddition}

-- what a table line says: an addition, the answer to reset, or a plan
pub data Part : Type 0 where
  Adds : Addition → Part
  Atr : (bytes : List ℕ) → Part
  Plan : Course → Part

-- what a run line says
pub data Act : Type 0 where
  Take : (bytes : List ℕ) → Act
  HandOut : (most : Option ℕ) → Act
  Reset : Act
  Table : Act

abbrev pub part_of : {A : Type 0} → CardPart A → Part
part_of (part.Adds addition) = Adds (addition_of addition)
part_of (part.Atr bytes) = Atr bytes
part_of (part.Plan plan) = Plan plan

abbrev pub act_of : {A : Type 0} → CardAct A → Act
act_of (act.Take bytes) = Take bytes
act_of (act.HandOut most) = HandOut most
act_of act.Reset = Reset
act_of act.Table = Table

-- the field N, or no field
abbrev pub IsMostText : List (List ℕ) → Option ℕ → Type 0
IsMostText fields None = fields ≡ []
IsMostText fields (Some n) = OneField fields (λ text. IsNumberText text n)

-- the keyword and the fields of a line that says this
abbrev pub SaysPart : Part → Keyword → List (List ℕ) → Type 0
SaysPart (Adds addition) keyword fields = SaysAddition addition keyword fields
SaysPart (Atr bytes) keyword fields =
    (keyword ≡ keywords.Atr) × OneField fields (λ text. IsHexText text bytes)
SaysPart (Plan plan) keyword fields = (keyword ≡ keywords.Plan) × ArePlanFields fields plan

abbrev pub SaysAct : Act → Keyword → List (List ℕ) → Type 0
SaysAct (Take bytes) keyword fields =
    (keyword ≡ keywords.Take) × OneField fields (λ text. IsHexText text bytes)
SaysAct (HandOut most) keyword fields = (keyword ≡ keywords.HandOut) × IsMostText fields most
SaysAct Reset keyword fields = (keyword ≡ keywords.Reset) × (fields ≡ [])
SaysAct Table keyword fields = (keyword ≡ keywords.Table) × (fields ≡ [])

-- why a line with this keyword is no table line, or no run line
abbrev pub NoPart : Keyword → List (List ℕ) → LineReason → Type 0
NoPart (keywords.Adds word) fields reason = NoAddition word fields reason
NoPart keywords.Atr fields reason = NotOne NoHex fields reason
NoPart keywords.Plan fields reason = NotTwo NoPlan fields reason
NoPart keyword fields reason = reason ≡ UnknownWord

abbrev pub NoAct : Keyword → List (List ℕ) → LineReason → Type 0
NoAct keywords.Take fields reason = NotOne NoHex fields reason
NoAct keywords.HandOut fields reason = NoMost fields reason
NoAct keywords.Reset fields reason = NotEmpty fields reason
NoAct keywords.Table fields reason = NotEmpty fields reason
NoAct keyword fields reason = reason ≡ UnknownWord
