-- What the run lines of a script of `play` say, and why they say nothing.
use Rattle.std.specs.Prelude.{◌≡◌, ◌⊎◌, ℕ, ◌<◌, ◌≤◌, List, [], length}
use Rattle.t0_core.specs.Plan.{Course}
use Rattle.object_card.specs.OneStep.{Operation, Select, Get, Put}
use Rattle.card_terminal.specs.declared.operation.TheConstants.{PUT_LIMIT}
use Rattle.card_terminal.specs.Operations.{operation_of}
use Rattle.card_trace.specs.declared.script.keyword.Keyword.{Keyword}
use Rattle.card_trace.specs.declared.script.keyword.Keyword.TheVariants as keywords
use Rattle.card_trace.specs.declared.script.play_line.PlayAct.{PlayAct}
use Rattle.card_trace.specs.declared.script.play_line.PlayAct.TheVariants as act
use Rattle.card_trace.specs.declared.script.reason.LineReason.{LineReason}
use Rattle.card_trace.specs.declared.script.reason.LineReason.TheVariants.{UnknownWord, ValueTooLong}
use Rattle.card_trace.specs.NoFields.{NoAid, NoTag, NoPlan, NoCommand, NotEmpty, NotOne, NotTwo, NoEntry}
use Rattle.card_trace.specs.ScriptFields.{IsAidText, IsTagText, IsCommandText}
use Rattle.card_trace.specs.ScriptTable.{OneField, AreEntryFields, ArePlanFields}

-- what a run line says
pub data Act : Type 0 where
  Plan : Course → Act
  Run : Operation → Act
  Send : (command : List ℕ) → Act
  Reset : Act
  Table : Act

abbrev pub act_of : {A : Type 0} → PlayAct A → Act
act_of (act.Plan plan) = Plan plan
act_of (act.Run operation) = Run (operation_of operation)
act_of (act.Send command) = Send command
act_of act.Reset = Reset
act_of act.Table = Table

-- The keyword and the fields of an operation. The value of a put keeps to its limit.
abbrev pub SaysOperation : Operation → Keyword → List (List ℕ) → Type 0
SaysOperation (Select aid) keyword fields =
    (keyword ≡ keywords.Select) × OneField fields (λ text. IsAidText text aid)
SaysOperation (Get tag) keyword fields =
    (keyword ≡ keywords.Get) × OneField fields (λ text. IsTagText text tag)
SaysOperation (Put tag value) keyword fields =
    (keyword ≡ keywords.Put) × AreEntryFields fields tag value × (length value ≤ PUT_LIMIT)

-- the keyword and the fields of a line that says this
abbrev pub SaysAct : Act → Keyword → List (List ℕ) → Type 0
SaysAct (Plan plan) keyword fields = (keyword ≡ keywords.Plan) × ArePlanFields fields plan
SaysAct (Run operation) keyword fields = SaysOperation operation keyword fields
SaysAct (Send command) keyword fields =
    (keyword ≡ keywords.Send) × OneField fields (λ text. IsCommandText text command)
SaysAct Reset keyword fields = (keyword ≡ keywords.Reset) × (fields ≡ [])
SaysAct Table keyword fields = (keyword ≡ keywords.Table) × (fields ≡ [])

-- Why a line with this keyword is no operation. The limit of a put comes after its fields.
abbrev pub NoOperation : Keyword → List (List ℕ) → LineReason → Type 0
NoOperation keywords.Select fields reason = NotOne NoAid fields reason
NoOperation keywords.Get fields reason = NotOne NoTag fields reason
NoOperation keywords.Put fields reason = NoEntry fields reason ⊎ ((reason ≡ ValueTooLong)
    × (tag value : List ℕ) × AreEntryFields fields tag value × (PUT_LIMIT < length value))
NoOperation keyword fields reason = reason ≡ UnknownWord

-- why it is no run line
abbrev pub NoAct : Keyword → List (List ℕ) → LineReason → Type 0
NoAct keywords.Plan fields reason = NotTwo NoPlan fields reason
NoAct keywords.Send fields reason = NotOne NoCommand fields reason
NoAct keywords.Reset fields reason = NotEmpty fields reason
NoAct keywords.Table fields reason = NotEmpty fields reason
NoAct keyword fields reason = NoOperation keyword fields reason
