-- What the table lines that `play` and `card` both have say.
use Rattle.std.specs.Prelude.{◌≡◌, ℕ, List, [], ◌∷◌}
use Rattle.t0_core.specs.Plan.{Course}
use Rattle.card_trace.specs.declared.script.keyword.TableWord.{TableWord}
use Rattle.card_trace.specs.declared.script.keyword.TableWord.TheVariants as word
use Rattle.card_trace.specs.declared.script.keyword.Keyword.{Keyword}
use Rattle.card_trace.specs.declared.script.keyword.Keyword.TheVariants as keywords
use Rattle.card_trace.specs.declared.script.table_line.TableLine.{TableLine}
use Rattle.card_trace.specs.declared.script.table_line.TableLine.TheVariants as line
use Rattle.card_trace.specs.ScriptFields.{IsAidText, IsTagText, IsValueText, IsPlanText}

-- what a table line adds: an application, or an entry of the last one
pub data Addition : Type 0 where
  App : (aid : List ℕ) → Addition
  Object : (tag value : List ℕ) → Addition
  Locked : (tag value : List ℕ) → Addition

abbrev pub addition_of : {A : Type 0} → TableLine A → Addition
addition_of (line.App aid) = App aid
addition_of (line.Object tag value) = Object tag value
addition_of (line.Locked tag value) = Locked tag value

-- there is one field, and this holds of it
abbrev pub OneField : List (List ℕ) → (List ℕ → Type 0) → Type 0
OneField fields P = (text : List ℕ) × (fields ≡ text ∷ []) × P text

-- TAG and VALUE
pub record AreEntryFields (fields : List (List ℕ)) (tag value : List ℕ) : Type 0 where
  pub tag_text : List ℕ
  pub value_text : List ℕ
  pub two : fields ≡ tag_text ∷ value_text ∷ []
  pub is_tag : IsTagText tag_text tag
  pub is_value : IsValueText value_text value

-- STEPS and CUT
pub record ArePlanFields (fields : List (List ℕ)) (plan : Course) : Type 0 where
  pub steps_text : List ℕ
  pub cut_text : List ℕ
  pub two : fields ≡ steps_text ∷ cut_text ∷ []
  pub is_plan : IsPlanText steps_text cut_text plan

-- the first word of the line that adds this, and its fields
abbrev pub table_word : Addition → TableWord
table_word (App aid) = word.App
table_word (Object tag value) = word.Object
table_word (Locked tag value) = word.Locked

abbrev pub AreTableFields : Addition → List (List ℕ) → Type 0
AreTableFields (App aid) fields = OneField fields (λ text. IsAidText text aid)
AreTableFields (Object tag value) fields = AreEntryFields fields tag value
AreTableFields (Locked tag value) fields = AreEntryFields fields tag value

-- a table line that adds this
abbrev pub SaysAddition : Addition → Keyword → List (List ℕ) → Type 0
SaysAddition addition keyword fields =
    (keyword ≡ keywords.Adds (table_word addition)) × AreTableFields addition fields
