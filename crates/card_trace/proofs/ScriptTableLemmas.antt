-- The fields of lines, if the words are known.
use Rattle.std.proofs.Common.{◌≡◌, ℕ, List, [], ◌∷◌, sym, subst, ◌∙◌}
use Rattle.t0_core.specs.Plan.{Course}
use Rattle.card_trace.specs.ScriptFields.{IsTagText, IsValueText, IsPlanText}
use Rattle.card_trace.proofs.ScriptFieldLemmas.{same_value}
use Rattle.card_trace.specs.ScriptTable.{AreEntryFields, ArePlanFields}

pub entry_texts : (fields : List (List ℕ)) (a b tag value : List ℕ) → fields ≡ a ∷ b ∷ []
    → AreEntryFields fields tag value → IsTagText a tag × IsValueText b value
entry_texts fields a b tag value e h =
    let same : h.tag_text ∷ h.value_text ∷ [] ≡ a ∷ b ∷ [] = sym h.two ∙ e in
    let first : h.tag_text ≡ a = cc in
    let second : h.value_text ≡ b = cc in
    let P : List ℕ → Type 0 = λ text. IsTagText text tag in
    let Q : List ℕ → Type 0 = λ text. IsValueText text value in
    (subst P first h.is_tag, subst Q second h.is_value)

pub plan_texts : (fields : List (List ℕ)) (a b : List ℕ) (plan : Course) → fields ≡ a ∷ b ∷ []
    → ArePlanFields fields plan → IsPlanText a b plan
plan_texts fields a b plan e h =
    let same : h.steps_text ∷ h.cut_text ∷ [] ≡ a ∷ b ∷ [] = sym h.two ∙ e in
    let first : h.steps_text ≡ a = cc in
    let second : h.cut_text ≡ b = cc in
    let P : List ℕ → Type 0 = λ text. IsPlanText text h.cut_text plan in
    let Q : List ℕ → Type 0 = λ text. IsPlanText a text plan in
    subst Q second (subst P first h.is_plan)

-- the fields of an entry have one value
pub same_entry_value : (fields : List (List ℕ)) (s t a b : List ℕ) → AreEntryFields fields s a
    → AreEntryFields fields t b → a ≡ b
same_entry_value fields s t a b h g =
    same_value h.value_text a b h.is_value
    (entry_texts fields h.tag_text h.value_text t b h.two g).1
