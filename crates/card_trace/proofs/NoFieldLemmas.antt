-- Fields with a reason are not those of a line.
use Rattle.std.proofs.Common.{◌≡◌, ◌⊎◌, inl, inr, ℕ, List, [], ◌∷◌, sym, subst, ◌∙◌}
use Rattle.t0_core.specs.Plan.{Course}
use Rattle.tlv_core.specs.Address.{IsAddressable}
use Rattle.object_card.specs.Tables.{IsAid}
use Rattle.card_trace.specs.declared.script.keyword.TableWord.{TableWord}
use Rattle.card_trace.specs.declared.script.reason.LineReason.{LineReason}
use Rattle.card_trace.specs.declared.script.reason.LineReason.TheVariants.{BadAid, BadTag}
use Rattle.card_trace.specs.ScriptFields.{IsHexText, IsAidText, IsTagText, IsValueText, IsCommandText, AreOfAgreedCommand}
use Rattle.card_trace.specs.ScriptTable.{Addition, App, Object, Locked, OneField, AreEntryFields, ArePlanFields, AreTableFields, table_word}
use Rattle.card_trace.specs.NoFields.{NoHexOf, NoAid, NoTag, NoValue, NoPlan, NoCommand, NotOne, NotTwo, NoEntry, NoAddition}
use Rattle.card_trace.proofs.ScriptFieldLemmas.{same_bytes}
use Rattle.card_trace.proofs.ScriptTableLemmas.{entry_texts, plan_texts}

no_hex_of : (P : List ℕ → Type 0) (other : LineReason) (text : List ℕ) (reason : LineReason)
    → NoHexOf P other text reason → (bytes : List ℕ) → IsHexText text bytes → P bytes → ⊥
no_hex_of P other text reason (inl wrong) bytes h holds = wrong.1 bytes h
no_hex_of P other text reason (inr (is, found, g, not)) bytes h holds =
    not (subst P (same_bytes text bytes found h g) holds)

pub no_aid : (text : List ℕ) (reason : LineReason) (aid : List ℕ) → NoAid text reason
    → IsAidText text aid → ⊥
no_aid text reason aid wrong h = no_hex_of IsAid BadAid text reason wrong aid h.hex h.is_aid

pub no_tag : (text : List ℕ) (reason : LineReason) (tag : List ℕ) → NoTag text reason
    → IsTagText text tag → ⊥
no_tag text reason tag wrong h =
    no_hex_of IsAddressable BadTag text reason wrong tag h.hex h.is_addressable

pub no_command : (text : List ℕ) (reason : LineReason) (bytes : List ℕ) → NoCommand text reason
    → IsCommandText text bytes → ⊥
no_command text reason bytes (inl wrong) h = wrong.1 bytes h.hex
no_command text reason bytes (inr (found, g, why, not)) h =
    not (subst AreOfAgreedCommand (same_bytes text bytes found h.hex g) h.command)

pub not_one : (P : List ℕ → LineReason → Type 0) (Q : List ℕ → Type 0) (fields : List (List ℕ))
    (reason : LineReason) → ((text : List ℕ) → P text reason → Q text → ⊥)
    → NotOne P fields reason → OneField fields Q → ⊥
not_one P Q fields reason none (inl wrong) (text, is, holds) = wrong.1 text is
not_one P Q fields reason none (inr (first, one, why)) (text, is, holds) =
    let same : first ∷ [] ≡ text ∷ [] = sym one ∙ is in
    let equal : first ≡ text = cc in
    let R : List ℕ → Type 0 = λ t. P t reason in
    none text (subst R equal why) holds

pub no_entry : (fields : List (List ℕ)) (reason : LineReason) (tag value : List ℕ)
    → NoEntry fields reason → AreEntryFields fields tag value → ⊥
no_entry fields reason tag value (inl wrong) h = wrong.1 h.tag_text h.value_text h.two
no_entry fields reason tag value (inr (a, b, is, why)) h =
    of_texts why (entry_texts fields a b tag value is h)
  where
    of_texts : (NoTag a reason ⊎ ((t : List ℕ) × IsTagText a t × NoValue b reason))
        → IsTagText a tag × IsValueText b value → ⊥
    of_texts (inl wrong) both = no_tag a reason tag wrong both.0
    of_texts (inr (t, is_tag, wrong)) both = wrong.1 value both.1

pub no_plan : (fields : List (List ℕ)) (reason : LineReason) (plan : Course)
    → NotTwo NoPlan fields reason → ArePlanFields fields plan → ⊥
no_plan fields reason plan (inl wrong) h = wrong.1 h.steps_text h.cut_text h.two
no_plan fields reason plan (inr (a, b, is, wrong)) h =
    wrong.1 plan (plan_texts fields a b plan is h)

pub no_addition : (fields : List (List ℕ)) (reason : LineReason) (addition : Addition)
    → NoAddition (table_word addition) fields reason → AreTableFields addition fields → ⊥
no_addition fields reason (App aid) why says =
    not_one NoAid (λ text. IsAidText text aid) fields reason (λ text. no_aid text reason aid) why
    says
no_addition fields reason (Object tag value) why says = no_entry fields reason tag value why says
no_addition fields reason (Locked tag value) why says = no_entry fields reason tag value why says
