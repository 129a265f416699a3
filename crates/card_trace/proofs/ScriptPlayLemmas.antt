-- A line of `play` with a reason says nothing.
use Rattle.std.proofs.Common.{◌≡◌, ◌≢◌, inl, inr, refl, sym, ℕ, ◌≤◌, ◌<◌, List, length, arith, ap, subst}
use Rattle.object_card.specs.OneStep.{Operation, Select, Get, Put}
use Rattle.card_terminal.specs.declared.operation.TheConstants.{PUT_LIMIT}
use Rattle.card_trace.specs.declared.script.keyword.TableWord.{TableWord}
use Rattle.card_trace.specs.declared.script.keyword.Keyword.{Keyword}
use Rattle.card_trace.specs.declared.script.keyword.Keyword.TheVariants as keywords
use Rattle.card_trace.specs.declared.script.reason.LineReason.{LineReason}
use Rattle.card_trace.specs.declared.script.section.Section.{Section}
use Rattle.card_trace.specs.declared.script.section.Section.TheVariants as sections
use Rattle.card_trace.specs.ScriptFields.{IsAidText, IsTagText, IsCommandText}
use Rattle.card_trace.specs.ScriptTable.{AreEntryFields, table_word}
use Rattle.card_trace.specs.NoFields.{NoAid, NoTag, NoCommand, NoAddition}
use Rattle.card_trace.specs.ScriptPlay.{Act, Plan, Run, Send, Reset, Table, NoOperation, NoAct, SaysAct}
use Rattle.card_trace.specs.Script.{Meaning, Builds, Runs, InTable, SaysBy}
use Rattle.card_trace.specs.Scripts.{PlayDenies, play_script}
use Rattle.card_trace.proofs.ScriptTableLemmas.{same_entry_value}
use Rattle.card_trace.proofs.NoFieldLemmas.{no_aid, no_tag, no_command, not_one, no_entry, no_plan, no_addition}

no_put : (fields : List (List ℕ)) (reason : LineReason) (tag value : List ℕ)
    → NoOperation keywords.Put fields reason → AreEntryFields fields tag value
    → length value ≤ PUT_LIMIT → ⊥
no_put fields reason tag value (inl wrong) h fits = no_entry fields reason tag value wrong h
no_put fields reason tag value (inr (is, t, v, g, long)) h fits =
    let same = same_entry_value fields tag t value v h g in
    omega (arith, fits, long, ap (λ x. length x) same)

no_act : (section : Section) (keyword : Keyword) (fields : List (List ℕ)) (reason : LineReason)
    → PlayDenies section keyword fields reason → (act : Act) → SaysAct act keyword fields → ⊥
no_act section keyword fields reason why = λ act says. by_act act says
  where
    P : Keyword → Type 0
    P k = PlayDenies section k fields reason

    by_act : (act : Act) → SaysAct act keyword fields → ⊥
    by_act (Plan plan) (is, says) = no_plan fields reason plan (subst P is why) says
    by_act (Run (Select aid)) (is, says) =
        not_one NoAid (λ text. IsAidText text aid) fields reason (λ text. no_aid text reason aid)
        (subst P is why) says
    by_act (Run (Get tag)) (is, says) =
        not_one NoTag (λ text. IsTagText text tag) fields reason (λ text. no_tag text reason tag)
        (subst P is why) says
    by_act (Run (Put tag value)) (is, says, fits) =
        no_put fields reason tag value (subst P is why) says fits
    by_act (Send bytes) (is, says) =
        not_one NoCommand (λ text. IsCommandText text bytes) fields reason
        (λ text. no_command text reason bytes) (subst P is why) says
    by_act Reset (is, none) = (subst P is why).1 none
    by_act Table (is, none) = (subst P is why).1 none

play_denied : (section : Section) (keyword : Keyword) (fields : List (List ℕ))
    (reason : LineReason) → PlayDenies section keyword fields reason
    → (meaning : Meaning play_script) → SaysBy play_script section keyword fields meaning → ⊥
play_denied section keyword fields reason why (Builds part) (here, says) =
    let P : Keyword → Type 0 = λ k. PlayDenies section k fields reason in
    let Q : Section → Type 0 = λ s. InTable s (NoAddition (table_word part) fields) reason in
    no_addition fields reason part (subst Q here (subst P says.0 why)) says.1
play_denied section keyword fields reason why (Runs act) says =
    no_act section keyword fields reason why act says

-- what a refused line is shown to be
abbrev pub IsDenied : Section → Keyword → List (List ℕ) → LineReason → Type 0
IsDenied section keyword fields reason = PlayDenies section keyword fields reason
    × ((meaning : Meaning play_script) → SaysBy play_script section keyword fields meaning → ⊥)

both : (section : Section) (keyword : Keyword) (fields : List (List ℕ)) (reason : LineReason)
    → PlayDenies section keyword fields reason → IsDenied section keyword fields reason
both section keyword fields reason why = (why, play_denied section keyword fields reason why)

pub table_line_denied : (section : Section) (keyword : Keyword) (word : TableWord)
    (fields : List (List ℕ)) → keyword ≡ keywords.Adds word → section ≡ sections.Building
    → (reason : LineReason) → NoAddition word fields reason
    → IsDenied section keyword fields reason
table_line_denied section keyword word fields is here reason wrong =
    let P : Section → Type 0 = λ s. InTable s (NoAddition word fields) reason in
    let Q : Keyword → Type 0 = λ k. PlayDenies section k fields reason in
    both section keyword fields reason (subst Q (sym is) (subst P (sym here) wrong))

of_act : (section : Section) (keyword : Keyword) (fields : List (List ℕ)) (reason : LineReason)
    → ((word : TableWord) → keyword ≢ keywords.Adds word) → NoAct keyword fields reason
    → PlayDenies section keyword fields reason
of_act section (keywords.Adds word) fields reason other wrong = absurd (other word refl)
of_act section keyword fields reason other wrong = wrong

pub run_line_denied : (section : Section) (keyword : Keyword) (fields : List (List ℕ))
    → ((word : TableWord) → keyword ≢ keywords.Adds word) → (reason : LineReason)
    → NoAct keyword fields reason → IsDenied section keyword fields reason
run_line_denied section keyword fields other reason wrong =
    both section keyword fields reason (of_act section keyword fields reason other wrong)
