-- A line of `card` with a reason says nothing.
use Rattle.std.proofs.Common.{◌≡◌, ◌≢◌, ◌⊎◌, inl, inr, refl, sym, ℕ, List, Option, Some, None, subst}
use Rattle.card_trace.specs.declared.script.keyword.TableWord.{TableWord}
use Rattle.card_trace.specs.declared.script.keyword.Keyword.{Keyword}
use Rattle.card_trace.specs.declared.script.keyword.Keyword.TheVariants as keywords
use Rattle.card_trace.specs.declared.script.reason.LineReason.{LineReason}
use Rattle.card_trace.specs.declared.script.section.Section.{Section}
use Rattle.card_trace.specs.declared.script.section.Section.TheVariants as sections
use Rattle.card_trace.specs.ScriptFields.{IsHexText, IsNumberText}
use Rattle.card_trace.specs.ScriptTable.{table_word}
use Rattle.card_trace.specs.NoFields.{NoHex, NoNumber, NoMost}
use Rattle.card_trace.specs.ScriptCard.{Part, Adds, Atr, Plan, Act, Take, HandOut, Reset, Table, IsMostText, SaysPart, SaysAct, NoPart, NoAct}
use Rattle.card_trace.specs.Script.{Meaning, Builds, Runs, InTable, SaysBy}
use Rattle.card_trace.specs.CardScripts.{CardDenies, card_script}
use Rattle.card_trace.proofs.NoFieldLemmas.{not_one, no_plan, no_addition}

no_most : (fields : List (List ℕ)) (reason : LineReason) (most : Option ℕ) → NoMost fields reason
    → IsMostText fields most → ⊥
no_most fields reason None (inl wrong) none = wrong.1 none
no_most fields reason None (inr (text, one, wrong)) none = cc (one, none)
no_most fields reason (Some n) (inl wrong) (text, one, is) = wrong.2 text one
no_most fields reason (Some n) (inr why) says =
    not_one NoNumber (λ text. IsNumberText text n) fields reason (λ text wrong. wrong.1 n)
    (inr why) says

-- which keyword a table line has
abbrev keyword_of : Part → Keyword
keyword_of (Adds addition) = keywords.Adds (table_word addition)
keyword_of (Atr bytes) = keywords.Atr
keyword_of (Plan plan) = keywords.Plan

has_keyword : (part : Part) (keyword : Keyword) (fields : List (List ℕ))
    → SaysPart part keyword fields → keyword ≡ keyword_of part
has_keyword (Adds addition) keyword fields (is, says) = is
has_keyword (Atr bytes) keyword fields (is, says) = is
has_keyword (Plan plan) keyword fields (is, says) = is

of_part : (part : Part) (section : Section) (fields : List (List ℕ)) (reason : LineReason)
    → CardDenies section (keyword_of part) fields reason
    → InTable section (NoPart (keyword_of part) fields) reason
of_part (Adds addition) section fields reason why = why
of_part (Atr bytes) section fields reason why = why
of_part (Plan plan) section fields reason why = why

no_part : (part : Part) (keyword : Keyword) (fields : List (List ℕ)) (reason : LineReason)
    → NoPart (keyword_of part) fields reason → SaysPart part keyword fields → ⊥
no_part (Adds addition) keyword fields reason why (is, says) =
    no_addition fields reason addition why says
no_part (Atr bytes) keyword fields reason why (is, says) =
    not_one NoHex (λ text. IsHexText text bytes) fields reason (λ text wrong. wrong.1 bytes)
    why says
no_part (Plan plan) keyword fields reason why (is, says) = no_plan fields reason plan why says

no_act : (section : Section) (keyword : Keyword) (fields : List (List ℕ)) (reason : LineReason)
    → CardDenies section keyword fields reason → (act : Act) → SaysAct act keyword fields → ⊥
no_act section keyword fields reason why = λ act says. by_act act says
  where
    P : Keyword → Type 0
    P k = CardDenies section k fields reason

    by_act : (act : Act) → SaysAct act keyword fields → ⊥
    by_act (Take bytes) (is, says) =
        not_one NoHex (λ text. IsHexText text bytes) fields reason (λ text wrong. wrong.1 bytes)
        (subst P is why) says
    by_act (HandOut most) (is, says) = no_most fields reason most (subst P is why) says
    by_act Reset (is, none) = (subst P is why).1 none
    by_act Table (is, none) = (subst P is why).1 none

card_denied : (section : Section) (keyword : Keyword) (fields : List (List ℕ))
    (reason : LineReason) → CardDenies section keyword fields reason
    → (meaning : Meaning card_script) → SaysBy card_script section keyword fields meaning → ⊥
card_denied section keyword fields reason why (Builds part) (here, says) =
    let P : Keyword → Type 0 = λ k. CardDenies section k fields reason in
    let known = subst P (has_keyword part keyword fields says) why in
    let Q : Section → Type 0 = λ s. InTable s (NoPart (keyword_of part) fields) reason in
    no_part part keyword fields reason (subst Q here (of_part part section fields reason known))
    says
card_denied section keyword fields reason why (Runs act) says =
    no_act section keyword fields reason why act says

-- what a refused line is shown to be
abbrev pub IsDenied : Section → Keyword → List (List ℕ) → LineReason → Type 0
IsDenied section keyword fields reason = CardDenies section keyword fields reason
    × ((meaning : Meaning card_script) → SaysBy card_script section keyword fields meaning → ⊥)

both : (section : Section) (keyword : Keyword) (fields : List (List ℕ)) (reason : LineReason)
    → CardDenies section keyword fields reason → IsDenied section keyword fields reason
both section keyword fields reason why = (why, card_denied section keyword fields reason why)

-- the keyword is that of a table line
abbrev pub IsOfTable : Keyword → Type 0
IsOfTable keyword = ((word : TableWord) × (keyword ≡ keywords.Adds word))
    ⊎ ((keyword ≡ keywords.Atr) ⊎ (keyword ≡ keywords.Plan))

pub is_of_none : (keyword : Keyword) → ((word : TableWord) → keyword ≢ keywords.Adds word)
    → keyword ≢ keywords.Atr → keyword ≢ keywords.Plan → IsOfTable keyword → ⊥
is_of_none keyword adds atr plan (inl (word, is)) = adds word is
is_of_none keyword adds atr plan (inr (inl is)) = atr is
is_of_none keyword adds atr plan (inr (inr is)) = plan is

in_table : (keyword : Keyword) (fields : List (List ℕ)) (reason : LineReason)
    → IsOfTable keyword → NoPart keyword fields reason
    → CardDenies sections.Building keyword fields reason
in_table keyword fields reason of wrong = by_case of
  where
    P : Keyword → Type 0
    P k = NoPart k fields reason → CardDenies sections.Building k fields reason

    by_case : IsOfTable keyword → CardDenies sections.Building keyword fields reason
    by_case (inl (word, is)) = subst P (sym is) (λ same. same) wrong
    by_case (inr (inl is)) = subst P (sym is) (λ same. same) wrong
    by_case (inr (inr is)) = subst P (sym is) (λ same. same) wrong

pub table_line_denied : (section : Section) (keyword : Keyword) (fields : List (List ℕ))
    → IsOfTable keyword → section ≡ sections.Building → (reason : LineReason)
    → NoPart keyword fields reason → IsDenied section keyword fields reason
table_line_denied section keyword fields of here reason wrong =
    let P : Section → Type 0 = λ s. CardDenies s keyword fields reason in
    both section keyword fields reason
    (subst P (sym here) (in_table keyword fields reason of wrong))

of_act : (section : Section) (keyword : Keyword) (fields : List (List ℕ)) (reason : LineReason)
    → (IsOfTable keyword → ⊥) → NoAct keyword fields reason
    → CardDenies section keyword fields reason
of_act section (keywords.Adds word) fields reason other wrong = absurd (other (inl (word, refl)))
of_act section keywords.Atr fields reason other wrong = absurd (other (inr (inl refl)))
of_act section keywords.Plan fields reason other wrong = absurd (other (inr (inr refl)))
of_act section keyword fields reason other wrong = wrong

pub run_line_denied : (section : Section) (keyword : Keyword) (fields : List (List ℕ))
    → (IsOfTable keyword → ⊥) → (reason : LineReason) → NoAct keyword fields reason
    → IsDenied section keyword fields reason
run_line_denied section keyword fields other reason wrong =
    both section keyword fields reason (of_act section keyword fields reason other wrong)
