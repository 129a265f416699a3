-- The lines of the characters, written one run after another.
use Rattle.std.proofs.Common.{◌≡◌, ℕ, ◌+◌, ◌<◌, List, [], ◌∷◌, ◌++◌, length, drop, get_or, refl, sym, subst, ◌∙◌, ap, add-one, drop-cons, true, false, Bool, append-nil, append_assoc, Result, Ok, Err, OnOk, nat_eq, if◌then◌else◌, is_ok, not}
use Rattle.std.specs.List.{flat_map}
use Rattle.hex.specs.Hex.{encode_upper}
use denote.Enum.Bare.{sameb}
use Rattle.t0_core.specs.contracts.end.End.{the_type}
use Rattle.t0_core.specs.declared.end.End.{End}
use Rattle.t0_core.specs.declared.end.End.TheVariants.{Terminal, Card}
use Rattle.t0_core.specs.Character.{Character, sent_by}
use Rattle.card_trace.specs.LineText.{newline}
use Rattle.card_trace.specs.TraceText.{is_same, RunOf, joined, runs_of, sign, line_of, characters_text}

same_self : (from : End) → is_same from from ≡ true
same_self Terminal = refl
same_self Card = refl

abbrev run_of : End → List ℕ → RunOf
run_of from bytes = record { from = from; bytes = bytes }

-- the next character does not belong to a run of this end
abbrev IsApart : End → List Character → Type 0
IsApart from tail = (b : ℕ) → joined from b (runs_of tail) ≡ run_of from (b ∷ []) ∷ runs_of tail

other_is_apart : (from other : End) (b : ℕ) (cs : List Character) → is_same from other ≡ false
    → IsApart from ((other, b) ∷ cs)
other_is_apart from other b cs differ x = split (runs_of cs)
  where
    next : (r : RunOf) (runs : List RunOf) (v : Bool) → is_same other r.from ≡ v
        → joined from x (joined other b (r ∷ runs)) ≡ run_of from (x ∷ [])
        ∷ joined other b (r ∷ runs)
    next r runs true e = rw (e, differ) refl
    next r runs false e = rw (e, differ) refl

    split : (runs : List RunOf)
        → joined from x (joined other b runs) ≡ run_of from (x ∷ []) ∷ joined other b runs
    split [] = rw differ refl
    split (r ∷ runs) = next r runs (is_same other r.from) refl

-- characters of one end are one run, if the next character does not belong to it
is_one_run : (from : End) (b : ℕ) (bytes : List ℕ) (tail : List Character) → IsApart from tail
    → runs_of (sent_by from (b ∷ bytes) ++ tail) ≡ run_of from (b ∷ bytes) ∷ runs_of tail
is_one_run from b [] tail apart = apart b
is_one_run from b (x ∷ bytes) tail apart =
    ap (joined from b) (is_one_run from x bytes tail apart) ∙ rw (same_self from) refl

pub run_text : (from : End) (b : ℕ) (bytes : List ℕ)
    → characters_text (sent_by from (b ∷ bytes)) ≡ line_of (run_of from (b ∷ bytes))
run_text from b bytes =
    let nothing_next : IsApart from [] = λ x. refl in
    ap characters_text (sym (append-nil (sent_by from (b ∷ bytes))))
    ∙ ap (flat_map line_of) (is_one_run from b bytes [] nothing_next)
    ∙ append-nil (line_of (run_of from (b ∷ bytes)))

-- if the other end sends next, the run's line is whole
run_ends : (from other : End) (bytes : List ℕ) (b : ℕ) (cs : List Character)
    → is_same from other ≡ false
    → characters_text (sent_by from bytes ++ (other, b) ∷ cs)
    ≡ characters_text (sent_by from bytes) ++ characters_text ((other, b) ∷ cs)
run_ends from other [] b cs differ = refl
run_ends from other (x ∷ bytes) b cs differ =
    ap (flat_map line_of)
    (is_one_run from x bytes ((other, b) ∷ cs) (other_is_apart from other b cs differ))
    ∙ ap (λ t. t ++ characters_text ((other, b) ∷ cs)) (sym (run_text from x bytes))

-- the code compares ends as the definitions do
same_ends : (a b : End) → sameb the_type a b ≡ is_same a b
same_ends Terminal Terminal = refl
same_ends Terminal Card = refl
same_ends Card Terminal = refl
same_ends Card Card = refl

-- a character joins the run
into_run : (from : End) (bytes : List ℕ) (b : ℕ) (cs : List Character)
    → sent_by from (bytes ++ b ∷ []) ++ cs ≡ sent_by from bytes ++ (from, b) ∷ cs
into_run from [] b cs = refl
into_run from (x ∷ bytes) b cs = ap (λ t. (from, x) ∷ t) (into_run from bytes b cs)

-- the character at this index
abbrev pub at_index : List Character → ℕ → Character
at_index all i = get_or all i (Terminal, 0)

drop_next : (all : List Character) (i : ℕ) → i < length all
    → drop i all ≡ at_index all i ∷ drop (i + 1) all
drop_next all i lt =
    drop-cons all i (Terminal, 0) lt ∙ ap (λ n. at_index all i ∷ drop n all) (sym (add-one i))

-- a character of the other end begins a new run
same_is_self : (a b : End) → is_same a b ≡ true → a ≡ b
same_is_self Terminal Terminal e = refl
same_is_self Terminal Card e = absurd (cc)
same_is_self Card Terminal e = absurd (cc)
same_is_self Card Card e = refl

same_turned : (a b : End) → is_same a b ≡ is_same b a
same_turned Terminal Terminal = refl
same_turned Terminal Card = refl
same_turned Card Terminal = refl
same_turned Card Card = refl

-- the written text, the run, and the characters that are left
abbrev pub whole_text : List ℕ → End → List ℕ → List Character → List ℕ
whole_text text from run left = text ++ characters_text (sent_by from run ++ left)

-- the next character joins the run
pub run_continues : (text whole run more kept : List ℕ) (from : End) (all : List Character) (i : ℕ)
    → i < length all → not (sameb the_type (at_index all i).0 from) ≡ false
    → kept ≡ run → more ≡ kept ++ (at_index all i).1 ∷ []
    → whole_text text from run (drop i all) ≡ whole
    → whole_text text from more (drop (i + 1) all) ≡ whole
run_continues text whole run more kept from all i lt same kept_is more_is so_far =
    let c = at_index all i in
    let left = drop (i + 1) all in
    let is_of = same_is_self c.0 from (sym (same_ends c.0 from) ∙ not_false _ same) in
    let Rest : List Character → Type 0 = λ cs. whole_text text from run cs ≡ whole in
    let Own : End → Type 0 = λ e. whole_text text from run ((e, c.1) ∷ left) ≡ whole in
    let own = subst Own is_of (subst Rest (drop_next all i lt) so_far) in
    rw (more_is, kept_is) (ap (λ t. text ++ characters_text t) (into_run from run c.1 left) ∙ own)
  where
    not_false : (v : Bool) → not v ≡ false → v ≡ true
    not_false true h = refl
    not_false false h = absurd (cc)

-- the run is written, and the next character begins a new one
pub run_changes : (text written whole run more none : List ℕ) (from : End) (all : List Character)
    (seen : List ℕ) (i : ℕ) → i < length all
    → not (sameb the_type (at_index all i).0 from) ≡ true → seen ≡ run
    → written ≡ text ++ characters_text (sent_by from seen) → none ≡ []
    → more ≡ none ++ (at_index all i).1 ∷ [] → whole_text text from run (drop i all) ≡ whole
    → whole_text written (at_index all i).0 more (drop (i + 1) all) ≡ whole
run_changes text written whole run more none from all seen i lt other seen_is written_is none_is
    more_is so_far =
    let c = at_index all i in
    let left = drop (i + 1) all in
    let differ = same_turned from c.0 ∙ sym (same_ends c.0 from) ∙ not_true _ other in
    let Rest : List Character → Type 0 = λ cs. whole_text text from run cs ≡ whole in
    let here = subst Rest (drop_next all i lt) so_far in
    rw (more_is, none_is, written_is, seen_is) (
    append_assoc text (characters_text (sent_by from run)) (characters_text (c ∷ left))
    ∙ ap (λ t. text ++ t) (sym (run_ends from c.0 run c.1 left differ)) ∙ here)
  where
    not_true : (v : Bool) → not v ≡ true → v ≡ false
    not_true false h = refl
    not_true true h = absurd (cc)

-- the line of the run is written
pub run_written : {T E : Type 0} (r : Result T E) (before marked digits after : List ℕ) (from : End)
    (bytes : List ℕ) → nat_eq (length bytes) 0 ≡ false → marked ≡ before ++ sign from
    → digits ≡ marked ++ encode_upper bytes
    → after ≡ (if is_ok r then digits ++ newline else digits)
    → OnOk r (after ≡ before ++ characters_text (sent_by from bytes))
run_written r before marked digits after from [] some marked_is digits_is after_is = absurd (cc)
run_written (Err e) before marked digits after from (b ∷ bytes) some marked_is digits_is after_is =
    tt
run_written (Ok x) before marked digits after from (b ∷ bytes) some marked_is digits_is after_is =
    after_is ∙ ap (λ t. t ++ newline)
    (digits_is ∙ ap (λ t. t ++ encode_upper (b ∷ bytes)) marked_is)
    ∙ append_assoc (before ++ sign from) (encode_upper (b ∷ bytes)) newline
    ∙ append_assoc before (sign from) (encode_upper (b ∷ bytes) ++ newline)
    ∙ ap (λ t. before ++ t) (sym (append_assoc (sign from) (encode_upper (b ∷ bytes)) newline)
    ∙ sym (run_text from b bytes))
