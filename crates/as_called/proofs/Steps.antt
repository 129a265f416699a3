-- One more pair of an exchange of whole commands.
use Rattle.std.proofs.Common.{◌≡◌, ◌∙◌, List, [], ◌∷◌, ◌++◌, length, Some, None, Bool, true, false, refl, sym, ap, subst, arith, append-nil, append_assoc, length-append}
use Rattle.std.specs.Prelude.{if◌then◌else◌}
use Rattle.apdu_core.specs.CommandBytes.{Command}
use Rattle.exchange_core.specs.declared.wanted.Wanted.{Wanted}
use Rattle.apdu_terminal.specs.declared.stage.Stage.{Stage}
use Rattle.apdu_terminal.specs.declared.stage.Stage.TheVariants.{Going, Done, Failed}
use Rattle.apdu_terminal.specs.Apdus.{Pair, Place, Goes, Ends, GoesThrough, Suits, all_content, first_place, follow}
use Rattle.apdu_terminal.specs.ApduSide.{ApduExchangeOf, ComesTo, to_place, to_end, to_stall, to_fault, is_going, place_of}

pub goes_same : {x y : Place} → Goes x ≡ Goes y → x ≡ y
goes_same e = cc

same_place : (at x y : Place) (pairs : List Pair) → GoesThrough at pairs x → GoesThrough at pairs y
    → x ≡ y
same_place at x y [] one two = one ∙ sym two
same_place at x y (p ∷ pairs) (m, fits, goes, one) (n, suits, also, two) =
    same_place m x y pairs one
    (subst (λ (q : Place). GoesThrough q pairs y) (goes_same (sym also ∙ goes)) two)

apart : (at last : Place) (pairs : List Pair) (p : Pair) → GoesThrough at (pairs ++ p ∷ []) last
    → (mid : Place) × GoesThrough at pairs mid × Suits mid p
    × (follow mid (length p.content) p.status ≡ Goes last)
apart at last [] p (next, suits, goes, is) = (at, refl, suits, goes ∙ ap (λ x. Goes x) (sym is))
apart at last (q ∷ pairs) p (next, suits, goes, through) =
    let (mid, before, fits, on) = apart next last pairs p through in
    (mid, (next, suits, goes, before), fits, on)

last_same : (xs ys : List Pair) (x y : Pair) → xs ++ x ∷ [] ≡ ys ++ y ∷ [] → (xs ≡ ys) × (x ≡ y)
last_same [] [] x y e = (refl, cc)
last_same [] (z ∷ ys) x y e =
    absurd (omega (arith, ap length e, length-append ys (y ∷ [])))
last_same (z ∷ xs) [] x y e =
    absurd (omega (arith, ap length e, length-append xs (x ∷ [])))
last_same (z ∷ xs) (w ∷ ys) x y e =
    let head : z ≡ w = cc in
    let tail : xs ++ x ∷ [] ≡ ys ++ y ∷ [] = cc in
    let (same, last) = last_same xs ys x y tail in
    (ap (λ q. q ∷ xs) head ∙ ap (λ qs. w ∷ qs) same, last)

content_more : (pairs : List Pair) (p : Pair)
    → all_content (pairs ++ p ∷ []) ≡ all_content pairs ++ p.content
content_more [] p = append-nil p.content
content_more (q ∷ pairs) p =
    ap (λ xs. q.content ++ xs) (content_more pairs p)
    ∙ sym (append_assoc q.content (all_content pairs) p.content)

-- ---- the stage

pub due_when : (going : Bool) (c due : Command) → (if going then Some c else None) ≡ Some due
    → c ≡ due
due_when true c due e = cc
due_when false c due e = absurd (cc)

pub going_when : (s : Stage) (c due : Command) → (if is_going s then Some c else None) ≡ Some due
    → s ≡ Going
going_when Going c due e = refl
going_when (Done status) c due e = absurd (cc)
going_when Failed c due e = absurd (cc)

-- these pairs led to a next command
abbrev pub IsAt : Command → Wanted → List Pair → ApduExchangeOf → Type 0
IsAt c wanted pairs ex =
    GoesThrough (first_place c wanted) pairs (place_of ex) × (ex.gather.bytes ≡ all_content pairs)

abbrev pub AtStage : Command → Wanted → List Pair → ApduExchangeOf → Stage → Type 0
AtStage c wanted pairs ex Going = IsAt c wanted pairs ex
AtStage c wanted pairs ex other = Unit {0}

at_so : (c : Command) (wanted : Wanted) (pairs : List Pair) (ex : ApduExchangeOf)
    → ComesTo c wanted pairs ex → AtStage c wanted pairs ex ex.stage
at_so c wanted pairs ex (to_place going through gathered wanted_is number) =
    subst (AtStage c wanted pairs ex) (sym going) (through, gathered)
at_so c wanted pairs ex (to_end status ends brings number) =
    subst (AtStage c wanted pairs ex) (sym ends) tt
at_so c wanted pairs ex (to_stall fails stalls) =
    subst (AtStage c wanted pairs ex) (sym fails) tt
at_so c wanted pairs ex (to_fault fails long) =
    subst (AtStage c wanted pairs ex) (sym fails) tt

pub is_at : (c : Command) (wanted : Wanted) (pairs : List Pair) (ex : ApduExchangeOf)
    → ex.stage ≡ Going → ComesTo c wanted pairs ex → IsAt c wanted pairs ex
is_at c wanted pairs ex going comes =
    subst (AtStage c wanted pairs ex) going (at_so c wanted pairs ex comes)

-- ---- one more pair

-- what a pair leads to
abbrev pub After : ApduExchangeOf → Pair → ApduExchangeOf → Stage → Type 0
After old p new Going = (follow (place_of old) (length p.content) p.status ≡ Goes (place_of new))
    × (new.gather.bytes ≡ old.gather.bytes ++ p.content)
After old p new (Done status) = (follow (place_of old) (length p.content) p.status ≡ Ends)
    × (status ≡ p.status) × (new.gather.bytes ≡ old.gather.bytes ++ p.content)
After old p new Failed = Unit {0}

pub one_more : (c : Command) (wanted : Wanted) (pairs : List Pair) (p : Pair)
    (old new : ApduExchangeOf) → old.stage ≡ Going → ComesTo c wanted pairs old
    → ComesTo c wanted (pairs ++ p ∷ []) new → After old p new new.stage
one_more c wanted pairs p old new going comes led =
    by (is_at c wanted pairs old going comes) led
  where
    by : IsAt c wanted pairs old → ComesTo c wanted (pairs ++ p ∷ []) new
        → After old p new new.stage
    by (here, had) (to_place on through gathered wanted_is number) =
        let (mid, before, suits, goes) =
        apart (first_place c wanted) (place_of new) pairs p through in
        let same = same_place (first_place c wanted) mid (place_of old) pairs before here in
        subst (After old p new) (sym on) (
          subst (λ (x : Place). follow x (length p.content) p.status ≡ Goes (place_of new)) same
              goes,
          gathered ∙ content_more pairs p ∙ ap (λ xs. xs ++ p.content) (sym had),
        )
    by (here, had) (to_end status ends brings number) =
        let (before, last) =
        last_same brings.before pairs brings.last p (sym brings.pairs_are) in
        let same = same_place (first_place c wanted) brings.at (place_of old) pairs
        (subst (λ ps. GoesThrough (first_place c wanted) ps brings.at) before brings.through)
        here in
        subst (After old p new) (sym ends) (
          subst (λ (q : Pair). follow (place_of old) (length q.content) q.status ≡ Ends) last
              (subst (λ (x : Place). follow x (length brings.last.content) brings.last.status
              ≡ Ends) same brings.ends),
          brings.status_is ∙ ap (λ (q : Pair). q.status) last,
          brings.gathered_is ∙ content_more pairs p ∙ ap (λ xs. xs ++ p.content) (sym had),
        )
    by at (to_stall fails stalls) = subst (After old p new) (sym fails) tt
    by at (to_fault fails long) = subst (After old p new) (sym fails) tt
