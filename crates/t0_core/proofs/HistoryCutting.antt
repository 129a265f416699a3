-- Events are cut into dialogues and resets in one way, except for a direction that nobody saw.
use Rattle.std.proofs.Common.{◌≡◌, ℕ, ◌<◌, List, [], ◌∷◌, ◌++◌, refl, sym, subst, ◌∙◌, ap, inl, inr, ◌⊎◌, lit<, append-nil, append_assoc, Option, Some, None}
use Rattle.std.specs.List.{AllByRecursion, flat_map}
use Rattle.std.proofs.lemmas.List.{append_cancel_left}
use Rattle.t0_core.specs.declared.plan.Step.{Step}
use Rattle.t0_core.specs.declared.direction.Direction.{Direction}
use Rattle.t0_core.specs.declared.heard.Heard.{Heard}
use Rattle.t0_core.specs.declared.heard.Heard.TheVariants as heard
use Rattle.t0_core.specs.Character.{Character}
use Rattle.t0_core.specs.Dialogue.{Dialogue, characters}
use Rattle.t0_core.specs.Front.{Front, In_header, In_body, After_first, GoesOn, Ends, GoesThrough, fresh}
use Rattle.t0_core.specs.History.{Event, Reset, Item, Whole, Cut_off, IsPart, IsItem, IsUnderPlan, AreAlike, AreAlikeInTurn, IsByteEvent, events_of, passed, Passed}
use Rattle.t0_core.specs.WholeLaws.{goes_through}
use Rattle.t0_core.specs.Plan.{Course}
use Rattle.t0_core.specs.TapSide.{Place, TapStandsAt, Shows, IsRead, Makes, Concludes, After_sw1, afresh, heard_at, after_hearing}
use Rattle.t0_core.proofs.TapLineLemmas.{is_of, has_its_byte, takes_on, closes, follows_read}

-- ---- a tap hears the same of both

-- the segments and the data of a front
abbrev so_far : Front → List Step × List ℕ
so_far (In_header bytes) = ([], [])
so_far (In_body b) = (b.segments, b.moved)
so_far (After_first b sw1) = (b.segments, b.moved)

abbrev in_all : Dialogue → List Step × List ℕ
in_all d = (d.body.segments, d.body.moved)

-- the same after what a character was
abbrev and_then : Heard → ℕ → List Step × List ℕ → List Step × List ℕ
and_then (heard.Procedure step) byte so = (so.0 ++ step ∷ [], so.1)
and_then (heard.Data way) byte so = (so.0, so.1 ++ byte ∷ [])
and_then _ byte so = so

makes_so : (h : Heard) (front new : Front) (c : Character) → GoesOn front c new
    → Makes h front c new → so_far new ≡ and_then h c.1 (so_far front)
makes_so heard.Header (In_header bytes) new c (way, inl (short, new_is)) makes = ap so_far new_is
makes_so heard.Header (In_header bytes) new c (way, inr (h, direction, whole, new_is)) makes =
    ap so_far new_is
makes_so heard.Header (In_body b) new c goes (bytes, is) = absurd (cc)
makes_so heard.Header (After_first b sw1) new c goes (bytes, is) = absurd (cc)
makes_so (heard.Procedure step) front new c goes (b, is, new_is) = rw (is, new_is) refl
makes_so (heard.Data way) front new c goes (b, is, same, new_is) = rw (is, new_is) refl
makes_so heard.FirstStatus front new c goes (b, is, new_is) = rw (is, new_is) refl
makes_so (heard.SecondStatus said status) front new c goes makes = absurd makes

ends_so : (front : Front) (c : Character) (d : Dialogue) → Ends front c d
    → so_far front ≡ in_all d
ends_so (In_header bytes) c d ends = absurd ends
ends_so (In_body b) c d ends = absurd ends
ends_so (After_first b sw1) c d ends = rw (ends.2) refl

-- a dialogue that ends does not continue
no_end : (place : Place) (f g new : Front) (c k : Character) (d : Dialogue) → TapStandsAt place f
    → TapStandsAt place g → Ends f c d → GoesOn g k new → ⊥
no_end place (In_header bytes) g new c k d at by ends goes = ends
no_end place (In_body b) g new c k d at by ends goes = ends
no_end (After_sw1 said sw1) (After_first b first) (After_first x second) new c k d at by ends goes =
    goes
no_end (After_sw1 said sw1) (After_first b first) g new c k d at by ends goes = absurd by
no_end _ _ _ _ _ _ _ at _ _ _ = absurd at

seen_way : (seen : Option Direction) (x y : Direction) (m n : List ℕ) → Shows seen x m
    → Shows seen y n → (x ≡ y) ⊎ (m ≡ [])
seen_way None x y m n is also = inr is
seen_way (Some way) x y m n is also = inl (sym is.0 ∙ also.0)

both_conclude : (h : Heard) (d e : Dialogue) → Concludes h d → Concludes h e → in_all d ≡ in_all e
    → AreAlike d e
both_conclude (heard.SecondStatus said status) d e (says, is) (too, also) same = record {
  same_header = says.header_is ∙ sym too.header_is;
  same_p3 = says.p3_is ∙ sym too.p3_is;
  same_segments = ap (λ (so : List Step × List ℕ). so.0) same;
  same_moved = ap (λ (so : List Step × List ℕ). so.1) same;
  same_status = is ∙ sym also;
  same_direction = seen_way said.direction d.body.direction e.body.direction d.body.moved
      e.body.moved says.shows too.shows;
}
both_conclude _ _ _ is _ _ = absurd is

off_both : (c k : Character) (es fs : List Event) → Passed c ∷ es ≡ Passed k ∷ fs
    → (k ≡ c) × (es ≡ fs)
off_both c k es fs e = (cc, cc)

module _ (d e : Dialogue) (read : IsRead d.body) (too : IsRead e.body)
    (small : d.body.header.ins < 256) (es fs : List Event) where
  alike : (place : Place) (f g : Front) (cs ds : List Character) → TapStandsAt place f
      → TapStandsAt place g → so_far f ≡ so_far g → GoesThrough f cs d → GoesThrough g ds e
      → passed cs ++ es ≡ passed ds ++ fs → AreAlike d e × (es ≡ fs)
  alike place f g [] ds at by same on also equal = absurd on
  alike place f g (c ∷ cs) [] at by same on also equal = absurd also
  alike place f g (c ∷ cs) (k ∷ ds) at by same (inl (ends, none)) (inr (other, also, on)) equal =
      absurd (no_end place f g other c k d at by ends also)
  alike place f g (c ∷ cs) (k ∷ ds) at by same (inr (new, goes, on)) (inl (ends, none)) equal =
      absurd (no_end place g f new k c e by at ends goes)
  alike place f g (c ∷ cs) (k ∷ ds) at by same (inl (ends, none)) (inl (also, done)) equal =
      let off = off_both c k (passed cs ++ es) (passed ds ++ fs) equal in
      let P : Character → Type 0 = λ x. Ends g x e in
      let closed = subst P off.0 also in (
        both_conclude (heard_at place c.0 c.1) d e (closes place c.0 c.1 f d at ends).concludes
            (closes place c.0 c.1 g e by closed).concludes
            (sym (ends_so f c d ends) ∙ same ∙ ends_so g c e closed),
        ap (λ xs. passed xs ++ es) (sym none) ∙ off.1 ∙ ap (λ xs. passed xs ++ fs) done,
      )
  alike place f g (c ∷ cs) (k ∷ ds) at by same (inr (new, goes, on)) (inr (other, also, through))
      equal =
      let off = off_both c k (passed cs ++ es) (passed ds ++ fs) equal in
      let P : Character → Type 0 = λ x. GoesOn g x other in
      let went = subst P off.0 also in
      let heard = heard_at place c.0 c.1 in
      let byte = has_its_byte place f d at (is_of (c ∷ cs) f d read (inr (new, goes, on))) small in
      let one = takes_on cs place f new c d byte at goes on read in
      let two = takes_on ds place g other c e byte by went through too in
      alike (after_hearing place c.0 c.1) new other cs ds one.stands two.stands
      (makes_so heard f new c goes one.makes ∙ ap (and_then heard c.1) same
      ∙ sym (makes_so heard g other c went two.makes)) on through off.1

-- no dialogue that follows a plan begins another one
same_dialogue : (d e : Dialogue) (p q : Course) (es fs : List Event) → IsUnderPlan d p
    → IsUnderPlan e q → d.body.header.ins < 256
    → passed (characters d) ++ es ≡ passed (characters e) ++ fs → AreAlike d e × (es ≡ fs)
same_dialogue d e p q es fs is also small equal =
    alike d e (follows_read d p is.is_dialogue is.follows)
    (follows_read e q also.is_dialogue also.follows) small es fs afresh fresh fresh (characters d)
    (characters e) (refl, lit< tt) (refl, lit< tt) refl (goes_through d is.is_dialogue)
    (goes_through e also.is_dialogue) equal

-- ---- events

-- the characters before the first reset
abbrev heard_in : List Event → List Character
heard_in [] = []
heard_in (Passed c ∷ es) = c ∷ heard_in es
heard_in (Reset ∷ es) = []

heard_passed : (cs : List Character) (es : List Event)
    → heard_in (passed cs ++ es) ≡ cs ++ heard_in es
heard_passed [] es = refl
heard_passed (c ∷ cs) es = ap (λ xs. c ∷ xs) (heard_passed cs es)

heard_part : (part : List Character) (es : List Event) → heard_in es ≡ []
    → heard_in (passed part ++ es) ≡ part
heard_part part es none =
    heard_passed part es ∙ ap (λ cs. part ++ cs) none ∙ append-nil part

-- the parts before a reset, or before the end, are equal
same_part : (part other : List Character) (es fs : List Event) → heard_in es ≡ []
    → heard_in fs ≡ [] → passed part ++ es ≡ passed other ++ fs → (part ≡ other) × (es ≡ fs)
same_part part other es fs none void equal =
    let same : part ≡ other =
    sym (heard_part part es none) ∙ ap heard_in equal ∙ heard_part other fs void in (
      same,
      append_cancel_left (passed part) es fs (equal ∙ ap (λ cs. passed cs ++ fs) (sym same)),
    )

all_after : {A : Type 0} (P : A → Type 0) (xs ys : List A) → AllByRecursion P (xs ++ ys)
    → AllByRecursion P ys
all_after P [] ys all = all
all_after P (x ∷ xs) ys all = all_after P xs ys all.1

abbrev events_in : List Item → List Character → List Event
events_in items part = flat_map events_of items ++ passed part

-- the first characters of events, and what comes after them
abbrev first_of : List Item → List Character → List Character
first_of [] part = part
first_of (Whole d ∷ items) part = characters d
first_of (Cut_off cut ∷ items) part = cut

abbrev left_of : List Item → List Character → List Event
left_of [] part = []
left_of (Whole d ∷ items) part = events_in items part
left_of (Cut_off cut ∷ items) part = Reset ∷ events_in items part

begins_with : (items : List Item) (part : List Character)
    → events_in items part ≡ passed (first_of items part) ++ left_of items part
begins_with [] part = sym (append-nil (passed part))
begins_with (Whole d ∷ items) part =
    append_assoc (passed (characters d)) (flat_map events_of items) (passed part)
begins_with (Cut_off cut ∷ items) part =
    append_assoc (passed cut ++ Reset ∷ []) (flat_map events_of items) (passed part)
    ∙ append_assoc (passed cut) (Reset ∷ []) (events_in items part)

begin_alike : (items others : List Item) (part other : List Character)
    → events_in items part ≡ events_in others other
    → passed (first_of items part) ++ left_of items part
    ≡ passed (first_of others other) ++ left_of others other
begin_alike items others part other e =
    sym (begins_with items part) ∙ e ∙ begins_with others other

abbrev AllBytes : List Event → Type 0
AllBytes es = AllByRecursion IsByteEvent es

bytes_left : (items : List Item) (part : List Character) → AllBytes (events_in items part)
    → AllBytes (left_of items part)
bytes_left items part bytes = all_after IsByteEvent (passed (first_of items part))
    (left_of items part) (subst AllBytes (begins_with items part) bytes)

-- no whole dialogue begins a part of one
no_whole : (d : Dialogue) (p : Course) (items others : List Item) (part other : List Character)
    → IsUnderPlan d p → IsPart (first_of others other) → heard_in (left_of others other) ≡ []
    → AllBytes (events_in (Whole d ∷ items) part)
    → events_in (Whole d ∷ items) part ≡ events_in others other → ⊥
no_whole d p items others part other is (q, (e, c, rest, also, e_is)) none bytes equal =
    let heard = heard_in (events_in items part) in
    let row : characters d ++ heard ≡ first_of others other =
    sym (heard_passed (characters d) (events_in items part))
    ∙ ap heard_in (begin_alike (Whole d ∷ items) others part other equal)
    ∙ heard_part (first_of others other) (left_of others other) none in
    let whole : characters d ++ (heard ++ c ∷ rest) ≡ characters e =
    sym (append_assoc (characters d) heard (c ∷ rest)) ∙ ap (λ cs. cs ++ c ∷ rest) row
    ∙ sym e_is in
    some_left heard (same_dialogue d e p q (passed (heard ++ c ∷ rest)) [] is also bytes.1.0
    (sym (passed_both (characters d) (heard ++ c ∷ rest)) ∙ ap passed whole
    ∙ sym (append-nil (passed (characters e))))).1
  where
    passed_both : (cs ds : List Character) → passed (cs ++ ds) ≡ passed cs ++ passed ds
    passed_both [] ds = refl
    passed_both (x ∷ cs) ds = ap (λ es. Passed x ∷ es) (passed_both cs ds)

    some_left : (cs : List Character) → passed (cs ++ c ∷ rest) ≡ [] → ⊥
    some_left [] e = absurd (cc)
    some_left (x ∷ cs) e = absurd (cc)

-- Events are cut in one way.
pub one_cutting : (items others : List Item) (part other : List Character)
    → AllByRecursion IsItem items → AllByRecursion IsItem others → IsPart part → IsPart other
    → AllBytes (events_in items part) → events_in items part ≡ events_in others other
    → AreAlikeInTurn items others × (part ≡ other)
one_cutting [] [] part other are also is is_other bytes e =
    (tt, (same_part part other [] [] refl refl (begin_alike [] [] part other e)).0)
one_cutting [] (Cut_off cut ∷ others) part other are also is is_other bytes e =
    let never : [] ≡ Reset ∷ events_in others other = (same_part part cut [] (Reset
    ∷ events_in others other) refl refl (begin_alike [] (Cut_off cut ∷ others) part other e)).1 in
    absurd (cc)
one_cutting (Cut_off cut ∷ items) [] part other are also is is_other bytes e =
    let never : Reset ∷ events_in items part ≡ [] = (same_part cut other (Reset
    ∷ events_in items part) [] refl refl (begin_alike (Cut_off cut ∷ items) [] part other e)).1 in
    absurd (cc)
one_cutting (Cut_off cut ∷ items) (Cut_off last ∷ others) part other are also is is_other bytes e =
    let first = same_part cut last (Reset ∷ events_in items part) (Reset ∷ events_in others other)
    refl refl (begin_alike (Cut_off cut ∷ items) (Cut_off last ∷ others) part other e) in
    let both : Reset ∷ events_in items part ≡ Reset ∷ events_in others other = first.1 in
    let same : events_in items part ≡ events_in others other = cc in
    let left = bytes_left (Cut_off cut ∷ items) part bytes in
    let rest = one_cutting items others part other are.1 also.1 is is_other left.1 same in
    ((first.0, rest.0), rest.1)
one_cutting (Whole d ∷ items) (Whole f ∷ others) part other are also is is_other bytes e =
    let first = same_dialogue d f are.0.0 also.0.0 (events_in items part) (events_in others other)
    are.0.1 also.0.1 bytes.1.0 (begin_alike (Whole d ∷ items) (Whole f ∷ others) part other e) in
    let rest = one_cutting items others part other are.1 also.1 is is_other
    (bytes_left (Whole d ∷ items) part bytes) first.1 in ((first.0, rest.0), rest.1)
one_cutting (Whole d ∷ items) [] part other are also is is_other bytes e =
    absurd (no_whole d are.0.0 items [] part other are.0.1 is_other refl bytes e)
one_cutting (Whole d ∷ items) (Cut_off cut ∷ others) part other are also is is_other bytes e =
    absurd (no_whole d are.0.0 items (Cut_off cut ∷ others) part other are.0.1 also.0 refl bytes e)
one_cutting [] (Whole d ∷ others) part other are also is is_other bytes e =
    absurd (no_whole d also.0.0 others [] other part also.0.1 is refl (subst AllBytes e bytes)
    (sym e))
one_cutting (Cut_off cut ∷ items) (Whole d ∷ others) part other are also is is_other bytes e =
    absurd (no_whole d also.0.0 others (Cut_off cut ∷ items) other part also.0.1 are.0 refl
    (subst AllBytes e bytes) (sym e))
