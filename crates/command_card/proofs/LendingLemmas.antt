-- What led to a card's end leads on, also where the card was lent.
use Rattle.std.proofs.Common.{◌≡◌, ◌∙◌, ◌⊎◌, ℕ, List, [], ◌∷◌, ◌++◌, inl, inr, refl, sym, ap, subst, append-nil, append_assoc}
use Rattle.std.specs.List.{AllByRecursion, flat_map}
use Rattle.std.proofs.lemmas.List.{map-append}
use Rattle.t0_core.specs.declared.end.End.TheVariants.{Card}
use Rattle.t0_core.specs.declared.end.End.{End}
use Rattle.t0_core.specs.Buffers.{Steps}
use Rattle.t0_core.specs.Character.{Character, sent_by}
use Rattle.t0_core.specs.CardContract.{IsDecided}
use Rattle.t0_core.specs.CardHistory.{Leads}
use Rattle.t0_core.specs.CardSide.{Stage, StandsAt, Taking_header, Refusing, Serving, Ending}
use Rattle.t0_core.specs.Dialogue.{body_characters, characters}
use Rattle.t0_core.specs.DialogueLaws.{flat_map_last}
use Rattle.t0_core.specs.Front.{Front, In_header, In_body, After_first, IsFront, front_characters}
use Rattle.t0_core.specs.History.{AreAlikeInTurn, AreCutInto, Event, IsByteEvent, Item, Whole, Cut_off, IsItem, IsPart, Passed, Reset, RunsOver, events_of, passed}
use Rattle.t0_core.specs.HistoryLaws.{leads_are_cut}
use Rattle.t0_core.specs.Meaning.{Prepared, Tpdu, tpdu_of}
use Rattle.command_card.specs.Lending.{AreLent, Happening, IsStretch, LeadsLent, Lent, On_line, Passes, RunsLent, Stretch, happenings_of, line_of, on_line}

-- ---- lists

-- a list is empty, or has a last element
abbrev Ended : {A : Type 0} → List A → Type 0
Ended {A = A} xs = (xs ≡ []) ⊎ ((ys : List A) × (y : A) × (xs ≡ ys ++ y ∷ []))

ended : {A : Type 0} (xs : List A) → Ended xs
ended [] = inl refl
ended {A = A} (x ∷ xs) = more (ended xs)
  where
    more : Ended xs → Ended (x ∷ xs)
    more (inl none) = inr ([], x, ap (λ (ys : List A). x ∷ ys) none)
    more (inr (ys, y, is)) = inr (x ∷ ys, y, ap (λ (zs : List A). x ∷ zs) is)

same_end : {A : Type 0} (x y : A) (xs ys : List A) → xs ++ x ∷ [] ≡ ys ++ y ∷ []
    → (xs ≡ ys) × (x ≡ y)
same_end x y [] [] is = (refl, cc)
same_end x y [] (b ∷ []) is = absurd (cc)
same_end x y [] (b ∷ c ∷ ys) is = absurd (cc)
same_end x y (a ∷ []) [] is = absurd (cc)
same_end x y (a ∷ b ∷ xs) [] is = absurd (cc)
same_end {A = A} x y (a ∷ xs) (b ∷ ys) is =
    let first : a ≡ b = cc in
    let rest : xs ++ x ∷ [] ≡ ys ++ y ∷ [] = cc in
    let both = same_end x y xs ys rest in
    (ap (λ z. z ∷ xs) first ∙ ap (λ (zs : List A). b ∷ zs) both.0, both.1)

all_front : {A : Type 0} (P : A → Type 0) (xs ys : List A) → AllByRecursion P (xs ++ ys)
    → AllByRecursion P xs
all_front P [] ys all = tt
all_front P (x ∷ xs) ys all = (all.0, all_front P xs ys all.1)

all_end : {A : Type 0} (P : A → Type 0) (xs ys : List A) → AllByRecursion P (xs ++ ys)
    → AllByRecursion P ys
all_end P [] ys all = all
all_end P (x ∷ xs) ys all = all_end P xs ys all.1

passed_more : (cs : List Character) (c : Character)
    → passed (cs ++ c ∷ []) ≡ passed cs ++ Passed c ∷ []
passed_more cs c = map-append (λ x. Passed x) cs (c ∷ [])

line_append : {K : Type 0} (xs ys : List (Happening K))
    → line_of (xs ++ ys) ≡ line_of xs ++ line_of ys
line_append [] ys = refl
line_append (On_line e ∷ xs) ys = ap (λ es. e ∷ es) (line_append xs ys)
line_append (Lent k ∷ xs) ys = line_append xs ys

-- ---- the last event of what was cut

part_before : (p : List Character) (c : Character) → IsPart (p ++ c ∷ []) → IsPart p
part_before p c (plan, (d, next, rest, under, is)) =
    (plan, (d, c, next ∷ rest, under, is ∙ append_assoc p (c ∷ []) (next ∷ rest)))

-- an item ends in one event, and what is before it is a part
record IsEnding (it : Item) : Type 0 where
  part : List Character
  last : Event
  is_part : IsPart part
  is : events_of it ≡ passed part ++ last ∷ []

ending : (it : Item) → IsItem it → IsEnding it
ending (Whole d) (plan, under) =
    let part = body_characters d.body ++ (Card, d.status.0) ∷ [] in
    let all : characters d ≡ part ++ (Card, d.status.1) ∷ [] =
    sym (append_assoc (body_characters d.body) ((Card, d.status.0) ∷ [])
    ((Card, d.status.1) ∷ [])) in record {
      part = part;
      last = Passed (Card, d.status.1);
      is_part = (plan, (d, (Card, d.status.1), [], under, all));
      is = ap passed all ∙ passed_more part (Card, d.status.1);
    }
ending (Cut_off part) is =
    record { part = part; last = Reset; is_part = is; is = refl }

-- the same events without the last one, cut
data Shed (items : List Item) (part : List Character) (es : List Event) (e : Event) : Type 0 where
  In_part : (p : List Character) (c : Character) → part ≡ p ++ c ∷ [] → e ≡ Passed c → IsPart p
      → flat_map events_of items ++ passed p ≡ es → Shed items part es e
  In_item : (its : List Item) (it : Item) (p : List Character) → part ≡ [] → items ≡ its ++ it ∷ []
      → IsPart p → flat_map events_of its ++ passed p ≡ es → events_of it ≡ passed p ++ e ∷ []
      → Shed items part es e

shed : (items : List Item) (part : List Character) (es : List Event) (e : Event)
    → AllByRecursion IsItem items → IsPart part
    → es ++ e ∷ [] ≡ flat_map events_of items ++ passed part → Shed items part es e
shed items part es e are is equal = by_part (ended part)
  where
    of_item : part ≡ [] → Ended items → Shed items part es e
    of_item none (inl void) =
        let Equal : List Item → List Character → Type 0 = λ xs p.
        es ++ e ∷ [] ≡ flat_map events_of xs ++ passed p in
        let at : es ++ e ∷ [] ≡ [] =
        subst (Equal []) none (subst (λ xs. Equal xs part) void equal) in absurd (never es at)
      where
        never : (xs : List Event) → xs ++ e ∷ [] ≡ [] → ⊥
        never [] is = absurd (cc)
        never (x ∷ xs) is = absurd (cc)
    of_item none (inr (its, it, items_are)) =
        let All : List Item → Type 0 = λ xs. AllByRecursion IsItem xs in
        let all = subst All items_are are in
        let end = ending it (all_end IsItem its (it ∷ []) all).0 in
        let front = flat_map events_of its ++ passed end.part in
        let equal_are : es ++ e ∷ [] ≡ front ++ end.last ∷ [] =
        equal ∙ ap (λ p. flat_map events_of items ++ passed p) none
        ∙ append-nil (flat_map events_of items) ∙ ap (λ xs. flat_map events_of xs) items_are
        ∙ flat_map_last events_of its it ∙ ap (λ xs. flat_map events_of its ++ xs) end.is
        ∙ sym (append_assoc (flat_map events_of its) (passed end.part) (end.last ∷ [])) in
        let both = same_end e end.last es front equal_are in
        In_item its it end.part none items_are end.is_part (sym both.0)
        (end.is ∙ ap (λ x. passed end.part ++ x ∷ []) (sym both.1))

    by_part : Ended part → Shed items part es e
    by_part (inl none) = of_item none (ended items)
    by_part (inr (p, c, part_is)) =
        let front = flat_map events_of items ++ passed p in
        let equal_are : es ++ e ∷ [] ≡ front ++ Passed c ∷ [] =
        equal ∙ ap (λ x. flat_map events_of items ++ passed x) part_is
        ∙ ap (λ xs. flat_map events_of items ++ xs) (passed_more p c)
        ∙ sym (append_assoc (flat_map events_of items) (passed p) (Passed c ∷ [])) in
        let both = same_end e (Passed c) es front equal_are in
        In_part p c part_is both.1 (part_before p c (subst IsPart part_is is)) (sym both.0)

-- there is one cutting (`t0_core::laws::events_have_one_cutting`)
abbrev pub OneCutting : Type 0
OneCutting = (items others : List Item) (part other : List Character)
    → AllByRecursion IsItem items → AllByRecursion IsItem others → IsPart part → IsPart other
    → AllByRecursion IsByteEvent (flat_map events_of items ++ passed part)
    → flat_map events_of items ++ passed part ≡ flat_map events_of others ++ passed other
    → AreAlikeInTurn items others × (part ≡ other)

none_alike : (items : List Item) → AreAlikeInTurn items [] → items ≡ []
none_alike [] alike = refl
none_alike (Whole d ∷ items) alike = absurd alike
none_alike (Cut_off part ∷ items) alike = absurd alike

-- nothing happened before the first event
none_before : (items : List Item) (part : List Character)
    → [] ≡ flat_map events_of items ++ passed part → (items ≡ []) × (part ≡ [])
none_before [] [] is = (refl, refl)
none_before [] (c ∷ part) is = absurd (cc)
none_before (Whole d ∷ items) part is = absurd (cc)
none_before (Cut_off [] ∷ items) part is = absurd (cc)
none_before (Cut_off (c ∷ cut) ∷ items) part is = absurd (cc)

module _ {K State : Type 0} (Does : State → ℕ → Tpdu → State → Type 0)
    (after_reset : State → State) (Lends : K → Front → State → State → Type 0) where
  lent_line : (so : List Event) (old new : State) (hs : List (Happening K)) (e : Event)
      → AreLent Lends so old hs new → AreLent Lends so old (hs ++ On_line e ∷ []) new
  lent_line so old new [] e are = are
  lent_line so old new (On_line x ∷ hs) e are = lent_line (so ++ x ∷ []) old new hs e are
  lent_line so old new (Lent k ∷ hs) e (front, mid, begun, is, lends, are) =
      (front, mid, begun, is, lends, lent_line so mid new hs e are)

  lent_more : (so : List Event) (old mid new : State) (hs : List (Happening K)) (k : K)
      (front : Front) → AreLent Lends so old hs mid → IsFront front
      → so ++ line_of hs ≡ passed (front_characters front) → Lends k front mid new
      → AreLent Lends so old (hs ++ Lent k ∷ []) new
  lent_more so old mid new [] k front are begun is lends =
      let P : State → Type 0 = λ s. Lends k front s new in
      (front, new, begun, sym (append-nil so) ∙ is, subst P are lends, refl)
  lent_more so old mid new (On_line x ∷ hs) k front are begun is lends =
      lent_more (so ++ x ∷ []) old mid new hs k front are begun
      (append_assoc so (x ∷ []) (line_of hs) ∙ is) lends
  lent_more so old mid new (Lent j ∷ hs) k front (at, to, begins, at_is, one, are) begun is lends =
      (at, to, begins, at_is, one, lent_more so to mid new hs k front are begun is lends)

  runs_more : (first mid old new : State) (stretches : List (Stretch K)) (s : Stretch K)
      → RunsLent Does after_reset Lends first stretches mid → IsStretch s
      → AreLent Lends [] mid s.before old → Passes Does after_reset old s.item new
      → RunsLent Does after_reset Lends first (stretches ++ s ∷ []) new
  runs_more first mid old new [] s runs is lent passes =
      let P : State → Type 0 = λ x. AreLent Lends [] x s.before old in
      (old, new, is, subst P runs lent, passes, refl)
  runs_more first mid old new (r ∷ stretches) s (ready, next, one, before, does, runs) is lent
      passes = (
        ready,
        next,
        one,
        before,
        does,
        runs_more next mid old new stretches s runs is lent passes,
      )

  -- what is not decided does not depend on the state
  carries : (old new : State) (before : Prepared State) (at : Stage) (cut : ℕ) (front : Front)
      → (IsDecided before → ⊥) → StandsAt Does old before at cut front
      → StandsAt Does new before at cut front
  carries old new before (Taking_header bytes) cut (In_header f) still stands = stands
  carries old new before (Taking_header bytes) cut (In_body b) still stands = stands
  carries old new before (Taking_header bytes) cut (After_first b sw1) still stands = stands
  carries old new before (Refusing h p3 status done) cut (In_header f) still stands = absurd stands
  carries old new before (Refusing h p3 status done) cut (After_first b sw1) still stands =
      absurd stands
  carries old new before (Refusing h p3 status done) cut (In_body b) still stands =
      absurd (still (subst (λ (p : Prepared State). IsDecided p) (sym stands.decides.1) tt))
  carries old new before (Serving s came) cut (In_header f) still stands = stands
  carries old new before (Serving s came) cut (In_body b) still stands = stands
  carries old new before (Serving s came) cut (After_first b sw1) still stands = stands
  carries old new before (Ending status) cut (In_header f) still stands = absurd stands
  carries old new before (Ending status) cut (In_body b) still stands = absurd stands
  carries old new before (Ending status) cut (After_first b sw1) still
      (same, next, is, does, dialogue, follows) =
      absurd (still (subst (λ (p : Prepared State). IsDecided p) (sym is) tt))

  pub starts : (first standing : State) (prepared : Prepared State) (stage : Stage)
      → Leads Does after_reset first [] standing prepared stage
      → LeadsLent Does after_reset Lends first [] standing prepared stage
  starts first standing prepared stage led =
      let none = none_before led.items (front_characters led.front) led.events_are in
      let Ran : List Item → Type 0 = λ items. RunsOver Does after_reset first items standing in
      record {
        stretches = [];
        current = [];
        mid = first;
        cut = led.cut;
        front = led.front;
        happenings_are = refl;
        line_is = ap passed (sym none.1);
        runs = refl;
        are_lent = subst Ran none.0 led.runs;
        at_front = led.at_front;
      }

  pub leads_where_lent : (first old new : State) (hs : List (Happening K)) (k : K)
      (before : Prepared State) (at : Stage) → (IsDecided before → ⊥)
      → ((cut : ℕ) (front : Front) → StandsAt Does old before at cut front → Lends k front old new)
      → LeadsLent Does after_reset Lends first hs old before at
      → LeadsLent Does after_reset Lends first (hs ++ Lent k ∷ []) new before at
  leads_where_lent first old new hs k before at still lends led = record {
    stretches = led.stretches;
    current = led.current ++ Lent k ∷ [];
    mid = led.mid;
    cut = led.cut;
    front = led.front;
    happenings_are = ap (λ xs. xs ++ Lent k ∷ []) led.happenings_are
        ∙ append_assoc (flat_map happenings_of led.stretches) led.current (Lent k ∷ []);
    line_is = line_append led.current (Lent k ∷ []) ∙ append-nil (line_of led.current)
        ∙ led.line_is;
    runs = led.runs;
    are_lent = lent_more [] led.mid old new led.current k led.front led.are_lent
        led.at_front.is_front led.line_is (lends led.cut led.front led.at_front.stands);
    at_front = record {
      is_front = led.at_front.is_front;
      is_part = led.at_front.is_part;
      in_range = led.at_front.in_range;
      stands = carries old new before at led.cut led.front still led.at_front.stands;
    };
  }

  -- one more item
  passes_of : (old new : State) (it : Item) → RunsOver Does after_reset old (it ∷ []) new
      → Passes Does after_reset old it new
  passes_of old new (Whole d) (plan, mid, under, does, is) =
      (plan, under, subst (λ s. Does old plan.cut (tpdu_of d) s) (sym is) does)
  passes_of old new (Cut_off part) (is_part, is) = (is_part, is)

  pub leads_on_the_line : OneCutting → (first old new : State) (hs : List (Happening K)) (e : Event)
      (before prepared : Prepared State) (at stage : Stage)
      → AllByRecursion IsByteEvent (line_of hs ++ e ∷ [])
      → ((f : State) (events : List Event) → Leads Does after_reset f events old before at
      → Leads Does after_reset f (events ++ e ∷ []) new prepared stage)
      → LeadsLent Does after_reset Lends first hs old before at
      → LeadsLent Does after_reset Lends first (hs ++ On_line e ∷ []) new prepared stage
  leads_on_the_line one first old new hs e before prepared at stage bytes leads led =
      by (shed next.items (front_characters next.front) (passed part) e cut.are_items cut.is_part
      cut.all_of_them)
    where
      part : List Character
      part = front_characters led.front

      next : Leads Does after_reset old (passed part ++ e ∷ []) new prepared stage
      next = leads old (passed part) (record {
        items = [];
        cut = led.cut;
        front = led.front;
        events_are = refl;
        runs = refl;
        at_front = led.at_front;
      })

      cut : AreCutInto (passed part ++ e ∷ []) next.items (front_characters next.front)
      cut = leads_are_cut Does after_reset old (passed part ++ e ∷ []) new prepared stage next

      small : AllByRecursion IsByteEvent (passed part)
      small =
          let All : List Event → Type 0 = λ es. AllByRecursion IsByteEvent es in
          let all = all_front IsByteEvent (line_of hs) (e ∷ []) bytes in
          let split : line_of hs ≡ line_of (flat_map happenings_of led.stretches)
          ++ line_of led.current =
          ap line_of led.happenings_are
          ∙ line_append (flat_map happenings_of led.stretches) led.current in
          subst All led.line_is (all_end IsByteEvent
          (line_of (flat_map happenings_of led.stretches)) (line_of led.current)
          (subst All split all))

      -- a cutting of what passed since the last SW2 or reset has no item
      uncut : (items : List Item) (p : List Character) → AllByRecursion IsItem items → IsPart p
          → flat_map events_of items ++ passed p ≡ passed part → (items ≡ []) × (p ≡ part)
      uncut items p are is equal =
          let All : List Event → Type 0 = λ es. AllByRecursion IsByteEvent es in
          let both = one items [] p part are tt is led.at_front.is_part
          (subst All (sym equal) small) equal in (none_alike items both.0, both.1)

      more : (here : List (Happening K)) → hs ++ On_line e ∷ []
          ≡ flat_map happenings_of led.stretches ++ (led.current ++ On_line e ∷ [])
      more here = ap (λ xs. xs ++ On_line e ∷ []) led.happenings_are
          ∙ append_assoc (flat_map happenings_of led.stretches) led.current (On_line e ∷ [])

      by : Shed next.items (front_characters next.front) (passed part) e
          → LeadsLent Does after_reset Lends first (hs ++ On_line e ∷ []) new prepared stage
      by (In_part p c part_is e_is is_part are) =
          let none = uncut next.items p cut.are_items is_part are in
          let Ran : List Item → Type 0 = λ items. RunsOver Does after_reset old items new in
          let same : new ≡ old = subst Ran none.0 next.runs in
          let Lent_to : State → Type 0 = λ s. AreLent Lends [] led.mid led.current s in record {
            stretches = led.stretches;
            current = led.current ++ On_line e ∷ [];
            mid = led.mid;
            cut = next.cut;
            front = next.front;
            happenings_are = more [];
            line_is = line_append led.current (On_line e ∷ [])
                ∙ ap (λ es. es ++ e ∷ []) led.line_is
                ∙ ap (λ x. passed part ++ x ∷ []) e_is
                ∙ sym (passed_more part c)
                ∙ ap (λ x. passed (x ++ c ∷ [])) (sym none.1)
                ∙ ap passed (sym part_is);
            runs = led.runs;
            are_lent = lent_line [] led.mid new led.current e
                (subst Lent_to (sym same) led.are_lent);
            at_front = next.at_front;
          }
      by (In_item its it p void items_are is_part are last) =
          let All : List Item → Type 0 = λ xs. AllByRecursion IsItem xs in
          let none = uncut its p
          (all_front IsItem its (it ∷ []) (subst All items_are cut.are_items)) is_part are in
          let alone : next.items ≡ it ∷ [] =
          items_are ∙ ap (λ (xs : List Item). xs ++ it ∷ []) none.0 in
          let Ran : List Item → Type 0 = λ items. RunsOver Does after_reset old items new in
          let s : Stretch K = record { item = it; before = led.current; last = e } in
          let is_stretch : events_of it ≡ line_of led.current ++ e ∷ [] =
          last ∙ ap (λ x. passed x ++ e ∷ []) none.1
          ∙ ap (λ es. es ++ e ∷ []) (sym led.line_is) in record {
            stretches = led.stretches ++ s ∷ [];
            current = [];
            mid = new;
            cut = next.cut;
            front = next.front;
            happenings_are = more []
                ∙ sym (flat_map_last happenings_of led.stretches s)
                ∙ sym (append-nil (flat_map happenings_of (led.stretches ++ s ∷ [])));
            line_is = ap passed (sym void);
            runs = runs_more first led.mid old new led.stretches s led.runs is_stretch
                led.are_lent (passes_of old new it (subst Ran alone next.runs));
            are_lent = refl;
            at_front = next.at_front;
          }

-- ---- many characters

-- What led to an end leads on by a character of this side, and so by many.
pub many_lead : {E K : Type 0} (who : End) (Step : E → ℕ → E → Type 0)
    (Led : List (Happening K) → E → Type 0)
    (one : (old new : E) (b : ℕ) (hs : List (Happening K)) → Step old b new
    → AllByRecursion IsByteEvent (line_of hs ++ Passed (who, b) ∷ [])
    → Led hs old → Led (hs ++ On_line (Passed (who, b)) ∷ []) new)
    (bs : List ℕ) (old new : E) (hs : List (Happening K)) → Steps Step old bs new
    → AllByRecursion IsByteEvent (line_of hs ++ passed (sent_by who bs))
    → Led hs old → Led (hs ++ on_line (passed (sent_by who bs))) new
many_lead {E = E} {K = K} who Step Led one [] old new hs is bytes led =
    subst (λ (e : E). Led (hs ++ []) e) (sym is)
    (subst (λ (xs : List (Happening K)). Led xs old) (sym (append-nil hs)) led)
many_lead {E = E} {K = K} who Step Led one (b ∷ bs) old new hs (next, step, rest) bytes led =
    let e : Event = Passed (who, b) in
    let more : List Event = passed (sent_by who bs) in
    let once : List (Happening K) = hs ++ On_line e ∷ [] in
    let line_is : line_of once ++ more ≡ line_of hs ++ e ∷ more =
    ap (λ (es : List Event). es ++ more) (line_append hs (On_line e ∷ []))
    ∙ append_assoc (line_of hs) (e ∷ []) more in
    let all : AllByRecursion IsByteEvent (line_of once ++ more) =
    subst (λ (es : List Event). AllByRecursion IsByteEvent es) (sym line_is) bytes in
    let front : AllByRecursion IsByteEvent (line_of hs ++ e ∷ []) =
    subst (λ (es : List Event). AllByRecursion IsByteEvent es) (line_append hs (On_line e ∷ []))
    (all_front IsByteEvent (line_of once) more all) in
    subst (λ (xs : List (Happening K)). Led xs new)
    (append_assoc hs (On_line e ∷ []) (on_line more))
    (many_lead who Step Led one bs next new once rest all (one old next b hs step front led))
