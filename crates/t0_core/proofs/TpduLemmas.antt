-- A whole TPDU, character by character, at a card's end.
use Rattle.std.proofs.Common.{◌≡◌, ℕ, zero, suc, ◌==◌, ◌+◌, ◌<◌, ◌≤◌, ◌⊎◌, lit<, List, [], ◌∷◌, ◌++◌, length, take, drop, get_or, refl, sym, subst, ◌∙◌, ap, arith, inl, inr, true, false, Bool, nat_lt, if◌then◌else◌, Option, Some, None, length-append, append-nil, append_assoc}
use Rattle.std.specs.List.{slice_get, flat_map}
use Rattle.std.specs.Option.{MatchOption, SomeIff}
use Rattle.std.proofs.lemmas.Bool.{ltb-true, ltb-false, lt-ltb, eqb-true, eq-eqb}
use Rattle.std.proofs.lemmas.List.{take_more, take_all, drop_more}
use Rattle.std.proofs.lemmas.Option.{get_or_from_slice_get, slice_get_within, slice_get-get_or}
use Rattle.std.proofs.Math.Seq.{take-nil}
use Rattle.apdu_core.specs.declared.header.Header.{Header}
use Rattle.apdu_core.specs.StatusWord.{StatusWord, IsStatusWord}
use Rattle.t0_core.specs.declared.tpdu_card.TpduCard.{Ghosts}
use Rattle.t0_core.specs.declared.tpdu_fault.TpduFault.TheVariants.{WantsData}
use Rattle.t0_core.specs.declared.card_end.tpdu.Awaited.TheVariants as next
use Rattle.t0_core.specs.declared.end.End.TheVariants.{Terminal, Card}
use Rattle.t0_core.specs.declared.direction.Direction.{Direction}
use Rattle.t0_core.specs.declared.direction.Direction.TheVariants.{ToCard, FromCard}
use Rattle.t0_core.specs.Character.{Character, sent_by}
use Rattle.t0_core.specs.Dialogue.{Body, Dialogue, IsDialogue, characters, body_characters, data_sender, foreseen, to_move}
use Rattle.t0_core.specs.Meaning.{Tpdu, Prepared, tpdu_of, received, sent}
use Rattle.t0_core.specs.Plan.{Course, Cursor, IsCut}
use Rattle.t0_core.specs.Front.{Front, fresh, front_characters, In_header, In_body, After_first, IsFront, GoesOn, IsBetween, brought, from_card, header_only, with_moved}
use Rattle.t0_core.specs.Room.{Room}
use Rattle.t0_core.specs.CardHistory.{Leads, LeadsUnder, under_way}
use Rattle.t0_core.specs.History.{Event, Whole, RunsOver, events_of, passed}
use Rattle.t0_core.specs.CardSide.{EndOf, Stage, Taking_header, Refusing, Serving, Ending, StandsAt, Advances, IsOnPlan, IsPermitted, PermitsData, SuitsFront, begins_with, listens, with_character, still_to_go, comes_from_terminal}
use Rattle.t0_core.specs.CardLaws.{begun, due_data, taken_stays}
use Rattle.t0_core.specs.TpduBytes.{Asked}
use Rattle.t0_core.specs.CardTpdu.{AreAsked, IsOf, IsCarriedOut, IsStuck, LeadsOnBy, rests}
use Rattle.t0_core.specs.Answering.{awaited_in, data_awaited, IsFrontOf, IsWhole, IsAnswering, Ends, Sticks}
use Rattle.t0_core.specs.FrontLaws.{goes_on}
use Rattle.t0_core.specs.DialogueLaws.{flat_map_last, follow_each, all_more, runs_each, one_more_each}
use Rattle.t0_core.proofs.PlannedFront.{at_front, at_fresh, planned_under}
use Rattle.t0_core.proofs.HistoryLemmas.{whole_more, data_are_due}
use Rattle.t0_core.specs.CardView.{KeepsDirection}
use Rattle.t0_core.proofs.CardLemmas.{direction_in, suits_itself, stays_permitted}
use Rattle.t0_core.proofs.PlanLemmas.{nulls_move_nothing}
use Rattle.t0_core.proofs.PlaceLemmas.{card_is_due, same_card_place}
use Rattle.t0_core.specs.Buffers as buffers
use Rattle.t0_core.specs.CardSending.{IsHandedOut}
use Rattle.t0_core.specs.CardTaking.{IsTaken}

-- ---- data and directions

own_nothing : (d : Direction) (asked : Asked) → AreAsked d asked []
own_nothing ToCard asked = refl
own_nothing FromCard asked = omega arith

own_of_card : (d : Direction) (asked : Asked) (moved : List ℕ) → d ≡ FromCard
    → length moved ≤ asked.may_come → AreAsked d asked moved
own_of_card ToCard asked moved is fits = absurd (cc)
own_of_card FromCard asked moved is fits = fits

brings_nothing : (d : Direction) → from_card d [] ≡ []
brings_nothing ToCard = refl
brings_nothing FromCard = refl

brings_one : (d : Direction) (moved : List ℕ) (byte : ℕ) → d ≡ FromCard
    → from_card d (moved ++ byte ∷ []) ≡ from_card d moved ++ byte ∷ []
brings_one ToCard moved byte is = absurd (cc)
brings_one FromCard moved byte is = refl

brings_none : (d : Direction) (moved : List ℕ) → d ≡ ToCard → from_card d moved ≡ []
brings_none ToCard moved is = refl
brings_none FromCard moved is = absurd (cc)

received_is : (b : Body) (status : StatusWord)
    → received (record { body = b; status = status }) ≡ from_card b.direction b.moved
received_is b status = by b.direction refl
  where
    by : (d : Direction) → b.direction ≡ d
        → received (record { body = b; status = status }) ≡ from_card b.direction b.moved
    by ToCard is = rw is refl
    by FromCard is = rw is refl

own_was : (d : Direction) (asked : Asked) (moved : List ℕ) → d ≡ ToCard → AreAsked d asked moved
    → moved ≡ take (length moved) asked.content
own_was ToCard asked moved is own = own
own_was FromCard asked moved is own = absurd (cc)

own_to_card : (d : Direction) (asked : Asked) (moved : List ℕ) → d ≡ ToCard
    → moved ≡ take (length moved) asked.content → AreAsked d asked moved
own_to_card ToCard asked moved is own = own
own_to_card FromCard asked moved is own = absurd (cc)

may_come_was : (d : Direction) (asked : Asked) (moved : List ℕ) → d ≡ FromCard
    → AreAsked d asked moved → length moved ≤ asked.may_come
may_come_was ToCard asked moved is own = absurd (cc)
may_come_was FromCard asked moved is own = own

-- one more of the given data
own_one : (content moved : List ℕ) (byte m : ℕ) → moved ≡ take (length moved) content
    → length moved ≡ m → slice_get content m ≡ Some byte
    → moved ++ byte ∷ [] ≡ take (length (moved ++ byte ∷ [])) content
own_one content moved byte m own len is =
    let lt = slice_get_within content m byte is in
    let longer : length (moved ++ byte ∷ []) ≡ m + 1 = length-append moved (byte ∷ [])
    ∙ rw len refl in
    let own_m : moved ≡ take m content = own ∙ ap (λ k. take k content) len in
    rw longer (ap (λ bytes. bytes ++ byte ∷ []) own_m
    ∙ sym (take_more content m byte lt
    ∙ ap (λ x. take m content ++ x ∷ []) (get_or_from_slice_get content m byte byte is)))

sent_to_card : (d : Dialogue) → d.body.direction ≡ ToCard → sent d ≡ d.body.moved
sent_to_card d is = rw is refl

sent_by_card : (d : Dialogue) → d.body.direction ≡ FromCard → sent d ≡ []
sent_by_card d is = rw is refl

received_of_card : (d : Dialogue) → d.body.direction ≡ FromCard → received d ≡ d.body.moved
received_of_card d is = rw is refl

received_of_none : (d : Dialogue) → d.body.direction ≡ ToCard → received d ≡ []
received_of_none d is = rw is refl

-- no more data were received than may come
fits_asked : (asked : Asked) (d : Dialogue) → IsOf asked d.body
    → length (received d) ≤ asked.may_come
fits_asked asked d of = by d.body.direction refl
  where
    by : (way : Direction) → d.body.direction ≡ way → length (received d) ≤ asked.may_come
    by ToCard is = rw (received_of_none d is) (omega arith)
    by FromCard is = rw (received_of_card d is)
        (may_come_was d.body.direction asked d.body.moved is of.2)

-- all given data have moved, or none
all_moved_own : (asked : Asked) (moved : List ℕ) → moved ≡ take (length moved) asked.content
    → length moved ≡ asked.p3 → IsWhole asked → (moved ≡ []) ⊎ (moved ≡ asked.content)
all_moved_own asked moved own all (inl none) =
    inl (own ∙ ap (λ bytes. take (length moved) bytes) none ∙ take-nil (length moved))
all_moved_own asked moved own all (inr len) =
    inr (own ∙ ap (λ k. take k asked.content) (all ∙ sym len)
    ∙ take_all (length asked.content) asked.content (omega arith))

all_or_none : (asked : Asked) (d : Dialogue) → IsOf asked d.body
    → (d.body.moved ≡ []) ⊎ (length d.body.moved ≡ foreseen d.body.direction d.body.p3)
    → IsWhole asked → (sent d ≡ []) ⊎ (sent d ≡ asked.content)
all_or_none asked d of moved whole = by d.body.direction refl
  where
    by : (way : Direction) → d.body.direction ≡ way
        → (sent d ≡ []) ⊎ (sent d ≡ asked.content)
    by FromCard is = inl (sent_by_card d is)
    by ToCard is = elim moved [
      | inl none ↦ inl (sent_to_card d is ∙ none)
      | inr all ↦ elim (all_moved_own asked d.body.moved
          (own_was d.body.direction asked d.body.moved is of.2)
          (all ∙ ap (λ way. foreseen way d.body.p3) is ∙ of.1) whole) [
            | inl none ↦ inl (sent_to_card d is ∙ none)
            | inr each ↦ inr (sent_to_card d is ∙ each)
          ]
    ]

-- ---- the next character at the end

no_rest : (stage : Stage) (plan : Course) → under_way stage plan ≡ plan ∷ []
    → stage ≡ Taking_header [] → ⊥
no_rest stage plan under rests =
    let none : under_way stage plan ≡ [] = ap (λ s. under_way s plan) rests in
    let e : [] ≡ plan ∷ [] = sym none ∙ under in absurd (cc)

-- between segments a procedure byte follows
all_moved : (v : Bool) (d : Direction) (m u : ℕ) → nat_lt m u ≡ v
    → (if v then data_awaited d m else next.Procedure) ≡ next.Procedure → u ≤ m
all_moved true ToCard m u is e = absurd (cc)
all_moved true FromCard m u is e = absurd (cc)
all_moved false d m u is e = ltb-false m u is

same_place : (m n : ℕ) → next.OfTerminal m ≡ next.OfTerminal n → m ≡ n
same_place m n e = cc

terminal_due : (v : Bool) (d : Direction) (m u n : ℕ) → nat_lt m u ≡ v
    → (if v then data_awaited d m else next.Procedure) ≡ next.OfTerminal n
    → (m < u) × (d ≡ ToCard) × (m ≡ n)
terminal_due true ToCard m u n is e = (ltb-true m u is, refl, same_place m n e)
terminal_due true FromCard m u n is e = absurd (cc)
terminal_due false d m u n is e = absurd (cc)

no_second : (v : Bool) (d : Direction) (m n : ℕ)
    → (if v then data_awaited d m else next.Procedure) ≡ next.Second n → ⊥
no_second true ToCard m n e = absurd (cc)
no_second true FromCard m n e = absurd (cc)
no_second false d m n e = absurd (cc)

pub between_at : {State : Type 0} (Does : State → ℕ → Tpdu → State → Type 0) (s : State)
    (p : Prepared State) (stage : Stage) (cut : ℕ) (at : Front) → StandsAt Does s p stage cut at
    → awaited_in stage ≡ next.Procedure → (b : Body) × (at ≡ In_body b) × IsBetween b
between_at Does s p (Taking_header bytes) cut at stands is = absurd (cc)
between_at Does s p (Refusing h p3 status done) cut (In_body b) stands is = (
  b,
  refl,
  omega (
    arith,
    ap length stands.no_data,
    nulls_move_nothing b.segments (foreseen b.direction b.p3) stands.nulls,
  ),
)
between_at Does s p (Serving service came) cut (In_body b) stands is = (
  b,
  refl,
  omega (
    arith,
    stands.moved_is,
    stands.until_is,
    stands.begun,
    all_moved (nat_lt service.moved service.until) service.direction service.moved service.until
        refl is,
  ),
)
between_at Does s p (Ending status) cut at stands is = absurd (cc)
between_at _ _ _ _ _ _ stands _ = absurd stands

pub sending_at : {State : Type 0} (Does : State → ℕ → Tpdu → State → Type 0) (s : State)
    (p : Prepared State) (stage : Stage) (cut place : ℕ) (at : Front)
    → StandsAt Does s p stage cut at → awaited_in stage ≡ next.OfCard place
    → (b : Body) × (at ≡ In_body b) × (length b.moved < to_move b) × (b.direction ≡ FromCard)
    × (length b.moved ≡ place)
sending_at Does s p (Serving service came) cut place (In_body b) stands is =
    let due = card_is_due (nat_lt service.moved service.until) service.direction service.moved
    service.until place refl is in (
      b,
      refl,
      omega (arith, stands.moved_is, stands.until_is, due.0),
      stands.direction_is ∙ due.1,
      stands.moved_is ∙ due.2,
    )
sending_at Does s p (Serving service came) cut place at stands is = absurd stands
sending_at _ s p _ cut place _ stands is = absurd (cc)

pub taking_at : {State : Type 0} (Does : State → ℕ → Tpdu → State → Type 0) (s : State)
    (p : Prepared State) (stage : Stage) (cut place : ℕ) (at : Front)
    → StandsAt Does s p stage cut at → awaited_in stage ≡ next.OfTerminal place
    → (b : Body) × (at ≡ In_body b) × (length b.moved < to_move b) × (b.direction ≡ ToCard)
    × (length b.moved ≡ place)
taking_at Does s p (Serving service came) cut place (In_body b) stands is =
    let due = terminal_due (nat_lt service.moved service.until) service.direction service.moved
    service.until place refl is in (
      b,
      refl,
      omega (arith, stands.moved_is, stands.until_is, due.0),
      stands.direction_is ∙ due.1,
      stands.moved_is ∙ due.2,
    )
taking_at Does s p (Serving service came) cut place at stands is = absurd stands
taking_at _ s p _ cut place _ stands is = absurd (cc)

same_first : (m n : ℕ) → next.Second m ≡ next.Second n → m ≡ n
same_first m n e = cc

pub ending_at : {State : Type 0} (Does : State → ℕ → Tpdu → State → Type 0) (s : State)
    (p : Prepared State) (stage : Stage) (cut sw1 : ℕ) (at : Front) → StandsAt Does s p stage cut at
    → awaited_in stage ≡ next.Second sw1 → (b : Body) × (at ≡ After_first b sw1)
ending_at Does s p (Taking_header bytes) cut sw1 at stands is = absurd (cc)
ending_at Does s p (Refusing h p3 status done) cut sw1 at stands is = absurd (cc)
ending_at Does s p (Serving service came) cut sw1 at stands is =
    absurd (no_second (nat_lt service.moved service.until) service.direction service.moved sw1 is)
ending_at Does s p (Ending status) cut sw1 (After_first b first) stands is =
    (b, ap (After_first b) (sym stands.0 ∙ same_first status.0 sw1 is))
ending_at Does s p (Ending status) cut sw1 at stands is = absurd stands

-- ---- one character

-- a front of the same TPDU, with these data more
abbrev GrowsBy : Asked → Body → List ℕ → Front → Type 0
GrowsBy asked b more new = IsFrontOf asked new × (brought new ≡ brought (In_body b) ++ more)

-- between segments no data are received
grows_between : (asked : Asked) (b : Body) (byte : ℕ) (new : Front) → IsOf asked b → IsBetween b
    → GoesOn (In_body b) (Card, byte) new → GrowsBy asked b [] new
grows_between asked b byte new of between (inl moves) = absurd (omega (arith, moves.0, between))
grows_between asked b byte new of between (inr (inl begins)) =
    subst (GrowsBy asked b []) (sym begins.2.3)
    (of, sym (append-nil (from_card b.direction b.moved)))
grows_between asked b byte new of between (inr (inr ends)) =
    subst (GrowsBy asked b []) (sym ends.3)
    (of, sym (append-nil (from_card b.direction b.moved)))

-- a data character of the card
grows_sending : (asked : Asked) (b : Body) (byte : ℕ) (new : Front) → IsOf asked b
    → length b.moved < to_move b → b.direction ≡ FromCard → length b.moved < asked.may_come
    → GoesOn (In_body b) (Card, byte) new → GrowsBy asked b (byte ∷ []) new
grows_sending asked b byte new of due from fits (inl moves) =
    subst (GrowsBy asked b (byte ∷ [])) (sym moves.2) (
      (
        of.0,
        of.1,
        own_of_card b.direction asked (b.moved ++ byte ∷ []) from
            (omega (arith, fits, length-append b.moved (byte ∷ []))),
      ),
      brings_one b.direction b.moved byte from,
    )
grows_sending asked b byte new of due from fits (inr (inl begins)) =
    absurd (omega (arith, due, begins.0))
grows_sending asked b byte new of due from fits (inr (inr ends)) =
    absurd (omega (arith, due, ends.0))

-- the card's end takes a plan, and begins to answer
pub answers_header : {C : Type 0} (card : Ghosts C) (first : card.State) (plan : Course)
    (asked : Asked) (got : List ℕ) (prepared : Prepared card.State) (stage : Stage) (e : EndOf C)
    (byte : ℕ) → IsWhole asked → stage ≡ Taking_header (begins_with asked.header asked.p3)
    → ((at : Front) → SuitsFront e.stage at → StandsAt card.Does first prepared stage plan.cut at
    → Advances card.Does plan.cut plan stage at byte first (card.standing e.card)
    (card.prepared e.card) e.stage)
    → IsPermitted card.MayReceive card.MaySend asked.header e.stage
    → IsAnswering card first plan asked got got e
answers_header card first plan asked got prepared stage e byte whole is advances permitted =
    let d = direction_in e.stage FromCard in
    let b = header_only asked.header asked.p3 d in
    let begins : IsFront (In_body b) = record { in_last = refl; only_nulls = λ _. tt } in
    let Steps : Stage → Type 0 =
    λ s. (at : Front) → SuitsFront e.stage at → StandsAt card.Does first prepared s plan.cut at
    → Advances card.Does plan.cut plan s at byte first (card.standing e.card)
    (card.prepared e.card) e.stage in
    elim (subst Steps is advances (In_body b)
    (suits_itself e.stage asked.header asked.p3 FromCard) (refl, refl)) [
      | inl goes ↦
          let grows = grows_between asked b byte goes.0 (refl, refl, own_nothing d asked) refl
          goes.1 in
          record {
            whole = whole;
            front = goes.0;
            is_front = (goes_on (In_body b) goes.0 (Card, byte) begins goes.1).0;
            stands = goes.2;
            on_plan = goes.4 tt;
            stays = goes.3;
            is_of = grows.0;
            permitted = permitted;
            begun = begun card.Does (card.standing e.card) (card.prepared e.card) e.stage plan.cut
                byte plan (In_body b) goes.0 goes.1 goes.2;
            gathers = sym (ap (λ x. got ++ x)
                (grows.1 ∙ append-nil (from_card d []) ∙ brings_nothing d) ∙ append-nil got);
          }
      | inr ends ↦ absurd ends.1
    ]

abbrev pub Falls : Course → Stage → Stage → Type 0
Falls plan old new = (new ≡ Taking_header []) ⊎ (still_to_go new plan < still_to_go old plan)

really_falls : (plan : Course) (old new : Stage) → under_way new plan ≡ plan ∷ []
    → Falls plan old new → still_to_go new plan < still_to_go old plan
really_falls plan old new under (inl rests) = absurd (no_rest new plan under rests)
really_falls plan old new under (inr less) = less

abbrev pub Steps : {C : Type 0} (card : Ghosts C) → Course → EndOf C → ℕ → EndOf C → Type 0
Steps card plan old byte new = (cut : ℕ) (at : Front)
    → StandsAt card.Does (card.standing old.card) (card.prepared old.card) old.stage cut at
    → Advances card.Does cut plan old.stage at byte (card.standing old.card)
    (card.standing new.card) (card.prepared new.card) new.stage

-- it sends a character other than SW2, which brings these data
abbrev pub GoesFurther : {C : Type 0} (card : Ghosts C) (first : card.State) → Course → Asked
    → List ℕ → List ℕ → EndOf C → EndOf C → Type 0
GoesFurther card first plan asked before got old new =
    IsAnswering card first plan asked before got new
    × (still_to_go new.stage plan < still_to_go old.stage plan)

further : {C : Type 0} (card : Ghosts C) (first : card.State) (plan : Course) (asked : Asked)
    (before got more : List ℕ) (old new : EndOf C) (byte : ℕ) (b : Body)
    (on : IsAnswering card first plan asked before got old) → on.front ≡ In_body b
    → ((later : Front) → GoesOn (In_body b) (Card, byte) later → GrowsBy asked b more later)
    → Falls plan old.stage new.stage → KeepsDirection old.stage new.stage
    → Steps card plan old byte new
    → GoesFurther card first plan asked before (got ++ more) old new
further card first plan asked before got more old new byte b on is grows falls keeps steps =
    let Goes : Front → Type 0 = λ x. Advances card.Does plan.cut plan old.stage x byte
    (card.standing old.card) (card.standing new.card) (card.prepared new.card) new.stage in
    let On : Front → Type 0 = λ x. IsOnPlan old.stage plan x in
    elim (subst Goes is (steps plan.cut on.front on.stands)) [
      | inl goes ↦
          let more_is = grows goes.0 goes.1 in
          let under = begun card.Does (card.standing new.card) (card.prepared new.card) new.stage
          plan.cut byte plan (In_body b) goes.0 goes.1 goes.2 in (
            record {
              whole = on.whole;
              front = goes.0;
              is_front = (goes_on (In_body b) goes.0 (Card, byte) (subst IsFront is on.is_front)
                  goes.1).0;
              stands = goes.2;
              on_plan = goes.4 (subst On is on.on_plan);
              stays = goes.3 ∙ on.stays;
              is_of = more_is.0;
              permitted = stays_permitted card.MayReceive card.MaySend asked.header old.stage
                  new.stage keeps on.permitted;
              begun = under;
              gathers = ap (λ x. x ++ more) (on.gathers ∙ ap (λ x. before ++ brought x) is)
                  ∙ append_assoc before (brought (In_body b)) more
                  ∙ ap (λ x. before ++ x) (sym more_is.1);
            },
            really_falls plan old.stage new.stage under falls,
          )
      | inr ends ↦ absurd ends.1
    ]

is_of_body : (asked : Asked) (at : Front) (b : Body) → at ≡ In_body b → IsFrontOf asked at
    → IsOf asked b
is_of_body asked at b is of = let P : Front → Type 0 = λ x. IsFrontOf asked x in subst P is of

-- a procedure byte, or SW1
pub passes_procedure : {C : Type 0} (card : Ghosts C) (first : card.State) (plan : Course)
    (asked : Asked) (before got : List ℕ) (old new : EndOf C) (byte : ℕ)
    → IsAnswering card first plan asked before got old → awaited_in old.stage ≡ next.Procedure
    → Falls plan old.stage new.stage → KeepsDirection old.stage new.stage
    → Steps card plan old byte new
    → GoesFurther card first plan asked before got old new
passes_procedure card first plan asked before got old new byte on is falls keeps steps =
    let (b, at, between) = between_at card.Does (card.standing old.card) (card.prepared old.card)
    old.stage plan.cut on.front on.stands is in
    let P : List ℕ → Type 0 = λ x. GoesFurther card first plan asked before x old new in
    subst P (append-nil got)
    (further card first plan asked before got [] old new byte b on at
    (λ later goes. grows_between asked b byte later (is_of_body asked on.front b at on.is_of)
    between goes) falls keeps steps)

-- a data character of the card
pub passes_data : {C : Type 0} (card : Ghosts C) (first : card.State) (plan : Course)
    (asked : Asked) (before got : List ℕ) (old new : EndOf C) (place byte : ℕ)
    → IsAnswering card first plan asked before got old → awaited_in old.stage ≡ next.OfCard place
    → place < asked.may_come → Falls plan old.stage new.stage → KeepsDirection old.stage new.stage
    → Steps card plan old byte new
    → GoesFurther card first plan asked before (got ++ byte ∷ []) old new
passes_data card first plan asked before got old new place byte on is fits falls keeps steps =
    let (b, at, due, from, place_is) = sending_at card.Does (card.standing old.card)
    (card.prepared old.card) old.stage plan.cut place on.front on.stands is in
    further card first plan asked before got (byte ∷ []) old new byte b on at
    (λ later goes. grows_sending asked b byte later (is_of_body asked on.front b at on.is_of) due
    from (omega (arith, place_is, fits)) goes) falls keeps steps

-- a run of them
rest_passes : {C : Type 0} (card : Ghosts C) (first : card.State) (plan : Course) (asked : Asked)
    (before got run : List ℕ) (old new : EndOf C)
    → IsAnswering card first plan asked before got old
    → ((place : ℕ) → awaited_in old.stage ≡ next.OfCard place
    → place + length run ≤ asked.may_come)
    → buffers.Steps (IsHandedOut card) old run new
    → IsAnswering card first plan asked before (got ++ run) new
    × (still_to_go new.stage plan ≤ still_to_go old.stage plan)
rest_passes {C = C} card first plan asked before got [] old new on fits same =
    let P : EndOf C → List ℕ → Type 0 = λ e bs. IsAnswering card first plan asked before bs e
    × (still_to_go e.stage plan ≤ still_to_go old.stage plan) in
    subst (λ e. P e (got ++ [])) (sym same)
    (subst (λ bs. P old bs) (sym (append-nil got)) (on, omega arith))
rest_passes {C = C} card first plan asked before got (b ∷ run) old new on fits (mid, sent, more) =
    let room = fits sent.place sent.awaited in
    let one = passes_data card first plan asked before got old mid sent.place b on sent.awaited
    (omega (arith, room)) (inr (sent.falls plan)) sent.keeps
    (λ cut at stands. sent.advances cut plan at stands) in
    let rest = rest_passes card first plan asked before (got ++ b ∷ []) run mid new one.0
    (λ place is. omega (arith, sent.later place is, room)) more in (
      subst (λ bs. IsAnswering card first plan asked before bs new) (append_assoc got (b ∷ []) run)
          rest.0,
      omega (arith, one.1, rest.1),
    )

pub passes_run : {C : Type 0} (card : Ghosts C) (first : card.State) (plan : Course)
    (asked : Asked) (before got run : List ℕ) (old new : EndOf C) (place : ℕ)
    → IsAnswering card first plan asked before got old → awaited_in old.stage ≡ next.OfCard place
    → 0 < length run → place + length run ≤ asked.may_come
    → buffers.Steps (IsHandedOut card) old run new
    → GoesFurther card first plan asked before (got ++ run) old new
passes_run card first plan asked before got [] old new place on is some fits steps =
    absurd (omega (arith, some))
passes_run {C = C} card first plan asked before got (b ∷ run) old new place on is some fits
    (mid, sent, more) =
    let same : sent.place ≡ place = same_card_place sent.place place (sym sent.awaited ∙ is) in
    let one = passes_data card first plan asked before got old mid sent.place b on sent.awaited
    (omega (arith, same, fits)) (inr (sent.falls plan)) sent.keeps
    (λ cut at stands. sent.advances cut plan at stands) in
    let rest = rest_passes card first plan asked before (got ++ b ∷ []) run mid new one.0
    (λ other at. omega (arith, sent.later other at, same, fits)) more in (
      subst (λ bs. IsAnswering card first plan asked before bs new) (append_assoc got (b ∷ []) run)
          rest.0,
      omega (arith, one.1, rest.1),
    )

-- a run that there is room for has a byte
pub some_taken : (n len most got limit : ℕ) → 0 < len → 0 < most → (got == limit) ≡ false
    → (n ≡ len) ⊎ (n ≡ most) ⊎ (got + n ≡ limit) → 0 < n
some_taken n len most got limit some room spare (inl all) = omega (arith, some, all)
some_taken n len most got limit some room spare (inr (inl whole)) = omega (arith, room, whole)
some_taken zero len most got limit some room spare (inr (inr full)) =
    let is = eq-eqb got limit (omega (arith, full)) in
    let no : true ≡ false = sym is ∙ spare in absurd (cc)
some_taken (suc n) len most got limit some room spare (inr (inr full)) = omega arith

-- SW2
pub passes_second : {C : Type 0} (card : Ghosts C) (first : card.State) (plan : Course)
    (asked : Asked) (before : List ℕ) (room : Room) (old new : EndOf C) (sw1 byte : ℕ)
    → IsCut plan.cut → IsAnswering card first plan asked before room.bytes old
    → awaited_in old.stage ≡ next.Second sw1 → Steps card plan old byte new
    → IsStatusWord (sw1, byte) × Ends card first plan asked before room new (sw1, byte)
passes_second card first plan asked before room old new sw1 byte cut on is steps =
    let (b, at) = ending_at card.Does (card.standing old.card) (card.prepared old.card) old.stage
    plan.cut sw1 on.front on.stands is in
    let Goes : Front → Type 0 = λ x. Advances card.Does plan.cut plan old.stage x byte
    (card.standing old.card) (card.standing new.card) (card.prepared new.card) new.stage in
    let On : Front → Type 0 = λ x. IsOnPlan old.stage plan x in
    let Of : Front → Type 0 = λ x. IsFrontOf asked x in
    elim (subst Goes at (steps plan.cut on.front on.stands)) [
      | inl goes ↦ absurd goes.1
      | inr ends ↦
          let d = ends.0 in
          let same : d ≡ record { body = b; status = (sw1, byte) } = ends.1.2 in
          let OfBody : Dialogue → Type 0 = λ x. IsOf asked x.body in
          let From : card.State → Type 0 =
          λ s. card.Does s plan.cut (tpdu_of d) (card.standing new.card) in
          let Word : StatusWord → Type 0 = λ s. IsStatusWord s in
          let status : d.status ≡ (sw1, byte) = ap (λ (x : Dialogue). x.status) same in (
            subst Word status ends.2.is_status,
            (
              ends.5,
              (
                d,
                record {
                  is_of = subst OfBody (sym same) (subst Of at on.is_of);
                  under_plan = record {
                    is_dialogue = ends.2;
                    in_range = cut;
                    follows = ends.6 (subst On at on.on_plan);
                  };
                  does = subst From on.stays ends.4;
                  all_or_none = all_or_none asked d (subst OfBody (sym same) (subst Of at on.is_of))
                      (ends.6 (subst On at on.on_plan)).all_or_nothing on.whole;
                  fits = fits_asked asked d (subst OfBody (sym same) (subst Of at on.is_of));
                  gathers = on.gathers ∙ ap (λ x. before ++ brought x) at
                      ∙ ap (λ x. before ++ x)
                      (sym (ap (λ (x : Dialogue). received x) same ∙ received_is b (sw1, byte)));
                  status_is = status;
                },
              ),
            ),
          )
    ]

taken_permitted : (MayReceive MaySend : Header → Type 0) (header : Header) (stage : Stage)
    (byte : ℕ)
    → IsPermitted MayReceive MaySend header stage
    → IsPermitted MayReceive MaySend header (with_character stage byte)
taken_permitted MayReceive MaySend header (Taking_header bytes) byte may = tt
taken_permitted _ _ _ _ _ may = may

-- a data character of the terminal
pub passes_own : {C : Type 0} (card : Ghosts C) (first : card.State) (plan : Course)
    (asked : Asked) (before got : List ℕ) (old new : EndOf C) (place byte : ℕ)
    → IsAnswering card first plan asked before got old
    → awaited_in old.stage ≡ next.OfTerminal place → slice_get asked.content place ≡ Some byte
    → listens old.stage ≡ true
    → new ≡ record { card = old.card; stage = with_character old.stage byte }
    → ((p : Course) → still_to_go new.stage p < still_to_go old.stage p)
    → ((cut : ℕ) (at later : Front)
    → StandsAt card.Does (card.standing old.card) (card.prepared old.card) old.stage cut at
    → GoesOn at (Terminal, byte) later
    → StandsAt card.Does (card.standing new.card) (card.prepared new.card) new.stage cut later
    × ((p : Course) → IsOnPlan old.stage p at → IsOnPlan new.stage p later))
    → GoesFurther card first plan asked before got old new
passes_own {C = C} card first plan asked before got old new place byte on is byte_is due taken falls
    steps =
    let (b, at, lt, to, place_is) = taking_at card.Does (card.standing old.card)
    (card.prepared old.card) old.stage plan.cut place on.front on.stands is in
    let of = is_of_body asked on.front b at on.is_of in
    let later = In_body (with_moved b byte) in
    let Goes : Front → Type 0 = λ x. GoesOn x (Terminal, byte) later in
    let May : EndOf C → Type 0 =
    λ x. IsPermitted card.MayReceive card.MaySend asked.header x.stage in
    let step = steps plan.cut on.front later on.stands
    (subst Goes (sym at) (inl (lt, ap data_sender (sym to), refl))) in (
      record {
        whole = on.whole;
        front = later;
        is_front = (goes_on (In_body b) later (Terminal, byte) (subst IsFront at on.is_front)
            (inl (lt, ap data_sender (sym to), refl))).0;
        stands = step.0;
        on_plan = step.1 plan on.on_plan;
        stays = ap (λ (e : EndOf C). card.standing e.card) taken ∙ on.stays;
        is_of = (
          of.0,
          of.1,
          own_to_card b.direction asked (b.moved ++ byte ∷ []) to
              (own_one asked.content b.moved byte place
              (own_was b.direction asked b.moved to of.2) place_is byte_is),
        );
        permitted = subst May (sym taken)
            (taken_permitted card.MayReceive card.MaySend asked.header old.stage byte
            on.permitted);
        begun = ap (λ (e : EndOf C). under_way e.stage plan) taken
            ∙ taken_stays old.stage plan byte ∙ on.begun;
        gathers = on.gathers ∙ ap (λ x. before ++ brought x) at
            ∙ ap (λ x. before ++ x) (brings_none b.direction b.moved to
            ∙ sym (brings_none b.direction (b.moved ++ byte ∷ []) to));
      },
      falls plan,
    )

-- and the next one, if the end listens
still_own : (stage : Stage) (place byte : ℕ) → awaited_in stage ≡ next.OfTerminal place
    → listens (with_character stage byte) ≡ true
    → awaited_in (with_character stage byte) ≡ next.OfTerminal (place + 1)
still_own (Serving s came) place byte is due =
    let was = terminal_due (nat_lt s.moved s.until) s.direction s.moved s.until place refl is in
    let more = due_data s.direction (s.moved + 1) s.until due in
    rw (lt-ltb (s.moved + 1) s.until more.1) (rw more.0
    (ap (λ n. next.OfTerminal (n + 1)) was.2))
still_own (Taking_header bytes) place byte is due = absurd (cc)
still_own (Refusing header p3 status done) place byte is due = absurd (cc)
still_own (Ending status) place byte is due = absurd (cc)

-- the first step of a run
one_of : {C : Type 0} (card : Ghosts C) (content : List ℕ) (n place : ℕ) (old new : EndOf C)
    → place < length content
    → buffers.Steps (IsTaken card) old (take (suc n) (drop place content)) new
    → (mid : EndOf C) × IsTaken card old (get_or content place 0) mid
    × buffers.Steps (IsTaken card) mid (take n (drop (place + 1) content)) new
one_of card content n place old new lt steps =
    subst (λ bs. buffers.Steps (IsTaken card) old (take (suc n) bs) new)
    (drop_more content place 0 lt) steps

-- a run of them
pub passes_own_run : {C : Type 0} (card : Ghosts C) (first : card.State) (plan : Course)
    (asked : Asked) (before got : List ℕ) (n place : ℕ) (old new : EndOf C)
    → IsAnswering card first plan asked before got old
    → awaited_in old.stage ≡ next.OfTerminal place → 0 < n → place + n ≤ length asked.content
    → buffers.Steps (IsTaken card) old (take n (drop place asked.content)) new
    → GoesFurther card first plan asked before got old new
passes_own_run card first plan asked before got zero place old new on is some fits steps =
    absurd (omega (arith, some))
passes_own_run card first plan asked before got (suc zero) place old new on is some fits steps =
    let content = asked.content in
    let lt : place < length content = omega (arith, fits) in
    let (mid, taken, same) = one_of card content 0 place old new lt steps in
    subst (λ e. GoesFurther card first plan asked before got old e) (sym same)
    (passes_own card first plan asked before got old mid place (get_or content place 0) on is
    (slice_get-get_or content place 0 lt) taken.listening taken.taken taken.falls taken.goes_on)
passes_own_run card first plan asked before got (suc (suc n)) place old new on is some fits steps =
    let content = asked.content in
    let lt : place < length content = omega (arith, fits) in
    let byte = get_or content place 0 in
    let (mid, taken, more) = one_of card content (suc n) place old new lt steps in
    let one = passes_own card first plan asked before got old mid place byte on is
    (slice_get-get_or content place 0 lt) taken.listening taken.taken taken.falls taken.goes_on in
    let stage : mid.stage ≡ with_character old.stage byte =
    ap (λ (e : EndOf _). e.stage) taken.taken in
    let (_, later, _) = one_of card content n (place + 1) mid new (omega (arith, fits)) more in
    let on_next = subst (λ x. awaited_in x ≡ next.OfTerminal (place + 1)) (sym stage)
    (still_own old.stage place byte is (subst (λ x. listens x ≡ true) stage later.listening)) in
    let rest = passes_own_run card first plan asked before got (suc n) (place + 1) mid new one.0
    on_next (omega arith) (omega (arith, fits)) more in
    (rest.0, omega (arith, one.1, rest.1))

own_listens : (stage : Stage) (place : ℕ) → awaited_in stage ≡ next.OfTerminal place
    → listens stage ≡ true
own_listens (Serving s came) place is =
    let was = terminal_due (nat_lt s.moved s.until) s.direction s.moved s.until place refl is in
    data_are_due s.direction s.moved s.until (ap comes_from_terminal was.1) was.0
own_listens (Taking_header bytes) place is = absurd (cc)
own_listens (Refusing header p3 status done) place is = absurd (cc)
own_listens (Ending status) place is = absurd (cc)

-- the end takes at least one
pub some_own : {C : Type 0} (card : Ghosts C) (n place : ℕ) (bs : List ℕ) (old new : EndOf C)
    → awaited_in old.stage ≡ next.OfTerminal place → 0 < length bs
    → buffers.Steps (IsTaken card) old (take n bs) new
    → (n ≡ length bs) ⊎ ((n < length bs) × (listens new.stage ≡ false)) → 0 < n
some_own card zero place bs old new is some steps (inl all) = omega (arith, some, all)
some_own card zero place bs old new is some steps (inr few) =
    let e : true ≡ false = sym (own_listens old.stage place is)
    ∙ ap (λ (x : EndOf _). listens x.stage) (sym steps) ∙ few.1 in
    absurd (cc)
some_own card (suc n) place bs old new is some steps all = omega arith

-- ---- errors

-- data move only as permitted
moves_permitted : {State : Type 0} (Does : State → ℕ → Tpdu → State → Type 0) (s : State)
    (p : Prepared State) (stage : Stage) (cut : ℕ) (b : Body) (MayReceive MaySend : Header → Type 0)
    (header : Header) → StandsAt Does s p stage cut (In_body b) → length b.moved < to_move b
    → IsPermitted MayReceive MaySend header stage
    → PermitsData MayReceive MaySend header b.direction
moves_permitted Does s p (Taking_header bytes) cut b MayReceive MaySend header stands due
    may =
    absurd (omega (arith, due, ap to_move stands.1))
moves_permitted Does s p (Refusing h p3 status done) cut b MayReceive MaySend header stands due
    may =
    absurd (omega (
      arith,
      due,
      nulls_move_nothing b.segments (foreseen b.direction b.p3) stands.nulls,
    ))
moves_permitted Does s p (Serving service came) cut b MayReceive MaySend header stands due may =
    let P : Direction → Type 0 = λ d. PermitsData MayReceive MaySend header d in
    subst P (sym stands.direction_is) may
moves_permitted Does s p (Ending status) cut b MayReceive MaySend header stands due may =
    absurd stands

stuck : {C : Type 0} (card : Ghosts C) (first : card.State) (plan : Course)
    (asked : Asked) (before : List ℕ) (room : Room) (e : EndOf C) (b : Body)
    (on : IsAnswering card first plan asked before room.bytes e) → on.front ≡ In_body b
    → length b.moved < to_move b → IsStuck card first plan asked before room b e
stuck card first plan asked before room e b on at lt =
    let At : Front → Type 0 =
    λ x. StandsAt card.Does (card.standing e.card) (card.prepared e.card) e.stage plan.cut x in
    let On : Front → Type 0 = λ x. IsOnPlan e.stage plan x in
    record {
      is_front = subst IsFront at on.is_front;
      stands = subst At at on.stands;
      on_plan = subst On at on.on_plan;
      stays = on.stays;
      is_of = is_of_body asked on.front b at on.is_of;
      gathers = on.gathers ∙ ap (λ x. before ++ brought x) at;
      permitted = moves_permitted card.Does (card.standing e.card) (card.prepared e.card) e.stage
          plan.cut b card.MayReceive card.MaySend asked.header (subst At at on.stands) lt
          on.permitted;
      due = lt;
    }

pub wants_more : {C : Type 0} (card : Ghosts C) (first : card.State) (plan : Course)
    (asked : Asked) (before : List ℕ) (room : Room) (e : EndOf C) (place : ℕ)
    → IsAnswering card first plan asked before room.bytes e
    → awaited_in e.stage ≡ next.OfTerminal place → length asked.content ≤ place
    → Sticks card first plan asked before room e WantsData
wants_more card first plan asked before room e place on is past =
    let (b, at, lt, to, place_is) = taking_at card.Does (card.standing e.card)
    (card.prepared e.card) e.stage plan.cut place on.front on.stands is in (
      b,
      stuck card first plan asked before room e b on at lt,
      (to, omega (arith, past, place_is)),
    )

-- if no plan is taken, the cursor is unchanged
pub cursor_stays : (v : Bool) (new other old : Cursor) → v ≡ false
    → new ≡ (if v then other else old) → new ≡ old
cursor_stays false new other old none is = is
cursor_stays true new other old none is = absurd (cc)

pub takes_none : (v : Bool) → v ≡ false → v ≡ true → ⊥
takes_none v none takes = absurd (cc)

-- the two bytes are a status
pub second_is : {A : Type 0} (r : Option A) (P N : Type 0) (x : A) (Q : A → Type 0) → P
    → SomeIff r P x → Q x → MatchOption r N Q
second_is None P N x Q p is q = absurd (is p)
second_is (Some y) P N x Q p is q = subst Q (sym is.1) q

some_is : {A : Type 0} (a b : A) → Some a ≡ Some b → a ≡ b
some_is a b e = cc

pub at_some : {A : Type 0} (o : Option A) (N : Type 0) (Q : A → Type 0) (x : A) → o ≡ Some x
    → MatchOption o N Q → Q x
at_some None N Q x is m = absurd (cc)
at_some (Some y) N Q x is m = subst Q (some_is y x is) m

pub at_none : {A : Type 0} (o : Option A) (N : Type 0) (Q : A → Type 0) → o ≡ None
    → MatchOption o N Q → N
at_none None N Q is m = m
at_none (Some y) N Q is m = absurd (cc)

-- ---- histories

no_characters : {State : Type 0} (Does : State → ℕ → Tpdu → State → Type 0) (s : State)
    (p : Prepared State) (cut : ℕ) (at : Front) → StandsAt Does s p (Taking_header []) cut at
    → front_characters at ≡ []
no_characters Does s p cut (In_header f) stands = ap (sent_by Terminal) stands.0
no_characters Does s p cut (In_body b) stands = absurd (omega (arith, ap length stands.0))
no_characters Does s p cut (After_first b sw1) stands = absurd stands

-- before the first character
came_before : {State : Type 0} (Does : State → ℕ → Tpdu → State → Type 0)
    (after_reset : State → State) (old : State) (was : Prepared State) (first : State)
    (events : List Event) (led : Leads Does after_reset first events old was (Taking_header []))
    → events ≡ flat_map events_of led.items
came_before Does after_reset old was first events led =
    let all = flat_map events_of led.items in
    led.events_are
    ∙ ap (λ x. all ++ passed x)
    (no_characters Does old was led.cut led.front led.at_front.stands)
    ∙ append-nil all

leads_with : {State : Type 0} (Does : State → ℕ → Tpdu → State → Type 0) (old new : State)
    (was is : Prepared State) (plan : Course) (asked : Asked) (before got : List ℕ)
    (status : StatusWord) (d : Dialogue)
    → IsCarriedOut Does old plan asked before got new status d
    → (first : State) (came : List Character) (taken : List Course)
    → LeadsUnder Does first came taken old was (Taking_header [])
    → LeadsUnder Does first (came ++ characters d) (taken ++ plan ∷ []) new is (Taking_header [])
leads_with Does old new was is plan asked before got status d out first came taken led =
    let all = flat_map characters led.whole in
    record {
      whole = led.whole ++ d ∷ [];
      plans = led.plans ++ plan ∷ [];
      plan = plan;
      front = fresh;
      taken_is = ap (λ x. x ++ plan ∷ []) (led.taken_is ∙ append-nil led.plans)
          ∙ sym (append-nil (led.plans ++ plan ∷ []));
      came_is = ap (λ x. x ++ characters d) (led.came_is
          ∙ ap (λ x. all ++ x)
          (no_characters Does old was led.plan.cut led.front led.at_front.stands)
          ∙ append-nil all)
          ∙ sym (flat_map_last characters led.whole d)
          ∙ sym (append-nil (flat_map characters (led.whole ++ d ∷ [])));
      done = record {
        one_each = one_more_each led.plans led.whole plan d led.done.one_each;
        cuts = all_more (λ p. IsCut p.cut) led.plans plan led.done.cuts out.under_plan.in_range;
        are_dialogues = all_more IsDialogue led.whole d led.done.are_dialogues
            out.under_plan.is_dialogue;
        follow = follow_each led.whole led.plans d plan led.done.one_each led.done.follow
            out.under_plan.follows;
        runs = runs_each Does first old new led.whole led.plans d plan led.done.one_each
            led.done.runs out.does;
      };
      at_front = at_fresh Does new is plan.cut out.under_plan.in_range;
      on_plan = tt;
      begins = planned_under Does new is (Taking_header []) plan.cut plan fresh
          out.under_plan.in_range (lit< tt) (refl, lit< tt) tt;
    }

leads_whole : {State : Type 0} (Does : State → ℕ → Tpdu → State → Type 0)
    (after_reset : State → State) (old new : State) (was is : Prepared State) (plan : Course)
    (asked : Asked) (before got : List ℕ) (status : StatusWord) (d : Dialogue)
    → IsCarriedOut Does old plan asked before got new status d
    → (first : State) (events : List Event)
    → Leads Does after_reset first events old was (Taking_header [])
    → Leads Does after_reset first (events ++ passed (characters d)) new is (Taking_header [])
leads_whole Does after_reset old new was is plan asked before got status d out first events led =
    let all = flat_map events_of led.items in
    record {
      items = led.items ++ Whole d ∷ [];
      cut = plan.cut;
      front = fresh;
      events_are = ap (λ x. x ++ passed (characters d)) (came_before Does after_reset old was first
          events led)
          ∙ sym (flat_map_last events_of led.items (Whole d))
          ∙ sym (append-nil (flat_map events_of (led.items ++ Whole d ∷ [])));
      runs = whole_more Does after_reset first old new led.items d plan led.runs out.under_plan
          out.does;
      at_front = at_fresh Does new is plan.cut out.under_plan.in_range;
    }

pub leads_on_by : {C : Type 0} (card : Ghosts C) (plan : Course) (asked : Asked)
    (before got : List ℕ) (status : StatusWord) (old new : EndOf C) (d : Dialogue)
    → old.stage ≡ Taking_header [] → new.stage ≡ Taking_header []
    → IsCarriedOut card.Does (card.standing old.card) plan asked before got
    (card.standing new.card) status d
    → LeadsOnBy card plan old new d
leads_on_by card plan asked before got status old new d rested rests out = (
  (λ first events led.
      let Was : Stage → Type 0 = λ s. Leads card.Does card.after_reset first events
      (card.standing old.card) (card.prepared old.card) s in
      let Is : Stage → Type 0 = λ s. Leads card.Does card.after_reset first
      (events ++ passed (characters d)) (card.standing new.card) (card.prepared new.card) s in
      subst Is (sym rests)
      (leads_whole card.Does card.after_reset (card.standing old.card) (card.standing new.card)
      (card.prepared old.card) (card.prepared new.card) plan asked before got status d out first
      events (subst Was rested led))),
  (λ first came taken led.
      let Was : Stage → Type 0 = λ s. LeadsUnder card.Does first came taken
      (card.standing old.card) (card.prepared old.card) s in
      let Is : Stage → Type 0 = λ s. LeadsUnder card.Does first (came ++ characters d)
      (taken ++ plan ∷ []) (card.standing new.card) (card.prepared new.card) s in
      subst Is (sym rests)
      (leads_with card.Does (card.standing old.card) (card.standing new.card)
      (card.prepared old.card) (card.prepared new.card) plan asked before got status d out first
      came taken (subst Was rested led))),
)

-- up to the character where the end is stuck
pub leads_to_stuck : {C : Type 0} (card : Ghosts C) (plan : Course) (asked : Asked)
    (before : List ℕ) (room : Room) (old e : EndOf C) (b : Body)
    → old.stage ≡ Taking_header [] → IsCut plan.cut
    → IsStuck card (card.standing old.card) plan asked before room b e
    → (first : card.State) (events : List Event)
    → Leads card.Does card.after_reset first events (card.standing old.card)
    (card.prepared old.card) old.stage
    → Leads card.Does card.after_reset first (events ++ passed (body_characters b))
    (card.standing e.card) (card.prepared e.card) e.stage
leads_to_stuck card plan asked before room old e b rested cut is first events led =
    let Was : Stage → Type 0 = λ s. Leads card.Does card.after_reset first events
    (card.standing old.card) (card.prepared old.card) s in
    let was = subst Was rested led in
    let Ran : card.State → Type 0 =
    λ s. RunsOver card.Does card.after_reset first was.items s in
    record {
      items = was.items;
      cut = plan.cut;
      front = In_body b;
      events_are = ap (λ x. x ++ passed (body_characters b))
          (came_before card.Does card.after_reset (card.standing old.card)
          (card.prepared old.card) first events was);
      runs = subst Ran (sym is.stays) was.runs;
      at_front = at_front card.Does (card.standing e.card) (card.prepared e.card) e.stage plan.cut
          (In_body b) is.is_front cut is.stands;
    }

pub rested : (stage : Stage) → rests stage ≡ true → stage ≡ Taking_header []
rested (Taking_header []) is = refl
rested (Taking_header (b ∷ bs)) is =
    absurd (omega (arith, eqb-true (length (b ∷ bs)) 0 is))
rested _ is = absurd (cc)
