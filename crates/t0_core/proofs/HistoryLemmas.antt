-- What led to an end leads on with the next character.
use Rattle.std.proofs.Common.{◌≡◌, ℕ, ◌+◌, ◌<◌, List, [], ◌∷◌, ◌++◌, length, refl, sym, subst, ◌∙◌, ap, arith, inl, inr, lit<, lit≤, true, false, Bool, ◌&&◌, nat_lt, append-nil, append_assoc, if◌then◌else◌, length-append, eq-eqb}
use Rattle.std.specs.List.{flat_map}
use Rattle.std.proofs.lemmas.Bool.{ltb-true, ltb-false, lt-ltb}
use Rattle.t0_core.specs.declared.end.End.TheVariants.{Terminal, Card}
use Rattle.t0_core.specs.declared.direction.Direction.{Direction}
use Rattle.t0_core.specs.declared.direction.Direction.TheVariants.{ToCard, FromCard}
use Rattle.t0_core.specs.declared.card_end.Turn.{Turn}
use Rattle.t0_core.specs.declared.card_end.Turn.TheVariants.{Sends, Listens}
use Rattle.t0_core.specs.declared.service.Service.{Service}
use Rattle.t0_core.specs.Character.{Character}
use Rattle.t0_core.specs.Dialogue.{Body, Dialogue, data_sender, foreseen, to_move, body_characters, characters, IsDialogue}
use Rattle.t0_core.specs.Plan.{Course, IsCut, Cursor, advanced, plan_kept}
use Rattle.t0_core.specs.Meaning.{Tpdu, tpdu_of, Prepared}
use Rattle.t0_core.specs.Front.{Front, In_header, In_body, After_first, front_characters, GoesOn, Ends, fresh, header_only, with_moved}
use Rattle.t0_core.specs.CardSide.{Stage, EndOf, Taking_header, Refusing, Serving, Ending, StandsAt, Advances, IsServed, IsOnPlan, SuitsFront, listens, with_character, takes_plan, comes_from_terminal, one_moved, ServesBy}
use Rattle.t0_core.specs.History.{Event, Passed, Reset, Item, Whole, Cut_off, IsPart, IsPartUnder, IsUnderPlan, RunsOver, events_of, passed}
use Rattle.t0_core.specs.CardHistory.{IsAt, Leads, AreDone, LeadsUnder, IsTakenLast, under_way}
use Rattle.t0_core.proofs.PlannedFront.{at_front, at_fresh, planned_under}
use Rattle.std.proofs.lemmas.List.{map-append}
use Rattle.t0_core.specs.DialogueLaws.{flat_map_last, follow_each, all_more, runs_each, one_more_each, ends_with, events_item}
use Rattle.t0_core.specs.FrontLaws.{goes_on, begins_between}
use Rattle.t0_core.proofs.PlanLemmas.{nulls_move_nothing}
use Rattle.t0_core.specs.CardLaws.{due_data, next_front, taken_stays, begun}
use Rattle.t0_core.proofs.CardLemmas.{direction_in, suits_itself}

-- the empty history leads to a fresh end
pub leads_fresh : {State : Type 0} (Does : State → ℕ → Tpdu → State → Type 0)
    (after_reset : State → State) (standing : State) (prepared : Prepared State)
    → Leads Does after_reset standing [] standing prepared (Taking_header [])
leads_fresh Does after_reset standing prepared = record {
  items = [];
  cut = 256;
  front = fresh;
  events_are = refl;
  runs = refl;
  at_front = at_fresh Does standing prepared 256 (lit≤ tt, lit≤ tt);
}

-- a dialogue under any plan begins with no characters
begins_fresh : {State : Type 0} (Does : State → ℕ → Tpdu → State → Type 0) (standing : State)
    (prepared : Prepared State) (plan : Course) → IsCut plan.cut
    → IsPartUnder plan (front_characters fresh)
begins_fresh Does standing prepared plan in_range =
    planned_under Does standing prepared (Taking_header []) plan.cut plan fresh in_range (lit< tt)
    (refl, lit< tt) tt

pub leads_under_fresh : {State : Type 0} (Does : State → ℕ → Tpdu → State → Type 0)
    (standing : State) (prepared : Prepared State)
    → LeadsUnder Does standing [] [] standing prepared (Taking_header [])
leads_under_fresh Does standing prepared = record {
  whole = [];
  plans = [];
  plan = record { steps = []; cut = 256 };
  front = fresh;
  taken_is = refl;
  came_is = refl;
  done = record { one_each = refl; cuts = tt; are_dialogues = tt; follow = tt; runs = refl };
  at_front = at_fresh Does standing prepared 256 (lit≤ tt, lit≤ tt);
  on_plan = tt;
  begins = begins_fresh Does standing prepared (record { steps = []; cut = 256 })
      (lit≤ tt, lit≤ tt);
}

-- the terminal sends a character where one of its own is next
terminal_sends : (d : Direction) → Terminal ≡ data_sender d → comes_from_terminal d ≡ true
terminal_sends ToCard is = refl
terminal_sends FromCard is = absurd (cc)

pub data_are_due : (d : Direction) (a b : ℕ) → comes_from_terminal d ≡ true → a < b
    → (comes_from_terminal d && nat_lt a b) ≡ true
data_are_due ToCard a b way lt = lt-ltb a b lt
data_are_due FromCard a b way lt = absurd (cc)

pub terminal_is_due : {State : Type 0} (Does : State → ℕ → Tpdu → State → Type 0) (standing : State)
    (prepared : Prepared State) (stage : Stage) (cut byte : ℕ) (front new : Front)
    → StandsAt Does standing prepared stage cut front → GoesOn front (Terminal, byte) new
    → listens stage ≡ true
terminal_is_due Does s p (Taking_header bytes) cut byte (In_header f) new stands goes =
    lt-ltb (length bytes) 5 stands.1
terminal_is_due Does s p (Taking_header bytes) cut byte (In_body b) new stands (inl moves) =
    let Moves : Body → Type 0 = λ x. length x.moved < to_move x in
    absurd (omega (arith, subst Moves stands.1 moves.0))
terminal_is_due Does s p (Refusing h p3 status done) cut byte (In_body b) new stands (inl moves) =
    let nothing : to_move b ≡ 0 =
    nulls_move_nothing b.segments (foreseen b.direction b.p3) stands.nulls in
    absurd (omega (arith, moves.0, nothing))
terminal_is_due Does s p (Serving service came) cut byte (In_body b) new stands (inl moves) =
    data_are_due service.direction service.moved service.until
    (ap comes_from_terminal (sym stands.direction_is) ∙ terminal_sends b.direction moves.1)
    (omega (arith, moves.0, stands.moved_is, stands.until_is))
terminal_is_due Does s p stage cut byte (In_body b) new stands (inr begins) =
    let e : Terminal ≡ Card = (begins_between b (Terminal, byte) new begins).1 in absurd (cc)
terminal_is_due Does s p (Ending status) cut byte (After_first b sw1) new stands goes = absurd goes
terminal_is_due _ _ _ _ _ _ _ _ stands _ = absurd stands

one_came : {State : Type 0} (prepared : Prepared State) (d : Direction) (s : Service)
    (came : List ℕ) (cut : ℕ) (moved : List ℕ) (byte : ℕ) → d ≡ ToCard
    → ServesBy prepared d s came cut moved
    → ServesBy prepared d (one_moved s) (came ++ byte ∷ []) cut (moved ++ byte ∷ [])
one_came prepared ToCard s came cut moved byte way serves =
    (ap (λ x. x ++ byte ∷ []) serves.0, serves.1)
one_came prepared FromCard s came cut moved byte way serves = absurd (cc)

data_taken : {State : Type 0} (prepared : Prepared State) (s : Service) (came : List ℕ)
    (cut byte : ℕ) (b : Body) → s.direction ≡ ToCard → s.moved < s.until
    → IsServed prepared s came cut b
    → IsServed prepared (one_moved s) (came ++ byte ∷ []) cut (with_moved b byte)
data_taken prepared s came cut byte b way lt served = record {
  header_is = served.header_is;
  p3_is = served.p3_is;
  direction_is = served.direction_is;
  moved_is = length-append b.moved (byte ∷ []) ∙ ap (λ n. n + 1) served.moved_is;
  until_is = served.until_is;
  begun = omega (arith, lt);
  within = served.within;
  frugal = served.frugal;
  valid = served.valid;
  serves = one_came prepared s.direction s came cut b.moved byte way served.serves;
}

-- the dialogue continues with a character of the terminal, and stays on its plan
abbrev pub Goes : {State : Type 0} (Does : State → ℕ → Tpdu → State → Type 0) (standing : State)
    (prepared : Prepared State) (old stage : Stage) (cut : ℕ) (front new : Front) → Type 0
Goes Does standing prepared old stage cut front new = StandsAt Does standing prepared stage cut new
    × ((plan : Course) → IsOnPlan old plan front → IsOnPlan stage plan new)

header_grows : {State : Type 0} (Does : State → ℕ → Tpdu → State → Type 0) (standing : State)
    (prepared : Prepared State) (bytes f : List ℕ) (cut byte : ℕ) (new : Front) → f ≡ bytes
    → GoesOn (In_header f) (Terminal, byte) new
    → StandsAt Does standing prepared (Taking_header (bytes ++ byte ∷ [])) cut new
header_grows Does s p bytes f cut byte new same (way, inl short) =
    let Stands : Front → Type 0 =
    λ x. StandsAt Does s p (Taking_header (bytes ++ byte ∷ [])) cut x in
    subst Stands (sym short.1) (
      ap (λ x. x ++ byte ∷ []) same,
      omega (arith, short.0, ap length same, length-append bytes (byte ∷ [])),
    )
header_grows Does s p bytes f cut byte new same (way, inr (h, direction, whole, is)) =
    let Stands : Front → Type 0 =
    λ x. StandsAt Does s p (Taking_header (bytes ++ byte ∷ [])) cut x in
    subst Stands (sym is) (ap (λ x. x ++ byte ∷ []) (sym same ∙ whole), refl)

pub takes_on : {State : Type 0} (Does : State → ℕ → Tpdu → State → Type 0) (standing : State)
    (prepared : Prepared State) (stage : Stage) (cut byte : ℕ) (front new : Front)
    → listens stage ≡ true → StandsAt Does standing prepared stage cut front
    → GoesOn front (Terminal, byte) new
    → Goes Does standing prepared stage (with_character stage byte) cut front new
takes_on Does s p (Taking_header bytes) cut byte (In_header f) new due stands goes =
    (header_grows Does s p bytes f cut byte new stands.0 goes, λ plan on. tt)
takes_on Does s p (Taking_header bytes) cut byte (In_body b) new due stands goes =
    absurd (omega (arith, ltb-true (length bytes) 5 due, ap length stands.0))
takes_on Does s p (Refusing h p3 status done) cut byte front new due stands goes = absurd (cc)
takes_on Does s p (Serving service came) cut byte (In_body b) new due stands (inl moves) =
    let data_due = due_data service.direction service.moved service.until due in
    let Taken : Front → Type 0 =
    λ x. Goes Does s p (Serving service came) (Serving (one_moved service) (came ++ byte ∷ []))
    cut (In_body b) x in
    subst Taken (sym moves.2) (
      data_taken p service came cut byte b data_due.0 data_due.1 stands,
      λ plan on. on,
    )
takes_on Does s p (Serving service came) cut byte (In_body b) new due stands (inr begins) =
    let e : Terminal ≡ Card = (begins_between b (Terminal, byte) new begins).1 in absurd (cc)
takes_on Does s p (Ending status) cut byte front new due stands goes = absurd (cc)
takes_on _ _ _ _ _ _ _ _ _ stands _ = absurd stands

-- one character further
came_with : (came : List Character) (whole : List Dialogue) (front new : Front) (c : Character)
    → came ≡ flat_map characters whole ++ front_characters front
    → front_characters new ≡ front_characters front ++ c ∷ []
    → came ++ c ∷ [] ≡ flat_map characters whole ++ front_characters new
came_with came whole front new c is grown =
    ap (λ cs. cs ++ c ∷ []) is ∙ append_assoc (flat_map characters whole) (front_characters front)
    (c ∷ []) ∙ ap (λ cs. flat_map characters whole ++ cs) (sym grown)

came_whole : (came : List Character) (whole : List Dialogue) (front : Front) (byte : ℕ)
    (d : Dialogue) → came ≡ flat_map characters whole ++ front_characters front
    → Ends front (Card, byte) d
    → came ++ (Card, byte) ∷ [] ≡ flat_map characters (whole ++ d ∷ []) ++ front_characters fresh
came_whole came whole front byte d is ends =
    ap (λ cs. cs ++ (Card, byte) ∷ []) is
    ∙ append_assoc (flat_map characters whole) (front_characters front) ((Card, byte) ∷ [])
    ∙ ap (λ cs. flat_map characters whole ++ cs) (sym (ends_with front byte d ends))
    ∙ sym (flat_map_last characters whole d)
    ∙ sym (append-nil (flat_map characters (whole ++ d ∷ [])))

-- the same of events
pub passed_more : (cs : List Character) (c : Character)
    → passed (cs ++ c ∷ []) ≡ passed cs ++ Passed c ∷ []
passed_more cs c = map-append (λ x. Passed x) cs (c ∷ [])

pub events_with : (events : List Event) (items : List Item) (front new : Front) (c : Character)
    → events ≡ flat_map events_of items ++ passed (front_characters front)
    → front_characters new ≡ front_characters front ++ c ∷ []
    → events ++ Passed c ∷ [] ≡ flat_map events_of items ++ passed (front_characters new)
events_with events items front new c is grown =
    ap (λ es. es ++ Passed c ∷ []) is
    ∙ append_assoc (flat_map events_of items) (passed (front_characters front)) (Passed c ∷ [])
    ∙ ap (λ es. flat_map events_of items ++ es)
    (sym (ap passed grown ∙ passed_more (front_characters front) c))

pub whole_more : {State : Type 0} (Does : State → ℕ → Tpdu → State → Type 0)
    (after_reset : State → State) (first old new : State) (items : List Item) (d : Dialogue)
    (plan : Course)
    → RunsOver Does after_reset first items old → IsUnderPlan d plan
    → Does old plan.cut (tpdu_of d) new
    → RunsOver Does after_reset first (items ++ Whole d ∷ []) new
whole_more {State = State} Does after_reset first old new [] d plan runs is does =
    let P : State → Type 0 = λ s. Does s plan.cut (tpdu_of d) new in
    (plan, new, is, subst P runs does, refl)
whole_more Does after_reset first old new (Whole e ∷ items) d plan runs is does = (
  runs.0,
  runs.1,
  runs.2,
  runs.3,
  whole_more Does after_reset runs.1 old new items d plan runs.4
      is does,
)
whole_more Does after_reset first old new (Cut_off part ∷ items) d plan runs is does =
    (runs.0, whole_more Does after_reset (after_reset first) old new items d plan runs.1 is does)

reset_more : {State : Type 0} (Does : State → ℕ → Tpdu → State → Type 0)
    (after_reset : State → State) (first old : State) (items : List Item) (part : List Character)
    → RunsOver Does after_reset first items old → IsPart part
    → RunsOver Does after_reset first (items ++ Cut_off part ∷ []) (after_reset old)
reset_more Does after_reset first old [] part runs is = (is, ap after_reset runs)
reset_more Does after_reset first old (Whole e ∷ items) part runs is =
    (runs.0, runs.1, runs.2, runs.3, reset_more Does after_reset runs.1 old items part runs.4 is)
reset_more Does after_reset first old (Cut_off other ∷ items) part runs is =
    (runs.0, reset_more Does after_reset (after_reset first) old items part runs.1 is)

leads_with : {State : Type 0} (Does : State → ℕ → Tpdu → State → Type 0)
    (after_reset : State → State) (first old new : State) (before prepared : Prepared State)
    (at stage : Stage) (events : List Event) (c : Character) (front : Front)
    (led : Leads Does after_reset first events old before at) → GoesOn led.front c front → new ≡ old
    → StandsAt Does new prepared stage led.cut front
    → Leads Does after_reset first (events ++ Passed c ∷ []) new prepared stage
leads_with {State = State} Does after_reset first old new before prepared at stage events c front
    led goes same stands =
    let grown = goes_on led.front front c led.at_front.is_front goes in
    let Ran : State → Type 0 = λ s. RunsOver Does after_reset first led.items s in
    record {
      items = led.items;
      cut = led.cut;
      front = front;
      events_are = events_with events led.items led.front front c led.events_are grown.1;
      runs = subst Ran (sym same) led.runs;
      at_front = at_front Does new prepared stage led.cut front grown.0 led.at_front.in_range
          stands;
    }

-- a reset cuts off the dialogue in progress
pub leads_reset : {State : Type 0} (Does : State → ℕ → Tpdu → State → Type 0)
    (after_reset : State → State) (first old new : State) (before prepared : Prepared State)
    (at : Stage) (events : List Event)
    → Leads Does after_reset first events old before at → new ≡ after_reset old
    → Leads Does after_reset first (events ++ Reset ∷ []) new prepared (Taking_header [])
leads_reset {State = State} Does after_reset first old new before prepared at events led is =
    let part = front_characters led.front in
    let Ran : State → Type 0 =
    λ s. RunsOver Does after_reset first (led.items ++ Cut_off part ∷ []) s in
    record {
      items = led.items ++ Cut_off part ∷ [];
      cut = 256;
      front = fresh;
      events_are = events_item events led.items (passed part) Reset (Cut_off part) led.events_are
          refl;
      runs = subst Ran (sym is)
          (reset_more Does after_reset first old led.items part led.runs led.at_front.is_part);
      at_front = at_fresh Does new prepared 256 (lit≤ tt, lit≤ tt);
    }

abbrev pub ResetLeads : {C State : Type 0} (Does : State → ℕ → Tpdu → State → Type 0)
    (after_reset : State → State) (standing : C → State) (prepared : C → Prepared State) → C
    → EndOf C → Type 0
ResetLeads {State = State} Does after_reset standing prepared card e =
    (first : State) (events : List Event)
    → Leads Does after_reset first events (standing e.card) (prepared e.card) e.stage
    → Leads Does after_reset first (events ++ Reset ∷ []) (standing card) (prepared card)
    (Taking_header [])

pub reset_leads_on : {C State : Type 0} (Does : State → ℕ → Tpdu → State → Type 0)
    (after_reset : State → State) (standing : C → State) (prepared : C → Prepared State) (card : C)
    (inside seen : EndOf C)
    → inside ≡ seen → standing card ≡ after_reset (standing inside.card)
    → ResetLeads Does after_reset standing prepared card seen
reset_leads_on {C = C} Does after_reset standing prepared card inside seen is resets =
    let Seen : EndOf C → Type 0 = λ e. ResetLeads Does after_reset standing prepared card e in
    subst Seen is (λ first events led. leads_reset Does after_reset first (standing inside.card)
    (standing card) (prepared inside.card) (prepared card) inside.stage events led resets)

pub take_leads : {State : Type 0} (Does : State → ℕ → Tpdu → State → Type 0)
    (after_reset : State → State) (first standing : State) (prepared : Prepared State)
    (stage : Stage) (events : List Event) (byte : ℕ)
    → listens stage ≡ true → Leads Does after_reset first events standing prepared stage
    → Leads Does after_reset first (events ++ Passed (Terminal, byte) ∷ []) standing prepared
    (with_character stage byte)
take_leads Does after_reset first standing prepared stage events byte due led =
    let next = next_front Does standing prepared stage led.cut byte led.front due
    led.at_front.stands in
    let goes = takes_on Does standing prepared stage led.cut byte led.front next.0 due
    led.at_front.stands next.1 in
    leads_with Does after_reset first standing standing prepared prepared stage
    (with_character stage byte) events (Terminal, byte) next.0 led next.1 refl goes.0

pub take_leads_under : {State : Type 0} (Does : State → ℕ → Tpdu → State → Type 0)
    (first standing : State) (prepared : Prepared State) (stage : Stage) (came : List Character)
    (taken : List Course) (byte : ℕ)
    → listens stage ≡ true → LeadsUnder Does first came taken standing prepared stage
    → LeadsUnder Does first (came ++ (Terminal, byte) ∷ []) taken standing prepared
    (with_character stage byte)
take_leads_under Does first standing prepared stage came taken byte due led =
    let cut = led.plan.cut in
    let next = next_front Does standing prepared stage cut byte led.front due led.at_front.stands in
    let goes = takes_on Does standing prepared stage cut byte led.front next.0 due
    led.at_front.stands next.1 in
    let grown = goes_on led.front next.0 (Terminal, byte) led.at_front.is_front next.1 in
    record {
      whole = led.whole;
      plans = led.plans;
      plan = led.plan;
      front = next.0;
      taken_is = led.taken_is
          ∙ ap (λ x. led.plans ++ x) (sym (taken_stays stage led.plan byte));
      came_is = came_with came led.whole led.front next.0 (Terminal, byte) led.came_is grown.1;
      done = led.done;
      at_front = at_front Does standing prepared (with_character stage byte) cut next.0 grown.0
          led.at_front.in_range goes.0;
      on_plan = goes.1 led.plan led.on_plan;
      begins = planned_under Does standing prepared (with_character stage byte) cut led.plan next.0
          led.at_front.in_range grown.0 goes.0 (goes.1 led.plan led.on_plan);
    }

-- an end that does not listen is at no front that a character of the terminal continues
abbrev NoneDue : {C State : Type 0} (Does : State → ℕ → Tpdu → State → Type 0)
    (standing : C → State) (prepared : C → Prepared State) → ℕ → EndOf C → Type 0
NoneDue Does standing prepared byte e = (cut : ℕ) (front new : Front)
    → StandsAt Does (standing e.card) (prepared e.card) e.stage cut front
    → GoesOn front (Terminal, byte) new → ⊥

pub none_due : {C State : Type 0} (Does : State → ℕ → Tpdu → State → Type 0) (standing : C → State)
    (prepared : C → Prepared State) (byte : ℕ) (inside seen : EndOf C)
    → inside ≡ seen → listens inside.stage ≡ false → NoneDue Does standing prepared byte seen
none_due {C = C} Does standing prepared byte inside seen is silent =
    let Seen : EndOf C → Type 0 = λ e. NoneDue Does standing prepared byte e in
    subst Seen is (λ cut front new stands goes.
    let due = terminal_is_due Does (standing inside.card) (prepared inside.card) inside.stage cut
    byte front new stands goes in
    let e : true ≡ false = sym due ∙ silent in absurd (cc))

abbrev pub TakeLeads : {C State : Type 0} (Does : State → ℕ → Tpdu → State → Type 0)
    (after_reset : State → State) (standing : C → State) (prepared : C → Prepared State) → ℕ → C
    → Stage → EndOf C → Type 0
TakeLeads {State = State} Does after_reset standing prepared byte card stage e =
    (first : State) (events : List Event)
    → Leads Does after_reset first events (standing e.card) (prepared e.card) e.stage
    → Leads Does after_reset first (events ++ Passed (Terminal, byte) ∷ []) (standing card)
    (prepared card) stage

pub take_leads_on : {C State : Type 0} (Does : State → ℕ → Tpdu → State → Type 0)
    (after_reset : State → State) (standing : C → State) (prepared : C → Prepared State) (byte : ℕ)
    (inside seen : EndOf C) (stage : Stage)
    → inside ≡ seen → listens inside.stage ≡ true → stage ≡ with_character inside.stage byte
    → TakeLeads Does after_reset standing prepared byte inside.card stage seen
take_leads_on {C = C} {State = State} Does after_reset standing prepared byte inside seen stage is
    due stage_is =
    let Seen : EndOf C → Type 0 =
    λ e. TakeLeads Does after_reset standing prepared byte inside.card stage e in
    subst Seen is (λ first events led.
    let At : Stage → Type 0 =
    λ s. Leads Does after_reset first (events ++ Passed (Terminal, byte) ∷ [])
    (standing inside.card) (prepared inside.card) s in
    subst At (sym stage_is)
    (take_leads Does after_reset first (standing inside.card) (prepared inside.card)
    inside.stage events byte due led))

abbrev pub TakeLeadsUnder : {C State : Type 0} (Does : State → ℕ → Tpdu → State → Type 0)
    (standing : C → State) (prepared : C → Prepared State) → ℕ → C → Stage → EndOf C → Type 0
TakeLeadsUnder {State = State} Does standing prepared byte card stage e =
    (first : State) (came : List Character) (taken : List Course)
    → LeadsUnder Does first came taken (standing e.card) (prepared e.card) e.stage
    → LeadsUnder Does first (came ++ (Terminal, byte) ∷ []) taken (standing card) (prepared card)
    stage

pub take_leads_under_on : {C State : Type 0} (Does : State → ℕ → Tpdu → State → Type 0)
    (standing : C → State) (prepared : C → Prepared State) (byte : ℕ) (inside seen : EndOf C)
    (stage : Stage)
    → inside ≡ seen → listens inside.stage ≡ true → stage ≡ with_character inside.stage byte
    → TakeLeadsUnder Does standing prepared byte inside.card stage seen
take_leads_under_on {C = C} {State = State} Does standing prepared byte inside seen stage is due
    stage_is =
    let Seen : EndOf C → Type 0 =
    λ e. TakeLeadsUnder Does standing prepared byte inside.card stage e in
    subst Seen is (λ first came taken led.
    let At : Stage → Type 0 =
    λ s. LeadsUnder Does first (came ++ (Terminal, byte) ∷ []) taken (standing inside.card)
    (prepared inside.card) s in
    subst At (sym stage_is)
    (take_leads_under Does first (standing inside.card) (prepared inside.card) inside.stage came
    taken byte due led))

-- the same for a front whose direction the card has chosen
chosen : {State : Type 0} (Does : State → ℕ → Tpdu → State → Type 0) (after_reset : State → State)
    (first standing : State) (prepared : Prepared State) (stage next : Stage) (events : List Event)
    (cut : ℕ)
    → (takes_plan stage ≡ true → IsCut cut) → listens stage ≡ false
    → Leads Does after_reset first events standing prepared stage
    → (led : Leads Does after_reset first events standing prepared stage)
    × (takes_plan stage ≡ true → (led.cut ≡ cut) × SuitsFront next led.front)
chosen Does after_reset first s p (Taking_header bytes) next events cut ranges silent led =
    at led.front led.events_are led.at_front.stands
  where
    at : (front : Front) → events ≡ flat_map events_of led.items ++ passed (front_characters front)
        → StandsAt Does s p (Taking_header bytes) led.cut front
        → (new : Leads Does after_reset first events s p (Taking_header bytes))
        × (takes_plan (Taking_header bytes) ≡ true → (new.cut ≡ cut)
        × SuitsFront next new.front)
    at (In_header f) is stands = absurd (omega (arith, stands.1, ltb-false (length bytes) 5 silent))
    at (After_first b sw1) is stands = absurd stands
    at (In_body b) is stands =
        let Same : Body → Type 0 =
        λ x. events ≡ flat_map events_of led.items ++ passed (body_characters x) in
        let d = direction_in next b.direction in
        let whole = ranges (eq-eqb (length bytes) 5 (ap length stands.0)) in (
          record {
            items = led.items;
            cut = cut;
            front = In_body (header_only b.header b.p3 d);
            events_are = subst Same stands.1 is;
            runs = led.runs;
            at_front = at_front Does s p (Taking_header bytes) cut
                (In_body (header_only b.header b.p3 d))
                (record { in_last = refl; only_nulls = λ _. tt }) whole (stands.0, refl);
          },
          λ takes. (refl, suits_itself next b.header b.p3 b.direction),
        )
chosen _ after_reset first s p _ next events cut ranges silent led = (led, λ takes. absurd (cc))

-- what a character of the card does
abbrev pub HandsOut : {State : Type 0} (Does : State → ℕ → Tpdu → State → Type 0) (kept : Course)
    (old new : State) (before prepared : Prepared State) (at stage : Stage) (byte : ℕ) → Type 0
HandsOut Does kept old new before prepared at stage byte = (cut : ℕ) (front : Front)
    → (takes_plan at ≡ true → (cut ≡ kept.cut) × SuitsFront stage front)
    → StandsAt Does old before at cut front
    → Advances Does cut kept at front byte old new prepared stage

turn_leads : {State : Type 0} (Does : State → ℕ → Tpdu → State → Type 0)
    (after_reset : State → State) (first old new : State) (kept : Course)
    (before prepared : Prepared State) (at stage : Stage) (events : List Event) (byte : ℕ)
    → (led : Leads Does after_reset first events old before at)
    → Advances Does led.cut kept at led.front byte old new prepared stage
    → Leads Does after_reset first (events ++ Passed (Card, byte) ∷ []) new prepared stage
turn_leads Does after_reset first old new kept before prepared at stage events byte led (inl goes) =
    leads_with Does after_reset first old new before prepared at stage events (Card, byte) goes.0
    led goes.1 goes.3 goes.2
turn_leads Does after_reset first old new kept before prepared at stage events byte led (inr ends) =
    let Fresh : Stage → Type 0 = λ s. IsAt Does new prepared s led.cut fresh in
    let own : Course = record { steps = ends.0.body.segments; cut = led.cut } in
    let last = ap passed (ends_with led.front byte ends.0 ends.1)
    ∙ passed_more (front_characters led.front) (Card, byte) in
    record {
      items = led.items ++ Whole ends.0 ∷ [];
      cut = led.cut;
      front = fresh;
      events_are = events_item events led.items (passed (front_characters led.front))
          (Passed (Card, byte)) (Whole ends.0) led.events_are last;
      runs = whole_more Does after_reset first old new led.items ends.0 own led.runs
          (record { is_dialogue = ends.2; in_range = led.at_front.in_range; follows = ends.3 })
          ends.4;
      at_front = subst Fresh (sym ends.5)
          (at_fresh Does new prepared led.cut led.at_front.in_range);
    }

sent_of : Turn → ℕ
sent_of (Sends b) = b
sent_of Listens = 0

pub sends_is : (a b : ℕ) → Sends a ≡ Sends b → a ≡ b
unfolding sent_of
sends_is a b e = ap sent_of e

abbrev pub TurnLeads : {C State : Type 0} (Does : State → ℕ → Tpdu → State → Type 0)
    (after_reset : State → State) (standing : C → State) (prepared : C → Prepared State) → ℕ → State
    → Prepared State → Stage → EndOf C → Type 0
TurnLeads {State = State} Does after_reset standing prepared sent new ready stage e =
    (first : State) (events : List Event) (byte : ℕ) → Sends sent ≡ Sends byte
    → Leads Does after_reset first events (standing e.card) (prepared e.card) e.stage
    → Leads Does after_reset first (events ++ Passed (Card, byte) ∷ []) new ready stage

pub turn_leads_on : {C State : Type 0} (Does : State → ℕ → Tpdu → State → Type 0)
    (after_reset : State → State) (standing : C → State) (prepared : C → Prepared State)
    (kept : Course) (sent : ℕ) (new : State) (ready : Prepared State) (stage : Stage)
    (inside seen : EndOf C) → inside ≡ seen → (takes_plan inside.stage ≡ true → IsCut kept.cut)
    → listens inside.stage ≡ false
    → HandsOut Does kept (standing inside.card) new (prepared inside.card) ready inside.stage
    stage sent
    → TurnLeads Does after_reset standing prepared sent new ready stage seen
turn_leads_on {C = C} {State = State} Does after_reset standing prepared kept sent new ready stage
    inside seen is ranges silent hands =
    let Seen : EndOf C → Type 0 =
    λ e. TurnLeads Does after_reset standing prepared sent new ready stage e in
    subst Seen is (λ first events byte sends led.
    let from = chosen Does after_reset first (standing inside.card) (prepared inside.card)
    inside.stage stage events kept.cut ranges silent led in
    let Came : ℕ → Type 0 =
    λ b. Leads Does after_reset first (events ++ Passed (Card, b) ∷ []) new ready stage in
    subst Came (sends_is sent byte sends)
    (turn_leads Does after_reset first (standing inside.card) new kept (prepared inside.card) ready
    inside.stage stage events sent from.0
    (hands from.0.cut from.0.front from.1 from.0.at_front.stands)))

-- the last element of a list
last : {A : Type 0} → A → List A → A
last other [] = other
last other (x ∷ xs) = last x xs

last-append : {A : Type 0} (other x : A) (xs : List A) → last other (xs ++ x ∷ []) ≡ x
unfolding last
last-append other x [] = refl
last-append other x (y ∷ xs) = last-append y x xs

same_last : {A : Type 0} (x y : A) (xs ys : List A) → xs ++ x ∷ [] ≡ ys ++ y ∷ [] → x ≡ y
same_last x y xs ys is = sym (last-append x x xs) ∙ ap (last x) is ∙ last-append x y ys

-- a TPDU under one cursor, at a front whose direction the card has chosen, and the plans taken up
-- to this character
pub record ChosenUnder {State : Type 0} (Does : State → ℕ → Tpdu → State → Type 0) (first : State)
    (came : List Character) (taken : List Course)
    (standing : State) (prepared : Prepared State) (stage next : Stage) (kept : Course) : Type 0
  where
    pub whole : List Dialogue
    pub plans : List Course
    pub front : Front
    pub taken_is : (if takes_plan stage then taken ++ kept ∷ [] else taken) ≡ plans ++ kept ∷ []
    pub came_is : came ≡ flat_map characters whole ++ front_characters front
    pub done : AreDone Does first whole plans standing
    pub at_front : IsAt Does standing prepared stage kept.cut front
    pub on_plan : IsOnPlan stage kept front
    pub suits : takes_plan stage ≡ true → (kept.cut ≡ kept.cut) × SuitsFront next front

still : {State : Type 0} (Does : State → ℕ → Tpdu → State → Type 0) (first standing : State)
    (prepared : Prepared State) (stage next : Stage) (came : List Character) (taken : List Course)
    (kept : Course)
    → takes_plan stage ≡ false → (led : LeadsUnder Does first came taken standing prepared stage)
    → under_way stage led.plan ≡ led.plan ∷ [] → IsTakenLast kept taken
    → ChosenUnder Does first came taken standing prepared stage next kept
still Does first standing prepared stage next came taken kept none led under last =
    let same : led.plan ≡ kept =
    same_last led.plan kept led.plans last.0
    (sym (led.taken_is ∙ ap (λ x. led.plans ++ x) under) ∙ last.1) in
    let Stands : Course → Type 0 = λ p. IsAt Does standing prepared stage p.cut led.front
    × IsOnPlan stage p led.front in
    let at = subst Stands same (led.at_front, led.on_plan) in
    record {
      whole = led.whole;
      plans = led.plans;
      front = led.front;
      taken_is = rw none (led.taken_is ∙ ap (λ x. led.plans ++ x) (under ∙ ap (λ p. p ∷ []) same));
      came_is = led.came_is;
      done = led.done;
      at_front = at.0;
      on_plan = at.1;
      suits = λ takes. absurd (let e : true ≡ false = sym takes ∙ none in cc);
    }

chosen_under : {State : Type 0} (Does : State → ℕ → Tpdu → State → Type 0) (first standing : State)
    (prepared : Prepared State) (stage next : Stage) (came : List Character) (taken : List Course)
    (kept : Course)
    → (takes_plan stage ≡ true → IsCut kept.cut) → listens stage ≡ false
    → LeadsUnder Does first came taken standing prepared stage
    → (takes_plan stage ≡ false → IsTakenLast kept taken)
    → ChosenUnder Does first came taken standing prepared stage next kept
chosen_under Does first s p (Taking_header bytes) next came taken kept ranges silent led last =
    at led.front led.came_is led.at_front.stands
  where
    at : (front : Front) → came ≡ flat_map characters led.whole ++ front_characters front
        → StandsAt Does s p (Taking_header bytes) led.plan.cut front
        → ChosenUnder Does first came taken s p (Taking_header bytes) next kept
    at (In_header f) is stands = absurd (omega (arith, stands.1, ltb-false (length bytes) 5 silent))
    at (After_first b sw1) is stands = absurd stands
    at (In_body b) is stands =
        let Same : Body → Type 0 = λ x. came ≡ flat_map characters led.whole ++ body_characters x in
        let whole : takes_plan (Taking_header bytes) ≡ true =
        eq-eqb (length bytes) 5 (ap length stands.0) in
        let front = In_body (header_only b.header b.p3 (direction_in next b.direction)) in
        record {
          whole = led.whole;
          plans = led.plans;
          front = front;
          taken_is = rw whole (ap (λ x. x ++ kept ∷ []) (led.taken_is ∙ append-nil led.plans));
          came_is = subst Same stands.1 is;
          done = led.done;
          at_front = at_front Does s p (Taking_header bytes) kept.cut front
              (record { in_last = refl; only_nulls = λ _. tt }) (ranges whole) (stands.0, refl);
          on_plan = tt;
          suits = λ takes. (refl, suits_itself next b.header b.p3 b.direction);
        }
chosen_under Does first s p (Refusing h p3 status done) next came taken kept ranges silent led
    last = still Does first s p (Refusing h p3 status done) next came taken kept refl led refl
    (last refl)
chosen_under Does first s p (Serving service before) next came taken kept ranges silent led last =
    still Does first s p (Serving service before) next came taken kept refl led refl (last refl)
chosen_under Does first s p (Ending status) next came taken kept ranges silent led last =
    still Does first s p (Ending status) next came taken kept refl led refl (last refl)

turn_leads_under : {State : Type 0} (Does : State → ℕ → Tpdu → State → Type 0)
    (first old new : State) (kept : Course) (before prepared : Prepared State) (at stage : Stage)
    (came : List Character) (taken : List Course) (byte : ℕ)
    → (led : ChosenUnder Does first came taken old before at stage kept)
    → Advances Does kept.cut kept at led.front byte old new prepared stage
    → LeadsUnder Does first (came ++ (Card, byte) ∷ [])
    (if takes_plan at then taken ++ kept ∷ [] else taken) new prepared stage
turn_leads_under {State = State} Does first old new kept before prepared at stage came taken byte
    led (inl goes) =
    let grown = goes_on led.front goes.0 (Card, byte) led.at_front.is_front goes.1 in
    let Done : State → Type 0 = λ s. AreDone Does first led.whole led.plans s in
    record {
      whole = led.whole;
      plans = led.plans;
      plan = kept;
      front = goes.0;
      taken_is = led.taken_is
          ∙ ap (λ x. led.plans ++ x)
          (sym (begun Does new prepared stage kept.cut byte kept led.front goes.0 goes.1 goes.2));
      came_is = came_with came led.whole led.front goes.0 (Card, byte) led.came_is grown.1;
      done = subst Done (sym goes.3) led.done;
      at_front = at_front Does new prepared stage kept.cut goes.0 grown.0 led.at_front.in_range
          goes.2;
      on_plan = goes.4 led.on_plan;
      begins = planned_under Does new prepared stage kept.cut kept goes.0 led.at_front.in_range
          grown.0 goes.2 (goes.4 led.on_plan);
    }
turn_leads_under Does first old new kept before prepared at stage came taken byte led (inr ends) =
    let Rests : Stage → Type 0 = λ s. IsAt Does new prepared s kept.cut fresh
    × IsOnPlan s kept fresh × (under_way s kept ≡ []) in
    let rests = subst Rests (sym ends.5) (
      at_fresh Does new prepared kept.cut led.at_front.in_range,
      tt,
      refl,
    ) in
    record {
      whole = led.whole ++ ends.0 ∷ [];
      plans = led.plans ++ kept ∷ [];
      plan = kept;
      front = fresh;
      taken_is = led.taken_is ∙ sym (append-nil (led.plans ++ kept ∷ []))
          ∙ ap (λ x. (led.plans ++ kept ∷ []) ++ x) (sym rests.2);
      came_is = came_whole came led.whole led.front byte ends.0 led.came_is ends.1;
      done = record {
        one_each = one_more_each led.plans led.whole kept ends.0 led.done.one_each;
        cuts = all_more (λ p. IsCut p.cut) led.plans kept led.done.cuts led.at_front.in_range;
        are_dialogues = all_more IsDialogue led.whole ends.0 led.done.are_dialogues ends.2;
        follow = follow_each led.whole led.plans ends.0 kept led.done.one_each led.done.follow
            (ends.6 led.on_plan);
        runs = runs_each Does first old new led.whole led.plans ends.0 kept led.done.one_each
            led.done.runs ends.4;
      };
      at_front = rests.0;
      on_plan = rests.1;
      begins = begins_fresh Does new prepared kept led.at_front.in_range;
    }

-- under one cursor the kept plan is the one taken last
same_kept : (old new : Cursor) (takes : Bool) (taken : List Course)
    → new ≡ (if takes then advanced old else old)
    → (takes ≡ false → IsTakenLast (plan_kept old) taken)
    → takes ≡ false → IsTakenLast (plan_kept new) taken
same_kept old new true taken is last none = absurd (cc)
same_kept old new false taken is last none = let Kept : Cursor → Type 0 =
    λ c. IsTakenLast (plan_kept c) taken in subst Kept (sym is) (last none)

abbrev pub TurnLeadsUnder : {C State : Type 0} (Does : State → ℕ → Tpdu → State → Type 0)
    (standing : C → State) (prepared : C → Prepared State) → Cursor → Cursor → ℕ → State
    → Prepared State → Stage → EndOf C → Type 0
TurnLeadsUnder {State = State} Does standing prepared old cursor sent new ready stage e =
    (first : State) (came : List Character) (taken : List Course) (byte : ℕ)
    → Sends sent ≡ Sends byte
    → LeadsUnder Does first came taken (standing e.card) (prepared e.card) e.stage
    → (takes_plan e.stage ≡ false → IsTakenLast (plan_kept old) taken)
    → LeadsUnder Does first (came ++ (Card, byte) ∷ [])
    (if takes_plan e.stage then taken ++ plan_kept cursor ∷ [] else taken) new ready stage

pub turn_leads_under_on : {C State : Type 0} (Does : State → ℕ → Tpdu → State → Type 0)
    (standing : C → State) (prepared : C → Prepared State) (old cursor : Cursor) (sent : ℕ)
    (new : State) (ready : Prepared State) (stage : Stage)
    (inside seen : EndOf C) → inside ≡ seen
    → (takes_plan inside.stage ≡ true → IsCut (plan_kept cursor).cut)
    → listens inside.stage ≡ false
    → cursor ≡ (if takes_plan inside.stage then advanced old else old)
    → HandsOut Does (plan_kept cursor) (standing inside.card) new (prepared inside.card) ready
    inside.stage stage sent
    → TurnLeadsUnder Does standing prepared old cursor sent new ready stage seen
turn_leads_under_on {C = C} {State = State} Does standing prepared old cursor sent new ready stage
    inside seen is ranges silent cursor_is hands =
    let Seen : EndOf C → Type 0 =
    λ e. TurnLeadsUnder Does standing prepared old cursor sent new ready stage e in
    let kept = plan_kept cursor in
    subst Seen is (λ first came taken byte sends led last.
    let from = chosen_under Does first (standing inside.card) (prepared inside.card) inside.stage
    stage came taken kept ranges silent led
    (same_kept old cursor (takes_plan inside.stage) taken cursor_is last) in
    let Came : ℕ → Type 0 =
    λ b. LeadsUnder Does first (came ++ (Card, b) ∷ [])
    (if takes_plan inside.stage then taken ++ kept ∷ [] else taken) new ready stage in
    subst Came (sends_is sent byte sends)
    (turn_leads_under Does first (standing inside.card) new kept (prepared inside.card) ready
    inside.stage stage came taken sent from
    (hands kept.cut from.front from.suits from.at_front.stands)))

-- a turn of an end, as contracts see it
abbrev pub TurnAdvances : {C State : Type 0} (Does : State → ℕ → Tpdu → State → Type 0)
    (standing : C → State) (prepared : C → Prepared State) → Course → ℕ → State → Prepared State
    → Stage → EndOf C → Type 0
TurnAdvances Does standing prepared kept sent new ready stage e = (byte cut : ℕ) (front : Front)
    → Sends sent ≡ Sends byte
    → (takes_plan e.stage ≡ true → (cut ≡ kept.cut) × SuitsFront stage front)
    → StandsAt Does (standing e.card) (prepared e.card) e.stage cut front
    → Advances Does cut kept e.stage front byte (standing e.card) new ready stage

pub turn_advances : {C State : Type 0} (Does : State → ℕ → Tpdu → State → Type 0)
    (standing : C → State) (prepared : C → Prepared State) (kept : Course) (sent : ℕ) (new : State)
    (ready : Prepared State) (stage : Stage)
    (inside seen : EndOf C) → inside ≡ seen
    → HandsOut Does kept (standing inside.card) new (prepared inside.card) ready inside.stage
    stage sent → TurnAdvances Does standing prepared kept sent new ready stage seen
turn_advances {C = C} Does standing prepared kept sent new ready stage inside seen is hands =
    let Seen : EndOf C → Type 0 =
    λ e. TurnAdvances Does standing prepared kept sent new ready stage e in
    subst Seen is (λ byte cut front sends takes stands.
    let Sent : ℕ → Type 0 =
    λ b. Advances Does cut kept inside.stage front b (standing inside.card) new ready stage in
    subst Sent (sends_is sent byte sends) (hands cut front takes stands))
