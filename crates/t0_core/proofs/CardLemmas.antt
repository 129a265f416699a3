-- The card's end passes through dialogues, step by step of a plan.
use Rattle.std.proofs.Common.{◌≡◌, ℕ, ◌+◌, ◌-◌, ◌<◌, ◌≤◌, List, [], ◌∷◌, ◌++◌, length, take, drop, refl, sym, subst, ◌∙◌, ap, arith, inl, inr, lit<, true, false, Bool, ◌&&◌, nat_lt, Some, eq-eqb, length-append}
use Rattle.std.specs.List.{slice_get}
use Rattle.std.proofs.lemmas.Bool.{ltb-false, lt-ltb}
use Rattle.std.proofs.lemmas.List.{take_more, take_all, length-take-le}
use Rattle.std.proofs.lemmas.Option.{get_or_from_slice_get}
use Rattle.apdu_core.specs.declared.header.Header.{Header}
use Rattle.apdu_core.specs.declared.status.Status.{Status}
use Rattle.apdu_core.specs.HeaderBytes.{ins_is_valid}
use Rattle.apdu_core.specs.StatusWord.{StatusWord, IsStatusWord, count}
use Rattle.t0_core.specs.declared.plan.Step.{Step}
use Rattle.t0_core.specs.declared.plan.Step.TheVariants.{Null}
use Rattle.t0_core.specs.declared.direction.Direction.{Direction}
use Rattle.t0_core.specs.declared.direction.Direction.TheVariants.{ToCard, FromCard}
use Rattle.t0_core.specs.declared.end.End.TheVariants.{Card}
use Rattle.t0_core.specs.declared.service.Service.{Service}
use Rattle.t0_core.specs.Dialogue.{Body, Dialogue, IsDialogue, foreseen, moves, all_moves, to_move, procedure_byte, data_sender}
use Rattle.t0_core.specs.Plan.{Course, Follows, segments_of}
use Rattle.t0_core.specs.Meaning.{Tpdu, tpdu_of, Ask, Prepared, Nothing, Receiving, Sending, Decided, IsReceiving, IsSending, Decides, refused, taken_with, answered_with}
use Rattle.t0_core.specs.Front.{Front, In_header, In_body, After_first, IsBetween, header_only, with_segment, with_moved}
use Rattle.t0_core.specs.declared.card_end.Phase.{Phase}
use Rattle.t0_core.specs.declared.card_end.Phase.TheVariants.{Opening, Refused, Accepted, SecondStatus}
use Rattle.t0_core.specs.CardView.{IsNext, GivesStatus, IsVerdict, Refuses, KeepsDirection, stage_of}
use Rattle.t0_core.specs.CardSide.{Stage, Taking_header, Refusing, Serving, Ending, StandsAt, Advances, IsServed, IsRefused, ServesBy, Starts, IsFrugal, IsOnPlan, FollowsItself, SuitsFront, begins_with, takes_plan, listens, one_moved, ask_of, whole_of, comes_from_terminal, IsPermitted, PermitsData}
use Rattle.t0_core.specs.FrontLaws.{moves-within, all_moves-more}
use Rattle.t0_core.specs.DialogueLaws.{all_more}
use Rattle.t0_core.proofs.PlanLemmas.{frugal_more, follows_itself, nulls_follow, nulls_move_nothing, on_plan_more, on_plan_all, some_left}

abbrev dialogue : Body → StatusWord → Dialogue
dialogue b status = record { body = b; status = status }

true_is_not_false : (b : Bool) → b ≡ true → b ≡ false → ⊥
true_is_not_false b is_true is_false = absurd (cc)

-- data are to move, but not the terminal's: they are the card's
not_the_terminals : (a b : Bool) → (a && b) ≡ false → b ≡ true → a ≡ false
not_the_terminals true true none due = absurd (cc)
not_the_terminals true false none due = absurd (cc)
not_the_terminals false b none due = refl

-- one more data character
one_more : (bytes : List ℕ) (moved byte : ℕ) → moved < length bytes
    → slice_get bytes moved ≡ Some byte → take moved bytes ++ byte ∷ [] ≡ take (moved + 1) bytes
one_more bytes moved byte lt is_byte =
    sym (take_more bytes moved byte lt
    ∙ ap (λ x. take moved bytes ++ x ∷ [])
    (get_or_from_slice_get bytes moved byte byte is_byte))

one_sent : {State : Type 0} (prepared : Prepared State) (d : Direction) (s : Service)
    (came after : List ℕ) (cut : ℕ) (moved : List ℕ) (byte : ℕ) → comes_from_terminal d ≡ false
    → s.moved < foreseen d s.p3
    → IsSending prepared (λ ask bytes. slice_get bytes s.moved ≡ Some byte)
    → ServesBy prepared d s came cut moved
    → ServesBy prepared d (one_moved s) after cut (moved ++ byte ∷ [])
one_sent prepared ToCard s came after cut moved byte own lt is_byte serves = absurd (cc)
one_sent (Sending ask bytes) FromCard s came after cut moved byte own lt is_byte
    (ask_is, len, moved_is) = (
      ask_is,
      len,
      ap (λ x. x ++ byte ∷ []) moved_is
          ∙ one_more bytes s.moved byte (omega (arith, lt, len)) is_byte,
    )
one_sent Nothing FromCard s came after cut moved byte own lt is_byte serves = absurd serves
one_sent (Receiving ask) FromCard s came after cut moved byte own lt is_byte serves = absurd serves
one_sent (Decided next) FromCard s came after cut moved byte own lt is_byte serves = absurd serves

-- data that are not the terminal's are the card's
sender_is : (d : Direction) → comes_from_terminal d ≡ false → Card ≡ data_sender d
sender_is ToCard own = absurd (cc)
sender_is FromCard own = refl

-- the next data character of the card
pub sends_data : {State : Type 0} (Does : State → ℕ → Tpdu → State → Type 0) (old : State)
    (prepared : Prepared State) (cut : ℕ) (plan : Course) (s next : Service) (came after : List ℕ)
    (byte : ℕ) (b : Body)
    → next ≡ one_moved s → s.moved < s.until → listens (Serving s came) ≡ false
    → IsSending prepared (λ ask bytes. slice_get bytes s.moved ≡ Some byte)
    → IsServed prepared s came cut b
    → Advances Does cut plan (Serving s came) (In_body b) byte old old prepared
    (Serving next after)
sends_data Does old prepared cut plan s next came after byte b next_is lt due is_byte served =
    let own : comes_from_terminal s.direction ≡ false =
    not_the_terminals (comes_from_terminal s.direction) (nat_lt s.moved s.until) due
    (lt-ltb s.moved s.until lt) in
    let sender : Card ≡ data_sender b.direction = sender_is s.direction own
    ∙ ap data_sender (sym served.direction_is) in
    let Sends : Service → Type 0 =
    λ n. Advances Does cut plan (Serving s came) (In_body b) byte old old prepared
    (Serving n after) in
    subst Sends (sym next_is) (inl (
      In_body (with_moved b byte),
      inl (omega (arith, lt, served.moved_is, served.until_is), sender, refl),
      record {
        header_is = served.header_is;
        p3_is = served.p3_is;
        direction_is = served.direction_is;
        moved_is = length-append b.moved (byte ∷ []) ∙ ap (λ n. n + 1) served.moved_is;
        until_is = served.until_is;
        begun = omega (arith, lt);
        within = served.within;
        frugal = served.frugal;
        valid = served.valid;
        serves = one_sent prepared s.direction s came after cut b.moved byte own
            (omega (arith, lt, served.within)) is_byte served.serves;
      },
      refl,
      λ on. on,
    ))

-- the service is the same except for the counts
serves_same : {State : Type 0} (prepared : Prepared State) (d : Direction) (s next : Service)
    (came after : List ℕ) (cut : ℕ) (moved : List ℕ) → next.header ≡ s.header → next.p3 ≡ s.p3
    → next.moved ≡ s.moved → after ≡ came
    → ServesBy prepared d s came cut moved → ServesBy prepared d next after cut moved
serves_same prepared ToCard s next came after cut moved header p3 count same serves =
    let Serves : Ask → Type 0 = λ a. IsReceiving prepared (λ ask. ask ≡ a) in
    let asked : ask_of s cut ≡ ask_of next cut = rw (header, p3) refl in
    (serves.0 ∙ sym same, subst Serves asked serves.1)
serves_same prepared FromCard s next came after cut moved header p3 count_is same serves =
    let asked : ask_of s cut ≡ ask_of next cut = rw (header, p3) refl in
    let Asked : Ask → Type 0 =
    λ a. IsSending prepared (λ ask bytes. (ask ≡ a) × (length bytes ≡ count next.p3)
    × (moved ≡ take next.moved bytes)) in
    subst Asked asked (rw (p3, count_is) serves)

begins_with_step : (whole until next : ℕ) (segments : List Step) (s : Step) (n : ℕ) → n ≡ whole
    → all_moves segments n ≡ until → next ≡ until + moves s (whole - until)
    → all_moves (segments ++ s ∷ []) n ≡ next
begins_with_step whole until next segments s n is moved next_is =
    rw (all_moves-more segments s n, moved, is, next_is) refl

-- the next procedure byte
pub begins_segment : {State : Type 0} (Does : State → ℕ → Tpdu → State → Type 0) (old : State)
    (prepared : Prepared State) (cut : ℕ) (plan : Course) (s next : Service) (came after : List ℕ)
    (step : Step) (byte : ℕ) (b : Body)
    → s.until ≤ s.moved → after ≡ came → byte ≡ procedure_byte s.header.ins step
    → IsNext s plan.steps step next
    → IsServed prepared s came cut b
    → Advances Does cut plan (Serving s came) (In_body b) byte old old prepared
    (Serving next after)
begins_segment {State = State} Does old prepared cut plan s next came after step byte b all same
    byte_is is served =
    let moved : s.moved ≡ s.until = omega (arith, all, served.begun) in
    let between : length b.moved ≡ to_move b = served.moved_is ∙ moved ∙ sym served.until_is in
    let foreseen_is : foreseen b.direction b.p3 ≡ whole_of s =
    rw (served.direction_is, served.p3_is) refl in
    let whole_is : whole_of next ≡ whole_of s = rw (is.same.2, is.same.1) refl in
    let valid : ins_is_valid b.header.ins ≡ true =
    ap (λ (h : Header). ins_is_valid h.ins) served.header_is ∙ served.valid in
    let within : moves step (whole_of s - s.until) ≤ whole_of s - s.until =
    moves-within step (whole_of s - s.until) in
    let Starting : ℕ → Type 0 = λ k. Starts step (whole_of s - k) in
    let moved_so_far : all_moves b.segments (whole_of s) ≡ s.until =
    subst (λ n. all_moves b.segments n ≡ s.until) foreseen_is served.until_is in
    let Frugal : ℕ → Type 0 = λ n. IsFrugal (b.segments ++ step ∷ []) n in
    let Serves : Direction → Type 0 = λ d. ServesBy prepared d next after cut b.moved in
    inl (
      In_body (with_segment b step),
      inr (inl (
        between,
        refl,
        (
          step,
          λ invalid. absurd (true_is_not_false (ins_is_valid b.header.ins) valid invalid),
          byte_is ∙ ap (λ (h : Header). procedure_byte h.ins step) (sym served.header_is),
          refl,
        ),
      )),
      record {
        header_is = served.header_is ∙ sym is.same.0;
        p3_is = served.p3_is ∙ sym is.same.1;
        direction_is = served.direction_is ∙ sym is.same.2;
        moved_is = served.moved_is ∙ sym is.same.3;
        until_is = begins_with_step (whole_of s) s.until next.until b.segments step
            (foreseen b.direction b.p3) foreseen_is served.until_is is.until_is;
        begun = omega (arith, is.same.3, is.until_is, moved);
        within = omega (arith, is.until_is, within, served.within, whole_is);
        frugal = subst Frugal (sym whole_is)
            (frugal_more b.segments step (whole_of s) served.frugal
            (subst Starting (sym moved_so_far) is.starts));
        valid = ap (λ (h : Header). ins_is_valid h.ins) is.same.0 ∙ served.valid;
        serves = subst Serves (sym is.same.2)
            (serves_same prepared s.direction s next came after cut b.moved is.same.0 is.same.1
            is.same.3 same served.serves);
      },
      refl,
      λ on. rw whole_is (on_plan_more b.segments plan.steps step (whole_of s) s.until next.until
          s.done next.done on is.segments),
    )

-- SW1 starts the status, after all data have moved
begins_status : {State : Type 0} (Does : State → ℕ → Tpdu → State → Type 0) (old : State)
    (prepared : Prepared State) (cut : ℕ) (plan : Course) (before : Stage) (b : Body)
    (status : StatusWord)
    → IsBetween b → IsStatusWord status
    → Decides Does old cut (tpdu_of (dialogue b status)) prepared
    → IsDialogue (dialogue b status) → FollowsItself (dialogue b status) cut
    → (IsOnPlan before plan (In_body b) → Follows (dialogue b status) plan)
    → Advances Does cut plan before (In_body b) status.0 old old prepared (Ending status)
begins_status Does old prepared cut plan before b status between is_status decides is_dialogue
    itself follows =
    inl (
      After_first b status.0,
      inr (inr (between, refl, (is_status.0, lit< tt), refl)),
      (refl, decides.0, decides.1, decides.2, is_dialogue, itself),
      refl,
      follows,
    )

tpdu_to_card : (b : Body) (status : StatusWord) → b.direction ≡ ToCard
    → tpdu_of (dialogue b status) ≡ record {
      header = b.header;
      p3 = b.p3;
      sent =
          b.moved;
      received = [];
      status = status;
    }
tpdu_to_card b status to_card = rw to_card refl

tpdu_from_card : (b : Body) (status : StatusWord) → b.direction ≡ FromCard
    → tpdu_of (dialogue b status) ≡ record {
      header = b.header;
      p3 = b.p3;
      sent = [];
      received =
          b.moved;
      status = status;
    }
tpdu_from_card b status from_card = rw from_card refl

-- the card's answer, after all data have moved
concludes : {State : Type 0} (Does : State → ℕ → Tpdu → State → Type 0) (old : State)
    (before prepared : Prepared State) (d : Direction) (s : Service) (came content : List ℕ)
    (cut : ℕ) (b : Body) (status : StatusWord)
    → b.header ≡ s.header → b.p3 ≡ s.p3 → b.direction ≡ d → (d ≡ ToCard → came ≡ content)
    → s.moved ≡ foreseen d s.p3 → ServesBy before d s came cut b.moved
    → GivesStatus Does old before d content status prepared
    → Decides Does old cut (tpdu_of (dialogue b status)) prepared
concludes {State = State} Does old (Receiving ask) prepared ToCard s came content cut b status
    header p3 to_card all moved (moved_is, ask_is) decides =
    let Cut : Ask → Type 0 = λ a. Decides Does old a.cut (taken_with a content status) prepared in
    let at : Decides Does old cut (taken_with (ask_of s cut) content status) prepared =
    subst Cut ask_is decides in
    let T : Tpdu → Type 0 = λ t. Decides Does old cut t prepared in
    let same : taken_with (ask_of s cut) content status ≡ tpdu_of (dialogue b status) =
    sym (tpdu_to_card b status to_card ∙ rw (header, p3, moved_is, all refl) refl) in
    subst T same at
concludes {State = State} Does old (Sending ask bytes) prepared FromCard s came content cut b status
    header p3 from_card all moved (ask_is, len, moved_is) decides =
    let Cut : Ask → Type 0 = λ a. Decides Does old a.cut (answered_with a bytes status) prepared in
    let at : Decides Does old cut (answered_with (ask_of s cut) bytes status) prepared =
    subst Cut ask_is decides in
    let T : Tpdu → Type 0 = λ t. Decides Does old cut t prepared in
    let whole : take s.moved bytes ≡ bytes = take_all s.moved bytes (omega (arith, len, moved)) in
    let same : answered_with (ask_of s cut) bytes status ≡ tpdu_of (dialogue b status) =
    sym (tpdu_from_card b status from_card ∙ rw (header, p3, moved_is, whole) refl) in
    subst T same at
concludes Does old Nothing prepared ToCard s came content cut b status header p3 way all moved
    serves decides = absurd decides
concludes Does old (Sending ask bytes) prepared ToCard s came content cut b status header p3 way all
    moved serves decides = absurd decides
concludes Does old (Decided next) prepared ToCard s came content cut b status header p3 way all
    moved serves decides = absurd decides
concludes Does old Nothing prepared FromCard s came content cut b status header p3 way all moved
    serves decides = absurd decides
concludes Does old (Receiving ask) prepared FromCard s came content cut b status header p3 way all
    moved serves decides = absurd decides
concludes Does old (Decided next) prepared FromCard s came content cut b status header p3 way all
    moved serves decides = absurd decides

pub ends_service : {State : Type 0} (Does : State → ℕ → Tpdu → State → Type 0) (old : State)
    (before prepared : Prepared State) (cut : ℕ) (plan : Course) (s : Service)
    (came content : List ℕ) (status : StatusWord) (b : Body)
    → s.until ≤ s.moved → (s.moved ≡ whole_of s → (s.direction ≡ ToCard → came ≡ content))
    → segments_of (drop s.done plan.steps) (whole_of s - s.until) ≡ [] → IsStatusWord status
    → GivesStatus Does old before s.direction content status prepared
    → IsServed before s came cut b
    → Advances Does cut plan (Serving s came) (In_body b) status.0 old old prepared
    (Ending status)
ends_service Does old before prepared cut plan s came content status b all content_is none is_status
    answer served =
    let left : whole_of s - s.until ≡ 0 =
    some_left (drop s.done plan.steps) (whole_of s - s.until) none in
    let moved : s.moved ≡ whole_of s = omega (arith, left, all, served.begun, served.within) in
    let until : s.until ≡ whole_of s = omega (arith, left, served.within) in
    let foreseen_is : foreseen b.direction b.p3 ≡ whole_of s =
    rw (served.direction_is, served.p3_is) refl in
    let between : length b.moved ≡ to_move b = served.moved_is ∙ moved ∙ sym until
    ∙ sym served.until_is in
    let length_is : length b.moved ≡ whole_of s = served.moved_is ∙ moved in
    let moved_so_far : all_moves b.segments (whole_of s) ≡ whole_of s =
    subst (λ n. all_moves b.segments n ≡ s.until) foreseen_is served.until_is ∙ until in
    let valid : ins_is_valid b.header.ins ≡ true =
    ap (λ (h : Header). ins_is_valid h.ins) served.header_is ∙ served.valid in
    begins_status Does old prepared cut plan (Serving s came) b status between is_status
    (concludes Does old before prepared s.direction s came content cut b status served.header_is
    served.p3_is served.direction_is (content_is moved) moved served.serves answer)
    (record {
      moved_by_segments = between;
      is_status = is_status;
      only_nulls =
          λ invalid. absurd (true_is_not_false (ins_is_valid b.header.ins) valid invalid);
    })
    (record {
      all_or_nothing = inr (length_is ∙ sym foreseen_is);
      step_by_step =
          rw length_is (follows_itself b.segments (whole_of s) served.frugal moved_so_far);
    })
    (λ on. record {
      all_or_nothing = inr (length_is ∙ sym foreseen_is);
      step_by_step = rw length_is
          (on_plan_all b.segments plan.steps (whole_of s) s.until s.done on none);
    })

-- NULLs under a refused header
pub refuses_with_null : {State : Type 0} (Does : State → ℕ → Tpdu → State → Type 0) (old : State)
    (prepared : Prepared State) (cut : ℕ) (plan : Course) (h : Header) (p3 : ℕ)
    (status : StatusWord) (done left : ℕ) (b : Body)
    → segments_of (drop done plan.steps) 0 ≡ Null ∷ segments_of (drop left plan.steps) 0
    → IsRefused Does old prepared h p3 status cut b
    → Advances Does cut plan (Refusing h p3 status done) (In_body b) 0x60 old old prepared
    (Refusing h p3 status left)
refuses_with_null Does old prepared cut plan h p3 status done left b is refused =
    let nothing : to_move b ≡ 0 =
    nulls_move_nothing b.segments (foreseen b.direction b.p3) refused.nulls in
    let between : length b.moved ≡ to_move b = ap length refused.no_data ∙ sym nothing in
    inl (
      In_body (with_segment b Null),
      inr (inl (between, refl, (Null, λ invalid. refl, refl, refl))),
      record {
        header_is = refused.header_is;
        p3_is = refused.p3_is;
        no_data = refused.no_data;
        nulls = all_more (λ s. s ≡ Null) b.segments Null refused.nulls refl;
        decides = refused.decides;
      },
      refl,
      λ on. on_plan_more b.segments plan.steps Null 0 0 0 done left on is,
    )

pub refuses_with_status : {State : Type 0} (Does : State → ℕ → Tpdu → State → Type 0) (old : State)
    (prepared : Prepared State) (cut : ℕ) (plan : Course) (h : Header) (p3 : ℕ)
    (status : StatusWord) (done : ℕ) (b : Body)
    → IsStatusWord status → segments_of (drop done plan.steps) 0 ≡ []
    → IsRefused Does old prepared h p3 status cut b
    → Advances Does cut plan (Refusing h p3 status done) (In_body b) status.0 old old prepared
    (Ending status)
refuses_with_status {State = State} Does old prepared cut plan h p3 status done b is_status none
    is_refused =
    let nothing : to_move b ≡ 0 =
    nulls_move_nothing b.segments (foreseen b.direction b.p3) is_refused.nulls in
    let between : length b.moved ≡ to_move b = ap length is_refused.no_data ∙ sym nothing in
    let length_is : length b.moved ≡ 0 = ap length is_refused.no_data in
    let T : Tpdu → Type 0 = λ t. Decides Does old cut t prepared in
    begins_status Does old prepared cut plan (Refusing h p3 status done) b status between is_status
    (subst T (refused_tpdu b h p3 cut status is_refused.header_is is_refused.p3_is
    is_refused.no_data) is_refused.decides)
    (record {
      moved_by_segments = between;
      is_status = is_status;
      only_nulls =
          λ invalid. is_refused.nulls;
    })
    (record {
      all_or_nothing = inl is_refused.no_data;
      step_by_step =
          rw length_is (nulls_follow b.segments is_refused.nulls);
    })
    (λ on. record {
      all_or_nothing = inl is_refused.no_data;
      step_by_step =
          rw length_is (on_plan_all b.segments plan.steps 0 0 done on none);
    })
  where
    refused_tpdu : (b : Body) (h : Header) (p3 cut : ℕ) (status : StatusWord) → b.header ≡ h
        → b.p3 ≡ p3 → b.moved ≡ [] → refused (record { header = h; p3 = p3; cut = cut }) status
        ≡ tpdu_of (dialogue b status)
    refused_tpdu b h p3 cut status header p3_is none = by_way b.direction refl
      where
        by_way : (d : Direction) → b.direction ≡ d
            → refused (record { header = h; p3 = p3; cut = cut }) status
            ≡ tpdu_of (dialogue b status)
        by_way ToCard way = sym (tpdu_to_card b status way ∙ rw (header, p3_is, none) refl)
        by_way FromCard way = sym (tpdu_from_card b status way ∙ rw (header, p3_is, none) refl)

-- the card's state is unchanged
pub while_standing : {State : Type 0} (Does : State → ℕ → Tpdu → State → Type 0) (cut : ℕ)
    (plan : Course) (before : Stage) (front : Front) (byte : ℕ) (old new : State)
    (prepared : Prepared State) (stage : Stage)
    → new ≡ old → Advances Does cut plan before front byte old old prepared stage
    → Advances Does cut plan before front byte old new prepared stage
while_standing {State = State} Does cut plan before front byte old new prepared stage stands
    advances =
    let P : State → Type 0 = λ s. Advances Does cut plan before front byte old s prepared stage in
    subst P (sym stands) advances

-- the header is complete when the card's turn comes
pub whole_header : (bytes : List ℕ) (taken : ℕ) → length bytes ≡ 5 → taken ≤ 5
    → nat_lt (length (take taken bytes)) 5 ≡ false → take taken bytes ≡ bytes
whole_header bytes taken five le due =
    take_all taken bytes
    (omega (
      arith,
      five,
      ltb-false _ _ due,
      length-take-le taken bytes (omega (arith, five, le)),
    ))

-- the next character under a refused header
pub refusal_advances : {State : Type 0} (Does : State → ℕ → Tpdu → State → Type 0) (old : State)
    (prepared : Prepared State) (cut : ℕ) (plan : Course) (phase next : Phase) (came : List ℕ)
    (h : Header) (p3 : ℕ) (status : Status) (done : ℕ) (byte : ℕ) (front : Front)
    (steps : List Step) → phase ≡ Refused h p3 status done → plan.steps ≡ steps
    → Refuses h p3 status done steps next byte
    → StandsAt Does old prepared (stage_of phase came) cut front
    → Advances Does cut plan (stage_of phase came) front byte old old prepared
    (stage_of next came)
refusal_advances {State = State} Does old prepared cut plan phase next came h p3 status done byte
    front steps is steps_are refuses stands =
    let Claim : Phase → Type 0 = λ p. StandsAt Does old prepared (stage_of p came) cut front
    → Advances Does cut plan (stage_of p came) front byte old old prepared
    (stage_of next came) in
    let Refusal : List Step → Type 0 = λ st. Refuses h p3 status done st next byte in
    subst Claim (sym is) (at front (subst Refusal (sym steps_are) refuses)) stands
  where
    at : (f : Front) → Refuses h p3 status done plan.steps next byte
        → StandsAt Does old prepared (Refusing h p3 status done) cut f
        → Advances Does cut plan (Refusing h p3 status done) f byte old old prepared
        (stage_of next came)
    at (In_header bytes) refuses stands = absurd stands
    at (After_first b sw1) refuses stands = absurd stands
    at (In_body b) (inl null) stands =
        let Next : Phase → Type 0 =
        λ n. Advances Does cut plan (Refusing h p3 status done) (In_body b) byte old old
        prepared (stage_of n came) in
        let Byte : ℕ → Type 0 =
        λ x. Advances Does cut plan (Refusing h p3 status done) (In_body b) x old old prepared
        (Refusing h p3 status null.0) in
        subst Next (sym null.1)
        (subst Byte (sym null.2)
        (refuses_with_null Does old prepared cut plan h p3 status done null.0 b null.3 stands))
    at (In_body b) (inr ends) stands =
        let Next : Phase → Type 0 =
        λ n. Advances Does cut plan (Refusing h p3 status done) (In_body b) byte old old
        prepared (stage_of n came) in
        let Byte : ℕ → Type 0 =
        λ x. Advances Does cut plan (Refusing h p3 status done) (In_body b) x old old prepared
        (Ending status) in
        subst Next (sym ends.0)
        (subst Byte (sym ends.1)
        (refuses_with_status Does old prepared cut plan h p3 status done b ends.2 ends.3
        stands))

-- the next character of a service
pub service_advances : {State : Type 0} (Does : State → ℕ → Tpdu → State → Type 0) (old new : State)
    (before prepared : Prepared State) (cut : ℕ) (plan : Course) (phase : Phase) (stage : Stage)
    (came : List ℕ)
    (s : Service) (byte : ℕ) (front : Front) → phase ≡ Accepted s
    → ((b : Body) → IsServed before s (take s.moved came) cut b
    → Advances Does cut plan (Serving s (take s.moved came)) (In_body b) byte old new prepared
    stage)
    → StandsAt Does old before (stage_of phase came) cut front
    → Advances Does cut plan (stage_of phase came) front byte old new prepared stage
service_advances Does old new before prepared cut plan phase stage came s byte front is serves
    stands =
    let Claim : Phase → Type 0 = λ p. StandsAt Does old before (stage_of p came) cut front
    → Advances Does cut plan (stage_of p came) front byte old new prepared stage in
    subst Claim (sym is) (at front) stands
  where
    at : (f : Front) → StandsAt Does old before (Serving s (take s.moved came)) cut f
        → Advances Does cut plan (Serving s (take s.moved came)) f byte old new prepared stage
    at (In_header bytes) stands = absurd stands
    at (After_first b sw1) stands = absurd stands
    at (In_body b) stands = serves b stands

-- with a header alone both directions have the same characters and the same status
same_alone : (h : Header) (p3 : ℕ) (d e : Direction) (status : StatusWord)
    → tpdu_of (dialogue (header_only h p3 d) status)
    ≡ tpdu_of (dialogue (header_only h p3 e) status)
same_alone h p3 ToCard ToCard status = refl
same_alone h p3 ToCard FromCard status = refl
same_alone h p3 FromCard ToCard status = refl
same_alone h p3 FromCard FromCard status = refl

status_alone : {State : Type 0} (Does : State → ℕ → Tpdu → State → Type 0) (cut : ℕ) (plan : Course)
    (bytes : List ℕ) (h : Header) (p3 : ℕ) (d e : Direction) (byte : ℕ) (old new : State)
    (prepared : Prepared State) (status : StatusWord)
    → Advances Does cut plan (Taking_header bytes) (In_body (header_only h p3 d)) byte old new
    prepared (Ending status)
    → Advances Does cut plan (Taking_header bytes) (In_body (header_only h p3 e)) byte old new
    prepared (Ending status)
status_alone Does cut plan bytes h p3 d e byte old new prepared status (inr ends) = absurd ends.1
status_alone Does cut plan bytes h p3 d e byte old new prepared status
    (inl (In_header f, goes, stands, same, on)) = absurd stands
status_alone Does cut plan bytes h p3 d e byte old new prepared status
    (inl (In_body b, goes, stands, same, on)) = absurd stands
status_alone Does cut plan bytes h p3 d e byte old new prepared status
    (inl (After_first b sw1, inl moves, stands, same, on)) = absurd (cc_of moves.2)
  where
    cc_of : {x : Body} → After_first b sw1 ≡ In_body x → ⊥
    cc_of is = absurd (cc)
status_alone Does cut plan bytes h p3 d e byte old new prepared status
    (inl (After_first b sw1, inr (inl begins), stands, same, on)) = absurd (cc_of begins.2.3)
  where
    cc_of : {x : Body} → After_first b sw1 ≡ In_body x → ⊥
    cc_of is = absurd (cc)
status_alone {State = State} Does cut plan bytes h p3 d e byte old new prepared status
    (inl (After_first b sw1, inr (inr (between, card, is_status, is)), stands, same, on)) =
    let Stands : Front → Type 0 = λ f. StandsAt Does new prepared (Ending status) cut f
    × (IsOnPlan (Taking_header bytes) plan (In_body (header_only h p3 d))
    → IsOnPlan (Ending status) plan f) in
    let at = subst Stands is (stands, on) in
    let first = at.0.0 in
    let T : Tpdu → Type 0 = λ t. Does new cut t at.0.1 in
    inl (
      After_first (header_only h p3 e) byte,
      inr (inr (refl, refl, is_status, refl)),
      (
        first,
        at.0.1,
        at.0.2,
        subst T (same_alone h p3 d e status) at.0.3,
        record {
          moved_by_segments = refl;
          is_status = at.0.4.is_status;
          only_nulls =
              λ invalid. tt;
        },
        record { all_or_nothing = inl refl; step_by_step = refl },
      ),
      same,
      λ none. record { all_or_nothing = inl refl; step_by_step = (at.1 none).step_by_step },
    )

-- before the first character, no step of a plan is done
from_header : {State : Type 0} (Does : State → ℕ → Tpdu → State → Type 0) (cut : ℕ) (plan : Course)
    (judged : Stage) (bytes : List ℕ) (front : Front) (byte : ℕ) (old new : State)
    (prepared : Prepared State) (stage : Stage)
    → IsOnPlan judged plan front → Advances Does cut plan judged front byte old new prepared stage
    → Advances Does cut plan (Taking_header bytes) front byte old new prepared stage
from_header Does cut plan judged bytes front byte old new prepared stage on (inl goes) =
    inl (goes.0, goes.1, goes.2, goes.3, λ none. goes.4 on)
from_header Does cut plan judged bytes front byte old new prepared stage on (inr ends) =
    inr (ends.0, ends.1, ends.2, ends.3, ends.4, ends.5, λ none. ends.6 on)

-- the direction that a verdict determines
pub direction_in : Stage → Direction → Direction
direction_in (Taking_header bytes) d = d
direction_in (Refusing h p3 status done) d = d
direction_in (Serving s came) d = s.direction
direction_in (Ending status) d = d

pub suits_itself : (stage : Stage) (h : Header) (p3 : ℕ) (d : Direction)
    → SuitsFront stage (In_body (header_only h p3 (direction_in stage d)))
unfolding direction_in
suits_itself (Taking_header bytes) h p3 d = tt
suits_itself (Refusing h q status done) i p3 d = tt
suits_itself (Serving s came) h p3 d = refl
suits_itself (Ending status) h p3 d = tt

-- if data are to move, or a NULL was sent, the direction is that of the front
abbrev Opened : {State : Type 0} (Does : State → ℕ → Tpdu → State → Type 0) (cut : ℕ)
    (plan : Course) (bytes : List ℕ) (h : Header) (p3 : ℕ) (byte : ℕ) (old new : State)
    (prepared : Prepared State) (stage : Stage) → Direction → Type 0
Opened Does cut plan bytes h p3 byte old new prepared stage d =
    Advances Does cut plan (Taking_header bytes) (In_body (header_only h p3 d)) byte old new
    prepared stage

settled : {State : Type 0} (Does : State → ℕ → Tpdu → State → Type 0) (cut : ℕ) (plan : Course)
    (bytes : List ℕ) (h : Header) (p3 : ℕ) (byte : ℕ) (old new : State) (prepared : Prepared State)
    (judged stage : Stage) (d : Direction)
    → KeepsDirection judged stage → ((status : StatusWord) → judged ≡ Ending status → ⊥)
    → SuitsFront stage (In_body (header_only h p3 d))
    → Opened Does cut plan bytes h p3 byte old new prepared stage (direction_in judged d)
    → Opened Does cut plan bytes h p3 byte old new prepared stage d
unfolding direction_in
settled Does cut plan bytes h p3 byte old new prepared judged (Taking_header other) d keeps never
    suits advances = absurd (never keeps.0 keeps.1)
settled Does cut plan bytes h p3 byte old new prepared judged (Refusing i q status done) d keeps
    never suits advances =
    let At : Stage → Type 0 =
    λ j. Opened Does cut plan bytes h p3 byte old new prepared (Refusing i q status done)
    (direction_in j d) in
    subst At keeps.1 advances
settled Does cut plan bytes h p3 byte old new prepared judged (Serving s came) d keeps never suits
    advances =
    let At : Stage → Type 0 =
    λ j. Opened Does cut plan bytes h p3 byte old new prepared (Serving s came)
    (direction_in j d) in
    let By : Direction → Type 0 =
    λ e. Opened Does cut plan bytes h p3 byte old new prepared (Serving s came) e in
    subst By (keeps.3 ∙ sym suits) (subst At keeps.2 advances)
settled Does cut plan bytes h p3 byte old new prepared judged (Ending status) d keeps never suits
    advances =
    status_alone Does cut plan bytes h p3 (direction_in judged d) d byte old new prepared status
    advances

verdict_is_no_status : (phase : Phase) (came : List ℕ) → IsVerdict phase → (status : StatusWord)
    → stage_of phase came ≡ Ending status → ⊥
verdict_is_no_status (Opening bytes taken) came verdict status is = absurd verdict
verdict_is_no_status (Refused h p3 refusal done) came verdict status is = absurd (cc)
verdict_is_no_status (Accepted s) came verdict status is = absurd (cc)
verdict_is_no_status (SecondStatus s) came verdict status is = absurd verdict

-- the first character after a header
pub opening_advances : {State : Type 0} (Does : State → ℕ → Tpdu → State → Type 0) (cut : ℕ)
    (plan : Course) (phase judged : Phase) (bytes came : List ℕ) (taken byte : ℕ) (front : Front)
    (old new : State) (before prepared : Prepared State) (stage : Stage)
    → phase ≡ Opening bytes taken → (length bytes ≡ 5) × (taken ≤ 5)
    → listens (stage_of phase came) ≡ false → IsVerdict judged
    → KeepsDirection (stage_of judged came) stage → SuitsFront stage front
    → ((h : Header) (p3 : ℕ) (d : Direction) → bytes ≡ begins_with h p3
    → SuitsFront (stage_of judged came) (In_body (header_only h p3 d))
    → Advances Does cut plan (stage_of judged came) (In_body (header_only h p3 d)) byte old new
    prepared stage × IsOnPlan (stage_of judged came) plan (In_body (header_only h p3 d)))
    → StandsAt Does old before (stage_of phase came) cut front
    → Advances Does cut plan (stage_of phase came) front byte old new prepared stage
opening_advances Does cut plan phase judged bytes came taken byte front old new before prepared
    stage is held due verdict keeps suits opens stands =
    let Claim : Phase → Type 0 = λ p. listens (stage_of p came) ≡ false
    → StandsAt Does old before (stage_of p came) cut front
    → Advances Does cut plan (stage_of p came) front byte old new prepared stage in
    subst Claim (sym is) (at front suits) due stands
  where
    at : (f : Front) → SuitsFront stage f → nat_lt (length (take taken bytes)) 5 ≡ false
        → StandsAt Does old before (Taking_header (take taken bytes)) cut f
        → Advances Does cut plan (Taking_header (take taken bytes)) f byte old new prepared stage
    at (In_header g) suits due stands = absurd (omega (arith, stands.1, ltb-false _ _ due))
    at (After_first b sw1) suits due stands = absurd stands
    at (In_body b) suits due stands =
        let d = direction_in (stage_of judged came) b.direction in
        let whole : bytes ≡ begins_with b.header b.p3 =
        sym (whole_header bytes taken held.0 held.1 due) ∙ stands.0 in
        let first = opens b.header b.p3 d whole
        (suits_itself (stage_of judged came) b.header b.p3 b.direction) in
        let Of : Body → Type 0 = λ x. SuitsFront stage (In_body x)
        → Advances Does cut plan (Taking_header (take taken bytes)) (In_body x) byte old new
        prepared stage in
        subst Of (sym stands.1)
        (λ suits. settled Does cut plan (take taken bytes) b.header b.p3 byte old new prepared
        (stage_of judged came) stage b.direction keeps
        (verdict_is_no_status judged came verdict) suits
        (from_header Does cut plan (stage_of judged came) (take taken bytes)
        (In_body (header_only b.header b.p3 d)) byte old new prepared stage first.1 first.0))
        suits

-- the first character after a header takes a plan
pub takes_a_plan : (phase : Phase) (bytes came : List ℕ) (taken : ℕ) → phase ≡ Opening bytes taken
    → (length bytes ≡ 5) × (taken ≤ 5) → listens (stage_of phase came) ≡ false
    → takes_plan (stage_of phase came) ≡ true
takes_a_plan phase bytes came taken is held due =
    let Takes : Phase → Type 0 = λ p. listens (stage_of p came) ≡ false
    → takes_plan (stage_of p came) ≡ true in
    subst Takes (sym is)
    (λ due. eq-eqb _ _ (ap length (whole_header bytes taken held.0 held.1 due) ∙ held.0)) due

-- only an incomplete header is taken
pub no_header : (phase : Phase) (came bytes : List ℕ)
    → ((all : List ℕ) (taken : ℕ) → phase ≡ Opening all taken → ⊥)
    → stage_of phase came ≡ Taking_header bytes → ⊥
no_header (Opening all taken) came bytes never is = absurd (never all taken refl)
no_header (Refused h p3 status done) came bytes never is = absurd (cc)
no_header (Accepted s) came bytes never is = absurd (cc)
no_header (SecondStatus status) came bytes never is = absurd (cc)

-- a whole header is the one that the end has taken
pub header_taken : (phase : Phase) (bytes came : List ℕ) (taken : ℕ) (h : Header) (p3 : ℕ)
    → phase ≡ Opening bytes taken → (length bytes ≡ 5) × (taken ≤ 5)
    → listens (stage_of phase came) ≡ false → stage_of phase came ≡ Taking_header (begins_with h p3)
    → bytes ≡ begins_with h p3
header_taken phase bytes came taken h p3 is held due whole =
    let Taken : Phase → Type 0 = λ p. listens (stage_of p came) ≡ false
    → stage_of p came ≡ Taking_header (begins_with h p3) → bytes ≡ begins_with h p3 in
    subst Taken (sym is)
    (λ due whole. let e : take taken bytes ≡ begins_with h p3 = cc in
    sym (whole_header bytes taken held.0 held.1 due) ∙ e) due whole

-- what a verdict permits stays permitted until the status
pub stays_permitted : (MayReceive MaySend : Header → Type 0) (header : Header)
    (judged stage : Stage)
    → KeepsDirection judged stage → IsPermitted MayReceive MaySend header judged
    → IsPermitted MayReceive MaySend header stage
stays_permitted MayReceive MaySend header judged (Taking_header bytes) keeps permitted = tt
stays_permitted MayReceive MaySend header judged (Refusing h p3 status done) keeps permitted = tt
stays_permitted MayReceive MaySend header judged (Ending status) keeps permitted = tt
stays_permitted MayReceive MaySend header judged (Serving s came) keeps permitted =
    let At : Stage → Type 0 = λ j. IsPermitted MayReceive MaySend header j in
    let By : Direction → Type 0 = λ d. PermitsData MayReceive MaySend header d in
    subst By keeps.3 (subst At keeps.2 permitted)
