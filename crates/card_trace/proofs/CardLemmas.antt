-- What the run lines of a script of `card` do.
use Rattle.std.proofs.Common.{◌≡◌, ◌≢◌, ◌⊎◌, inl, inr, drop, length-append, ℕ, zero, suc, ◌+◌, ◌<◌, ◌≤◌, List, [], ◌∷◌, ◌++◌, length, Option, Some, None, IfSome, Bool, true, false, nat_lt, if◌then◌else◌, refl, sym, ap, subst, ◌∙◌, arith, append_assoc, append-nil, true≢false}
use Rattle.std.proofs.lemmas.Bool.{ltb-true, ltb-false}
use Rattle.t0_core.specs.declared.end.End.{End}
use Rattle.t0_core.specs.declared.end.End.TheVariants.{Terminal, Card}
use Rattle.t0_core.specs.Character.{Character, sent_by}
use Rattle.t0_core.specs.Plan.{Course, Cursor, advanced, plain, plan_kept}
use Rattle.t0_core.specs.History.{Event, Passed, passed}
use Rattle.t0_core.specs.History as history
use Rattle.t0_core.specs.Buffers.{Steps}
use Rattle.t0_core.specs.CardSide.{Stage, EndOf, Taking_header, listens, takes_plan, with_character, still_to_go}
use Rattle.t0_core.specs.CardHistory.{Leads, LeadsUnder, IsTakenLast, under_way}
use Rattle.t0_core.specs.CardLaws.{answers_on, before_plan, taken_stays}
use Rattle.object_card.specs.State.{CardState, after_reset}
use Rattle.object_card.specs.CardMeaning.{Does}
use Rattle.object_card.specs.CardView.{CardView}
use Rattle.card_trace.specs.AnswerToReset.{AnswerToReset, at_first}
use Rattle.card_trace.specs.PrintedText.{reset_text}
use Rattle.card_trace.specs.ScriptCard.{Act, Reset}
use Rattle.card_trace.specs.CardScripts.{Past, extended, reset_to, no_past, RunningCard, TakeInTurn, ContinuesBy, IsEnough, RunsLine}
use Rattle.card_trace.specs.CardPlaying.{AtWork, end_at, IsReady, LeadOn, steps_in, may_hand_out}

-- ---- characters that pass

sent_one_more : (from : End) (bytes : List ℕ) (byte : ℕ)
    → sent_by from (bytes ++ byte ∷ []) ≡ sent_by from bytes ++ (from, byte) ∷ []
sent_one_more from [] byte = refl
sent_one_more from (b ∷ bytes) byte = ap (λ l. (from, b) ∷ l) (sent_one_more from bytes byte)

passed_both : (a b : List Character) → passed (a ++ b) ≡ passed a ++ passed b
passed_both [] b = refl
passed_both (c ∷ a) b = ap (λ l. Passed c ∷ l) (passed_both a b)

-- characters and plans, then more of both
extended_both : (past : Past) (a b : List Character) (p q : List Course)
    → extended (extended past a p) b q ≡ extended past (a ++ b) (p ++ q)
extended_both past a b p q =
    rw (append_assoc past.events (passed a) (passed b)) (rw (passed_both a b)
    (rw (append_assoc past.characters a b) (rw (append_assoc past.taken p q) refl)))

extended_none : (past : Past) → extended past [] [] ≡ past
extended_none past =
    rw (append-nil past.events) (rw (append-nil past.characters) (rw (append-nil past.taken) refl))

in_turn_both : (left p mid q still : List Course) → TakeInTurn left p mid → TakeInTurn mid q still
    → TakeInTurn left (p ++ q) still
in_turn_both left [] mid q still same then_q =
    let P : List Course → Type 0 = λ l. TakeInTurn l q still in subst P same then_q
in_turn_both [] (x ∷ p) mid q still first then_q =
    (first.0, in_turn_both [] p mid q still first.1 then_q)
in_turn_both (n ∷ left) (x ∷ p) mid q still first then_q =
    (first.0, in_turn_both left p mid q still first.1 then_q)

lead_both : (old mid new : AtWork) (a b : List Character) → LeadOn old a mid
    → LeadOn mid b new → LeadOn old (a ++ b) new
lead_both old mid new a b first second = λ past ready.
    let f = first past ready in
    let s = second (extended past a f.0) f.2 in (
      f.0 ++ s.0,
      in_turn_both old.1.rest f.0 mid.1.rest s.0 new.1.rest f.1 s.1,
      subst (λ p. IsReady p new) (extended_both past a b f.0 s.0) s.2,
    )

pub lead_none : (now : AtWork) (none : List Character) → none ≡ [] → LeadOn now none now
lead_none now none is =
    subst (λ l. LeadOn now l now) (sym is)
    (λ past ready. ([], refl, subst (λ p. IsReady p now) (sym (extended_none past)) ready))

-- one more character after those so far
pub lead_one_more : (from : End) (old mid new : AtWork) (bytes more : List ℕ) (byte : ℕ) → more
    ≡ bytes ++ byte ∷ []
    → LeadOn old (sent_by from bytes) mid → LeadOn mid ((from, byte) ∷ []) new
    → LeadOn old (sent_by from more) new
lead_one_more from old mid new bytes more byte is so_far one =
    let P : List Character → Type 0 = λ l. LeadOn old l new in
    subst P (sym (sent_one_more from bytes byte) ∙ ap (sent_by from) (sym is))
    (lead_both old mid new (sent_by from bytes) ((from, byte) ∷ []) so_far one)

-- ---- plans that TPDUs take

-- the plan that this turn takes, if it takes one
abbrev next_taken : Bool → Course → List Course
next_taken takes plan = if takes then plan ∷ [] else []

more_taken : (takes : Bool) (taken : List Course) (plan : Course)
    → (if takes then taken ++ plan ∷ [] else taken) ≡ taken ++ next_taken takes plan
more_taken true taken plan = refl
more_taken false taken plan = sym (append-nil taken)

takes_next : (takes : Bool) (left : List Course) (kept : Option Course) (after : Cursor)
    → after ≡ (if takes then advanced (record { rest = left; kept = kept })
    else record { rest = left; kept = kept })
    → TakeInTurn left (next_taken takes (plan_kept after)) after.rest
takes_next true [] kept after is = rw is (refl, refl)
takes_next true (p ∷ left) kept after is = rw is (refl, refl)
takes_next false left kept after is = ap (λ c. c.rest) is

still_last : (takes : Bool) (before after : Cursor) (taken : List Course)
    → after ≡ (if takes then advanced before else before)
    → (takes ≡ false → IsTakenLast (plan_kept before) taken)
    → IsTakenLast (plan_kept after) (taken ++ next_taken takes (plan_kept after))
still_last true before after taken is last = (taken, refl)
still_last false before after taken is last =
    let l = last refl in
    (l.0, append-nil taken ∙ l.1 ∙ ap (λ c. l.0 ++ plan_kept c ∷ []) (sym is))

-- if the card sends, and its TPDU has taken a plan before, that plan is the one the cursor keeps
kept_is_last : (past : Past) (now : AtWork) → IsReady past now → listens now.0.stage ≡ false
    → takes_plan now.0.stage ≡ false
    → IsTakenLast (plan_kept now.1) past.taken
kept_is_last past now ready silent none =
    let under = ready.led.under_plans in
    ready.keeps plain (answers_on Does now.0.card.state now.0.card.prepared now.0.stage
    under.plan.cut plain under.front
    under.at_front.stands silent none)

-- a character of the card
pub lead_turn : (old new : EndOf CardView) (before after : Cursor) (byte : ℕ)
    → listens old.stage ≡ false
    → after ≡ (if takes_plan old.stage then advanced before else before)
    → ((first : CardState) (events : List Event)
    → Leads Does after_reset first events old.card.state old.card.prepared old.stage
    → Leads Does after_reset first (events ++ Passed (Card, byte) ∷ []) new.card.state
    new.card.prepared new.stage)
    → ((first : CardState) (came : List Character) (taken : List Course)
    → LeadsUnder Does first came taken old.card.state old.card.prepared old.stage
    → (takes_plan old.stage ≡ false → IsTakenLast (plan_kept before) taken)
    → LeadsUnder Does first (came ++ (Card, byte) ∷ [])
    (if takes_plan old.stage then taken ++ plan_kept after ∷ [] else taken)
    new.card.state new.card.prepared new.stage)
    → LeadOn (old, before) ((Card, byte) ∷ []) (new, after)
lead_turn old new before after byte silent is led led_under = λ past ready.
    let takes = takes_plan old.stage in
    let last = kept_is_last past (old, before) ready silent in
    let U : List Course → Type 0 = λ l. LeadsUnder Does past.start
    (past.characters ++ (Card, byte) ∷ []) l new.card.state new.card.prepared new.stage in (
      next_taken takes (plan_kept after),
      takes_next takes before.rest before.kept after is,
      record {
        led = record {
          by_all = led past.first past.events ready.led.by_all;
          under_plans = subst U (more_taken takes past.taken (plan_kept after))
              (led_under past.start past.characters past.taken ready.led.under_plans last);
        };
        keeps = λ plan has. still_last takes before after past.taken is last;
      },
    )

-- the end and the cursor are unchanged
pub lead_same : (start : AtWork) (characters : List Character) (old new : EndOf CardView)
    (before after : Cursor) → new ≡ old → after ≡ before
    → LeadOn start characters (old, before) → LeadOn start characters (new, after)
lead_same start characters old new before after same still led =
    subst (λ e. LeadOn start characters (e, after)) (sym same)
    (subst (λ p. LeadOn start characters (old, p)) (sym still) led)

-- a character of the terminal
pub lead_take : (old new : EndOf CardView) (byte : ℕ) → new
    ≡ record old { stage = with_character old.stage byte }
    → ((first : CardState) (events : List Event)
    → Leads Does after_reset first events old.card.state old.card.prepared old.stage
    → Leads Does after_reset first (events ++ Passed (Terminal, byte) ∷ []) new.card.state
    new.card.prepared new.stage)
    → ((first : CardState) (came : List Character) (taken : List Course)
    → LeadsUnder Does first came taken old.card.state old.card.prepared old.stage
    → LeadsUnder Does first (came ++ (Terminal, byte) ∷ []) taken new.card.state new.card.prepared
    new.stage)
    → (plans : Cursor) → LeadOn (old, plans) ((Terminal, byte) ∷ []) (new, plans)
lead_take old new byte is led led_under plans = λ past ready.
    let N : List Course → Type 0 = λ l. LeadsUnder Does past.start
    (past.characters ++ (Terminal, byte) ∷ []) l
    new.card.state new.card.prepared new.stage in
    let K : Stage → Type 0 = λ s. (plan : Course) → under_way s plan ≡ plan ∷ []
    → IsTakenLast (plan_kept plans) past.taken in
    let L : List Course → Type 0 = λ l. (plan : Course) → under_way new.stage plan ≡ plan ∷ []
    → IsTakenLast (plan_kept plans) l in (
      [],
      refl,
      record {
        led = record {
          by_all = led past.first past.events ready.led.by_all;
          under_plans = subst N (sym (append-nil past.taken))
              (led_under past.start past.characters past.taken ready.led.under_plans);
        };
        keeps = subst L (sym (append-nil past.taken))
            (subst K (sym (ap (λ e. e.stage) is))
            (λ plan has. ready.keeps plan (sym (taken_stays old.stage plan byte) ∙ has)));
      },
    )

-- characters of the terminal, one after another
pub lead_taken : (Step : EndOf CardView → ℕ → EndOf CardView → Type 0) (plans : Cursor)
    → ((old : EndOf CardView) (byte : ℕ) (new : EndOf CardView) → Step old byte new
    → LeadOn (old, plans) ((Terminal, byte) ∷ []) (new, plans))
    → (old new : EndOf CardView) (bytes : List ℕ) → Steps Step old bytes new
    → LeadOn (old, plans) (sent_by Terminal bytes) (new, plans)
lead_taken Step plans one old new [] same =
    subst (λ e. LeadOn (old, plans) [] (e, plans)) (sym same) (lead_none (old, plans) [] refl)
lead_taken Step plans one old new (b ∷ bytes) (next, step, rest) =
    lead_both (old, plans) (next, plans) (new, plans) ((Terminal, b) ∷ [])
    (sent_by Terminal bytes) (one old b next step) (lead_taken Step plans one next new bytes rest)

-- before a header the TPDU has taken no plan
keeps_none : (stage : Stage) (cursor : Cursor) (taken : List Course) → stage ≡ Taking_header []
    → (plan : Course) → under_way stage plan ≡ plan ∷ [] → IsTakenLast (plan_kept cursor) taken
keeps_none stage cursor taken is plan has =
    let none : [] ≡ plan ∷ [] = rw is at has in absurd (cc)

-- a reset
pub ready_reset : (old new : EndOf CardView) (plans : Cursor) → new.stage ≡ Taking_header []
    → ((first : CardState) (events : List Event)
    → Leads Does after_reset first events old.card.state old.card.prepared old.stage
    → Leads Does after_reset first (events ++ history.Reset ∷ []) new.card.state new.card.prepared
    new.stage)
    → LeadsUnder Does new.card.state [] [] new.card.state new.card.prepared new.stage
    → (past : Past) → IsReady past (old, plans) → IsReady (reset_to past new.card.state)
    (new, plans)
ready_reset old new plans stage led led_under past ready = record {
  led = record { by_all = led past.first past.events ready.led.by_all; under_plans = led_under };
  keeps = keeps_none new.stage plans [] stage;
}

-- a card's end that was just made
pub ready_made : (state : CardState) (made : EndOf CardView) (plans : Cursor) → made.stage
    ≡ Taking_header []
    → Leads Does after_reset state [] made.card.state made.card.prepared made.stage
    → LeadsUnder Does state [] [] made.card.state made.card.prepared made.stage
    → IsReady (no_past state) (made, plans)
ready_made state made plans stage led led_under = record {
  led = record { by_all = led; under_plans = led_under };
  keeps = keeps_none made.stage plans [] stage;
}

-- ---- how many characters a card's end may still hand out

hands_at_most : (stage : Stage) (plans : Cursor)
    → may_hand_out stage plans ≤ suc (steps_in plans.rest + still_to_go stage (plan_kept plans))
hands_at_most stage plans = by (listens stage) refl where
  by : (v : Bool) → listens stage ≡ v
      → may_hand_out stage plans ≤ suc (steps_in plans.rest + still_to_go stage (plan_kept plans))
  by true l = rw l (omega arith)
  by false l = rw l (omega arith)

-- with the plan that is taken there are no more than before
turn_hands : (stage : Stage) (rest : List Course) (kept : Option Course) (takes : Bool)
    → takes_plan stage ≡ takes → (after : Cursor)
    → after ≡ (if takes then advanced (record { rest = rest; kept = kept })
    else record { rest = rest; kept = kept })
    → steps_in after.rest + still_to_go stage (plan_kept after)
    ≤ steps_in rest + still_to_go stage (plan_kept (record { rest = rest; kept = kept }))
turn_hands stage [] kept true e after is =
    rw is (omega (
      arith,
      before_plan stage plain e,
      before_plan stage (plan_kept (record { rest = []; kept = kept })) e,
    ))
turn_hands stage (p ∷ rest) kept true e after is =
    rw is (omega (
      arith,
      before_plan stage p e,
      before_plan stage (plan_kept (record { rest = p ∷ rest; kept = kept })) e,
    ))
turn_hands stage rest kept false e after is = rw is (omega arith)

pub hands_out_less : (old new : Stage) (before after : Cursor) → listens old ≡ false
    → after ≡ (if takes_plan old then advanced before else before)
    → (new ≡ Taking_header [])
    ⊎ (still_to_go new (plan_kept after) < still_to_go old (plan_kept after))
    → may_hand_out new after < may_hand_out old before
hands_out_less old new before after l is (inl e) =
    let some : 0 < may_hand_out old before = rw l (omega arith) in
    subst (λ s. may_hand_out s after < may_hand_out old before) (sym e) some
hands_out_less old new before after l is (inr falls) =
    let much = hands_at_most new after in
    let held = turn_hands old before.rest before.kept (takes_plan old) refl after is in
    rw l (omega (arith, much, held, falls))

-- ---- how many characters are asked for

pub is_false : (v : Bool) → (v ≡ true → ⊥) → v ≡ false
is_false true h = absurd (h refl)
is_false false h = refl

pub within_by_one : (most : Option ℕ) (handed : ℕ) (items more : List ℕ) (byte : ℕ) (v : Bool) → v
    ≡ true
    → handed ≡ length items → more ≡ items ++ byte ∷ []
    → ((n : ℕ) → most ≡ Some n → v ≡ nat_lt handed n)
    → IfSome most (λ n. length more ≤ n)
within_by_one None handed items more byte v e count is some = tt
within_by_one (Some n) handed items more byte v e count is some =
    let lt : handed < n = ltb-true handed n (sym (some n refl) ∙ e) in
    let long : length more ≡ length items + 1 = ap length is ∙ length-append items (byte ∷ []) in
    omega arith

pub enough_handed : (most : Option ℕ) (handed : ℕ) (items : List ℕ) (stage : Stage) (v : Bool) → v
    ≡ false
    → handed ≡ length items → (most ≡ None → v ≡ true)
    → ((n : ℕ) → most ≡ Some n → v ≡ nat_lt handed n)
    → IfSome most (λ n. length items ≤ n) → IsEnough most (length items) stage
enough_handed None handed items stage v e count none some within =
    absurd (true≢false (sym (none refl) ∙ e))
enough_handed (Some n) handed items stage v e count none some within =
    let ge : n ≤ handed = ltb-false handed n (sym (some n refl) ∙ e) in (within, inr (omega arith))

-- ---- what a line does

-- The card after a line: its answer to reset, and its end.
abbrev LeadsBy : (RunningCard → RunningCard → Type 0) → AnswerToReset → AtWork → AnswerToReset
    → AtWork → Type 0
LeadsBy Between answer old later new = (past : Past) → IsReady past old →
    (more : Past) × IsReady more new
    × Between (record { answer = answer; end = end_at past old })
    (record { answer = later; end = end_at more new })

pub leads_by : (Between : RunningCard → RunningCard → Type 0) (answer : AnswerToReset)
    (old new : AtWork) (characters : List Character) → LeadOn old characters new
    → ((past more : Past) → ContinuesBy (end_at past old) characters (end_at more new)
    → Between (record { answer = answer; end = end_at past old })
    (record { answer = answer; end = end_at more new }))
    → LeadsBy Between answer old answer new
leads_by Between answer old new characters led does = λ past ready.
    let l = led past ready in (
      extended past characters l.0,
      l.2,
      does past (extended past characters l.0)
          (record { taken = l.0; past_is = refl; in_turn = l.1; is_led = l.2.led }),
    )

-- a line runs on any running card that a card stands for
pub runs_as : (meant act : Act) (answer : AnswerToReset) (old : AtWork) (later : AnswerToReset)
    (new : AtWork) (text : List ℕ) → meant ≡ act
    → LeadsBy (λ o n. RunsLine o act text n) answer old later new → (card : RunningCard)
    → ((past : Past) × IsReady past old
    × (card ≡ record { answer = answer; end = end_at past old }))
    → (next : RunningCard) × ((more : Past) × IsReady more new
    × (next ≡ record { answer = later; end = end_at more new })) × RunsLine card meant text next
runs_as meant act answer old later new text is leads card (past, ready, stands) =
    let (more, still, does) = leads past ready in
    let next : RunningCard = record { answer = later; end = end_at more new } in (
      next,
      (more, still, refl),
      subst (λ c. RunsLine c meant text next) (sym stands)
          (subst (λ a. RunsLine (record { answer = answer; end = end_at past old }) a text next)
          (sym is) does),
    )

-- if the end took fewer than there are, the card sends next
pub silent_then : (count all : ℕ) (v : Bool) → (count ≡ all) ⊎ ((count < all) × (v ≡ false))
    → count < all → v ≡ false
silent_then count all v (inl same) fewer = absurd (omega (arith, same, fewer))
silent_then count all v (inr silent) fewer = silent.1

pub some_left : (i : ℕ) (bytes : List ℕ) → i < length bytes → drop i bytes ≢ []
some_left zero [] within none = omega (arith, within)
some_left zero (b ∷ bytes) within none = cc none
some_left (suc i) [] within none = omega (arith, within)
some_left (suc i) (b ∷ bytes) within none = some_left i bytes (omega (arith, within)) none

pub leads_reset : (answer anew : AnswerToReset) (old new : EndOf CardView) (plans : Cursor)
    → anew ≡ at_first answer.all → new.card.state ≡ after_reset old.card.state
    → ((past : Past) → IsReady past (old, plans)
    → IsReady (reset_to past new.card.state) (new, plans))
    → LeadsBy (λ o n. RunsLine o Reset reset_text n) answer (old, plans) anew (new, plans)
leads_reset answer anew old new plans begins state ready_again = λ past ready.
    let r = ready_again past ready in (
      reset_to past new.card.state,
      r,
      (
        record { past_is = refl; same_left = refl; standing_is = state; is_led = r.led },
        begins,
        refl,
      ),
    )
