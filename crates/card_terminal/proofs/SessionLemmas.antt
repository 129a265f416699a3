-- A character that passes from one end to the other moves both to the same front.
use Rattle.std.proofs.Common.{◌≡◌, ℕ, ◌+◌, ◌-◌, ◌*◌, ◌<◌, ◌≤◌, List, [], ◌∷◌, ◌++◌, length, take, drop, zero, suc, refl, sym, subst, ◌∙◌, ap, arith, inl, inr, ◌⊎◌, lit<, true, false, Bool, Option, Some, None, Result, Ok, Err, length-append, if◌then◌else◌}
use Rattle.std.proofs.Math.Nat.{le_refl}
use Rattle.std.specs.Result.{OnOk}
use Rattle.std.specs.List.{flat_map}
use Rattle.apdu_core.specs.declared.header.Header.{Header}
use Rattle.apdu_core.specs.StatusWord.{StatusWord, announces, corrects}
use Rattle.apdu_core.specs.CommandBytes.{Command}
use Rattle.t0_core.specs.declared.end.End.TheVariants.{Terminal, Card}
use Rattle.t0_core.specs.declared.host_end.HostTurn.{HostTurn}
use Rattle.t0_core.specs.declared.host_end.HostTurn.TheVariants.{Sends, Listens, Done, Failed}
use Rattle.t0_core.specs.declared.line_fault.LineFault.{LineFault}
use Rattle.t0_core.specs.declared.line_fault.LineFault.TheVariants.{AfterEnd, TooLong, Stalled}
use Rattle.t0_core.specs.declared.direction.Direction.{Direction}
use Rattle.t0_core.specs.declared.direction.Direction.TheVariants.{ToCard, FromCard}
use Rattle.t0_core.specs.declared.tpdu_card.TpduCard.{Ghosts}
use Rattle.t0_core.specs.declared.card_end.Turn.TheVariants as turn
use Rattle.t0_core.specs.Character.{Character}
use Rattle.t0_core.specs.Dialogue.{Body, Dialogue, IsDialogue}
use Rattle.t0_core.specs.Plan.{Course, Cursor, IsCut, plain, plan_kept, advanced, Follows}
use Rattle.t0_core.specs.Meaning.{Tpdu, tpdu_of, Prepared, received}
use Rattle.t0_core.specs.Front.{Front, In_header, In_body, After_first, GoesOn, Ends, brought, fresh}
use Rattle.t0_core.specs.Watch.{Hearing, Hears}
use Rattle.t0_core.specs.Room.{Room}
use Rattle.t0_core.specs.HostSide.{Hosting, HostStandsAt, turn_of, fault_of}
use Rattle.t0_core.specs.HostLaws.{opened, going, unbroken, too_long}
use Rattle.t0_core.specs.CardSide.{Stage, EndOf, Taking_header, Serving, StandsAt, Advances, IsOnPlan, IsPermitted, PermitsData, SuitsFront, begins_with, listens, takes_plan, with_character, still_to_go}
use Rattle.t0_core.specs.CardHistory.{under_way}
use Rattle.t0_core.specs.CardSending.{IsHandedOut}
use Rattle.t0_core.specs.CardTaking.{IsTaken}
use Rattle.t0_core.specs.Buffers.{Steps}
use Rattle.exchange_core.specs.ExchangeSteps.{SendsOne, TakesOne}
use Rattle.t0_core.specs.CardLaws.{begun, answers_on, taken_stays}
use Rattle.card_terminal.specs.Line as on_line
use Rattle.t0_core.specs.FrontLaws.{goes_on}
use Rattle.t0_core.specs.WatchLaws.{hears_more, hears_nothing}
use Rattle.t0_core.specs.DialogueLaws.{ends_with}
use Rattle.exchange_core.specs.declared.wanted.Wanted.{Wanted}
use Rattle.exchange_core.specs.declared.wanted.Wanted.TheVariants.{Bytes}
use Rattle.apdu_core.specs.Shared.{get_response}
use Rattle.exchange_core.specs.Gathered.{wanted_by, less, after_dialogue, after_unit, fetched_of, fetched_after, Opening, By_command, By_fetch, OpensWith, UnitOf, last_of, unit_data, AreFollowed, Gathers, dialogues_of}
use Rattle.apdu_core.specs.Shared.{Reply}
use Rattle.object_card.specs.Agreed.{IsAgreed}
use Rattle.exchange_core.specs.ExchangeSide.{ExchangeOf, HostAsks, HostSends, HostOpensBy, IsOpenedAs, UnderWay, IsOver, IsBounded, Stall, Continues, so_far, ended_with, exchange_turn, response_limit}
use Rattle.card_terminal.specs.Conversing.{Point, point, next_plan, HaveGone, HasStalled, HasOverflown, IsCaused, here, steps_in, is_done, most_tpdus}
use Rattle.card_terminal.specs.Line.{Line, Start, line, HearsOne, point_of, Begins, left, IsAtPlan, StandsUnder, IsGoing, IsDone, IsOneOf, HasPassed}
use Rattle.card_terminal.proofs.GoneLemmas.{none_gone, one_gone, gone_both}
use Rattle.exchange_core.specs.UnitLaws.{unit_ends, unit_goes_on, unit_dialogues}
use Rattle.exchange_core.specs.EndLaws.{asked_card}
use Rattle.exchange_core.specs.ComesToLaws.{over_turn}

-- ---- plans in turn

kept_advanced : (rest : List Course) (kept : Option Course)
    → plan_kept (advanced (record { rest = rest; kept = kept })) ≡ next_plan rest
kept_advanced [] kept = refl
kept_advanced (p ∷ plans) kept = refl

steps_advanced : (rest : List Course) (kept : Option Course)
    → steps_in rest ≡ length (next_plan rest).steps
    + steps_in (advanced (record { rest = rest; kept = kept })).rest
steps_advanced [] kept = refl
steps_advanced (p ∷ plans) kept = refl

-- the card's end has its plan once it sends a character
takes_none_twice : (stage : Stage) (plan : Course) → takes_plan stage ≡ true
    → under_way stage plan ≡ plan ∷ [] → ⊥
takes_none_twice (Taking_header bytes) plan takes under = absurd (cc)
takes_none_twice _ plan takes under = absurd (cc)

-- what holds for the plan once the card's end has sent a character
pub record HasPlan (stage : Stage) (before old new : Cursor) : Type 0 where
  pub is : new ≡ advanced before
  pub kept : plan_kept new ≡ next_plan before.rest
  pub cut : IsCut (next_plan before.rest).cut
  pub falls : steps_in new.rest + still_to_go stage (plan_kept new) ≤ steps_in old.rest + here
      stage old

no_plan_twice : (plan : Course) → plan ∷ [] ≡ [] → ⊥
no_plan_twice plan e = absurd (cc)

here_begun : (stage : Stage) (plan : Course) (cursor : Cursor) → under_way stage plan ≡ plan ∷ []
    → here stage cursor ≡ still_to_go stage (plan_kept cursor)
here_begun (Taking_header bytes) plan cursor under = absurd (cc)
here_begun _ plan cursor under = refl

header_here : (stage : Stage) (cursor : Cursor) (plan : Course) → takes_plan stage ≡ true
    → still_to_go stage plan ≡ here stage cursor + length plan.steps
header_here (Taking_header bytes) cursor plan takes = omega arith
header_here _ cursor plan takes = absurd (cc)

pub has_plan : {C : Type 0} (card : Ghosts C) (before : Cursor) (front : Front) (l : Line C)
    (new : Cursor) → listens l.end.stage ≡ false → StandsUnder card before front l
    → new ≡ (if takes_plan l.end.stage then advanced l.cursor else l.cursor)
    → (takes_plan l.end.stage ≡ true → IsCut (plan_kept new).cut)
    → HasPlan l.end.stage before l.cursor new
has_plan card before front l new silent (stands, on, at_plan) is taken =
    by (takes_plan stage) refl at_plan is
  where
    stage : Stage
    stage = l.end.stage

    by : (v : Bool) → takes_plan stage ≡ v → IsAtPlan stage before l.cursor
        → new ≡ (if v then advanced l.cursor else l.cursor) → HasPlan stage before l.cursor new
    by true takes (inl (none, same)) is =
        let first = is ∙ ap advanced same in
        let kept : plan_kept new ≡ next_plan before.rest = ap plan_kept first
        ∙ kept_advanced before.rest before.kept in
        record {
          is = first;
          kept = kept;
          cut = subst (λ (p : Course). IsCut p.cut) kept (taken takes);
          falls = omega (
            arith,
            header_here stage l.cursor (plan_kept new) takes,
            ap (λ (p : Course). length p.steps) kept,
            ap (λ (c : Cursor). steps_in c.rest) first,
            ap (λ (c : Cursor). steps_in c.rest) same,
            steps_advanced before.rest before.kept,
          );
        }
    by true takes (inr (has, same, cut)) is =
        absurd (takes_none_twice stage (next_plan before.rest) takes has)
    by false takes (inl (none, same)) is =
        absurd (no_plan_twice (next_plan before.rest)
        (sym (answers_on card.Does (card.standing l.end.card) (card.prepared l.end.card) stage
        (next_plan before.rest).cut (next_plan before.rest) front stands silent takes) ∙ none))
    by false takes (inr (has, same, cut)) is = record {
      is = is ∙ same;
      kept = ap plan_kept (is ∙ same) ∙ kept_advanced before.rest before.kept;
      cut = cut;
      falls = omega (
        arith,
        ap (λ (c : Cursor). steps_in c.rest) is,
        ap (λ (c : Cursor). still_to_go stage (plan_kept c)) is,
        here_begun stage (next_plan before.rest) l.cursor has,
      );
    }

-- ---- the direction of the data

-- if the terminal sends data with an instruction, the card never does; if it asks for data, the
-- card never takes any
abbrev pub Never : (Header → Type 0) → (Header → Type 0) → Direction → Header → Type 0
Never R S ToCard h = S h → ⊥
Never R S FromCard h = R h → ⊥

never_asks : (R S : Header → Type 0) (h : Header) (n : ℕ) (host : Hosting) → HostAsks h n host
    → (R h → ⊥) → Never R S host.direction host.header
never_asks R S h n host asks never =
    rw (asks.from_card, asks.header_is) never

never_sends : (R S : Header → Type 0) (h : Header) (content : List ℕ) (host : Hosting)
    → HostSends h content host → (S h → ⊥) → Never R S host.direction host.header
never_sends R S h content host sends never =
    rw (sends.to_card, sends.header_is) never

never_opens : (R S : Header → Type 0) (h : Header) (content : List ℕ) (le : Option ℕ)
    (host : Hosting)
    → HostOpensBy h content le host
    → IsAgreed R S (record { header = h; content = content; le = le })
    → Never R S host.direction host.header
never_opens R S h [] None host opens agreed = never_sends R S h [] host opens agreed
never_opens R S h [] (Some n) host opens agreed = never_asks R S h n host opens agreed.0
never_opens R S h (b ∷ bs) None host opens agreed = never_sends R S h (b ∷ bs) host opens agreed
never_opens R S h (b ∷ bs) (Some n) host opens agreed =
    never_sends R S h (b ∷ bs) host opens agreed.0

-- more is fetched only if the command wants some
none_fetched : (k : ℕ) (announced : Option ℕ) → fetched_of (less (Bytes 0) k) announced ≡ None
none_fetched k None = refl
none_fetched k (Some n) =
    let nothing : 0 - k ≡ 0 = omega arith in
    ap (λ m. fetched_of (Bytes m) (Some n)) nothing

never_fetches : (R S : Header → Type 0) (h : Header) (content : List ℕ) (le : Option ℕ) (k n : ℕ)
    (status : StatusWord) → IsAgreed R S (record { header = h; content = content; le = le })
    → fetched_after (less (wanted_by le) k) status ≡ Some n → R get_response → ⊥
never_fetches R S h content None k n status agreed fetched = let e : None ≡ Some n =
    sym (none_fetched k (announces status)) ∙ fetched in absurd (cc)
never_fetches R S h [] (Some m) k n status agreed fetched = agreed.1
never_fetches R S h (b ∷ bs) (Some m) k n status agreed fetched = agreed.1

fetch_is_no_command : (n : ℕ) (c : Command) → By_fetch n ≡ By_command c → ⊥
fetch_is_no_command n c e = absurd (cc)

never_followed : (R S : Header → Type 0) (c : Command) (units : List UnitOf) (n : ℕ) (left : Wanted)
    → IsAgreed R S c → AreFollowed (By_command c) (wanted_by c.le) units (By_fetch n) left
    → R get_response → ⊥
never_followed R S c [] n left agreed followed = absurd (fetch_is_no_command n c followed.0)
never_followed R S c (u ∷ units) n left agreed followed =
    never_fetches R S c.header c.content c.le (length (unit_data u)) followed.0
    (last_of u).status agreed followed.1.fetched

to_is_not_from : ToCard ≡ FromCard → ⊥
to_is_not_from e = absurd (cc)

never_repeats : (R S : Header → Type 0) (h : Header) (content : List ℕ) (le : Option ℕ)
    (d : Dialogue)
    → OpensWith (By_command (record { header = h; content = content; le = le })) d
    → d.body.direction ≡ FromCard
    → IsAgreed R S (record { header = h; content = content; le = le }) → R d.body.header → ⊥
never_repeats R S h [] None d opens from agreed = absurd (to_is_not_from (sym opens.to_card ∙ from))
never_repeats R S h [] (Some n) d opens from agreed = rw opens.header_is agreed.0
never_repeats R S h (b ∷ bs) le d opens from agreed =
    absurd (to_is_not_from (sym opens.to_card ∙ from))

fetched_no_command : (n : ℕ) (w : Wanted) (units : List UnitOf) (c : Command) (left : Wanted)
    → AreFollowed (By_fetch n) w units (By_command c) left → ⊥
fetched_no_command n w [] c left followed = fetch_is_no_command n c (sym followed.0)
fetched_no_command n w (u ∷ units) c left followed =
    fetched_no_command followed.0 (after_unit w u) units c left followed.2

same_opening : (c other : Command) → By_command other ≡ By_command c → c ≡ other
same_opening c other e = cc

same_command : (c other : Command) (units : List UnitOf) (left : Wanted)
    → AreFollowed (By_command c) (wanted_by c.le) units (By_command other) left → c ≡ other
same_command c other [] left followed = same_opening c other followed.0
same_command c other (u ∷ units) left followed =
    absurd (fetched_no_command followed.0 (after_unit (wanted_by c.le) u) units other left
    followed.2)

pub never : (R S : Header → Type 0) (c : Command) (units : List UnitOf) (opening : Opening)
    (left : Wanted) (tried : Option Dialogue) (host : Hosting) → IsAgreed R S c
    → AreFollowed (By_command c) (wanted_by c.le) units opening left
    → IsOpenedAs opening left tried host → Never R S host.direction host.header
never R S c units (By_fetch n) left None host agreed followed opens =
    never_asks R S get_response n host opens (never_followed R S c units n left agreed followed)
never R S c units (By_fetch n) left (Some d) host agreed followed (opens, m, corrected, asks) =
    never_asks R S d.body.header m host asks
    (rw opens.header_is (never_followed R S c units n left agreed followed))
never R S c units (By_command other) left None host agreed followed opens =
    never_opens R S other.header other.content other.le host opens
    (rw (same_command c other units left followed) at agreed)
never R S c units (By_command other) left (Some d) host agreed followed
    (opens, m, corrected, asks) =
    never_asks R S d.body.header m host asks
    (never_repeats R S other.header other.content other.le d opens
    (asked_card d.body.direction (after_dialogue left d) (corrects d.status) m corrected)
    (rw (same_command c other units left followed) at agreed))

-- the direction of the data, if any are to move, is that of the front
agree : (R S : Header → Type 0) (h : Header) (a b : Direction) → Never R S a h → PermitsData R S h b
    → a ≡ b
agree R S h ToCard ToCard none permitted = refl
agree R S h ToCard FromCard none permitted = absurd (none permitted)
agree R S h FromCard ToCard none permitted = absurd (none permitted)
agree R S h FromCard FromCard none permitted = refl

suits_body : (R S : Header → Type 0) (h : Header) (direction : Direction) (b : Body) (stage : Stage)
    → b.direction ≡ direction → Never R S direction h → IsPermitted R S h stage
    → SuitsFront stage (In_body b)
suits_body R S h direction b (Serving s came) is none permitted = is
    ∙ agree R S h direction _ none permitted
suits_body R S h direction b _ is none permitted = tt

suits_header : (stage : Stage) (bytes : List ℕ) → SuitsFront stage (In_header bytes)
suits_header (Taking_header others) bytes = tt
suits_header _ bytes = tt

pub suits : {State : Type 0} (Does : State → ℕ → Tpdu → State → Type 0) (standing : State)
    (prepared : Prepared State) (R S : Header → Type 0) (host : Hosting) (stage next : Stage)
    (cut : ℕ) (front : Front)
    → Never R S host.direction host.header → HostStandsAt host front
    → ((h : Header) (p3 : ℕ) → stage ≡ Taking_header (begins_with h p3)
    → IsPermitted R S h next)
    → takes_plan stage ≡ true → StandsAt Does standing prepared stage cut front
    → SuitsFront next front
suits Does s p R S host (Taking_header bytes) next cut (In_header f) none host_stands permitted
    takes stands = suits_header next f
suits Does s p R S host (Taking_header bytes) next cut (After_first b sw1) none host_stands
    permitted takes stands = absurd stands
suits Does s p R S host (Taking_header bytes) next cut (In_body b) none host_stands permitted
    takes stands =
    let by = opened host (In_body b) host_stands in
    suits_body R S b.header host.direction b next by.2 (rw by.0 none)
    (permitted b.header b.p3 (ap Taking_header stands.0))
suits Does s p R S host _ next cut front none host_stands permitted takes stands = absurd (cc)

-- ---- what the watch hears

hears_on : (since now later : Hearing) (came more : List Character) (ch : Character)
    → Hears since came now → Hears now (ch ∷ []) later → more ≡ came ++ ch ∷ []
    → Hears since more later
hears_on since now later came more ch before this is =
    rw is (hears_more since now later came (ch ∷ []) before this)

never_under : (R S : Header → Type 0) (c : Command) (ex : ExchangeOf) (units : List UnitOf)
    (tried : Option Dialogue) (front : Front) → IsAgreed R S c → UnderWay c ex units tried front
    → Never R S ex.host.direction ex.host.header
never_under R S c ex units tried front agreed under =
    never R S c units under.opening under.left tried ex.host agreed under.followed under.opened_as

-- ---- a step of the card's end, at the front of the terminal's

pub turned : {C : Type 0} (card : Ghosts C) (s : Start card.State) (l : Line C) (end : EndOf C)
    (new : Cursor) (byte : ℕ) (under : IsGoing card s l)
    → HasPlan l.end.stage under.before l.cursor new
    → ((h : Header) (p3 : ℕ) → l.end.stage ≡ Taking_header (begins_with h p3)
    → IsPermitted card.MayReceive card.MaySend h end.stage)
    → ((cut : ℕ) (front : Front) → (takes_plan l.end.stage ≡ true
    → (cut ≡ (plan_kept new).cut) × SuitsFront end.stage front)
    → StandsAt card.Does (card.standing l.end.card) (card.prepared l.end.card) l.end.stage cut front
    → Advances card.Does cut (plan_kept new) l.end.stage front byte (card.standing l.end.card)
    (card.standing end.card) (card.prepared end.card) end.stage)
    → ((front : Front) × GoesOn under.front (Card, byte) front
    × StandsUnder card under.before front (line l.exchange end new l.hearing)
    × (card.standing end.card ≡ card.standing l.end.card))
    ⊎ ((d : Dialogue) × Ends under.front (Card, byte) d × IsDialogue d
    × Follows d (next_plan under.before.rest)
    × card.Does (card.standing l.end.card) (next_plan under.before.rest).cut (tpdu_of d)
    (card.standing end.card) × (end.stage ≡ Taking_header []))
turned card s l end new byte under has permitted advances =
    let plan = next_plan under.before.rest in
    let agrees = never_under card.MayReceive card.MaySend s.command l.exchange under.units
    under.tried under.front under.agreed under.terminal in
    let steps = rw has.kept at (advances plan.cut under.front (λ takes. (
      sym (ap (λ (k : Course). k.cut) has.kept),
      suits card.Does (card.standing l.end.card) (card.prepared l.end.card) card.MayReceive
          card.MaySend l.exchange.host l.end.stage end.stage plan.cut under.front agrees
          under.terminal.stands permitted takes under.stands.0,
    )) under.stands.0) in
    elim steps [
      | inl goes ↦ inl (
        goes.0,
        goes.1,
        (
          goes.2,
          goes.4 under.stands.1,
          inr (
            begun card.Does (card.standing end.card) (card.prepared end.card) end.stage plan.cut
                byte plan under.front goes.0 goes.1 goes.2,
            has.is,
            has.cut,
          ),
        ),
        goes.3,
      )
      | inr ends ↦ inr (ends.0, ends.1, ends.2, ends.6 under.stands.1, ends.4, ends.5)
    ]

-- ---- a character has passed, and the dialogue continues

plan_stays : (stage new : Stage) (before cursor : Cursor) (byte : ℕ) → listens stage ≡ true
    → new ≡ with_character stage byte → IsAtPlan stage before cursor → IsAtPlan new before cursor
plan_stays stage new before cursor byte listening is at_plan =
    let plan = next_plan before.rest in
    let way : under_way new plan ≡ under_way stage plan =
    ap (λ s. under_way s plan) is ∙ taken_stays stage plan byte in
    elim at_plan [
      | inl none ↦ inl (way ∙ none.0, none.1)
      | inr has ↦ inr (way ∙ has.0, has.1, has.2)
    ]

pub passed : {C : Type 0} (card : Ghosts C) (s : Start card.State) (l new : Line C)
    (ch : Character) (front : Front) (under : IsGoing card s l) → GoesOn under.front ch front
    → UnderWay s.command new.exchange under.units under.tried front
    → new.exchange.gather.limit ≡ l.exchange.gather.limit
    → StandsUnder card under.before front new
    → card.standing new.end.card ≡ card.standing l.end.card
    → Hears l.hearing (ch ∷ []) new.hearing → IsGoing card s new
passed card s l new ch front under goes terminal kept stands same hears = record {
  agreed = under.agreed;
  units = under.units;
  tried = under.tried;
  front = front;
  terminal = terminal;
  room = kept ∙ under.room;
  before = under.before;
  between = under.between;
  gone = rw same under.gone;
  stands = stands;
  hears = hears_on under.between l.hearing new.hearing _ _ ch under.hears hears
      (goes_on under.front front ch under.terminal.is_front goes).1;
}

-- ---- a character has passed, and the dialogue has ended

pub gone_more : {C : Type 0} (card : Ghosts C) (s : Start card.State) (l new : Line C)
    (d : Dialogue) (byte : ℕ) (under : IsGoing card s l) → Ends under.front (Card, byte) d
    → IsDialogue d → Follows d (next_plan under.before.rest)
    → card.Does (card.standing l.end.card) (next_plan under.before.rest).cut (tpdu_of d)
    (card.standing new.end.card) → HasPlan l.end.stage under.before l.cursor new.cursor
    → Hears l.hearing ((Card, byte) ∷ []) new.hearing
    → HaveGone card.Does s.from (so_far under.units under.tried ++ d ∷ []) (point_of card new)
gone_more card s l new d byte under ends is follows does has hears =
    let mid = point (card.standing l.end.card) under.before.rest under.between in
    gone_both card.Does s.from mid (point_of card new) (so_far under.units under.tried) (d ∷ [])
    under.gone
    (rw has.is (one_gone card.Does (card.standing l.end.card) (card.standing new.end.card)
    under.before.rest under.before.kept under.between new.hearing d is follows has.cut does
    (hears_on under.between l.hearing new.hearing _ _ (Card, byte) under.hears hears
    (ends_with under.front byte d ends))))

-- these dialogues have crossed the line since the start
abbrev HasGone : {C : Type 0} (card : Ghosts C) → Start card.State → Line C → List Dialogue
    → Type 0
HasGone card s l ds = HaveGone card.Does s.from ds (point_of card l)

-- the next TPDU begins
begins_next : {C : Type 0} (card : Ghosts C) (s : Start card.State) (l : Line C)
    (units : List UnitOf) (tried : Option Dialogue) (ds : List Dialogue)
    → IsAgreed card.MayReceive card.MaySend s.command → l.end.stage ≡ Taking_header []
    → UnderWay s.command l.exchange units tried fresh → l.exchange.gather.limit ≡ response_limit
    → ds ≡ so_far units tried → HasGone card s l ds → IsGoing card s l
begins_next card s l units tried ds agreed rests terminal room is gone = record {
  agreed = agreed;
  units = units;
  tried = tried;
  front = fresh;
  terminal = terminal;
  room = room;
  before = l.cursor;
  between = l.hearing;
  gone = rw is at gone;
  stands = rw rests ((refl, lit< tt), tt, inl (refl, refl));
  hears = hears_nothing l.hearing;
}

pub begins : {C : Type 0} (card : Ghosts C) (command : Command) (l : Line C)
    → l.end.stage ≡ Taking_header [] → Begins card command l
    → IsGoing card (on_line.begun card command l) l
begins card command l rests (agreed, terminal, room) =
    begins_next card (on_line.begun card command l) l [] None [] agreed rests terminal room refl
    (none_gone card.Does (point_of card l))

-- after a dialogue the exchange continues or has ended
pub continues : {C : Type 0} (card : Ghosts C) (s : Start card.State) (l : Line C)
    (units : List UnitOf) (tried : Option Dialogue) (d : Dialogue)
    → IsAgreed card.MayReceive card.MaySend s.command → l.end.stage ≡ Taking_header []
    → l.exchange.gather.limit ≡ response_limit → HasGone card s l (so_far units tried ++ d ∷ [])
    → Continues s.command l.exchange units tried d → IsOneOf card s l
continues card s l units tried d agreed rests room gone (inl (none, terminal)) =
    inl (begins_next card s l units (Some d) _ agreed rests terminal room
    (ap (λ t. so_far units t ++ d ∷ []) none ∙ sym (unit_goes_on units d)) gone)
continues card s l units tried d agreed rests room gone (inr (inl terminal)) =
    inl (begins_next card s l (units ++ ended_with tried d ∷ []) None _ agreed rests terminal room
    (sym (unit_ends units tried d)) gone)
continues card s l units tried d agreed rests room gone (inr (inr terminal)) = inr (record {
  units = units ++ ended_with tried d ∷ [];
  status = d.status;
  terminal = terminal;
  room = room;
  gone = rw (unit_dialogues units tried d) gone;
  at_rest = rests;
})

-- or it has stalled
pub has_stalled : {C : Type 0} (card : Ghosts C) (s : Start card.State) (l : Line C)
    (units : List UnitOf) (tried : Option Dialogue) (d : Dialogue)
    → HasGone card s l (so_far units tried ++ d ∷ [])
    → Stall s.command (units ++ ended_with tried d ∷ [])
    → HasStalled card.Does s.from s.command (point_of card l)
has_stalled card s l units tried d gone stall = record {
  units = units ++ ended_with tried d ∷ [];
  stall = stall;
  gone = rw (unit_dialogues units tried d) gone;
}

-- ---- the measure

turn_is_no_end : (turn : HostTurn) → ((status : StatusWord) → turn ≡ Done status → ⊥)
    → (turn ≡ Failed → ⊥) → is_done turn ≡ false
turn_is_no_end (Sends byte) done failed = refl
turn_is_no_end Listens done failed = refl
turn_is_no_end (Done status) done failed = absurd (done status refl)
turn_is_no_end Failed done failed = absurd (failed refl)

turn_under : (c : Command) (ex : ExchangeOf) (units : List UnitOf) (tried : Option Dialogue)
    (front : Front) → UnderWay c ex units tried front → exchange_turn ex ≡ turn_of ex.host
turn_under c ex units tried front under =
    ap (λ b. if b then Failed else turn_of ex.host) under.going

left_under : {C : Type 0} (c : Command) (l : Line C) (units : List UnitOf)
    (tried : Option Dialogue) (front : Front) → UnderWay c l.exchange units tried front
    → left l ≡ 1 + 1000 * (most_tpdus - l.exchange.attempt.number) + steps_in l.cursor.rest
    + here l.end.stage l.cursor
left_under c l units tried front under =
    let host = l.exchange.host in
    let not_done : is_done (exchange_turn l.exchange) ≡ false =
    ap is_done (turn_under c l.exchange units tried front under)
    ∙ turn_is_no_end (turn_of host) (λ status e. going host front status under.stands e)
    (unbroken host front under.stands) in
    rw not_done refl

left_over : {C : Type 0} (c : Command) (l : Line C) (units : List UnitOf) (status : StatusWord)
    → IsOver c l.exchange units status → left l ≡ 0
left_over c l units status over = rw (over_turn c l.exchange units status over) refl

here_taken : (stage : Stage) (byte : ℕ) (cursor : Cursor)
    → ((plan : Course) → still_to_go (with_character stage byte) plan < still_to_go stage plan)
    → here (with_character stage byte) cursor < here stage cursor
here_taken (Taking_header bytes) byte cursor falls = falls plain
here_taken _ byte cursor falls = falls (plan_kept cursor)

terminal_falls : {C : Type 0} (c : Command) (l new : Line C) (units : List UnitOf)
    (tried : Option Dialogue) (front later : Front) (byte : ℕ)
    → UnderWay c l.exchange units tried front → UnderWay c new.exchange units tried later
    → new.cursor ≡ l.cursor → new.end.stage ≡ with_character l.end.stage byte
    → ((plan : Course) → still_to_go new.end.stage plan < still_to_go l.end.stage plan)
    → left new < left l
terminal_falls c l new units tried front later byte under on same is falls =
    omega (
      arith,
      left_under c l units tried front under,
      left_under c new units tried later on,
      under.place.number_is,
      on.place.number_is,
      ap (λ (k : Cursor). steps_in k.rest) same,
      ap (λ (k : Cursor). here new.end.stage k) same,
      ap (λ s. here s l.cursor) is,
      here_taken l.end.stage byte l.cursor (rw is at falls),
    )

pub card_falls : {C : Type 0} (card : Ghosts C) (c : Command) (l new : Line C)
    (units : List UnitOf) (tried : Option Dialogue) (before : Cursor) (front later : Front)
    (byte : ℕ) → UnderWay c l.exchange units tried front
    → UnderWay c new.exchange units tried later → HasPlan l.end.stage before l.cursor new.cursor
    → (new.end.stage ≡ Taking_header []) ⊎ (still_to_go new.end.stage (plan_kept new.cursor)
    < still_to_go l.end.stage (plan_kept new.cursor)) → GoesOn front (Card, byte) later
    → StandsAt card.Does (card.standing new.end.card) (card.prepared new.end.card)
    new.end.stage (next_plan before.rest).cut later → left new < left l
card_falls card c l new units tried before front later byte under on has falls goes stands =
    let plan = next_plan before.rest in
    let has_begun = begun card.Does (card.standing new.end.card) (card.prepared new.end.card)
    new.end.stage plan.cut byte plan front later goes stands in
    elim falls [
      | inl rests ↦
          absurd (no_plan_twice plan (sym has_begun ∙ ap (λ s. under_way s plan) rests))
      | inr less ↦ omega (
        arith,
        left_under c l units tried front under,
        left_under c new units tried later on,
        under.place.number_is,
        on.place.number_is,
        has.falls,
        less,
        here_begun new.end.stage plan new.cursor has_begun,
      )
    ]

at_rest_here : (stage : Stage) (cursor : Cursor) → stage ≡ Taking_header []
    → here stage cursor ≡ 305
at_rest_here stage cursor rests = ap (λ s. here s cursor) rests ∙ omega arith

next_falls : {C : Type 0} (c : Command) (l new : Line C) (units more : List UnitOf)
    (tried again : Option Dialogue) (before : Cursor) (front : Front) (d : Dialogue)
    → UnderWay c l.exchange units tried front → UnderWay c new.exchange more again fresh
    → so_far more again ≡ so_far units tried ++ d ∷ [] → IsBounded new.exchange
    → HasPlan l.end.stage before l.cursor new.cursor → new.end.stage ≡ Taking_header []
    → left new < left l
next_falls c l new units more tried again before front d under later is bounded has rests =
    omega (
      arith,
      left_under c l units tried front under,
      left_under c new more again fresh later,
      under.place.number_is,
      later.place.number_is,
      ap length is,
      length-append (so_far units tried) (d ∷ []),
      bounded.room,
      bounded.fits,
      bounded.tpdus,
      has.falls,
      at_rest_here new.end.stage new.cursor rests,
    )

pub end_falls : {C : Type 0} (c : Command) (l new : Line C) (units : List UnitOf)
    (tried : Option Dialogue) (before : Cursor) (front : Front) (d : Dialogue)
    → UnderWay c l.exchange units tried front → Continues c new.exchange units tried d
    → IsBounded new.exchange → HasPlan l.end.stage before l.cursor new.cursor
    → new.end.stage ≡ Taking_header [] → left new < left l
end_falls c l new units tried before front d under (inl (none, later)) bounded has rests =
    next_falls c l new units units tried (Some d) before front d under later
    (unit_goes_on units d ∙ ap (λ t. so_far units t ++ d ∷ []) (sym none)) bounded has rests
end_falls c l new units tried before front d under (inr (inl later)) bounded has rests =
    next_falls c l new units (units ++ ended_with tried d ∷ []) tried None before front d under
    later (unit_ends units tried d) bounded has rests
end_falls c l new units tried before front d under (inr (inr over)) bounded has rests =
    omega (
      arith,
      left_under c l units tried front under,
      left_over c new (units ++ ended_with tried d ∷ []) d.status over,
    )

-- ---- a character of the terminal

-- an exchange that sends this character continues its dialogue with it
abbrev pub SendsOn : Command → ExchangeOf → ExchangeOf → ℕ → Type 0
SendsOn c ex new byte = (units : List UnitOf) (tried : Option Dialogue) (front : Front)
    → UnderWay c ex units tried front
    → (later : Front) × GoesOn front (Terminal, byte) later × UnderWay c new units tried later

pub terminal_passed : {C : Type 0} (card : Ghosts C) (s : Start card.State) (l new : Line C)
    (byte : ℕ) → IsGoing card s l → SendsOn s.command l.exchange new.exchange byte
    → new.exchange.gather.limit ≡ l.exchange.gather.limit → new.cursor ≡ l.cursor
    → new.end ≡ record l.end { stage = with_character l.end.stage byte }
    → ((plan : Course) → still_to_go new.end.stage plan < still_to_go l.end.stage plan)
    → ((cut : ℕ) (front later : Front) → StandsAt card.Does (card.standing l.end.card)
    (card.prepared l.end.card) l.end.stage cut front → GoesOn front (Terminal, byte) later
    → (listens l.end.stage ≡ true) × StandsAt card.Does (card.standing new.end.card)
    (card.prepared new.end.card) new.end.stage cut later
    × ((plan : Course) → IsOnPlan l.end.stage plan front → IsOnPlan new.end.stage plan later))
    → Hears l.hearing ((Terminal, byte) ∷ []) new.hearing
    → (left new < left l) × IsGoing card s new
terminal_passed {C = C} card s l new byte under sends kept same end_is falls on hears =
    let goes = sends under.units under.tried under.front under.terminal in
    let plan = next_plan under.before.rest in
    let taken = on plan.cut under.front goes.0 under.stands.0 goes.1 in
    let stage = ap (λ (e : EndOf C). e.stage) end_is in (
      terminal_falls s.command l new under.units under.tried under.front goes.0 byte
          under.terminal goes.2 same stage falls,
      passed card s l new (Terminal, byte) goes.0 under goes.1 goes.2 kept (
        taken.1,
        taken.2 plan under.stands.1,
        rw same (plan_stays l.end.stage new.end.stage under.before l.cursor byte taken.0 stage
            under.stands.2),
      )
          (ap (λ (e : EndOf C). card.standing e.card) end_is) hears,
    )

-- ---- a character that the terminal refuses

is_too_long : (host : Hosting) (room : Room) (byte : ℕ) (fault : LineFault) → fault ≡ TooLong
    → (fault_of host room byte ≡ Some fault)
    ⊎ ((fault ≡ Stalled) × (fault_of host room byte ≡ None))
    → fault_of host room byte ≡ Some TooLong
is_too_long host room byte fault is (inl same) = same ∙ ap Some is
is_too_long host room byte fault is (inr (stalled, none)) = absurd (cc)

too_many : (room : Room) (limit : ℕ) (before one two : List ℕ) (byte : ℕ)
    → room.bytes ≡ before ++ one → room.limit ≡ limit → length room.bytes ≡ room.limit
    → two ≡ one ++ byte ∷ []
    → limit < length (before ++ two)
too_many room limit before one two byte bytes is full more =
    let last : List ℕ = byte ∷ [] in
    omega (
      arith,
      ap length bytes,
      length-append before one,
      is,
      full,
      ap length more,
      length-append one last,
      length-append before two,
    )

-- a card's end that has begun to answer has taken its plan
taken_at : (stage : Stage) (before cursor : Cursor)
    → under_way stage (next_plan before.rest) ≡ next_plan before.rest ∷ []
    → IsAtPlan stage before cursor → cursor.rest ≡ drop 1 before.rest
taken_at stage before cursor has_begun (inl (waits, same)) =
    absurd (no_plan_twice (next_plan before.rest) (sym has_begun ∙ waits))
taken_at stage before cursor has_begun (inr (has, same, cut)) =
    ap (λ (k : Cursor). k.rest) same ∙ by before.rest
  where
    by : (plans : List Course)
        → (advanced (record { rest = plans; kept = before.kept })).rest ≡ drop 1 plans
    by [] = refl
    by (p ∷ plans) = refl

pub has_overflown : {C : Type 0} (card : Ghosts C) (s : Start card.State) (l new : Line C)
    (front : Front) (byte : ℕ) (fault : LineFault) (under : IsGoing card s l)
    → GoesOn under.front (Card, byte) front → StandsUnder card under.before front new
    → card.standing new.end.card ≡ card.standing l.end.card → fault ≡ TooLong
    → (fault_of l.exchange.host l.exchange.gather byte ≡ Some fault)
    ⊎ ((fault ≡ Stalled) × (fault_of l.exchange.host l.exchange.gather byte ≡ None))
    → Hears l.hearing ((Card, byte) ∷ []) new.hearing
    → HasOverflown card.Does s.from s.command (point_of card new)
has_overflown card s l new front byte fault under goes stands same is faults hears =
    let ex = l.exchange in
    let full = too_long ex.host ex.gather byte under.front front under.terminal.stands
    (is_too_long ex.host ex.gather byte fault is faults) goes in
    let plan = next_plan under.before.rest in
    record {
      units = under.units;
      tried = under.tried;
      ex = ex;
      before = under.front;
      terminal = under.terminal;
      front = front;
      goes = (byte, goes);
      prepared = card.prepared new.end.card;
      stage = new.end.stage;
      plans = under.before.rest;
      between = under.between;
      gone = rw same under.gone;
      card = stands.0;
      on_plan = stands.1;
      taken = taken_at new.end.stage under.before new.cursor
          (begun card.Does (card.standing new.end.card) (card.prepared new.end.card)
          new.end.stage plan.cut byte plan under.front front goes stands.0) stands.2;
      room = under.room;
      too_many = too_many ex.gather response_limit
          (flat_map received (so_far under.units under.tried)) (brought under.front)
          (brought front) byte under.terminal.gathered under.room full.0 full.1;
      hears = hears_on under.between l.hearing new.hearing _ _ (Card, byte) under.hears hears
          (goes_on under.front front (Card, byte) under.terminal.is_front goes).1;
    }

-- ---- a run of the card's data

no_plan_due : (v : Bool) → v ≡ false → v ≡ true → ⊥
no_plan_due v is takes = absurd (cc)

-- a data character passes
data_passed : {C : Type 0} (card : Ghosts C) (s : Start card.State) (l : Line C)
    (ex : ExchangeOf) (end : EndOf C) (hearing : Hearing) (byte : ℕ) → IsOneOf card s l
    → TakesOne l.exchange byte ex → IsHandedOut card l.end byte end
    → HearsOne Card l.hearing byte hearing
    → (left (line ex end l.cursor hearing) < left l)
    × IsOneOf card s (line ex end l.cursor hearing)
data_passed card s l ex end hearing byte (inr over) takes sends hears =
    let no : Ok tt ≡ Err AfterEnd = takes.after_end (inr (
      over.status,
      over_turn s.command l.exchange over.units over.status over.terminal,
    )) in
    absurd (cc)
data_passed card s l ex end hearing byte (inl under) takes sends hears =
    let new = line ex end l.cursor hearing in
    let never = no_plan_due (takes_plan l.end.stage) sends.begun in
    let has = has_plan card under.before under.front l l.cursor sends.silent under.stands
    (rw sends.begun refl) (λ takes. absurd (never takes)) in
    elim (turned card s l end l.cursor byte under has
    (λ h p3 is. absurd (never (ap takes_plan is)))
    (λ cut front takes stands. sends.advances cut (plan_kept l.cursor) front stands)) [
      | inl goes ↦
          let taken = takes.goes_on s.command under.units under.tried under.front goes.0
          under.terminal goes.1 in (
            card_falls card s.command l new under.units under.tried under.before under.front
                goes.0 byte under.terminal taken has (inr (sends.falls (plan_kept l.cursor)))
                goes.1 goes.2.0,
            inl (passed card s l new (Card, byte) goes.0 under goes.1 taken takes.limit goes.2
                goes.3 hears),
          )
      | inr ends ↦
          let taken = takes.ends s.command under.units under.tried under.front ends.0
          under.terminal ends.1 in
          let gone = gone_more card s l new ends.0 byte under ends.1 ends.2 ends.3 ends.4 has
          hears in (
            end_falls s.command l new under.units under.tried under.before under.front ends.0
                under.terminal taken takes.bounds has ends.5,
            continues card s new under.units under.tried ends.0 under.agreed ends.5
                (takes.limit ∙ under.room) gone taken,
          )
    ]

-- nothing passes
stays : {C : Type 0} (card : Ghosts C) (s : Start card.State) (l : Line C) (ex : ExchangeOf)
    (end : EndOf C) (hearing : Hearing) → IsOneOf card s l → ex ≡ l.exchange → end ≡ l.end
    → hearing ≡ l.hearing
    → (left (line ex end l.cursor hearing) ≤ left l)
    × IsOneOf card s (line ex end l.cursor hearing)
stays {C = C} card s l ex end hearing on same_exchange same_end same_hearing =
    let P : ExchangeOf → EndOf C → Hearing → Type 0 = λ x e h.
    (left (line x e l.cursor h) ≤ left l) × IsOneOf card s (line x e l.cursor h) in
    subst (λ x. P x end hearing) (sym same_exchange)
    (subst (λ e. P l.exchange e hearing) (sym same_end)
    (subst (λ h. P l.exchange l.end h) (sym same_hearing) (le_refl (left l), on)))

-- and so do many
pub run_passed : {C : Type 0} (card : Ghosts C) (s : Start card.State) (run : List ℕ)
    (l : Line C) (ex : ExchangeOf) (end : EndOf C) (hearing : Hearing) → IsOneOf card s l
    → Steps TakesOne l.exchange run ex → Steps (IsHandedOut card) l.end run end
    → Steps (HearsOne Card) l.hearing run hearing
    → (left (line ex end l.cursor hearing) ≤ left l)
    × IsOneOf card s (line ex end l.cursor hearing)
run_passed card s [] l ex end hearing on takes sends hears =
    stays card s l ex end hearing on takes sends hears
run_passed card s (b ∷ run) l ex end hearing on (ex1, take, takes) (end1, send, sends)
    (hearing1, hear, hears) =
    let one = data_passed card s l ex1 end1 hearing1 b on take send hear in
    let rest = run_passed card s run (line ex1 end1 l.cursor hearing1) ex end hearing one.1 takes
    sends hears in
    (omega (arith, one.0, rest.0), rest.1)

-- ---- in the terms of the code

-- the card's end does not listen if it sends a character
pub silent_turn : (stage : Stage) (byte : ℕ)
    → (turn.Sends byte ≡ turn.Listens → listens stage ≡ true)
    × (listens stage ≡ true → turn.Sends byte ≡ turn.Listens) → listens stage ≡ false
silent_turn stage byte whose = by (listens stage) whose.1
  where
    by : (v : Bool) → (v ≡ true → turn.Sends byte ≡ turn.Listens) → v ≡ false
    by false is = refl
    by true is = let e : turn.Sends byte ≡ turn.Listens = is refl in absurd (cc)

-- a terminal that listens sends nothing
pub listening_sends_nothing : (byte : ℕ) → Listens ≡ Sends byte → ⊥
listening_sends_nothing byte e = absurd (cc)

pub on_too : {C : Type 0} (card : Ghosts C) (s : Start card.State) (l : Line C)
    (new : ExchangeOf) → new ≡ l.exchange → IsOneOf card s l
    → IsOneOf card s (line new l.end l.cursor l.hearing)
on_too card s l new is on =
    subst (λ e. IsOneOf card s (line e l.end l.cursor l.hearing)) (sym is) on

-- an exchange that has ended neither sends nor listens
pub over_sends_nothing : (c : Command) (ex : ExchangeOf) (units : List UnitOf)
    (status : StatusWord) (byte : ℕ) → IsOver c ex units status → Sends byte ≡ exchange_turn ex → ⊥
over_sends_nothing c ex units status byte over does =
    let done = over_turn c ex units status over in absurd (cc)

pub over_is_silent : (c : Command) (ex : ExchangeOf) (units : List UnitOf) (status : StatusWord)
    → IsOver c ex units status → Listens ≡ exchange_turn ex → ⊥
over_is_silent c ex units status over does =
    let done = over_turn c ex units status over in absurd (cc)

-- an exchange that sends or listens is in progress
pub still_going : {C : Type 0} (card : Ghosts C) (s : Start card.State) (l : Line C)
    → IsOneOf card s l → exchange_turn l.exchange ≡ Listens → IsGoing card s l
still_going card s l (inl under) listens = under
still_going card s l (inr over) listens =
    absurd (over_is_silent s.command l.exchange over.units over.status over.terminal (sym listens))

pub still_sending : {C : Type 0} (card : Ghosts C) (s : Start card.State) (l : Line C) (byte : ℕ)
    → IsOneOf card s l → Sends byte ≡ exchange_turn l.exchange → IsGoing card s l
still_sending card s l byte (inl under) sends = under
still_sending card s l byte (inr over) sends =
    absurd (over_sends_nothing s.command l.exchange over.units over.status byte over.terminal sends)

-- ---- a run of the terminal's data

-- where a dialogue continues with the terminal, the card's end listens
abbrev pub IsDue : {C : Type 0} (card : Ghosts C) → EndOf C → Type 0
IsDue card end = (cut byte : ℕ) (front new : Front) → StandsAt card.Does (card.standing end.card)
    (card.prepared end.card) end.stage cut front → GoesOn front (Terminal, byte) new
    → listens end.stage ≡ true

-- it takes all that the terminal sends
listens_on : {C : Type 0} (card : Ghosts C) (s : Start card.State) (l : Line C) (ex : ExchangeOf)
    (end : EndOf C) (byte : ℕ) → IsOneOf card s l → SendsOne l.exchange byte ex → end ≡ l.end
    → IsDue card end → listens end.stage ≡ false → ⊥
listens_on card s l ex end byte on send same due silent =
    let under = still_sending card s l byte on send.turn_is in
    let goes = send.goes_on s.command under.units under.tried under.front byte under.terminal refl
    in
    let e : true ≡ false = sym (due (next_plan under.before.rest).cut byte under.front goes.0
    (rw same under.stands.0) goes.1) ∙ silent in
    absurd (cc)

-- a data character passes
one_sent : {C : Type 0} (card : Ghosts C) (s : Start card.State) (l : Line C) (ex : ExchangeOf)
    (end : EndOf C) (hearing : Hearing) (byte : ℕ) → IsOneOf card s l
    → SendsOne l.exchange byte ex → IsTaken card l.end byte end
    → HearsOne Terminal l.hearing byte hearing
    → (left (line ex end l.cursor hearing) < left l)
    × IsOneOf card s (line ex end l.cursor hearing)
one_sent card s l ex end hearing byte on send taken hears =
    let step = terminal_passed card s l (line ex end l.cursor hearing) byte
    (still_sending card s l byte on send.turn_is)
    (λ units tried front way. send.goes_on s.command units tried front byte way refl)
    send.limit refl taken.taken taken.falls (λ cut front later stands goes.
    let on = taken.goes_on cut front later stands goes in (taken.listening, on.0, on.1)) hears in
    (step.0, inl step.1)

-- and so do many: the card's end takes them all
pub run_sent : {C : Type 0} (card : Ghosts C) (s : Start card.State) (run : List ℕ) (count : ℕ)
    (l : Line C) (ex : ExchangeOf) (end : EndOf C) (hearing : Hearing) → IsOneOf card s l
    → Steps SendsOne l.exchange run ex → Steps (IsTaken card) l.end (take count run) end
    → (count ≡ length run) ⊎ ((count < length run) × (listens end.stage ≡ false))
    → IsDue card end → Steps (HearsOne Terminal) l.hearing run hearing
    → (left (line ex end l.cursor hearing) ≤ left l)
    × IsOneOf card s (line ex end l.cursor hearing)
run_sent {C = C} card s [] zero l ex end hearing on sends takes all due hears =
    stays card s l ex end hearing on sends takes hears
run_sent {C = C} card s [] (suc count) l ex end hearing on sends takes all due hears =
    stays card s l ex end hearing on sends takes hears
run_sent card s (b ∷ run) zero l ex end hearing on sends takes (inl all) due hears = absurd (cc)
run_sent card s (b ∷ run) zero l ex end hearing on (ex1, send, sends) takes (inr few) due hears =
    absurd (listens_on card s l ex1 end b on send takes due few.1)
run_sent card s (b ∷ run) (suc count) l ex end hearing on (ex1, send, sends) (end1, one, takes) all
    due (hearing1, hear, hears) =
    let first = one_sent card s l ex1 end1 hearing1 b on send one hear in
    let rest = run_sent card s run count (line ex1 end1 l.cursor hearing1) ex end hearing first.1
    sends takes (elim all [
      | inl e ↦ inl (omega (arith, e))
      | inr few ↦ inr (omega (arith, few.0), few.1)
    ]) due hears in
    (omega (arith, first.0, rest.0), rest.1)

-- an exchange whose turn is `Done` has ended
pub still_over : {C : Type 0} (card : Ghosts C) (s : Start card.State) (l : Line C)
    (new : ExchangeOf) (status : StatusWord) → IsOneOf card s l
    → Done status ≡ exchange_turn l.exchange
    → (((byte : ℕ) → Done status ≡ Sends byte → ⊥) → new ≡ l.exchange)
    → IsDone card s (line new l.end l.cursor l.hearing)
still_over card s l new status (inl under) done stays =
    absurd (going l.exchange.host under.front status under.terminal.stands
    (sym (turn_under s.command l.exchange under.units under.tried under.front under.terminal)
    ∙ sym done))
still_over card s l new status (inr over) done stays =
    let never : (byte : ℕ) → Done status ≡ Sends byte → ⊥ =
    λ byte e. let same : Done status ≡ Sends byte = e in absurd (cc) in
    subst (λ e. IsDone card s (line e l.end l.cursor l.hearing)) (sym (stays never)) over

-- what holds for a result that is `Ok`
pub on_ok : {A E : Type 0} (r : Result A E) (P : Type 0) (x : A) → r ≡ Ok x → OnOk r P → P
on_ok r P x is on = rw is at on

pub none_left : {C : Type 0} (card : Ghosts C) (s : Start card.State) (l : Line C)
    → IsDone card s l → left l ≡ 0
none_left card s l over = left_over s.command l over.units over.status over.terminal

-- a step of the loop: fewer characters are left if it continues, and none if the exchange has ended
pub smaller : {C : Type 0} (card : Ghosts C) (s : Start card.State) (old new : Line C)
    (going : Bool) → HasPassed card s old new going
    → left new + (if going then 1 else 0) < left old + 1
smaller card s old new true passed = omega (arith, passed.0)
smaller card s old new false over = omega (arith, none_left card s new over)

pub still_on : {C : Type 0} (card : Ghosts C) (s : Start card.State) (old new : Line C)
    (going : Bool) → HasPassed card s old new going → IsOneOf card s new
still_on card s old new true passed = passed.1
still_on card s old new false over = inr over

pub over_at_end : {C : Type 0} (card : Ghosts C) (s : Start card.State) (old new : Line C)
    (going : Bool) → HasPassed card s old new going → going ≡ false → IsDone card s new
over_at_end card s old new true passed ends = absurd (cc)
over_at_end card s old new false over ends = over

pub some_is : {A : Type 0} (o : Option A) (x y : A) → o ≡ Some x → o ≡ Some y → x ≡ y
some_is o x y one two = cc

-- the answer of a whole exchange
pub answered : {C : Type 0} (card : Ghosts C) (s : Start card.State) (l : Line C)
    (was : Point card.State) (answer : Reply) (over : IsDone card s l) → s.from ≡ was
    → answer ≡ record { status = over.status; content = l.exchange.gather.bytes }
    → (units : List UnitOf) × Gathers s.command units answer.content answer.status
    × HaveGone card.Does was (flat_map dialogues_of units) (point_of card l)
answered card s l was answer over same is =
    (over.units, rw is over.terminal.gathers, rw same at over.gone)

pub caused : {State : Type 0} (Does : State → ℕ → Tpdu → State → Type 0)
    (from was to : Point State) (c : Command) (fault other : LineFault)
    → IsCaused Does from c to fault → from ≡ was → fault ≡ other → IsCaused Does was c to other
caused Does from was to c fault other is same faults = rw (same, faults) at is

pub same_err : {T E : Type 0} (a b : E) → ◌≡◌ {A = Result T E} (Err a) (Err b) → a ≡ b
same_err a b e = cc
