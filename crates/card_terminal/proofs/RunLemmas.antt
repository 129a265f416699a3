-- Operations with a card of data objects: no line fault occurs, and talks follow one another.
use Rattle.std.proofs.Common.{Result, Ok, Err, IsOk, MatchResult, ◌≡◌, ◌≢◌, ℕ, ◌+◌, ◌-◌, ◌<◌, ◌≤◌, List, [], ◌∷◌, ◌++◌, length, take, drop, ◌⊎◌, inl, inr, refl, sym, ap, ◌∙◌, arith, Option, Some, None, IfSome, Bool, true, false, ◌==◌, if◌then◌else◌, length-append, append-nil}
use Rattle.std.specs.List.{flat_map}
use Rattle.apdu_core.specs.StatusWord.{StatusWord, count, ok}
use Rattle.apdu_core.specs.CommandBytes.{Command}
use Rattle.t0_core.specs.declared.direction.Direction.{Direction}
use Rattle.t0_core.specs.declared.direction.Direction.TheVariants.{ToCard, FromCard}
use Rattle.t0_core.specs.declared.end.End.TheVariants.{Card}
use Rattle.t0_core.specs.declared.host_end.HostTurn.TheVariants.{Sends, Done}
use Rattle.t0_core.specs.declared.line_fault.LineFault.{LineFault}
use Rattle.t0_core.specs.declared.plan.Step.{Step}
use Rattle.t0_core.specs.Character.{Character}
use Rattle.t0_core.specs.Dialogue.{Body, Dialogue, characters, foreseen, moves}
use Rattle.t0_core.specs.Front.{Front, In_header, In_body, After_first, GoesOn, IsFront, EndInLast, brought, from_card}
use Rattle.t0_core.specs.FrontLaws.{moves-within}
use Rattle.t0_core.specs.HostSide.{Hosting, IsOpenedBy, HostStandsAt}
use Rattle.t0_core.specs.HostLaws.{opened}
use Rattle.t0_core.specs.Meaning.{Tpdu, Runs, received}
use Rattle.t0_core.specs.Plan.{Course, Cursor, FollowInTurn}
use Rattle.t0_core.specs.Watch.{Hearing, Hears}
use Rattle.t0_core.specs.WatchLaws.{hears_more, hears_nothing}
use Rattle.object_card.specs.State.{CardState, IsCardState, is_idle}
use Rattle.object_card.specs.CardMeaning.{Does}
use Rattle.object_card.specs.DataCard.{StandsFor}
use Rattle.apdu_core.specs.Shared.{Reply}
use Rattle.object_card.specs.OneStep.{Operation, AnswersAll}
use Rattle.card_terminal.specs.declared.operation.Op.{Op}
use Rattle.exchange_core.specs.Gathered.{Gathers, Opening, By_command, By_fetch, UnitOf, dialogues_of, repeated_with}
use Rattle.exchange_core.specs.declared.wanted.Wanted.{Wanted}
use Rattle.exchange_core.specs.ExchangeSide.{ExchangeOf, exchange_turn, HostOpensBy, IsOver, IsOpenedAs, so_far}
use Rattle.card_terminal.specs.Conversing.{Point, point, HaveGone, HasOverflown, IsCaused}
use Rattle.card_terminal.specs.Talk.{AreTakenUpTo, HaveCuts, Talk, AreCommandsOf, AreExchangesOf, IsTalkOf, talk_dialogues}
use Rattle.card_terminal.specs.Operations.{operation_of}
use Rattle.card_terminal.specs.Running.{new_answers, carried_out}
use Rattle.card_terminal.specs.RunLaws.{HaveReplies, no_replies, one_more_reply, replies_come}
use Rattle.card_terminal.proofs.FetchLemmas.{Goes, goes_by_runs, goes_sound}
use Rattle.exchange_core.specs.OwnedLaws.{same_done}
use Rattle.exchange_core.specs.ComesToLaws.{over_turn}
use Rattle.card_terminal.proofs.GoneLemmas.{gone_both}
use Rattle.card_terminal.proofs.BoundLemmas.{so_far_brings, never_stalls}
use Rattle.card_terminal.proofs.TalkLemmas.{own_talk_answers}
use Rattle.card_terminal.specs.TalkLaws.{all_alike}
use Rattle.card_terminal.proofs.TalkListLemmas.{runs_stand, taken_more, taken_to_end, one_more_exchange, talk_more}

-- ---- the plans that are used, and no others

runs_used : {State : Type 0} (Does : State → ℕ → Tpdu → State → Type 0) (old new : State)
    (ds : List Dialogue) (plans : List Course) → Runs Does old ds plans new
    → Runs Does old ds (take (length ds) plans) new
runs_used Does old new [] plans runs = runs
runs_used Does old new (d ∷ ds) [] runs = runs
runs_used Does old new (d ∷ ds) (p ∷ plans) (mid, does, runs) =
    (mid, does, runs_used Does mid new ds plans runs)

follow_used : (ds : List Dialogue) (plans : List Course) → FollowInTurn ds plans
    → FollowInTurn ds (take (length ds) plans)
follow_used [] plans follow = tt
follow_used (d ∷ ds) [] follow = follow
follow_used (d ∷ ds) (p ∷ plans) follow = (follow.0, follow_used ds plans follow.1)

none_left : (ds : List Dialogue) (plans : List Course)
    → drop (length ds) (take (length ds) plans) ≡ []
none_left [] plans = refl
none_left (d ∷ ds) [] = refl
none_left (d ∷ ds) (p ∷ plans) = none_left ds plans

talk_used : {State : Type 0} (Does : State → ℕ → Tpdu → State → Type 0) (first last : State)
    (plans left : List Course) (operations : List Operation) (replies : List Reply)
    (line : List Character) (talk : Talk Does first plans operations replies last left line)
    → Talk Does first (take (length talk.dialogues) plans) operations replies last [] line
talk_used Does first last plans left operations replies line talk = record {
  dialogues = talk.dialogues;
  talks = talk.talks;
  are_dialogues = talk.are_dialogues;
  line_is = talk.line_is;
  follow = follow_used talk.dialogues plans talk.follow;
  runs = runs_used Does first last talk.dialogues plans talk.runs;
  left_is = sym (none_left talk.dialogues plans);
  dialogues_are = talk.dialogues_are;
  are_talks = talk.are_talks;
}

-- ---- a card of data objects causes no line fault

moved_within : (segments : List Step) (n k : ℕ) → EndInLast segments n k → k ≤ n
moved_within [] n k ends = omega (arith, ends)
moved_within (s ∷ []) n k ends = omega (arith, ends, moves-within s n)
moved_within (s ∷ t ∷ segments) n k ends = omega (
  arith,
  ends.0,
  moves-within s n,
  moved_within (t ∷ segments) (n - moves s n) (k - moves s n) ends.1,
)

opens_bytes : (c : Command) (host : Hosting) (content : List ℕ) (le : Option ℕ)
    → HostOpensBy c.header content le host → (host.direction ≡ ToCard) ⊎ (host.p3 < 256)
opens_bytes c host [] None opens = inl opens.to_card
opens_bytes c host [] (Some n) opens = inr opens.is_byte
opens_bytes c host (b ∷ bs) le opens = inl opens.to_card

-- a terminal that asks for data has a byte that counts them
asks_with_a_byte : (opening : Opening) (left : Wanted) (first : Option Dialogue) (host : Hosting)
    → IsOpenedAs opening left first host → (host.direction ≡ ToCard) ⊎ (host.p3 < 256)
asks_with_a_byte (By_command c) left None host opened =
    opens_bytes c host c.content c.le opened
asks_with_a_byte (By_fetch n) left None host opened = inr opened.is_byte
asks_with_a_byte opening left (Some d) host (opens, n, repeats, asks) = inr asks.is_byte

count_is_few : (b : ℕ) → b < 256 → count b ≤ 256
count_is_few b few = by (b == 0)
  where
    by : (v : Bool) → (if v then 256 else b) ≤ 256
    by true = omega arith
    by false = omega (arith, few)

few_in : (direction : Direction) (p3 : ℕ) (segments : List Step) (moved : List ℕ)
    → EndInLast segments (foreseen direction p3) (length moved)
    → (direction ≡ ToCard) ⊎ (p3 < 256) → length (from_card direction moved) ≤ 256
few_in ToCard p3 segments moved ends is = omega arith
few_in FromCard p3 segments moved ends (inl e) = absurd (cc)
few_in FromCard p3 segments moved ends (inr few) = omega (
  arith,
  moved_within segments (count p3) (length moved) ends,
  count_is_few p3 few,
)

few_of : (host : Hosting) (b : Body) → IsOpenedBy host b
    → (host.direction ≡ ToCard) ⊎ (host.p3 < 256)
    → EndInLast b.segments (foreseen b.direction b.p3) (length b.moved)
    → length (from_card b.direction b.moved) ≤ 256
few_of host b by is ends = few_in b.direction b.p3 b.segments b.moved ends (elim is [
  | inl to ↦ inl (by.2 ∙ to)
  | inr few ↦ inr (rw by.1 few)
])

-- the data of the current dialogue are at most 256 bytes
brought_few : (host : Hosting) (front : Front) → (host.direction ≡ ToCard) ⊎ (host.p3 < 256)
    → HostStandsAt host front → IsFront front → length (brought front) ≤ 256
brought_few host (In_header bytes) is stands is_front = omega arith
brought_few host (In_body b) is stands is_front =
    few_of host b (opened host (In_body b) stands) is is_front.in_last
brought_few host (After_first b sw1) is stands is_front =
    few_of host b (opened host (After_first b sw1) stands) is is_front.0.in_last

none_from_card : (direction : Direction) → length (from_card direction []) ≤ 0
none_from_card ToCard = omega arith
none_from_card FromCard = omega arith

one_from_card : (direction : Direction) (moved : List ℕ) (byte : ℕ)
    → length (from_card direction (moved ++ byte ∷ [])) ≤ length (from_card direction moved) + 1
one_from_card ToCard moved byte = omega arith
one_from_card FromCard moved byte = omega (arith, length-append moved (byte ∷ []))

-- with one more character, at most one more
brings_one : (front new : Front) (c : Character) → GoesOn front c new
    → length (brought new) ≤ length (brought front) + 1
brings_one (In_header bytes) new c (from, inl (few, is)) = rw is (omega arith)
brings_one (In_header bytes) new c (from, inr (h, direction, whole, is)) =
    rw is (omega (arith, none_from_card direction))
brings_one (In_body b) new c (inl (lt, from, is)) = rw is (one_from_card b.direction b.moved c.1)
brings_one (In_body b) new c (inr (inl (between, from, (s, null, byte, is)))) = rw is (omega arith)
brings_one (In_body b) new c (inr (inr (between, from, status, is))) = rw is (omega arith)
brings_one (After_first b sw1) new c goes = absurd goes

repeats_first : (opening : Opening) (left : Wanted) (first : Option Dialogue) (host : Hosting)
    → IsOpenedAs opening left first host
    → IfSome first (λ d. (n : ℕ) × (repeated_with left d ≡ Some n))
repeats_first opening left None host opened = tt
repeats_first opening left (Some d) host (opens, n, repeats, asks) = (n, repeats)

-- ---- an exchange from its first to its last character

pub ok_unless : {E : Type 0} (r : Result Unit E) (P : Unit → Type 0) (Q : E → Type 0)
    → MatchResult r P Q → ((e : E) → Q e → ⊥) → IsOk r
ok_unless (Ok x) P Q is never = refl
ok_unless (Err e) P Q is never = absurd (never e is)

pub when_ok : {A E : Type 0} (r : Result A E) (x : A) (P : A → Type 0) (Q : E → Type 0)
    → r ≡ Ok x → MatchResult r P Q → P x
when_ok r x P Q is holds = rw is at holds

pub done_is_no_character : (status : StatusWord) (byte : ℕ) → Done status ≡ Sends byte → ⊥
done_is_no_character status byte e = absurd (cc)

pub over_then : (c : Command) (ex after : ExchangeOf) (units : List UnitOf)
    (status told : StatusWord) → IsOver c ex units status → after ≡ ex
    → Done told ≡ exchange_turn ex → IsOver c after units told
over_then c ex after units status told over stays turn =
    let is : told ≡ status = same_done told status (turn ∙ over_turn c ex units status over) in
    rw (stays, is) over

-- the own state of a sound card stands for a sound state
pub sound_at : {C State : Type 0} (state_of : State → CardState) (state : C → CardState)
    (standing : C → State) → ((card : C) → state_of (standing card) ≡ state card)
    → (card seen : C) → card ≡ seen → IsCardState (state seen)
    → IsCardState (state_of (standing card))
sound_at state_of state standing means card seen same sound =
    rw (means card ∙ ap state same) sound

pub never_both : (b : Bool) → b ≡ true → b ≡ false → ⊥
never_both true one two = absurd (cc)
never_both false one two = absurd (cc)

pub same_point : {State : Type 0} (standing standing' : State) (cursor cursor' : Cursor)
    (now now' : Hearing) → standing' ≡ standing → cursor' ≡ cursor → now' ≡ now
    → point standing' cursor'.rest now' ≡ point standing cursor.rest now
same_point standing standing' cursor cursor' now now' same_standing same_cursor same_now =
    ap (λ s. point s cursor'.rest now') same_standing
    ∙ ap (λ (k : Cursor). point standing k.rest now') same_cursor
    ∙ ap (λ h. point standing cursor.rest h) same_now

-- one more answer in one step
answers_more : (old mid new : CardState) (operations : List Operation) (replies : List Reply)
    (o : Operation) (r : Reply) → AnswersAll old operations replies mid
    → AnswersAll mid (o ∷ []) (r ∷ []) new
    → AnswersAll old (operations ++ o ∷ []) (replies ++ r ∷ []) new
answers_more old mid new [] [] o r same next =
    all_alike (o ∷ []) (r ∷ []) mid old new (sym same.0, sym same.1) next
answers_more old mid new [] (q ∷ replies) o r answers next = absurd answers
answers_more old mid new (p ∷ operations) [] o r answers next = absurd answers
answers_more old mid new (p ∷ operations) (q ∷ replies) o r (state, first, others) next =
    (state, first, answers_more state mid new operations replies o r others next)

module _ {State : Type 0} (Does : State → ℕ → Tpdu → State → Type 0) where
  -- ---- the commands of an operation

  -- The exchange of a command has ended, after those of the commands before it, each with the
  -- status 9000.
  pub record HaveBeen (from : Point State) (commands left : List Command) (ex : ExchangeOf)
      (status : StatusWord) (to : Point State) : Type 0 where
    pub before : List (List UnitOf)
    pub current : Command
    pub units : List UnitOf
    pub taken : AreTakenUpTo commands before (current ∷ left)
    pub over : IsOver current ex units status
    pub gone : HaveGone Does from (talk_dialogues (before ++ units ∷ [])) to

  pub first_has_been : (from to : Point State) (c : Command) (left : List Command) (ex : ExchangeOf)
      (units : List UnitOf) (status : StatusWord) → IsOver c ex units status
      → HaveGone Does from (flat_map dialogues_of units) to
      → HaveBeen from (c ∷ left) left ex status to
  first_has_been from to c left ex units status over gone = record {
    before = [];
    current = c;
    units = units;
    taken = refl;
    over = over;
    gone = rw (one_more_exchange [] units) gone;
  }

  pub next_has_been : (from mid to : Point State) (commands left : List Command) (c : Command)
      (ex after : ExchangeOf) (units : List UnitOf) (status next : StatusWord)
      → HaveBeen from commands (c ∷ left) ex status mid → status ≡ ok
      → IsOver c after units next → HaveGone Does mid (flat_map dialogues_of units) to
      → HaveBeen from commands left after next to
  next_has_been from mid to commands left c ex after units status next been is over gone =
      let before = been.before ++ been.units ∷ [] in
      record {
        before = before;
        current = c;
        units = units;
        taken = taken_more commands been.before been.current (c ∷ left) been.units ex.gather.bytes
            been.taken (rw is at been.over.gathers);
        over = over;
        gone = rw (one_more_exchange before units) (gone_both Does from mid to
            (talk_dialogues before) (flat_map dialogues_of units) been.gone gone);
      }

  -- no command follows: these are the exchanges of the commands, with this answer
  pub all_have_been : (from to : Point State) (commands left : List Command) (ex : ExchangeOf)
      (status : StatusWord) (answer : Reply) → HaveBeen from commands left ex status to
      → (left ≡ []) ⊎ (status ≢ ok)
      → answer ≡ record { status = status; content = ex.gather.bytes }
      → (exchanges : List (List UnitOf)) × AreExchangesOf commands exchanges answer
      × HaveGone Does from (talk_dialogues exchanges) to
  all_have_been from to commands left ex status answer been ends is =
      let whole : Reply = record { status = status; content = ex.gather.bytes } in
      let exchanges = been.before ++ been.units ∷ [] in (
        exchanges,
        rw is (taken_to_end commands been.before been.current left been.units whole been.taken
            been.over.gathers ends),
        been.gone,
      )

  pub gone_from : (from was to : Point State) (ds : List Dialogue) → from ≡ was
      → HaveGone Does from ds to → HaveGone Does was ds to
  gone_from from was to ds is gone = rw is at gone

  pub as_left : (from to : Point State) (commands left others : List Command) (ex : ExchangeOf)
      (status : StatusWord) → left ≡ others → HaveBeen from commands left ex status to
      → HaveBeen from commands others ex status to
  as_left from to commands left others ex status is been = rw is at been

  -- ---- the answer of an operation

  -- a list of commands with exchanges that have ended
  abbrev pub Answered : Point State → Point State → List Command → Reply → Type 0
  Answered from to commands answer =
      (exchanges : List (List UnitOf)) × AreExchangesOf commands exchanges answer
      × HaveGone Does from (talk_dialogues exchanges) to

  -- the exchange of one command
  abbrev pub Sent : Point State → Point State → Command → Reply → Type 0
  Sent from to c answer =
      (units : List UnitOf) × Gathers c units answer.content answer.status
      × HaveGone Does from (flat_map dialogues_of units) to

  pub sent_alone : (from to : Point State) (c : Command) (r : Reply) → Sent from to c r
      → Answered from to (c ∷ []) r
  sent_alone from to c r (units, gathers, gone) = (
    units ∷ [],
    (gathers, inl refl),
    rw (one_more_exchange [] units) gone,
  )

  -- or those of an operation
  abbrev pub Talked : Point State → Point State → Operation → Reply → Type 0
  Talked from to operation answer =
      (exchanges : List (List UnitOf)) × IsTalkOf operation exchanges answer
      × HaveGone Does from (talk_dialogues exchanges) to

  -- the exchanges of its commands are a talk of the operation
  pub talked : (from to : Point State) (commands : List Command) (operation : Operation) (r : Reply)
      → AreCommandsOf operation commands → Answered from to commands r
      → Talked from to operation r
  talked from to commands operation r are gone = (gone.0, (commands, are, gone.1), gone.2)

  pub talked_as : (from to : Point State) (a b : Operation) (r : Reply) → a ≡ b → Talked from to a r
      → Talked from to b r
  talked_as from to a b r is talk = rw is at talk

  -- ---- one operation

  unfoldable one_talk : (from to : Point State) (o : Operation) (r : Reply)
      (talked : Talked from to o r) → Talk Does from.standing from.plans (o ∷ []) (r ∷ [])
      to.standing to.plans (flat_map characters (talk_dialogues talked.0))
  one_talk from to o r (exchanges, talk, gone) = record {
    dialogues = talk_dialogues exchanges;
    talks = exchanges ∷ [];
    are_dialogues = gone.are_dialogues;
    line_is = refl;
    follow = gone.follow;
    runs = gone.runs;
    left_is = gone.used;
    dialogues_are = sym (append-nil (talk_dialogues exchanges));
    are_talks = (talk, tt);
  }

  -- the watch hears the talk of operations, from one point to another
  abbrev pub IsHeard : Point State → List Operation → List Reply → Point State → Type 0
  IsHeard from operations replies to = (line : List Character)
      × Talk Does from.standing from.plans operations replies to.standing to.plans line
      × Hears from.hearing line to.hearing

  pub is_heard : (from to : Point State) (o : Operation) (r : Reply) → Talked from to o r
      → IsHeard from (o ∷ []) (r ∷ []) to
  is_heard from to o r talked = (
    flat_map characters (talk_dialogues talked.0),
    one_talk from to o r talked,
    talked.2.hears,
  )

  -- ---- operations in turn

  -- The watch has heard the talk of operations, and the answers are those of the one-step card.
  abbrev pub HaveCome : Point State → CardState → Point State → CardState → List Operation
      → List Reply → Type 0
  HaveCome from old to new operations replies =
      IsHeard from operations replies to × AnswersAll old operations replies new

  -- The first operations were carried out, as many as there are new answers.
  abbrev pub HaveAnswers : {A : Type 0} → Point State → CardState → List (Op A) → List Reply → ℕ
      → List Reply → Point State → CardState → Type 0
  HaveAnswers from old ops before n given to new =
      HaveReplies (HaveCome from old to new) ops before n given

  pub none_answered : {A : Type 0} (at : Point State) (old : CardState) (ops : List (Op A))
      (before : List Reply) → HaveAnswers at old ops before 0 before at old
  none_answered at old ops before = no_replies (HaveCome at old at old) ops before (
    (
      [],
      record {
        dialogues = [];
        talks = [];
        are_dialogues = tt;
        line_is = refl;
        follow = tt;
        runs = refl;
        left_is = refl;
        dialogues_are = refl;
        are_talks = tt;
      },
      hears_nothing at.hearing,
    ),
    (refl, refl),
  )

  -- this holds if nothing has changed
  pub still_answered : {A : Type 0} (from : Point State) (old : CardState) (ops : List (Op A))
      (before : List Reply) (n : ℕ) (given given' : List Reply) (to to' : Point State)
      (new new' : CardState)
      → HaveAnswers from old ops before n given to new → given' ≡ given → to' ≡ to
      → new' ≡ new → HaveAnswers from old ops before n given' to' new'
  still_answered from old ops before n given given' to to' new new' have same_given same_point
      same = rw (same_given, same_point, same) have

  -- one more operation was carried out
  pub one_more_answered : {A : Type 0} (from mid to : Point State) (old now new : CardState)
      (ops : List (Op A)) (before : List Reply) (n : ℕ) (given given' : List Reply) (op : Op A)
      (r : Reply)
      → HaveAnswers from old ops before n given mid now → n < length ops
      → drop n ops ≡ op ∷ drop (n + 1) ops → given' ≡ given ++ r ∷ []
      → IsHeard mid (operation_of op ∷ []) (r ∷ []) to
      → AnswersAll now (operation_of op ∷ []) (r ∷ []) new
      → HaveAnswers from old ops before (n + 1) given' to new
  one_more_answered from mid to old now new ops before n given given' op r have lt next given_is
      heard answers =
      let o = operation_of op in
      one_more_reply (HaveCome from old mid now) (HaveCome from old to new) ops before n
      given given' op r have lt next given_is
      (λ done replies come. (
        (
          come.0.0 ++ heard.0,
          talk_more Does from.standing mid.standing to.standing from.plans mid.plans to.plans done
              replies come.0.0 heard.0 o r come.0.1 heard.1,
          hears_more from.hearing mid.hearing to.hearing come.0.0 heard.0 come.0.2 heard.2,
        ),
        answers_more old now new done replies o r come.1 answers,
      ))

  -- what holds for the operations, by the new answers
  pub have_come : {A : Type 0} (from : Point State) (old : CardState) (ops : List (Op A))
      (before : List Reply) (n : ℕ) (given : List Reply) (to : Point State) (new : CardState)
      → HaveAnswers from old ops before n given to new
      → HaveCome from old to new (carried_out ops (new_answers before given))
      (new_answers before given)
  have_come from old ops before n given to new have =
      replies_come (HaveCome from old to new) ops before n given have

-- ---- a card whose own states stand for those of a card of data objects

module _ {State : Type 0} (Own : State → ℕ → Tpdu → State → Type 0) (own_reset : State → State)
    (state_of : State → CardState) (stands : StandsFor Own own_reset state_of) where
  -- a card whose own states stand for these does the same, under plans with these cuts
  own_goes : (old new : State) (ds : List Dialogue) (plans : List Course)
      → Runs Own old ds plans new
      → HaveCuts (take (length ds) plans) → Goes (state_of old) ds (state_of new)
  own_goes old new ds plans runs cuts =
      goes_by_runs (state_of old) (state_of new) ds (take (length ds) plans) cuts
      (runs_stand Own own_reset state_of stands old new ds (take (length ds) plans)
      (runs_used Own old new ds plans runs))

  -- the data do not exceed the room
  never_overflows : (from to : Point State) (c : Command) → IsCardState (state_of from.standing)
      → HasOverflown Own from c to → ⊥
  never_overflows from to c sound over =
      let way = over.terminal in
      let ds = so_far over.units over.tried in
      let goes = own_goes from.standing to.standing ds from.plans over.gone.runs over.gone.cuts in
      let before = so_far_brings c over.units way.opening way.left over.tried
      (state_of from.standing) (state_of to.standing) sound way.followed
      (repeats_first way.opening way.left over.tried over.ex.host way.opened_as) goes in
      let here = brought_few over.ex.host over.before
      (asks_with_a_byte way.opening way.left over.tried over.ex.host way.opened_as) way.stands
      way.is_front in
      let one = brings_one over.before over.front (Card, over.goes.0) over.goes.1 in
      absurd (omega (
        arith,
        over.too_many,
        before,
        here,
        one,
        length-append (flat_map received ds) (brought over.front),
      ))

  -- a card of data objects causes no line fault
  pub never_caused : (from to : Point State) (c : Command) (fault : LineFault)
      → IsCardState (state_of from.standing) → IsCaused Own from c to fault → ⊥
  never_caused from to c fault sound (inl (is, stalled)) =
      let ds = flat_map dialogues_of stalled.units in
      never_stalls c stalled.units (state_of from.standing) (state_of to.standing) stalled.stall
      (own_goes from.standing to.standing ds from.plans stalled.gone.runs stalled.gone.cuts)
  never_caused from to c fault sound (inr (is, over)) = never_overflows from to c sound over

  -- the card stays sound
  pub stays_sound : (from to : Point State) (ds : List Dialogue)
      → IsCardState (state_of from.standing) → HaveGone Own from ds to
      → IsCardState (state_of to.standing)
  stays_sound from to ds sound gone =
      goes_sound (state_of from.standing) (state_of to.standing) ds sound
      (own_goes from.standing to.standing ds from.plans gone.runs gone.cuts)

  -- the answer is that of the one-step card
  pub in_one_step : (from to : Point State) (old new : CardState) → state_of from.standing ≡ old
      → state_of to.standing ≡ new → (o : Operation) (r : Reply)
      → IsCardState old → is_idle old.pending ≡ true → Talked Own from to o r
      → AnswersAll old (o ∷ []) (r ∷ []) new × (is_idle new.pending ≡ true)
  unfolding one_talk
  in_one_step from to old new was is o r sound idle talked =
      let ds = talk_dialogues talked.0 in
      let line = flat_map characters ds in
      let all = own_talk_answers Own own_reset state_of stands from.standing to.standing old new was
      is (take (length ds) from.plans) [] (o ∷ []) (r ∷ []) line sound idle talked.2.cuts
      (talk_used Own from.standing to.standing from.plans to.plans (o ∷ []) (r ∷ []) line
      (one_talk Own from to o r talked)) in (all.0, all.1)
