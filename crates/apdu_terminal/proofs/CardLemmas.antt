-- A whole command at a card's end: its bytes as a TPDU, one more TPDU, and the whole command.
use Rattle.std.proofs.Common.{◌≡◌, ℕ, ◌+◌, ◌*◌, ◌%◌, ◌<◌, ◌≤◌, List, [], ◌∷◌, ◌++◌, length, take, refl, sym, subst, ◌∙◌, ap, arith, inl, inr, ◌⊎◌, true, false, Bool, Option, Some, None, Ok, Err, Result, append-nil, if◌then◌else◌}
use Rattle.std.specs.Prelude.{unwrap_or, MatchResult, IfErr, nat_lt, nat_le}
use Rattle.std.proofs.Math.Seq.{take-append_seam}
use Rattle.std.proofs.lemmas.Bool.{eq-eqb, true≢false, le-ltb, le-leb}
use Rattle.apdu_core.specs.declared.header.Header.{Header}
use Rattle.apdu_core.specs.HeaderBytes.{header_bytes}
use Rattle.apdu_core.specs.StatusWord.{StatusWord, count}
use Rattle.apdu_core.specs.CommandBytes.{Command, HasSizes, command_bytes, lc_field, le_field}
use Rattle.apdu_core.specs.CommandLaws.{has_no_form}
use Rattle.t0_core.specs.declared.tpdu_card.TpduCard.{Ghosts}
use Rattle.t0_core.specs.declared.tpdu_fault.TpduFault.{TpduFault}
use Rattle.t0_core.specs.declared.tpdu_fault.TpduFault.TheVariants as tpdu
use Rattle.t0_core.specs.declared.answer_fault.AnswerFault.{AnswerFault}
use Rattle.t0_core.specs.declared.answer_fault.AnswerFault.TheVariants.{Stalled, TooLong}
use Rattle.t0_core.specs.declared.direction.Direction.TheVariants.{ToCard, FromCard}
use Rattle.t0_core.specs.HostAnswer.{fails_with}
use Rattle.t0_core.specs.Dialogue.{Body, foreseen, to_move}
use Rattle.t0_core.specs.Front.{from_card}
use Rattle.t0_core.specs.FrontLaws.{all_moves-within}
use Rattle.t0_core.specs.Meaning.{Tpdu, tpdu_of, received}
use Rattle.t0_core.specs.Plan.{Course, Cursor, advanced, plan_kept}
use Rattle.t0_core.specs.Room.{Room}
use Rattle.t0_core.specs.CardSide.{EndOf, PermitsData}
use Rattle.t0_core.specs.TpduBytes.{Asked, asked_for, asked_with, asked_in}
use Rattle.t0_core.specs.CardTpdu.{rests, CarriesOut, HasGone, Answers, Fails, IsStuck, IsCause}
use Rattle.object_card.specs.Agreed.{IsAgreed}
use Rattle.exchange_core.specs.declared.wanted.Wanted.{Wanted}
use Rattle.exchange_core.specs.declared.wanted.Wanted.TheVariants.{Bytes}
use Rattle.object_card.specs.State.{CardState}
use Rattle.object_card.specs.DataCard.{StandsFor}
use Rattle.exchange_core.specs.declared.attempt.Attempt.{Attempt}
use Rattle.exchange_core.specs.declared.attempt.Next.TheVariants as next
use Rattle.exchange_core.specs.Attempts.{following, most_begun, one_more}
use Rattle.apdu_terminal.specs.declared.stage.Stage.TheVariants.{Going, Done, Failed}
use Rattle.apdu_terminal.specs.declared.apdu_fault.CarryFault.{CarryFault}
use Rattle.apdu_terminal.specs.declared.apdu_fault.CarryFault.TheVariants as why
use Rattle.apdu_terminal.specs.Apdus.{Pair, first_place, may_bring, GoesThrough, all_content, StallsAt}
use Rattle.apdu_terminal.specs.ApduSide.{ApduExchangeOf, IsSound, ComesTo, place_of, command_of, excess, due_of, is_going, to_go, response_fault, answered_by}
use Rattle.apdu_terminal.specs.CardApdu.{p3_of, tpdu_command, le_of, IsTpduOf, GoesAs, HasCome, HasFailed, HasResponse, Responds, HasHad, StopsBy}
use Rattle.apdu_terminal.proofs.LedLemmas.{IsTaken, is_taken, is_going_true, at_stage, asked_number, asks_with, more_room}
use Rattle.apdu_terminal.proofs.PlaceLemmas.{through, Fits, fits_first, fits_on, never_too_long, GoesAlone, alone_first, alone_on, Agrees, agrees_on, agrees_as_tpdu, total_within}
use Rattle.apdu_terminal.proofs.StallLemmas.{card_never_stalls}
use Rattle.apdu_terminal.proofs.TalkLemmas.{own_goes, turns_both}
use Rattle.apdu_terminal.proofs.RestLemmas.{count_told}

-- ---- the number that falls

most : (fetches repeats : Bool) (before gathered number : ℕ) → before ≤ gathered
    → number ≤ most_begun fetches before + one_more repeats → number ≤ 2 * (gathered + 2)
most false false before gathered number le few = omega (arith, le, few)
most false true before gathered number le few = omega (arith, le, few)
most true false before gathered number le few = omega (arith, le, few)
most true true before gathered number le few = omega (arith, le, few)

pub seen_falls : (inside seen : ApduExchangeOf) (content : List ℕ) (status : StatusWord)
    (gather : Room) (gathered : ℕ) (left : Wanted) (a : Attempt) (n : ℕ) → inside ≡ seen
    → IsSound inside → response_fault seen (length content) ≡ None
    → gather ≡ more_room inside.gather content
    → next.Asks a n ≡ following inside.attempt gathered left status
    → to_go (asks_with inside gather a n) < to_go seen
seen_falls inside seen content status gather gathered left a n same sound none room asks =
    subst (λ x. to_go (asks_with inside gather a n) < to_go x) same (rw taken.going (omega (
      arith,
      ap (λ (r : Room). r.limit) room,
      asked_number inside.attempt gathered _ _ a n (sym asks),
      most inside.attempt.fetches inside.attempt.repeats inside.attempt.before
          (length inside.gather.bytes) inside.attempt.number sound.counted.begun
          sound.counted.number,
      sound.fits,
    )))
  where
    taken : IsTaken inside (length content)
    taken =
        is_taken inside (length content) (ap (λ x. response_fault x (length content)) same ∙ none)

-- ---- a command as a TPDU

pub command_is_short : (c : Command) → HasSizes c.content c.le → length (command_bytes c) ≤ 261
command_is_short c sizes = omega (arith, has_no_form c (command_bytes c) sizes refl)

so_many : (header : Header) (b : ℕ) (bs : List ℕ)
    → asked_with header (length (b ∷ bs) ∷ b ∷ bs)
    ≡ Some (asked_for header (length (b ∷ bs)) (b ∷ bs) 0)
so_many header b bs = rw (eq-eqb (length (b ∷ bs)) (length (b ∷ bs)) refl) refl

asked_at : (h : Header) (content : List ℕ) (le : Option ℕ) → HasSizes content le
    → (content ≡ []) ⊎ (le ≡ None)
    → asked_in (header_bytes h ++ lc_field content ++ le_field le)
    ≡ Some (asked_for h (p3_of content le) content (may_bring le))
asked_at h [] None sizes which = refl
asked_at h [] (Some n) sizes which =
    ap (λ k. Some (asked_for h (n % 256) [] k))
    (count_told n sizes.le_in_range.0 sizes.le_in_range.1)
asked_at h (b ∷ bs) None sizes which =
    ap (λ bytes. asked_in (header_bytes h ++ bytes)) (append-nil (lc_field (b ∷ bs)))
    ∙ so_many h b bs
asked_at h (b ∷ bs) (Some n) sizes (inl none) = absurd (cc)
asked_at h (b ∷ bs) (Some n) sizes (inr none) = absurd (cc)

-- the card's end carries a command out as a TPDU if no TPDU is in progress
gone_as : {C : Type 0} (card : Ghosts C) (c : Command) (bytes : List ℕ) (old new : EndOf C)
    (before plans : Cursor) (room room' : Room) (result : Result StatusWord TpduFault)
    → HasSizes c.content c.le → (c.content ≡ []) ⊎ (c.le ≡ None) → bytes ≡ command_bytes c
    → before ≡ record { rest = []; kept = None } → rests old.stage ≡ true
    → CarriesOut card bytes old before room result new plans room'
    → HasGone card (asked_for c.header (p3_of c.content c.le) c.content (may_bring c.le)) old
    (record { rest = []; kept = None }) room result new plans room'
gone_as card c bytes old new before plans room room' result sizes which are none at_rest
    (inl (going, refused, e, p, r)) = absurd (true≢false (sym at_rest ∙ going))
gone_as card c bytes old new before plans room room' result sizes which are none at_rest
    (inr (inl (resting, unasked, refused, e, p, r))) =
    let asked : None ≡ Some (asked_for c.header (p3_of c.content c.le) c.content (may_bring c.le)) =
    sym unasked ∙ ap asked_in are ∙ asked_at c.header c.content c.le sizes which in
    absurd (cc)
gone_as card c bytes old new before plans room room' result sizes which are none at_rest
    (inr (inr (resting, asked, asks, gone))) =
    let here = asked_for c.header (p3_of c.content c.le) c.content (may_bring c.le) in
    let both : Some asked ≡ Some here =
    sym asks ∙ ap asked_in are ∙ asked_at c.header c.content c.le sizes which in
    let same : asked ≡ here = cc in
    subst (λ k. HasGone card here old k room result new plans room') none (rw same at gone)

-- the card does what it means, or stops and is reset
abbrev pub TpduGoes : {C : Type 0} (card : Ghosts C) → Command → EndOf C
    → Result StatusWord TpduFault → EndOf C → List ℕ → Type 0
TpduGoes card c old result new content = MatchResult result
    (λ status. ((t : Tpdu)
    × IsTpduOf (record { command = c; content = content; status = status }) t
    × card.Does (card.standing old.card) 256 t (card.standing new.card))
    × (length content ≤ may_bring c.le))
    (λ fault. (card.standing new.card ≡ card.after_reset (card.standing old.card))
    × StopsBy card.MayReceive card.MaySend c fault)

pub may_be_few : (content : List ℕ) (le : Option ℕ) → HasSizes content le → may_bring le ≤ 256
may_be_few content None sizes = omega arith
may_be_few content (Some n) sizes = sizes.le_in_range.1

-- the card takes data in case 2 alone
wants : (R S : Header → Type 0) (c : Command) (b : Body) → b.p3 ≡ p3_of c.content c.le
    → b.direction ≡ ToCard → PermitsData R S c.header b.direction
    → length b.moved < to_move b → length c.content ≤ length b.moved
    → StopsBy R S c tpdu.WantsData
wants R S c b p3 to may due past = by c.content c.le p3 past
    (subst (λ d. to_move b ≤ foreseen d b.p3) to
    (all_moves-within b.segments (foreseen b.direction b.p3)))
  where
    by : (content : List ℕ) (le : Option ℕ) → b.p3 ≡ p3_of content le
        → length content ≤ length b.moved → to_move b ≤ b.p3
        → R c.header × (content ≡ []) × ((n : ℕ) × (le ≡ Some n))
    by [] None p3 past most = absurd (omega (arith, due, most, p3))
    by [] (Some n) p3 past most = (rw to at may, refl, (n, refl))
    by (x ∷ xs) le p3 past most = absurd (omega (arith, due, most, p3, past))

-- there is room for all data that an Le asks for
sends : (R S : Header → Type 0) (c : Command) (b : Body) → HasSizes c.content c.le
    → (c.content ≡ []) ⊎ (c.le ≡ None) → b.p3 ≡ p3_of c.content c.le → b.direction ≡ FromCard
    → PermitsData R S c.header b.direction → length b.moved < to_move b
    → may_bring c.le ≤ length b.moved → StopsBy R S c tpdu.SendsData
sends R S c b sizes which p3 from may due past = (
  rw from at may,
  by c.content c.le sizes which p3 past (subst (λ d. to_move b ≤ foreseen d b.p3) from
      (all_moves-within b.segments (foreseen b.direction b.p3))),
)
  where
    by : (content : List ℕ) (le : Option ℕ) → HasSizes content le
        → (content ≡ []) ⊎ (le ≡ None) → b.p3 ≡ p3_of content le
        → may_bring le ≤ length b.moved → to_move b ≤ count b.p3 → le ≡ None
    by content None sizes which p3 past most = refl
    by [] (Some n) sizes which p3 past most =
        absurd (omega (
          arith,
          due,
          most,
          ap count p3,
          count_told n sizes.le_in_range.0 sizes.le_in_range.1,
          past,
        ))
    by (x ∷ xs) (Some n) sizes (inl none) p3 past most = absurd (cc)
    by (x ∷ xs) (Some n) sizes (inr none) p3 past most = absurd (cc)

-- why the card stops in a command
stops_by : {C : Type 0} (card : Ghosts C) (first : card.State) (plan : Course) (c : Command)
    (room : Room) (b : Body) (e : EndOf C) (fault : TpduFault) → HasSizes c.content c.le
    → (c.content ≡ []) ⊎ (c.le ≡ None) → 256 ≤ room.limit
    → IsStuck card first plan
    (asked_for c.header (p3_of c.content c.le) c.content (may_bring c.le)) [] room b e
    → IsCause (asked_for c.header (p3_of c.content c.le) c.content (may_bring c.le)) room b fault
    → StopsBy card.MayReceive card.MaySend c fault
stops_by card first plan c room b e tpdu.UnderWay sizes which large stuck cause = cause
stops_by card first plan c room b e tpdu.NoTpdu sizes which large stuck cause = cause
stops_by card first plan c room b e tpdu.WantsData sizes which large stuck cause =
    wants card.MayReceive card.MaySend c b stuck.is_of.1 cause.0 stuck.permitted stuck.due cause.1
stops_by card first plan c room b e tpdu.SendsData sizes which large stuck cause =
    sends card.MayReceive card.MaySend c b sizes which stuck.is_of.1 cause.0 stuck.permitted
    stuck.due cause.1
stops_by card first plan c room b e tpdu.TooLong sizes which large stuck cause =
    let came : length room.bytes ≡ length b.moved =
    ap length stuck.gathers ∙ ap (λ d. length (from_card d b.moved)) cause.0 in
    absurd (omega (arith, came, cause.1, cause.2, large, may_be_few c.content c.le sizes))

-- the command is not agreed then
unagreed : (R S : Header → Type 0) (c : Command) (fault : TpduFault) → StopsBy R S c fault
    → IsAgreed R S c → ⊥
unagreed R S c tpdu.UnderWay stops agreed = stops
unagreed R S c tpdu.NoTpdu stops agreed = stops
unagreed R S c tpdu.TooLong stops agreed = stops
unagreed R S c tpdu.WantsData (may, none, (n, is)) agreed = by c.content c.le none is agreed
  where
    by : (content : List ℕ) (le : Option ℕ) → content ≡ [] → le ≡ Some n
        → IsAgreed R S (record { header = c.header; content = content; le = le }) → ⊥
    by [] (Some k) none is agreed = agreed.0 may
    by [] None none is agreed = absurd (cc)
    by (x ∷ xs) le none is agreed = absurd (cc)
unagreed R S c tpdu.SendsData (may, is) agreed = by c.content c.le is agreed
  where
    by : (content : List ℕ) (le : Option ℕ) → le ≡ None
        → IsAgreed R S (record { header = c.header; content = content; le = le }) → ⊥
    by [] None is agreed = agreed may
    by (x ∷ xs) None is agreed = agreed may
    by content (Some k) is agreed = absurd (cc)

pub tpdu_goes : {C : Type 0} (card : Ghosts C) (c : Command) (bytes : List ℕ) (old new : EndOf C)
    (before plans : Cursor) (room room' : Room) (result : Result StatusWord TpduFault)
    → HasSizes c.content c.le → (c.content ≡ []) ⊎ (c.le ≡ None) → bytes ≡ command_bytes c
    → before ≡ record { rest = []; kept = None } → rests old.stage ≡ true → room.bytes ≡ []
    → 256 ≤ room.limit → CarriesOut card bytes old before room result new plans room'
    → (rests new.stage ≡ true) × (room'.limit ≡ room.limit)
    × TpduGoes card c old result new room'.bytes
tpdu_goes {C} card c bytes old new before plans room room' result sizes which are none at_rest empty
    large out =
    let (advances, limit, stage, over) = gone_as card c bytes old new before plans room room' result
    sizes which are none at_rest out in
    (ap rests stage, limit, by advances limit result over)
  where
    here : Asked
    here = asked_for c.header (p3_of c.content c.le) c.content (may_bring c.le)

    by : plans ≡ advanced (record { rest = []; kept = None }) → room'.limit ≡ room.limit
        → (r : Result StatusWord TpduFault) → MatchResult r
        (λ status. Answers card here (plan_kept plans) old room status new room')
        (λ fault. Fails card here (plan_kept plans) old room fault new room')
        → TpduGoes card c old r new room'.bytes
    by advances limit (Ok status) (d, is, leads) =
        let cut : (plan_kept plans).cut ≡ 256 = ap (λ x. (plan_kept x).cut) advances in
        let gathers : room'.bytes ≡ received d = is.gathers ∙ ap (λ bs. bs ++ received d) empty in (
          (
            tpdu_of d,
            record {
              header_is = is.is_of.0;
              p3_is = is.is_of.1;
              all_or_none = is.all_or_none;
              received_is = sym gathers;
              status_is = is.status_is;
            },
            rw cut at is.does,
          ),
          omega (arith, ap length gathers, is.fits),
        )
    by advances limit (Err fault) (b, stuck, is, cause, reset, leads) = (
      reset,
      stops_by card (card.standing old.card) (plan_kept plans) c room' b stuck fault sizes which
          (omega (arith, large, limit))
          (rw empty at is) cause,
    )

pub taken_of : (n : ℕ) (bytes rest : List ℕ) → n ≡ length bytes → take n (bytes ++ rest) ≡ bytes
taken_of n bytes rest is = ap (λ k. take k (bytes ++ rest)) is ∙ take-append_seam bytes rest

-- ---- one more TPDU

pub due_when : (v : Bool) (c due : Command) → (if v then Some c else None) ≡ Some due
    → (v ≡ true) × (c ≡ due)
due_when true c due e = (refl, cc)
due_when false c due e = absurd (cc)

pub is_due : (ex : ApduExchangeOf) (due : Command) → due_of ex ≡ Some due → command_of ex ≡ due
is_due ex due e = (due_when (is_going ex.stage) (command_of ex) due e).1

-- if there is a next command, the pairs have led to its place
pub at_place : (c : Command) (wanted : Wanted) (pairs : List Pair) (ex : ApduExchangeOf)
    (due : Command) → due_of ex ≡ Some due → ComesTo c wanted pairs ex
    → GoesThrough (first_place c wanted) pairs (place_of ex)
    × (ex.gather.bytes ≡ all_content pairs) × (command_of ex ≡ due)
at_place c wanted pairs ex due is led =
    let (going, same) = due_when (is_going ex.stage) (command_of ex) due is in
    let at = at_stage c wanted pairs ex Going (is_going_true ex.stage going) led in
    (at.through, at.gathered, same)

-- it can be sent as a TPDU
pub goes_alone : {State : Type 0} (Does : State → ℕ → Tpdu → State → Type 0) (c : Command)
    (first now : State) (ex : ApduExchangeOf) (due : Command) → due_of ex ≡ Some due
    → HasCome Does c first now ex → (due.content ≡ []) ⊎ (due.le ≡ None)
goes_alone Does c first now ex due is (pairs, comes, goes) =
    let (way, bytes, same) = at_place (tpdu_command c) (le_of c) pairs ex due is comes in
    subst (λ (x : Command). (x.content ≡ []) ⊎ (x.le ≡ None)) same
    (through GoesAlone alone_on (first_place (tpdu_command c) (le_of c)) (place_of ex) 0 pairs
    (alone_first c) way)

-- the pair of the next command
pub pair_is : {State : Type 0} (One : State → Pair → State → Type 0) (mid last : State)
    (old : ApduExchangeOf) (content came : List ℕ) (status : StatusWord) (due : Command)
    → due_of old ≡ Some due → content ≡ came
    → One mid (record { command = due; content = came; status = status }) last
    → One mid (answered_by old content status) last
pair_is One mid last old content came status due is same one =
    rw (is_due old due is, same) one

-- the card has carried out one more pair
pub one_had : {State : Type 0} (One : State → Pair → State → Type 0) (c : Command)
    (wanted : Wanted) (first mid last : State) (old new : ApduExchangeOf) (p : Pair)
    → One mid p last
    → ((pairs : List Pair) → ComesTo c wanted pairs old → ComesTo c wanted (pairs ++ p ∷ []) new)
    → HasHad One c wanted first mid old → HasHad One c wanted first last new
one_had One c wanted first mid last old new p is led (pairs, comes, goes) = (
  pairs ++ p ∷ [],
  led pairs comes,
  turns_both One first mid last pairs (p ∷ []) goes (last, is, refl),
)

-- or it is reset
pub one_failed : {C : Type 0} (card : Ghosts C) (c : Command) (first mid last : card.State)
    (ex : ApduExchangeOf) (fault : TpduFault) (due : Command) → due_of ex ≡ Some due
    → last ≡ card.after_reset mid → StopsBy card.MayReceive card.MaySend due fault
    → HasCome card.Does c first mid ex → HasFailed card c first (why.Tpdu fault) last
one_failed card c first mid last ex fault due is reset stops (pairs, comes, goes) =
    let (way, bytes, same) = at_place (tpdu_command c) (le_of c) pairs ex due is comes in (
      (λ agreed.
          let a = through (Agrees card.MayReceive card.MaySend)
          (agrees_on card.MayReceive card.MaySend) (first_place (tpdu_command c) (le_of c))
          (place_of ex) 0 pairs (agrees_as_tpdu card.MayReceive card.MaySend c agreed) way in
          unagreed card.MayReceive card.MaySend due fault stops
          (subst (λ x. IsAgreed card.MayReceive card.MaySend x) same a.agreed)),
      (
        pairs,
        place_of ex,
        mid,
        way,
        goes,
        subst (λ x. StopsBy card.MayReceive card.MaySend x fault) (sym same) stops,
        reset,
      ),
    )

-- a response no longer than asked for fits, and is no fault
pub fits_room : {State : Type 0} (Does : State → ℕ → Tpdu → State → Type 0) (c : Command)
    (first now : State) (ex : ApduExchangeOf) (came : ℕ) (due : Command)
    → due_of ex ≡ Some due → came ≤ may_bring due.le → may_bring c.le ≤ ex.gather.limit
    → HasCome Does c first now ex → response_fault ex came ≡ None
fits_room Does c first now ex came due is few room (pairs, comes, goes) =
    let (way, bytes, same) = at_place (tpdu_command c) (le_of c) pairs ex due is comes in
    let f = through (Fits (may_bring c.le)) (fits_on (may_bring c.le))
    (first_place (tpdu_command c) (le_of c)) (place_of ex) 0 pairs (fits_first c) way in
    let le : may_bring ex.le ≡ may_bring due.le = ap (λ (x : Command). may_bring x.le) same in
    let fits : length ex.gather.bytes + came ≤ ex.gather.limit =
    omega (arith, ap length bytes, f.within, f.asks, few, le, room) in
    rw (
      (due_when (is_going ex.stage) (command_of ex) due is).0,
      le-ltb (may_bring ex.le) came (omega (arith, le, few)),
      le-leb (length ex.gather.bytes + came) ex.gather.limit fits,
    ) refl

stalled_so : (c : Command) (pairs : List Pair) (ex : ApduExchangeOf)
    → may_bring c.le ≤ ex.gather.limit → ex.stage ≡ Failed
    → ComesTo (tpdu_command c) (le_of c) pairs ex → StallsAt (tpdu_command c) (le_of c) pairs
stalled_so c pairs ex room failed led =
    elim (at_stage (tpdu_command c) (le_of c) pairs ex Failed failed led) [
      | inl stalls ↦ stalls
      | inr long ↦ absurd (never_too_long c pairs ex.gather.limit room long)
    ]

-- or the exchange has stalled
pub one_stalled : {C : Type 0} (card : Ghosts C) (c : Command) (first mid last : card.State)
    (old new : ApduExchangeOf) (content came : List ℕ) (status : StatusWord) (due : Command)
    (f : AnswerFault) → due_of old ≡ Some due → content ≡ came
    → GoesAs card.Does mid (answered_by old content status) last → length came ≤ may_bring due.le
    → may_bring c.le ≤ old.gather.limit → new.gather.limit ≡ old.gather.limit
    → (response_fault old (length content) ≡ Some f)
    ⊎ ((f ≡ Stalled) × (response_fault old (length content) ≡ None))
    → (fails_with f ≡ true → new.stage ≡ Failed)
    → ((pairs : List Pair) → ComesTo (tpdu_command c) (le_of c) pairs old → fails_with f ≡ true
    → ComesTo (tpdu_command c) (le_of c) (pairs ++ answered_by old content status ∷ []) new)
    → HasCome card.Does c first mid old → HasFailed card c first (why.Response f) last
one_stalled card c first mid last old new content came status due f is same tpdu few room limit
    (inl fault) failed led has =
    let none = fits_room card.Does c first mid old (length content) due is
    (omega (arith, few, ap length same)) room has in
    let no : None ≡ Some f = sym none ∙ fault in absurd (cc)
one_stalled card c first mid last old new content came status due f is same tpdu few room limit
    (inr (stalled, none)) failed led has =
    let fails : fails_with f ≡ true = ap fails_with stalled in
    let (pairs, comes, goes) = one_had (GoesAs card.Does) (tpdu_command c) (le_of c) first mid last
    old new (answered_by old content status) tpdu (λ pairs comes. led pairs comes fails) has in (
      stalled,
      (
        pairs,
        stalled_so c pairs new (omega (arith, room, limit)) (failed fails) comes,
        goes,
      ),
    )

-- ---- the whole command

pub finished : {State : Type 0} (Does : State → ℕ → Tpdu → State → Type 0) (c : Command)
    (old new : State) (ex : ApduExchangeOf) → HasCome Does c old new ex
    → (status : StatusWord) × (ex.stage ≡ Done status)
    → HasResponse Does old c new ex
finished Does c old new ex (pairs, comes, goes) (status, done) = (
  status,
  done,
  (pairs, at_stage (tpdu_command c) (le_of c) pairs ex (Done status) done comes, goes),
)

unwrapped : (le : Option ℕ) → unwrap_or le 0 ≡ may_bring le
unwrapped None = refl
unwrapped (Some n) = refl

pub begins_so : {State : Type 0} (Does : State → ℕ → Tpdu → State → Type 0) (at : State)
    (c first : Command) (wanted : Wanted) (le : Option ℕ) (most : ℕ) (ex : ApduExchangeOf)
    → first ≡ tpdu_command c → le ≡ c.le → most ≡ unwrap_or le 0 → wanted ≡ Bytes most
    → ComesTo first wanted [] ex → HasCome Does c at at ex
begins_so Does at c first wanted le most ex is le_is most_is wanted_is led =
    let w : wanted ≡ le_of c =
    wanted_is ∙ ap Bytes (most_is ∙ ap (λ x. unwrap_or x 0) le_is ∙ unwrapped c.le) in (
      [],
      rw w at (rw is at led),
      refl,
    )

-- the card's response is that of the next command
pub response_is : {State : Type 0} (Own : State → ℕ → Tpdu → State → Type 0) (mid last : State)
    (old done : ApduExchangeOf) (content : List ℕ) (told : StatusWord) (due : Command)
    → due_of old ≡ Some due → HasResponse Own mid due last done
    → done.stage ≡ Done told → content ≡ done.gather.bytes
    → Responds Own mid (answered_by old content told) last
response_is Own mid last old done content told due is (status, over, responds) ended bytes_are =
    let both : Done told ≡ Done status = sym ended ∙ over in
    let one : told ≡ status = cc in
    pair_is (Responds Own) mid last old content done.gather.bytes told due is bytes_are
    (rw one responds)

-- ---- an exchange with a card of data objects

-- the card carries out each command that is agreed with it
pub never_left : {C A : Type 0} (card : Ghosts C) (state_of : card.State → CardState) (c : Command)
    (old new : card.State) (r : Result A CarryFault)
    → StandsFor card.Does card.after_reset state_of → IsAgreed card.MayReceive card.MaySend c
    → IfErr r (λ f. HasFailed card c old f new) → ((x : A) → r ≡ Ok x → ⊥) → ⊥
never_left card state_of c old new (Ok x) means agreed failed never = never x refl
never_left card state_of c old new (Err why.UnderWay) means agreed failed never = failed
never_left card state_of c old new (Err why.OutOfMemory) means agreed failed never = failed
never_left card state_of c old new (Err (why.Tpdu fault)) means agreed failed never =
    failed.0 agreed
never_left card state_of c old new (Err (why.Response fault)) means agreed failed never =
    let (stalled, (pairs, stalls, goes)) = failed in
    card_never_stalls (tpdu_command c) (le_of c) pairs (state_of old) (state_of new) stalls
    (own_goes card.Does card.after_reset state_of old new pairs means goes)

-- the card responds with no more than Le asks for
pub responds_within : {State : Type 0} (Own : State → ℕ → Tpdu → State → Type 0) (old new : State)
    (p : Pair) → Responds Own old p new → length p.content ≤ may_bring p.command.le
responds_within Own old new p (pairs, b, goes) =
    omega (
      arith,
      ap length b.gathered_is,
      ap (λ ps. length (all_content ps)) b.pairs_are,
      total_within p.command b.before b.last b.at b.through b.suits,
    )

pub fault_fails : (ex : ApduExchangeOf) (came : ℕ) (f : AnswerFault) → is_going ex.stage ≡ true
    → came ≤ may_bring ex.le → response_fault ex came ≡ Some f → fails_with f ≡ true
fault_fails ex came f going few fault =
    by (nat_le (length ex.gather.bytes + came) ex.gather.limit)
    (rw going at fault) (le-ltb (may_bring ex.le) came few)
  where
    by : (v : Bool) → (if nat_lt (may_bring ex.le) came then Some (excess ex.le)
        else (if v then None else Some TooLong)) ≡ Some f
        → nat_lt (may_bring ex.le) came ≡ false → fails_with f ≡ true
    by true e few =
        let no : None ≡ Some f =
        rw few at e in absurd (cc)
    by false e few =
        let long : Some TooLong ≡ Some f =
        rw few at e in
        let same : TooLong ≡ f = cc in
        ap fails_with (sym same)
