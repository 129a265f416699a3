-- The answer to a whole TPDU has the effect of a dialogue that gives it.
use Rattle.std.proofs.Common.{◌≡◌, ℕ, ◌+◌, ◌-◌, ◌<◌, List, [], ◌∷◌, ◌++◌, length, length-append, refl, sym, ◌∙◌, ap, arith, inl, inr, ◌⊎◌, true, false, Bool, Option, Some, None, is_some, append-nil, append_assoc, if◌then◌else◌, ◌==◌, eq-eqb}
use Rattle.std.specs.Prelude.{IsSome, ◌↔◌}
use Rattle.std.specs.Option.{option_map}
use Rattle.std.specs.List.{flat_map}
use Rattle.std.proofs.lemmas.Bool.{leb-false}
use Rattle.apdu_core.specs.StatusWord.{StatusWord}
use Rattle.apdu_core.specs.CommandBytes.{Command}
use Rattle.t0_core.specs.declared.end.End.TheVariants.{Card}
use Rattle.t0_core.specs.declared.direction.Direction.{Direction}
use Rattle.t0_core.specs.declared.direction.Direction.TheVariants.{ToCard, FromCard}
use Rattle.t0_core.specs.declared.host_end.HostTurn.TheVariants.{Sends, Failed}
use Rattle.t0_core.specs.declared.answer_fault.AnswerFault.{AnswerFault}
use Rattle.t0_core.specs.declared.answer_fault.AnswerFault.TheVariants.{NotDue, TooLong as AnswerTooLong}
use Rattle.t0_core.specs.declared.line_fault.LineFault.TheVariants.{TooLong}
use Rattle.t0_core.specs.declared.data_sent.DataSent.TheVariants.{NotKnown}
use Rattle.t0_core.specs.DataSent.{both}
use Rattle.t0_core.specs.Character.{Character}
use Rattle.t0_core.specs.Dialogue.{Dialogue, IsDialogue, characters}
use Rattle.t0_core.specs.Meaning.{received}
use Rattle.t0_core.specs.Front.{Front, In_body, After_first, IsFront, Ends, brought, front_characters, from_card, fresh}
use Rattle.t0_core.specs.DialogueLaws.{ends_with}
use Rattle.t0_core.specs.Room.{Room}
use Rattle.t0_core.specs.HostSide.{Hosting, HostStandsAt, IsOpenedBy, IsRequest, at_stage, gathered, fault_of, data_fault, turn_of, data_sent}
use Rattle.t0_core.specs.HostAnswer.{is_due, excess, answer_fault, after_answer_fault, before_sw2, moving_in, Gives}
use Rattle.t0_core.specs.declared.whole_tpdu.WholeTpdu.{WholeTpdu}
use Rattle.t0_core.specs.TpduBytes.{Asked, asked_of, asked_by, due_by}
use Rattle.t0_core.specs.WholeLaws.{whole_front}
use Rattle.t0_core.specs.AnswerLaws.{due_is_fresh, fresh_is_due, due_sends, dialogue_overflows}
use Rattle.exchange_core.specs.Gathered.{UnitOf}
use Rattle.exchange_core.specs.ExchangeSide.{ExchangeOf, UnderWay, IsKept, so_far, exchange_turn, exchange_sent}
use Rattle.exchange_core.specs.ExchangeHistory.{ComesTo, ComesTooFar, to_front, to_end, to_stall, to_fault, characters_to}
use Rattle.exchange_core.proofs.ComesToLemmas.{done_sends_nothing, failed_sends_nothing, failed_turn}
use Rattle.exchange_core.proofs.ExchangeLemmas.{IsSameRequest, opened_too, place_too, sending_is_going, with_host}
use Rattle.exchange_core.proofs.UnitLemmas.{received_of}
use Rattle.exchange_core.specs.ComesToLaws.{over_turn}

-- the current TPDU is at another front, with the data that it has brought
pub stands_at : (c : Command) (ex : ExchangeOf) (host : Hosting) (units : List UnitOf)
    (first : Option Dialogue) (front : Front) (bytes : List ℕ) → UnderWay c ex units first fresh
    → IsSameRequest ex.host host → IsRequest host → IsFront front → HostStandsAt host front
    → bytes ≡ brought front
    → UnderWay c (with_host ex host (gathered ex.gather bytes)) units first front
stands_at c ex host units first front bytes under same request front_is stands is = record {
  opening = under.opening;
  left = under.left;
  followed = under.followed;
  are_dialogues = under.are_dialogues;
  opened_as = opened_too under.opening under.left first ex.host host same under.opened_as;
  place = place_too ex.attempt under.opening units first ex.host host same under.place;
  stands = stands;
  request = request;
  is_front = front_is;
  gathered = ap (λ ds. ds ++ bytes) (under.gathered
      ∙ append-nil (flat_map received (so_far units first)))
      ∙ ap (λ ds. flat_map received (so_far units first) ++ ds) is;
  wanted_is = under.wanted_is;
  going = under.going;
}

-- an exchange that returns a whole TPDU is at the fresh front
pub due_front : (c : Command) (came : List Character) (ex : ExchangeOf) → IsKept ex
    → is_due ex.host ≡ true → ComesTo c came ex
    → (units : List UnitOf) × (first : Option Dialogue) × UnderWay c ex units first fresh
    × (came ≡ characters_to units first fresh)
due_front c came ex kept due leads = by leads
  where
    sends : (byte : ℕ) × (exchange_turn ex ≡ Sends byte)
    sends =
        let turn = due_sends ex.host due in (
          turn.0,
          ap (λ b. if b then Failed else turn_of ex.host) (sending_is_going ex turn.0 kept turn.1)
              ∙ turn.1,
        )

    by : ComesTo c came ex
        → (units : List UnitOf) × (first : Option Dialogue) × UnderWay c ex units first fresh
        × (came ≡ characters_to units first fresh)
    by (to_front units first front under is) =
        let same = due_is_fresh ex.host front under.stands due in
        (units, first, rw same at under, is ∙ ap (λ f. characters_to units first f) same)
    by (to_end units status over is) =
        absurd (done_sends_nothing status sends.0 (exchange_turn ex)
        (over_turn c ex units status over) sends.1)
    by (to_stall units stall are failed is) =
        absurd (failed_sends_nothing sends.0 (exchange_turn ex) failed sends.1)
    by (to_fault units first front before b fault under why final failed same is) =
        absurd (failed_sends_nothing sends.0 (exchange_turn ex) failed sends.1)

-- if the data exceed the room, the first character that exceeds it is the fault
pub leads_too_long : (c : Command) (came : List Character) (ex new : ExchangeOf) (d : Dialogue)
    → IsKept ex → is_due ex.host ≡ true → ComesTo c came ex → IsOpenedBy ex.host d.body
    → IsDialogue d → ex.gather.limit < length ex.gather.bytes + length (received d)
    → exchange_turn new ≡ Failed → ex.gather.limit ≡ new.gather.limit
    → ComesTooFar c came (characters d) new
leads_too_long c came ex new d kept due leads opened is over failed same =
    let at = due_front c came ex kept due leads in
    let left : ℕ = ex.gather.limit - length ex.gather.bytes in
    let o = dialogue_overflows left d is (omega (arith, over, kept.fits)) in
    let asks : ex.host.direction ≡ FromCard = sym opened.2 ∙ sym o.opened.2 ∙ o.way in
    let by : IsOpenedBy ex.host o.body = (
      o.opened.0 ∙ opened.0,
      o.opened.1 ∙ opened.1,
      o.opened.2 ∙ opened.2,
      rw asks tt,
    ) in
    let before = with_host ex (moving_in ex.host o.body) (gathered ex.gather o.body.moved) in
    let moved : o.body.moved ≡ from_card o.body.direction o.body.moved =
    ap (λ way. from_card way o.body.moved) (sym o.way) in
    let under : UnderWay c before at.0 at.1 (In_body o.body) =
    stands_at c ex (moving_in ex.host o.body) at.0 at.1 (In_body o.body) o.body.moved at.2
    (record { header = refl; p3 = refl; direction = refl; content = refl }) at.2.request o.begun
    (by, refl, o.more, refl) moved in
    let full : (length (ex.gather.bytes ++ o.body.moved) == ex.gather.limit) ≡ true =
    eq-eqb (length (ex.gather.bytes ++ o.body.moved)) ex.gather.limit
    (omega (arith, length-append ex.gather.bytes o.body.moved, o.so_many, kept.fits)) in
    let why : fault_of before.host before.gather o.byte ≡ Some TooLong =
    ap (λ way. data_fault way before.gather) asks
    ∙ ap (λ b. if b then Some TooLong else None) full in
    let came_is : came ++ o.before ≡ characters_to at.0 at.1 (In_body o.body) =
    ap (λ cs. cs ++ o.before) (at.3 ∙ append-nil (flat_map characters (so_far at.0 at.1)))
    ∙ ap (λ cs. flat_map characters (so_far at.0 at.1) ++ cs) o.gone in
    record {
      before = o.before;
      byte = o.byte;
      rest = o.rest;
      cs_are = o.cs_are;
      prior = before;
      led = to_front at.0 at.1 (In_body o.body) under came_is;
      is_fault = why;
      limit = same;
      led_to = to_fault at.0 at.1 (In_body o.body) before o.byte TooLong under why refl failed same
          (ap (λ cs. cs ++ (Card, o.byte) ∷ []) came_is);
    }

-- ---- in the words of the call's contract

-- The end has taken an answer with these data and this status.
pub record TookAnswer (ex : ExchangeOf) (host : Hosting) (room : Room) (bytes : List ℕ)
    (sw : StatusWord) : Type 0 where
  pub kept : IsKept ex
  pub no_fault : answer_fault ex.host ex.gather bytes ≡ None
  pub host_is : host ≡ before_sw2 ex.host sw
  pub room_is : room ≡ gathered ex.gather bytes
  pub stands : (d : Dialogue) → Gives ex.host d bytes sw
      → HostStandsAt host (After_first d.body sw.0)

pub took : (ex : ExchangeOf) (host : Hosting) (room : Room) (bytes : List ℕ) (sw : StatusWord)
    → IsKept ex → None ≡ answer_fault ex.host ex.gather bytes
    → (host ≡ before_sw2 ex.host sw) × (room ≡ gathered ex.gather bytes)
    → ((d : Dialogue) → Gives ex.host d bytes sw → HostStandsAt host (After_first d.body sw.0))
    → TookAnswer ex host room bytes sw
took ex host room bytes sw kept no_fault taken stands = record {
  kept = kept;
  no_fault = sym no_fault;
  host_is = taken.0;
  room_is = taken.1;
  stands = stands;
}

-- which data left in it is not known
pub whole_sent : (ex seen : ExchangeOf) (host : Hosting) (room : Room)
    (new : ExchangeOf) (sw : StatusWord) → ex ≡ seen → host ≡ before_sw2 ex.host sw
    → exchange_sent new ≡ exchange_sent (with_host ex host room)
    → exchange_sent new ≡ both seen.attempt.sent NotKnown
whole_sent ex seen host room new sw is host_is same =
    same ∙ ap (λ (h : Hosting). both ex.attempt.sent (data_sent h)) host_is
    ∙ ap (λ (x : ExchangeOf). both x.attempt.sent NotKnown) is

due_where : (due more fits : Bool) (x : AnswerFault)
    → (if due then (if more then Some x else (if fits then None else Some AnswerTooLong))
    else Some NotDue) ≡ None → due ≡ true
due_where true more fits x e = refl
due_where false more fits x e = absurd (cc)

excess_is : (direction : Direction) → Some (excess direction) ≡ Some AnswerTooLong → ⊥
excess_is ToCard e = absurd (cc)
excess_is FromCard e = absurd (cc)

long_where : (due more fits : Bool) (direction : Direction)
    → (if due then (if more then Some (excess direction)
    else (if fits then None else Some AnswerTooLong)) else Some NotDue) ≡ Some AnswerTooLong
    → (due ≡ true) × (fits ≡ false)
long_where false more fits direction e = absurd (cc)
long_where true true fits direction e = absurd (excess_is direction e)
long_where true false true direction e = absurd (cc)
long_where true false false direction e = (refl, refl)

pub gives_inside : (ex seen : ExchangeOf) (bytes : List ℕ) (sw : StatusWord) (d : Dialogue)
    → ex ≡ seen → Gives seen.host d bytes sw → Gives ex.host d bytes sw
gives_inside ex seen bytes sw d is gives = rw is gives

-- all of the dialogue but SW2 has passed
pub under_took : (c : Command) (ex seen : ExchangeOf) (host : Hosting) (room : Room)
    (units : List UnitOf) (first : Option Dialogue) (bytes : List ℕ) (sw : StatusWord)
    (d : Dialogue) → ex ≡ seen → TookAnswer ex host room bytes sw → Gives seen.host d bytes sw
    → UnderWay c seen units first fresh
    → UnderWay c (with_host ex host room) units first (After_first d.body sw.0)
under_took c ex seen host room units first bytes sw d is took gives under =
    let here = rw (sym is) at under in
    rw took.room_is (stands_at c ex host units first (After_first d.body sw.0) bytes here
    (rw took.host_is (record { header = refl; p3 = refl; direction = refl; content = refl }))
    (rw took.host_is here.request) (rw gives.status at (whole_front d gives.is_dialogue))
    (took.stands d (rw (sym is) at gives)) (sym gives.brings ∙ received_of d.body d.status))

-- if characters led to the exchange before the answer, its TPDU is at the fresh front
pub front_took : (c : Command) (came : List Character) (ex seen : ExchangeOf) (host : Hosting)
    (room : Room) (bytes : List ℕ) (sw : StatusWord) → ex ≡ seen
    → TookAnswer ex host room bytes sw → ComesTo c came seen
    → (units : List UnitOf) × (first : Option Dialogue) × UnderWay c seen units first fresh
    × (came ≡ characters_to units first fresh)
front_took c came ex seen host room bytes sw is took leads =
    rw is at (due_front c came ex took.kept (due_where _ _ _ _ took.no_fault)
    (rw (sym is) at leads))

pub leads_took : (c : Command) (came : List Character) (ex seen : ExchangeOf) (host : Hosting)
    (room : Room) (bytes : List ℕ) (sw : StatusWord) (d : Dialogue) → ex ≡ seen
    → TookAnswer ex host room bytes sw → Gives seen.host d bytes sw → ComesTo c came seen
    → ComesTo c (came ++ front_characters (After_first d.body sw.0)) (with_host ex host room)
leads_took c came ex seen host room bytes sw d is took gives leads =
    let at = front_took c came ex seen host room bytes sw is took leads in
    to_front at.0 at.1 (After_first d.body sw.0)
    (under_took c ex seen host room at.0 at.1 bytes sw d is took gives at.2)
    (ap (λ cs. cs ++ front_characters (After_first d.body sw.0))
    (at.3 ∙ append-nil (flat_map characters (so_far at.0 at.1))))

-- SW2 ends the dialogue
pub ends_took : (host : Hosting) (d : Dialogue) (bytes : List ℕ) (sw : StatusWord) (byte : ℕ)
    → byte ≡ sw.1 → Gives host d bytes sw → Ends (After_first d.body sw.0) (Card, byte) d
ends_took host d bytes sw byte is gives =
    rw (is, sym gives.status) (refl, gives.is_dialogue.is_status.1, refl)

pub leads_all : (c : Command) (came : List Character) (new : ExchangeOf) (host : Hosting)
    (d : Dialogue) (bytes : List ℕ) (sw : StatusWord) (byte : ℕ) → byte ≡ sw.1
    → Gives host d bytes sw
    → ComesTo c ((came ++ front_characters (After_first d.body sw.0)) ++ (Card, byte) ∷ []) new
    → ComesTo c (came ++ characters d) new
leads_all c came new host d bytes sw byte is gives leads =
    rw (append_assoc came (front_characters (After_first d.body sw.0)) ((Card, byte) ∷ [])
    ∙ ap (λ cs. came ++ cs) (sym (ends_with (After_first d.body sw.0) byte d
    (ends_took host d bytes sw byte is gives)))) at leads

-- ---- if the end refuses it

over_room : (ex seen : ExchangeOf) (bytes : List ℕ) → ex ≡ seen
    → answer_fault ex.host ex.gather bytes ≡ Some AnswerTooLong
    → seen.gather.limit < length seen.gather.bytes + length bytes
over_room ex seen bytes is e =
    let over = leb-false (length ex.gather.bytes + length bytes) ex.gather.limit
    (long_where _ _ _ ex.host.direction e).1 in
    rw (sym is) (omega (arith, over))

-- the answer to a whole TPDU is refused because the room is too small
pub refused_ends : (c : Command) (ex seen : ExchangeOf) (units : List UnitOf)
    (first : Option Dialogue) (bytes : List ℕ) (fault : AnswerFault) → ex ≡ seen
    → UnderWay c seen units first fresh → (fault ≡ NotDue) ⊎ (fault ≡ AnswerTooLong)
    → Some fault ≡ answer_fault ex.host ex.gather bytes
    → (fault ≡ AnswerTooLong) × (seen.gather.limit < length seen.gather.bytes + length bytes)
refused_ends c ex seen units first bytes fault is under (inl none) e =
    absurd (due_is (is_due ex.host) _ _ ex.host.direction (fresh_is_due ex.host
    (rw (sym is) at under).stands) (sym e ∙ ap Some none))
  where
    due_is : (due more fits : Bool) (direction : Direction) → due ≡ true
        → (if due then (if more then Some (excess direction)
        else (if fits then None else Some AnswerTooLong)) else Some NotDue) ≡ Some NotDue → ⊥
    due_is false more fits direction due e = absurd (cc)
    due_is true true fits ToCard due e = absurd (cc)
    due_is true true fits FromCard due e = absurd (cc)
    due_is true false true direction due e = absurd (cc)
    due_is true false false direction due e = absurd (cc)
refused_ends c ex seen units first bytes fault is under (inr long) e =
    (long, over_room ex seen bytes is (sym e ∙ ap Some long))

pub refused_leads : (c : Command) (came : List Character) (ex seen : ExchangeOf) (host : Hosting)
    (bytes : List ℕ) (sw : StatusWord) (d : Dialogue) (fault : AnswerFault) → ex ≡ seen
    → IsKept ex → ComesTo c came seen → Gives seen.host d bytes sw
    → host ≡ at_stage ex.host (after_answer_fault ex.host.stage fault)
    → (fault ≡ NotDue) ⊎ (fault ≡ AnswerTooLong)
    → Some fault ≡ answer_fault ex.host ex.gather bytes → (room : Room) → room ≡ ex.gather
    → ((fault ≡ AnswerTooLong) × ComesTooFar c came (characters d) (with_host ex host room))
    ⊎ (fault ≡ NotDue)
refused_leads c came ex seen host bytes sw d fault is kept leads gives host_is (inl none) e room
    room_is =
    inr none
refused_leads c came ex seen host bytes sw d fault is kept leads gives host_is (inr long) e room
    room_is =
    let long_fault = sym e ∙ ap Some long in
    let over = over_room ex ex bytes refl long_fault in
    let failed : turn_of host ≡ Failed =
    ap turn_of host_is ∙ ap (λ f. turn_of (at_stage ex.host (after_answer_fault ex.host.stage f)))
    long in
    inl (
      long,
      leads_too_long c came ex (with_host ex host room) d kept
          (long_where _ _ _ ex.host.direction long_fault).0 (rw (sym is) at leads)
          (rw is gives.opened) gives.is_dialogue
          (omega (arith, over, ap length gives.brings)) (failed_turn ex.stalled host failed)
          (ap (λ (r : Room). r.limit) (sym room_is)),
    )

-- ---- the next TPDU

some_due : (o : Option WholeTpdu) (host : Hosting) → option_map asked_of o ≡ due_by host
    → is_some o ≡ is_due host
some_due o host e = some o ∙ ap is_some e ∙ some_where (is_due host) (asked_by host) where
  some : (o : Option WholeTpdu) → is_some o ≡ is_some (option_map asked_of o)
  some None = refl
  some (Some t) = refl

  some_where : (v : Bool) (a : Asked) → is_some (if v then Some a else None) ≡ v
  some_where true a = refl
  some_where false a = refl

-- there is a whole TPDU exactly if no character of it was sent
pub due_where_fresh : (o : Option WholeTpdu) (c : Command) (ex : ExchangeOf)
    (units : List UnitOf) (first : Option Dialogue) (front : Front)
    → option_map asked_of o ≡ due_by ex.host → UnderWay c ex units first front
    → IsSome o ↔ (front ≡ fresh)
due_where_fresh o c ex units first front due under =
    let is = some_due o ex.host due in (
      (λ some. due_is_fresh ex.host front under.stands (sym is ∙ some)),
      (λ same. is ∙ fresh_is_due ex.host (rw same at under.stands)),
    )
