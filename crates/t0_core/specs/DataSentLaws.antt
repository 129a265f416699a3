-- Laws of what is known of the data that the terminal has sent.
use Rattle.std.proofs.Common.{◌≡◌, ℕ, ◌+◌, ◌-◌, List, [], ◌∷◌, ◌++◌, refl, sym, ◌∙◌, ap, Bool, true, false, ◌==◌, if◌then◌else◌, Option, Some, None}
use Rattle.std.specs.Prelude.{nat_lt}
use Rattle.apdu_core.specs.StatusWord.{StatusWord}
use Rattle.t0_core.specs.declared.direction.Direction.{Direction}
use Rattle.t0_core.specs.declared.direction.Direction.TheVariants.{ToCard, FromCard}
use Rattle.t0_core.specs.declared.end.End.TheVariants.{Card}
use Rattle.t0_core.specs.declared.host_end.HostStage.{HostStage}
use Rattle.t0_core.specs.declared.host_end.HostStage.TheVariants.{SendingHeader, Awaiting, Moving, AwaitingSecond, Ended, Broken}
use Rattle.t0_core.specs.declared.plan.Step.{Step}
use Rattle.t0_core.specs.declared.data_sent.DataSent.{DataSent}
use Rattle.t0_core.specs.declared.data_sent.DataSent.TheVariants.{All, NotAll, NotKnown}
use Rattle.t0_core.specs.Dialogue.{Body, Dialogue, foreseen, moves}
use Rattle.t0_core.specs.Front.{Front, In_header, In_body, After_first, Ends}
use Rattle.t0_core.specs.Room.{Room}
use Rattle.t0_core.specs.HostSide.{Hosting, HostStandsAt, at_stage, after_turn, after_data_turn, after_taking, after_procedure, moving, step_of, data_fault, fault_of, data_sent}
use Rattle.t0_core.specs.DataSent.{sent_by_now, sent_in, both, sent_in_all, IsKnown, Tells}

pub tells_itself : (sent : DataSent) → Tells sent sent
tells_itself All = refl
tells_itself NotAll = refl
tells_itself NotKnown = tt

-- two that are known are known together
pub tells_both : (a b x y : DataSent) → Tells a x → Tells b y → Tells (both a b) (both x y)
tells_both All All x y tells_a tells_b = rw (tells_a, tells_b) refl
tells_both All NotAll x y tells_a tells_b = rw (tells_a, tells_b) refl
tells_both All NotKnown x y tells_a tells_b = tt
tells_both NotAll b x y tells_a tells_b = rw tells_a refl
tells_both NotKnown All x y tells_a tells_b = tt
tells_both NotKnown NotAll All y tells_a tells_b = tells_b
tells_both NotKnown NotAll NotAll y tells_a tells_b = refl
tells_both NotKnown NotAll NotKnown y tells_a tells_b = rw tells_b refl
tells_both NotKnown NotKnown x y tells_a tells_b = tt

pub both_all : (a : DataSent) → both a All ≡ a
both_all All = refl
both_all NotAll = refl
both_all NotKnown = refl

both_assoc : (a b c : DataSent) → both (both a b) c ≡ both a (both b c)
both_assoc All b c = refl
both_assoc NotAll b c = refl
both_assoc NotKnown All c = refl
both_assoc NotKnown NotAll c = refl
both_assoc NotKnown NotKnown All = refl
both_assoc NotKnown NotKnown NotAll = refl
both_assoc NotKnown NotKnown NotKnown = refl

pub sent_in-append : (ds es : List Dialogue)
    → sent_in_all (ds ++ es) ≡ both (sent_in_all ds) (sent_in_all es)
sent_in-append [] es = refl
sent_in-append (d ∷ ds) es = ap (both (sent_in d.body)) (sent_in-append ds es)
    ∙ sym (both_assoc (sent_in d.body) (sent_in_all ds) (sent_in_all es))

pub sent_in-last : (ds : List Dialogue) (d : Dialogue)
    → sent_in_all (ds ++ d ∷ []) ≡ both (sent_in_all ds) (sent_in d.body)
sent_in-last ds d =
    sent_in-append ds (d ∷ []) ∙ ap (both (sent_in_all ds)) (both_all (sent_in d.body))

-- SW2 ends a dialogue whose data are those at SW1
told_at : (host : Hosting) (stage : HostStage) (front : Front) (byte : ℕ) (d : Dialogue)
    → HostStandsAt (at_stage host stage) front → Ends front (Card, byte) d
    → Tells (data_sent (at_stage host stage)) (sent_in d.body)
told_at host (SendingHeader n) (In_header bytes) byte d stands ends = absurd ends
told_at host (Awaiting m) (In_body b) byte d stands ends = absurd ends
told_at host (Moving m until) (In_body b) byte d stands ends = absurd ends
told_at host (AwaitingSecond sw1 sent) (After_first b first) byte d stands ends =
    rw ends.2 stands.2
told_at _ _ _ _ _ stands _ = absurd stands

pub told_at_end : (host : Hosting) (front : Front) (byte : ℕ) (d : Dialogue)
    → HostStandsAt host front → Ends front (Card, byte) d → Tells (data_sent host) (sent_in d.body)
told_at_end host front byte d stands ends = told_at host host.stage front byte d stands ends

-- what is known stays known while single characters pass
pub known_both : (a b : DataSent) → IsKnown a → IsKnown b → IsKnown (both a b)
known_both All b one two = two
known_both NotAll b one two = tt
known_both NotKnown b one two = absurd one

pub known_by_now : (direction : Direction) (p3 moved : ℕ) → IsKnown (sent_by_now direction p3 moved)
known_by_now ToCard p3 moved = by (moved == p3) where
  by : (v : Bool) → IsKnown (if v then All else NotAll)
  by true = tt
  by false = tt
known_by_now FromCard p3 moved = tt

known_moving : (host : Hosting) (m until : ℕ)
    → IsKnown (data_sent (at_stage host (moving m until)))
known_moving host m until = by (nat_lt m until) where
  by : (v : Bool)
      → IsKnown (data_sent (at_stage host (if v then Moving m until else Awaiting m)))
  by true = known_by_now host.direction host.p3 m
  by false = known_by_now host.direction host.p3 m

sends_at : (host : Hosting) (stage : HostStage) → IsKnown (data_sent (at_stage host stage))
    → IsKnown (data_sent (at_stage host (after_turn (at_stage host stage))))
sends_at host (SendingHeader n) known = by (nat_lt n 4) where
  by : (v : Bool)
      → IsKnown (data_sent (at_stage host (if v then SendingHeader (n + 1) else Awaiting 0)))
  by true = known_by_now host.direction host.p3 0
  by false = known_by_now host.direction host.p3 0
sends_at host (Moving m until) known = by host.direction where
  by : (direction : Direction)
      → IsKnown (data_sent (at_stage host (after_data_turn direction m until)))
  by ToCard = known_moving host (m + 1) until
  by FromCard = known_by_now host.direction host.p3 m
sends_at host (Awaiting m) known = known
sends_at host (AwaitingSecond sw1 sent) known = known
sends_at host (Ended status sent) known = known
sends_at host Broken known = known

pub sends_known : (host : Hosting) → IsKnown (data_sent host)
    → IsKnown (data_sent (at_stage host (after_turn host)))
sends_known host known = sends_at host host.stage known

takes_at : (host : Hosting) (stage : HostStage) (byte : ℕ)
    → IsKnown (data_sent (at_stage host stage))
    → IsKnown (data_sent (at_stage host (after_taking (at_stage host stage) byte)))
takes_at host (Awaiting m) byte known =
    by (step_of host.header.ins byte) (foreseen host.direction host.p3 - m) where
      by : (step : Option Step) (remain : ℕ) → IsKnown (data_sent (at_stage host
          (after_procedure step m remain byte (sent_by_now host.direction host.p3 m))))
      by (Some step) remain = known_moving host m (m + moves step remain)
      by None remain = known_by_now host.direction host.p3 m
takes_at host (Moving m until) byte known = known_moving host (m + 1) until
takes_at host (SendingHeader n) byte known = known
takes_at host (AwaitingSecond sw1 sent) byte known = known
takes_at host (Ended status sent) byte known = known
takes_at host Broken byte known = known

pub takes_known : (host : Hosting) (byte : ℕ) → IsKnown (data_sent host)
    → IsKnown (data_sent (at_stage host (after_taking host byte)))
takes_known host byte known = takes_at host host.stage byte known

-- at a front, the end has sent what the front has moved
sent_at : (host : Hosting) (stage : HostStage) (b : Body)
    → HostStandsAt (at_stage host stage) (In_body b)
    → data_sent (at_stage host stage) ≡ sent_in b
sent_at host (Awaiting m) b stands = rw (stands.0.2, stands.0.1, stands.2) refl
sent_at host (Moving m until) b stands = rw (stands.0.2, stands.0.1, stands.1) refl
sent_at _ _ _ stands = absurd stands

pub sent_in_front : (host : Hosting) (b : Body) → HostStandsAt host (In_body b)
    → data_sent host ≡ sent_in b
sent_in_front host b stands = sent_at host host.stage b stands

sent_at_sw1 : (host : Hosting) (stage : HostStage) (b : Body) (sw1 : ℕ)
    → HostStandsAt (at_stage host stage) (After_first b sw1)
    → Tells (data_sent (at_stage host stage)) (sent_in b)
sent_at_sw1 host (AwaitingSecond first sent) b sw1 stands = stands.2
sent_at_sw1 _ _ _ _ stands = absurd stands

pub sent_after_sw1 : (host : Hosting) (b : Body) (sw1 : ℕ) → HostStandsAt host (After_first b sw1)
    → Tells (data_sent host) (sent_in b)
sent_after_sw1 host b sw1 stands = sent_at_sw1 host host.stage b sw1 stands

-- an end that has ended says what was sent before SW2
pub sent_ended : (status : StatusWord) (sent : DataSent) (host : Hosting)
    → host.stage ≡ Ended status sent → data_sent host ≡ sent
sent_ended status sent host is = by host.stage is
  where
    by : (stage : HostStage) → stage ≡ Ended status sent → data_sent (at_stage host stage) ≡ sent
    by stage e = rw e refl

-- an end that has sent nothing knows so
pub known_begun : (host : Hosting) → host.stage ≡ SendingHeader 0 → IsKnown (data_sent host)
known_begun host is = by host.stage is
  where
    by : (stage : HostStage) → stage ≡ SendingHeader 0
        → IsKnown (data_sent (at_stage host stage))
    by stage e = rw e (known_by_now host.direction host.p3 0)

-- a character of the card changes nothing of it
same_moving : (host : Hosting) (m until : ℕ)
    → data_sent (at_stage host (moving m until)) ≡ sent_by_now host.direction host.p3 m
same_moving host m until = by (nat_lt m until) where
  by : (v : Bool)
      → data_sent (at_stage host (if v then Moving m until else Awaiting m))
      ≡ sent_by_now host.direction host.p3 m
  by true = refl
  by false = refl

from_card_same : (direction : Direction) (room : Room) (p3 m n : ℕ)
    → data_fault direction room ≡ None → sent_by_now direction p3 m ≡ sent_by_now direction p3 n
from_card_same ToCard room p3 m n none = absurd (cc)
from_card_same FromCard room p3 m n none = refl

same_at : (host : Hosting) (stage : HostStage) (room : Room) (byte : ℕ)
    → fault_of (at_stage host stage) room byte ≡ None
    → data_sent (at_stage host (after_taking (at_stage host stage) byte))
    ≡ data_sent (at_stage host stage)
same_at host (Awaiting m) room byte none =
    by (step_of host.header.ins byte) (foreseen host.direction host.p3 - m) where
      by : (step : Option Step) (remain : ℕ) → data_sent (at_stage host
          (after_procedure step m remain byte (sent_by_now host.direction host.p3 m)))
          ≡ sent_by_now host.direction host.p3 m
      by (Some step) remain = same_moving host m (m + moves step remain)
      by None remain = refl
same_at host (Moving m until) room byte none =
    same_moving host (m + 1) until ∙ from_card_same host.direction room host.p3 (m + 1) m none
same_at host (SendingHeader n) room byte none = refl
same_at host (AwaitingSecond sw1 sent) room byte none = refl
same_at host (Ended status sent) room byte none = refl
same_at host Broken room byte none = refl

pub takes_same : (old new : Hosting) (room : Room) (byte : ℕ)
    → new ≡ at_stage old (after_taking old byte) → fault_of old room byte ≡ None
    → data_sent new ≡ data_sent old
takes_same old new room byte is none = ap data_sent is ∙ same_at old old.stage room byte none

-- an end that asks the card has nothing to send
pub asks_sent : (host : Hosting) → host.stage ≡ SendingHeader 0 → host.direction ≡ FromCard
    → data_sent host ≡ All
asks_sent host is from = by host.stage is
  where
    by : (stage : HostStage) → stage ≡ SendingHeader 0 → data_sent (at_stage host stage) ≡ All
    by stage e = rw (e, from) refl
