-- Laws of a terminal's end at a front of a dialogue, after the end of its TPDU, and after a
-- failure.
use Rattle.std.proofs.Common.{◌≡◌, ℕ, List, [], ◌∷◌, ◌++◌, length, take, refl, sym, ◌∙◌, ap, arith, Option, Some, None, Bool, true, false, inl, inr, ◌==◌, if◌then◌else◌}
use Rattle.std.proofs.lemmas.Bool.{eqb-true}
use Rattle.std.proofs.lemmas.List.{length-take-le}
use Rattle.apdu_core.specs.HeaderBytes.{header_bytes}
use Rattle.apdu_core.specs.StatusWord.{StatusWord, is_first_status}
use Rattle.t0_core.specs.declared.line_fault.LineFault.TheVariants.{AfterEnd, BadProcedure, TooLong}
use Rattle.t0_core.specs.declared.host_end.HostStage.{HostStage}
use Rattle.t0_core.specs.declared.host_end.HostStage.TheVariants.{SendingHeader, Awaiting, Moving, AwaitingSecond, Ended, Broken}
use Rattle.t0_core.specs.declared.host_end.HostTurn.TheVariants.{Done, Failed}
use Rattle.t0_core.specs.declared.direction.Direction.{Direction}
use Rattle.t0_core.specs.declared.direction.Direction.TheVariants.{ToCard, FromCard}
use Rattle.t0_core.specs.declared.plan.Step.{Step}
use Rattle.t0_core.specs.declared.end.End.TheVariants.{Card}
use Rattle.t0_core.specs.Dialogue.{Body}
use Rattle.t0_core.specs.Front.{Front, In_header, In_body, After_first, GoesOn, brought, from_card}
use Rattle.t0_core.specs.Room.{Room}
use Rattle.t0_core.specs.HostSide.{Hosting, at_stage, IsOpenedBy, HostStandsAt, turn_of, data_turn, fault_of, data_fault, procedure_fault, step_of}
use Rattle.t0_core.specs.FrontLaws.{begins_between}

-- the front is one of a dialogue that this end opened
abbrev pub IsOpenedFront : Hosting → Front → Type 0
IsOpenedFront host (In_header bytes) =
    bytes ≡ take (length bytes) (header_bytes host.header ++ host.p3 ∷ [])
IsOpenedFront host (In_body b) = IsOpenedBy host b
IsOpenedFront host (After_first b sw1) = IsOpenedBy host b

header_front : (host : Hosting) (sent : ℕ) (bytes : List ℕ)
    → HostStandsAt (at_stage host (SendingHeader sent)) (In_header bytes)
    → IsOpenedFront host (In_header bytes)
header_front host sent bytes stands =
    let n : length bytes ≡ sent =
    ap length stands.1 ∙ length-take-le sent (header_bytes host.header ++ host.p3 ∷ [])
    (omega (arith, stands.0)) in
    stands.1 ∙ ap (λ k. take k (header_bytes host.header ++ host.p3 ∷ [])) (sym n)

opened_at : (host : Hosting) (stage : HostStage) (front : Front)
    → HostStandsAt (at_stage host stage) front → IsOpenedFront host front
opened_at host (SendingHeader sent) (In_header bytes) stands = header_front host sent bytes stands
opened_at host (Awaiting moved) (In_body b) stands = stands.0
opened_at host (Moving moved until) (In_body b) stands = stands.0
opened_at host (AwaitingSecond sw1 sent) (After_first b first) stands = stands.0
opened_at _ _ _ stands = absurd stands

pub opened : (host : Hosting) (front : Front) → HostStandsAt host front → IsOpenedFront host front
opened host front stands = opened_at host host.stage front stands

-- an end at a front has neither ended nor failed
data_is_going : (direction : Direction) (content : List ℕ) (moved : ℕ) (status : StatusWord)
    → data_turn direction content moved ≡ Done status → ⊥
data_is_going ToCard content moved status e = absurd (cc)
data_is_going FromCard content moved status e = absurd (cc)

data_fails_not : (direction : Direction) (content : List ℕ) (moved : ℕ)
    → data_turn direction content moved ≡ Failed → ⊥
data_fails_not ToCard content moved e = absurd (cc)
data_fails_not FromCard content moved e = absurd (cc)

going_at : (host : Hosting) (stage : HostStage) (front : Front) (status : StatusWord)
    → HostStandsAt (at_stage host stage) front → turn_of (at_stage host stage) ≡ Done status → ⊥
going_at host (Moving moved until) front status stands e =
    data_is_going host.direction host.content moved status e
going_at host (Ended other sent) front status stands e = stands
going_at host Broken front status stands e = stands
going_at host _ front status stands e = absurd (cc)

pub going : (host : Hosting) (front : Front) (status : StatusWord) → HostStandsAt host front
    → turn_of host ≡ Done status → ⊥
going host front status stands e = going_at host host.stage front status stands e

unbroken_at : (host : Hosting) (stage : HostStage) (front : Front)
    → HostStandsAt (at_stage host stage) front → turn_of (at_stage host stage) ≡ Failed → ⊥
unbroken_at host (Moving moved until) front stands e =
    data_fails_not host.direction host.content moved e
unbroken_at host (Ended other sent) front stands e = stands
unbroken_at host Broken front stands e = stands
unbroken_at host _ front stands e = absurd (cc)

pub unbroken : (host : Hosting) (front : Front) → HostStandsAt host front → turn_of host ≡ Failed
    → ⊥
unbroken host front stands e = unbroken_at host host.stage front stands e

-- after the end of a TPDU, and after a failure, no character is taken
after_done_at : (host : Hosting) (stage : HostStage) (room : Room) (byte : ℕ) (status : StatusWord)
    → turn_of (at_stage host stage) ≡ Done status
    → fault_of (at_stage host stage) room byte ≡ Some AfterEnd
after_done_at host (Moving moved until) room byte status e =
    absurd (data_is_going host.direction host.content moved status e)
after_done_at host (Ended other sent) room byte status e = refl
after_done_at host Broken room byte status e = refl
after_done_at host _ room byte status e = absurd (cc)

pub after_done : (host : Hosting) (room : Room) (byte : ℕ) (status : StatusWord)
    → turn_of host ≡ Done status → fault_of host room byte ≡ Some AfterEnd
after_done host room byte status e = after_done_at host host.stage room byte status e

after_failure_at : (host : Hosting) (stage : HostStage) (room : Room) (byte : ℕ)
    → turn_of (at_stage host stage) ≡ Failed
    → fault_of (at_stage host stage) room byte ≡ Some AfterEnd
after_failure_at host (Moving moved until) room byte e =
    absurd (data_fails_not host.direction host.content moved e)
after_failure_at host (Ended other sent) room byte e = refl
after_failure_at host Broken room byte e = refl
after_failure_at host _ room byte e = absurd (cc)

pub after_failure : (host : Hosting) (room : Room) (byte : ℕ) → turn_of host ≡ Failed
    → fault_of host room byte ≡ Some AfterEnd
after_failure host room byte e = after_failure_at host host.stage room byte e

-- A data character is too long exactly if the gather is full. It is one of the card's.
no_procedure_is_too_long : (step : Option Step) (byte : ℕ)
    → procedure_fault step byte ≡ Some TooLong → ⊥
no_procedure_is_too_long (Some step) byte e = absurd (cc)
no_procedure_is_too_long None byte e = by (is_first_status byte) e
  where
    by : (v : Bool) → (if v then None else Some (BadProcedure byte)) ≡ Some TooLong → ⊥
    by true e = absurd (cc)
    by false e = absurd (cc)

full_when : (v : Bool) → (if v then Some TooLong else None) ≡ Some TooLong → v ≡ true
full_when true e = refl
full_when false e = absurd (cc)

moved_data : (direction : Direction) (room : Room) (b : Body) (byte : ℕ)
    → b.direction ≡ direction → data_fault direction room ≡ Some TooLong
    → (length room.bytes ≡ room.limit)
    × (from_card b.direction (b.moved ++ byte ∷ []) ≡ from_card b.direction b.moved ++ byte ∷ [])
moved_data ToCard room b byte is e = absurd (cc)
moved_data FromCard room b byte is e = (
  eqb-true (length room.bytes) room.limit (full_when (length room.bytes == room.limit) e),
  rw is refl,
)

too_long_at : (host : Hosting) (stage : HostStage) (room : Room) (byte : ℕ) (front new : Front)
    → HostStandsAt (at_stage host stage) front
    → fault_of (at_stage host stage) room byte ≡ Some TooLong → GoesOn front (Card, byte) new
    → (length room.bytes ≡ room.limit) × (brought new ≡ brought front ++ byte ∷ [])
too_long_at host (SendingHeader sent) room byte front new stands e goes = absurd (cc)
too_long_at host (Awaiting moved) room byte front new stands e goes =
    absurd (no_procedure_is_too_long (step_of host.header.ins byte) byte e)
too_long_at host (Moving moved until) room byte (In_body b) new stands e
    (inl (lt, sender, new_is)) =
    let full = moved_data host.direction room b byte stands.0.2 e in
    (full.0, ap brought new_is ∙ full.1)
too_long_at host (Moving moved until) room byte (In_body b) new stands e (inr begins) =
    let between = begins_between b (Card, byte) new begins in
    absurd (omega (arith, between.0, stands.1, stands.2, stands.3))
too_long_at host (AwaitingSecond sw1 sent) room byte front new stands e goes = absurd (cc)
too_long_at _ _ _ _ _ _ stands _ _ = absurd stands

pub too_long : (host : Hosting) (room : Room) (byte : ℕ) (front new : Front)
    → HostStandsAt host front → fault_of host room byte ≡ Some TooLong
    → GoesOn front (Card, byte) new
    → (length room.bytes ≡ room.limit) × (brought new ≡ brought front ++ byte ∷ [])
too_long host room byte front new stands e goes =
    too_long_at host host.stage room byte front new stands e goes
