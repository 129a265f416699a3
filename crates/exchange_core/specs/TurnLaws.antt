-- An end that begins sends, and while an end sends it does not listen.
use Rattle.std.proofs.Common.{◌≡◌, ℕ, List, refl, sym, ◌∙◌, ap, Some, true, false, Bool, if◌then◌else◌}
use Rattle.t0_core.specs.declared.direction.Direction.{Direction}
use Rattle.t0_core.specs.declared.direction.Direction.TheVariants.{ToCard, FromCard}
use Rattle.t0_core.specs.declared.host_end.HostStage.{HostStage}
use Rattle.t0_core.specs.declared.host_end.HostStage.TheVariants.{SendingHeader, Awaiting, Moving, AwaitingSecond, Ended, Broken}
use Rattle.t0_core.specs.declared.host_end.HostTurn.TheVariants.{Sends, Failed}
use Rattle.t0_core.specs.declared.line_fault.LineFault.TheVariants.{NotListening}
use Rattle.t0_core.specs.Front.{fresh}
use Rattle.t0_core.specs.Room.{Room}
use Rattle.t0_core.specs.HostSide.{Hosting, HostStandsAt, at_stage, turn_of, data_turn, fault_of, data_fault}
use Rattle.exchange_core.specs.ExchangeSide.{ExchangeOf, exchange_turn}

opens_at : (host : Hosting) (stage : HostStage) → HostStandsAt (at_stage host stage) fresh
    → (byte : ℕ) × (turn_of (at_stage host stage) ≡ Sends byte)
opens_at host (SendingHeader sent) stands = (_, refl)
opens_at host (Awaiting moved) stands = absurd stands
opens_at host (Moving moved until) stands = absurd stands
opens_at host (AwaitingSecond sw1 sent) stands = absurd stands
opens_at host (Ended status sent) stands = absurd stands
opens_at host Broken stands = absurd stands

pub opening_turn : (host : Hosting) → HostStandsAt host fresh
    → (byte : ℕ) × (turn_of host ≡ Sends byte)
opening_turn host stands = opens_at host host.stage stands

data_not_due : (direction : Direction) (content : List ℕ) (moved sent : ℕ) (gather : Room)
    → data_turn direction content moved ≡ Sends sent
    → data_fault direction gather ≡ Some NotListening
data_not_due ToCard content moved sent gather e = refl
data_not_due FromCard content moved sent gather e = absurd (cc)

not_listening_at : (host : Hosting) (stage : HostStage) (sent : ℕ) (gather : Room) (byte : ℕ)
    → turn_of (at_stage host stage) ≡ Sends sent
    → fault_of (at_stage host stage) gather byte ≡ Some NotListening
not_listening_at host (SendingHeader n) sent gather byte e = refl
not_listening_at host (Awaiting moved) sent gather byte e = absurd (cc)
not_listening_at host (Moving moved until) sent gather byte e =
    data_not_due host.direction host.content moved sent gather e
not_listening_at host (AwaitingSecond sw1 known) sent gather byte e = absurd (cc)
not_listening_at host (Ended status known) sent gather byte e = absurd (cc)
not_listening_at host Broken sent gather byte e = absurd (cc)

-- a character of the card is `NotListening` then
pub not_listening : (ex : ExchangeOf) (sent byte : ℕ) → exchange_turn ex ≡ Sends sent
    → fault_of ex.host ex.gather byte ≡ Some NotListening
not_listening ex sent byte e = by ex.stalled refl
  where
    by : (v : Bool) → ex.stalled ≡ v → fault_of ex.host ex.gather byte ≡ Some NotListening
    by true is =
        let no : Failed ≡ Sends sent =
        ap (λ v. if v then Failed else turn_of ex.host) (sym is) ∙ e in absurd (cc)
    by false is = not_listening_at ex.host ex.host.stage sent ex.gather byte
        (ap (λ v. if v then Failed else turn_of ex.host) (sym is) ∙ e)
