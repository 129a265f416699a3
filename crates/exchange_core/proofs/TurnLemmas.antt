-- Turns of the terminal: no character that it sends ends an exchange, and while it sends it does
-- not listen.
use Rattle.std.proofs.Common.{◌≡◌, ◌+◌, ℕ, List, refl, sym, ◌∙◌, ap, true, false, Bool, nat_lt, if◌then◌else◌}
use Rattle.apdu_core.specs.StatusWord.{StatusWord}
use Rattle.t0_core.specs.declared.direction.Direction.{Direction}
use Rattle.t0_core.specs.declared.direction.Direction.TheVariants.{ToCard, FromCard}
use Rattle.t0_core.specs.declared.host_end.HostStage.{HostStage}
use Rattle.t0_core.specs.declared.host_end.HostStage.TheVariants.{SendingHeader, Awaiting, Moving, AwaitingSecond, Ended, Broken}
use Rattle.t0_core.specs.declared.host_end.HostTurn.{HostTurn}
use Rattle.t0_core.specs.declared.host_end.HostTurn.TheVariants.{Listens, Done, Failed}
use Rattle.t0_core.specs.HostSide.{Hosting, at_stage, turn_of, after_turn, data_turn, after_data_turn}
use Rattle.exchange_core.specs.ExchangeSide.{ExchangeOf, exchange_turn}

data_going : (direction : Direction) (content : List ℕ) (moved : ℕ) (status : StatusWord)
    → data_turn direction content moved ≡ Done status → ⊥
data_going ToCard content moved status e = absurd (cc)
data_going FromCard content moved status e = absurd (cc)

moving_on : (host : Hosting) (v : Bool) (moved until : ℕ) (status : StatusWord)
    → turn_of (at_stage host (if v then Moving moved until else Awaiting moved)) ≡ Done status → ⊥
moving_on host true moved until status e =
    data_going host.direction host.content moved status e
moving_on host false moved until status e = absurd (cc)

sending_on : (host : Hosting) (v : Bool) (sent : ℕ) (status : StatusWord)
    → turn_of (at_stage host (if v then SendingHeader sent else Awaiting 0)) ≡ Done status → ⊥
sending_on host true sent status e = absurd (cc)
sending_on host false sent status e = absurd (cc)

data_over : (host : Hosting) (v : Direction) (moved until : ℕ) (status : StatusWord)
    → turn_of (at_stage host (after_data_turn v moved until)) ≡ Done status
    → at_stage host (after_data_turn v moved until) ≡ at_stage host (Moving moved until)
data_over host ToCard moved until status e =
    absurd (moving_on host (nat_lt (moved + 1) until) (moved + 1) until status e)
data_over host FromCard moved until status e = refl

over_at : (host : Hosting) (stage : HostStage) (status : StatusWord)
    → turn_of (at_stage host (after_turn (at_stage host stage))) ≡ Done status
    → at_stage host (after_turn (at_stage host stage)) ≡ at_stage host stage
over_at host (SendingHeader sent) status e =
    absurd (sending_on host (nat_lt sent 4) (sent + 1) status e)
over_at host (Awaiting moved) status e = refl
over_at host (Moving moved until) status e = data_over host host.direction moved until status e
over_at host (AwaitingSecond sw1 sent) status e = refl
over_at host (Ended other sent) status e = refl
over_at host Broken status e = refl

-- if it has ended after a turn, it had before, and nothing has changed
pub over_by_turn : (ex seen : ExchangeOf) (host : Hosting) (status : StatusWord) → ex ≡ seen
    → ex.stalled ≡ false → host ≡ at_stage ex.host (after_turn ex.host)
    → exchange_turn (record ex { host = host }) ≡ Done status → record ex { host = host } ≡ seen
over_by_turn ex seen host status is going after done =
    let ended : turn_of (at_stage ex.host (after_turn ex.host)) ≡ Done status =
    ap turn_of (sym after) ∙ ap (λ v. if v then Failed else turn_of host) (sym going) ∙ done in
    ap (λ h. record ex { host = h }) (after ∙ over_at ex.host ex.host.stage status ended) ∙ is

-- an exchange whose end listens continues, or has stalled
pub still_going : (stalled : Bool) (turn : HostTurn) (status : StatusWord) → turn ≡ Listens
    → (if stalled then Failed else turn) ≡ Done status → ⊥
still_going true turn status listens done = absurd (cc)
still_going false turn status listens done = absurd (cc)

-- ---- if the terminal sends
