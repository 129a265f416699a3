-- Many characters at once, in a buffer, as one step for each.
use Rattle.std.specs.Prelude.{◌≡◌, ◌<◌, ℕ, List, length, take, slice_index, Result, Ok, Err, MatchResult, MatchOption}
use Rattle.t0_core.specs.declared.host_end.HostTurn.{HostTurn}
use Rattle.t0_core.specs.declared.host_end.HostTurn.TheVariants.{Sends}
use Rattle.t0_core.specs.declared.line_fault.LineFault.{LineFault}
use Rattle.t0_core.specs.Buffers.{Steps, HandsOut}
use Rattle.exchange_core.specs.declared.handed_out.HandedOut.{HandedOut}
use Rattle.exchange_core.specs.declared.taken.Taken.{Taken}

-- An end writes each character that it sends to the buffer, until the buffer is full or its next
-- turn (`stop`) is not to send.
pub record IsHandingOut {State : Type 0} (Turn : State → HostTurn → State → Type 0) (old : State)
    (before after : List ℕ) (handed : HandedOut) (new : State) : Type 0 where
  pub sent : HandsOut (λ s b t. Turn s (Sends b) t) old before after handed.count new
  pub stop : MatchOption handed.stop (handed.count ≡ length before)
      (λ turn. (handed.count < length before) × Turn new turn new
      × ((byte : ℕ) → turn ≡ Sends byte → ⊥))

-- An end takes all characters of a buffer, one after another. Or it takes those before the first
-- that is a fault, and then that one.
pub record IsTakingAll {State : Type 0}
    (Taking : State → ℕ → Result (Unit {0}) LineFault → State → Type 0) (old : State)
    (bytes : List ℕ) (taken : Taken) (new : State) : Type 0 where
  pub last : State
  pub steps : Steps (λ s b t. Taking s b (Ok tt) t) old (take taken.count bytes) last
  pub outcome : MatchResult taken.outcome
      (λ _. (taken.count ≡ length bytes) × (new ≡ last))
      (λ fault. (taken.count < length bytes)
      × Taking last (slice_index bytes taken.count) (Err fault) new)
