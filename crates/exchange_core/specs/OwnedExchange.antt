-- An exchange by its fields, and its mark: the exchange without the data of its command.
use Rattle.std.specs.Prelude.{ℕ, List, Bool}
use Rattle.t0_core.specs.declared.host_mark.HostMark.{HostMark}
use Rattle.t0_core.specs.HostMark.{with_data}
use Rattle.t0_core.specs.Room.{Room}
use Rattle.t0_core.specs.HostSide.{Hosting, IsInRange}
use Rattle.exchange_core.specs.declared.attempt.Attempt.{Attempt}
use Rattle.exchange_core.specs.declared.wanted.Wanted.{Wanted}
use Rattle.exchange_core.specs.ExchangeSide.{ExchangeOf, IsKept}

-- the exchange with these fields
abbrev pub of_parts : Hosting → Room → Attempt → Wanted → Bool → ExchangeOf
of_parts host gather attempt wanted stalled =
    record {
      host = host;
      gather = gather;
      attempt = attempt;
      wanted = wanted;
      stalled = stalled;
    }

-- the view of an `ExchangeMark`
pub record ExchangeMarkOf : Type 0 where
  pub end : HostMark
  pub gather : Room
  pub attempt : Attempt
  pub wanted : Wanted
  pub stalled : Bool

-- the exchange that the mark and these data make
abbrev pub over_data : ExchangeMarkOf → List ℕ → ExchangeOf
over_data mark content =
    of_parts (with_data mark.end content) mark.gather mark.attempt mark.wanted mark.stalled

-- the exchange keeps its invariant, so that a mark can make it again
abbrev pub IsSound : ExchangeOf → Type 0
IsSound ex = IsInRange ex.host × IsKept ex
