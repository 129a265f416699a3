-- The commands of an operation before its first character.
use Rattle.std.specs.Prelude.{◌≡◌, ℕ, List, ◌∷◌, Option, Some, None, IfSome, MatchOption, Bool, true, false, not, ◌&&◌, ◌==◌, zero, suc}
use Rattle.std.specs.List.{AllByRecursion}
use Rattle.apdu_core.specs.CommandBytes.{Command, IsCommand}
use Rattle.t0_core.specs.HostAnswer.{is_due}
use Rattle.t0_core.specs.Character.{Character}
use Rattle.exchange_core.specs.declared.wanted.Wanted.{Wanted}
use Rattle.exchange_core.specs.declared.wanted.Wanted.TheVariants.{Bytes, Everything}
use Rattle.exchange_core.specs.ExchangeSide.{ExchangeOf}
use Rattle.exchange_core.specs.ExchangeHistory.{ComesTo}

-- the Le of a command that wants this
abbrev pub le_by : Wanted → Option ℕ
le_by (Bytes zero) = None
le_by (Bytes (suc n)) = Some (suc n)
le_by Everything = Some 256

-- no character of the exchange was sent
abbrev pub is_unsent : ExchangeOf → Bool
is_unsent ex = not ex.stalled && ((ex.attempt.number == 1) && is_due ex.host)

-- the command of an exchange before its first character, and nothing of any other
pub record IsFirst (ex : ExchangeOf) (first : Option Command) : Type 0 where
  pub known : IfSome first (λ c. is_unsent ex ≡ true)
  pub led : (c : Command) (came : List Character) → IsCommand c → ComesTo c came ex
      → is_unsent ex ≡ true → first ≡ Some c
