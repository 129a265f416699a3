-- The commands of an operation before its first character.
use Rattle.std.specs.Prelude.{◌≡◌, ℕ, List, ◌∷◌, Option, Some, None, IfSome, MatchOption, Bool, true, false, not, ◌&&◌, ◌==◌, zero, suc}
use Rattle.std.specs.List.{AllByRecursion}
use Rattle.apdu_core.specs.CommandBytes.{Command, IsCommand}
use Rattle.t0_core.specs.HostAnswer.{is_due}
use Rattle.t0_core.specs.Character.{Character}
use Rattle.card_terminal.specs.declared.unsent.Unsent.{Unsent}
use Rattle.exchange_core.specs.declared.wanted.Wanted.{Wanted}
use Rattle.exchange_core.specs.declared.wanted.Wanted.TheVariants.{Bytes, Everything}
use Rattle.exchange_core.specs.ExchangeSide.{ExchangeOf}
use Rattle.exchange_core.specs.ExchangeHistory.{ComesTo}
use Rattle.card_terminal.specs.TerminalSide.{OperationOf, AreLeft, LeadsTo}
use Rattle.exchange_core.specs.Unsent.{le_by, is_unsent, IsFirst}

abbrev pub is_unsent_at : Option OperationOf → Bool
is_unsent_at None = false
is_unsent_at (Some o) = o.first && is_unsent o.exchange

-- the commands of an operation before its first character: the first, and the rest of the data for
-- the others; nothing of any other operation
pub record IsUnsent (t : Option OperationOf) (unsent : Option Unsent) : Type 0 where
  pub known : IfSome unsent (λ u. is_unsent_at t ≡ true)
  pub led : (commands : List Command) (came : List Character) → AllByRecursion IsCommand commands
      → LeadsTo commands came t → is_unsent_at t ≡ true
      → MatchOption unsent ⊥ (λ u. (left : List Command) × (commands ≡ u.first ∷ left)
      × AreLeft u.p1 u.p2 u.rest.now left)
