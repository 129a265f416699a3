-- The data of an operation at a terminal, and how an operation begins.
use Rattle.std.specs.Prelude.{◌≡◌, ℕ, ◌≤◌, List, [], length, drop, true}
use Rattle.apdu_core.specs.CommandBytes.{Command}
use Rattle.t0_core.specs.declared.data_sent.DataSent.TheVariants.{All}
use Rattle.exchange_core.specs.ExchangeSide.{ExchangeOf, GoesByCharacters}
use Rattle.exchange_core.specs.ExchangeHistory.{ComesTo}
use Rattle.exchange_core.specs.OwnedExchange.{IsSound}
use Rattle.card_terminal.specs.TerminalSide.{OperationOf, IsSettled}

-- the data of the current command are those from `from` to `until` of the operation's data, and the
-- command's exchange is sound
pub record IsPart (content : List ℕ) (from until : ℕ) (ex : ExchangeOf) : Type 0 where
  pub begin : from ≤ until
  pub within : until ≤ length content
  pub sound : IsSound ex

-- The exchange of this command has begun. The rest of `content` after its data is still to be put,
-- under its P1-P2.
pub record BeginsWith (first : Command) (content : List ℕ) (o : OperationOf) : Type 0 where
  pub led : ComesTo first [] o.exchange
  pub p1_is : o.p1 ≡ first.header.p1
  pub p2_is : o.p2 ≡ first.header.p2
  pub rest_is : o.rest ≡ drop (length first.content) content
  pub settled : IsSettled o
  pub is_first : o.first ≡ true
  pub sent_is : o.sent ≡ All
  pub by_characters : GoesByCharacters o.exchange
