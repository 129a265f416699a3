-- What the exports return that tell whether all data have left the terminal.
use Rattle.std.specs.Prelude.{◌≡◌, ℤ, Option, Some, None, true, false}
use Rattle.t0_core.specs.declared.data_sent.DataSent.{DataSent}
use Rattle.exchange_core.specs.SentData.{TellsSent}
use Rattle.card_terminal.specs.SentData.{TellsTerminalSent}
use Rattle.card_c.specs.declared.exchange_side.ExchangeSide.{ExchangeSide}
use Rattle.card_c.specs.declared.terminal_side.TerminalSide.{TerminalSide}
use Rattle.card_c.specs.Codes.{gt_state, gt_sent_unknown, sent_code}

-- of an exchange; by whole commands it is not known
pub record TellsSentOf (side : ExchangeSide) (code : ℤ) : Type 0 where
  pub whole : side.apdus.leads ≡ true → code ≡ gt_sent_unknown
  pub told : side.apdus.leads ≡ false
      → (sent : DataSent) × (code ≡ sent_code sent) × TellsSent side.exchange sent

-- if no operation has begun, the call does not fit the state
abbrev pub told_sent : Option DataSent → ℤ
told_sent None = gt_state
told_sent (Some sent) = sent_code sent

-- of the operation of a terminal
pub record TellsSentBy (side : TerminalSide) (code : ℤ) : Type 0 where
  pub whole : side.apdus.leads ≡ true → code ≡ gt_sent_unknown
  pub told : side.apdus.leads ≡ false → (sent : Option DataSent) × (code ≡ told_sent sent)
      × TellsTerminalSent side.terminal.operation sent
