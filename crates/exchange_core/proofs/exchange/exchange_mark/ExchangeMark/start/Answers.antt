use Rattle.std.proofs.Common.{sym, subst}
use Rattle.exchange_core.specs.OwnedExchange.{IsSound}
use Rattle.exchange_core.proofs.exchange.exchange_mark.ExchangeMark.start.Goals as goal

pub returns-clause-led : goal.returns-clause-led
returns-clause-led g c =
    rw (c.of.ensures.again c.args.command.content c.in_ok-exchange.ensures.data)
    c.in_ok-exchange.ensures.led

pub returns-clause-begins : goal.returns-clause-begins
returns-clause-begins g c =
    rw (c.of.ensures.again c.args.command.content c.in_ok-exchange.ensures.data)
    c.in_ok-exchange.ensures.begins

pub returns-clause-sound : goal.returns-clause-sound
returns-clause-sound g c =
    subst IsSound (sym (c.of.ensures.again c.args.command.content c.in_ok-exchange.ensures.data))
    c.of.ensures.sound
