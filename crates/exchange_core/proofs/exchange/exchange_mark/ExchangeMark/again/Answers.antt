use Rattle.std.proofs.Common.{[], None, ap, arith, false, refl}
use Rattle.t0_core.specs.Front.{fresh}
use Rattle.t0_core.specs.Room.{Room}
use Rattle.exchange_core.specs.ExchangeSide.{GoesByCharacters, UnderWay}
use Rattle.exchange_core.specs.ExchangeHistory.{to_front}
use Rattle.exchange_core.specs.OwnedExchange.{ExchangeMarkOf, IsSound}
use Rattle.exchange_core.proofs.OwnedLemmas.{over_mark}
use Rattle.exchange_core.proofs.exchange.exchange_mark.ExchangeMark.again.Goals as goal

pub returns-clause-begins : goal.returns-clause-begins
returns-clause-begins g c =
    let new = c.beginning-end.ensures in
    over_mark (λ ex. UnderWay c.args.command ex [] None fresh) c.mark-self-inside.result
    c.args.command.content c.beginning-end.result.0 c.clear.new.self c.beginning-end.result.1
    c.beginning-end.result.2 false
    (c.mark-self-inside.ensures.again c.args.command.content new.data)
    (new.begins c.clear.new.self (ap (λ (r : Room). r.bytes) c.clear.ensures))

pub returns-clause-led : goal.returns-clause-led
returns-clause-led g c = to_front [] None fresh (returns-clause-begins g c) refl

pub returns-clause-sound : goal.returns-clause-sound
returns-clause-sound g c =
    let new = c.beginning-end.ensures in
    over_mark IsSound c.mark-self-inside.result c.args.command.content c.beginning-end.result.0
    c.clear.new.self c.beginning-end.result.1 c.beginning-end.result.2 false
    (c.mark-self-inside.ensures.again c.args.command.content new.data) (
      c.mark-self-inside.ensures.range,
      new.kept c.clear.new.self (ap (λ (r : Room). r.bytes) c.clear.ensures)
          (omega (
            arith,
            ap (λ (r : Room). r.limit) c.clear.ensures,
            ap (λ (m : ExchangeMarkOf). m.gather.limit) c.self.view_is,
            c.requires,
          )),
    )

pub returns-clause-by_characters : goal.returns-clause-by_characters
returns-clause-by_characters g c =
    let new = c.beginning-end.ensures in
    over_mark GoesByCharacters c.mark-self-inside.result c.args.command.content
    c.beginning-end.result.0 c.clear.new.self c.beginning-end.result.1 c.beginning-end.result.2
    false (c.mark-self-inside.ensures.again c.args.command.content new.data)
    (new.by_characters c.clear.new.self)
