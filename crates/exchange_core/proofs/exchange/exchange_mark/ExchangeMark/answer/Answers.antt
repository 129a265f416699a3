use Rattle.std.proofs.Common.{sym, ap, ◌∙◌}
use Rattle.exchange_core.specs.OwnedExchange.{ExchangeMarkOf}
use Rattle.exchange_core.proofs.OwnedLemmas.{no_answer, answers}
use Rattle.exchange_core.proofs.exchange.exchange_mark.ExchangeMark.answer.Goals as goal

pub returns-in-Done : goal.returns-in-Done
returns-in-Done g c = answers _ c.in-Done.status _ (sym c.turn.ensures ∙ c.in-Done.is)
    (c.bytes.ensures.value ∙ ap (λ (m : ExchangeMarkOf). m.gather.bytes) c.self.view_is)

pub returns-in_default : goal.returns-in_default
returns-in_default g c =
    no_answer _ (λ status done. c.in_default.not-Done status (c.turn.ensures ∙ done))
