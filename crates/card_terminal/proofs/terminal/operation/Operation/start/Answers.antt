use Rattle.std.proofs.Common.{ap, length}
use Rattle.apdu_core.specs.declared.header.Header.{Header}
use Rattle.card_terminal.proofs.PartLemmas.{begins_with}
use Rattle.card_terminal.proofs.terminal.operation.Operation.start.Goals as goal

pub returns-clause-begins : goal.returns-clause-begins
returns-clause-begins g c =
    begins_with c.args.first c.args.content.now c.in_ok-content.content.items
    c.in_ok-exchange.exchange _ _ _ c.in_ok-content.ensures.items c.requires.front
    (ap length c.data-until.ensures.value) (ap (λ (h : Header). h.p1) c.header-p1.ensures.value)
    (ap (λ (h : Header). h.p2) c.header-p1.ensures.value) c.in_ok-exchange.ensures.begins
    c.in_ok-exchange.ensures.led c.in_ok-exchange.ensures.by_characters
