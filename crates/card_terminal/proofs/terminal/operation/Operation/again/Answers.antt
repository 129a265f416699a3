use Rattle.std.proofs.Common.{ap, length}
use Rattle.apdu_core.specs.declared.header.Header.{Header}
use Rattle.card_terminal.proofs.PartLemmas.{begins_with}
use Rattle.card_terminal.proofs.terminal.operation.Operation.again.Goals as goal

pub returns-clause-begins : goal.returns-clause-begins
returns-clause-begins g c =
    begins_with c.args.first c.args.content.now c.copy_again.new.copy.items c.again.new.self _ _ _
    c.in_ok-copy_again.ensures.items c.requires.front (ap length c.data.ensures.value)
    (ap (λ (h : Header). h.p1) c.header-p1.ensures.value)
    (ap (λ (h : Header). h.p2) c.header-p1.ensures.value) c.again.ensures.begins
    c.again.ensures.led c.again.ensures.by_characters
