use Rattle.std.proofs.Common.{◌++◌, ap, subst, ◌∙◌, List, ℕ}
use Rattle.t0_core.specs.CardSide.{EndOf}
use Rattle.t1_terminal.proofs.AnswerLemmas.{answers, is_over}
use Rattle.t1_terminal.specs.CardCommand.{Answers, status_bytes}
use Rattle.t1_terminal.proofs.data_applet.DataApplet.respond.Goals as goal

pub unreachable-requires : goal.unreachable-requires
unreachable-requires g c =
    is_over g.C.TpduCard.Does _ _ c.args.command c.self.inside.end c.respond.new.end
    c.in-Ok.exchange.gather.bytes c.in-Ok.exchange.stage c.in-Ok.ensures.refuses
    c.in-Ok.ensures.responds
    (λ s over. c.in_default-status.not-Some s ((c.status.ensures s).1 over))

pub returns-clause-responds : goal.returns-clause-responds
returns-clause-responds g c =
    let ex = c.in-Ok.exchange in let status = c.in-Some.status in
    subst (λ (e : EndOf g.row.C.Denot). Answers g.C.TpduCard.Does (g.C.TpduCard.standing e.card)
    c.args.command c.write.new.response.items (g.C.TpduCard.standing c.respond.new.end.card))
    c.self.view_is
    (answers (λ e. g.C.TpduCard.standing e.card) g.C.TpduCard.Does c.args.command c.self.inside.end
    c.respond.new.end ex.gather.bytes c.write.new.response.items ex.stage status
    c.in-Ok.ensures.refuses c.in-Ok.ensures.responds ((c.status.ensures status).0 c.in-Some.is)
    c.in-Ok.ensures.within
    (c.write.ensures.bytes ∙ ap (λ (b : List ℕ). b ++ status_bytes status) c.data.ensures)
    c.write.ensures.status)
