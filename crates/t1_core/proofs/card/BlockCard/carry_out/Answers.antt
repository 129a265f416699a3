use Rattle.std.proofs.Common.{arith, take, drop}
use Rattle.std.proofs.lemmas.List.{take-append-drop}
use Rattle.t1_core.proofs.CardSteps.{carried_kept}
use Rattle.t1_core.proofs.card.BlockCard.carry_out.Goals as goal

pub returns-in-Ok-clause-turn : goal.returns-in-Ok-clause-turn
returns-in-Ok-clause-turn g c =
    let s = c.self.inside in
    let r = c.carry_out.new.response in
    carried_kept g.C.Applet _ c.args.self.now c.respond.new.self c.self.view_is
    c.carry_out.new.self (take s.cut r.items) (drop s.cut r.items) c.respond.result r.items
    c.in-Ok.left (omega (arith, r.small, r.ok.0, r.ok.1)) (take-append-drop s.cut r.items)
    c.respond.ensures c.deref.result.now c.in-Ok.ensures.does c.deref.ensures.value
    c.requires.whole
