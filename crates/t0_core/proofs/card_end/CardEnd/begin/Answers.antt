use Rattle.std.proofs.Common.{refl}
use Rattle.t0_core.specs.Plan.{plan_kept}
use Rattle.t0_core.specs.TpduBytes.{asked_of}
use Rattle.t0_core.proofs.TpduLemmas.{answers_header}
use Rattle.t0_core.proofs.card_end.CardEnd.begin.Goals as goal

pub returns-clause-answering : goal.returns-clause-answering
returns-clause-answering g c =
    let card = g.C.TpduCard in
    let old = c.args.self.now in
    let plan = plan_kept c.turn.new.plans in
    let byte = c.in-Sends.field-0 in
    answers_header card (card.standing old.card) plan (asked_of c.args.tpdu.now)
    c.args.gather.now.bytes (card.prepared old.card) old.stage c.turn.new.self byte
    c.requires.whole c.requires.opened
    (λ at suits stands. c.in-Sends.ensures.advances byte plan.cut at refl (λ takes. (refl, suits))
    stands)
    (c.turn.ensures.permitted c.args.tpdu.now.header c.args.tpdu.now.p3 c.requires.opened)
