use Rattle.card_terminal.specs.Conversing.{point}
use Rattle.card_terminal.specs.Operations.{operation_of}
use Rattle.card_terminal.proofs.RunLemmas.{is_heard, in_one_step}
use Rattle.card_terminal.proofs.session.Session.operate_in.Goals as goal

pub returns : goal.returns
returns g c =
    let card = g.C.TpduCard in
    let m = g.met.C.DataCard.means in
    let from = point (card.standing c.args.self.now) c.args.plans.now.rest
    (g.W.Watch.hearing c.args.watch.now) in
    let to = point (card.standing c.carry_out.new.self) c.carry_out.new.plans.rest
    (g.W.Watch.hearing c.carry_out.new.watch) in
    let all = in_one_step card.Does card.after_reset m.0 m.2 from to _ _ (m.1 c.args.self.now)
    (m.1 c.carry_out.new.self) (operation_of c.args.op.now) c.carry_out.result
    c.is_idle-idle.ensures.sound c.requires.idle c.carry_out.ensures in
    record {
      one_step = all.0;
      talk = is_heard card.Does from to (operation_of c.args.op.now) c.carry_out.result
          c.carry_out.ensures;
      idle = all.1;
    }
