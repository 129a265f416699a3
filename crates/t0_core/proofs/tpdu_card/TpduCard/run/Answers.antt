use Rattle.t0_core.proofs.CardSendingLemmas.{one_is_run}
use Rattle.t0_core.proofs.tpdu_card.TpduCard.run.Goals as goal

pub returns : goal.returns
returns g c =
    one_is_run (g.Self.TpduCard.prepared c.args.self.now) c.args.at c.byte.result c.byte.ensures
