use Rattle.apdu_terminal.proofs.TalkLemmas.{own_responds}
use Rattle.apdu_terminal.proofs.stop_laws.any_card_responds_so.Goals as goal

pub returns : goal.returns
returns g c state_of means old new pairs goes =
    own_responds g.C.TpduCard.Does g.C.TpduCard.after_reset state_of old new pairs means goes
