use Rattle.card_terminal.proofs.TalkLemmas.{own_talk_answers}
use Rattle.card_terminal.proofs.talk_laws.a_talk_with_any_card_is_answered_in_single_steps.Goals as goal

pub returns : goal.returns
returns g c = λ before after. let m = g.met.C.DataCard.means in
    own_talk_answers g.C.TpduCard.Does g.C.TpduCard.after_reset m.0 m.2
    (g.C.TpduCard.standing before)
    (g.C.TpduCard.standing after) (g.C.DataCard.state before) (g.C.DataCard.state after)
    (m.1 before) (m.1 after)
