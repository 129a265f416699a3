use Rattle.apdu_terminal.proofs.CardLemmas.{never_left}
use Rattle.apdu_terminal.proofs.card_response.answered.Goals as goal

pub unreachable-requires : goal.unreachable-requires
unreachable-requires g c =
    let m = g.met.C.DataCard.means in
    never_left g.C.TpduCard m.0 c.args.command _ _ c.carry_out.result m.2 c.requires.agreed
    c.carry_out.ensures.failed c.in_default.not-Ok
