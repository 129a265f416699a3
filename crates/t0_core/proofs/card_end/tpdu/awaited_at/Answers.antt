use Rattle.std.proofs.Common.{◌≡◌, take, subst, sym}
use Rattle.t0_core.specs.declared.card_end.Phase.{Phase}
use Rattle.t0_core.specs.CardView.{stage_of}
use Rattle.t0_core.specs.Answering.{awaited_in}
use Rattle.t0_core.proofs.card_end.tpdu.awaited_at.Goals as goal

pub returns-in-Accepted : goal.returns-in-Accepted
returns-in-Accepted c = λ came.
    let P : Phase → Type 0 = λ p. c.awaited.result ≡ awaited_in (stage_of p came) in
    subst P (sym c.in-Accepted.is) (c.awaited.ensures (take c.in-Accepted.service.moved came))
