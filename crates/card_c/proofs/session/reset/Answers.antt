use Rattle.std.proofs.Common.{refl, sym, subst}
use Rattle.card_c.specs.declared.card_side.CardSide.{CardSide}
use Rattle.card_c.specs.declared.card_side.CardSide.TheVariants.{Joined}
use Rattle.card_c.specs.Codes.{gt_ok}
use Rattle.card_c.specs.SessionCalls.{ResetsSession}
use Rattle.card_c.proofs.session.reset.Goals as goal

pub returns : goal.returns
returns c =
    subst (λ (s : CardSide). ResetsSession s gt_ok (Joined c.reset_session.new.joined))
    (sym c.in-Joined.is)
    (c.reset_session.new.joined, refl, refl, c.reset_session.ensures)
