use Rattle.std.proofs.Common.{refl, sym, subst}
use Rattle.card_c.specs.declared.card_side.CardSide.{CardSide}
use Rattle.card_c.specs.declared.card_side.CardSide.TheVariants.{Joined}
use Rattle.card_c.specs.Codes.{gt_ok}
use Rattle.card_c.specs.HeardCalls.{Listens}
use Rattle.card_c.proofs.heard.listen.Goals as goal

pub returns : goal.returns
returns c =
    subst (λ (s : CardSide). Listens s gt_ok (Joined c.hear.new.joined))
    (sym c.in-Joined.is)
    (c.hear.new.joined, refl, refl, c.hear.ensures)
