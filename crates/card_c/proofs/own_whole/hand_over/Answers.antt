use Rattle.std.proofs.Common.{ℕ, List, subst, ◌∙◌, ap}
use Rattle.card_c.specs.Copying.{IsCopied}
use Rattle.card_c.proofs.OwnWholeLemmas.{fits_is}
use Rattle.card_c.proofs.own_whole.hand_over.Goals as goal

pub returns-clause-copied : goal.returns-clause-copied
returns-clause-copied c =
    let fresh = c.args.end.now.card.fresh in
    let same = c.response.ensures ∙ ap (λ card. card.fresh) c.card.ensures in
    fits_is fresh c.args.response.now c.copied.result c.copied.new.to c.requires.fits
    (subst (λ (from : List ℕ). IsCopied from c.args.response.now c.copied.result c.copied.new.to)
    same c.copied.ensures.copied)
