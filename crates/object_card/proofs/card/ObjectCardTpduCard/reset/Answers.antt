use Rattle.std.proofs.Common.{sym, ◌∙◌, ap}
use Rattle.apdu_core.specs.Chaining.{idle}
use Rattle.object_card.proofs.FreshCard.{is_fresh, standing_limit}
use Rattle.object_card.proofs.card.ObjectCardTpduCard.reset.Goals as goal

pub invariant_of-self : goal.invariant_of-self
invariant_of-self g c =
    is_fresh c.self.inside.applications.items c.restore.new.chain
    c.self.invariant.standing.sound.are_applications
    (c.restore.ensures ∙ ap idle (sym (standing_limit c.self.inside.chain c.self.inside.ready)
    ∙ c.self.invariant.standing.limit_is))
