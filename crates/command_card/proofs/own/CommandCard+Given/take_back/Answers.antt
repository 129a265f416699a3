use Rattle.std.proofs.Common.{subst, sym}
use Rattle.command_card.specs.Given.{Answers, at_rest, settled, takes_data}
use Rattle.command_card.specs.View.{IsReady}
use Rattle.command_card.proofs.own.CommandCard+Given.take_back.Goals as goal

pub invariant_of-self : goal.invariant_of-self
invariant_of-self c =
    let (ready, waits, leaves, wiped) = c.self.invariant in let inside = c.self.inside in
    let app = c.drop_response.new.self in (
      subst (λ r. IsReady takes_data Answers (at_rest app) (settled app) inside.kept.items
          inside.fresh.items inside.waiting r) (sym c.in-Nothing.is) tt,
      waits,
      leaves,
      wiped,
    )
