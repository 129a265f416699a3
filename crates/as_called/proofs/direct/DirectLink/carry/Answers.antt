use Rattle.as_called.proofs.Responding.{responds_tidy}
use Rattle.as_called.proofs.direct.DirectLink.carry.Goals as goal

pub invariant_of-self : goal.invariant_of-self
invariant_of-self g c = (
  c.in-Ok.ensures.room,
  responds_tidy g.A.Application.takes g.A.Application.Does _ _ c.args.command.now _
      c.self.invariant.1
      (c.in-Ok.ensures.does.command c.args.command.now c.spell-count.ensures.command
      c.spell-count.ensures.bytes),
)
