use Rattle.t0_core.proofs.CardTakingLemmas.{run_steps, run_fits, run_forgets}
use Rattle.t0_core.proofs.card_end.CardEnd.take_data.Goals as goal

pub returns-clause-taken : goal.returns-clause-taken
returns-clause-taken g c =
    run_steps g.C.TpduCard c.self.inside.card c.self.inside.phase c.take_run.new.phase
    c.self.inside.came c.take_run.new.came _ _ c.self.invariant.0 c.self.view_is
    c.take_run.ensures.run

pub invariant_of-self : goal.invariant_of-self
invariant_of-self g c = (
  run_fits (g.C.TpduCard.prepared c.self.inside.card) c.self.inside.phase c.take_run.new.phase
      c.self.inside.came c.take_run.new.came _ c.self.invariant.0 c.take_run.ensures.run,
  c.take_run.ensures.room,
  run_forgets c.self.inside.phase c.take_run.new.phase c.self.inside.came c.take_run.new.came _
      c.self.invariant.2 c.take_run.ensures.run,
)
