use Rattle.std.proofs.Common.{◌∙◌, sym}
use Rattle.as_called.proofs.Carrying.{done_tidy, over_err, over_ok}
use Rattle.as_called.proofs.over_t1.OverT1Link.carry.Goals as goal
use Rattle.as_called.proofs.over_t1.OverT1Link.carry.Goals.{in-Some, in-None}

pub invariant_of-self : goal.invariant_of-self
invariant_of-self g c =
    let (past, carried) = c.self.invariant.0 in (
      (_, c.in-Ok.ensures.led past carried),
      done_tidy g.A.Application _ _ _ _ _ c.args.command.now c.spell-count.ensures.command
          c.spell-count.ensures.bytes c.self.invariant.1 c.in-Ok.ensures.done,
    )

pub returns-clause-carried : goal.returns-clause-carried
returns-clause-carried g c = elim c.match-fault.branch [
  | in-Some w ↦ over_err g.A.Application _ _ c.carry.new.self _ c.args.command.now
      c.match-fault.result w.in-Some.fault c.self.view_is c.spell-count.ensures.command
      c.spell-count.ensures.bytes (sym c.fault.ensures ∙ w.in-Some.is) c.in-Ok.ensures.done
      w.result-is
  | in-None w ↦ over_ok g.A.Application _ _ c.carry.new.self _ c.args.command.now
      c.match-fault.result _ c.self.view_is c.spell-count.ensures.command
      c.spell-count.ensures.bytes c.in-Ok.ensures.stopped (sym c.fault.ensures ∙ w.in-None.is)
      c.in-Ok.ensures.done w.result-is
]
