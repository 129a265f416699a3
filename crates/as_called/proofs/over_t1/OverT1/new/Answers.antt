use Rattle.as_called.proofs.Carrying.{starts, starts_tidy}
use Rattle.as_called.proofs.over_t1.OverT1.new.Goals as goal

pub invariant_of-result : goal.invariant_of-result
invariant_of-result g c =
    let has = c.new-3.ensures.led c.args.settings (g.L.Line.passed c.args.line)
    c.in_ok-terminal.ensures in (
      (_, has),
      starts_tidy g.A.Application c.new-3.result _
          (starts g.A.Application c.carried_commands_are_a_dialogue.ensures c.args.settings
          c.new-2.result (g.L.Line.passed c.args.line) c.new-3.result _ c.new-3.ensures.ready has
          c.new-2.ensures),
    )

pub returns-clause-stands : goal.returns-clause-stands
returns-clause-stands g c =
    starts g.A.Application c.carried_commands_are_a_dialogue.ensures c.args.settings
    c.new-2.result (g.L.Line.passed c.args.line) c.new-3.result _ c.new-3.ensures.ready
    (c.new-3.ensures.led c.args.settings (g.L.Line.passed c.args.line) c.in_ok-terminal.ensures)
    c.new-2.ensures
