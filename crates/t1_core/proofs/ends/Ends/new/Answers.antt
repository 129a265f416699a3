use Rattle.std.proofs.Common.{ap, ◌∙◌}
use Rattle.t1_core.specs.Doing.{EndOf}
use Rattle.t1_core.specs.TerminalSide.{Terminal, fresh}
use Rattle.t1_core.proofs.Carrying.{carried_at_first}
use Rattle.t1_core.proofs.ends.Ends.new.Goals as goal

pub returns-clause-led : goal.returns-clause-led
returns-clause-led g c settings passed is =
    carried_at_first g.C.Applet settings c.args.applet passed _
    (ap (λ (t : Terminal). record { terminal = t; card = c.new.result }) is
    ∙ ap (λ (e : EndOf g.row.C.Denot). record { terminal = fresh settings; card = e })
    c.new.ensures)
