use Rattle.std.proofs.Common.{sym, ap, ◌∙◌}
use Rattle.t1_core.specs.TerminalSide.{begins}
use Rattle.t1_core.proofs.Carrying.{received}
use Rattle.t1_core.proofs.Endless.{fewer_left}
use Rattle.t1_core.proofs.OneCommandLemmas.{added_begins, added_next, one_done}
use Rattle.t1_core.proofs.ends.Ends.carry.Goals as goal

pub exchanges-init : goal.exchanges-init
exchanges-init g c = λ past h.
    added_begins g.C.Applet past _ c.args.self.now
    (record { terminal = c.begin.new.self; card = c.self.inside.card }) c.args.command.now h
    c.requires.ready
    (ap (λ t. record { terminal = t; card = c.self.inside.card }) c.in-Ok.ensures.begun.1
    ∙ ap (λ e. record { terminal = begins c.args.command.now e.terminal; card = e.card })
    c.self.view_is)

pub exchanges-smaller : goal.exchanges-smaller
exchanges-smaller g c =
    let e = c.exchanges.self-inside in
    let moving = sym c.has_stopped.ensures ∙ c.exchanges-test.true in
    let h = (c.exchanges.invariant c.requires.led.0 c.requires.led.1).carried in
    fewer_left e.terminal c.pass.new.terminal moving
    (received g.C.Applet c.pass.result (record { terminal = e.terminal; card = e.card })
    (record { terminal = c.pass.new.terminal; card = c.pass.new.card }) h.sent h.keeping moving
    h.sized
    c.pass.ensures.passes).1

pub exchanges-preserved : goal.exchanges-preserved
exchanges-preserved g c = λ past h.
    let e = c.exchanges.self-inside in
    added_next g.C.Applet past c.args.command.now _ _ _ c.next-fates.result c.pass.result _
    (record { terminal = e.terminal; card = e.card })
    (record { terminal = c.pass.new.terminal; card = c.pass.new.card }) h
    (c.exchanges.invariant past h) (sym c.has_stopped.ensures ∙ c.exchanges-test.true)
    c.next-fates.ensures c.pass.ensures.heard c.pass.ensures.passes

pub returns-clause-led : goal.returns-clause-led
returns-clause-led g c = λ past h. (c.exchanges.invariant past h).carried

pub returns-clause-done : goal.returns-clause-done
returns-clause-done g c =
    let e = c.exchanges.self-inside in
    one_done g.C.Applet c.requires.led.0 c.args.command.now _ _ c.args.self.now
    (record { terminal = e.terminal; card = e.card }) c.requires.led.1 c.requires.ready
    (c.exchanges.invariant c.requires.led.0 c.requires.led.1)
    (sym c.has_stopped.ensures ∙ c.exchanges-test.false)
