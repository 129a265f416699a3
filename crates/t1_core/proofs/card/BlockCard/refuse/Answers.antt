use Rattle.std.proofs.Common.{ℕ, List, ◌+◌, ◌<◌, ◌≤◌, length, subst, replicate, arith, take, drop}
use Rattle.std.proofs.lemmas.List.{length-replicate}
use Rattle.std.proofs.lemmas.List.{take-append-drop}
use Rattle.t1_core.specs.Doing.{HasRefused}
use Rattle.t1_core.proofs.CardSteps.{carried_over, on_err}
use Rattle.t1_core.proofs.card.BlockCard.refuse.Goals as goal

pub returns-clause-turn : goal.returns-clause-turn
returns-clause-turn g c =
    let s = c.self.inside in
    let r = c.too_long.new.response in
    λ f more.
    carried_over g.C.Applet _ c.args.self.now c.respond.new.self c.self.view_is
    c.too_long.new.self (take s.cut r.items) (drop s.cut r.items) c.respond.result r.items
    c.in_ok-left.left (omega (arith, r.small, r.ok.0, r.ok.1)) (take-append-drop s.cut r.items)
    c.respond.ensures f more c.in_ok-left.ensures.does

pub returns-in_err-left-clause-refused : goal.returns-in_err-left-clause-refused
returns-in_err-left-clause-refused g c =
    let n = length-replicate {A = ℕ} (g.C.Applet.LIMIT + 1) 0 in
    let command : List ℕ = replicate (g.C.Applet.LIMIT + 1) 0 in
    let refused : HasRefused g.C.Applet c.args.self.now = (
      command,
      subst (λ e. g.C.Applet.Refuses (g.C.Applet.standing e.card) command) c.self.view_is
          (c.in_err-left.ensures.does.2 command (omega (arith, n))),
    ) in
    on_err _ refused
