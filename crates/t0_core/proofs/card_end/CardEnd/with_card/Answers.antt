use Rattle.std.proofs.Common.{rules, ◌≡◌, refl, ap}
use Rattle.std.specs.Fn.{FnOnceReturnsAtMut}
use Rattle.t0_core.specs.CardSide.{EndOf}
use Rattle.t0_core.proofs.card_end.CardEnd.with_card.Goals as goal

pub returns-clause-card : goal.returns-clause-card
returns-clause-card g c =
    let lent : c.self.inside.card ≡ c.args.self.now.card =
    ap (λ (e : EndOf g.row.C.Denot). e.card) c.self.view_is in
    record { shown = _; shows = lent; left = _; met = c.f.ensures; leaves = refl }

pub invariant_of-self : goal.invariant_of-self
invariant_of-self g c =
    let lent : c.self.inside.card ≡ c.args.self.now.card =
    ap (λ (e : EndOf g.row.C.Denot). e.card) c.self.view_is in
    let gave : FnOnceReturnsAtMut g.F.FnOnce c.args.f c.args.self.now.card c.f.result
    c.f.new.arg2 =
    record { shown = _; shows = lent; left = _; met = c.f.ensures; leaves = refl } in
    let kept = c.requires.keeps c.f.result c.f.new.arg2 gave in search rules
