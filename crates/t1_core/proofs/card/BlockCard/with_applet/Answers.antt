use Rattle.std.proofs.Common.{◌≡◌, refl, ap}
use Rattle.t1_core.specs.Doing.{EndOf}
use Rattle.t1_core.proofs.card.BlockCard.with_applet.Goals as goal

pub returns-clause-lent : goal.returns-clause-lent
returns-clause-lent g c =
    let lent : c.self.inside.applet ≡ c.args.self.now.card =
    ap (λ (e : EndOf g.row.C.Denot). e.card) c.self.view_is in
    record { shown = _; shows = lent; left = _; met = c.f.ensures; leaves = refl }
