use Rattle.std.proofs.Common.{◌≡◌, [], refl, sym, subst}
use Rattle.card_trace.specs.Playing.{IsAt}
use Rattle.card_trace.specs.Script.{State, Building, Builds, DoesMeaning}
use Rattle.card_trace.proofs.player.add.Goals as goal

pub returns-clause-added : goal.returns-clause-added
returns-clause-added g c = λ state stands.
    let r = g.R.Runner in
    let here : state ≡ Building (r.table_of c.in-Building.table) =
    subst (λ p. IsAt r.script r.table_of r.StandsFor p state) c.in-Building.is stands in
    let after : State r.script = Building (r.table_of c.add.new.table) in (
      after,
      refl,
      subst (λ x. DoesMeaning r.script x (Builds (r.part_of c.args.part)) [] after) (sym here)
          (refl, r.table_of c.add.new.table, c.in_ok-add-in-Building.ensures.added, refl),
    )
