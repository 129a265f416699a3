use Rattle.t0_core.proofs.CardSendingLemmas.{skip_steps, skip_all, skip_none, skip_fits, skip_forgets, begun_phase}
use Rattle.t0_core.proofs.card_end.CardEnd.skip_data.Goals as goal

pub skip_in-requires : goal.skip_in-requires
skip_in-requires g c =
    begun_phase (g.C.TpduCard.prepared c.self.inside.card) c.self.inside.phase c.self.invariant.0

pub returns-clause-some : goal.returns-clause-some
returns-clause-some g c = λ run due le.
    skip_steps g.C.TpduCard c.self.inside.card c.self.inside.phase c.skip_in.new.phase
    c.self.inside.came run c.args.count _ c.self.invariant.0 c.self.view_is c.skip_in.ensures due
    le

pub returns-clause-all : goal.returns-clause-all
returns-clause-all g c = λ run due len le.
    skip_all g.C.TpduCard c.self.inside.card c.self.inside.phase c.skip_in.new.phase
    c.self.inside.came run c.args.count _ c.self.invariant.0 c.self.view_is c.skip_in.ensures due
    len le

pub returns-clause-none : goal.returns-clause-none
returns-clause-none g c = λ none.
    skip_none c.self.inside.card c.self.inside.phase c.skip_in.new.phase c.self.inside.came
    c.args.count _ c.self.view_is c.skip_in.ensures none

pub invariant_of-self : goal.invariant_of-self
invariant_of-self g c = (
  skip_fits (g.C.TpduCard.prepared c.self.inside.card) c.self.inside.phase c.skip_in.new.phase
      c.args.count c.self.invariant.0 c.skip_in.ensures,
  c.self.invariant.1,
  skip_forgets c.self.inside.phase c.skip_in.new.phase c.self.inside.came c.args.count
      c.self.invariant.2 c.skip_in.ensures,
)
