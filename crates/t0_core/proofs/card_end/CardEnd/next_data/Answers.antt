use Rattle.t0_core.proofs.CardSendingLemmas.{one_skipped, skip_fits, skip_forgets, begun_phase}
use Rattle.t0_core.proofs.card_end.CardEnd.next_data.Goals as goal

pub skip_in-requires : goal.skip_in-requires
skip_in-requires g c =
    begun_phase (g.C.TpduCard.prepared c.self.inside.card) c.self.inside.phase c.self.invariant.0

pub returns : goal.returns
returns g c =
    one_skipped g.C.TpduCard c.self.inside.card c.self.inside.phase c.skip_in.new.phase
    c.self.inside.came c.in-Some.byte _ c.self.invariant.0 c.self.view_is c.skip_in.ensures
    (c.in-Some.ensures c.self.inside.came)

pub invariant_of-self : goal.invariant_of-self
invariant_of-self g c = (
  skip_fits (g.C.TpduCard.prepared c.self.inside.card) c.self.inside.phase c.skip_in.new.phase
      1 c.self.invariant.0 c.skip_in.ensures,
  c.self.invariant.1,
  skip_forgets c.self.inside.phase c.skip_in.new.phase c.self.inside.came 1
      c.self.invariant.2 c.skip_in.ensures,
)
