use Rattle.std.proofs.Common.{sym, ◌≡◌, None, Some, ◌∙◌, ap}
use Rattle.t0_core.specs.declared.tap_fault.TapFault.TheVariants.{OutOfTurn}
use Rattle.t0_core.specs.TapSide.{may_come_from, tap_fault_at}
use Rattle.t0_core.specs.TapView.{place_of}
use Rattle.t0_core.proofs.TapLemmas.{HearsOne, hears_none, hears_all, hears_of_one, hears_led, place_in_range, out_of_turn, in_turn}
use Rattle.t0_core.proofs.TapTurns.{reason, leaves_no_trace}
use Rattle.t0_core.proofs.tap.Tap.hear.Goals as goal

-- the other end sends next
refused_is : (c : goal.Then-not-may_come_from)
    → tap_fault_at (place_of c.self.inside.stage) c.args.from c.args.byte ≡ Some OutOfTurn
refused_is c = out_of_turn (place_of c.self.inside.stage) c.args.from c.args.byte
    (ap (λ x. may_come_from x c.args.from) (sym c.due_at.ensures) ∙ sym c.may_come_from.ensures
    ∙ c.if-not-may_come_from.true)

pub returns-then-not-may_come_from-clause-goes_on :
    goal.returns-then-not-may_come_from-clause-goes_on
returns-then-not-may_come_from-clause-goes_on c = λ front new stands goes read.
    absurd (hears_none _ _ c.args.from c.args.byte OutOfTurn c.self.view_is
    (place_in_range c.self.inside.stage c.self.invariant) (refused_is c) front new stands goes
    read)

pub returns-then-not-may_come_from-clause-reason :
    goal.returns-then-not-may_come_from-clause-reason
returns-then-not-may_come_from-clause-reason c =
    reason _ _ c.args.from c.args.byte OutOfTurn c.self.view_is (refused_is c)

-- what the tap does with the character
hears_it : (c : goal.After-stage-2-1)
    → HearsOne (place_of c.self.inside.stage) c.args.self.now c.args.from c.args.byte
    c.in_ok-stage.heard (place_of c.in_ok-stage.stage)
hears_it c = record {
  seen_is = c.self.view_is;
  range = place_in_range c.self.inside.stage c.self.invariant;
  small = c.ranges.byte.fits;
  none = in_turn (place_of c.self.inside.stage) c.args.from c.args.byte None
      (ap (λ x. may_come_from x c.args.from) (sym c.due_at.ensures) ∙ sym c.may_come_from.ensures
      ∙ c.if-not-may_come_from.false) (sym c.in_ok-stage.ensures.fault);
  heard_is = c.in_ok-stage.ensures.taken.1;
  next_is = c.in_ok-stage.ensures.taken.0;
}

pub returns-clause-goes_on : goal.returns-clause-goes_on
returns-clause-goes_on c = hears_all _ _ _ _ _ _ (hears_it c)

pub returns-clause-came : goal.returns-clause-came
returns-clause-came c = hears_of_one _ _ _ _ _ _ (hears_it c)

pub returns-clause-led : goal.returns-clause-led
returns-clause-led c = hears_led _ _ _ _ _ _ (hears_it c)

pub returns-clause-forgets : goal.returns-clause-forgets
returns-clause-forgets c = leaves_no_trace _ _ _ _ _ _ (hears_it c)
