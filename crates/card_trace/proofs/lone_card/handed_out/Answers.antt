use Rattle.std.proofs.Common.{◌≡◌, length, rules}
use Rattle.t0_core.specs.declared.end.End.TheVariants.{Card}
use Rattle.card_trace.proofs.CardLemmas.{lead_one_more, lead_same, within_by_one, enough_handed}
use Rattle.card_trace.proofs.lone_card.handed_out.Goals as goal

pub turns-preserved : goal.turns-preserved
turns-preserved g c = let count : c.len.result ≡ length c.turns.characters.items = search rules in
    record {
      led = lead_one_more Card (c.args.end.now, c.args.plans.now) (c.turns.end, c.turns.plans)
          (c.next_of.new.end, c.next_of.new.plans) c.turns.characters.items c.push.new.self.items
          c.in-Some.byte c.in_ok-push-in-Some.ensures.items c.turns.invariant.led
          c.in-Some.ensures.led;
      within = within_by_one c.args.most c.len.result c.turns.characters.items c.push.new.self.items
          c.in-Some.byte
          c.wants_more.result c.turns-test.true count c.in_ok-push-in-Some.ensures.items
          c.wants_more.ensures.some;
    }

pub returns-clause-enough : goal.returns-clause-enough
returns-clause-enough g c =
    let count : c.len.result ≡ length c.turns.characters.items = search rules in
    enough_handed c.args.most c.len.result c.turns.characters.items c.turns.end.stage
    c.wants_more.result c.turns-test.false
    count c.wants_more.ensures.none c.wants_more.ensures.some c.turns.invariant.within

pub returns-in-None-clause-led : goal.returns-in-None-clause-led
returns-in-None-clause-led g c =
    lead_same _ _ c.turns.end c.next_of.new.end c.turns.plans c.next_of.new.plans
    c.in-None.ensures.led.1 c.in-None.ensures.led.2 c.turns.invariant.led
