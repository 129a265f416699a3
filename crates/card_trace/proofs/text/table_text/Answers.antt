use Rattle.std.proofs.Common.{◌≡◌, map, rules}
use Rattle.card_trace.proofs.TableLemmas.{listed_at_start, listed_next, listed_all}
use Rattle.card_trace.proofs.text.table_text.Goals as goal

pub loop-aid-init : goal.loop-aid-init
loop-aid-init g c =
    let are : c.into_iter-aid-iterator.result ≡ map
    (λ a. a.aid) c.args.card.now.state.applications = search rules in (
      tt,
      tt,
      listed_at_start c.args.card.now.state.applications c.into_iter-aid-iterator.result
          c.new-text.result.items c.apps-aid-items.ensures.sound are c.new-text.ensures.items,
    )

pub loop-aid-preserved : goal.loop-aid-preserved
loop-aid-preserved g c = (
  tt,
  tt,
  listed_next c.args.card.now.state.applications c.in-Some.aid c.next.new.self
      c.loop-aid.aid-iterator c.loop-aid.text.items c.push_application.new.text.items
      c.loop-aid.invariant.2 c.in-Some.ensures.steps
      (λ entries is. c.in_ok-push_application.ensures entries is),
)

pub returns : goal.returns
returns g c = listed_all c.args.card.now.state.applications c.loop-aid.aid-iterator
    c.loop-aid.text.items c.loop-aid.invariant.2 c.in-None.ensures.steps.0
