use Rattle.std.proofs.Common.{sym, ap, ◌∙◌}
use Rattle.t1_core.specs.Hearing.{Ear}
use Rattle.t1_core.proofs.HearingFacts.{all_next, none_more}
use Rattle.t1_core.proofs.tap.Tap.hear_run.Goals as goal

pub returns-then-self-clause-heard : goal.returns-then-self-clause-heard
returns-then-self-clause-heard c =
    all_next c.args.self.now c.loop-at.self c.hear.new.self c.args.from c.args.bytes.now
    c.loop-at.at c.loop-at-test.true c.loop-at.invariant.0 c.hear.ensures.heard

pub loop-at-preserved : goal.loop-at-preserved
loop-at-preserved c =
    let e = c.args.self.now in
    let now = c.hear.new.self in
    let heard = all_next e c.loop-at.self now c.args.from c.args.bytes.now c.loop-at.at
    c.loop-at-test.true c.loop-at.invariant.0 c.hear.ensures.heard in (
      heard,
      none_more e now c.args.from c.args.bytes.now c.loop-at.at heard
          (ap (λ (x : Ear). x.ended) (sym c.self.view_is) ∙ c.if-self.false)
          c.loop-at.invariant.1,
    )
