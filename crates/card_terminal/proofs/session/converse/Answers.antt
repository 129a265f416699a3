use Rattle.std.proofs.Common.{◌≡◌, true, false, inl}
use Rattle.std.proofs.lemmas.Result.{err_from_is_err_and}
use Rattle.card_terminal.specs.Line.{line, begun}
use Rattle.card_terminal.proofs.SessionLemmas.{begins, smaller, still_on, over_at_end}
use Rattle.card_terminal.proofs.session.converse.Goals as goal

pub talk-init : goal.talk-init
talk-init g c = λ command way.
    let was = line c.args.exchange.now c.args.end.now c.args.plans.now
    (g.W.Watch.hearing c.args.watch.now) in (
      inl (begins g.C.TpduCard command was c.requires.rests way),
      λ ends. let e : true ≡ false = ends in absurd (cc),
    )

pub pass_characters-requires : goal.pass_characters-requires
pass_characters-requires g c =
    let was = line c.args.exchange.now c.args.end.now c.args.plans.now
    (g.W.Watch.hearing c.args.watch.now) in
    let (command, way) = c.requires.begun in
    (begun g.C.TpduCard command was, (c.talk.invariant command way).0)

pub talk-smaller : goal.talk-smaller
talk-smaller g c =
    let hearing = g.W.Watch.hearing in
    let (command, way) = c.requires.begun in
    let was = line c.args.exchange.now c.args.end.now c.args.plans.now (hearing c.args.watch.now) in
    let old = line c.talk.exchange c.talk.end c.talk.plans (hearing c.talk.watch) in
    let new = line c.pass_characters.new.exchange c.pass_characters.new.end
    c.pass_characters.new.plans (hearing c.pass_characters.new.watch) in
    let s = begun g.C.TpduCard command was in
    rw c.talk-test.true (smaller g.C.TpduCard s old new c.in_ok-going.going
    (c.in_ok-going.ensures s (c.talk.invariant command way).0))

pub talk-preserved : goal.talk-preserved
talk-preserved g c = λ command way.
    let hearing = g.W.Watch.hearing in
    let was = line c.args.exchange.now c.args.end.now c.args.plans.now (hearing c.args.watch.now) in
    let old = line c.talk.exchange c.talk.end c.talk.plans (hearing c.talk.watch) in
    let new = line c.pass_characters.new.exchange c.pass_characters.new.end
    c.pass_characters.new.plans (hearing c.pass_characters.new.watch) in
    let s = begun g.C.TpduCard command was in
    let passed = c.in_ok-going.ensures s (c.talk.invariant command way).0 in (
      still_on g.C.TpduCard s old new c.in_ok-going.going passed,
      over_at_end g.C.TpduCard s old new c.in_ok-going.going passed,
    )

pub returns : goal.returns
returns g c = λ command way. (c.talk.invariant command way).1 c.talk-test.false

pub returns-in_err-going : goal.returns-in_err-going
returns-in_err-going g c = λ command way.
    let was = line c.args.exchange.now c.args.end.now c.args.plans.now
    (g.W.Watch.hearing c.args.watch.now) in
    let p = err_from_is_err_and c.from_residual.result c.from_residual.ensures.1 in
    rw (p.1, p.2) (c.in_err-going.ensures (begun g.C.TpduCard command was)
    (c.talk.invariant command way).0)
