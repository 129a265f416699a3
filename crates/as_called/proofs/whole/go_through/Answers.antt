use Rattle.std.proofs.Common.{◌∙◌, sym, subst}
use Rattle.t1_core.specs.declared.terminal.Fault.{Fault}
use Rattle.as_called.specs.Sending.{HasStopped}
use Rattle.as_called.proofs.Stands.{ended, next_stands, stops_after, stops_at}
use Rattle.as_called.proofs.whole.go_through.Goals as goal

pub returns-in-Err : goal.returns-in-Err
returns-in-Err g c = λ command begun.
    subst (λ (f : Fault). HasStopped g.A.Application (g.K.Link.card c.args.link.now) command
    f.outcome (g.K.Link.card c.carry.new.self)) (sym c.of_all.ensures)
    (stops_at g.A.Application c.talk.is_first _ _ _ command c.in-Some.due c.talk.exchange
    c.in-Err.fault (sym c.in-Some.ensures) (c.talk.invariant.1 command begun)
    c.in-Err.ensures.carried)

pub returns-in_default-parts : goal.returns-in_default-parts
returns-in_default-parts g c = λ command begun.
    stops_after g.A.Application c.talk.is_first _ _ _ command c.in-Some.due c.talk.exchange _
    (sym c.in-Some.ensures) (c.talk.invariant.1 command begun) c.in-Ok.ensures.carried.0

pub returns-in-Err-responded : goal.returns-in-Err-responded
returns-in-Err-responded g c = λ command begun.
    stops_after g.A.Application c.talk.is_first _ _ _ command c.in-Some.due c.talk.exchange _
    (sym c.in-Some.ensures) (c.talk.invariant.1 command begun) c.in-Ok.ensures.carried.0

pub talk-preserved : goal.talk-preserved
talk-preserved g c = (
  c.in-Ok.ensures.carried.1,
  λ command begun.
      next_stands g.A.Application c.talk.is_first _ _ _ command c.in-Some.due c.talk.exchange
      c.responded.new.self _ _ _ (sym c.in-Some.ensures) c.in-Ok.ensures.tidy
      (sym c.response.ensures ∙ c.in-Some-parts.ensures)
      (λ pairs led. c.in-Ok-responded.ensures.responding.led command _ pairs led)
      c.in-Ok-responded.ensures.taken (c.talk.invariant.1 command begun)
      c.in-Ok.ensures.carried.0,
)

pub returns : goal.returns
returns g c = λ command begun. (
  ended g.A.Application c.talk.is_first _ _ command c.talk.exchange
      (sym c.apdu.ensures ∙ c.in_default.is) (c.talk.invariant.1 command begun),
  c.talk.invariant.0,
)
