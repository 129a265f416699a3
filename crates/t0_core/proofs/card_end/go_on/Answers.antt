use Rattle.std.proofs.Common.{sym, subst, ◌∙◌, Option}
use Rattle.apdu_core.specs.StatusWord.{StatusWord}
use Rattle.t0_core.specs.CardView.{phase_after, stage_of}
use Rattle.t0_core.specs.CardSide.{Advances}
use Rattle.t0_core.proofs.CardLemmas.{refusal_advances, service_advances}
use Rattle.t0_core.proofs.card_end.go_on.Goals as goal

pub returns-in-Refused-clause-advances : goal.returns-in-Refused-clause-advances
returns-in-Refused-clause-advances g c = λ cut plan front steps stands.
    let card = g.C.TpduCard in
    refusal_advances card.Does (card.standing c.args.card.now) (card.prepared c.args.card.now) cut
    plan c.args.phase.now c.refuse-next.result.0 c.args.came.now
    c.in-Refused.header c.in-Refused.p3 c.in-Refused.status c.in-Refused.done
    c.refuse-next.result.1 front c.steps.result.now c.in-Refused.is
    (steps ∙ sym c.steps.ensures) c.refuse-next.ensures
    stands

pub returns-in-Some-clause-advances : goal.returns-in-Some-clause-advances
returns-in-Some-clause-advances g c = λ cut plan front steps stands.
    let card = g.C.TpduCard in
    let served = c.serve-byte in
    let came = c.args.came.now in
    let old = card.standing c.args.card.now in
    let stage : Option StatusWord → _ =
    λ status. stage_of (phase_after served.new.service status) came in
    let Goes : Option StatusWord → Type 0 =
    λ status. Advances card.Does cut plan (stage_of c.args.phase.now came) front served.result.0 old
    (card.standing served.new.card) (card.prepared served.new.card) (stage status) in
    subst Goes c.in-Some.is
    (service_advances card.Does old (card.standing served.new.card)
    (card.prepared c.args.card.now) (card.prepared served.new.card) cut plan c.args.phase.now
    (stage served.result.1) came c.in-Accepted.service served.result.0 front c.in-Accepted.is
    (λ b serves. served.ensures.advances cut plan b steps serves) stands)

pub returns-in_default-status-clause-advances : goal.returns-in_default-status-clause-advances
returns-in_default-status-clause-advances g c = λ cut plan front steps stands.
    let card = g.C.TpduCard in
    let served = c.serve-byte in
    let came = c.args.came.now in
    let old = card.standing c.args.card.now in
    let stage : Option StatusWord → _ =
    λ status. stage_of (phase_after served.new.service status) came in
    let Goes : Option StatusWord → Type 0 =
    λ status. Advances card.Does cut plan (stage_of c.args.phase.now came) front served.result.0 old
    (card.standing served.new.card) (card.prepared served.new.card) (stage status) in
    subst Goes c.in_default-status.is
    (service_advances card.Does old (card.standing served.new.card)
    (card.prepared c.args.card.now) (card.prepared served.new.card) cut plan c.args.phase.now
    (stage served.result.1) came c.in-Accepted.service served.result.0 front c.in-Accepted.is
    (λ b serves. served.ensures.advances cut plan b steps serves) stands)
