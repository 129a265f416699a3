use Rattle.std.proofs.Common.{sym, ap, ◌∙◌, subst, inl, inr, Some}
use Rattle.t0_core.specs.Dialogue.{Dialogue}
use Rattle.t0_core.specs.HostSide.{Hosting}
use Rattle.t0_core.specs.HostAnswer.{answer_fault, Gives}
use Rattle.t0_core.specs.AnswerLaws.{answer_suits, answer_is_given}
use Rattle.t0_core.proofs.host_end.HostEnd.take_up_to_sw2.Goals as goal

pub returns-in-Err-clause-stands : goal.returns-in-Err-clause-stands
returns-in-Err-clause-stands g c = λ d gives.
    answer_suits c.args.self.now c.args.gather.now c.args.bytes.now c.args.status d c.in-Err.fault
    gives
    (ap (λ (h : Hosting). answer_fault h c.args.gather.now c.args.bytes.now) (sym c.self.view_is)
    ∙ sym c.in-Err.ensures.fault)

pub returns-in-Ok-clause-given : goal.returns-in-Ok-clause-given
returns-in-Ok-clause-given g c =
    let P : Hosting → Type 0 = λ h. (d : Dialogue) × Gives h d c.args.bytes.now c.args.status in
    subst P c.self.view_is
    (answer_is_given _ c.args.gather.now c.args.bytes.now c.args.status c.self.invariant.0
    c.sw1-sw1.ensures.status (inl (sym c.in-Ok.ensures.fault)))

pub returns-in-Err-clause-given : goal.returns-in-Err-clause-given
returns-in-Err-clause-given g c = λ long.
    let P : Hosting → Type 0 = λ h. (d : Dialogue) × Gives h d c.args.bytes.now c.args.status in
    subst P c.self.view_is
    (answer_is_given _ c.args.gather.now c.args.bytes.now c.args.status c.self.invariant.0
    c.sw1-sw1.ensures.status (inr (sym c.in-Err.ensures.fault ∙ ap Some long)))
