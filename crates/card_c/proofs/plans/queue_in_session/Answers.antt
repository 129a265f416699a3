use Rattle.std.proofs.Common.{◌≡◌, ◌<◌, ℤ, ℕ, length, refl, sym, subst, inl, inr, rules}
use Rattle.card_c.specs.declared.card_side.CardSide.{CardSide}
use Rattle.card_c.specs.declared.card_side.CardSide.TheVariants.{Joined}
use Rattle.card_c.specs.Codes.{gt_ok, gt_memory}
use Rattle.card_c.specs.PlanCalls.{QueuesInSession}
use Rattle.card_c.specs.PlanLetters.{IsRefused, plan_limit}
use Rattle.card_c.proofs.PlanLemmas.{refused_code}
use Rattle.card_c.proofs.plans.queue_in_session.Goals as goal

pub returns-in-Err : goal.returns-in-Err
returns-in-Err c =
    let code = c.in-Err.refusal in
    let joined = c.in-Joined.joined in
    let count : c.len.result ≡ length joined.plans.items = search rules in
    let refused = subst (λ (n : ℕ). IsRefused c.args.steps.now c.args.cut n code) count
    c.in-Err.ensures.refused in
    subst (λ (z : ℤ). QueuesInSession c.args.steps.now c.args.cut c.args.side.now z (Joined joined))
    (sym (refused_code c.args.steps.now c.args.cut c.len.result code c.in-Err.ensures.refused))
    (subst (λ (s : CardSide). QueuesInSession c.args.steps.now c.args.cut s code (Joined joined))
    (sym c.in-Joined.is) (
      joined,
      refl,
      record { session_is = refl; answer_is = refl; listens_is = refl; heard_is = refl },
      inr
          (refused, refl),
    ))

pub returns-in-Ok-queue : goal.returns-in-Ok-queue
returns-in-Ok-queue c =
    let next = c.queue.new.joined in let joined = c.in-Joined.joined in
    let count : c.len.result ≡ length joined.plans.items = search rules in
    let fits = subst (λ (n : ℕ). n < plan_limit) count c.in-Ok.ensures.fits in
    subst (λ (s : CardSide). QueuesInSession c.args.steps.now c.args.cut s gt_ok (Joined next))
    (sym c.in-Joined.is) (
      next,
      refl,
      c.queue.ensures.others,
      inl (c.in-Ok.plan, c.in-Ok.ensures.spelt, fits, refl, c.in-Ok-queue.ensures.ok),
    )

pub returns-in-Err-queue : goal.returns-in-Err-queue
returns-in-Err-queue c =
    let next = c.queue.new.joined in let joined = c.in-Joined.joined in
    let count : c.len.result ≡ length joined.plans.items = search rules in
    let fits = subst (λ (n : ℕ). n < plan_limit) count c.in-Ok.ensures.fits in
    subst (λ (s : CardSide). QueuesInSession c.args.steps.now c.args.cut s gt_memory (Joined next))
    (sym c.in-Joined.is) (
      next,
      refl,
      c.queue.ensures.others,
      inr (
        inr (inr (c.in-Ok.plan, c.in-Ok.ensures.spelt, fits, refl)),
        c.in-Err-queue.ensures.stays,
      ),
    )
