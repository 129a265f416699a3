-- The parts fit, or one of the reasons holds.
use Rattle.std.proofs.Common.{◌≡◌, ◌<◌, length, None, rules, ap, ◌∙◌, subst}
use Rattle.atr_core.specs.Answer.{Answer, AreInOrder, IsAnswer}
use Rattle.atr_core.proofs.Writing.{parts, made, too_long, too_many}
use Rattle.atr_core.proofs.answer.Atr.new.Goals as goal

pub returns-then-is_err-2 : goal.returns-then-is_err-2
returns-then-is_err-2 c =
    let few : length c.args.historical.now < 16 = search rules in
    let order : AreInOrder None c.args.others.now = search rules in
    let many : 31 < length c.args.others.now = search rules in (
      few,
      order,
      too_many (parts c.args.convention c.args.first c.args.others.now
          c.args.historical.now) many,
    )

pub returns-then-size-gt-LONGEST : goal.returns-then-size-gt-LONGEST
returns-then-size-gt-LONGEST c =
    let few : length c.args.historical.now < 16 = search rules in
    let order : AreInOrder None c.args.others.now = search rules in (
      few,
      order,
      too_long (parts c.args.convention c.args.first c.args.others.now
          c.args.historical.now) _ c.size.ensures c.if-size-gt-LONGEST.true,
    )

pub invariant_of-result : goal.invariant_of-result
invariant_of-result c =
    let few : length c.args.historical.now < 16 = search rules in
    let order : AreInOrder None c.args.others.now = search rules in
    let kept : c.args.historical.now ≡ c.try_extend_from_slice.new.self.items = search rules in
    let groups : c.args.others.now ≡ c.try_extend_from_slice-2.new.self.items = search rules in
    let P : Answer → Type 0 = IsAnswer in
    subst P (ap (λ x. parts c.args.convention c.args.first c.args.others.now x) kept
    ∙ ap (λ x. parts c.args.convention c.args.first x
    c.try_extend_from_slice.new.self.items) groups)
    (made (parts c.args.convention c.args.first c.args.others.now c.args.historical.now) _ few order
    c.size.ensures c.if-size-gt-LONGEST.false)

pub returns : goal.returns
returns c =
    let few : length c.args.historical.now < 16 = search rules in
    let order : AreInOrder None c.args.others.now = search rules in
    let kept : c.try_extend_from_slice.new.self.items ≡ c.args.historical.now = search rules in
    let groups : c.try_extend_from_slice-2.new.self.items ≡ c.args.others.now = search rules in (
      ap (λ x. parts c.args.convention c.args.first c.try_extend_from_slice-2.new.self.items x)
          kept
          ∙ ap (λ x. parts c.args.convention c.args.first x c.args.historical.now) groups,
      made (parts c.args.convention c.args.first c.args.others.now c.args.historical.now) _ few
          order c.size.ensures c.if-size-gt-LONGEST.false,
    )
