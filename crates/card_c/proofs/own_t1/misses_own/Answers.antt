use Rattle.std.proofs.Common.{◌≡◌, ap, refl, if◌then◌else◌}
use Rattle.t1_core.specs.declared.pcb.BlockReason.{BlockReason}
use Rattle.t1_core.specs.declared.pcb.BlockReason.TheVariants as reason
use Rattle.t1_core.specs.Patience.{Misses}
use Rattle.card_c.proofs.OwnT1Lemmas.{missed, replied}
use Rattle.card_c.proofs.own_t1.misses_own.Goals as goal
use Rattle.card_c.proofs.own_t1.misses_own.Goals.{then-is_damaged, else-is_damaged}

pub returns : goal.returns
returns c =
    let mid = c.drop_given.new.at in let joined = c.if-is_damaged.at in
    let answer = c.if-is_damaged.answer in
    let why : BlockReason = if c.args.is_damaged then reason.Edc else reason.Other in
    let (joined_is, misses) : (joined ≡ record mid { end = joined.end })
    × Misses why mid.end answer joined.end = elim c.if-is_damaged.branch [
      | then-is_damaged w ↦ missed why reason.Edc mid joined answer w.damaged-answer.result
          w.damaged-answer.new.self w.at-is w.answer-is
          (ap (λ v. if v then reason.Edc else reason.Other) w.if-is_damaged.true)
          w.damaged-answer.ensures
      | else-is_damaged w ↦ missed why reason.Other mid joined answer w.invalid-answer.result
          w.invalid-answer.new.self w.at-is w.answer-is
          (ap (λ v. if v then reason.Edc else reason.Other) w.if-is_damaged.false)
          w.invalid-answer.ensures
    ] in (
      mid,
      c.drop_given.ensures,
      answer,
      refl,
      replied mid joined answer c.clear.new.self joined_is c.clear.ensures,
      misses,
    )
