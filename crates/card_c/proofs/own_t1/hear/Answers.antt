use Rattle.std.proofs.Common.{◌≡◌, None, ap, refl, subst}
use Rattle.t1_core.specs.BlockBytes.{arrival_of}
use Rattle.t1_core.specs.Doing.{IsDue}
use Rattle.t1_core.specs.Patience.{Hears}
use Rattle.card_c.specs.declared.own_side.OwnT1Side.{OwnT1Side}
use Rattle.card_c.specs.OwnT1.{own_applet}
use Rattle.card_c.proofs.own_t1.hear.Goals as goal

pub returns : goal.returns
returns c =
    let mid = c.drop_given.new.at in
    let (end, is_end, mid_is, empty) = c.drop_given.ensures in (
      mid,
      c.drop_given.ensures,
      c.take-at.ensures.emptied,
      refl,
      subst (λ b. Hears own_applet b mid.end c.take-at.result c.take-at.new.self)
          (ap (λ (a : OwnT1Side). a.block) mid_is) c.take-at.ensures.hears,
      subst (λ b. mid.end.asked ≡ None → c.take-at.result ≡ None → IsDue (arrival_of b) mid.end.end)
          (ap (λ (a : OwnT1Side). a.block) mid_is) c.take-at.ensures.memory,
    )
