use Rattle.std.proofs.Common.{rules, refl, subst, sym, ℤ, Option, w32, to_z, of_z}
use Rattle.t1_core.specs.declared.card.Reply.{Reply}
use Rattle.card_c.specs.OwnT1.{SendsOwnOf, SendsWaiting}
use Rattle.card_c.proofs.CodeLemmas.{as_it_is}
use Rattle.card_c.proofs.OwnT1Lemmas.{no_reply}
use Rattle.card_c.proofs.own_t1.send_own.Goals as goal

pub returns-in_default : goal.returns-in_default
returns-in_default c =
    let mid = c.take_again.new.at in let code = c.wait_code.result in
    let new = c.wait_code.new.at in let room = c.args.bytes.now in let n = c.args.count.now in
    let told : ℤ = to_z w32 (of_z w32 code) in (
      mid,
      c.take_again.ensures,
      subst (λ (o : Option Reply). SendsOwnOf o room n room n mid told new)
          (sym (no_reply mid.reply (λ r is. c.in_default.not-Some r is))) (
            refl,
            refl,
            subst (λ (z : ℤ). SendsWaiting mid z new)
                (sym (as_it_is code c.wait_code.type_inv)) c.wait_code.ensures,
          ),
    )

pub returns : goal.returns
returns c =
    let mid = c.take_again.new.at in let room = c.args.bytes.now in let n = c.args.count.now in
    let told : ℤ = to_z w32 (of_z w32 c.block_copied.result) in (
      mid,
      c.take_again.ensures,
      subst (λ (o : Option Reply).
          SendsOwnOf o room n c.block_copied.new.to c.block_copied.new.len mid told mid)
          (sym c.in-Some.is) (refl, search rules, search rules),
    )
