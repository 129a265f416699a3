use Rattle.std.proofs.Common.{◌≡◌, ◌≤◌, ℕ, ℤ, [], length, sym, subst, ◌∙◌, ap, inr, refl, arith}
use Rattle.t0_core.specs.Room.{Room}
use Rattle.t0_core.specs.TpduBytes.{asked_of}
use Rattle.command_card.specs.Wanted.{wanted_by}
use Rattle.card_c.specs.declared.own_whole.Went.TheVariants.{Over}
use Rattle.card_c.specs.OwnCalls.{OwnCard, own_card, wait_code}
use Rattle.card_c.specs.OwnWhole.{TriesTpdu}
use Rattle.card_c.specs.WholeCalls.{IsCarriedOut, data_room, longest_answer}
use Rattle.card_c.proofs.CodeLemmas.{as_it_is}
use Rattle.card_c.proofs.own_whole.try_tpdu.Goals as goal

pub returns-in-Ok : goal.returns-in-Ok
returns-in-Ok c =
    let a = c.args in let new = c.pass.new in let asked = asked_of c.in-Some.asked in
    let enough : longest_answer asked ≤ length a.answer.now =
    omega (arith, c.if-answer-may_come.false, c.from-may_come.ensures) in
    let room_is : c.in-Ok.gather ≡ data_room asked = c.in-Ok.ensures
    ∙ ap (λ (n : ℕ). record { bytes = []; limit = n }) c.from-may_come.ensures in
    let carried = subst (λ (r : Room). IsCarriedOut own_card a.tpdu.now a.end.now a.plans.now r
    a.answer.now a.len.now c.pass.result new.end new.plans new.answer new.len) room_is
    c.pass.ensures in
    subst (λ (z : ℤ). TriesTpdu a.tpdu.now a.answer.now a.len.now new.answer new.len
    (a.end.now, a.plans.now) (Over z) (new.end, new.plans))
    (sym (as_it_is c.pass.result c.pass.type_inv))
    (inr (inr (
      c.pass.result,
      asked,
      sym c.if-not-is_at_rest.ensures,
      sym c.in-Some.ensures,
      enough,
      ap (λ (k : OwnCard). wait_code (wanted_by k asked.header asked.p3 asked.content))
          (sym c.card.ensures) ∙ ap wait_code c.in-Nothing.ensures,
      refl,
      carried,
    )))
