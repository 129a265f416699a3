use Rattle.std.proofs.Common.{◌∙◌, sym, subst, ap}
use Rattle.std.specs.Option.{option_map}
use Rattle.std.proofs.lemmas.List.{with_items_is}
use Rattle.t0_core.specs.CardContract.{IsDecided}
use Rattle.object_card.specs.CardView.{CardView}
use Rattle.object_card.proofs.AnsweredLemmas.{handed_out, same_next}
use Rattle.object_card.proofs.card.ObjectCardTpduCard.answered.Goals as goal

pub invariant_of-self : goal.invariant_of-self
invariant_of-self g c =
    let is = with_items_is c.self.inside.applications c.store.new.applications
    (c.store.auto.applications ∙ c.deref_mut.ensures.len) in
    let decided = subst (λ (v : CardView). IsDecided v.prepared) (sym c.self.view_is) c.requires in
    (handed_out c.self.inside.applications.items c.deref_mut.result.now c.store.new.applications _
    c.self.inside.selected _ c.self.inside.chain _
    c.self.inside.response _ c.self.inside.ready _ _ _ c.self.invariant decided c.store.ensures
    c.deref_mut.ensures.value
    (ap (option_map (λ put. (put.tag, put.value.items))) c.take.ensures.value) is
    c.selected_after-self-inside.ensures c.settle.ensures
    c.response_after-self-inside.ensures
    (ap (option_map (λ put. (put.tag, put.value.items))) c.take.ensures.after)).0

pub returns-clause-stands : goal.returns-clause-stands
returns-clause-stands g c next next_is =
    let is = with_items_is c.self.inside.applications c.store.new.applications
    (c.store.auto.applications ∙ c.deref_mut.ensures.len) in
    let decided = subst (λ (v : CardView). IsDecided v.prepared) (sym c.self.view_is) c.requires in
    let all = handed_out c.self.inside.applications.items c.deref_mut.result.now
    c.store.new.applications _ c.self.inside.selected _ c.self.inside.chain _
    c.self.inside.response _ c.self.inside.ready _ _ _ c.self.invariant decided c.store.ensures
    c.deref_mut.ensures.value
    (ap (option_map (λ put. (put.tag, put.value.items))) c.take.ensures.value) is
    c.selected_after-self-inside.ensures c.settle.ensures
    c.response_after-self-inside.ensures
    (ap (option_map (λ put. (put.tag, put.value.items))) c.take.ensures.after) in
    same_next _ next (sym all.1 ∙ ap (λ (v : CardView). v.prepared) c.self.view_is ∙ next_is)
