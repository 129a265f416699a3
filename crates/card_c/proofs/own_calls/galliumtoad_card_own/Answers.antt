use Rattle.std.proofs.Common.{rules, ◌≡◌, ◌∙◌, ap, None, Option, Some, refl, subst, sym, inl, inr}
use Rattle.command_card.specs.declared.given.Directions.{Directions}
use Rattle.card_c.specs.declared.card_side.CardSide.{CardSide}
use Rattle.card_c.specs.declared.card_side.CardSide.TheVariants.{Own}
use Rattle.card_c.specs.Codes.{gt_memory, gt_ok}
use Rattle.card_c.specs.Handles.{held_by}
use Rattle.card_c.specs.OwnCalls.{BeginsOwn, IsDirections}
use Rattle.card_c.proofs.OwnLemmas.{empty_is}
use Rattle.card_c.proofs.own_calls.galliumtoad_card_own.Goals as goal

pub returns : goal.returns
returns c =
    let bytes = c.args.directions.now in
    let ways : IsDirections bytes (Some c.in-Some.directions) =
    subst (λ (o : Option Directions). IsDirections bytes o) c.in-Some.is c.directions_in.ensures in
    let none : held_by c.args.card.now ≡ None =
    empty_is (held_by c.args.card.now) (search rules) in
    subst (λ (h : Option CardSide). BeginsOwn bytes h gt_memory h) (sym none)
    (inr (inl (c.in-Some.directions, ways, refl, refl)))

pub returns-in-Ok : goal.returns-in-Ok
returns-in-Ok c =
    let bytes = c.args.directions.now in let own = c.new.result in
    let ways : IsDirections bytes (Some c.in-Some.directions) =
    subst (λ (o : Option Directions). IsDirections bytes o) c.in-Some.is c.directions_in.ensures in
    let none : held_by c.args.card.now ≡ None =
    empty_is (held_by c.args.card.now) (search rules) in
    let made : c.in-Ok.side.value ≡ Own own = search rules in
    let new : held_by c.put.new.self ≡ Some (Own own) = c.put.ensures
    ∙ ap (λ (s : CardSide). Some s) made in
    subst (λ (h : Option CardSide). BeginsOwn bytes h gt_ok (held_by c.put.new.self)) (sym none)
    (inr (inr (c.in-Some.directions, ways, own, refl, new, c.new.ensures)))
