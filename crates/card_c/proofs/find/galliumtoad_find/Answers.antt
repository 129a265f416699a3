-- A path without steps, with too many, and with steps that fit.
use Rattle.std.proofs.Common.{ℤ, sym, subst, arith}
use Rattle.card_c.specs.Reading.{Finds}
use Rattle.card_c.proofs.CodeLemmas.{as_it_is}
use Rattle.card_c.proofs.FindLemmas.{on_no_step, on_steps, on_many_steps}
use Rattle.card_c.proofs.find.galliumtoad_find.Goals as goal

pub returns-then-is_empty : goal.returns-then-is_empty
returns-then-is_empty c =
    let P : ℤ → Type 0 = λ z. Finds c.args.bytes.now c.args.path.now c.args.object.now
    c.args.place.now z c.find_on.new.object c.find_on.new.place in
    subst P (sym (as_it_is c.find_on.result c.find_on.type_inv))
    (on_no_step _ _ _ _ _ _ _ c.if-is_empty.ensures c.find_on.ensures)

pub returns-then-path-gt-DEEPEST : goal.returns-then-path-gt-DEEPEST
returns-then-path-gt-DEEPEST c =
    let P : ℤ → Type 0 = λ z. Finds c.args.bytes.now c.args.path.now c.args.object.now
    c.args.place.now z c.args.object.now c.find_none.new.place in
    subst P (sym (as_it_is c.find_none.result c.find_none.type_inv))
    (on_many_steps _ _ _ _ _ _ _ c.in-Some.ensures (omega (arith, c.if-path-gt-DEEPEST.true))
    c.find_none.ensures)

pub returns : goal.returns
returns c =
    let P : ℤ → Type 0 = λ z. Finds c.args.bytes.now c.args.path.now c.args.object.now
    c.args.place.now z c.find_on-2.new.object c.find_on-2.new.place in
    subst P (sym (as_it_is c.find_on-2.result c.find_on-2.type_inv))
    (on_steps _ _ _ _ _ _ _ _ c.in-Some.ensures (omega (arith, c.if-path-gt-DEEPEST.false))
    c.find_on-2.ensures)
