use Rattle.std.proofs.Common.{◌∙◌, sym, ap, subst, List, ℕ, inl, inr, arith, not, Some}
use Rattle.std.specs.Prelude.{option_map, is_some}
use Rattle.object_card.specs.Tables.{IsValueOf}
use Rattle.object_card.specs.OneStep.{stored}
use Rattle.object_card.specs.CardFields.{value_at}
use Rattle.object_card.proofs.PutValueLemmas as put_value
use Rattle.object_card.proofs.put_data.refused_value.Goals.{else-len-ge-ENTRY_LIMIT-via-then-len-ge-ENTRY_LIMIT+else-is_none, else-len-ge-ENTRY_LIMIT-via-else-len-ge-ENTRY_LIMIT}
use Rattle.object_card.proofs.put_data.refused_value.Goals as goal

pub returns-then-is_some-clause-refused : goal.returns-then-is_some-clause-refused
returns-then-is_some-clause-refused g c =
    let Kind : List ℕ → Type 0 = λ t. IsValueOf t c.args.value.now in
    put_value.refuses_data _ _ _ _ c.status.ensures c.requires.free c.requires.within
    (λ kind. put_value.none_not_some c.value_fault.result
    (c.value_fault.ensures.fits.1 (subst Kind (sym c.tag.ensures.tag) kind))
    (sym c.is_some.ensures ∙ c.if-is_some.true))

pub returns-then-is_none-clause-refused : goal.returns-then-is_none-clause-refused
returns-then-is_none-clause-refused g c =
    let Kind : List ℕ → Type 0 = λ t. IsValueOf t c.args.value.now in
    let kind = subst Kind c.tag.ensures.tag
    (c.value_fault.ensures.fits.0
    (put_value.none_from c.value_fault.result
    (sym c.is_some.ensures ∙ c.if-is_some.false))) in
    let new = sym c.find.ensures.value
    ∙ ap (option_map (λ place. value_at c.args.application.now.entries (Some place)))
    (put_value.none_is c.find.result (c.is_none.ensures ∙ ap not c.if-is_none.true)) in
    put_value.refuses_space _ _ _ _ c.status-then-is_none.ensures c.requires.free c.requires.within
    kind new
    (omega (arith, c.if-len-ge-ENTRY_LIMIT.true, c.len.ensures))

pub returns-clause-stored : goal.returns-clause-stored
returns-clause-stored g c =
    let Kind : List ℕ → Type 0 = λ t. IsValueOf t c.args.value.now in
    let kind = subst Kind c.tag.ensures.tag
    (c.value_fault.ensures.fits.0
    (put_value.none_from c.value_fault.result
    (sym c.is_some.ensures ∙ c.if-is_some.false))) in
    stored c.requires.free c.requires.within kind (elim c.else-len-ge-ENTRY_LIMIT.branch [
      | else-len-ge-ENTRY_LIMIT-via-then-len-ge-ENTRY_LIMIT+else-is_none w ↦
          inl (sym (ap is_some w.find.ensures.value) ∙ put_value.is_some-option_map _ w.find.result
          ∙ w.is_none.ensures ∙ ap not w.if-is_none.false)
      | else-len-ge-ENTRY_LIMIT-via-else-len-ge-ENTRY_LIMIT w ↦
          inr (omega (arith, w.if-len-ge-ENTRY_LIMIT.false, c.len.ensures))
    ])
