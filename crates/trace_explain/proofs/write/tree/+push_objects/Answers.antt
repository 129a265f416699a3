use Rattle.std.proofs.Common.{◌≡◌, ◌∙◌, ℕ, List, refl, Bool, true, false}
use Rattle.tlv_core.specs.TagForm.{is_constructed}
use Rattle.trace_explain.proofs.TreeLemmas.{all_objects, past_masked, past_primitive, past_template}
use Rattle.trace_explain.proofs.write.tree.+push_objects.Goals as goal

constructed : (tag : List ℕ) → (is_constructed tag ≡ false → ⊥) → is_constructed tag ≡ true
constructed tag is = of (is_constructed tag) is where
  of : (b : Bool) → (b ≡ false → ⊥) → b ≡ true
  of true is = refl
  of false is = absurd (is refl)

pub listing-preserved-then-has : goal.listing-preserved-then-has
listing-preserved-then-has t c =
    let g = c.in-Some.ensures.steps in
    past_masked c.listing.invariant g.0.1 g.2 c.tag-tag.ensures (c.level.ensures ∙ g.1)
    (c.has.ensures.0 c.if-has.true) c.push_begin.ensures c.masked_end.ensures c.push_str.ensures

pub listing-preserved-in-Some-children : goal.listing-preserved-in-Some-children
listing-preserved-in-Some-children t c =
    let g = c.in-Some.ensures.steps in
    past_template c.listing.invariant g.0.1 g.2 c.tag-tag.ensures (c.level.ensures ∙ g.1) g.1
    (λ h. let e = c.has.ensures.1 h in absurd (cc (e, c.if-has.false)))
    (constructed c.in-Some.object.tag
    (λ no. let e = c.in-Some-children.ensures.primitive.1 no in absurd (cc)))
    c.push_begin.ensures c.push_words.ensures c.in-Some-children.ensures.list.0
    c.push_objects.ensures c.template_end.ensures c.push_str-in-Some-children.ensures

pub listing-preserved : goal.listing-preserved
listing-preserved t c =
    let g = c.in-Some.ensures.steps in
    past_primitive c.listing.invariant g.0.1 g.2 c.tag-tag.ensures (c.level.ensures ∙ g.1) g.1
    (λ h. let e = c.has.ensures.1 h in absurd (cc (e, c.if-has.false)))
    (c.in_default-children.ensures.primitive.0 refl) c.push_begin.ensures c.push_value.ensures

pub returns : goal.returns
returns t c = all_objects c.listing.invariant c.in_default.ensures.steps.0 c.list_end.ensures
    c.push_str-2.ensures
