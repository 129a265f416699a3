use Rattle.std.proofs.Common.{◌≡◌, ℕ, ◌+◌, ◌-◌, List, length, refl, subst, ap, arith, append-nil, Bool, true, false}
use Rattle.tlv_core.specs.Object.{ObjectList}
use Rattle.tlv_core.specs.TagForm.{is_constructed}
use Rattle.tlv_core.specs.Listing.{Placed, Lists, no_object}
use Rattle.card_c.proofs.Listing.{begins_going, past_primitive, past_template, sizes, put_is, inner}
use Rattle.card_c.proofs.objects.+listed.Goals as goal

constructed : (tag : List ℕ) → (is_constructed tag ≡ false → ⊥) → is_constructed tag ≡ true
constructed tag is = of (is_constructed tag) is where
  of : (b : Bool) → (b ≡ false → ⊥) → b ≡ true
  of true is = refl
  of false is = absurd (is refl)

pub listing-init : goal.listing-init
listing-init t c = begins_going _ _ _ _ c.requires.inside

pub overflow_sub-after : goal.overflow_sub-after
overflow_sub-after t c =
    let s = sizes _ _ _ _ _ _ _ c.in-Some.ensures.steps.0.1 in
    omega (arith, c.left.ensures, s.all, c.listing.invariant.fits)

pub record-requires : goal.record-requires
record-requires t c =
    let s = sizes _ _ _ _ _ _ _ c.in-Some.ensures.steps.0.1 in
    omega (arith, c.left.ensures, s.all, c.listing.invariant.fits)

pub overflow_add-count : goal.overflow_add-count
overflow_add-count t c =
    let s = sizes _ _ _ _ _ _ _ c.in-Some.ensures.steps.0.1 in
    omega (arith, s.all, s.some, c.listing.invariant.fits, c.ranges.end.fits)

pub listed-count-requires : goal.listed-count-requires
listed-count-requires t c =
    let s = sizes _ _ _ _ _ _ _ c.in-Some.ensures.steps.0.1 in
    let e = ap (λ (l : ObjectList). length l.bytes) c.in-Some-children.ensures.list.0 in (
      omega (arith, c.decreases, e, s.all, s.some, c.listing.invariant.shrinks),
      omega (arith, e, s.all, s.some, c.left.ensures, c.listing.invariant.fits),
    )

pub listing-preserved : goal.listing-preserved
listing-preserved t c =
    let g = c.in-Some.ensures.steps in
    past_primitive _ c.listing.list c.next.new.self _ _ c.listing.objects c.put.new.objects _
    c.listing.count g.0.0 c.in-Some.object.tag
    c.in-Some.object.size c.in-Some.object.value c.listing.invariant g.0.1 g.2
    (c.in_default-children.ensures.primitive.0 refl)
    (put_is _ _ _ _ _ _ _ _ _ _ _ _ c.put.ensures c.record.ensures c.left.ensures g.1)

pub listing-preserved-in-Some-children : goal.listing-preserved-in-Some-children
listing-preserved-in-Some-children t c =
    let g = c.in-Some.ensures.steps in
    let l = c.listed-count.ensures in
    past_template _ c.listing.list c.next.new.self _ _ c.listing.objects c.put.new.objects _ _
    c.listing.count _ g.0.0 c.in-Some.object.tag
    c.in-Some.object.size c.in-Some.object.value
    (c.in-Some.object.level + 1) l.0 c.listing.invariant g.0.1 g.2
    (constructed c.in-Some.object.tag
    (λ no. let e = c.in-Some-children.ensures.primitive.1 no in absurd (cc)))
    (put_is _ _ _ _ _ _ _ _ _ _ _ _ c.put.ensures c.record.ensures c.left.ensures g.1)
    (ap (λ (n : ℕ). n + 1) g.1)
    (inner _ _ _ _ _ _ _ c.in-Some-children.ensures.list.0 c.left.ensures l.1) l.2 l.3
    (omega (arith, l.4, c.left.ensures))

pub returns : goal.returns
returns t c =
    let i = c.listing.invariant in
    let P : List Placed → Type 0 = λ all. Lists c.args.list.bytes
    (c.args.end - length c.args.list.bytes) c.args.list.level all in (
      i.done,
      subst P (append-nil i.done) (i.leads _ (no_object c.in_default.ensures.steps.0 refl)),
      i.counted,
      i.filled,
      omega (arith, i.fits),
    )
