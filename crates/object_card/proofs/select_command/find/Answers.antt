use Rattle.std.proofs.Common.{◌≡◌, ◌∙◌, sym, ap, subst, List, ℕ, refl, arith, Some}
use Rattle.std.specs.Prelude.{option_map}
use Rattle.std.specs.Cmp.Lexicographic.{same_text}
use Rattle.std.proofs.Common.{false}
use Rattle.std.proofs.lemmas.Option.{slice_get_read}
use Rattle.object_card.specs.Tables.{same_bytes}
use Rattle.object_card.proofs.PutValueLemmas as put_value
use Rattle.object_card.proofs.select_command.find.Goals as goal

pub loop-place-init : goal.loop-place-init
loop-place-init g c = refl

pub returns-then-eq : goal.returns-then-eq
returns-then-eq g c =
    let same = same_text c.args.aid.now c.bytes.result.now
    (sym (sym c.eq.ensures ∙ c.if-eq.true)) in (
      omega (arith, c.loop-place-test.true),
      ap (option_map (λ a. a.aid))
          (slice_get_read c.args.applications.now _ c.loop-place.place
          c.index-applications-place.result refl (omega (arith, c.loop-place-test.true))
          c.index-applications-place.is) ∙ ap Some
          (sym c.aid.ensures ∙ sym c.bytes.ensures.bytes ∙ sym same),
    )

pub loop-place-preserved : goal.loop-place-preserved
loop-place-preserved g c =
    let Other : List ℕ → Type 0 = λ x. same_bytes c.args.aid.now x ≡ false in
    let other = subst Other (c.bytes.ensures.bytes ∙ c.aid.ensures)
    (sym c.eq.ensures ∙ c.if-eq.false) in
    c.loop-place.invariant ∙ put_value.passes_by c.args.aid.now c.args.applications.now
    c.loop-place.place c.index-applications-place.result
    (slice_get_read c.args.applications.now _ c.loop-place.place c.index-applications-place.result
    refl (omega (arith, c.loop-place-test.true)) c.index-applications-place.is) other

pub returns : goal.returns
returns g c = c.loop-place.invariant ∙ put_value.none_left c.args.aid.now c.args.applications.now
    c.loop-place.place (omega (arith, c.loop-place-test.false))
