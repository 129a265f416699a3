use Rattle.std.proofs.Common.{◌≡◌, Some, sym, ap, ◌∙◌, subst, slice_get, List, ℕ}
use Rattle.std.specs.Option.{option_map}
use Rattle.std.proofs.lemmas.Option.{slice_get-map}
use Rattle.object_card.specs.CardFields.{ApplicationView}
use Rattle.object_card.proofs.application.Application.at.Goals as goal

pub returns : goal.returns
returns g c =
    let Goal : ApplicationView → Type 0 = λ a. slice_get a.entries c.args.place
    ≡ Some (record {
      tag = c.in_ok-tag.tag.now;
      value = c.value.result.now;
      locked =
          c.in_ok-tag.held.now.locked;
    }) in
    let pairs = c.self.inside.objects.entries in
    let found : slice_get pairs c.args.place ≡ Some (c.in_ok-tag.tag.now, c.in_ok-tag.held.now) =
    sym c.in_ok-tag.ensures.entry in
    subst Goal c.self.view_is (slice_get-map _ pairs c.args.place ∙ ap (option_map _) found
    ∙ ap (λ (bytes : List ℕ). Some
    (record { tag = c.in_ok-tag.tag.now; value = bytes; locked = c.in_ok-tag.held.now.locked }))
    (sym c.value.ensures))
