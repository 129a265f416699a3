use Rattle.std.proofs.Common.{◌≡◌, Some, refl, sym, ap, ◌∙◌, subst, slice_get, length, List}
use Rattle.std.specs.Option.{option_map}
use Rattle.std.proofs.lemmas.Option.{slice_get-map, slice_get_read}
use Rattle.std.proofs.lemmas.Bool.{ltb-true}
use Rattle.object_card.specs.Tables.{Application}
use Rattle.object_card.specs.CardFields.{ApplicationView}
use Rattle.object_card.specs.CardView.{CardView}
use Rattle.object_card.proofs.card.ObjectCard.app_at.Goals as goal

pub returns : goal.returns
returns g c =
    let Goal : CardView → Type 0 = λ v. Some c.aid.result
    ≡ option_map (λ (a : Application). a.aid) (slice_get v.state.applications c.args.place) in
    let held : List ApplicationView = c.self.inside.applications.items in
    let entry : ApplicationView → Application = λ a. record { aid = a.aid; entries = a.entries } in
    let found : slice_get held c.args.place ≡ Some c.in_ok-get.field-0.now =
    subst (λ (xs : List ApplicationView). slice_get xs c.args.place ≡ Some c.in_ok-get.field-0.now)
    c.deref.ensures.value
    (slice_get_read c.deref.result.now (length c.deref.result.now) c.args.place
    c.in_ok-get.field-0.now refl
    (ltb-true c.args.place (length c.deref.result.now) (sym c.in_ok-get.ensures.lookup.0))
    c.in_ok-get.ensures.lookup.1) in
    subst Goal c.self.view_is (ap Some c.aid.ensures
    ∙ sym (ap (option_map (λ (a : Application). a.aid))
    (slice_get-map entry held c.args.place ∙ ap (option_map entry) found)))
