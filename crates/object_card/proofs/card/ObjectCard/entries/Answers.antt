use Rattle.std.proofs.Common.{◌≡◌, ◌<◌, refl, sym, ◌∙◌, ap, subst, length, List, ℕ, Some, Option, map}
use Rattle.std.specs.Prelude.{option_map}
use Rattle.std.proofs.lemmas.Option.{slice_get_read}
use Rattle.object_card.specs.Tables.{Entry, entries_in}
use Rattle.object_card.specs.CardFields.{ApplicationView, aid_at}
use Rattle.object_card.specs.CardView.{CardView}
use Rattle.object_card.proofs.CardFieldLemmas.{entries_found}
use Rattle.object_card.proofs.card.ObjectCard.entries.Goals as goal

pub returns : goal.returns
returns g c =
    let held = c.self.inside.applications.items in
    let place = c.in_ok-place.place in
    let At : List ApplicationView → Type 0 = λ hs. aid_at hs (Some place)
    ≡ Some c.bytes.result.now in
    let found = subst At c.deref.ensures.value c.in_ok-place.ensures.1 in
    let Within : List ApplicationView → Type 0 = λ hs. place < length hs in
    let within = subst Within c.deref.ensures.value c.in_ok-place.ensures.0 in
    let is = slice_get_read held _ place c.index.result.now refl within c.index.ensures in
    let entries = entries_found held place c.index.result.now c.args.aid.now
    c.self.invariant.standing.sound.are_applications.distinct_aids is
    (found ∙ ap (λ bs. Some bs) c.bytes.ensures.bytes) in
    let Shown : Option (List Entry) → Option (List (List ℕ × List ℕ)) =
    option_map (λ es. map (λ (e : Entry). (e.tag, e.value)) es) in
    ap (λ x. Some x) c.of.ensures ∙ sym (ap Shown entries)
    ∙ ap (λ (v : CardView). Shown (entries_in c.args.aid.now v.state.applications)) c.self.view_is
