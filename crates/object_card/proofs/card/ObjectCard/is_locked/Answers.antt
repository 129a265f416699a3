use Rattle.std.proofs.Common.{◌≡◌, ◌<◌, refl, sym, ◌∙◌, ap, subst, length, List, Some}
use Rattle.std.proofs.lemmas.Option.{slice_get_read}
use Rattle.object_card.specs.Tables.{entries_in}
use Rattle.object_card.specs.Refusals.{is_locked_among}
use Rattle.object_card.specs.CardFields.{ApplicationView, aid_at}
use Rattle.object_card.specs.CardView.{CardView}
use Rattle.object_card.proofs.CardFieldLemmas.{entries_found}
use Rattle.object_card.proofs.card.ObjectCard.is_locked.Goals as goal

pub returns-in-Some : goal.returns-in-Some
returns-in-Some g c =
    let held = c.self.inside.applications.items in
    let At : List ApplicationView → Type 0 = λ hs. aid_at hs (Some c.in-Some.place)
    ≡ Some c.bytes.result.now in
    let found = subst At c.deref.ensures.value c.in-Some.ensures.1 in
    let Within : List ApplicationView → Type 0 = λ hs. c.in-Some.place < length hs in
    let within = subst Within c.deref.ensures.value c.in-Some.ensures.0 in
    let is = slice_get_read held _ c.in-Some.place c.index.result.now refl within c.index.ensures in
    let entries = entries_found held c.in-Some.place c.index.result.now c.args.aid.now
    c.self.invariant.standing.sound.are_applications.distinct_aids is
    (found ∙ ap (λ bs. Some bs) c.bytes.ensures.bytes) in
    c.is_locked.ensures ∙ sym (ap (is_locked_among (Some c.args.tag)) entries)
    ∙ ap (λ (v : CardView). is_locked_among (Some c.args.tag)
    (entries_in c.args.aid.now v.state.applications)) c.self.view_is
