use Rattle.std.proofs.Common.{◌≡◌, ◌<◌, List, Some, length, subst}
use Rattle.std.specs.Prelude.{slice_get}
use Rattle.t0_core.specs.Meaning.{IsSending}
use Rattle.object_card.specs.CardFields.{ApplicationView, entries_at, left_of}
use Rattle.object_card.specs.CardView.{CardView}
use Rattle.object_card.proofs.FreshCard.{sends_byte}
use Rattle.object_card.proofs.card.ObjectCardTpduCard.byte.Goals as goal

pub returns : goal.returns
returns g c =
    let i = c.self.inside in
    let s = c.in-Sends in
    let Read : List ApplicationView → Type 0 = λ hs. slice_get
    (left_of (entries_at hs i.selected) s.response) c.args.at ≡ Some c.byte.result in
    let read = subst Read c.deref.ensures.value c.byte.ensures in
    let Reads : CardView → Type 0 = λ v. IsSending v.prepared
    (λ ask bytes. c.args.at < length bytes)
    → IsSending v.prepared (λ ask bytes. slice_get bytes c.args.at ≡ Some c.byte.result) in
    subst Reads c.self.view_is
    (sends_byte i.applications.items i.selected i.chain i.response i.ready _ s.header s.p3 s.cut
    s.response c.args.at c.byte.result s.is read)
    c.requires
