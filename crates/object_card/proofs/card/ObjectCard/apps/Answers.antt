use Rattle.std.proofs.Common.{sym, subst, ◌∙◌, ap, map, List}
use Rattle.object_card.specs.Tables.{Application, AreApplications}
use Rattle.object_card.specs.CardFields.{ApplicationView}
use Rattle.object_card.specs.CardView.{CardView}
use Rattle.object_card.proofs.CardFieldLemmas.{aids-of}
use Rattle.object_card.proofs.card.ObjectCard.apps.Goals as goal

pub returns-clause-apps : goal.returns-clause-apps
returns-clause-apps g c =
    c.over.ensures ∙ ap (λ (hs : List ApplicationView). map (λ (a : ApplicationView). a.aid) hs)
    c.deref.ensures.value
    ∙ sym (aids-of c.self.inside.applications.items)
    ∙ ap (λ (v : CardView). map (λ (a : Application). a.aid) v.state.applications) c.self.view_is

pub returns-clause-sound : goal.returns-clause-sound
returns-clause-sound g c =
    let Sound : CardView → Type 0 = λ v. AreApplications v.state.applications in
    subst Sound c.self.view_is c.self.invariant.standing.sound.are_applications
