use Rattle.std.proofs.Common.{◌≡◌, ap, refl, subst, sym}
use Rattle.t0_core.specs.Meaning.{IsSending, Decides, answered_with}
use Rattle.command_card.specs.declared.ready.Ready.{Ready}
use Rattle.command_card.specs.declared.ready.Ready.TheVariants as ready
use Rattle.command_card.specs.Calls.{settles_in}
use Rattle.command_card.specs.Meaning.{Does}
use Rattle.command_card.specs.View.{CardOf, IsReady, standing_in, state_after, prepared_in, prepared_of}
use Rattle.command_card.proofs.card.CommandCardTpduCard.end_of_sending.Goals as goal

pub returns-clause-decided : goal.returns-clause-decided
returns-clause-decided g c =
    let a = g.A.Application in
    let i = c.self.inside in
    let s = c.in-Sends in
    let now = a.standing i.application in
    let next = a.next i.application in
    let kept = i.kept.items in
    let fresh = i.fresh.items in
    let R : Ready → Type 0 = λ r. IsReady a.takes a.Does now next kept fresh i.waiting r in
    let P : CardOf g.row.A.Denot → Type 0 = λ v. IsSending (prepared_in a.standing a.next v)
    (λ ask bytes. Decides (Does a.takes a.Does) (standing_in a.standing v) ask.cut
    (answered_with ask bytes s.status) (prepared_of now next kept fresh (ready.Leaves s.ending))) in
    let D : Ready → Type 0 = λ r. P (record {
      app = i.application;
      kept = kept;
      fresh = fresh;
      waiting = i.waiting;
      ready = r;
    }) in
    subst P c.self.view_is (subst D (sym s.is)
    (state_after now next kept fresh s.ending, refl, subst R s.is c.self.invariant.0))

pub returns-clause-called : goal.returns-clause-called
returns-clause-called g c =
    let i = c.self.inside in
    let s = c.in-Sends in
    let P : CardOf g.row.A.Denot → Type 0 = λ v. (i.application ≡ v.app)
    × (s.ending.settles ≡ settles_in v.ready) in
    subst P c.self.view_is (refl, ap settles_in (sym s.is))
