use Rattle.std.proofs.Common.{◌∙◌, ◌≤◌, ap, subst, length}
use Rattle.apdu_core.specs.declared.shared.TheConstants.{RESPONSE_LIMIT}
use Rattle.object_card.specs.State.{IsCardState, is_idle, waiting}
use Rattle.object_card.specs.CardFields.{entries_at}
use Rattle.object_card.specs.CardView.{CardView, stands_idle}
use Rattle.object_card.proofs.IdleLemmas.{idle_seen, few_wait, same_test}
use Rattle.object_card.proofs.card.ObjectCardDataCard.is_idle.Goals as goal

pub returns : goal.returns
returns g c =
    let i = c.self.inside in
    let standing = c.self.invariant.standing in
    let pending = same_test c.is_pending.result i.chain.pending c.is_pending.ensures.pending.0
    c.is_pending.ensures.pending.1 in
    let Sound : CardView → Type 0 = λ v. IsCardState v.state
    × (length (waiting v.state.pending) ≤ RESPONSE_LIMIT) in
    let sound = subst Sound c.self.view_is
    (standing.sound, few_wait _ _ standing.sound.is_pending) in
    record {
      idle = c.stands_idle.ensures ∙ ap (stands_idle i.ready) pending
          ∙ idle_seen (entries_at i.applications.items i.selected) i.chain i.response i.ready
          standing.alone
          ∙ ap (λ (v : CardView). is_idle v.state.pending) c.self.view_is;
      sound = sound.0;
      gathered = sound.1;
    }
