use Rattle.std.proofs.Common.{◌∙◌, ◌+◌, ◌-◌, ◌<◌, ℕ, drop, length, subst, sym, take}
use Rattle.apdu_core.specs.StatusWord.{count}
use Rattle.t0_core.specs.DataRun.{IsRunAt}
use Rattle.t0_core.specs.Meaning.{IsSending}
use Rattle.command_card.specs.declared.ready.Ready.{Ready}
use Rattle.command_card.specs.View.{CardOf, buffer_of, prepared_in}
use Rattle.command_card.proofs.AnswerLemmas.{run_is}
use Rattle.command_card.proofs.card.CommandCardTpduCard.run.Goals as goal

pub returns : goal.returns
returns g c =
    let a = g.A.Application in
    let i = c.self.inside in
    let s = c.in-Sends in
    let kept = i.kept.items in
    let fresh = i.fresh.items in
    let xs = c.deref.result.now in
    let place : ℕ = s.from + c.args.at in
    let card : Ready → CardOf g.row.A.Denot = λ r. record {
      app = i.application;
      kept = kept;
      fresh = fresh;
      waiting = i.waiting;
      ready = r;
    } in
    let W : CardOf g.row.A.Denot → Type 0 = λ v. IsSending (prepared_in a.standing a.next v)
    (λ ask bytes. c.args.at < length bytes) in
    let R : CardOf g.row.A.Denot → Type 0 = λ v. IsSending (prepared_in a.standing a.next v)
    (λ ask bytes. IsRunAt bytes c.args.at
    (take c.min.result (take (length xs - place) (drop place xs)))) in
    subst R c.self.view_is (subst (λ r. R (card r)) (sym s.is)
    (run_is xs (buffer_of s.ending.fresh kept fresh) s.from (count s.p3) c.count.result
    c.args.at c.min.result (c.deref.ensures.value ∙ c.buffer.ensures) c.count.ensures
    (subst (λ r. W (card r)) s.is (subst W (sym c.self.view_is) c.requires)) c.min.ensures))
