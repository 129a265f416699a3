use Rattle.std.proofs.Common.{List, [], ◌∷◌, refl, sym, ap, ◌∙◌, subst, inr, ◌≡◌}
use Rattle.t0_core.specs.Plan.{Course, Cursor}
use Rattle.t0_core.specs.Watch.{Hearing, Hears}
use Rattle.object_card.specs.CardMeaning.{Does}
use Rattle.card_terminal.specs.Operations.{operation_of}
use Rattle.card_terminal.specs.Talk.{Talk}
use Rattle.card_c.proofs.session.perform.Goals as goal

pub returns : goal.returns
returns c =
    let e = c.operate_in-answer.ensures in let old = c.args.joined.now in
    let reply = c.operate_in-answer.result in
    let state = c.operate_in-answer.new.self.state in
    let left = c.operate_in-answer.new.plans.rest in
    let plans : c.over.result.rest ≡ old.plans.items = ap (λ (q : Cursor). q.rest) c.over.ensures
    ∙ c.deref.ensures.value in
    inr (inr (
      sym c.if-not-is_idle.ensures.idle,
      refl,
      record {
        reply = reply;
        answer_is = refl;
        plans_are = c.new.ensures.items;
        listens_is = refl;
        one_step = e.one_step;
        line = e.talk.0;
        left = left;
        talk = subst (λ (ps : List Course). Talk Does old.session.state ps
            (operation_of c.args.operation ∷ []) (reply ∷ []) state left e.talk.0) plans e.talk.1;
        heard = subst (λ (h : Hearing). Hears h e.talk.0 c.operate_in-answer.new.watch)
            c.new-heard.ensures e.talk.2;
      },
    ))
