use Rattle.std.proofs.Common.{subst, sym}
use Rattle.t0_core.specs.CardContract.{Judges}
use Rattle.command_card.specs.Meaning.{Does}
use Rattle.command_card.specs.View.{ask_of, prepared_of, state_of}
use Rattle.command_card.proofs.AnswerLemmas.{permits}
use Rattle.command_card.proofs.card.CommandCardTpduCard.header.Goals as goal

pub returns-clause-permitted : goal.returns-clause-permitted
returns-clause-permitted g c =
    let a = g.A.Application in
    let i = c.self.inside in
    let out = c.judged-verdict in
    let now = a.standing out.new.application in
    let J : a.State → Type 0 = λ s. Judges (Does a.takes a.Does) (state_of s i.kept.items i.waiting)
    (ask_of c.args.header c.args.p3 c.args.cut) out.result.0
    (prepared_of now (a.next out.new.application) i.kept.items out.new.fresh.items out.result.1) in
    permits a.takes a.Does now (a.next out.new.application) i.kept.items out.new.fresh.items
    i.waiting c.args.header c.args.p3 c.args.cut out.result.0 out.result.1 c.self.invariant.1
    (subst J (sym out.ensures.stands) out.ensures.judged.0) out.ensures.judged.1
