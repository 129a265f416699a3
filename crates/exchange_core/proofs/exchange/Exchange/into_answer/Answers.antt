use Rattle.std.proofs.Common.{◌≡◌, sym, subst, Some, refl, ap, ◌∙◌}
use Rattle.t0_core.specs.declared.host_end.HostTurn.TheVariants.{Done}
use Rattle.exchange_core.specs.ExchangeSide.{ExchangeOf}
use Rattle.apdu_core.specs.Shared.{Reply}
use Rattle.exchange_core.specs.Gathered.{Gathers}
use Rattle.exchange_core.specs.ComesToLaws.{end_leads}
use Rattle.exchange_core.proofs.EndLemmas.{same_status}
use Rattle.exchange_core.proofs.ExchangeLemmas.{told, tells}
use Rattle.exchange_core.proofs.exchange.Exchange.into_answer.Goals as goal

pub returns-in-None-clause-done : goal.returns-in-None-clause-done
returns-in-None-clause-done g c = λ status done.
    let told_none = (c.in-None.ensures status).1
    (told _ _ (Done status) c.self.view_is c.if-stalled.false done) in absurd (cc)

pub returns-in-Some-clause-done : goal.returns-in-Some-clause-done
returns-in-Some-clause-done g c = λ status done.
    let same = same_status c.in-Some.status status
    ((c.in-Some.ensures status).1
    (told _ _ (Done status) c.self.view_is c.if-stalled.false done)) in
    ap Some (c.new.ensures ∙ ap
    (λ s. record { status = s; content = c.self.inside.gather.bytes }) same
    ∙ ap (λ (e : ExchangeOf). record { status = status; content = e.gather.bytes }) c.self.view_is)

pub returns-in-Some-clause-undone : goal.returns-in-Some-clause-undone
returns-in-Some-clause-undone g c = λ none.
    absurd (none c.in-Some.status
    (tells _ _ (Done c.in-Some.status) c.self.view_is c.if-stalled.false
    ((c.in-Some.ensures c.in-Some.status).0 refl)))

pub returns-in-Some-clause-led : goal.returns-in-Some-clause-led
returns-in-Some-clause-led g c = λ command came leads.
    let done = tells _ _ (Done c.in-Some.status) c.self.view_is c.if-stalled.false
    ((c.in-Some.ensures c.in-Some.status).0 refl) in
    let end = end_leads command came c.args.self c.in-Some.status done leads in
    let P : Reply → Type 0 = λ r. Gathers command end.0 r.content r.status in
    let same : c.new.result ≡ record
    { status = c.in-Some.status; content = c.args.self.gather.bytes } =
    c.new.ensures ∙ ap (λ (e : ExchangeOf). record
    { status = c.in-Some.status; content = e.gather.bytes }) c.self.view_is in
    (end.0, subst P (sym same) end.1, end.2)
