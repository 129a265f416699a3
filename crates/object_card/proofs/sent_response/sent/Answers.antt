use Rattle.std.proofs.Common.{◌∙◌, ◌+◌, sym, ap, subst, refl, length, arith, None}
use Rattle.apdu_core.specs.StatusWord.{count}
use Rattle.apdu_core.specs.Chaining.{idle}
use Rattle.t0_core.specs.Meaning.{IsSending, Decides, Decided, answered_with}
use Rattle.object_card.specs.CardMeaning.{Does}
use Rattle.object_card.specs.declared.ready.Ready.{Ready}
use Rattle.object_card.specs.declared.response.Response.{Response}
use Rattle.object_card.specs.CardFields.{IsResponse, entries_at, state_of}
use Rattle.object_card.specs.CardView.{IsReady, prepared_of}
use Rattle.object_card.proofs.SendingLemmas as sending
use Rattle.object_card.proofs.sent_response.sent.Goals as goal

pub after-rest-requires : goal.after-rest-requires
after-rest-requires g c =
    let Fits : Ready → Type 0 = λ r. IsReady c.args.view.now.applications.now
    c.args.view.now.selected c.args.view.now.chain.now c.args.view.now.response r None in
    let fits = subst Fits c.in-Sends.is c.requires.fits in
    let enough = sending.enough c.args.view.now.applications.now c.args.view.now.selected
    c.args.view.now.chain.now c.args.view.now.response c.in-Sends.header c.in-Sends.p3
    c.in-Sends.cut c.in-Sends.response fits.0 fits.1 fits.3 in
    omega (
      arith,
      sending.sent_few c.args.view.now.applications.now c.args.view.now.selected
          c.args.view.now.chain.now c.args.view.now.response c.in-Sends.response c.requires.standing
          fits.2,
      c.count.ensures,
      sending.count_few c.in-Sends.p3 fits.0.small,
    )

pub left-left-requires-clause-response : goal.left-left-requires-clause-response
left-left-requires-clause-response g c =
    let Fits : Ready → Type 0 = λ r. IsReady c.args.view.now.applications.now
    c.args.view.now.selected c.args.view.now.chain.now c.args.view.now.response r None in
    let fits = subst Fits c.in-Sends.is c.requires.fits in
    let enough = sending.enough c.args.view.now.applications.now c.args.view.now.selected
    c.args.view.now.chain.now c.args.view.now.response c.in-Sends.header c.in-Sends.p3
    c.in-Sends.cut c.in-Sends.response fits.0 fits.1 fits.3 in
    let Whole : Response → Type 0 = IsResponse
    (entries_at c.args.view.now.applications.now c.args.view.now.selected) in
    subst Whole (ap (λ n. record c.in-Sends.response { sent = c.in-Sends.response.sent + n })
    (sym c.count.ensures) ∙ sym c.after-rest.ensures)
    (sending.sent_more (entries_at c.args.view.now.applications.now
    c.args.view.now.selected) c.in-Sends.response (count c.in-Sends.p3) fits.2 enough)

pub returns-clause-decided : goal.returns-clause-decided
returns-clause-decided g c =
    let Fits : Ready → Type 0 = λ r. IsReady c.args.view.now.applications.now
    c.args.view.now.selected c.args.view.now.chain.now c.args.view.now.response r None in
    let fits = subst Fits c.in-Sends.is c.requires.fits in
    let enough = sending.enough c.args.view.now.applications.now c.args.view.now.selected
    c.args.view.now.chain.now c.args.view.now.response c.in-Sends.header c.in-Sends.p3
    c.in-Sends.cut c.in-Sends.response fits.0 fits.1 fits.3 in
    let rest_is = sending.left_after
    (entries_at c.args.view.now.applications.now c.args.view.now.selected) c.in-Sends.response
    c.after-rest.result (count c.in-Sends.p3)
    (c.after-rest.ensures
    ∙ ap (λ n. record c.in-Sends.response { sent = c.in-Sends.response.sent + n })
    c.count.ensures) in
    let left_is = ap length rest_is in
    let Sends : Ready → Type 0 = λ r. IsSending
    (prepared_of c.args.view.now.applications.now c.args.view.now.selected
    c.args.view.now.chain.now c.args.view.now.response r None)
    (λ ask bytes. Decides Does
    (state_of c.args.view.now.applications.now c.args.view.now.selected
    c.args.view.now.chain.now c.args.view.now.response) ask.cut
    (answered_with ask bytes c.announcing.result)
    (Decided (state_of c.args.view.now.applications.now
    c.args.view.now.selected (idle c.args.view.now.chain.now.limit)
    c.unless_sent-response.result))) in
    subst Sends (sym c.in-Sends.is) (
      state_of c.args.view.now.applications.now c.args.view.now.selected
          (idle c.args.view.now.chain.now.limit) c.unless_sent-response.result,
      refl,
      sending.sends_does c.args.view.now.applications.now c.args.view.now.selected
          c.args.view.now.chain.now c.args.view.now.response c.in-Sends.header c.in-Sends.p3
          c.in-Sends.cut c.in-Sends.response c.after-rest.result c.unless_sent-response.result
          c.announcing.result fits.0 fits.1 fits.3 rest_is
          (c.announcing.ensures _ (sym left_is ∙ sym c.left-left.ensures))
          (c.unless_sent-response.ensures ∙ ap (λ n. sending.next_at n c.after-rest.result)
          (c.left-left.ensures ∙ left_is)),
    )

pub returns-clause-fits : goal.returns-clause-fits
returns-clause-fits g c =
    let Fits : Ready → Type 0 = λ r. IsReady c.args.view.now.applications.now
    c.args.view.now.selected c.args.view.now.chain.now c.args.view.now.response r None in
    let fits = subst Fits c.in-Sends.is c.requires.fits in
    let enough = sending.enough c.args.view.now.applications.now c.args.view.now.selected
    c.args.view.now.chain.now c.args.view.now.response c.in-Sends.header c.in-Sends.p3
    c.in-Sends.cut c.in-Sends.response fits.0 fits.1 fits.3 in
    let rest_is = sending.left_after
    (entries_at c.args.view.now.applications.now c.args.view.now.selected) c.in-Sends.response
    c.after-rest.result (count c.in-Sends.p3)
    (c.after-rest.ensures
    ∙ ap (λ n. record c.in-Sends.response { sent = c.in-Sends.response.sent + n })
    c.count.ensures) in
    let left_is = ap length rest_is in
    let Whole : Response → Type 0 = IsResponse
    (entries_at c.args.view.now.applications.now c.args.view.now.selected) in
    let whole = subst Whole
    (ap (λ n. record c.in-Sends.response { sent = c.in-Sends.response.sent + n })
    (sym c.count.ensures) ∙ sym c.after-rest.ensures)
    (sending.sent_more (entries_at c.args.view.now.applications.now
    c.args.view.now.selected) c.in-Sends.response
    (count c.in-Sends.p3) fits.2 enough) in (
      sending.sends_standing c.args.view.now.applications.now
          c.args.view.now.selected c.args.view.now.chain.now
          c.args.view.now.response c.in-Sends.header c.in-Sends.p3
          c.in-Sends.cut c.in-Sends.response c.after-rest.result
          c.unless_sent-response.result c.announcing.result
          c.requires.standing fits.0 fits.1 fits.3 rest_is
          (c.announcing.ensures _ (sym left_is ∙ sym c.left-left.ensures))
          (c.unless_sent-response.ensures
          ∙ ap (λ n. sending.next_at n c.after-rest.result)
          (c.left-left.ensures ∙ left_is)) whole,
      refl,
    )
