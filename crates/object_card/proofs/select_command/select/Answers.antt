use Rattle.std.proofs.Common.{◌≡◌, ◌∙◌, sym, ap, refl, length, Some, None}
use Rattle.std.specs.Prelude.{option_map}
use Rattle.std.proofs.lemmas.Option.{slice_get_read}
use Rattle.apdu_core.specs.Chaining.{idle}
use Rattle.object_card.specs.OneStep.{control_information}
use Rattle.object_card.specs.CardFields.{entries_at, state_of}
use Rattle.object_card.proofs.SelectLemmas as select
use Rattle.object_card.proofs.select_command.select.Goals as goal

pub returns-in_default-clause-decided : goal.returns-in_default-clause-decided
returns-in_default-clause-decided g c = (
  state_of c.args.view.now.applications.now c.args.view.now.selected
      (idle c.args.view.now.chain.now.limit) None,
  refl,
  select.misses_does c.args.view.now.applications.now c.args.view.now.selected
      c.args.view.now.chain.now c.args.view.now.response c.args.header c.args.cut c.args.aid.now
      c.status.result c.requires.asked c.requires.select
      (c.in_default.ensures {u = tt}) c.status.ensures,
)

pub returns-clause-decided : goal.returns-clause-decided
returns-clause-decided g c =
    let at_place = slice_get_read c.args.view.now.applications.now _ c.in-Some.application
    c.index-view-application.result refl c.in-Some.ensures.0 c.index-view-application.is in
    let both : Some c.index-view-application.result.aid ≡ Some c.args.aid.now =
    sym (ap (option_map (λ a. a.aid)) at_place) ∙ c.in-Some.ensures.1 in
    let named : c.index-view-application.result.aid ≡ c.args.aid.now = cc in
    let whole = select.information_left
    (entries_at c.args.view.now.applications.now (Some c.in-Some.application))
    c.information-response.result c.aid.result c.information-response.ensures
    ∙ ap control_information (c.aid.ensures ∙ ap (λ a. a.aid) (sym c.index-view-application.is)
    ∙ named) in
    let status = c.announcing.ensures (control_information c.args.aid.now)
    (ap length (sym whole) ∙ sym c.left-left.ensures) in (
      state_of c.args.view.now.applications.now (Some c.in-Some.application)
          (idle c.args.view.now.chain.now.limit) (Some c.information-response.result),
      refl,
      select.selects_does c.args.view.now.applications.now c.args.view.now.selected
          c.args.view.now.chain.now c.args.view.now.response c.args.header c.args.cut
          c.args.aid.now c.in-Some.application c.index-view-application.result
          c.information-response.result
          c.announcing.result c.requires.standing c.requires.asked c.requires.select at_place
          named whole status,
    )

pub returns-clause-fits : goal.returns-clause-fits
returns-clause-fits g c =
    let at_place = slice_get_read c.args.view.now.applications.now _ c.in-Some.application
    c.index-view-application.result refl c.in-Some.ensures.0 c.index-view-application.is in
    let both : Some c.index-view-application.result.aid ≡ Some c.args.aid.now =
    sym (ap (option_map (λ a. a.aid)) at_place) ∙ c.in-Some.ensures.1 in
    let named : c.index-view-application.result.aid ≡ c.args.aid.now = cc in
    let whole = select.information_left
    (entries_at c.args.view.now.applications.now (Some c.in-Some.application))
    c.information-response.result c.aid.result c.information-response.ensures
    ∙ ap control_information (c.aid.ensures ∙ ap (λ a. a.aid) (sym c.index-view-application.is)
    ∙ named) in
    let status = c.announcing.ensures (control_information c.args.aid.now)
    (ap length (sym whole) ∙ sym c.left-left.ensures) in (
      select.selects_standing c.args.view.now.applications.now c.args.view.now.selected
          c.args.view.now.chain.now c.args.view.now.response c.args.header c.args.cut
          c.args.aid.now c.in-Some.application c.index-view-application.result
          c.information-response.result
          c.announcing.result c.requires.standing c.requires.asked c.requires.select at_place
          named whole status c.in-Some.ensures.0
          (select.whole_response (entries_at c.args.view.now.applications.now
          (Some c.in-Some.application)) c.information-response.result
          (control_information c.aid.result) c.information-response.ensures),
      refl,
    )
