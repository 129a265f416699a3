use Rattle.std.proofs.Common.{◌≡◌, ◌∙◌, ◌++◌, sym, ap, Some, length, arith}
use Rattle.std.specs.Option.{option_copied, option_map}
use Rattle.tlv_core.specs.Length.{shortest}
use Rattle.tlv_core.specs.Spelling.{object_bytes}
use Rattle.object_card.specs.CardFields.{entries_at, value_at, left_of, state_of}
use Rattle.object_card.proofs.CardFieldLemmas as held
use Rattle.object_card.proofs.HeaderRefusalLemmas as refusals
use Rattle.object_card.proofs.lookup.object_asked.Goals as goal

pub overflow_cast-len : goal.overflow_cast-len
overflow_cast-len g c =
    let at_place = sym c.chosen.ensures ∙ ap option_copied c.in_ok-application.was in
    let found = sym c.find.ensures.value
    ∙ ap (option_map (λ place. value_at c.in_ok-application.application.now.entries
    (Some place))) c.in-Some.is in
    let few = held.value-fits c.args.view.now.applications.now c.args.view.now.selected
    c.args.view.now.chain.now c.args.view.now.response c.in_ok-application.application.now _ _
    c.requires.standing.sound at_place found in
    omega (arith, few, ap length c.value-len.ensures)

pub returns-clause-asked : goal.returns-clause-asked
returns-clause-asked g c =
    let at_place = sym c.chosen.ensures ∙ ap option_copied c.in_ok-application.was in
    let found = sym c.find.ensures.value
    ∙ ap (option_map (λ place. value_at c.in_ok-application.application.now.entries
    (Some place))) c.in-Some.is in
    let selected = held.selected-known c.args.view.now.applications.now c.args.view.now.selected
    c.args.view.now.chain.now c.args.view.now.response c.in_ok-application.application.now
    c.requires.standing.sound at_place in
    let named = sym c.named.ensures ∙ c.in_ok-tag.was in
    let entries = held.entries-known c.args.view.now.applications.now c.args.view.now.selected
    c.in_ok-application.application.now at_place in
    let value = value_at c.in_ok-application.application.now.entries (Some c.in-Some.place) in
    let whole : left_of (entries_at c.args.view.now.applications.now c.args.view.now.selected)
    c.object.result ≡ object_bytes c.in_ok-tag.tag value =
    ap (λ es. left_of es c.object.result) entries
    ∙ held.whole_left _ c.object.result _ _ c.object.ensures
    ∙ ap (λ f. f ++ value) (c.head.ensures ∙ ap (λ t. t ++ shortest (length c.value-len.result.now))
    c.tag.ensures.tag)
    ∙ ap (λ v. c.in_ok-tag.tag ++ shortest (length v) ++ value) c.value-len.ensures in
    ap Some whole
    ∙ sym (refusals.asked_known
    (state_of c.args.view.now.applications.now c.args.view.now.selected
    c.args.view.now.chain.now c.args.view.now.response) c.args.header _ _ selected named
    ∙ ap (option_map (object_bytes c.in_ok-tag.tag)) found)

pub returns-in_default-clause-asked : goal.returns-in_default-clause-asked
returns-in_default-clause-asked g c =
    let at_place = sym c.chosen.ensures ∙ ap option_copied c.in_ok-application.was in
    let found = sym c.find.ensures.value
    ∙ ap (option_map (λ place. value_at c.in_ok-application.application.now.entries
    (Some place))) c.in_default.is in
    let selected = held.selected-known c.args.view.now.applications.now c.args.view.now.selected
    c.args.view.now.chain.now c.args.view.now.response c.in_ok-application.application.now
    c.requires.standing.sound at_place in
    let named = sym c.named.ensures ∙ c.in_ok-tag.was in
    sym (refusals.asked_known
    (state_of c.args.view.now.applications.now c.args.view.now.selected
    c.args.view.now.chain.now c.args.view.now.response) c.args.header _ _ selected named
    ∙ ap (option_map (object_bytes c.in_ok-tag.tag)) found)
