use Rattle.std.proofs.Common.{◌∙◌, sym, ap, Some, length}
use Rattle.std.specs.Option.{option_copied}
use Rattle.object_card.specs.CardFields.{entries_at, state_of}
use Rattle.object_card.proofs.CardFieldLemmas as held
use Rattle.object_card.proofs.HeaderRefusalLemmas as refusals
use Rattle.object_card.proofs.header_refusals.put_refusal.Goals as goal

pub returns-then-is_locked : goal.returns-then-is_locked
returns-then-is_locked g c =
    let at_place = sym c.chosen.ensures ∙ ap option_copied c.in-Some.is in
    let selected = held.selected-known c.args.view.now.applications.now c.args.view.now.selected
    c.args.view.now.chain.now c.args.view.now.response c.in-Some.application.now
    c.requires.standing.sound at_place in
    let named = sym c.named.ensures ∙ c.unwrap-tag.ensures in
    ap Some c.status-then-is_locked.ensures
    ∙ sym (refusals.put_locked
    (state_of c.args.view.now.applications.now c.args.view.now.selected
    c.args.view.now.chain.now c.args.view.now.response) c.args.header c.args.p3 _ _
    c.requires.ins selected named (sym c.is_locked.ensures ∙ c.if-is_locked.true))

pub returns-then-len-p3-gt-VALUE_LIMIT : goal.returns-then-len-p3-gt-VALUE_LIMIT
returns-then-len-p3-gt-VALUE_LIMIT g c =
    let at_place = sym c.chosen.ensures ∙ ap option_copied c.in-Some.is in
    let selected = held.selected-known c.args.view.now.applications.now c.args.view.now.selected
    c.args.view.now.chain.now c.args.view.now.response c.in-Some.application.now
    c.requires.standing.sound at_place in
    let named = sym c.named.ensures ∙ c.unwrap-tag.ensures in
    let chained =
    ap length
    (held.chained-bytes (entries_at c.args.view.now.applications.now
    c.args.view.now.selected) c.args.view.now.chain.now c.args.view.now.response
    c.len.ensures.chain c.requires.standing.alone) ∙ sym c.len.ensures.value in
    ap Some c.status-then-len-p3-gt-VALUE_LIMIT.ensures
    ∙ sym (refusals.put_long (state_of c.args.view.now.applications.now c.args.view.now.selected
    c.args.view.now.chain.now c.args.view.now.response) c.args.header c.args.p3 c.len.result _ _
    c.requires.ins selected named (sym c.is_locked.ensures ∙ c.if-is_locked.false)
    chained c.if-len-p3-gt-VALUE_LIMIT.true)

pub returns : goal.returns
returns g c =
    let at_place = sym c.chosen.ensures ∙ ap option_copied c.in-Some.is in
    let selected = held.selected-known c.args.view.now.applications.now c.args.view.now.selected
    c.args.view.now.chain.now c.args.view.now.response c.in-Some.application.now
    c.requires.standing.sound at_place in
    let named = sym c.named.ensures ∙ c.unwrap-tag.ensures in
    let chained =
    ap length
    (held.chained-bytes (entries_at c.args.view.now.applications.now
    c.args.view.now.selected) c.args.view.now.chain.now c.args.view.now.response
    c.len.ensures.chain c.requires.standing.alone) ∙ sym c.len.ensures.value in
    sym (refusals.put_fits (state_of c.args.view.now.applications.now c.args.view.now.selected
    c.args.view.now.chain.now c.args.view.now.response) c.args.header c.args.p3 c.len.result _ _
    c.requires.ins selected named (sym c.is_locked.ensures ∙ c.if-is_locked.false)
    chained c.if-len-p3-gt-VALUE_LIMIT.false)
