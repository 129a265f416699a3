use Rattle.std.specs.Prelude.{IfSome, IsSome, true, false}
use Rattle.apdu_core.specs.Chaining.{as_last}
use Rattle.std.proofs.Common.{◌≡◌, ◌∙◌, sym, ap, subst, Some}
use Rattle.object_card.specs.declared.instructions.Instruction.TheVariants.{Select}
use Rattle.object_card.proofs.InstructionLemmas.{ins_is}
use Rattle.object_card.specs.CardFields.{entries_at, state_of}
use Rattle.object_card.proofs.HeaderRefusalLemmas as refusals
use Rattle.object_card.proofs.header_refusals.refusal.Goals as goal

pub returns-in-Some : goal.returns-in-Some
returns-in-Some g c =
    let goes_on = refusals.goes_on_with
    (entries_at c.args.view.now.applications.now c.args.view.now.selected)
    c.args.view.now.chain.now c.args.view.now.response c.args.header
    (c.accepts.ensures.0 c.if-not-accepts.false) c.requires.standing.of_puts in
    sym (refusals.turn_form (state_of c.args.view.now.applications.now c.args.view.now.selected
    c.args.view.now.chain.now c.args.view.now.response) c.args.header c.args.p3 _ goes_on
    (sym (c.form_refusal.ensures
    (state_of c.args.view.now.applications.now c.args.view.now.selected
    c.args.view.now.chain.now c.args.view.now.response) c.args.p3) ∙ c.in-Some.is))

pub put_refusal-requires-clause-fits : goal.put_refusal-requires-clause-fits
put_refusal-requires-clause-fits g c = refusals.form_fits
    (state_of c.args.view.now.applications.now c.args.view.now.selected c.args.view.now.chain.now
    c.args.view.now.response) c.args.header c.args.p3
    (sym (c.form_refusal.ensures
    (state_of c.args.view.now.applications.now c.args.view.now.selected
    c.args.view.now.chain.now c.args.view.now.response) c.args.p3)
    ∙ c.in_default.is)

pub unwrap-requires : goal.unwrap-requires
unwrap-requires g c =
    subst IsSome (sym c.of.ensures) (refusals.form_known (state_of c.args.view.now.applications.now
    c.args.view.now.selected c.args.view.now.chain.now c.args.view.now.response) c.args.header
    c.args.p3
    (sym (c.form_refusal.ensures
    (state_of c.args.view.now.applications.now c.args.view.now.selected
    c.args.view.now.chain.now c.args.view.now.response) c.args.p3)
    ∙ c.in_default.is))

pub returns-in-Select : goal.returns-in-Select
returns-in-Select g c =
    let goes_on = refusals.goes_on_with
    (entries_at c.args.view.now.applications.now c.args.view.now.selected)
    c.args.view.now.chain.now c.args.view.now.response c.args.header
    (c.accepts.ensures.0 c.if-not-accepts.false) c.requires.standing.of_puts in
    c.select_refusal.ensures (state_of c.args.view.now.applications.now c.args.view.now.selected
    c.args.view.now.chain.now c.args.view.now.response) c.args.header
    (ins_is c.args.header.ins Select (sym c.of.ensures ∙ c.unwrap.ensures ∙ ap Some c.in-Select.is))
    ∙ sym (refusals.turn_state
    (state_of c.args.view.now.applications.now c.args.view.now.selected
    c.args.view.now.chain.now c.args.view.now.response) c.args.header c.args.p3 goes_on
    (sym (c.form_refusal.ensures
    (state_of c.args.view.now.applications.now c.args.view.now.selected
    c.args.view.now.chain.now c.args.view.now.response) c.args.p3)
    ∙ c.in_default.is))

pub returns-in-PutData : goal.returns-in-PutData
returns-in-PutData g c =
    let goes_on = refusals.goes_on_with
    (entries_at c.args.view.now.applications.now c.args.view.now.selected)
    c.args.view.now.chain.now c.args.view.now.response c.args.header
    (c.accepts.ensures.0 c.if-not-accepts.false) c.requires.standing.of_puts in
    c.put_refusal.ensures
    ∙ sym (refusals.turn_state
    (state_of c.args.view.now.applications.now c.args.view.now.selected
    c.args.view.now.chain.now c.args.view.now.response) c.args.header c.args.p3 goes_on
    (sym (c.form_refusal.ensures
    (state_of c.args.view.now.applications.now c.args.view.now.selected
    c.args.view.now.chain.now c.args.view.now.response) c.args.p3)
    ∙ c.in_default.is))

pub returns-in-GetData : goal.returns-in-GetData
returns-in-GetData g c =
    let goes_on = refusals.goes_on_with
    (entries_at c.args.view.now.applications.now c.args.view.now.selected)
    c.args.view.now.chain.now c.args.view.now.response c.args.header
    (c.accepts.ensures.0 c.if-not-accepts.false) c.requires.standing.of_puts in
    c.get_refusal.ensures
    ∙ sym (refusals.turn_state
    (state_of c.args.view.now.applications.now c.args.view.now.selected
    c.args.view.now.chain.now c.args.view.now.response) c.args.header c.args.p3 goes_on
    (sym (c.form_refusal.ensures
    (state_of c.args.view.now.applications.now c.args.view.now.selected
    c.args.view.now.chain.now c.args.view.now.response) c.args.p3)
    ∙ c.in_default.is))

pub returns-in-GetResponse : goal.returns-in-GetResponse
returns-in-GetResponse g c =
    let goes_on = refusals.goes_on_with
    (entries_at c.args.view.now.applications.now c.args.view.now.selected)
    c.args.view.now.chain.now c.args.view.now.response c.args.header
    (c.accepts.ensures.0 c.if-not-accepts.false) c.requires.standing.of_puts in
    c.get_response_refusal.ensures
    ∙ sym (refusals.turn_state
    (state_of c.args.view.now.applications.now c.args.view.now.selected
    c.args.view.now.chain.now c.args.view.now.response) c.args.header c.args.p3 goes_on
    (sym (c.form_refusal.ensures
    (state_of c.args.view.now.applications.now c.args.view.now.selected
    c.args.view.now.chain.now c.args.view.now.response) c.args.p3)
    ∙ c.in_default.is))

pub returns-then-not-accepts : goal.returns-then-not-accepts
returns-then-not-accepts g c =
    let v = c.args.view.now in
    let other : IfSome v.chain.now.pending (λ first. as_last c.args.header ≡ first) → ⊥ =
    λ continues. let e : false ≡ true = sym c.if-not-accepts.true ∙ c.accepts.ensures.1 continues in
    absurd (cc) in
    ap (λ x. Some x) c.status.ensures
    ∙ sym (refusals.turn_chain (state_of v.applications.now v.selected v.chain.now v.response)
    c.args.header c.args.p3
    (refusals.breaks_with (entries_at v.applications.now v.selected) v.chain.now v.response
    c.args.header other c.requires.standing.alone c.requires.standing.of_puts))
