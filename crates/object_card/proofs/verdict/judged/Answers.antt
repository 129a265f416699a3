use Rattle.std.proofs.Common.{◌∙◌, sym, subst, ap, refl, length, arith, length-take, Option}
use Rattle.std.specs.Prelude.{IfSome, IsSome}
use Rattle.apdu_core.specs.StatusWord.{count}
use Rattle.apdu_core.specs.Chaining.{idle}
use Rattle.object_card.specs.CardFields.{IsResponse, entries_at, left_of, state_of}
use Rattle.object_card.specs.declared.response.Response.{Response}
use Rattle.object_card.proofs.InstructionLemmas.{ins_is}
use Rattle.object_card.proofs.VerdictLemmas as answer
use Rattle.object_card.proofs.verdict.judged.Goals as goal

pub returns-in-Some-clause-judged : goal.returns-in-Some-clause-judged
returns-in-Some-clause-judged g c = (
  state_of c.args.view.now.applications.now c.args.view.now.selected
      (idle c.args.view.now.chain.now.limit) c.kept-response.result,
  refl,
  answer.refused_does c.args.view.now.applications.now c.args.view.now.selected
      c.args.view.now.chain.now c.args.view.now.response c.kept-response.result
      (record { header = c.args.header; p3 = c.args.p3; cut = c.args.cut }) c.in-Some.status
      (sym c.refusal.ensures ∙ c.in-Some.is) c.kept-response.ensures,
)

pub unwrap-requires : goal.unwrap-requires
unwrap-requires g c =
    subst IsSome (sym c.of.ensures) (answer.instruction_known
    (state_of c.args.view.now.applications.now c.args.view.now.selected
    c.args.view.now.chain.now c.args.view.now.response) c.args.header c.args.p3
    (sym c.refusal.ensures ∙ c.in_default.is))

pub unwrap-response-requires : goal.unwrap-response-requires
unwrap-response-requires g c =
    let none = (sym c.refusal.ensures ∙ c.in_default.is) in
    let sending = answer.sends_where c.args.header c.unwrap.result
    (sym c.of.ensures ∙ c.unwrap.ensures) (sym c.takes_data.ensures ∙ c.if-takes_data.false) in
    answer.some_to_send
    (left_of (entries_at c.args.view.now.applications.now c.args.view.now.selected))
    c.to_send-sends.result _ (count c.args.p3) (c.to_send-sends.ensures.left sending)
    (answer.enough_left (state_of c.args.view.now.applications.now c.args.view.now.selected
    c.args.view.now.chain.now c.args.view.now.response) c.args.header c.args.p3 none sending)
    (answer.count_some c.args.p3)

pub returns-clause-judged : goal.returns-clause-judged
returns-clause-judged g c =
    let none = (sym c.refusal.ensures ∙ c.in_default.is) in
    let sending = answer.sends_where c.args.header c.unwrap.result
    (sym c.of.ensures ∙ c.unwrap.ensures) (sym c.takes_data.ensures ∙ c.if-takes_data.false) in
    let whole = answer.to_send_is
    (left_of (entries_at c.args.view.now.applications.now c.args.view.now.selected))
    c.to_send-sends.result c.unwrap-response.result _ c.unwrap-response.ensures
    (c.to_send-sends.ensures.left sending) in (
      refl,
      omega (
        arith,
        length-take (count c.args.p3)
            (left_of (entries_at c.args.view.now.applications.now
            c.args.view.now.selected) c.unwrap-response.result),
        ap length whole,
        answer.enough_left (state_of c.args.view.now.applications.now
            c.args.view.now.selected c.args.view.now.chain.now c.args.view.now.response)
            c.args.header c.args.p3 none sending,
      ),
    )

pub returns-then-takes_data-clause-permitted : goal.returns-then-takes_data-clause-permitted
returns-then-takes_data-clause-permitted g c = (
  c.unwrap.result,
  ins_is c.args.header.ins c.unwrap.result (sym c.of.ensures ∙ c.unwrap.ensures),
  sym c.takes_data.ensures ∙ c.if-takes_data.true,
)

pub returns-then-takes_data-clause-invalid : goal.returns-then-takes_data-clause-invalid
returns-then-takes_data-clause-invalid g c = λ invalid.
    answer.is_valid c.args.header.ins c.unwrap.result (sym c.of.ensures ∙ c.unwrap.ensures) invalid

pub returns-clause-invalid : goal.returns-clause-invalid
returns-clause-invalid g c = λ invalid.
    answer.is_valid c.args.header.ins c.unwrap.result (sym c.of.ensures ∙ c.unwrap.ensures) invalid

pub returns-clause-permitted : goal.returns-clause-permitted
returns-clause-permitted g c = (
  c.unwrap.result,
  ins_is c.args.header.ins c.unwrap.result (sym c.of.ensures ∙ c.unwrap.ensures),
  sym c.takes_data.ensures ∙ c.if-takes_data.false,
)

pub returns-clause-fits : goal.returns-clause-fits
returns-clause-fits g c =
    let v = c.args.view.now in
    let none = (sym c.refusal.ensures ∙ c.in_default.is) in
    let sending = answer.sends_where c.args.header c.unwrap.result
    (sym c.of.ensures ∙ c.unwrap.ensures) (sym c.takes_data.ensures ∙ c.if-takes_data.false) in
    let Held : Option Response → Type 0 = λ r. IfSome r
    (IsResponse (entries_at v.applications.now v.selected)) in (
      record {
        taken = none;
        small = c.ranges.p3.fits;
        cut_from = c.requires.cut.0;
        cut_to =
            c.requires.cut.1;
      },
      sending,
      subst Held c.unwrap-response.ensures c.to_send-sends.ensures.response,
      answer.to_send_is (left_of (entries_at v.applications.now v.selected))
          c.to_send-sends.result c.unwrap-response.result _ c.unwrap-response.ensures
          (c.to_send-sends.ensures.left sending),
      refl,
    )
