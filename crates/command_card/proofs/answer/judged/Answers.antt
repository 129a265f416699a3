use Rattle.std.proofs.Common.{◌≡◌, ◌∙◌, ℕ, drop, Some, None, true, false, refl, sym, ap, subst, eq-eqb}
use Rattle.std.specs.Prelude.{if◌then◌else◌}
use Rattle.std.proofs.lemmas.Bool.{ne_eqb}
use Rattle.apdu_core.specs.CommandBytes.{Command}
use Rattle.apdu_core.specs.StatusWord.{StatusWord, count}
use Rattle.command_card.specs.Carrying.{Makes, asking}
use Rattle.command_card.specs.State.{Hand, refusing, handed, For_repeat}
use Rattle.command_card.specs.Meaning.{Answers, Asks, Hands, Invalid, Kind, Unfetched, kind_in}
use Rattle.command_card.specs.View.{state_of}
use Rattle.command_card.proofs.AnswerLemmas.{judges, kind_by, made_is, refusal_is, refusal_allowed, hand_allowed, asked_allowed}
use Rattle.command_card.proofs.CallLemmas.{asked_called, none_called}
use Rattle.command_card.proofs.answer.judged.Goals as goal

pub returns-then-not-ins_is_valid-clause-judged : goal.returns-then-not-ins_is_valid-clause-judged
returns-then-not-ins_is_valid-clause-judged g c =
    let a = g.A.Application in
    let app = a.standing c.args.application.now in
    let kept = c.args.kept.now.items in
    let h = c.args.header in
    let invalid = sym c.ins_is_valid.ensures ∙ c.if-not-ins_is_valid.true in
    let old = state_of app kept c.args.waiting in
    judges a.takes a.Does app app (a.next c.args.application.now) kept c.args.fresh.now.items
    c.args.waiting h c.args.p3 c.args.cut (refusing c.word.result) false false _ _ refl
    (refusal_allowed a.takes a.Does old h c.args.p3 c.args.cut c.word.result Invalid
    (kind_by _ false _ _ _ _ _ _ invalid refl refl refl)
    (λ t new is. subst (λ (s : StatusWord). Answers old t new (refusing s)) c.word.ensures is))
    (c.refused.ensures.prepares kept h c.args.p3 c.args.cut)

pub returns-then-not-ins_is_valid-clause-invalid :
    goal.returns-then-not-ins_is_valid-clause-invalid
returns-then-not-ins_is_valid-clause-invalid g c =
    λ invalid. refusal_is _ _ c.refused.ensures.refuses

pub returns-in-Some-clause-judged : goal.returns-in-Some-clause-judged
returns-in-Some-clause-judged g c =
    let a = g.A.Application in
    let app = a.standing c.args.application.now in
    let kept = c.args.kept.now.items in
    let h = c.args.header in
    let valid = sym c.ins_is_valid.ensures ∙ c.if-not-ins_is_valid.false in
    let old = state_of app kept c.args.waiting in
    let place = c.in-Some.place in
    let hand : Hand = record { bytes = drop place.0 kept; status = place.1 } in
    judges a.takes a.Does app app (a.next c.args.application.now) kept c.args.fresh.now.items
    c.args.waiting h c.args.p3 c.args.cut
    (handed old.left hand.bytes hand.status (count c.args.p3) c.args.cut) false false _ _ refl
    (hand_allowed a.takes a.Does old h c.args.p3 c.args.cut hand
    (kind_by _ true _ (Some hand) _ _ _ _ valid (sym c.in-Some.ensures) refl refl))
    c.handed.ensures.prepares

pub returns-then-header-eq-GET_RESPONSE-clause-judged :
    goal.returns-then-header-eq-GET_RESPONSE-clause-judged
returns-then-header-eq-GET_RESPONSE-clause-judged g c =
    let a = g.A.Application in
    let app = a.standing c.args.application.now in
    let kept = c.args.kept.now.items in
    let h = c.args.header in
    let valid = sym c.ins_is_valid.ensures ∙ c.if-not-ins_is_valid.false in
    let old = state_of app kept c.args.waiting in
    let word = c.word-then-header-eq-GET_RESPONSE in
    judges a.takes a.Does app app (a.next c.args.application.now) kept c.args.fresh.now.items
    c.args.waiting h c.args.p3 c.args.cut (refusing word.result) false false _ _ refl
    (refusal_allowed a.takes a.Does old h c.args.p3 c.args.cut word.result Unfetched
    (kind_by _ true _ None _ true _ _ valid (sym c.in_default.ensures)
    (eq-eqb h.ins 192 c.if-header-eq-GET_RESPONSE.true) refl)
    (λ t new is. subst (λ (s : StatusWord). Answers old t new (refusing s)) word.ensures is))
    (c.refused-then-header-eq-GET_RESPONSE.ensures.prepares kept h c.args.p3 c.args.cut)

pub returns-clause-judged : goal.returns-clause-judged
returns-clause-judged g c =
    let a = g.A.Application in
    let app = a.standing c.args.application.now in
    let kept = c.args.kept.now.items in
    let h = c.args.header in
    let p3 = c.args.p3 in
    let valid = sym c.ins_is_valid.ensures ∙ c.if-not-ins_is_valid.false in
    let old = state_of app kept c.args.waiting in
    let out = c.carried_out-status in
    let now = a.standing out.new.application in
    let next = a.next out.new.application in
    let fresh = out.new.response.items in
    let command_is : c.unwrap-command.result ≡ asking h (count p3) =
    made_is c.new.result _ (asking h c.count.result) c.unwrap-command.result c.new.ensures
    c.unwrap-command.ensures
    ∙ ap (λ (n : ℕ). asking h n) c.count.ensures in
    let M : Command → Type 0 = λ m. Makes a.Does app m fresh out.result.0
    (if out.result.1 then next else app) in
    judges a.takes a.Does app now next kept fresh
    c.args.waiting h p3 c.args.cut
    (handed (For_repeat h fresh out.result.0) fresh out.result.0 (count p3) c.args.cut)
    out.result.1 true _ _ out.ensures.stands
    (asked_allowed a.takes a.Does old h p3 c.args.cut fresh out.result.0
    (if out.result.1 then next else app)
    (kind_by _ true _ None _ false _ false valid (sym c.in_default.ensures)
    (ne_eqb h.ins 192 c.if-header-eq-GET_RESPONSE.false)
    (sym c.takes_data.ensures ∙ c.if-takes_data.false))
    (subst M command_is out.ensures.makes))
    c.handed-2.ensures.prepares

pub returns-then-not-ins_is_valid-clause-called :
    goal.returns-then-not-ins_is_valid-clause-called
returns-then-not-ins_is_valid-clause-called g c =
    let a = g.A.Application in
    let h = c.args.header in
    let k : Kind = kind_in a.takes (state_of (a.standing c.args.application.now)
    c.args.kept.now.items c.args.waiting) h c.args.p3 in
    let invalid = sym c.ins_is_valid.ensures ∙ c.if-not-ins_is_valid.true in
    let is : k ≡ Invalid = kind_by _ false _ _ _ _ _ _ invalid refl refl refl in
    none_called a.Called k (Invalid) h c.args.p3 c.args.application.now _ is tt
    c.refused.ensures.ending

pub returns-then-header-eq-GET_RESPONSE-clause-called :
    goal.returns-then-header-eq-GET_RESPONSE-clause-called
returns-then-header-eq-GET_RESPONSE-clause-called g c =
    let a = g.A.Application in
    let h = c.args.header in
    let k : Kind = kind_in a.takes (state_of (a.standing c.args.application.now)
    c.args.kept.now.items c.args.waiting) h c.args.p3 in
    let valid = sym c.ins_is_valid.ensures ∙ c.if-not-ins_is_valid.false in
    let is : k ≡ Unfetched = kind_by _ true _ None _ true _ _ valid (sym c.in_default.ensures)
    (eq-eqb h.ins 192 c.if-header-eq-GET_RESPONSE.true) refl in
    none_called a.Called k (Unfetched) h c.args.p3 c.args.application.now _ is tt
    c.refused-then-header-eq-GET_RESPONSE.ensures.ending

pub returns-in-Some-clause-called : goal.returns-in-Some-clause-called
returns-in-Some-clause-called g c =
    let a = g.A.Application in
    let h = c.args.header in
    let k : Kind = kind_in a.takes (state_of (a.standing c.args.application.now)
    c.args.kept.now.items c.args.waiting) h c.args.p3 in
    let valid = sym c.ins_is_valid.ensures ∙ c.if-not-ins_is_valid.false in
    let place = c.in-Some.place in
    let hand : Hand = record { bytes = drop place.0 c.args.kept.now.items; status = place.1 } in
    let is : k ≡ Hands hand = kind_by _ true _ (Some hand) _ _ _ _ valid
    (sym c.in-Some.ensures) refl refl in
    none_called a.Called k (Hands hand) h c.args.p3 c.args.application.now _ is tt
    c.handed.ensures.ending

pub returns-clause-called : goal.returns-clause-called
returns-clause-called g c =
    let a = g.A.Application in
    let h = c.args.header in
    let p3 = c.args.p3 in
    let valid = sym c.ins_is_valid.ensures ∙ c.if-not-ins_is_valid.false in
    let k : Kind = kind_in a.takes (state_of (a.standing c.args.application.now)
    c.args.kept.now.items c.args.waiting) h p3 in
    let out = c.carried_out-status in
    let command_is : c.unwrap-command.result ≡ asking h (count p3) =
    made_is c.new.result _ (asking h c.count.result) c.unwrap-command.result c.new.ensures
    c.unwrap-command.ensures
    ∙ ap (λ (n : ℕ). asking h n) c.count.ensures in
    let is : k ≡ Asks = kind_by _ true _ None _ false _ false valid (sym c.in_default.ensures)
    (ne_eqb h.ins 192 c.if-header-eq-GET_RESPONSE.false)
    (sym c.takes_data.ensures ∙ c.if-takes_data.false) in
    asked_called a.Called k h p3 c.unwrap-command.result c.args.application.now
    out.new.application out.result.1 _ is command_is c.handed-2.ensures.ending out.ensures.called
