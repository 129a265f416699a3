use Rattle.std.proofs.Common.{◌≡◌, true, sym, subst, length, arith}
use Rattle.std.specs.Prelude.{if◌then◌else◌}
use Rattle.apdu_core.specs.CommandBytes.{Command}
use Rattle.t0_core.specs.Meaning.{IsReceiving, Decides, taken_with}
use Rattle.command_card.specs.declared.ready.Ending.{Ending}
use Rattle.command_card.specs.declared.ready.Ready.{Ready}
use Rattle.command_card.specs.declared.ready.Ready.TheVariants as ready
use Rattle.command_card.specs.Calls.{CallsOnce}
use Rattle.command_card.specs.Carrying.{Makes, taking}
use Rattle.command_card.specs.Meaning.{Does}
use Rattle.command_card.specs.View.{state_of, prepared_of, IsReady}
use Rattle.command_card.proofs.AnswerLemmas.{took_does, made_is}
use Rattle.command_card.proofs.answer.took.Goals as goal

pub returns-clause-decided : goal.returns-clause-decided
returns-clause-decided g c =
    let a = g.A.Application in
    let app = a.standing c.args.application.now in
    let kept = c.args.kept.now.items in
    let out = c.carried_out-status in
    let r = c.in-Receives in
    let now = a.standing out.new.application in
    let next = a.next out.new.application in
    let fresh = out.new.response.items in
    let has : length fresh ≡ c.len-left.result = omega (arith, c.len-left.ensures) in
    let Fits : Ready → Type 0 = λ x. IsReady a.takes a.Does app (a.next c.args.application.now)
    kept c.args.fresh.now.items c.args.waiting x in
    let Long : Ready → Type 0 = λ x. IsReceiving (prepared_of app (a.next c.args.application.now)
    kept c.args.fresh.now.items x) (λ ask. length c.args.content.now ≡ ask.p3) in
    let fits = subst Fits r.is c.requires.fits in
    let long = subst Long r.is c.requires.receives in
    let command_is : c.unwrap-command.result ≡ taking r.header c.args.content.now =
    made_is c.new.result _ (taking r.header c.args.content.now) c.unwrap-command.result
    c.new.ensures c.unwrap-command.ensures in
    let M : Command → Type 0 = λ m. Makes a.Does app m fresh out.result.0
    (if out.result.1 then next else app) in
    let last : Ending =
    record { settles = out.result.1; fresh = true; left = c.fetch_left.result } in
    let D : Ready → Type 0 = λ x. IsReceiving (prepared_of app (a.next c.args.application.now)
    kept c.args.fresh.now.items x) (λ ask. Decides (Does a.takes a.Does)
    (state_of app kept c.args.waiting) ask.cut
    (taken_with ask c.args.content.now c.announcing.result)
    (prepared_of now next kept fresh (ready.Leaves last))) in
    subst D (sym r.is)
    (took_does a.takes a.Does app now next kept fresh c.args.waiting r.header r.p3 r.cut
    c.args.content.now out.result.0 c.announcing.result out.result.1 c.fetch_left.result
    out.ensures.stands fits.0 long (subst M command_is out.ensures.makes)
    (c.announcing.ensures fresh has)
    (c.fetch_left.ensures.left fresh has))

pub returns-clause-called : goal.returns-clause-called
returns-clause-called g c =
    let a = g.A.Application in
    let now = c.args.application.now in
    let out = c.carried_out-status in
    let r = c.in-Receives in
    let content = c.args.content.now in
    let command_is : c.unwrap-command.result ≡ taking r.header content =
    made_is c.new.result _ (taking r.header content) c.unwrap-command.result
    c.new.ensures c.unwrap-command.ensures in
    let K : Ready → Type 0 = λ x. IsReceiving (prepared_of (a.standing now) (a.next now)
    c.args.kept.now.items c.args.fresh.now.items x) (λ ask.
    CallsOnce a.Called now (taking ask.header content) out.result.1 out.new.application) in
    subst K (sym r.is)
    (subst (λ (m : Command). CallsOnce a.Called now m out.result.1 out.new.application)
    command_is out.ensures.called)
