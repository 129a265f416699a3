use Rattle.std.proofs.Common.{[], ◌∷◌, refl, sym, ap, subst, ◌∙◌}
use Rattle.std.specs.List.{AllByRecursion}
use Rattle.apdu_core.specs.Chaining.{IsPieces, chain_commands}
use Rattle.object_card.specs.CarryingOut.{put_header}
use Rattle.object_card.specs.OneStep.{Select, Get, Put}
use Rattle.object_card.specs.Agreed.{IsAgreed}
use Rattle.card_terminal.specs.Conversing.{point}
use Rattle.card_terminal.specs.Operations.{operation_of}
use Rattle.card_terminal.specs.AgreedLaws.{agreed_pieces, agreed_select, keeps_to}
use Rattle.card_terminal.specs.TalkLaws.{some_command}
use Rattle.card_terminal.proofs.RunLemmas.{sent_alone, talked, talked_as}
use Rattle.card_terminal.proofs.session.Session.carry_out.Goals as goal

pub send_in-requires-clause-agreed : goal.send_in-requires-clause-agreed
send_in-requires-clause-agreed g c =
    let card = g.C.TpduCard in
    let own = g.met.C.DataCard in
    subst (λ x. IsAgreed card.MayReceive card.MaySend x) (sym c.select_command.ensures.command)
    (agreed_select card.MayReceive card.MaySend
    (keeps_to card.MayReceive card.MaySend own.receives own.sends) c.in-Select.aid
    c.select_command.ensures.aid)

pub returns-in-Select : goal.returns-in-Select
returns-in-Select g c =
    let card = g.C.TpduCard in
    let from = point (card.standing c.args.self.now) c.args.plans.now.rest
    (g.W.Watch.hearing c.args.watch.now) in
    talked_as card.Does from _
    (Select c.in-Select.aid) _ c.send_in.result (sym (ap operation_of c.in-Select.is))
    (talked card.Does from _
    (c.select_command.result ∷ []) (Select c.in-Select.aid) c.send_in.result
    (c.select_command.ensures.aid, ap (λ x. x ∷ []) c.select_command.ensures.command)
    (sent_alone card.Does from _
    c.select_command.result c.send_in.result c.send_in.ensures))

pub returns-in-Get : goal.returns-in-Get
returns-in-Get g c =
    let card = g.C.TpduCard in
    let from = point (card.standing c.args.self.now) c.args.plans.now.rest
    (g.W.Watch.hearing c.args.watch.now) in
    let (p1, p2, names, same) = c.get_command.ensures in
    talked_as card.Does from _
    (Get c.in-Get.tag) _ c.send_in-in-Get.result (sym (ap operation_of c.in-Get.is))
    (talked card.Does from _
    (c.get_command.result ∷ []) (Get c.in-Get.tag) c.send_in-in-Get.result
    (p1, p2, names, ap (λ x. x ∷ []) same)
    (sent_alone card.Does from _
    c.get_command.result c.send_in-in-Get.result c.send_in-in-Get.ensures))

pub unreachable-requires : goal.unreachable-requires
unreachable-requires g c =
    let (pieces, are, same) = c.pieces-commands.ensures in
    some_command _ c.bytes.result.now pieces _ are same c.in_default.ensures.steps.0

pub chain-requires-clause-agreed : goal.chain-requires-clause-agreed
chain-requires-clause-agreed g c =
    let card = g.C.TpduCard in
    let own = g.met.C.DataCard in
    let (pieces, are, same) = c.pieces-commands.ensures in
    subst (λ cs. AllByRecursion (λ x. IsAgreed card.MayReceive card.MaySend x) cs)
    (sym same ∙ c.in-Some.ensures.steps)
    (subst (λ h. AllByRecursion (λ x. IsAgreed card.MayReceive card.MaySend x)
    (chain_commands h pieces)) (sym c.put_header.ensures)
    (agreed_pieces card.MayReceive card.MaySend
    (keeps_to card.MayReceive card.MaySend own.receives own.sends)
    (put_header c.p1p2-p1.result.0 c.p1p2-p1.result.1) refl pieces))

pub returns-in-Some : goal.returns-in-Some
returns-in-Some g c =
    let card = g.C.TpduCard in
    let from = point (card.standing c.args.self.now) c.args.plans.now.rest
    (g.W.Watch.hearing c.args.watch.now) in
    let (pieces, are, same) = c.pieces-commands.ensures in
    talked_as card.Does from _ (Put c.in-Put.tag c.in-Put.value) _ c.chain.result
    (sym (ap operation_of c.in-Put.is))
    (talked card.Does from _ (c.in-Some.first ∷ c.next.new.self)
    (Put c.in-Put.tag c.in-Put.value) c.chain.result (
      c.p1p2-p1.result.0,
      c.p1p2-p1.result.1,
      pieces,
      c.p1p2-p1.ensures,
      subst (λ v. IsPieces v pieces) c.bytes.ensures are,
      sym c.in-Some.ensures.steps ∙ same
          ∙ ap (λ h. chain_commands h pieces) c.put_header.ensures,
    ) c.chain.ensures)
