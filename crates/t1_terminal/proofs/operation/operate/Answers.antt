use Rattle.std.proofs.Common.{refl, ap, subst, ◌∙◌}
use Rattle.std.specs.Prelude.{is_some}
use Rattle.card_terminal.specs.Operations.{operation_of}
use Rattle.apdu_terminal.specs.ApduOperations.{ApduTerminalOf}
use Rattle.t0_core.specs.CardSide.{EndOf}
use Rattle.t1_terminal.specs.Operated.{Takes}
use Rattle.t1_terminal.proofs.OperateLemmas.{applet, is_there, when_none}
use Rattle.t1_terminal.proofs.operation.operate.Goals as goal

pub go_through-requires-clause-begun : goal.go_through-requires-clause-begun
go_through-requires-clause-begun g c =
    let (commands, are, leads) = c.in_ok-begin.ensures.begun in
    (operation_of c.args.op.now, commands, are, leads)

pub go_through-requires-clause-limit : goal.go_through-requires-clause-limit
go_through-requires-clause-limit g c = (
  c.begin.ensures.limit.stays ∙ ap (λ (t : ApduTerminalOf). t.limit) c.new-terminal.ensures,
  record { stays = refl; is_room = c.begin.ensures.limit.is_room },
)

pub returns-in-Some-clause-operated : goal.returns-in-Some-clause-operated
returns-in-Some-clause-operated g c =
    let (commands, are, leads) = c.in_ok-begin.ensures.begun in
    let gives_up = rw c.in-Some.is at c.go_through.ensures in
    gives_up (operation_of c.args.op.now) commands are leads

pub unreachable-requires : goal.unreachable-requires
unreachable-requires g c =
    let (ready, over, led) =
    when_none _ _ _ c.in_default.not-Some c.go_through.ensures in
    is_there _ c.into_answer.result c.in_default-into_answer.not-Some
    (ap is_some c.into_answer.ensures.is ∙ over)

pub returns-clause-operated : goal.returns-clause-operated
returns-clause-operated g c =
    let card = g.C.TpduCard in
    let standing = λ (x : EndOf g.row.C.Denot). card.standing x.card in
    let (commands, are, leads) = c.in_ok-begin.ensures.begun in
    let (ready, over, led) =
    when_none _ _ _ c.in_default.not-Some c.go_through.ensures in
    let (here, on, takes) = led commands leads in
    let (exchanges, apdus, same) = c.in-Some-into_answer.ensures.led commands here on in (
      ready,
      (
        exchanges,
        (commands, are, apdus),
        subst (λ ps. Takes (applet card.Does standing) (g.L.Line.passed c.args.line.now)
            c.args.ends.now ps (g.L.Line.passed c.go_through.new.line) c.go_through.new.ends) same
            takes,
      ),
    )
