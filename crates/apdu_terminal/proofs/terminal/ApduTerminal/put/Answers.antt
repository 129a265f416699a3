use Rattle.std.proofs.Common.{sym, ◌∙◌, ap, length, drop}
use Rattle.card_terminal.specs.PieceLaws.{at_front}
use Rattle.card_terminal.specs.TalkLaws.{some_command}
use Rattle.apdu_terminal.proofs.OperationLemmas.{put_begins, is_within}
use Rattle.apdu_terminal.proofs.terminal.ApduTerminal.put.Goals as goal

pub unreachable-requires : goal.unreachable-requires
unreachable-requires g c =
    let (pieces, are, same) = c.pieces.ensures in
    some_command _ _ pieces _ are same c.in_default.ensures.steps.0

pub rest_after-rest-requires : goal.rest_after-rest-requires
rest_after-rest-requires g c =
    let (pieces, are, same) = c.pieces.ensures in
    let (more, is) = at_front c.put_header.result c.args.value.now pieces c.in-Some.first _ are
    (sym same ∙ c.in-Some.ensures.steps) in
    is_within c.args.value.now c.in-Some.first.content more _ is (ap length c.data.ensures.value)

pub returns-clause-begins : goal.returns-clause-begins
returns-clause-begins g c =
    let (pieces, are, same) = c.pieces.ensures in
    let (o, is, begins) = c.in_ok-begin.ensures.begins in
    record {
      begun = put_begins _ c.args.value.now _ _ _ c.put_header.result pieces _ _ c.in-Some.first o _
          c.put_header.ensures c.p1p2-p1.ensures are same c.in-Some.ensures.steps
          (c.rest_after-rest.ensures
          ∙ ap (λ n. drop n c.args.value.now) (ap length c.data.ensures.value))
          is begins;
      under_way = sym c.is_going.ensures.going ∙ c.if-is_going.false;
    }
