use Rattle.std.proofs.Common.{sym, ◌∙◌}
use Rattle.card_terminal.specs.PieceLaws.{at_front}
use Rattle.card_terminal.proofs.PartLemmas.{put_begins, begins_by_characters}
use Rattle.card_terminal.specs.TalkLaws.{some_command}
use Rattle.card_terminal.proofs.terminal.Terminal.put.Goals as goal

pub unreachable-requires : goal.unreachable-requires
unreachable-requires g c =
    let (pieces, are, same) = c.pieces.ensures in
    some_command _ _ pieces _ are same c.in_default.ensures.steps.0

pub begin-requires : goal.begin-requires
begin-requires g c =
    let (pieces, are, same) = c.pieces.ensures in
    record {
      front = at_front c.put_header.result c.args.value.now pieces c.in-Some.first _ are
          (sym same ∙ c.in-Some.ensures.steps);
    }

pub returns-clause-begins : goal.returns-clause-begins
returns-clause-begins g c =
    let (pieces, are, same) = c.pieces.ensures in
    let (o, is, begins) = c.in_ok-begin.ensures.begins in
    record {
      begun = put_begins _ c.args.value.now _ _ c.put_header.result pieces _ _ c.in-Some.first o _
          c.put_header.ensures c.p1p2-p1.ensures are same c.in-Some.ensures.steps is begins;
      by_characters = begins_by_characters o _ is begins;
      under_way = sym c.is_going.ensures.going ∙ c.if-is_going.false;
    }
