use Rattle.std.proofs.Common.{ap, length}
use Rattle.card_terminal.specs.PieceLaws.{next_front}
use Rattle.card_terminal.proofs.PartLemmas.{part_of, next_begins}
use Rattle.card_terminal.specs.TalkLaws.{some_command}
use Rattle.card_terminal.proofs.terminal.operation.Operation.begin_next.Goals as goal

pub unreachable-requires : goal.unreachable-requires
unreachable-requires g c =
    let (pieces, are, same) = c.pieces-commands.ensures in
    some_command _ _ pieces _ are same c.in_default.ensures.steps.0

pub invariant_of-self : goal.invariant_of-self
invariant_of-self g c =
    let (pieces, are, same) = c.pieces-commands.ensures in
    let size = ap length c.data.ensures.value in
    part_of c.self.inside.content.items c.in-Some.next.content _ _ c.again.new.self
    (next_front c.self.inside.content.items c.deref.result.now _ _ _ pieces _ _ c.in-Some.next
    c.deref.ensures.value are same c.in-Some.ensures.steps c.self.invariant.within size)
    c.again.ensures.sound

pub returns : goal.returns
returns g c =
    let (pieces, are, same) = c.pieces-commands.ensures in
    let size = ap length c.data.ensures.value in
    next_begins c.args.self.now _ c.again.new.self c.self.inside.content.items c.deref.result.now _
    _ _ _ _ _ _ _ pieces _ _ c.in-Some.next c.self.view_is c.requires.sent
    c.requires.done c.requires.more
    c.deref.ensures.value c.put_header.ensures are same c.in-Some.ensures.steps
    c.self.invariant.within size c.again.ensures.begins c.again.ensures.led
    c.again.ensures.sound c.again.ensures.by_characters c.again.ensures.limit
