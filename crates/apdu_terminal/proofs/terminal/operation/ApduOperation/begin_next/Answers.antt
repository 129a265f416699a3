use Rattle.std.proofs.Common.{[], ◌∙◌, arith, ap, length, subst}
use Rattle.t0_core.specs.Room.{Room}
use Rattle.exchange_core.specs.declared.wanted.Wanted.{Wanted}
use Rattle.exchange_core.specs.Gathered.{wanted_by}
use Rattle.apdu_terminal.specs.ApduSide.{ComesTo, of_mark}
use Rattle.card_terminal.specs.PieceLaws.{next_front}
use Rattle.card_terminal.specs.TalkLaws.{some_command}
use Rattle.apdu_terminal.proofs.OperationLemmas.{part_of, next_begins}
use Rattle.apdu_terminal.proofs.terminal.operation.ApduOperation.begin_next.Goals as goal

pub unreachable-requires : goal.unreachable-requires
unreachable-requires g c =
    let (pieces, are, same) = c.pieces-commands.ensures in
    some_command _ _ pieces _ are same c.in_default.ensures.steps.0

pub invariant_of-self : goal.invariant_of-self
invariant_of-self g c =
    let (pieces, are, same) = c.pieces-commands.ensures in
    let size = ap length c.data.ensures.value in
    part_of c.self.inside.content.items c.in-Some.next.content _ _ c.clear.new.self
    c.first-self-inside.result
    (next_front c.self.inside.content.items c.deref.result.now _ _ _ pieces _ _ c.in-Some.next
    c.deref.ensures.value are same c.in-Some.ensures.steps c.self.invariant.within size)
    (c.first-self-inside.ensures.sound c.clear.new.self (ap (λ (r : Room). r.bytes) c.clear.ensures)
    (omega (arith, ap (λ (r : Room). r.limit) c.clear.ensures, c.self.invariant.sound.room)))

pub returns : goal.returns
returns g c =
    let (pieces, are, same) = c.pieces-commands.ensures in
    let size = ap length c.data.ensures.value in
    next_begins c.args.self.now _ c.clear.new.self c.first-self-inside.result
    c.self.inside.content.items c.deref.result.now _ _ _ _ _ pieces _ _ c.in-Some.next
    c.self.view_is c.requires.done c.requires.more c.deref.ensures.value c.put_header.ensures are
    same c.in-Some.ensures.steps
    (next_front c.self.inside.content.items c.deref.result.now _ _ _ pieces _ _ c.in-Some.next
    c.deref.ensures.value are same c.in-Some.ensures.steps c.self.invariant.within size)
    size c.first-self-inside.ensures.going
    (subst (λ (w : Wanted). ComesTo c.in-Some.next w []
    (of_mark c.in-Some.next.content c.clear.new.self c.first-self-inside.result))
    (c.by.ensures ∙ ap wanted_by c.le.ensures.value)
    (c.first-self-inside.ensures.led c.clear.new.self (ap (λ (r : Room). r.bytes) c.clear.ensures)))
    (ap (λ (r : Room). r.limit) c.clear.ensures)
