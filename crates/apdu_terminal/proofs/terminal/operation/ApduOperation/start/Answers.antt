use Rattle.std.proofs.Common.{List, [], ℕ, ◌++◌, ◌∙◌, ap, length, subst, arith}
use Rattle.t0_core.specs.Room.{Room}
use Rattle.exchange_core.specs.declared.wanted.Wanted.{Wanted}
use Rattle.exchange_core.specs.Gathered.{wanted_by}
use Rattle.apdu_terminal.specs.ApduSide.{ComesTo, of_mark}
use Rattle.apdu_terminal.proofs.OperationLemmas.{begins_with, part_first}
use Rattle.apdu_terminal.proofs.terminal.operation.ApduOperation.start.Goals as goal

pub returns-clause-begins : goal.returns-clause-begins
returns-clause-begins g c =
    let first = c.args.unsent.first in
    begins_with first c.args.unsent.rest.now c.copy_again.new.copy.items c.in_ok-gather.gather
    c.first-mark.result _ _ _
    (c.in_ok-copy_again.ensures
    ∙ ap (λ (bs : List ℕ). bs ++ c.args.unsent.rest.now) c.data-data.ensures.value)
    (ap length c.data-data.ensures.value) c.first-mark.ensures.going
    (subst (λ (w : Wanted). ComesTo first w [] (of_mark first.content c.in_ok-gather.gather
    c.first-mark.result)) (c.by.ensures ∙ ap wanted_by c.le.ensures.value)
    (c.first-mark.ensures.led c.in_ok-gather.gather
    (ap (λ (r : Room). r.bytes) c.in_ok-gather.ensures)))

pub invariant_of-result : goal.invariant_of-result
invariant_of-result g c =
    let first = c.args.unsent.first in
    part_first first c.args.unsent.rest.now c.copy_again.new.copy.items c.in_ok-gather.gather
    c.first-mark.result _
    (c.in_ok-copy_again.ensures
    ∙ ap (λ (bs : List ℕ). bs ++ c.args.unsent.rest.now) c.data-data.ensures.value)
    (ap length c.data-data.ensures.value)
    (c.first-mark.ensures.sound c.in_ok-gather.gather
    (ap (λ (r : Room). r.bytes) c.in_ok-gather.ensures)
    (omega (arith, ap (λ (r : Room). r.limit) c.in_ok-gather.ensures, c.requires)))
