use Rattle.std.proofs.Common.{sym, subst, ap, ◌∙◌}
use Rattle.t0_core.specs.HostMark.{own_data, with_data}
use Rattle.t0_core.specs.HostSide.{IsInRange, turn_of, after_turn, at_stage}
use Rattle.t0_core.proofs.HostLemmas.{host_sends}
use Rattle.t0_core.proofs.host_mark.HostMark.next.Goals as goal

pub turn_at-requires : goal.turn_at-requires
turn_at-requires c =
    subst IsInRange (sym (c.request_of-request.ensures c.args.self.now.stage)) c.requires

pub returns-clause-turn : goal.returns-clause-turn
returns-clause-turn c = c.turn_at.ensures.turn
    ∙ ap turn_of (c.request_of-request.ensures c.args.self.now.stage)

pub returns-clause-after : goal.returns-clause-after
returns-clause-after c =
    ap (λ s. at_stage (with_data c.args.self.now c.args.content.now) s)
    (c.turn_at.ensures.after
    ∙ ap after_turn (c.request_of-request.ensures c.args.self.now.stage))

pub returns-clause-goes_on : goal.returns-clause-goes_on
returns-clause-goes_on c = λ front byte stands sends.
    let mark = c.args.self.now in
    let same = c.request_of-request.ensures mark.stage in
    rw (c.turn_at.ensures.after ∙ ap after_turn same)
    (host_sends mark.header mark.p3 mark.direction (own_data mark.direction c.args.content.now)
    mark.stage front byte c.requires stands
    (sym (c.turn_at.ensures.turn ∙ ap turn_of same) ∙ sends))
