use Rattle.std.proofs.Common.{sym, subst, ap, ◌∙◌}
use Rattle.t0_core.specs.Buffers.{TakesNoData}
use Rattle.t0_core.specs.HostSide.{Hosting, IsInRange, turn_of}
use Rattle.t0_core.proofs.DataTakingLemmas.{taken_as}
use Rattle.t0_core.proofs.host_mark.HostMark.take_data.Goals as goal

pub take_data_at-requires : goal.take_data_at-requires
take_data_at-requires g c =
    subst IsInRange (sym (c.request_of-request.ensures c.args.self.now.stage)) c.requires

pub returns-clause-taken : goal.returns-clause-taken
returns-clause-taken g c = λ does.
    taken_as _ _ _ _ c.args.byte _ _ (c.request_of-request.ensures c.args.self.now.stage)
    (c.request_of-request.ensures c.take_data_at.new.stage) (c.take_data_at.ensures.taken does)

pub returns-clause-none : goal.returns-clause-none
returns-clause-none g c = λ does.
    subst (λ (h : Hosting). TakesNoData (record { host = h; room = c.args.gather.now }))
    (c.request_of-request.ensures c.args.self.now.stage) (c.take_data_at.ensures.none does)

pub returns-clause-listens : goal.returns-clause-listens
returns-clause-listens g c = λ does.
    sym (ap turn_of (c.request_of-request.ensures c.take_data_at.new.stage))
    ∙ c.take_data_at.ensures.listens does

pub returns-clause-range : goal.returns-clause-range
returns-clause-range g c =
    subst IsInRange (c.request_of-request.ensures c.take_data_at.new.stage)
    c.take_data_at.ensures.range
