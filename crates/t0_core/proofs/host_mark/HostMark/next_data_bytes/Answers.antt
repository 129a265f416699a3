use Rattle.std.proofs.Common.{sym, subst}
use Rattle.t0_core.specs.HostSide.{IsInRange}
use Rattle.t0_core.proofs.DataRunLemmas.{handed_as}
use Rattle.t0_core.proofs.host_mark.HostMark.next_data_bytes.Goals as goal

pub data_bytes_at-requires : goal.data_bytes_at-requires
data_bytes_at-requires c =
    subst IsInRange (sym (c.request_of-request.ensures c.args.self.now.stage)) c.requires

pub returns-clause-handed : goal.returns-clause-handed
returns-clause-handed c =
    handed_as _ _ _ _ c.args.bytes.now _ _ (c.request_of-request.ensures c.args.self.now.stage)
    (c.request_of-request.ensures c.data_bytes_at.new.stage) c.data_bytes_at.ensures.handed

pub returns-clause-range : goal.returns-clause-range
returns-clause-range c =
    subst IsInRange (c.request_of-request.ensures c.data_bytes_at.new.stage)
    c.data_bytes_at.ensures.range
