use Rattle.t0_core.proofs.TpduBytesFacts.{written_read, written_few}
use Rattle.t0_core.proofs.laws.a_whole_tpdu_is_read_as_it_is_written.Goals as goal

pub returns-clause-read : goal.returns-clause-read
returns-clause-read c = λ host is.
    written_read host.header host.direction host.p3 host.content is.2

pub returns-clause-few : goal.returns-clause-few
returns-clause-few c = λ host is small.
    written_few host.header host.direction host.p3 host.content is.2 small
