use Rattle.exchange_core.proofs.OverLemmas as lemma
use Rattle.exchange_core.proofs.laws.a_whole_exchange_is_over.Goals as goal

pub returns-clause-over : goal.returns-clause-over
returns-clause-over c = lemma.is_over

pub returns-clause-no_stall : goal.returns-clause-no_stall
returns-clause-no_stall c = lemma.no_stall
