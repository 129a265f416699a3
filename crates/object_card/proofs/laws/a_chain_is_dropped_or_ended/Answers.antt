use Rattle.object_card.proofs.PendingLemmas.{other_status_drops_chain, last_ends_chain}
use Rattle.object_card.proofs.laws.a_chain_is_dropped_or_ended.Goals as goal

pub returns-clause-dropped : goal.returns-clause-dropped
returns-clause-dropped c = other_status_drops_chain

pub returns-clause-ended : goal.returns-clause-ended
returns-clause-ended c = last_ends_chain
