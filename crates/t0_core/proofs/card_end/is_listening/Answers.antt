use Rattle.t0_core.proofs.card_end.is_listening.Goals as goal

pub returns-in-Accepted : goal.returns-in-Accepted
returns-in-Accepted c = λ came. rw c.in-Accepted.is c.is_listening.ensures
