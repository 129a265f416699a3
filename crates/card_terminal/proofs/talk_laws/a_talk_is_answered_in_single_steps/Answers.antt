use Rattle.card_terminal.proofs.TalkLemmas.{whole_talk_answers}
use Rattle.card_terminal.proofs.talk_laws.a_talk_is_answered_in_single_steps.Goals as goal

pub returns : goal.returns
returns c = whole_talk_answers
