use Rattle.object_card.specs.AnswerLaws.{answers_alike}
use Rattle.object_card.proofs.laws.runs.an_answer_does_not_hang_on_what_is_pending.Goals as goal

pub returns : goal.returns
returns c = answers_alike
