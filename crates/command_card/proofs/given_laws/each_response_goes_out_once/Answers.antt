use Rattle.std.proofs.Common.{true, false}
use Rattle.command_card.specs.Given.{Answers}
use Rattle.command_card.specs.Settling.{AnswersBy}
use Rattle.command_card.proofs.GivingLemmas.{comes, today}
use Rattle.command_card.proofs.given_laws.each_response_goes_out_once.Goals as goal

pub returns-clause-at_most : goal.returns-clause-at_most
returns-clause-at_most c = comes false Answers today

pub returns-clause-once : goal.returns-clause-once
returns-clause-once c = comes true (AnswersBy true) (λ old new did is. is)
