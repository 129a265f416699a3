use Rattle.command_card.proofs.RestLemmas.{at_rest_comes}
use Rattle.command_card.proofs.given_laws.each_response_goes_out_at_rest.Goals as goal

pub returns : goal.returns
returns c = at_rest_comes
