use Rattle.object_card.specs.PutRunLaws.{chain_is_put}
use Rattle.object_card.proofs.laws.runs.the_commands_of_a_value_put_it.Goals as goal

pub returns : goal.returns
returns c = λ old new tag value p1 p2 pieces status idle is_named are ends. chain_is_put tag p1 p2
    is_named old new value pieces status idle are ends
