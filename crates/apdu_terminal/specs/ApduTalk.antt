-- The pairs of command and response that operations exchange, for clauses and laws of operations.
use Rattle.std.specs.Prelude.{List}
use Rattle.std.specs.List.{flat_map}
use Rattle.apdu_core.specs.CommandBytes.{Command}
use Rattle.apdu_core.specs.Shared.{Reply}
use Rattle.object_card.specs.OneStep.{Operation}
use Rattle.card_terminal.specs.Talk.{AreExchangesBy, IsTalkBy, AreTalksBy}
use Rattle.apdu_terminal.specs.Apdus.{Pair, GathersApdus}

-- the exchanges of these commands, with this answer: each is the pairs of one command
abbrev pub AreApdusOf : List Command → List (List Pair) → Reply → Type 0
AreApdusOf commands exchanges answer = AreExchangesBy GathersApdus commands exchanges answer

-- the exchanges of an operation, with this answer
abbrev pub IsApduTalkOf : Operation → List (List Pair) → Reply → Type 0
IsApduTalkOf operation exchanges answer = IsTalkBy GathersApdus operation exchanges answer

-- operations one after another, each with its exchanges and its answer
abbrev pub AreApduTalksOf : List Operation → List (List (List Pair)) → List Reply → Type 0
AreApduTalksOf operations talks replies = AreTalksBy GathersApdus operations talks replies

-- all pairs of exchanges
abbrev pub talk_pairs : List (List Pair) → List Pair
talk_pairs exchanges = flat_map (λ pairs. pairs) exchanges
