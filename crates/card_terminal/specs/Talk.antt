-- The talk of a list of operations: the commands of each operation, and the exchange of each
-- command.
use Rattle.std.specs.Prelude.{◌≡◌, ◌≢◌, ℕ, List, [], ◌∷◌, length, drop, Some, ◌⊎◌}
use Rattle.std.specs.List.{AllByRecursion, flat_map}
use Rattle.apdu_core.specs.StatusWord.{StatusWord, ok}
use Rattle.apdu_core.specs.CommandBytes.{Command}
use Rattle.apdu_core.specs.Chaining.{IsPieces, chain_commands}
use Rattle.tlv_core.specs.Address.{NamesTag}
use Rattle.t0_core.specs.Character.{Character}
use Rattle.t0_core.specs.Dialogue.{Dialogue, IsDialogue, characters}
use Rattle.t0_core.specs.Meaning.{Tpdu, Runs}
use Rattle.t0_core.specs.Plan.{Course, IsCut, FollowInTurn}
use Rattle.object_card.specs.Tables.{IsAid}
use Rattle.apdu_core.specs.Shared.{Reply}
use Rattle.object_card.specs.OneStep.{Operation, Select, Get, Put}
use Rattle.object_card.specs.CarryingOut.{select_header, get_header, put_header}
use Rattle.exchange_core.specs.Gathered.{UnitOf, dialogues_of, Gathers}

-- SELECT by identifier, and GET DATA, both with Le = 00, which asks for everything (ISO/IEC 7816-4,
-- SELECT and GET DATA)
abbrev pub select_command : List ℕ → Command
select_command aid = record {
  header = select_header;
  content = aid;
  le = Some 256;
}

abbrev pub get_command : ℕ → ℕ → Command
get_command p1 p2 = record {
  header = get_header p1 p2;
  content = [];
  le = Some 256;
}

-- The commands of an operation: one SELECT, one GET DATA, or a chain of PUT DATA, one for each
-- piece of the value.
abbrev pub AreCommandsOf : Operation → List Command → Type 0
AreCommandsOf (Select aid) commands = IsAid aid × (commands ≡ select_command aid ∷ [])
AreCommandsOf (Get tag) commands =
    (p1 p2 : ℕ) × NamesTag tag p1 p2 × (commands ≡ get_command p1 p2 ∷ [])
AreCommandsOf (Put tag value) commands =
    (p1 p2 : ℕ) × (pieces : List (List ℕ)) × NamesTag tag p1 p2 × IsPieces value pieces
    × (commands ≡ chain_commands (put_header p1 p2) pieces)

-- `Brings` says for a transport which data and status an exchange of a command brings. The commands
-- have one exchange each, in turn, up to the first status other than 9000. The answer is that of
-- the last exchange.
abbrev pub AreExchangesBy : {E : Type 0} → (Command → E → List ℕ → StatusWord → Type 0)
    → List Command → List E → Reply → Type 0
AreExchangesBy Brings [] exchanges answer = ⊥
AreExchangesBy Brings (c ∷ commands) [] answer = ⊥
AreExchangesBy Brings (c ∷ commands) (exchange ∷ []) answer =
    Brings c exchange answer.content answer.status × ((commands ≡ []) ⊎ (answer.status ≢ ok))
AreExchangesBy Brings (c ∷ commands) (exchange ∷ next ∷ exchanges) answer =
    (brought : List ℕ) × Brings c exchange brought ok
    × AreExchangesBy Brings commands (next ∷ exchanges) answer

-- at T=0 an exchange is the units of one command
abbrev pub AreExchangesOf : List Command → List (List UnitOf) → Reply → Type 0
AreExchangesOf commands exchanges answer = AreExchangesBy Gathers commands exchanges answer

-- The first commands have had these exchanges, each with the status 9000; `left` is the rest.
abbrev pub AreTakenUpTo : List Command → List (List UnitOf) → List Command → Type 0
AreTakenUpTo commands [] left = left ≡ commands
AreTakenUpTo [] (units ∷ exchanges) left = ⊥
AreTakenUpTo (c ∷ commands) (units ∷ exchanges) left =
    (brought : List ℕ) × Gathers c units brought ok × AreTakenUpTo commands exchanges left

-- these are the exchanges of the operation, and this is its answer
abbrev pub IsTalkBy : {E : Type 0} → (Command → E → List ℕ → StatusWord → Type 0) → Operation
    → List E → Reply → Type 0
IsTalkBy Brings operation exchanges answer =
    (commands : List Command) × AreCommandsOf operation commands
    × AreExchangesBy Brings commands exchanges answer

abbrev pub IsTalkOf : Operation → List (List UnitOf) → Reply → Type 0
IsTalkOf operation exchanges answer = IsTalkBy Gathers operation exchanges answer

-- the operations in turn, each with its exchanges and its answer
abbrev pub AreTalksBy : {E : Type 0} → (Command → E → List ℕ → StatusWord → Type 0)
    → List Operation → List (List E) → List Reply → Type 0
AreTalksBy Brings [] [] [] = Unit {0}
AreTalksBy Brings (o ∷ operations) (exchanges ∷ talks) (r ∷ replies) =
    IsTalkBy Brings o exchanges r × AreTalksBy Brings operations talks replies
AreTalksBy Brings _ _ _ = ⊥

abbrev pub AreTalksOf : List Operation → List (List (List UnitOf)) → List Reply → Type 0
AreTalksOf operations talks replies = AreTalksBy Gathers operations talks replies

-- the dialogues of exchanges, one after another
abbrev pub talk_dialogues : List (List UnitOf) → List Dialogue
talk_dialogues exchanges = flat_map (λ units. flat_map dialogues_of units) exchanges

-- their characters
abbrev pub talk_characters : List (List UnitOf) → List Character
talk_characters exchanges = flat_map characters (talk_dialogues exchanges)

-- each cut is 1 to 256
abbrev pub HaveCuts : List Course → Type 0
HaveCuts plans = AllByRecursion (λ plan. IsCut plan.cut) plans

-- A talk of operations with a card. The characters are those of whole dialogues, which follow the
-- plans in turn and are a run of the card's meaning from `first` to `last`. The dialogues are those
-- of the exchanges of the operations, each with its answer. `left` are the plans that no dialogue
-- has taken.
pub record Talk {State : Type 0} (Does : State → ℕ → Tpdu → State → Type 0) (first : State)
    (plans : List Course) (operations : List Operation) (replies : List Reply) (last : State)
    (left : List Course) (line : List Character) : Type 0 where
  pub dialogues : List Dialogue
  pub talks : List (List (List UnitOf))
  pub are_dialogues : AllByRecursion IsDialogue dialogues
  pub line_is : line ≡ flat_map characters dialogues
  pub follow : FollowInTurn dialogues plans
  pub runs : Runs Does first dialogues plans last
  pub left_is : left ≡ drop (length dialogues) plans
  pub dialogues_are : dialogues ≡ flat_map talk_dialogues talks
  pub are_talks : AreTalksOf operations talks replies
