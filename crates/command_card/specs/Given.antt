-- An application whose responses come from outside: what it holds, and what it does.
use Rattle.std.specs.Prelude.{◌≡◌, ◌⊎◌, ℕ, ◌^◌, ◌/◌, ◌%◌, ◌==◌, List, slice_get, Option, Some, None, Bool, true, false, unwrap_or, is_some, not, ◌&&◌}
use Rattle.apdu_core.specs.declared.header.Header.{Header}
use Rattle.apdu_core.specs.StatusWord.{StatusWord}
use Rattle.command_card.specs.declared.given.Directions.{Directions}
use Rattle.command_card.specs.declared.given.Directions.TheVariants.{Table, Unknown, Known}
use Rattle.command_card.specs.Carrying.{Did, out_of_memory}

-- a response and its status
pub record Answer : Type 0 where
  pub bytes : List ℕ
  pub status : StatusWord

-- The state: which way data go, the response that was given, whether the last command that got one
-- has settled, and whether the response was handed out for a command that has not.
pub record GivenState : Type 0 where
  pub directions : Directions
  pub given : Option Answer
  pub settled : Bool
  pub handed : Bool

abbrev pub new_given : Directions → GivenState
new_given directions =
    record { directions = directions; given = None; settled = true; handed = false }

-- the same before any response is handed out
abbrev pub at_rest : GivenState → GivenState
at_rest s = record s { handed = false }

-- there is a response to hand out
abbrev pub has_answer : GivenState → Bool
has_answer s = is_some s.given && not s.handed

abbrev pub answer_of : Option StatusWord → List ℕ → Option Answer
answer_of None bytes = None
answer_of (Some status) bytes = Some (record { bytes = bytes; status = status })

abbrev pub with_answer : GivenState → List ℕ → StatusWord → GivenState
with_answer s bytes status = record {
  directions = s.directions;
  given = Some (record { bytes = bytes; status = status });
  settled = false;
  handed = false;
}

-- in a table: bit INS mod 8 of byte INS/8, the lowest bit first
abbrev pub go_to_card : Directions → ℕ → Bool
go_to_card (Table bytes) ins =
    (unwrap_or (slice_get bytes (ins / 8)) 0) / (2 ^ (ins % 8)) % 2 == 1
go_to_card Unknown ins = false
go_to_card (Known to_card) ins = to_card

abbrev pub takes_data : GivenState → Header → Bool
takes_data s h = go_to_card s.directions h.ins

-- the answer about one header holds for that one only
abbrev pub forgotten : Directions → Directions
forgotten (Known to_card) = Unknown
forgotten other = other

abbrev pub settled : GivenState → GivenState
settled s =
    record { directions = forgotten s.directions; given = None; settled = true; handed = false }

-- a reset drops a response, whose command then never settles
abbrev pub after_drop : GivenState → GivenState
after_drop s =
    record s { directions = forgotten s.directions; given = None; handed = false }

abbrev pub IsGiven : Option Answer → List ℕ → StatusWord → Type 0
IsGiven None bytes status = ⊥
IsGiven (Some answer) bytes status = (bytes ≡ answer.bytes) × (status ≡ answer.status)

-- A command gets the response that was given, and settles with it.
abbrev pub Gives : GivenState → Did → GivenState → Type 0
Gives old did new = IsGiven old.given did.response did.status × (new ≡ settled old)

-- The same by characters. Or the command gets none, is not carried out, and its status is 6581: if
-- none was given, or it was handed out (`has_answer`, at `Given::carry_out`). The second comes only
-- if a card judges a header twice before SW2 (`TpduCard::header`), which no end of the line does.
abbrev pub Answers : GivenState → Did → GivenState → Type 0
Answers old did new = Gives old did new ⊎ ((did ≡ out_of_memory did.command) × (new ≡ old))

-- what is known about the next header's data no longer is
abbrev pub without_answer : GivenState → GivenState
without_answer s = record s { directions = forgotten s.directions }
