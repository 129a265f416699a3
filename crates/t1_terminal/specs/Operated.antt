-- Operations with a card of data objects over T=1.
use Rattle.std.specs.Prelude.{◌≡◌, ℕ, ◌*◌, ◌≤◌, ◌⊎◌, ◌==◌, List, [], ◌∷◌, ◌++◌, length, take, drop, map, Option, Some, None, true, if◌then◌else◌}
use Rattle.std.specs.List.{AllByRecursion, flat_map}
use Rattle.apdu_core.specs.declared.header.Header.{Header}
use Rattle.apdu_core.specs.CommandBytes.{Command, IsCommand, command_bytes}
use Rattle.object_card.specs.Agreed.{IsAgreed}
use Rattle.object_card.specs.Instructions.{MayReceive, MaySend}
use Rattle.apdu_core.specs.Shared.{Reply}
use Rattle.object_card.specs.OneStep.{Operation, AnswersAll, SameTables}
use Rattle.object_card.specs.Refusals.{is_get_response}
use Rattle.object_card.specs.State.{CardState, is_idle}
use Rattle.apdu_terminal.specs.Apdus.{Pair}
use Rattle.apdu_terminal.specs.ApduStops.{IsDone, IsUnderWay}
use Rattle.apdu_terminal.specs.ApduTalk.{AreApduTalksOf, talk_pairs}
use Rattle.t1_core.specs.declared.applet.Applet.{Ghosts}
use Rattle.t1_core.specs.declared.line.Fates.{Fates}
use Rattle.t1_core.specs.declared.settings.Settings.{Settings}
use Rattle.t1_core.specs.declared.terminal.Fault.{Fault}
use Rattle.t1_core.specs.declared.terminal.Outcome.{Outcome}
use Rattle.t1_core.specs.declared.terminal.Outcome.TheVariants.{NotCarriedOut, Unknown, InPart}
use Rattle.t1_core.specs.Carried.{EndsOf, HasCarried, Past, with_command}
use Rattle.t1_core.specs.Conversing.{Conversed}
use Rattle.t1_core.specs.Doing.{meaning_of}
use Rattle.t1_core.specs.Mild.{IsMild}
use Rattle.t1_core.specs.TerminalSide.{fault_of, is_ready}
use Rattle.t1_core.specs.World.{start}
use Rattle.t1_terminal.specs.CardCommand.{status_bytes}

-- ---- pairs of commands and responses

abbrev pub response_bytes : Pair → List ℕ
response_bytes p = p.content ++ status_bytes p.status

abbrev pub commands_in : List Pair → List (List ℕ)
commands_in pairs = map (λ (p : Pair). command_bytes p.command) pairs

abbrev pub responses_in : List Pair → List (List ℕ)
responses_in pairs = map response_bytes pairs

-- the start of both ends: a reset, and what the line had done before it
pub record Start (State : Type 0) : Type 0 where
  pub settings : Settings
  pub first : State
  pub passed : List Fates

abbrev pub past_of : {State : Type 0} → Start State → List Pair → Past State
past_of s pairs = record {
  settings = s.settings;
  first = s.first;
  commands = commands_in pairs;
  answers = responses_in pairs;
  passed = s.passed;
}

-- a command that the terminal may send
abbrev pub IsSent : Command → Type 0
IsSent c = IsCommand c × IsAgreed MayReceive MaySend c

abbrev pub AreSent : List Pair → Type 0
AreSent pairs = AllByRecursion (λ (p : Pair). IsSent p.command) pairs

-- both ends have carried these commands and responses
abbrev pub HasTaken : {X : Type 0} (a : Ghosts X) → Start a.State → List Pair → List Fates
    → EndsOf X → Type 0
HasTaken a s pairs now e = HasCarried a (past_of s pairs) now e × AreSent pairs

-- both ends carry the pairs `here`, after any pairs before
abbrev pub Takes : {X : Type 0} (a : Ghosts X) → List Fates → EndsOf X → List Pair → List Fates
    → EndsOf X → Type 0
Takes a before old here after new = (s : Start a.State) (pairs : List Pair)
    → HasTaken a s pairs before old → HasTaken a s (pairs ++ here) after new

-- ---- what is known of an operation that stops

-- The outcome of the operation, by the command in progress. GET RESPONSE follows only an operation
-- that the card has carried out. Only the last piece of a put stores its value.
abbrev pub told_of : Header → Outcome → Outcome
told_of h outcome =
    if is_get_response h then InPart else if h.cla == 0x10 then NotCarriedOut else outcome

-- the fault of the operation, by that of the terminal's end
abbrev pub fault_at : Header → Fault → Fault
fault_at h why = record { cause = why.cause; outcome = told_of h why.outcome }

-- the tables after a fault with this outcome
abbrev pub IsLeft : Outcome → CardState → Operation → CardState → Type 0
IsLeft NotCarriedOut old operation new = SameTables old new
IsLeft Unknown old operation new = SameTables old new ⊎ IsDone old operation new
IsLeft InPart old operation new = IsDone old operation new

-- The terminal has given up in the operation, after the pairs `here`, with the command `due` in
-- progress.
pub record GivesUp {X : Type 0} (a : Ghosts X) (before : List Fates) (old : EndsOf X)
    (operation : Operation) (fault : Fault) (after : List Fates) (new : EndsOf X) : Type 0 where
  pub here : List Pair
  pub due : Command
  pub under_way : IsUnderWay operation here due
  pub sent : IsSent due
  pub why : Fault
  pub given_up : fault_of new.terminal ≡ Some why
  pub fault_is : fault ≡ fault_at due.header why
  pub led : (s : Start a.State) (pairs : List Pair) → HasTaken a s pairs before old
      → HasCarried a (with_command (past_of s (pairs ++ here)) (command_bytes due) new.terminal)
      after new × AreSent (pairs ++ here)

-- ---- all operations

-- After the pairs `before` some of the operation's own, and its command in progress. The fault is
-- that of the terminal's end, `why`, with the outcome of the operation.
abbrev pub StopsIn : Operation → List Pair → (commands responses : List (List ℕ)) → Option Fault
    → Fault → Type 0
StopsIn operation before commands responses why fault = (here : List Pair) × (due : Command)
    × IsUnderWay operation here due
    × (commands ≡ commands_in (before ++ here) ++ command_bytes due ∷ [])
    × (responses ≡ responses_in (before ++ here))
    × ((told : Fault) × (why ≡ Some told) × (fault ≡ fault_at due.header told))

-- Both ends stand between two operations: the first ones were carried whole, and no block of
-- another was sent.
pub record StandsBetween {X : Type 0} (a : Ghosts X) (s : Start a.State)
    (operations : List Operation) (now : List Fates) : Type 0 where
  pub done : List Operation
  pub left : List Operation
  pub all : operations ≡ done ++ left
  pub replies : List Reply
  pub talks : List (List (List Pair))
  pub talk : AreApduTalksOf done talks replies
  pub ends : EndsOf X
  pub taken : HasTaken a s (flat_map talk_pairs talks) now ends
  pub ready : is_ready ends.terminal.phase ≡ true

-- the longest response in bytes
abbrev pub most_response : ℕ
most_response = 258

-- Operations in turn, whatever the line did. The answers are the first of those of the card that
-- answers each operation in one step. Without a fault every operation has its answer, the tables
-- are those after all operations, and no chain is pending. After a fault they are those after the
-- answered operations and at most the next one; the outcome in the fault is true of that one. The
-- commands and responses are a dialogue, which ends. On a mild line there is no fault.
pub record HasRun {X : Type 0} (a : Ghosts X) (settings : Settings) (first last : a.State)
    (old new : CardState) (operations : List Operation) (answers : List Reply)
    (fault : Option Fault) (passed_before passed_after : List Fates) : Type 0 where
  pub mid : CardState
  pub one_step : AnswersAll old (take (length answers) operations) answers mid
  pub talks : List (List (List Pair))
  pub talk : AreApduTalksOf (take (length answers) operations) talks answers
  pub commands : List (List ℕ)
  pub responses : List (List ℕ)
  -- the fault of the terminal's end
  pub why : Option Fault
  pub finished : fault ≡ None → (why ≡ None) × (length answers ≡ length operations)
      × SameTables mid new
      × (is_idle new.pending ≡ true) × (commands ≡ commands_in (flat_map talk_pairs talks))
      × (responses ≡ responses_in (flat_map talk_pairs talks))
  pub stopped : (f : Fault) → fault ≡ Some f → (next : Operation) × (rest : List Operation)
      × (drop (length answers) operations ≡ next ∷ rest)
      × IsLeft f.outcome mid next new
      × StopsIn next (flat_map talk_pairs talks) commands responses why f
  pub dialogue : Conversed a settings first last commands responses why passed_before
      passed_after
  pub survived : (f : ℕ) → 2 * f ≤ settings.tries → f ≤ settings.extensions
      → most_response ≤ settings.limit
      → IsMild (meaning_of dialogue.did) f f (start settings [] commands) dialogue.fates
      → fault ≡ None
