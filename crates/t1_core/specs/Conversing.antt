-- A whole dialogue over a line.
use Rattle.std.specs.Prelude.{◌≡◌, ◌≤◌, ◌+◌, ℕ, List, [], ◌++◌, length, Option, Some, None, true}
use Rattle.t1_core.specs.declared.applet.Applet.{Ghosts}
use Rattle.t1_core.specs.declared.line.Fates.{Fates}
use Rattle.t1_core.specs.declared.settings.Settings.{Settings}
use Rattle.t1_core.specs.declared.terminal.Fault.{Fault}
use Rattle.t1_core.specs.CardSide.{Did}
use Rattle.t1_core.specs.Doing.{DoesAll, commands_of, meaning_of, responses_of}
use Rattle.t1_core.specs.Mild.{Enough, IsMild}
use Rattle.t1_core.specs.Passing.{AreHeard}
use Rattle.t1_core.specs.TerminalSide.{fault_of, has_stopped}
use Rattle.t1_core.specs.World.{World, IsFrontOf, IsTrue, most_exchanges, run, start}

-- Both ends of a world, once the terminal has stopped. The fault is that of the terminal's end: its
-- cause, and `Unknown` exactly after the last block of the command, before a byte of the response.
pub record HasEnded (w : World) (ran answers : List (List ℕ)) (fault : Option Fault) : Type 0 where
  pub stopped : has_stopped w.terminal.phase ≡ true
  pub ran_is : w.card.ran ≡ ran
  pub answers_are : w.answers ≡ answers
  pub fault_is : fault_of w.terminal ≡ fault

-- `did` is what the card has carried out in the dialogue, between its states `first` and `last`.
-- `passed_before` and `passed_after` are all that the line has done at the start and at the end.
-- Every command went by blocks over this line, from a reset of both ends on; so it goes by bytes
-- too (law `blocks_go_as_their_bytes`).
pub record Conversed {C : Type 0} (a : Ghosts C) (settings : Settings) (first last : a.State)
    (commands answers : List (List ℕ))
    (fault : Option Fault) (passed_before passed_after : List Fates) : Type 0 where
  pub did : List Did
  pub does : DoesAll a.Does first did last
  pub line : List Fates
  pub passed : passed_after ≡ passed_before ++ line
  -- what the ends heard of it: a block whose command the card above refused counts as lost
  pub fates : List Fates
  pub heard : AreHeard a line fates
  pub by_blocks : HasEnded (run (meaning_of did) fates (start settings [] commands))
      (commands_of did) answers fault
  -- the card has carried out the first of the commands, in order, each once
  pub carried_out : IsFrontOf (commands_of did) commands
  -- each answer is the card's response; at most one carried-out command has no answer
  pub answered : IsFrontOf answers (responses_of did)
  pub all_but_one : length did ≤ length answers + 1
  -- the outcome in a fault is true
  pub told : (f : Fault) → fault ≡ Some f → IsTrue f.outcome (commands_of did) answers
  -- without a fault every command has its answer
  pub finished : fault ≡ None → (commands_of did ≡ commands) × (answers ≡ responses_of did)
  -- the dialogue ends
  pub few : length fates ≤ most_exchanges settings (meaning_of did) [] commands
  -- on a mild line there is no fault
  pub survived : (f : ℕ) → Enough (meaning_of did) f settings
      → IsMild (meaning_of did) f f (start settings [] commands) fates → fault ≡ None
