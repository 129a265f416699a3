-- Commands one after another over a line. Each begins after the answer to the previous one, and may
-- depend on it.
use Rattle.std.specs.Prelude.{◌≡◌, ◌<◌, ◌≤◌, List, ℕ, [], ◌∷◌, ◌++◌, length}
use Rattle.std.specs.List.{AllByRecursion}
use Rattle.t1_core.specs.declared.applet.Applet.{Ghosts}
use Rattle.t1_core.specs.declared.line.Fates.{Fates}
use Rattle.t1_core.specs.declared.settings.Settings.{Settings}
use Rattle.t1_core.specs.declared.terminal.Phase.{Phase}
use Rattle.t1_core.specs.declared.terminal.Phase.TheVariants.{Over}
use Rattle.t1_core.specs.CardSide.{Card, Did, Meaning}
use Rattle.t1_core.specs.Doing.{Agrees, DoesAll, EndOf, IsKeeping, after, commands_of, most_bytes}
use Rattle.t1_core.specs.Passing.{AreHeard}
use Rattle.t1_core.specs.TerminalSide.{Terminal}
use Rattle.t1_core.specs.World.{World, most_exchanges, next_command, run, start}

-- both ends of a line
pub record EndsOf (C : Type 0) : Type 0 where
  pub terminal : Terminal
  pub card : EndOf C

-- the world of both ends with these answers and no further command
abbrev pub at_rest : Terminal → Card → (answers : List (List ℕ)) → World
at_rest t c answers = record { terminal = t; card = c; todo = []; answers = answers }

-- the same after the card has carried out `did`; `sent` are the bytes of a command so far, if they
-- exceed the limit
abbrev pub world_now : {C : Type 0} → EndsOf C → List Did → (sent : List ℕ)
    → (answers : List (List ℕ)) → World
world_now e did sent answers = at_rest e.terminal (after e.card (commands_of did) sent) answers

-- adds commands: the first begins now if the terminal is ready, the others wait
abbrev pub adds : Phase → List (List ℕ) → World → World
adds Over commands w = next_command commands w
adds _ commands w = record w { todo = w.todo ++ commands }

abbrev pub more : List (List ℕ) → World → World
more commands w = adds w.terminal.phase commands w

-- The history of both ends: the settings, the first state of the card, the commands since the
-- reset, the answers, and what the line had done before the reset.
pub record Past (State : Type 0) : Type 0 where
  pub settings : Settings
  pub first : State
  pub commands : List (List ℕ)
  pub answers : List (List ℕ)
  pub passed : List Fates

-- after a reset
abbrev pub nothing_yet : {State : Type 0} → Settings → State → List Fates → Past State
nothing_yet settings first passed = record {
  settings = settings;
  first = first;
  commands = [];
  answers = [];
  passed = passed;
}

-- a finished command adds its answer
abbrev pub answers_in : Phase → List ℕ → List (List ℕ) → List (List ℕ)
answers_in Over got answers = answers ++ got ∷ []
answers_in _ got answers = answers

-- the history with one more command, which led to this terminal's end
abbrev pub with_command : {State : Type 0} → Past State → List ℕ → Terminal → Past State
with_command past command t = record past {
  commands = past.commands ++ command ∷ [];
  answers = answers_in t.phase t.got past.answers;
}

-- The commands of `past` led to both ends. `did` is what the card has carried out, `line` what the
-- line has done since the reset, and `fates` what the ends heard of it. Further commands, given at
-- once with these, would lead to the same ends with these further commands to send (`leads`).
pub record HasCarried {C : Type 0} (a : Ghosts C) (past : Past a.State) (now : List Fates)
    (e : EndsOf C) : Type 0 where
  pub did : List Did
  pub does : DoesAll a.Does past.first did (a.standing e.card.card)
  pub short : AllByRecursion (λ (d : Did). length d.response < most_bytes) did
  pub sent : List ℕ
  pub keeping : IsKeeping a.LIMIT e.card sent
  pub line : List Fates
  pub passed : now ≡ past.passed ++ line
  pub fates : List Fates
  pub heard : AreHeard a line fates
  pub sized : 0 < e.terminal.size
  pub leads : (m : Meaning) → Agrees m [] did → (commands : List (List ℕ))
      → run m fates (start past.settings [] (past.commands ++ commands))
      ≡ more commands (world_now e did sent past.answers)
  pub few : (m : Meaning) → Agrees m [] did
      → length fates ≤ most_exchanges past.settings m [] past.commands
