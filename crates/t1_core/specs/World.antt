-- Both ends and the line between them, for every schedule of losses and damages.
use Rattle.std.specs.Prelude.{◌≡◌, ℕ, zero, suc, ◌+◌, ◌*◌, ◌/◌, ◌≤◌, List, [], ◌∷◌, ◌++◌, length, Option, Some, None}
use Rattle.t1_core.specs.declared.line.Fate.{Fate}
use Rattle.t1_core.specs.declared.line.Fate.TheVariants.{Delivers, Damages, Loses}
use Rattle.t1_core.specs.declared.line.Fates.{Fates}
use Rattle.t1_core.specs.declared.pcb.BlockReason.TheVariants.{Edc, Other}
use Rattle.t1_core.specs.declared.settings.Settings.{Settings}
use Rattle.t1_core.specs.declared.terminal.Cause.{Cause}
use Rattle.t1_core.specs.declared.terminal.Phase.{Phase}
use Rattle.t1_core.specs.declared.terminal.Phase.TheVariants.{Over, GivenUp}
use Rattle.t1_core.specs.declared.terminal.Outcome.{Outcome}
use Rattle.t1_core.specs.declared.terminal.Outcome.TheVariants.{NotCarriedOut, InPart}
use Rattle.t1_core.specs.Block.{Block, Arrival, Came, Bad}
use Rattle.t1_core.specs.CardSide.{Card, card_after, first_ifsd, Meaning, card_meets}
use Rattle.t1_core.specs.TerminalSide.{Terminal, fresh, begins, sends, takes, outcome_of}

pub record World : Type 0 where
  pub terminal : Terminal
  pub card : Card
  pub todo : List (List ℕ)  -- the commands after the one in progress
  pub answers : List (List ℕ)

-- what arrives at the terminal; without a block it is the time-out
abbrev pub arrives : Fate → Option Block → Arrival
arrives fate None = Bad Other
arrives Delivers (Some b) = Came b
arrives Damages (Some b) = Bad Edc
arrives Loses (Some b) = Bad Other

abbrev pub next_command : List (List ℕ) → World → World
next_command [] w = record w { todo = [] }
next_command (c ∷ cs) w = record w { terminal = begins c w.terminal; todo = cs }

-- after an answer the next command begins
abbrev pub settle : Phase → World → World
settle Over w = next_command w.todo (record w { answers = w.answers ++ w.terminal.got ∷ [] })
settle _ w = w

abbrev pub settled : World → World
settled w = settle w.terminal.phase w

abbrev pub exchanged : Meaning → Fates → World → Option Block → World
exchanged m fates w None = w
exchanged m fates w (Some b) =
    let t = card_meets m fates.down b w.card in
    settled (record w { terminal = takes w.terminal (arrives fates.up t.block); card = t.card })

-- one exchange: a block of the terminal, and the card's reply
abbrev pub exchange : Meaning → Fates → World → World
exchange m fates w = exchanged m fates w (sends w.terminal)

abbrev pub run : Meaning → List Fates → World → World
run m [] w = w
run m (f ∷ fs) w = run m fs (exchange m f w)

-- both ends after a reset, with commands to send; the card has carried out others before
abbrev pub start : Settings → List (List ℕ) → List (List ℕ) → World
start settings before commands =
    next_command commands (record {
      terminal = fresh settings;
      card = card_after before;
      todo = [];
      answers = [];
    })

-- the card's responses to these commands, after the commands `before`
abbrev pub responses : (List (List ℕ) → List ℕ) → List (List ℕ) → List (List ℕ) → List (List ℕ)
responses does before [] = []
responses does before (c ∷ cs) =
    does (before ++ c ∷ []) ∷ responses does (before ++ c ∷ []) cs

abbrev pub IsFrontOf : List (List ℕ) → List (List ℕ) → Type 0
IsFrontOf xs ys = (rest : List (List ℕ)) × (xs ++ rest ≡ ys)

-- The card has carried out the first of the commands (`ran`), in order, each once. The answers are
-- its responses to the first of `ran`. At most one command of `ran` has no answer.
pub record IsRight (does : List (List ℕ) → List ℕ) (before commands ran answers : List (List ℕ))
    : Type 0 where
  pub carried_out : IsFrontOf ran commands
  pub answered : IsFrontOf answers (responses does before ran)
  pub all_but_one : length ran ≤ length answers + 1

-- the outcome in a fault is true of the command in progress
abbrev pub IsTrue : Outcome → (ran answers : List (List ℕ)) → Type 0
IsTrue NotCarriedOut ran answers = length ran ≡ length answers
IsTrue InPart ran answers = length ran ≡ length answers + 1
IsTrue _ ran answers = Unit {0}

-- all of this holds in this world
pub record IsAtMostOnce (m : Meaning) (before commands : List (List ℕ)) (w : World) : Type 0 where
  pub ran : List (List ℕ)
  pub ran_is : w.card.ran ≡ before ++ ran
  pub right : IsRight m.does before commands ran w.answers
  pub told : (cause : Cause) → w.terminal.phase ≡ GivenUp cause
      → IsTrue (outcome_of w.terminal) ran w.answers
  pub finished : w.terminal.phase ≡ Over
      → (ran ≡ commands) × (w.answers ≡ responses m.does before ran)

-- the number of I-blocks for a chain of `bytes` bytes in fields of `size` bytes: at least one
abbrev pub blocks : (size bytes : ℕ) → ℕ
blocks size zero = 1
blocks size (suc n) = n / size + 1

-- IFSC after the card's S(IFS request), if any
abbrev pub size_after : Option ℕ → ℕ → ℕ
size_after None size = size
size_after (Some other) size = other

-- The number of I-blocks for these commands and their responses; `size` is IFSC before them. IFSD
-- is at least `first_ifsd`, which it stays if no S(IFS request) of the terminal arrives.
abbrev pub all_blocks : Meaning → (size : ℕ) → (before commands : List (List ℕ)) → ℕ
all_blocks m size before [] = 0
all_blocks m size before (c ∷ cs) =
    blocks size (length c) + blocks first_ifsd (length (m.does (before ++ c ∷ [])))
    + all_blocks m (size_after (m.asks (before ++ c ∷ [])).size size) (before ++ c ∷ []) cs

-- After this number of exchanges the terminal has all answers, or a fault. S(IFS request) and each
-- I-block take one exchange and at most `tries` more. Each command may take its extensions.
abbrev pub most_exchanges : Settings → Meaning → (before commands : List (List ℕ)) → ℕ
most_exchanges settings m before commands =
    (1 + all_blocks m settings.ifsc before commands) * (settings.tries + 1)
    + length commands * settings.extensions
