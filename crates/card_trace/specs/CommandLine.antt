-- The command line as `clap` reads it: the command with its subcommands, and what the words ask
-- for.
use Rattle.std.specs.Prelude.{◌≡◌, ◌≢◌, ℕ, List, [], ◌∷◌, codes, Option, Some, None, true, if◌then◌else◌, unwrap_or, Ok, IsErr, ◌⊎◌}
use Rattle.std.specs.Str.{bytes_eq}
use Rattle.std.specs.Io.KnownBytes.{Appends}
use Rattle.hex.specs.Hex.{decode_of}
use Rattle.clap.specs.Walk.{Text, Row, Rule, first_of}
use Rattle.clap.specs.Simple.{App, Shape, new_app, new_rule, new_shape, on_top, with_subcommand}
use Rattle.clap.specs.Kinds.{Kinds, IsAmong}
use Rattle.clap.specs.declared.error.kind.ErrorKind.{ErrorKind}
use Rattle.clap.specs.declared.error.kind.ErrorKind.TheVariants as kind
use Rattle.tlv_core.specs.Spelling.{Forest, Spells}
use Rattle.card_trace.specs.ForestText.{forest_text}
use Rattle.tlv_core.specs.FirstFault.{IsFirstFault}
use Rattle.card_trace.specs.Script.{ScriptWrites}
use Rattle.card_trace.specs.ScriptFaults.{ScriptStops}
use Rattle.card_trace.specs.Scripts.{play_script}
use Rattle.card_trace.specs.CardScripts.{card_script}
use Rattle.card_trace.specs.declared.objects_fault.ObjectsFault.{ObjectsFault}
use Rattle.card_trace.specs.declared.objects_fault.ObjectsFault.TheVariants as objects
use Rattle.card_trace.specs.declared.program_fault.ProgramFault.{ProgramFault}
use Rattle.card_trace.specs.declared.program_fault.ProgramFault.TheVariants as fault
use Rattle.card_trace.specs.declared.command_line.Request.{Request}
use Rattle.card_trace.specs.declared.command_line.Request.TheVariants as request

-- the required argument of `objects`
abbrev pub hex_rule : Rule
hex_rule = record (new_rule (codes "HEX")) { required = true }

abbrev pub play_shape : Shape
play_shape = new_shape (codes "play")

abbrev pub card_shape : Shape
card_shape = new_shape (codes "card")

abbrev pub objects_shape : Shape
objects_shape = record (new_shape (codes "objects")) { rules = hex_rule ∷ [] }

-- the command, which has a version and requires a subcommand
abbrev pub program : App
program = with_subcommand (with_subcommand
    (with_subcommand (on_top (λ s. record s { has_version = true; subcommand_required = true })
    (new_app (codes "card_trace"))) play_shape) card_shape) objects_shape

-- what the words can ask for
pub data Asked : Type 0 where
  Play : Asked
  Card : Asked
  Objects : (digits : List ℕ) → Asked

-- what the subcommand with this name and these digits asks for
abbrev pub request_named : Text → Text → Option Asked
request_named name digits =
    if bytes_eq name (codes "play") then Some Play
    else if bytes_eq name (codes "card") then Some Card
    else if bytes_eq name (codes "objects") then Some (Objects digits)
    else None

-- what a subcommand with its matches asks for
abbrev pub request_in : Option (Text × List Row) → Option Asked
request_in None = None
request_in (Some found) = request_named found.0 (unwrap_or (first_of (codes "HEX") found.1) [])

abbrev pub asked_by : Request → Asked
asked_by request.Play = Play
asked_by request.Card = Card
asked_by (request.Objects digits) = Objects digits.now

-- the digits spell bytes, at least one, and the tree of these is written
pub record PrintsTree (digits : List ℕ) (old new : Option (List ℕ)) : Type 0 where
  pub bytes : List ℕ
  pub forest : Forest
  pub some_digits : digits ≢ []
  pub spelled : decode_of digits ≡ Ok bytes
  pub objects : Spells forest bytes 1
  pub written : Appends old new (forest_text forest)

-- what is written for a script or for digits, if there is no fault
abbrev pub Does : Asked → Option (List ℕ) → Option (List ℕ) → Option (List ℕ) → Type 0
Does Play script old new = ScriptWrites play_script script old new
Does Card script old new = ScriptWrites card_script script old new
Does (Objects digits) script old new = PrintsTree digits old new

-- the digits spell no bytes, or memory ran out
abbrev pub IsDigitsFault : List ℕ → ProgramFault → Type 0
IsDigitsFault digits fault.BadHex = (digits ≡ []) ⊎ IsErr (decode_of digits)
IsDigitsFault digits fault.OutOfMemory = Unit {0}
IsDigitsFault digits other = ⊥

-- what is written if bytes were not printed as a tree: nothing, unless the writer failed
abbrev pub TreeStops : List ℕ → Option (List ℕ) → Option (List ℕ) → ObjectsFault → Type 0
TreeStops bytes old new (objects.Tlv f) = (new ≡ old) × IsFirstFault bytes 1 f.place f.reason
TreeStops bytes old new objects.OutOfMemory = new ≡ old
TreeStops bytes old new objects.Write = Unit {0}

-- what is written if the program did not do what it was asked for, because of this fault
abbrev pub Stops : Asked → Option (List ℕ) → Option (List ℕ) → Option (List ℕ) → ProgramFault
    → Type 0
Stops Play script old new (fault.Play f) = ScriptStops play_script script old new f
Stops Card script old new (fault.Play f) = ScriptStops card_script script old new f
Stops (Objects digits) script old new (fault.Objects f) =
    (bytes : List ℕ) × (decode_of digits ≡ Ok bytes) × TreeStops bytes old new f
Stops (Objects digits) script old new fault.BadHex = (new ≡ old) × IsDigitsFault digits fault.BadHex
Stops asked script old new fault.OutOfMemory = new ≡ old
Stops asked script old new other = ⊥

-- the same for a subcommand with its matches, and a fault that is printed
abbrev pub StopsAt : Option (Text × List Row) → Option (List ℕ) → Option (List ℕ) → Option (List ℕ)
    → (ProgramFault → Type 0) → Type 0
StopsAt found script old new IsPrinted = (asked : Asked) × (request_in found ≡ Some asked)
    × (f : ProgramFault) × Stops asked script old new f × IsPrinted f

-- the program did what a subcommand with its matches asks for
abbrev pub Runs : Option (Text × List Row) → Option (List ℕ) → Option (List ℕ) → Option (List ℕ)
    → Type 0
Runs found script old new = (asked : Asked) × (request_in found ≡ Some asked)
    × Does asked script old new

-- a call for help or for the version
abbrev pub IsCall : ErrorKind → Type 0
IsCall k = (k ≡ kind.DisplayHelp) ⊎ (k ≡ kind.DisplayVersion)

-- the words call for help or for the version
abbrev pub AreCall : Kinds → Type 0
AreCall kinds = (k : ErrorKind) × IsAmong k kinds × IsCall k

-- Which fault is printed if the program does not answer a call for help or the version, because
-- that can't be written; or if memory ran out for the words.
abbrev pub IsUnanswered : Kinds → (ProgramFault → Type 0) → Type 0
IsUnanswered kinds IsPrinted = (AreCall kinds × IsPrinted fault.Write) ⊎ IsPrinted fault.OutOfMemory

-- the words have a mistake, and are refused
abbrev pub AreRefused : Kinds → Type 0
AreRefused kinds = (k : ErrorKind) × IsAmong k kinds × ¬ IsCall k × (k ≢ kind.OutOfMemory)
