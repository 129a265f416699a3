-- All that has happened to a terminal's end, from any peer, and the resulting fault.
use Rattle.std.specs.Prelude.{◌≡◌, ◌≤◌, ℕ, ◌+◌, Bool, true, false, List, [], ◌∷◌, length, Option, Some, None, nat_lt, cond, if◌then◌else◌}
use Rattle.t1_core.specs.declared.block.Control.TheVariants.{Ifs, Abort, Wtx}
use Rattle.t1_core.specs.declared.settings.Settings.{Settings}
use Rattle.t1_core.specs.declared.terminal.Cause.{Cause}
use Rattle.t1_core.specs.declared.terminal.Cause.TheVariants.{TriesSpent, ExtensionsSpent, Aborted, TooLong}
use Rattle.t1_core.specs.declared.terminal.Phase.{Phase}
use Rattle.t1_core.specs.declared.terminal.Phase.TheVariants.{Opening, Aborting, GivenUp}
use Rattle.t1_core.specs.declared.pcb.BlockReason.{BlockReason}
use Rattle.t1_core.specs.Block.{I, Request, Arrival, Came, Bad, same, is_size}
use Rattle.t1_core.specs.BlockBytes.{arrival_of}
use Rattle.t1_core.specs.TerminalSide.{Terminal, fresh, begins, takes, is_ready, has_stopped}

-- a call that changes the end
pub data Event : Type 0 where
  Begins : (command : List ℕ) → Event
  Takes : (bytes : List ℕ) → Event
  Misses : (reason : BlockReason) → Event  -- `timed_out` or `damaged`
  Resets : Event

abbrev pub happens : Event → Terminal → Terminal
happens (Begins command) t = cond (is_ready t.phase) (begins command t) t
happens (Takes bytes) t = takes t (arrival_of bytes)
happens (Misses reason) t = takes t (Bad reason)
happens Resets t = fresh t.settings

-- The counts since the command began or the end was reset.
pub record Account : Type 0 where
  pub fruitless : ℕ  -- fruitless receptions since the last progress
  pub grants : ℕ  -- requests of the card for more time or another IFSC
  pub arrived : ℕ  -- bytes of the response, with the newest field
  pub aborts : ℕ  -- receptions from S(ABORT request) on

abbrev pub nothing : Account
nothing = record { fruitless = 0; grants = 0; arrived = 0; aborts = 0 }

-- N(S) and N(R) stay the same, and S(IFS request) is neither answered nor given up: no progress
abbrev pub stays : (old new : Terminal) → Bool
stays old new =
    cond (same old.number new.number)
    (cond (same old.due new.due) (same old.opened new.opened) false) false

abbrev pub field_bytes : Arrival → ℕ
field_bytes (Came (I number more field)) = length field
field_bytes _ = 0

-- A reception without progress. Requests that the terminal can grant and S(ABORT request) are not
-- fruitless.
abbrev pub without_step : Phase → Arrival → Account → Account
without_step Aborting b a = record a { aborts = a.aborts + 1 }
without_step phase (Came (Request (Wtx multiple))) a = record a { grants = a.grants + 1 }
without_step phase (Came (Request (Ifs size))) a =
    cond (is_size size) (record a { grants = a.grants + 1 })
    (record a { fruitless = a.fruitless + 1 })
without_step phase (Came (Request Abort)) a = record a { aborts = a.aborts + 1 }
without_step phase b a = record a { fruitless = a.fruitless + 1 }

abbrev pub counted : Bool → Phase → Arrival → Account → Account
counted true phase b a = without_step phase b a
counted false Opening b a = record a { fruitless = 0 }
counted false phase b a = record a { fruitless = 0; arrived = a.arrived + field_bytes b }

-- a reception counts only while the terminal waits for a block
abbrev pub counts : Terminal → Arrival → Account → Account
counts t b a = cond (has_stopped t.phase) a (counted (stays t (takes t b)) t.phase b a)

abbrev pub account : Event → Terminal → Account → Account
account (Begins command) t a = cond (is_ready t.phase) nothing a
account (Takes bytes) t a = counts t (arrival_of bytes) a
account (Misses reason) t a = counts t (Bad reason) a
account Resets t a = nothing

abbrev pub after : Terminal → List Event → Terminal
after t [] = t
after t (e ∷ es) = after (happens e t) es

abbrev pub accounts : Terminal → Account → List Event → Account
accounts t a [] = a
accounts t a (e ∷ es) = accounts (happens e t) (account e t a) es

-- the cause of a fault, if a limit is exceeded
abbrev pub reason : Settings → Account → Option Cause
reason settings a =
    if nat_lt settings.tries a.fruitless then Some TriesSpent
    else if nat_lt settings.extensions a.grants then Some ExtensionsSpent
    else if nat_lt settings.limit a.arrived then Some TooLong
    else if nat_lt 1 a.aborts then Some Aborted
    else None

abbrev pub cause_in : Phase → Option Cause
cause_in (GivenUp cause) = Some cause
cause_in _ = None

-- The end is in a fault exactly if there is a reason, and the fault names it. The counters and the
-- response are within their limits.
pub record IsAccounted (settings : Settings) (t : Terminal) (a : Account) : Type 0 where
  pub fault : cause_in t.phase ≡ reason settings a
  pub settings_stay : t.settings ≡ settings
  pub tries : t.tries ≤ settings.tries
  pub extensions : t.extensions ≤ settings.extensions
  pub gathered : length t.got ≤ settings.limit
  pub size : is_size t.size ≡ true
