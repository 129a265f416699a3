-- What an application does with a command, as T=0 shows it (ISO/IEC 7816-3, 10.3).
use Rattle.std.specs.Prelude.{◌≡◌, ◌⊎◌, ℕ, ◌<◌, ◌≤◌, List, [], length, Some, None, Option}
use Rattle.apdu_core.specs.declared.header.Header.{Header}
use Rattle.apdu_core.specs.CommandBytes.{Command}
use Rattle.apdu_core.specs.StatusWord.{StatusWord, announces, corrects}
use Rattle.command_card.specs.declared.application.TheConstants.{OWN_RESPONSE_LIMIT}

-- a command that an application has carried out, its response, and its status
pub record Did : Type 0 where
  pub command : Command
  pub response : List ℕ
  pub status : StatusWord

-- neither 61XX nor 6CXX, which are the card's own
abbrev pub IsOwn : StatusWord → Type 0
IsOwn sw = (announces sw ≡ None) × (corrects sw ≡ None)

-- memory ran out: 6581, without a response
abbrev pub out_of_memory : Command → Did
out_of_memory c = record { command = c; response = []; status = (0x65, 0x81) }

-- a response of the application to this command that is longer than the limit
pub record IsTooLong {S : Type 0} (Act : S → Did → S → Type 0) (old : S) (c : Command) : Type 0
  where
    pub did : Did
    pub next : S
    pub acts : Act old did next
    pub command_is : did.command ≡ c
    pub long : OWN_RESPONSE_LIMIT < length did.response

-- The application carries the command out, in one step. If its response is too long, the status is
-- 6F00 without a response, and the application is unchanged.
abbrev pub Makes : {S : Type 0} → (S → Did → S → Type 0) → S → Command → List ℕ → StatusWord → S
    → Type 0
Makes Act old c response status new =
    (Act old (record { command = c; response = response; status = status }) new × IsOwn status
    × (length response ≤ OWN_RESPONSE_LIMIT))
    ⊎ ((new ≡ old) × (response ≡ []) × (status ≡ (0x6F, 0x00)) × IsTooLong Act old c)

-- the command as its header and P3 tell it, before data, and with the data that came
abbrev pub asking : Header → ℕ → Command
asking h n = record { header = h; content = []; le = Some n }

abbrev pub taking : Header → List ℕ → Command
taking h bytes = record { header = h; content = bytes; le = None }

-- the state of the changed application, if there is one
abbrev pub next_of : {A S : Type 0} → (A → S) → A → Option A → S
next_of standing now None = standing now
next_of standing now (Some changed) = standing changed
