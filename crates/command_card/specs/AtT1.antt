-- What a whole command does to the application (ISO/IEC 7816-4, 5.1; the refusals are profile).
use Rattle.std.specs.Prelude.{◌≡◌, ℕ, List, [], ◌∷◌, ◌++◌, take, drop, Option, Some, None, Bool, true, false, unwrap_or}
use Rattle.apdu_core.specs.declared.header.Header.{Header}
use Rattle.apdu_core.specs.CommandBytes.{Command, IsCommand, HasForm, HasInvalidIns, command_bytes}
use Rattle.apdu_core.specs.StatusWord.{StatusWord}
use Rattle.t1_core.specs.CardSide.{Did as Done, no_requests}
use Rattle.command_card.specs.Carrying.{Did, Makes, asking, taking}
use Rattle.command_card.specs.State.{CardState, Left, Nothing_left, For_fetch, announcing, fetch_left, is_fetch}

abbrev pub status_bytes : StatusWord → List ℕ
status_bytes sw = sw.0 ∷ sw.1 ∷ []

-- how many bytes a response may bring: Le, none without Le
abbrev pub may_bring : Option ℕ → ℕ
may_bring le = unwrap_or le 0

-- At most `n` bytes of these come, and the rest is pending.
pub record HandsOut (bytes : List ℕ) (status : StatusWord) (n : ℕ) (response : List ℕ)
    (left : Left) : Type 0 where
  pub response_is : response
      ≡ take n bytes ++ status_bytes (announcing (drop n bytes) status 256)
  pub left_is : left ≡ fetch_left (drop n bytes) status

-- the response is this status alone, and nothing is pending
pub record Refuses {S : Type 0} (sw : StatusWord) (old : CardState S) (response : List ℕ)
    (new : CardState S) : Type 0 where
  pub response_is : response ≡ status_bytes sw
  pub same : new.app ≡ old.app
  pub none_left : new.left ≡ Nothing_left

-- a GET RESPONSE: 6985 if nothing waits for it
abbrev pub Fetches : {S : Type 0} → CardState S → ℕ → List ℕ → CardState S → Left → Type 0
Fetches old n response new (For_fetch bytes status) =
    (new.app ≡ old.app) × HandsOut bytes status n response new.left
Fetches old n response new other = Refuses (0x69, 0x85) old response new

-- one step of the application
pub record Carries {S : Type 0} (Act : S → Did → S → Type 0) (old : CardState S) (c : Command)
    (n : ℕ) (response : List ℕ) (new : CardState S) : Type 0 where
  pub bytes : List ℕ
  pub status : StatusWord
  pub makes : Makes Act old.app c bytes status new.app
  pub hands : HandsOut bytes status n response new.left

-- The command as T=0 shows it. None for data where the application takes none, and for Le without
-- data where it takes some.
abbrev pub shown : Bool → Header → List ℕ → Option ℕ → Option Command
shown true h [] (Some n) = None
shown true h [] None = Some (taking h [])
shown true h (b ∷ bytes) le = Some (taking h (b ∷ bytes))
shown false h [] le = Some (asking h (unwrap_or le 256))
shown false h (b ∷ bytes) le = None

abbrev pub CarriesTold : {S : Type 0} → (S → Did → S → Type 0) → CardState S → Command → List ℕ
    → CardState S → Option Command → Type 0
CarriesTold Act old c response new None = Refuses (0x67, 0x00) old response new
CarriesTold Act old c response new (Some told) =
    Carries Act old told (may_bring c.le) response new

abbrev pub RespondsBy : {S : Type 0} → (S → Header → Bool) → (S → Did → S → Type 0) → CardState S
    → Command → List ℕ → CardState S → Bool → Type 0
RespondsBy takes Act old c response new true = Fetches old (may_bring c.le) response new old.left
RespondsBy takes Act old c response new false =
    CarriesTold Act old c response new (shown (takes old.app c.header) c.header c.content c.le)

-- what a command does
abbrev pub Responds : {S : Type 0} → (S → Header → Bool) → (S → Did → S → Type 0) → CardState S
    → Command → List ℕ → CardState S → Type 0
Responds takes Act old c response new =
    RespondsBy takes Act old c response new (is_fetch c.header)

-- The same at T=1: 6700 to bytes in none of the four forms, 6D00 to an invalid INS, both without a
-- change. There is no request before a response.
pub record DoesBytes {S : Type 0} (Does : CardState S → Command → List ℕ → CardState S → Type 0)
    (old : CardState S) (d : Done) (new : CardState S) : Type 0 where
  pub no_form : (HasForm d.command → ⊥) → (d.response ≡ status_bytes (0x67, 0x00)) × (new ≡ old)
  pub invalid_ins : (c : Command) → HasInvalidIns c → d.command ≡ command_bytes c
      → (d.response ≡ status_bytes (0x6D, 0x00)) × (new ≡ old)
  pub command : (c : Command) → IsCommand c → d.command ≡ command_bytes c
      → Does old c d.response new
  pub asks : d.asks ≡ no_requests

abbrev pub DoesAt : {S : Type 0} → (S → Header → Bool) → (S → Did → S → Type 0) → CardState S
    → Done → CardState S → Type 0
DoesAt takes Act old d new = DoesBytes (Responds takes Act) old d new
