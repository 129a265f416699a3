-- What a terminal reports of one command, beside an application that is called directly with the
-- command as the line shows it (ISO/IEC 7816-3, clause 12; 7816-4, 5.1 and GET RESPONSE).
use Rattle.std.specs.Prelude.{◌≡◌, ◌≢◌, ◌≤◌, ℕ, List, [], Option, Some, None, Bool, true, false, length}
use Rattle.apdu_core.specs.declared.header.Header.{Header}
use Rattle.apdu_core.specs.CommandBytes.{Command}
use Rattle.apdu_core.specs.StatusWord.{StatusWord}
use Rattle.t0_core.specs.Plan.{IsCut}
use Rattle.exchange_core.specs.Gathered.{wanted_by}
use Rattle.command_card.specs.declared.application.TheConstants.{OWN_RESPONSE_LIMIT}
use Rattle.command_card.specs.Carrying.{Did, IsOwn, Makes}
use Rattle.command_card.specs.State.{CardState, Left, Nothing_left, For_fetch, For_repeat, announcing, fetch_left, is_fetch}
use Rattle.command_card.specs.AtT1.{shown}
use Rattle.command_card.specs.Told.{unwanted_part, wanted_part}

-- The most that a 61XX announces: at T=0 a plan may cut it to any count of 1 to 256.
abbrev pub By_plans : ℕ → Type 0
By_plans most = IsCut most

-- By whole commands, so also at T=1, it announces up to 256 bytes.
abbrev pub By_whole : ℕ → Type 0
By_whole most = most ≡ 256

-- The terminal reports this of a response and its status. The first Le bytes are there, all of them
-- for Le 00 and none without Le. If no byte is left the status is the response's own. Otherwise it
-- is 61XX, and the rest waits for GET RESPONSE.
pub record Reports (IsMost : ℕ → Type 0) (c : Command) (response : List ℕ) (own : StatusWord)
    (gathered : List ℕ) (status : StatusWord) (left : Left) : Type 0 where
  pub gathered_is : gathered ≡ wanted_part (wanted_by c.le) response
  pub most : ℕ
  pub is_most : IsMost most
  pub status_is : status ≡ announcing (unwanted_part (wanted_by c.le) response) own most
  pub left_is : left ≡ fetch_left (unwanted_part (wanted_by c.le) response) own

-- The application is called once, with the command as the line shows it. (`Makes`: it gives this
-- response and status, and goes from `old.app` to `new.app`. Or its response is above 4,096 bytes:
-- then the card says 6F00, and the application stays as it was.)
pub record IsCalledOnce {S : Type 0} (Act : S → Did → S → Type 0) (IsMost : ℕ → Type 0)
    (old : CardState S) (c called : Command) (gathered : List ℕ) (status : StatusWord)
    (new : CardState S) : Type 0 where
  pub response : List ℕ
  pub own : StatusWord
  pub makes : Makes Act old.app called response own new.app
  pub reports : Reports IsMost c response own gathered status new.left

-- The application is not called. The card alone answers with a status.
pub record IsRefused {S : Type 0} (sw : StatusWord) (old : CardState S) (gathered : List ℕ)
    (status : StatusWord) (new : CardState S) : Type 0 where
  pub same : new.app ≡ old.app
  pub none : gathered ≡ []
  pub status_is : status ≡ sw
  pub none_left : new.left ≡ Nothing_left

-- INS C0: the card alone answers with what waits, or with 6985 if nothing does.
abbrev pub IsFetched : {S : Type 0} → (ℕ → Type 0) → CardState S → Command → List ℕ → StatusWord
    → CardState S → Left → Type 0
IsFetched IsMost old c gathered status new (For_fetch response own) =
    (new.app ≡ old.app) × Reports IsMost c response own gathered status new.left
IsFetched IsMost old c gathered status new other = IsRefused (0x69, 0x85) old gathered status new

-- Data where the application takes none, or a Le alone where it takes data: 6700.
abbrev pub IsCalledWith : {S : Type 0} → (S → Did → S → Type 0) → (ℕ → Type 0) → CardState S
    → Command → List ℕ → StatusWord → CardState S → Option Command → Type 0
IsCalledWith Act IsMost old c gathered status new None =
    IsRefused (0x67, 0x00) old gathered status new
IsCalledWith Act IsMost old c gathered status new (Some called) =
    IsCalledOnce Act IsMost old c called gathered status new

abbrev pub AsIfBy : {S : Type 0} → (S → Header → Bool) → (S → Did → S → Type 0) → (ℕ → Type 0)
    → CardState S → Command → List ℕ → StatusWord → CardState S → Bool → Type 0
AsIfBy takes Act IsMost old c gathered status new true =
    IsFetched IsMost old c gathered status new old.left
AsIfBy takes Act IsMost old c gathered status new false =
    IsCalledWith Act IsMost old c gathered status new
    (shown (takes old.app c.header) c.header c.content c.le)

-- THE STATEMENT. From the state `old` the terminal sent the command `c`, and all that follows it.
-- It reports the bytes `gathered` and `status`, and the state is now `new`. Each case is known from
-- INS, from the state before, and from the direction of data: INS C0; a refusal; or one call.
abbrev pub AsIfCalled : {S : Type 0} → (S → Header → Bool) → (S → Did → S → Type 0)
    → (ℕ → Type 0) → CardState S → Command → List ℕ → StatusWord → CardState S → Type 0
AsIfCalled takes Act IsMost old c gathered status new =
    AsIfBy takes Act IsMost old c gathered status new (is_fetch c.header)

-- What waits is the rest of a response, with a status of the application's own. (After a 6CXX,
-- which the terminal answers by itself, nothing waits when it reports.)
abbrev pub IsTidy : Left → Type 0
IsTidy Nothing_left = Unit {0}
IsTidy (For_fetch response own) =
    (response ≢ []) × IsOwn own × (length response ≤ OWN_RESPONSE_LIMIT)
IsTidy (For_repeat header response own) = ⊥
