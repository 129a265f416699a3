-- The command that reaches an application.
use Rattle.std.specs.Prelude.{Some, take, drop, unwrap_or, ◌≡◌, ◌≢◌, ◌⊎◌, ℕ, ◌≤◌, List, [], ◌∷◌, ◌++◌, None, Bool, true, false}
use Rattle.apdu_core.specs.declared.header.Header.{Header}
use Rattle.apdu_core.specs.HeaderBytes.{ins_is_valid}
use Rattle.apdu_core.specs.CommandBytes.{Command}
use Rattle.apdu_core.specs.StatusWord.{StatusWord, announces}
use Rattle.command_card.specs.Carrying.{Did, Makes, asking, taking}
use Rattle.command_card.specs.State.{CardState, announcing, fetch_left, is_fetch, pending_for}
use Rattle.t0_core.specs.Plan.{Course}
use Rattle.exchange_core.specs.declared.wanted.Wanted.{Wanted}
use Rattle.exchange_core.specs.declared.wanted.Wanted.TheVariants.{Bytes, Everything}
use Rattle.exchange_core.specs.Gathered.{wanted_by}
use Rattle.command_card.specs.AtT1.{HandsOut, Responds, may_bring, status_bytes}

-- The command as T=0 tells it to the card: data without Le, or Le without data.
abbrev pub told : Bool → Command → Command
told true c = taking c.header c.content
told false c = asking c.header (unwrap_or c.le 256)

-- A command of the application's own: its INS is valid and not GET RESPONSE, and nothing is pending
-- that it asks for. If the application takes no data, it has none, and a Le of 1 to 256. If the
-- application takes data, it has Le only with data.
pub record AreAgreed {S : Type 0} (takes : S → Header → Bool) (first : CardState S) (c : Command)
    : Type 0 where
  pub valid : ins_is_valid c.header.ins ≡ true
  pub no_fetch : is_fetch c.header ≡ false
  pub no_data : takes first.app c.header ≡ false → c.content ≡ []
  pub has_le : takes first.app c.header ≡ false
      → (n : ℕ) × (c.le ≡ Some n) × (1 ≤ n) × (n ≤ 256)
  pub no_le : takes first.app c.header ≡ true → c.content ≡ [] → c.le ≡ None
  pub none_pending : (p3 : ℕ) → pending_for first.left c.header p3 ≡ None

-- the front of a response that a terminal wants, and the rest
abbrev pub wanted_part : Wanted → List ℕ → List ℕ
wanted_part (Bytes n) bytes = take n bytes
wanted_part Everything bytes = bytes

abbrev pub unwanted_part : Wanted → List ℕ → List ℕ
unwanted_part (Bytes n) bytes = drop n bytes
unwanted_part Everything bytes = []

-- the cut of one of the plans, or the one of a TPDU without a plan
abbrev pub IsCutOf : List Course → ℕ → Type 0
IsCutOf [] cut = cut ≡ 256
IsCutOf (p ∷ plans) cut = (cut ≡ p.cut) ⊎ IsCutOf plans cut

-- One step of the application. As much of its response comes as is wanted. The rest is pending, and
-- 61XX announces it, under a cut of the plans; without a rest the application's status comes.
pub record GathersPart {S : Type 0} (takes : S → Header → Bool) (Act : S → Did → S → Type 0)
    (plans : List Course) (first : CardState S) (c : Command) (gathered : List ℕ)
    (status : StatusWord) (last : CardState S) : Type 0 where
  pub bytes : List ℕ
  pub own : StatusWord
  pub cut : ℕ
  pub is_cut : IsCutOf plans cut
  pub makes : Makes Act first.app (told (takes first.app c.header) c) bytes own last.app
  pub gathered_is : gathered ≡ wanted_part (wanted_by c.le) bytes
  pub status_is : status ≡ announcing (unwanted_part (wanted_by c.le) bytes) own cut
  pub left_is : last.left ≡ fetch_left (unwanted_part (wanted_by c.le) bytes) own

-- One step of the application. At most Le bytes of its response come, and 61XX announces the rest.
pub record IsOneStep {S : Type 0} (takes : S → Header → Bool) (Act : S → Did → S → Type 0)
    (old : CardState S) (c : Command) (response : List ℕ) (new : CardState S) : Type 0 where
  pub bytes : List ℕ
  pub status : StatusWord
  pub makes : Makes Act old.app (told (takes old.app c.header) c) bytes status new.app
  pub hands : HandsOut bytes status (may_bring c.le) response new.left

-- GET RESPONSE, with any Le, as long as 61XX announces more: the data of all, and the last status.
abbrev pub GathersRest : {S : Type 0} → (S → Header → Bool) → (S → Did → S → Type 0)
    → CardState S → StatusWord → List (List ℕ) → List ℕ → StatusWord → CardState S → Type 0
GathersRest takes Act old sw [] gathered status new =
    (announces sw ≡ None) × (gathered ≡ []) × (status ≡ sw) × (new ≡ old)
GathersRest {S = S} takes Act old sw (response ∷ others) gathered status new =
    (announces sw ≢ None) × (fetch : Command) × (is_fetch fetch.header ≡ true)
    × (n : ℕ) × (fetch.le ≡ Some n) × (1 ≤ n) × (mid : CardState S)
    × Responds takes Act old fetch response mid × (front rest : List ℕ) × (next : StatusWord)
    × (response ≡ front ++ status_bytes next) × (gathered ≡ front ++ rest)
    × GathersRest takes Act mid next others rest status new
