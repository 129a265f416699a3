-- What a terminal gathers of a command at T=0 and by whole commands, as at T=1.
use Rattle.std.specs.Prelude.{◌≡◌, ℕ, ◌%◌, ◌==◌, min, List, [], ◌++◌, None, Bool, true, false, if◌then◌else◌}
use Rattle.std.specs.List.{AllByRecursion, flat_map}
use Rattle.apdu_core.specs.declared.header.Header.{Header}
use Rattle.apdu_core.specs.HeaderBytes.{ins_is_valid}
use Rattle.apdu_core.specs.CommandBytes.{Command}
use Rattle.apdu_core.specs.StatusWord.{StatusWord, count}
use Rattle.t0_core.specs.Dialogue.{IsDialogue}
use Rattle.t0_core.specs.Meaning.{Runs}
use Rattle.t0_core.specs.Plan.{Course, FollowInTurn}
use Rattle.exchange_core.specs.declared.wanted.Wanted.{Wanted}
use Rattle.exchange_core.specs.declared.wanted.Wanted.TheVariants.{Bytes, Everything}
use Rattle.exchange_core.specs.Gathered.{UnitOf, Gathers, dialogues_of, wanted_by}
use Rattle.command_card.specs.Carrying.{Did}
use Rattle.command_card.specs.State.{CardState, is_fetch, pending_for}
use Rattle.command_card.specs.Meaning.{Does}
use Rattle.command_card.specs.AtT1.{Responds, status_bytes}
use Rattle.command_card.specs.Told.{GathersRest}

-- the status at T=0 for that of a whole command: 61XX announces at most the cut
abbrev pub cut_to : ℕ → StatusWord → StatusWord
cut_to cut sw = if sw.0 == 0x61 then (0x61, min (count sw.1) cut % 256) else sw

-- What follows the first response: for Le 00 GET RESPONSE, as long as 61XX announces more;
-- otherwise nothing.
abbrev pub FollowsUp : {S : Type 0} → (S → Header → Bool) → (S → Did → S → Type 0) → CardState S
    → List ℕ → StatusWord → List ℕ → StatusWord → CardState S → Wanted → Type 0
FollowsUp takes Act old front sw gathered status new (Bytes n) =
    (gathered ≡ front) × (status ≡ sw) × (new ≡ old)
FollowsUp takes Act old front sw gathered status new Everything = (others : List (List ℕ))
    × (rest : List ℕ) × (gathered ≡ front ++ rest)
    × GathersRest takes Act old sw others rest status new

-- by whole commands
pub record GathersWhole {S : Type 0} (takes : S → Header → Bool) (Act : S → Did → S → Type 0)
    (first : CardState S) (c : Command) (gathered : List ℕ) (status : StatusWord)
    (last : CardState S) : Type 0 where
  pub front : List ℕ
  pub sw : StatusWord
  pub mid : CardState S
  pub responds : Responds takes Act first c (front ++ status_bytes sw) mid
  pub follows : FollowsUp takes Act mid front sw gathered status last (wanted_by c.le)

-- At T=0 under these plans: an exchange of the command, by whole TPDUs.
pub record GathersAtT0 {S : Type 0} (takes : S → Header → Bool) (Act : S → Did → S → Type 0)
    (plans : List Course) (first : CardState S) (c : Command) (gathered : List ℕ)
    (status : StatusWord) (last : CardState S) : Type 0 where
  pub units : List UnitOf
  pub are_dialogues : AllByRecursion IsDialogue (flat_map dialogues_of units)
  pub follow : FollowInTurn (flat_map dialogues_of units) plans
  pub runs : Runs (Does takes Act) first (flat_map dialogues_of units) plans last
  pub gathers : Gathers c units gathered status

-- Case 1 of an application that takes no data: neither data nor Le. At T=0 its P3 asks for 256
-- bytes.
pub record IsCase1 {S : Type 0} (takes : S → Header → Bool) (first : CardState S) (c : Command)
    : Type 0 where
  pub valid : ins_is_valid c.header.ins ≡ true
  pub no_fetch : is_fetch c.header ≡ false
  pub takes_none : takes first.app c.header ≡ false
  pub no_data : c.content ≡ []
  pub no_le : c.le ≡ None
  pub none_pending : (p3 : ℕ) → pending_for first.left c.header p3 ≡ None
