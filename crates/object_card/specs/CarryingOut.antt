-- How an operation is carried out with a card: its commands, one TPDU each, and GET RESPONSE for
-- what waits (ISO/IEC 7816-3, 12.2.1; ISO/IEC 7816-4, SELECT, GET DATA, PUT DATA and 5.1.1.1).
use Rattle.std.specs.Prelude.{◌≡◌, ◌≢◌, ℕ, List, [], ◌∷◌, ◌++◌, length, take, drop, Some, None, true}
use Rattle.apdu_core.specs.Shared.{get_response}
use Rattle.apdu_core.specs.declared.header.Header.{Header}
use Rattle.apdu_core.specs.StatusWord.{StatusWord, ok, count, announces}
use Rattle.apdu_core.specs.CommandBytes.{Command}
use Rattle.t0_core.specs.Plan.{IsCut}
use Rattle.t0_core.specs.Meaning.{Tpdu}
use Rattle.object_card.specs.declared.instructions.Instruction.TheVariants.{Select, GetData, PutData, GetResponse}
use Rattle.object_card.specs.Instructions.{ins_of}
use Rattle.object_card.specs.State.{CardState, is_idle, waiting, pending_of}
use Rattle.object_card.specs.OneStep.{Operation, Answers, SameTables}
use Rattle.object_card.specs.CardMeaning.{Does, announcing}

-- The headers: SELECT by identifier, GET DATA, PUT DATA as the last of its chain, and GET RESPONSE.
-- The class of GET RESPONSE has no chaining and channel 0 (profile).
abbrev pub select_header : Header
select_header = record { cla = 0x00; ins = ins_of Select; p1 = 0x04; p2 = 0x00 }

abbrev pub get_header : ℕ → ℕ → Header
get_header p1 p2 = record { cla = 0x00; ins = ins_of GetData; p1 = p1; p2 = p2 }

abbrev pub put_header : ℕ → ℕ → Header
put_header p1 p2 = record { cla = 0x00; ins = ins_of PutData; p1 = p1; p2 = p2 }

-- The operation gets this reply in one step, the tables are those afterwards, and no chain is
-- pending.
abbrev pub IsCarriedOut : CardState → Operation → StatusWord → List ℕ → CardState → Type 0
IsCarriedOut old operation status content new =
    (after : CardState) × Answers old operation (record { status = status; content = content })
    after
    × SameTables after new × (is_idle new.pending ≡ true)

-- the TPDU of a command that sends data: P3 is their number, and the card takes all of them or the
-- first ones
pub record Carries (header : Header) (content : List ℕ) (t : Tpdu) : Type 0 where
  pub header_is : t.header ≡ header
  pub counts : t.p3 ≡ length content
  pub takes : (rest : List ℕ) × (content ≡ t.sent ++ rest)

-- the command gets this status, under some cut
abbrev pub IsAnswered : CardState → Command → StatusWord → CardState → Type 0
IsAnswered old c status new =
    (cut : ℕ) × (t : Tpdu) × Carries c.header c.content t × (t.status ≡ status) × Does old cut t new

-- the commands follow in turn, and each gets 9000
abbrev pub AreTaken : CardState → List Command → CardState → Type 0
AreTaken old [] new = new ≡ old
AreTaken old (c ∷ commands) new = (mid : CardState) × IsAnswered old c ok mid
    × AreTaken mid commands new

-- The commands follow in turn, up to the first whose status is not 9000. The status is that of the
-- last one.
pub data EndsWith (old : CardState) (commands : List Command) (new : CardState) : StatusWord
    → Type 0 where
  all_taken : AreTaken old commands new → EndsWith old commands new ok
  stopped : (before : List Command) (c : Command) (after : List Command) (mid : CardState)
      (status : StatusWord)
      → commands ≡ before ++ c ∷ after → AreTaken old before mid → IsAnswered mid c status new
      → status ≢ ok
      → EndsWith old commands new status

-- these TPDUs, one after another, each a GET RESPONSE, under any cuts
abbrev pub AreFetches : CardState → List Tpdu → CardState → Type 0
AreFetches old [] new = new ≡ old
AreFetches old (t ∷ others) new =
    (cut : ℕ) × (mid : CardState) × (t.header ≡ get_response) × Does old cut t mid
    × AreFetches mid others new

-- After this status the terminal fetches all that is announced, and again, until a status announces
-- no more. That status is the last.
abbrev pub FetchAll : CardState → StatusWord → List Tpdu → StatusWord → CardState → Type 0
FetchAll old status [] last new = (announces status ≡ None) × (last ≡ status) × (new ≡ old)
FetchAll old status (t ∷ others) last new =
    (n cut : ℕ) × (mid : CardState) × (announces status ≡ Some n) × (t.header ≡ get_response)
    × (count t.p3 ≡ n)
    × IsCut cut × Does old cut t mid × FetchAll mid t.status others last new

-- A fetch of no more than what waits brings as many bytes as P3 states, and its status announces
-- what is left.
pub record IsFetched (old : CardState) (cut : ℕ) (t : Tpdu) (new : CardState) : Type 0 where
  pub brought : t.received ≡ take (count t.p3) (waiting old.pending)
  pub left : new.pending ≡ pending_of (drop (count t.p3) (waiting old.pending))
  pub status_is : t.status ≡ announcing (drop (count t.p3) (waiting old.pending)) cut
  pub same_applications : new.applications ≡ old.applications
  pub same_selected : new.selected ≡ old.selected
