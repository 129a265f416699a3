-- What one TPDU does to the card and its application (ISO/IEC 7816-3, 10.3 and 12.2).
use Rattle.std.specs.Prelude.{◌≡◌, ℕ, List, [], length, Option, Some, None, Bool, true, false}
use Rattle.apdu_core.specs.declared.header.Header.{Header}
use Rattle.apdu_core.specs.HeaderBytes.{ins_is_valid}
use Rattle.apdu_core.specs.StatusWord.{StatusWord, count}
use Rattle.t0_core.specs.Meaning.{Tpdu}
use Rattle.command_card.specs.Carrying.{Did, Makes, asking, taking}
use Rattle.command_card.specs.State.{CardState, Hand, Left, For_repeat, Outcome, handed, is_fetch, pending_for, refusing, taken}

-- What a header is: its INS is 6X or 9X; it asks for the pending response; it is a GET RESPONSE
-- and nothing waits; data to the card follow; or none do.
pub data Kind : Type 0 where
  Invalid : Kind
  Hands : (hand : Hand) → Kind
  Unfetched : Kind
  Takes : Kind
  Asks : Kind

abbrev pub kind_of : Bool → Option Hand → Bool → Bool → Kind
kind_of false hand fetch takes = Invalid
kind_of true (Some hand) fetch takes = Hands hand
kind_of true None true takes = Unfetched
kind_of true None false true = Takes
kind_of true None false false = Asks

abbrev pub kind_in : {S : Type 0} → (S → Header → Bool) → CardState S → Header → ℕ → Kind
kind_in takes old h p3 =
    kind_of (ins_is_valid h.ins) (pending_for old.left h p3) (is_fetch h) (takes old.app h)

-- the TPDU brings this outcome
pub record Brings (t : Tpdu) (left : Left) (o : Outcome) : Type 0 where
  pub received_is : t.received ≡ o.received
  pub status_is : t.status ≡ o.status
  pub left_is : left ≡ o.left

-- a TPDU without data to the card, and without a step of the application
pub record Answers {S : Type 0} (old : CardState S) (t : Tpdu) (new : CardState S) (o : Outcome)
    : Type 0 where
  pub same : new.app ≡ old.app
  pub none_sent : t.sent ≡ []
  pub brings : Brings t new.left o

-- one step of the application, after data to the card
pub record CarriesTaken {S : Type 0} (Act : S → Did → S → Type 0) (old : CardState S) (cut : ℕ)
    (t : Tpdu) (new : CardState S) : Type 0 where
  pub response : List ℕ
  pub status : StatusWord
  pub makes : Makes Act old.app (taking t.header t.sent) response status new.app
  pub counts : t.p3 ≡ length t.sent
  pub brings : Brings t new.left (taken response status cut)

-- one step of the application, at the header
pub record CarriesAsked {S : Type 0} (Act : S → Did → S → Type 0) (old : CardState S) (cut : ℕ)
    (t : Tpdu) (new : CardState S) : Type 0 where
  pub response : List ℕ
  pub status : StatusWord
  pub makes : Makes Act old.app (asking t.header (count t.p3)) response status new.app
  pub none_sent : t.sent ≡ []
  pub brings : Brings t new.left
      (handed (For_repeat t.header response status) response status (count t.p3) cut)

abbrev pub DoesBy : {S : Type 0} → (S → Did → S → Type 0) → CardState S → ℕ → Tpdu → CardState S
    → Kind → Type 0
DoesBy Act old cut t new (Hands hand) =
    Answers old t new (handed old.left hand.bytes hand.status (count t.p3) cut)
DoesBy Act old cut t new Invalid = Answers old t new (refusing (0x6D, 0x00))
DoesBy Act old cut t new Unfetched = Answers old t new (refusing (0x69, 0x85))
DoesBy Act old cut t new Takes = CarriesTaken Act old cut t new
DoesBy Act old cut t new Asks = CarriesAsked Act old cut t new

-- What one TPDU does, under this cut. A pending response is handed over without a step of the
-- application. Each other TPDU is one step of it, or a refusal, and ends what was pending.
abbrev pub Does : {S : Type 0} → (S → Header → Bool) → (S → Did → S → Type 0) → CardState S → ℕ
    → Tpdu → CardState S → Type 0
Does takes Act old cut t new = DoesBy Act old cut t new (kind_in takes old t.header t.p3)
