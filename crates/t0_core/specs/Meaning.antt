-- What a command TPDU means to a card, apart from the line (ISO/IEC 7816-3, 10.3.1).
use Rattle.std.specs.Prelude.{◌≡◌, ℕ, List, [], ◌∷◌}
use Rattle.apdu_core.specs.declared.header.Header.{Header}
use Rattle.apdu_core.specs.StatusWord.{StatusWord}
use Rattle.t0_core.specs.declared.direction.Direction.{Direction}
use Rattle.t0_core.specs.declared.direction.Direction.TheVariants.{ToCard, FromCard}
use Rattle.t0_core.specs.Dialogue.{Dialogue}
use Rattle.t0_core.specs.Plan.{Course}

-- a command TPDU and its answer
pub record Tpdu : Type 0 where
  pub header : Header
  pub p3 : ℕ
  pub sent : List ℕ  -- data to the card
  pub received : List ℕ  -- data from the card
  pub status : StatusWord

-- the data from the card
abbrev pub received : Dialogue → List ℕ
received d = Received d.body.direction where
  Received : Direction → List ℕ
  Received ToCard = []
  Received FromCard = d.body.moved

abbrev pub sent : Dialogue → List ℕ
sent d = Sent d.body.direction where
  Sent : Direction → List ℕ
  Sent ToCard = d.body.moved
  Sent FromCard = []

abbrev pub tpdu_of : Dialogue → Tpdu
tpdu_of d = record {
  header = d.body.header;
  p3 = d.body.p3;
  sent = sent d;
  received =
      received d;
  status = d.status;
}

-- the card goes from state to state, one dialogue at a time, under the plans' cuts
abbrev pub Runs : {State : Type 0} → (State → ℕ → Tpdu → State → Type 0) → State → List Dialogue
    → List Course → State → Type 0
Runs Does old [] plans new = new ≡ old
Runs {State = State} Does old (d ∷ ds) [] new = (mid : State) × Does old 256 (tpdu_of d) mid
    × Runs Does mid ds [] new
Runs {State = State} Does old (d ∷ ds) (p ∷ plans) new =
    (mid : State) × Does old p.cut (tpdu_of d) mid × Runs Does mid ds plans new

-- the header that a card judges
pub record Ask : Type 0 where
  pub header : Header
  pub p3 : ℕ
  pub cut : ℕ

-- What a card has prepared and not yet done: nothing; to take P3 characters; to send bytes; or an
-- answer, whose state takes effect with SW2.
pub data Prepared (State : Type 0) : Type 0 where
  Nothing : Prepared State
  Receiving : (ask : Ask) → Prepared State
  Sending : (ask : Ask) (bytes : List ℕ) → Prepared State
  Decided : (next : State) → Prepared State

-- it has bytes to send
abbrev pub IsSending : {State : Type 0} → Prepared State → (Ask → List ℕ → Type 0) → Type 0
IsSending Nothing P = ⊥
IsSending (Receiving ask) P = ⊥
IsSending (Sending ask bytes) P = P ask bytes
IsSending (Decided next) P = ⊥

-- it takes the data to the card
abbrev pub IsReceiving : {State : Type 0} → Prepared State → (Ask → Type 0) → Type 0
IsReceiving Nothing P = ⊥
IsReceiving (Receiving ask) P = P ask
IsReceiving (Sending ask bytes) P = ⊥
IsReceiving (Decided next) P = ⊥

-- the answer to a TPDU is decided
abbrev pub Decides : {State : Type 0} → (State → ℕ → Tpdu → State → Type 0) → State → ℕ → Tpdu
    → Prepared State → Type 0
Decides {State = State} Does old cut tpdu prepared = (next : State) × (prepared ≡ Decided next)
    × Does old cut tpdu next

-- a TPDU with a refused header, with data to the card, and with data from it
abbrev pub refused : Ask → StatusWord → Tpdu
refused ask status =
    record { header = ask.header; p3 = ask.p3; sent = []; received = []; status = status }

abbrev pub taken_with : Ask → List ℕ → StatusWord → Tpdu
taken_with ask bytes status =
    record { header = ask.header; p3 = ask.p3; sent = bytes; received = []; status = status }

abbrev pub answered_with : Ask → List ℕ → StatusWord → Tpdu
answered_with ask bytes status =
    record { header = ask.header; p3 = ask.p3; sent = []; received = bytes; status = status }
