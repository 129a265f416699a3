-- A whole command at a card whose end takes TPDUs: what a card at T=1 responds, and a reader that
-- fetches by itself (ISO/IEC 7816-3, 12.2).
use Rattle.std.specs.Prelude.{◌≡◌, ℕ, ◌%◌, ◌⊎◌, List, [], ◌∷◌, length, Option, Some, None, false}
use Rattle.apdu_core.specs.declared.header.Header.{Header}
use Rattle.apdu_core.specs.CommandBytes.{Command}
use Rattle.apdu_core.specs.StatusWord.{StatusWord}
use Rattle.t0_core.specs.declared.answer_fault.AnswerFault.TheVariants.{Stalled}
use Rattle.t0_core.specs.declared.tpdu_fault.TpduFault.{TpduFault}
use Rattle.t0_core.specs.declared.tpdu_fault.TpduFault.TheVariants.{UnderWay, NoTpdu, WantsData, SendsData, TooLong}
use Rattle.t0_core.specs.declared.tpdu_card.TpduCard.{Ghosts}
use Rattle.t0_core.specs.CardSide.{EndOf}
use Rattle.t0_core.specs.CardTpdu.{rests}
use Rattle.t0_core.specs.Meaning.{Tpdu}
use Rattle.object_card.specs.Agreed.{IsAgreed}
use Rattle.exchange_core.specs.declared.wanted.Wanted.TheVariants.{Bytes}
use Rattle.exchange_core.specs.declared.wanted.Wanted.{Wanted}
use Rattle.apdu_terminal.specs.declared.apdu_fault.CarryFault.{CarryFault}
use Rattle.apdu_terminal.specs.declared.apdu_fault.CarryFault.TheVariants as why
use Rattle.apdu_terminal.specs.declared.stage.Stage.TheVariants.{Done}
use Rattle.apdu_terminal.specs.Apdus.{Pair, Place, command_at, first_place, may_bring, GoesThrough, Brings, StallsAt}
use Rattle.apdu_terminal.specs.ApduSide.{ApduExchangeOf, ComesTo}

-- P3 of the TPDU of a command of case 1, 2 or 3
abbrev pub p3_of : List ℕ → Option ℕ → ℕ
p3_of [] None = 0
p3_of [] (Some n) = n % 256
p3_of (b ∷ bs) le = length (b ∷ bs)

-- a command of case 4 is sent as a TPDU without its Le
abbrev pub le_of_tpdu : List ℕ → Option ℕ → Option ℕ
le_of_tpdu [] le = le
le_of_tpdu (b ∷ bs) le = None

abbrev pub tpdu_command : Command → Command
tpdu_command c =
    record { header = c.header; content = c.content; le = le_of_tpdu c.content c.le }

-- the TPDU of such a command, with its response: the card takes all of its data or none
pub record IsTpduOf (p : Pair) (t : Tpdu) : Type 0 where
  pub header_is : t.header ≡ p.command.header
  pub p3_is : t.p3 ≡ p3_of p.command.content p.command.le
  pub all_or_none : (t.sent ≡ []) ⊎ (t.sent ≡ p.command.content)
  pub received_is : t.received ≡ p.content
  pub status_is : t.status ≡ p.status

-- from state to state, one step for each pair
abbrev pub InTurn : {State : Type 0} → (State → Pair → State → Type 0) → State → List Pair → State
    → Type 0
InTurn One old [] new = new ≡ old
InTurn {State = State} One old (p ∷ pairs) new =
    (mid : State) × One old p mid × InTurn One mid pairs new

-- the card carries out a pair as a TPDU, whose 61XX announces up to 256 bytes; pairs as TPDUs in
-- turn
abbrev pub GoesAs : {State : Type 0} → (State → ℕ → Tpdu → State → Type 0) → State → Pair → State
    → Type 0
GoesAs Does old p new = (t : Tpdu) × IsTpduOf p t × Does old 256 t new

abbrev pub GoesBy : {State : Type 0} → (State → ℕ → Tpdu → State → Type 0) → State → List Pair
    → State → Type 0
GoesBy Does old pairs new = InTurn (GoesAs Does) old pairs new

-- how much is wanted of a card that carries out this command: Le bytes, none without Le
abbrev pub le_of : Command → Wanted
le_of c = Bytes (may_bring c.le)

-- The card's response to a whole command: what its TPDUs bring if Le bytes are wanted, 256 for 00.
abbrev pub Responds : {State : Type 0} → (State → ℕ → Tpdu → State → Type 0) → State → Pair
    → State → Type 0
Responds Does old p new = (pairs : List Pair)
    × Brings (tpdu_command p.command) (le_of p.command) pairs p.content p.status
    × GoesBy Does old pairs new

-- an exchange has ended, and holds that response
abbrev pub HasResponse : {State : Type 0} → (State → ℕ → Tpdu → State → Type 0) → State → Command
    → State → ApduExchangeOf → Type 0
HasResponse Does old c new ex = (status : StatusWord) × (ex.stage ≡ Done status)
    × Responds Does old (record { command = c; content = ex.gather.bytes; status = status }) new

-- the responses to whole commands in turn
abbrev pub RespondsToAll : {State : Type 0} → (State → ℕ → Tpdu → State → Type 0) → State
    → List Pair → State → Type 0
RespondsToAll Does old pairs new = InTurn (Responds Does) old pairs new

-- the card has carried out the pairs that led to an exchange
abbrev pub HasHad : {State : Type 0} → (State → Pair → State → Type 0) → Command → Wanted
    → State → State → ApduExchangeOf → Type 0
HasHad One c wanted old new ex =
    (pairs : List Pair) × ComesTo c wanted pairs ex × InTurn One old pairs new

-- the same of a whole command at a card's end, by TPDUs
abbrev pub HasCome : {State : Type 0} → (State → ℕ → Tpdu → State → Type 0) → Command → State
    → State → ApduExchangeOf → Type 0
HasCome Does c old new ex = HasHad (GoesAs Does) (tpdu_command c) (le_of c) old new ex

-- Why the card does not finish the TPDU of a command. Under its header the card takes data, and the
-- command, of case 2, has none. Or the card sends data, and the command has no Le.
abbrev pub StopsBy : (Header → Type 0) → (Header → Type 0) → Command → TpduFault → Type 0
StopsBy MayReceive MaySend c WantsData =
    MayReceive c.header × (c.content ≡ []) × ((n : ℕ) × (c.le ≡ Some n))
StopsBy MayReceive MaySend c SendsData = MaySend c.header × (c.le ≡ None)
StopsBy MayReceive MaySend c UnderWay = ⊥
StopsBy MayReceive MaySend c NoTpdu = ⊥
StopsBy MayReceive MaySend c TooLong = ⊥

-- The state of a card that gives no response to a whole command. The command is not agreed with
-- it: it did not finish the TPDU after these, for this reason, and is reset. Or a GET RESPONSE
-- brought no data, and the card announced more.
abbrev pub HasFailed : {C : Type 0} (card : Ghosts C) → Command → card.State → CarryFault
    → card.State → Type 0
HasFailed card c old why.UnderWay new = ⊥
HasFailed card c old why.OutOfMemory new = ⊥
HasFailed card c old (why.Tpdu fault) new = (IsAgreed card.MayReceive card.MaySend c → ⊥)
    × ((pairs : List Pair) × (at : Place) × (mid : card.State)
    × GoesThrough (first_place (tpdu_command c) (le_of c)) pairs at
    × GoesBy card.Does old pairs mid × StopsBy card.MayReceive card.MaySend (command_at at) fault
    × (new ≡ card.after_reset mid))
HasFailed card c old (why.Response fault) new = (fault ≡ Stalled) × ((pairs : List Pair)
    × StallsAt (tpdu_command c) (le_of c) pairs × GoesBy card.Does old pairs new)

-- Or the command has not begun, and nothing has changed.
abbrev pub IsLeft : {C : Type 0} (card : Ghosts C) → Command → EndOf C → CarryFault → EndOf C
    → Type 0
IsLeft card c old why.UnderWay new = (rests old.stage ≡ false) × (new ≡ old)
IsLeft card c old why.OutOfMemory new = new ≡ old
IsLeft card c old (why.Tpdu fault) new =
    HasFailed card c (card.standing old.card) (why.Tpdu fault) (card.standing new.card)
IsLeft card c old (why.Response fault) new =
    HasFailed card c (card.standing old.card) (why.Response fault) (card.standing new.card)
