-- What the calls by buffers do: steps of one character each, and their number.
use Rattle.std.specs.Prelude.{◌≡◌, ◌⊎◌, ◌<◌, ℕ, ℤ, List, length, take, true, false, Option, Some, None}
use Rattle.t0_core.specs.declared.host_end.HostTurn.{HostTurn}
use Rattle.t0_core.specs.declared.line_fault.LineFault.TheVariants.{NotListening}
use Rattle.t0_core.specs.CardSide.{EndOf, listens}
use Rattle.t0_core.specs.Plan.{Cursor}
use Rattle.t0_core.specs.Buffers.{Steps, HandsOut}
use Rattle.object_card.specs.CardView.{CardView}
use Rattle.exchange_core.specs.declared.handed_out.HandedOut.{HandedOut}
use Rattle.exchange_core.specs.declared.taken.Taken.{Taken}
use Rattle.exchange_core.specs.Buffers.{IsHandingOut, IsTakingAll}
use Rattle.exchange_core.specs.ExchangeSide.{ExchangeOf}
use Rattle.exchange_core.specs.ExchangeSteps.{IsTurn, IsTaking}
use Rattle.card_terminal.specs.TerminalSide.{OperationOf}
use Rattle.card_terminal.specs.TerminalSteps.{IsTerminalHandingOut, IsTerminalTaking}
use Rattle.card_c.specs.declared.card_side.CardSide.{CardSide}
use Rattle.card_c.specs.declared.card_side.CardSide.TheVariants.{Standing}
use Rattle.card_c.specs.Codes.{gt_ok, gt_sends, gt_state, line_code}
use Rattle.card_c.specs.ExchangeCalls.{turn_code, taking_code}
use Rattle.card_c.specs.OwnCalls.{OwnReceives, OwnSends}
use Rattle.card_c.specs.CardCalls.{TakesCharacter, HandsOutCharacter}

-- why the terminal stops: the array is full, or this is what it does next
abbrev pub stop_code : Option HostTurn → ℤ
stop_code None = gt_sends
stop_code (Some turn) = turn_code turn

-- An exchange writes its characters to an array, and their number; the code says why it stops.
abbrev pub SendsBytes : List ℕ → List ℕ → ℕ → ExchangeOf → ℤ → ExchangeOf → Type 0
SendsBytes room room' n' old code new = (handed : HandedOut)
    × (code ≡ stop_code handed.stop) × (n' ≡ handed.count)
    × IsHandingOut IsTurn old room room' handed new

-- An exchange takes the characters of an array, and writes their number; the code is the fault.
abbrev pub ReceivesBytes : List ℕ → ℕ → ExchangeOf → ℤ → ExchangeOf → Type 0
ReceivesBytes bytes n' old code new = (taken : Taken)
    × (code ≡ taking_code taken.outcome) × (n' ≡ taken.count)
    × IsTakingAll IsTaking old bytes taken new

-- the same for a terminal; if it has begun no operation, it sends nothing
abbrev pub TellsHanded : Option HandedOut → ℕ → ℤ → ℕ → Type 0
TellsHanded None n code n' = (code ≡ gt_state) × (n' ≡ n)
TellsHanded (Some handed) n code n' = (code ≡ stop_code handed.stop) × (n' ≡ handed.count)

abbrev pub TerminalSends : List ℕ → ℕ → List ℕ → ℕ → Option OperationOf → ℤ → Option OperationOf
    → Type 0
TerminalSends room n room' n' old code new = (handed : Option HandedOut)
    × TellsHanded handed n code n' × IsTerminalHandingOut old room room' handed new

abbrev pub TerminalReceives : List ℕ → ℕ → Option OperationOf → ℤ → Option OperationOf → Type 0
TerminalReceives bytes n' old code new = (taken : Taken)
    × (code ≡ taking_code taken.outcome) × (n' ≡ taken.count)
    × IsTakingAll IsTerminalTaking old bytes taken new

-- a card's end, with its plans
abbrev pub Driven : Type 0
Driven = EndOf CardView × Cursor

abbrev pub HandsOutOne : Driven → ℕ → Driven → Type 0
HandsOutOne s byte t = HandsOutCharacter s.0 s.1 byte t.0 t.1

-- It writes this number of characters to an array: until that is full, or the card listens.
abbrev pub HandsOutAll : EndOf CardView → Cursor → List ℕ → List ℕ → ℕ → EndOf CardView → Cursor
    → Type 0
HandsOutAll end plans room room' n' next left =
    HandsOut HandsOutOne (end, plans) room room' n' (next, left)
    × ((n' ≡ length room) ⊎ ((n' < length room) × (listens next.stage ≡ true)))

abbrev pub CardSends : List ℕ → ℕ → List ℕ → ℕ → CardSide → ℤ → CardSide → Type 0
CardSends room n room' n' (Standing end plans) code new =
    (next : EndOf CardView) × (left : Cursor) × (new ≡ Standing next left)
    × HandsOutAll end plans room room' n' next left
    × (n' ≡ length room → code ≡ gt_sends) × (n' < length room → code ≡ gt_ok)
CardSends room n room' n' side code new = OwnSends room n room' n' side code new

-- A card's end takes this number of characters of an array: all, or until it does not listen.
abbrev pub TakesAll : EndOf CardView → List ℕ → ℕ → EndOf CardView → Type 0
TakesAll end bytes n' next = Steps TakesCharacter end (take n' bytes) next
    × ((n' ≡ length bytes) ⊎ ((n' < length bytes) × (listens next.stage ≡ false)))

abbrev pub CardReceives : List ℕ → ℕ → ℕ → CardSide → ℤ → CardSide → Type 0
CardReceives bytes n n' (Standing end plans) code new =
    (next : EndOf CardView) × (new ≡ Standing next plans) × TakesAll end bytes n' next
    × (n' ≡ length bytes → code ≡ gt_ok)
    × (n' < length bytes → code ≡ line_code NotListening)
CardReceives bytes n n' side code new = OwnReceives bytes n n' side code new
