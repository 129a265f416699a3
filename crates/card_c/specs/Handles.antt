-- What the handles of C hold, and what a call does to it.
use Rattle.std.specs.Prelude.{◌≡◌, ℤ, Option, Some, None, if◌then◌else◌, MatchOption}
use Rattle.card_c.specs.declared.held_card.CardHandle.{CardHandle}
use Rattle.card_c.specs.declared.card_side.CardSide.{CardSide}
use Rattle.card_c.specs.declared.held_exchange.ExchangeHandle.{ExchangeHandle}
use Rattle.card_c.specs.declared.held_t1.T1Handle.{T1Handle}
use Rattle.card_c.specs.declared.held_terminal.TerminalHandle.{TerminalHandle}
use Rattle.card_c.specs.declared.terminal_side.TerminalSide.{TerminalSide}
use Rattle.card_c.specs.declared.t1_side.T1Side.{T1Side}
use Rattle.card_c.specs.declared.exchange_side.ExchangeSide.{ExchangeSide}
use Rattle.card_c.specs.Codes.{gt_empty}

-- nothing, if the handle is not live
abbrev pub held_by : CardHandle → Option CardSide
held_by handle = if handle.live then handle.held.value else None

abbrev pub exchange_in : ExchangeHandle → Option ExchangeSide
exchange_in handle = if handle.live then handle.held.value else None

abbrev pub terminal_in : TerminalHandle → Option TerminalSide
terminal_in handle = if handle.live then handle.held.value else None

abbrev pub t1_in : T1Handle → Option T1Side
t1_in handle = if handle.live then handle.held.value else None

-- A call on an empty handle returns that code, and the handle stays empty. A call on another does
-- this to what it holds, and the handle stays live.
abbrev pub OnHandle : {Content : Type 0} → (Content → ℤ → Content → Type 0) → Option Content → ℤ
    → Option Content → Type 0
OnHandle Does None code new = (code ≡ gt_empty) × (new ≡ None)
OnHandle Does (Some old) code new = MatchOption new ⊥ (λ content. Does old code content)

-- The same of a call that also writes to the caller: with an empty handle `Unwritten` holds.
abbrev pub OnHandleOr : {Content : Type 0} → Type 0 → (Content → ℤ → Content → Type 0)
    → Option Content → ℤ → Option Content → Type 0
OnHandleOr Unwritten Does None code new = (code ≡ gt_empty) × (new ≡ None) × Unwritten
OnHandleOr Unwritten Does (Some old) code new = MatchOption new ⊥ (λ content. Does old code content)

-- A call that only looks at what a handle holds, and writes of it what this says. With an empty
-- handle it returns that code, and `Unwritten` holds.
abbrev pub OnLook : {Content : Type 0} → Type 0 → (Content → ℤ → Type 0) → Option Content → ℤ
    → Option Content → Type 0
OnLook Unwritten Tells old code new =
    (new ≡ old) × MatchOption old ((code ≡ gt_empty) × Unwritten) (λ content. Tells content code)
