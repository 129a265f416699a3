-- What one command has done to the card, between the card's states before and after it.
use Rattle.std.specs.Prelude.{◌≡◌, ◌⊎◌, ℕ, List, Option, Some, None}
use Rattle.t1_core.specs.declared.applet.Requests.{Requests}
use Rattle.t1_core.specs.declared.terminal.Fault.{Fault}
use Rattle.t1_core.specs.declared.terminal.Outcome.{Outcome}
use Rattle.t1_core.specs.declared.terminal.Outcome.TheVariants.{NotCarriedOut, Unknown, InPart}
use Rattle.t1_core.specs.CardSide.{Did}

-- the card has carried the command out, in one step, with this response
abbrev pub CarriesOut : {State : Type 0} → (State → Did → State → Type 0) → State
    → (command response : List ℕ) → State → Type 0
CarriesOut Does old command response new = (asks : Requests)
    × Does old (record { command = command; response = response; asks = asks }) new

-- after a fault with this outcome
abbrev pub IsLeftBy : {State : Type 0} → (State → Did → State → Type 0) → State → List ℕ → State
    → Outcome → Type 0
IsLeftBy Does old command new NotCarriedOut = new ≡ old
IsLeftBy Does old command new InPart =
    (response : List ℕ) × CarriesOut Does old command response new
IsLeftBy Does old command new Unknown =
    (new ≡ old) ⊎ ((response : List ℕ) × CarriesOut Does old command response new)

-- Without a fault the card has carried the command out, once, and the answer is its response.
abbrev pub HasDone : {State : Type 0} → (State → Did → State → Type 0) → State
    → (command answer : List ℕ) → State → Option Fault → Type 0
HasDone Does old command answer new None = CarriesOut Does old command answer new
HasDone Does old command answer new (Some fault) = IsLeftBy Does old command new fault.outcome
