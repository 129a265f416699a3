-- Laws of the fronts of a card's end.
use Rattle.std.proofs.Common.{◌≡◌, ℕ, ◌+◌, ◌<◌, List, [], ◌∷◌, length, refl, sym, ◌∙◌, ap, arith, inl, inr, lit<, true, false, ◌&&◌, nat_lt, length-append, eq-eqb}
use Rattle.std.proofs.lemmas.Bool.{eqb-true, ltb-true, ltb-false}
use Rattle.t0_core.specs.declared.end.End.TheVariants.{Terminal, Card}
use Rattle.t0_core.specs.declared.direction.Direction.{Direction}
use Rattle.t0_core.specs.declared.direction.Direction.TheVariants.{ToCard, FromCard}
use Rattle.t0_core.specs.Dialogue.{Body, data_sender}
use Rattle.t0_core.specs.Plan.{Course}
use Rattle.t0_core.specs.Meaning.{Tpdu, Prepared}
use Rattle.t0_core.specs.Front.{Front, In_header, In_body, After_first, GoesOn, header_only, with_moved}
use Rattle.t0_core.specs.CardSide.{Stage, Taking_header, Refusing, Serving, Ending, StandsAt, listens, takes_plan, with_character, still_to_go, comes_from_terminal}
use Rattle.t0_core.specs.CardHistory.{under_way}

-- the terminal sends the next data character
pub due_data : (d : Direction) (a b : ℕ) → (comes_from_terminal d && nat_lt a b) ≡ true
    → (d ≡ ToCard) × (a < b)
due_data ToCard a b due = (refl, ltb-true a b due)
due_data FromCard a b due = absurd (cc)

pub next_header : (bytes : List ℕ) (byte : ℕ) → length bytes < 5
    → (new : Front) × GoesOn (In_header bytes) (Terminal, byte) new
next_header [] byte lt = (In_header (byte ∷ []), (refl, inl (lit< tt, refl)))
next_header (a ∷ []) byte lt = (In_header (a ∷ byte ∷ []), (refl, inl (lit< tt, refl)))
next_header (a ∷ b ∷ []) byte lt = (In_header (a ∷ b ∷ byte ∷ []), (refl, inl (lit< tt, refl)))
next_header (a ∷ b ∷ c ∷ []) byte lt =
    (In_header (a ∷ b ∷ c ∷ byte ∷ []), (refl, inl (lit< tt, refl)))
next_header (a ∷ b ∷ c ∷ d ∷ []) byte lt = (
  In_body (header_only (record { cla = a; ins = b; p1 = c; p2 = d }) byte FromCard),
  (refl, inr (record { cla = a; ins = b; p1 = c; p2 = d }, FromCard, refl, refl)),
)
next_header (a ∷ b ∷ c ∷ d ∷ e ∷ rest) byte lt = absurd (omega (arith, lt))

-- if a card's end listens, any character of the terminal leads to a next front
pub next_front : {State : Type 0} (Does : State → ℕ → Tpdu → State → Type 0) (standing : State)
    (prepared : Prepared State) (stage : Stage) (cut byte : ℕ) (front : Front)
    → listens stage ≡ true → StandsAt Does standing prepared stage cut front
    → (new : Front) × GoesOn front (Terminal, byte) new
next_front Does s p (Taking_header bytes) cut byte (In_header f) due stands =
    next_header f byte (omega (arith, stands.1, ap length stands.0))
next_front Does s p (Taking_header bytes) cut byte (In_body b) due stands =
    absurd (omega (arith, ltb-true (length bytes) 5 due, ap length stands.0))
next_front Does s p (Refusing h p3 status done) cut byte front due stands = absurd (cc)
next_front Does s p (Serving service came) cut byte (In_body b) due stands =
    let data_due = due_data service.direction service.moved service.until due in (
      In_body (with_moved b byte),
      inl (
        omega (arith, data_due.1, stands.moved_is, stands.until_is),
        ap data_sender (sym (stands.direction_is ∙ data_due.0)),
        refl,
      ),
    )
next_front Does s p (Ending status) cut byte front due stands = absurd (cc)
next_front _ _ _ _ _ _ _ _ stands = absurd stands

-- a character of the terminal leaves the plan of the TPDU
pub taken_stays : (stage : Stage) (plan : Course) (byte : ℕ)
    → under_way (with_character stage byte) plan ≡ under_way stage plan
taken_stays (Taking_header bytes) plan byte = refl
taken_stays _ _ _ = refl

-- the measure just before a plan is taken
pub before_plan : (stage : Stage) (plan : Course) → takes_plan stage ≡ true
    → still_to_go stage plan ≡ length plan.steps + 300
before_plan (Taking_header bytes) plan e = let five : length bytes ≡ 5 =
    eqb-true (length bytes) 5 e in omega (arith, five)
before_plan _ plan e = absurd (cc)

-- the number of segments and data of a front; 1 after SW1
abbrev weight : Front → ℕ
weight (In_header f) = 0
weight (In_body b) = length b.segments + length b.moved
weight (After_first b sw1) = 1

weighs : (front new : Front) (byte : ℕ) → GoesOn front (Card, byte) new → 0 < weight new
weighs (In_header f) new byte goes = let e : Card ≡ Terminal = goes.0 in absurd (cc)
weighs (In_body b) new byte (inl moves) =
    omega (arith, ap weight moves.2, length-append b.moved (byte ∷ []))
weighs (In_body b) new byte (inr (inl begins)) =
    omega (arith, ap weight begins.2.3, length-append b.segments (begins.2.0 ∷ []))
weighs (In_body b) new byte (inr (inr ends)) = omega (arith, ap weight ends.3)
weighs (After_first b sw1) new byte goes = absurd goes

-- after its first character the card has begun to answer
pub begun : {State : Type 0} (Does : State → ℕ → Tpdu → State → Type 0) (standing : State)
    (prepared : Prepared State) (stage : Stage) (cut byte : ℕ) (plan : Course) (front new : Front)
    → GoesOn front (Card, byte) new → StandsAt Does standing prepared stage cut new
    → under_way stage plan ≡ plan ∷ []
begun Does s p (Taking_header bytes) cut byte plan front (In_header f) goes stands =
    absurd (omega (arith, weighs front (In_header f) byte goes))
begun Does s p (Taking_header bytes) cut byte plan front (In_body b) goes stands =
    absurd (omega (
      arith,
      weighs front (In_body b) byte goes,
      ap (λ (x : Body). length x.segments + length x.moved) stands.1,
    ))
begun Does s p (Taking_header bytes) cut byte plan front (After_first b sw1) goes stands =
    absurd stands
begun _ _ _ _ _ _ _ _ _ _ _ = refl

-- if it is the card's turn and it has its plan, it has begun to answer
pub answers_on : {State : Type 0} (Does : State → ℕ → Tpdu → State → Type 0) (standing : State)
    (prepared : Prepared State) (stage : Stage) (cut : ℕ) (plan : Course) (front : Front)
    → StandsAt Does standing prepared stage cut front → listens stage ≡ false
    → takes_plan stage ≡ false → under_way stage plan ≡ plan ∷ []
answers_on Does s p (Taking_header bytes) cut plan (In_header f) stands silent none =
    absurd (omega (arith, stands.1, ltb-false (length bytes) 5 silent))
answers_on Does s p (Taking_header bytes) cut plan (In_body b) stands silent none =
    absurd (let e : true ≡ false = sym (eq-eqb (length bytes) 5 (ap length stands.0)) ∙ none in cc)
answers_on Does s p (Taking_header bytes) cut plan (After_first b sw1) stands silent none =
    absurd stands
answers_on _ _ _ _ _ _ _ _ _ _ = refl
