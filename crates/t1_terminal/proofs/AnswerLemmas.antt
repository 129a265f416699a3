-- The response of the card to a command, from the contract of `respond`.
use Rattle.std.proofs.Common.{◌≡◌, ℕ, ◌≤◌, ◌<◌, List, [], ◌++◌, length, refl, sym, ap, ◌∙◌, subst}
use Rattle.apdu_core.specs.StatusWord.{StatusWord, IsStatusWord}
use Rattle.apdu_core.specs.CommandBytes.{Command}
use Rattle.apdu_core.specs.CommandLaws.{has_no_form}
use Rattle.t0_core.specs.CardSide.{EndOf}
use Rattle.t0_core.specs.Meaning.{Tpdu}
use Rattle.object_card.specs.Agreed.{IsAgreed}
use Rattle.object_card.specs.Instructions.{MayReceive, MaySend}
use Rattle.apdu_terminal.specs.declared.stage.Stage.{Stage}
use Rattle.apdu_terminal.specs.declared.stage.Stage.TheVariants.{Done}
use Rattle.apdu_terminal.specs.Apdus.{may_bring}
use Rattle.apdu_terminal.specs.CardApdu.{Responds}
use Rattle.t1_core.specs.declared.applet.Requests.{Requests}
use Rattle.t1_core.specs.CardSide.{no_requests}
use Rattle.t1_terminal.specs.CardCommand.{Answers, DoesAt, status_bytes}

-- the contract of `respond` for the returned exchange
abbrev pub Refused : {C : Type 0} → Command → EndOf C → EndOf C → List ℕ → Stage → Type 0
Refused c end end' bytes stage = (IsAgreed MayReceive MaySend c → ⊥)
    → (end' ≡ end) × ((stage ≡ Done (0x67, 0x00)) × (bytes ≡ []))

abbrev pub Carried : {State : Type 0} → (State → ℕ → Tpdu → State → Type 0) → State → Command
    → State → List ℕ → Stage → Type 0
Carried Does old c new bytes stage = IsAgreed MayReceive MaySend c
    → (s : StatusWord) × (stage ≡ Done s)
    × Responds Does old (record { command = c; content = bytes; status = s }) new

-- the exchange has ended
pub is_over : {C State : Type 0} (Does : State → ℕ → Tpdu → State → Type 0) (old new : State)
    (c : Command) (end end' : EndOf C) (bytes : List ℕ) (stage : Stage)
    → Refused c end end' bytes stage → Carried Does old c new bytes stage
    → ((s : StatusWord) → stage ≡ Done s → ⊥) → ⊥
is_over Does old new c end end' bytes stage refused carried never =
    let not_agreed : IsAgreed MayReceive MaySend c → ⊥ = λ agreed.
    let (s, over, is) = carried agreed in never s over in
    let (stays, rest) = refused not_agreed in let (over, none) = rest in never (0x67, 0x00) over

same_status : (s t : StatusWord) → Done s ≡ Done t → s ≡ t
same_status s t is = cc

pub answers : {C State : Type 0} (stand : EndOf C → State)
    (Does : State → ℕ → Tpdu → State → Type 0) (c : Command) (end end' : EndOf C)
    (bytes response : List ℕ) (stage : Stage) (status : StatusWord)
    → Refused c end end' bytes stage → Carried Does (stand end) c (stand end') bytes stage
    → stage ≡ Done status → length bytes ≤ may_bring c.le
    → response ≡ bytes ++ status_bytes status → IsStatusWord status
    → Answers Does (stand end) c response (stand end')
answers stand Does c end end' bytes response stage status refused carried done within is word =
    record {
      refuses = λ not_agreed.
          let (stays, rest) = refused not_agreed in let (over, none) = rest in (
            is ∙ ap (λ (b : List ℕ). b ++ status_bytes status) none
                ∙ ap status_bytes (same_status status (0x67, 0x00) (sym done ∙ over)),
            ap stand stays,
          );
      responds = λ agreed.
          let (s, over, does) = carried agreed in (
            record { command = c; content = bytes; status = status },
            refl,
            within,
            subst (λ (x : StatusWord). Responds Does (stand end)
                (record { command = c; content = bytes; status = x }) (stand end'))
                (same_status s status (sym over ∙ done)) does,
            is,
            word,
          );
    }

-- ---- a command that is too long

pub too_long_does : {State : Type 0} (Does : State → ℕ → Tpdu → State → Type 0) (old new : State)
    (response : List ℕ) (asks : Requests) → response ≡ status_bytes (0x67, 0x00) → new ≡ old
    → asks ≡ no_requests → (command : List ℕ) → 261 < length command
    → DoesAt Does old (record { command = command; response = response; asks = asks }) new
too_long_does Does old new response asks is stays none command long = record {
  no_form = λ no. (is, stays);
  invalid_ins = λ c has same. absurd (has_no_form c command has.sizes same long);
  command = λ c has same. absurd (has_no_form c command has.sizes same long);
  asks = none;
}
