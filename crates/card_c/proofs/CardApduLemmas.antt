-- A whole command at a card, from the clauses of the call that responds.
use Rattle.std.proofs.Common.{◌≡◌, ℕ, ◌+◌, ◌≤◌, List, [], ◌∷◌, ◌++◌, length, drop, refl, sym, ◌∙◌, subst, inr, true, Option, Some, None}
use Rattle.std.specs.Prelude.{unwrap_or}
use Rattle.apdu_core.specs.StatusWord.{StatusWord}
use Rattle.apdu_core.specs.CommandBytes.{Command}
use Rattle.t0_core.specs.CardSide.{EndOf}
use Rattle.t0_core.specs.CardTpdu.{rests}
use Rattle.object_card.specs.Agreed.{IsAgreed}
use Rattle.object_card.specs.CardMeaning.{Does}
use Rattle.object_card.specs.CardView.{CardView}
use Rattle.object_card.specs.Instructions.{MayReceive, MaySend}
use Rattle.apdu_terminal.specs.declared.stage.Stage.{Stage}
use Rattle.apdu_terminal.specs.declared.stage.Stage.TheVariants.{Done}
use Rattle.apdu_terminal.specs.Apdus.{may_bring}
use Rattle.apdu_terminal.specs.CardApdu.{Responds}
use Rattle.card_c.specs.Codes.{gt_ok}
use Rattle.card_c.specs.CardApduCalls.{IsResponse, RespondsToCommand}
use Rattle.card_c.specs.WholeCalls.{longest_response, wrong_length}

pub unwrapped : (le : Option ℕ) → unwrap_or le 0 ≡ may_bring le
unwrapped None = refl
unwrapped (Some n) = refl

-- what the call promises of the exchange that it returns
abbrev pub Refuses : Command → EndOf CardView → EndOf CardView → List ℕ → Stage → Type 0
Refuses c end end' bytes stage = (IsAgreed MayReceive MaySend c → ⊥)
    → (end' ≡ end) × ((stage ≡ Done (0x67, 0x00)) × (bytes ≡ []))

abbrev pub Answers : Command → EndOf CardView → EndOf CardView → List ℕ → Stage → Type 0
Answers c end end' bytes stage = IsAgreed MayReceive MaySend c
    → (s : StatusWord) × (stage ≡ Done s) × Responds Does end.card.state
    (record { command = c; content = bytes; status = s }) end'.card.state

-- it has ended
pub is_over : (c : Command) (end end' : EndOf CardView) (bytes : List ℕ) (stage : Stage)
    → Refuses c end end' bytes stage → Answers c end end' bytes stage
    → ((s : StatusWord) → stage ≡ Done s → ⊥) → ⊥
is_over c end end' bytes stage refuses answers never =
    let not_agreed : IsAgreed MayReceive MaySend c → ⊥ = λ agreed.
    let (s, over, responds) = answers agreed in never s over in
    let (stays, rest) = refuses not_agreed in let (over, none) = rest in never wrong_length over

same_status : (s t : StatusWord) → Done s ≡ Done t → s ≡ t
same_status s t is = cc

pub responds : (c : Command) (end end' : EndOf CardView) (bytes : List ℕ) (stage : Stage)
    (status : StatusWord) → Refuses c end end' bytes stage → Answers c end end' bytes stage
    → stage ≡ Done status → rests end'.stage ≡ true
    → IsResponse end (record { command = c; content = bytes; status = status }) end'
responds c end end' bytes stage status refuses answers done rest = record {
  refuses = λ not_agreed.
      let (stays, rest) = refuses not_agreed in let (over, none) = rest in
      (same_status status wrong_length (sym done ∙ over), none, stays);
  responds = λ agreed.
      let (s, over, is) = answers agreed in
      subst (λ (x : StatusWord). Responds Does end.card.state
      (record { command = c; content = bytes; status = x }) end'.card.state)
      (same_status s status (sym over ∙ done)) is;
  rests_again = rest;
}

-- its response is written
pub goes_out : (c : Command) (end end' : EndOf CardView) (status : StatusWord)
    (bytes given room room' : List ℕ) (len len' : ℕ)
    → IsResponse end (record { command = c; content = bytes; status = status }) end'
    → longest_response c ≤ length room → given ≡ bytes → len' ≡ length given + 2
    → room' ≡ given ++ status.0 ∷ status.1 ∷ drop (length given + 2) room
    → RespondsToCommand c end room len gt_ok end' room' len'
goes_out c end end' status bytes given room room' len len' is enough same len_is room_is =
    let P : List ℕ → Type 0 = λ xs.
    room' ≡ xs ++ status.0 ∷ status.1 ∷ drop (length xs + 2) room in
    let Q : List ℕ → Type 0 = λ xs. len' ≡ length xs + 2 in
    inr (inr (
      record { command = c; content = bytes; status = status },
      enough,
      refl,
      is,
      (refl, subst Q same len_is, subst P same room_is),
    ))
