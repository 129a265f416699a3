-- The state after a put.
use Rattle.std.proofs.Common.{◌≡◌, ℕ, List, Some, ◌⊎◌, inl, inr, refl, ap, ◌≢◌, Bool, true, false, ◌∙◌}
use Rattle.apdu_core.specs.StatusWord.{StatusWord, ok}
use Rattle.object_card.specs.Tables.{Entry, entries_in}
use Rattle.object_card.specs.State.{CardState}
use Rattle.apdu_core.specs.Shared.{Reply}
use Rattle.object_card.specs.OneStep.{Put, Answers, PutStatus, stores, does_not_store, with_put}
use Rattle.std.specs.Prelude.{◌==◌}
use Rattle.std.proofs.lemmas.Bool.{eqb-true, and_left, and_right}
use Rattle.object_card.specs.ShownPuts.{is_ok}

-- a status other than 9000 is not 9000
pub not_ok : (status : StatusWord) → status ≢ ok → is_ok status ≡ false
not_ok status other = split (status.0 == 0x90) (status.1 == 0x00) refl refl
  where
    split : (a b : Bool) → (status.0 == 0x90) ≡ a → (status.1 == 0x00) ≡ b → is_ok status ≡ false
    split true true first second =
        absurd (other (ap (λ (n : ℕ). (n, status.1)) (eqb-true status.0 0x90 first)
        ∙ ap (λ (n : ℕ). (0x90, n)) (eqb-true status.1 0x00 second)))
    split true false first second = and_right (status.0 == 0x90) (status.1 == 0x00) second
    split false b first second = and_left (status.0 == 0x90) (status.1 == 0x00) first

-- The state after a put with this status: unchanged, or with this value in the selected application
-- if the status is 9000.
abbrev pub PutLeaves : CardState → List ℕ → List ℕ → StatusWord → CardState → Type 0
PutLeaves old tag value status new = ((is_ok status ≡ false) × (new ≡ old))
    ⊎ ((aid : List ℕ) × (entries : List Entry) × (is_ok status ≡ true)
    × (old.selected ≡ Some aid) × (entries_in aid old.applications ≡ Some entries)
    × PutStatus entries tag value ok × (new ≡ with_put old aid tag value))

pub put_leaves : (old new : CardState) (tag value : List ℕ) (answer : Reply)
    → Answers old (Put tag value) answer new → PutLeaves old tag value answer.status new
put_leaves old new tag value answer (stores t v aid entries selected is status) =
    inr (aid, entries, refl, selected, is, status, refl)
put_leaves old new tag value answer (does_not_store t v entries status is other put) =
    inl (not_ok status other, refl)
put_leaves _ _ _ _ _ _ = inl (refl, refl)
