-- Which TPDUs change an entry.
use Rattle.std.proofs.Common.{◌≡◌, ℕ, ◌++◌, ◌⊎◌, inl, inr, refl}
use Rattle.std.proofs.lemmas.Bool.{eqb-true}
use Rattle.apdu_core.specs.StatusWord.{ok}
use Rattle.t0_core.specs.Meaning.{Tpdu}
use Rattle.object_card.specs.State.{CardState, chained}
use Rattle.apdu_core.specs.Shared.{Reply}
use Rattle.object_card.specs.OneStep.{Operation, Put, Answers, stores}
use Rattle.object_card.specs.CardMeaning.{Does, puts_value}

answered_ok : (old new : CardState) (operation : Operation) (answer : Reply)
    → Answers old operation answer new
    → (new.applications ≡ old.applications) ⊎ (answer.status ≡ ok)
answered_ok old new operation answer (stores tag value aid entries selected is status) = inr refl
answered_ok _ _ _ _ _ = inl refl

-- Entries change only by a PUT DATA with CLA 00 whose status is 9000.
pub entries_stay : (old new : CardState) (cut : ℕ) (t : Tpdu) → Does old cut t new
    → (new.applications ≡ old.applications)
    ⊎ ((t.header.cla ≡ 0x00) × (t.header.ins ≡ 0xDA) × (t.status ≡ ok))
entries_stay old new cut t (puts_value h bytes tag answer next e ins cla named_by put) =
    elim (answered_ok old next (Put tag (chained old.pending ++ bytes)) answer put) [
      | inl same ↦ inl same
      | inr fine ↦ inr (cla, eqb-true h.ins 0xDA ins, fine)
    ]
entries_stay _ _ _ _ _ = inl refl
