-- Whole TPDUs and commands at a card of an own application.
use Rattle.std.proofs.Common.{◌≡◌, ◌==◌, ◌≤◌, ℕ, ℤ, List, [], ◌∷◌, length, true, refl, sym, inl, inr, arith}
use Rattle.std.proofs.lemmas.Bool.{eqb-true}
use Rattle.card_c.specs.Codes.{gt_ok}
use Rattle.card_c.specs.Copying.{IsCopied}

pub none_is : (bytes : List ℕ) → true ≡ (length bytes == 0) → bytes ≡ []
none_is [] is = refl
none_is (b ∷ bytes) is = absurd (omega (arith, eqb-true (length (b ∷ bytes)) 0 (sym is)))

-- bytes that fit are copied
pub fits_is : (from room : List ℕ) (code : ℤ) (after : List ℕ) → length from ≤ length room
    → IsCopied from room code after → IsCopied from room gt_ok after
fits_is from room code after fits (inl (enough, says, is)) = inl (enough, refl, is)
fits_is from room code after fits (inr (few, says, is)) = absurd (omega (arith, fits, few))
