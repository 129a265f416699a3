-- The function that finds the tag of P1-P2 finds the tag that they name.
use Rattle.std.proofs.Common.{◌≡◌, ℕ, ◌%◌, List, [], ◌∷◌, Some, refl, arith}
use Rattle.std.proofs.lemmas.Bool.{le-leb, lt-ltb, eq-eqb, ne_eqb}
use Rattle.tlv_core.specs.Address.{NamesTag}
use Rattle.object_card.specs.Refusals.{named_tag}

pub named : (tag : List ℕ) (p1 p2 : ℕ) → NamesTag tag p1 p2 → named_tag p1 p2 ≡ Some tag
named [] p1 p2 h = absurd h
named (a ∷ []) p1 p2 (low, high, last, first, second) =
    rw first (rw second (rw (le-leb 0x40 a low, le-leb a 0xFE high, ne_eqb (a % 32) 31 last) refl))
named (a ∷ b ∷ []) p1 p2 (low, high, all, some, few, first, second) =
    rw first (rw second (rw (
      ne_eqb a 0 (λ e. omega (arith, low, e)),
      le-leb 0x5F a low,
      lt-ltb a 256 high,
      eq-eqb (a % 32) 31 all,
      lt-ltb 0 b some,
      lt-ltb b 0x80 few,
    ) refl))
named (a ∷ b ∷ c ∷ tag) p1 p2 h = absurd h
