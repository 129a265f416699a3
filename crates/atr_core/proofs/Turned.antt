-- A byte converted twice.
use Rattle.std.proofs.Common.{rules, tests, ◌≡◌, ◌≢◌, ℕ, zero, suc, ◌<◌, ◌==◌, ◌&&◌, Bool, true, false, refl, sym, subst, arith, ◌⊎◌, inl, inr}
use Rattle.std.specs.Int.{reverse_bits, reverse_bits_onto, w8}
use Rattle.atr_core.specs.Conventions.{as_sent, reversed}
use Rattle.atr_core.specs.declared.convention.Convention.{Convention}
use Rattle.atr_core.specs.declared.convention.Convention.TheVariants.{Direct, Inverse}

-- a test holds for each number below this one
all_below : ℕ → (ℕ → Bool) → Bool
all_below zero p = true
all_below (suc n) p = p n && all_below n p

both : (a b : Bool) → (a && b) ≡ true → (a ≡ true) × (b ≡ true)
both true true h = (refl, refl)
both true false h = cc
both false b h = cc

last_or_below : (k n : ℕ) → k < suc n → (k ≡ n) ⊎ (k < n)
last_or_below k n h = cases (k == n) refl
  where
    cases : (v : Bool) → (k == n) ≡ v → (k ≡ n) ⊎ (k < n)
    cases true e = inl (search (rules, tests))
    cases false e = let ne : k ≢ n = search (rules, tests) in inr (omega arith)

below : (n : ℕ) (p : ℕ → Bool) → all_below n p ≡ true → (k : ℕ) → k < n → p k ≡ true
unfolding all_below
below zero p h k lt = absurd (omega arith)
below (suc n) p h k lt =
    let parts = both (p n) (all_below n p) h in
    elim (last_or_below k n lt) [
      | inl e ↦ let P : ℕ → Type 0 = λ m. p m ≡ true in subst P (sym e) parts.0
      | inr less ↦ below n p parts.1 k less
    ]

abbrev is_turned : ℕ → Bool
is_turned b = as_sent Inverse (as_sent Inverse b) == b

each_is_turned : all_below 256 is_turned ≡ true
unfolding all_below
each_is_turned = refl

pub turned_twice : (c : Convention) (b : ℕ) → b < 256 → as_sent c (as_sent c b) ≡ b
turned_twice Direct b h = refl
turned_twice Inverse b h =
    let e : (as_sent Inverse (as_sent Inverse b) == b) ≡ true
    = below 256 is_turned each_is_turned b h in search (rules, tests)

abbrev is_reversed : ℕ → Bool
is_reversed b = reverse_bits w8 b == reversed b

each_is_reversed : all_below 256 is_reversed ≡ true
unfolding all_below reverse_bits_onto
each_is_reversed = refl

pub reversed_is : (b : ℕ) → b < 256 → reverse_bits w8 b ≡ reversed b
reversed_is b h =
    let e : (reverse_bits w8 b == reversed b) ≡ true
    = below 256 is_reversed each_is_reversed b h in search (rules, tests)
