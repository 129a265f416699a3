-- One expected character.
use Rattle.std.proofs.Common.{rules, ◌≡◌, ◌≢◌, ℕ, ◌+◌, ◌<◌, ◌==◌, List, [], ◌∷◌, length, drop, Option, None, Bool, true, false, refl, arith}
use Rattle.std.proofs.lemmas.List.{drop_all}
use Rattle.std.proofs.lemmas.Grind.{common_steps}
use Rattle.atr_core.specs.FirstFault.{Due, wrong_with, due_after, last_after, checked_after, fault, fault_from}
use Rattle.atr_core.specs.Reading.{IsAt, fault_at, Fails}
use Rattle.atr_core.specs.declared.fault.AtrReason.TheVariants.{Cut, TooLong}

pub not_33 : (place : ℕ) → place < 33 → (place == 33) ≡ false
not_33 place h = grind (arith, common_steps)

pub is_33 : (place : ℕ) → place ≡ 33 → (place == 33) ≡ true
is_33 place h = grind (arith, common_steps)

pub not_33_is : (place : ℕ) → place ≢ 33 → (place == 33) ≡ false
not_33_is place h = search rules

-- the bytes end at a place where a character is expected and may be
pub cut_at : (all : List ℕ) (place : ℕ) → place ≢ 33 → place ≡ length all
    → Fails all place (record { place = place; reason = Cut })
cut_at all place h e character due last checked =
    rw (drop_all place all (omega arith), not_33_is place h) refl

-- a character is expected after the last place of an answer
long_from : (all rest : List ℕ) (place : ℕ) → place ≡ 33 → (character : Due) (due : List Due)
    (last : Option ℕ) (checked : Bool)
    → fault_from all (character ∷ due) last checked place rest ≡ fault place TooLong
long_from all [] place e character due last checked = rw (is_33 place e) refl
long_from all (b ∷ rest) place e character due last checked = rw (is_33 place e) refl

pub long_at : (all : List ℕ) (place : ℕ) → place ≡ 33
    → Fails all place (record { place = place; reason = TooLong })
long_at all place e = long_from all (drop place all) place e

-- a character in its place
pub read_at : (all : List ℕ) (place b : ℕ) (character : Due) (due : List Due) (last : Option ℕ)
    (checked : Bool) → IsAt all place b → wrong_with character b last ≡ None
    → fault_at all (character ∷ due) last checked place
    ≡ fault_at all (due_after character b due) (last_after character b last)
    (checked_after character b checked) (place + 1)
read_at all place b character due last checked is none =
    rw (is.split, not_33 place is.within, none) refl
