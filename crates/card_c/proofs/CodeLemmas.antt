-- A code that a function returns as another has returned it.
use Rattle.std.proofs.Common.{◌≡◌, subst, sym, ℤ, ◌<◌, w32, T, to_z, of_z}
use Rattle.std.specs.Int.Signed.{mag}
use Rattle.std.proofs.Math.Facts.{sfits_lit}
use Rattle.std.proofs.lemmas.Bool.{lt-ltb}
use Rattle.std.proofs.lemmas.Int.{to_z-of_z}

-- a code stays as it is in a register
pub as_it_is : (z : ℤ) → mag z < 2147483648 → to_z w32 (of_z w32 z) ≡ z
as_it_is z small = to_z-of_z w32 z (sfits_lit (subst T (sym (lt-ltb (mag z) 2147483648 small)) tt))
