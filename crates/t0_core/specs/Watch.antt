-- What a watch has recorded of the characters on a line.
use Rattle.std.specs.Prelude.{◌≡◌, ℕ, List, ◌++◌, take, Bool, true, false}
use Rattle.t0_core.specs.Character.{Character}

-- the recorded characters, and whether one was lost
pub record Hearing : Type 0 where
  pub heard : List Character
  pub lost : Bool

-- After these characters, the watch has recorded them all, or it has lost some and recorded the
-- first ones. Once it has lost one, it records no more.
pub record Hears (old : Hearing) (went : List Character) (new : Hearing) : Type 0 where
  pub all : new.lost ≡ false → (old.lost ≡ false) × (new.heard ≡ old.heard ++ went)
  pub front : (n : ℕ) × (new.heard ≡ old.heard ++ take n went)
  pub deaf : old.lost ≡ true → (new.lost ≡ true) × (new.heard ≡ old.heard)
