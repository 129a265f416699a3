-- A buffer with a limit.
use Rattle.std.specs.Prelude.{ℕ, List}

pub record Room : Type 0 where
  pub bytes : List ℕ
  pub limit : ℕ
