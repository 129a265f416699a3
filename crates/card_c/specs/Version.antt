-- Versions as numbers.
use Rattle.std.specs.Prelude.{ℕ, ◌+◌, ◌*◌}

-- 0.3.0 is 0x000300
abbrev pub version_number : ℕ → ℕ → ℕ → ℕ
version_number major minor patch = major * 65536 + minor * 256 + patch
