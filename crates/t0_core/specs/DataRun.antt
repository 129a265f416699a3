-- A run of the data that a card sends.
use Rattle.std.specs.Prelude.{◌≡◌, ◌<◌, ℕ, List, length, take, drop}
use Rattle.t0_core.specs.declared.data_run.DataRun.{DataRun}
use Rattle.t0_core.specs.declared.data_run.DataRun.TheVariants.{One, Lent}

abbrev pub bytes_of : DataRun → List ℕ
bytes_of (One bytes) = bytes
bytes_of (Lent bytes) = bytes.now

-- The run is not empty, and its bytes are the next ones from this index on.
abbrev pub IsRunAt : List ℕ → ℕ → List ℕ → Type 0
IsRunAt bytes at run = (0 < length run) × (run ≡ take (length run) (drop at bytes))
