-- Words of the laws on operations at a `Terminal`.
use Rattle.std.specs.Prelude.{◌≡◌, ◌<◌, ◌≤◌, ◌+◌, ℕ, List, [], ◌∷◌, length, true}
use Rattle.std.specs.List.{AllByRecursion, flat_map}
use Rattle.apdu_core.specs.HeaderBytes.{ins_is_valid}
use Rattle.apdu_core.specs.CommandBytes.{Command}
use Rattle.exchange_core.specs.Gathered.{UnitOf, unit_data}

-- each command has a valid INS
abbrev pub HaveValidIns : List Command → Type 0
HaveValidIns commands =
    AllByRecursion (λ c. (ins_is_valid c.header.ins ≡ true) × (c.header.ins < 256)) commands

-- the data of each exchange are at most `limit` bytes
abbrev pub HaveRoom : ℕ → List (List UnitOf) → Type 0
HaveRoom limit exchanges =
    AllByRecursion (λ units. length (flat_map unit_data units) ≤ limit) exchanges

-- the number of bytes that the exchanges bring
abbrev pub brought_by : List (List UnitOf) → ℕ
brought_by [] = 0
brought_by (units ∷ exchanges) = length (flat_map unit_data units) + brought_by exchanges
