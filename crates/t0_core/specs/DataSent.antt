-- Whether the terminal has sent all data of a TPDU, or of several.
use Rattle.std.specs.Prelude.{◌≡◌, ℕ, List, [], ◌∷◌, length, ◌==◌, if◌then◌else◌}
use Rattle.t0_core.specs.declared.data_sent.DataSent.{DataSent}
use Rattle.t0_core.specs.declared.data_sent.DataSent.TheVariants.{All, NotAll, NotKnown}
use Rattle.t0_core.specs.declared.direction.Direction.{Direction}
use Rattle.t0_core.specs.declared.direction.Direction.TheVariants.{ToCard, FromCard}
use Rattle.t0_core.specs.Dialogue.{Body, Dialogue}

-- to the card go as many data characters as P3 states (10.3.2); `moved` of them have
abbrev pub sent_by_now : Direction → ℕ → ℕ → DataSent
sent_by_now ToCard p3 moved = if moved == p3 then All else NotAll
sent_by_now FromCard p3 moved = All

-- whether a dialogue has moved all data to the card
abbrev pub sent_in : Body → DataSent
sent_in b = sent_by_now b.direction b.p3 (length b.moved)

-- of two TPDUs
abbrev pub both : DataSent → DataSent → DataSent
both NotAll other = NotAll
both All other = other
both NotKnown NotAll = NotAll
both NotKnown other = NotKnown

abbrev pub sent_in_all : List Dialogue → DataSent
sent_in_all [] = All
sent_in_all (d ∷ ds) = both (sent_in d.body) (sent_in_all ds)

abbrev pub IsKnown : DataSent → Type 0
IsKnown NotKnown = ⊥
IsKnown All = Unit {0}
IsKnown NotAll = Unit {0}

-- what is known is so
abbrev pub Tells : DataSent → DataSent → Type 0
Tells NotKnown sent = Unit {0}
Tells All sent = sent ≡ All
Tells NotAll sent = sent ≡ NotAll
