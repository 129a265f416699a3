-- How an answer is made and written. Words for inner functions, except the reasons to refuse.
use Rattle.std.specs.Prelude.{ℕ, ◌+◌, ◌*◌, ◌<◌, List, [], ◌∷◌, length, None, Bool, true, false}
use Rattle.atr_core.specs.Answer.{Answer, AreInOrder, bit, characters, names_other_than_0}
use Rattle.atr_core.specs.declared.group.Group.{Group}
use Rattle.atr_core.specs.declared.group.TypedGroup.{TypedGroup}
use Rattle.atr_core.specs.declared.build_fault.BuildFault.{BuildFault}
use Rattle.atr_core.specs.declared.build_fault.BuildFault.TheVariants.{TooManyHistorical, OutOfOrder, TooLong}

-- why an answer cannot be made, in the order of the reasons
abbrev pub Refuses : Answer → BuildFault → Type 0
Refuses a TooManyHistorical = 15 < length a.historical
Refuses a OutOfOrder = (length a.historical < 16) × ¬ AreInOrder None a.others
Refuses a TooLong = (length a.historical < 16) × AreInOrder None a.others
    × (33 < length (characters a))

-- Y of a group; td is 8 if a TD follows it
abbrev pub y_of : Group → ℕ → ℕ
y_of g td = bit g.ta + 2 * bit g.tb + 4 * bit g.tc + td

-- the number of characters that are present in a group
abbrev pub group_size : Group → ℕ
group_size g = bit g.ta + bit g.tb + bit g.tc

-- the number of characters in the TDs and their groups
abbrev pub groups_size : List TypedGroup → ℕ
groups_size [] = 0
groups_size (n ∷ ns) = 1 + group_size n.group + groups_size ns

abbrev pub one_if : Bool → ℕ
one_if true = 1
one_if false = 0

-- the number of characters of an answer with these parts
abbrev pub size_of : Group → List TypedGroup → List ℕ → ℕ
size_of first others historical = 2 + group_size first + length historical + groups_size others
    + one_if (names_other_than_0 others)
