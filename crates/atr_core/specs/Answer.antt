-- Answers to reset and their characters (ISO/IEC 7816-3, 8.2).
use Rattle.std.specs.Prelude.{◌≡◌, ℕ, ◌+◌, ◌*◌, ◌<◌, ◌≤◌, List, [], ◌∷◌, ◌++◌, length, Option, Some, None, Bool, true, not, ◌==◌, nat_lt, nat_le, bit_xor, if◌then◌else◌}
use Rattle.std.specs.List.{list_any}
use Rattle.atr_core.specs.declared.convention.Convention.{Convention}
use Rattle.atr_core.specs.declared.convention.Convention.TheVariants.{Direct, Inverse}
use Rattle.atr_core.specs.declared.group.Group.{Group}
use Rattle.atr_core.specs.declared.group.TypedGroup.{TypedGroup}

-- What an answer says: its convention; TA1, TB1 and TC1; each T that a TD names, with the TA, TB
-- and TC after that TD; the historical bytes.
pub record Answer : Type 0 where
  pub convention : Convention
  pub first : Group
  pub others : List TypedGroup
  pub historical : List ℕ

abbrev pub ts : Convention → ℕ
ts Direct = 0x3B
ts Inverse = 0x3F

-- 1 if a character is present
abbrev pub bit : Option ℕ → ℕ
bit None = 0
bit (Some b) = 1

-- Y, bits 8 to 5 of an indicator (T0 or a TD): which characters follow it. Bit 8 announces a TD, if
-- more groups follow.
abbrev pub announcing : Group → List TypedGroup → ℕ
announcing g [] = bit g.ta + 2 * bit g.tb + 4 * bit g.tc
announcing g (n ∷ ns) = bit g.ta + 2 * bit g.tb + 4 * bit g.tc + 8

-- a character, if it is present, before others
abbrev pub before : Option ℕ → List ℕ → List ℕ
before None rest = rest
before (Some b) rest = b ∷ rest

abbrev pub group_before : Group → List ℕ → List ℕ
group_before g rest = before g.ta (before g.tb (before g.tc rest))

-- An indicator with these bits 4 to 1, the group that it announces, all groups after that, and then
-- other characters. Bits 4 to 1 of T0 are the number of historical bytes; those of a TD are a T.
abbrev pub from_indicator : ℕ → Group → List TypedGroup → List ℕ → List ℕ
from_indicator low g [] rest = (16 * announcing g [] + low) ∷ group_before g rest
from_indicator low g (n ∷ ns) rest = (16 * announcing g (n ∷ ns) + low)
    ∷ group_before g (from_indicator n.t n.group ns rest)

-- from T0 to the last historical byte, and then other characters
abbrev pub body_before : Answer → List ℕ → List ℕ
body_before a rest =
    from_indicator (length a.historical) a.first a.others (a.historical ++ rest)

-- the exclusive-or of all bytes
abbrev pub xor_onto : ℕ → List ℕ → ℕ
xor_onto sum [] = sum
xor_onto sum (b ∷ bytes) = xor_onto (bit_xor sum b) bytes

abbrev pub xor_of : List ℕ → ℕ
xor_of bytes = xor_onto 0 bytes

-- some TD names a T other than 0
abbrev pub names_other_than_0 : List TypedGroup → Bool
names_other_than_0 others = list_any (λ n. not (n.t == 0)) others

-- TCK, which is present exactly if a T other than 0 is named. It makes the exclusive-or of all
-- characters from T0 on 00.
abbrev pub check_field : Answer → List ℕ
check_field a =
    if names_other_than_0 a.others then xor_of (body_before a []) ∷ [] else []

-- all characters of an answer
abbrev pub characters : Answer → List ℕ
characters a = ts a.convention ∷ body_before a (check_field a)

-- whether a TD may name this T after a TD that named `last`, if any: TD1 does not name T=15, and no
-- T is below the one before it
abbrev pub may_follow : Option ℕ → ℕ → Bool
may_follow None t = nat_lt t 15
may_follow (Some last) t = nat_le last t

abbrev pub AreInOrder : Option ℕ → List TypedGroup → Type 0
AreInOrder last [] = Unit {0}
AreInOrder last (n ∷ ns) = (n.t < 16) × (may_follow last n.t ≡ true) × AreInOrder (Some n.t) ns

-- at most 15 historical bytes, each T in order, and at most 32 characters after TS
pub record IsAnswer (a : Answer) : Type 0 where
  pub few : length a.historical < 16
  pub in_order : AreInOrder None a.others
  pub fits : length (characters a) ≤ 33
