-- An answer as it is written.
use Rattle.std.proofs.Common.{◌≡◌, ℕ, ◌+◌, ◌-◌, ◌*◌, ◌<◌, ◌≤◌, List, [], ◌∷◌, ◌++◌, length, length-drop, drop, Option, Some, None, Bool, true, false, refl, sym, ap, ◌∙◌, arith, append_assoc, length-append}
use Rattle.atr_core.specs.Answer.{Answer, IsAnswer, AreInOrder, announcing, bit, before, group_before, from_indicator, body_before, check_field, characters, ts, names_other_than_0}
use Rattle.atr_core.specs.Written.{y_of, group_size, groups_size, one_if, size_of}
use Rattle.atr_core.specs.declared.convention.Convention.{Convention}
use Rattle.atr_core.specs.declared.group.Group.{Group}
use Rattle.atr_core.specs.declared.group.TypedGroup.{TypedGroup}
use Rattle.atr_core.proofs.Whole.{group_append, body_append}

abbrev pub parts : Convention → Group → List TypedGroup → List ℕ → Answer
parts convention first others historical = record {
  convention = convention;
  first = first;
  others = others;
  historical = historical;
}

-- what is written before an indicator, with the groups that are left
pub record AreWritten (a : Answer) (out : List ℕ) (low : ℕ) (g : Group) (left : List TypedGroup)
    : Type 0 where
  pub low_fits : low < 16
  pub last : Option ℕ
  pub ordered : AreInOrder last left
  pub is : (rest : List ℕ) → out ++ from_indicator low g left rest
      ≡ ts a.convention ∷ from_indicator (length a.historical) a.first a.others rest

size_before : (c : Option ℕ) (rest : List ℕ) → length (before c rest) ≡ bit c + length rest
size_before None rest = omega arith
size_before (Some b) rest = omega arith

size_group : (g : Group) (rest : List ℕ) → length (group_before g rest) ≡ group_size g + length rest
size_group g rest = omega (
  arith,
  size_before g.tc rest,
  size_before g.tb (before g.tc rest),
  size_before g.ta (before g.tb (before g.tc rest)),
)

pub size_from : (low : ℕ) (g : Group) (ns : List TypedGroup) (rest : List ℕ)
    → length (from_indicator low g ns rest) ≡ 1 + group_size g + groups_size ns + length rest
size_from low g [] rest = omega (arith, size_group g rest)
size_from low g (n ∷ ns) rest = omega (
  arith,
  size_group g (from_indicator n.t n.group ns rest),
  size_from n.t n.group ns rest,
)

-- there is room for the indicator and its group
pub room : (a : Answer) (out : List ℕ) (low : ℕ) (g : Group) (left : List TypedGroup) → IsAnswer a
    → AreWritten a out low g left → length out + 1 + group_size g ≤ 33
room a out low g left is are =
    let rest : List ℕ = a.historical ++ check_field a in
    let fits : length (characters a) ≤ 33 = is.fits in
    let same : length (out ++ from_indicator low g left rest) ≡ length (characters a)
    = ap length (are.is rest) in
    omega (
      arith,
      length-append out (from_indicator low g left rest),
      size_from low g left rest,
    )

-- an indicator and its group, before what follows them
behind : (out rest : List ℕ) (b : ℕ) (g : Group)
    → (out ++ b ∷ group_before g []) ++ rest ≡ out ++ (b ∷ group_before g rest)
behind out rest b g = append_assoc out (b ∷ group_before g []) rest
    ∙ ap (λ x. out ++ (b ∷ x)) (sym (group_append g [] rest))

-- all groups
pub all_groups : (a : Answer) (out new : List ℕ) (low : ℕ) (g : Group)
    → AreWritten a out low g [] → new ≡ out ++ (16 * y_of g 0 + low) ∷ group_before g []
    → new ++ (a.historical ++ []) ≡ ts a.convention ∷ body_before a []
all_groups a out new low g are e =
    let rest : List ℕ = a.historical ++ [] in
    let y : y_of g 0 ≡ announcing g [] = omega arith in
    ap (λ x. x ++ rest) e ∙ behind out rest (16 * y_of g 0 + low) g
    ∙ ap (λ y. out ++ ((16 * y + low) ∷ group_before g rest)) y ∙ are.is rest

-- the size of an answer without its check byte, and with it
pub body_fits : (a : Answer) → IsAnswer a → length (ts a.convention ∷ body_before a []) ≤ 33
body_fits a is =
    let fits : length (characters a) ≤ 33 = is.fits in
    let e = ap length (body_append a (check_field a)) in
    omega (arith, length-append (body_before a []) (check_field a))

pub check_fits : (a : Answer) → IsAnswer a → names_other_than_0 a.others ≡ true
    → length (ts a.convention ∷ body_before a []) < 33
check_fits a is due =
    let fits : length (characters a) ≤ 33 = is.fits in
    let e = ap length (body_append a (check_field a)) in
    let one : length (check_field a) ≡ 1 = rw due refl in
    omega (arith, length-append (body_before a []) (check_field a))

size_check : (a : Answer) (due : Bool) → names_other_than_0 a.others ≡ due
    → length (check_field a) ≡ one_if due
size_check a true due = rw due refl
size_check a false due = rw due refl

-- the number of characters of an answer
pub size_is : (a : Answer) → length (characters a) ≡ size_of a.first a.others a.historical
size_is a =
    let check = size_check a (names_other_than_0 a.others) refl in
    omega (
      arith,
      size_from (length a.historical) a.first a.others (a.historical ++ check_field a),
      length-append a.historical (check_field a),
    )

-- no answer has more than 31 TDs
pub few_groups : (ns : List TypedGroup) → length ns ≤ groups_size ns
few_groups [] = omega arith
few_groups (n ∷ ns) = omega (arith, few_groups ns)

pub too_many : (a : Answer) → 31 < length a.others → 33 < length (characters a)
too_many a h = omega (arith, size_is a, few_groups a.others)

pub too_long : (a : Answer) (n : ℕ) → n ≡ size_of a.first a.others a.historical → 33 < n
    → 33 < length (characters a)
too_long a n e h = omega (arith, size_is a)

pub made : (a : Answer) (n : ℕ) → length a.historical < 16 → AreInOrder None a.others
    → n ≡ size_of a.first a.others a.historical → n ≤ 33 → IsAnswer a
made a n few order e h = record {
  few = few;
  in_order = order;
  fits = omega (arith, size_is a);
}

-- there is room for a historical byte, and for a check byte
pub room_for_byte : (a : Answer) (out : List ℕ) (i : ℕ) → IsAnswer a → i < length a.historical
    → out ++ (drop i a.historical ++ []) ≡ ts a.convention ∷ body_before a [] → length out < 33
room_for_byte a out i is h e =
    let fits : length (ts a.convention ∷ body_before a []) ≤ 33 = body_fits a is in
    let left : length (drop i a.historical) ≡ length a.historical - i
    = length-drop i a.historical in
    let size = ap length e in
    omega (
      arith,
      length-append out (drop i a.historical ++ []),
      length-append (drop i a.historical) [],
    )

pub room_for_check : (a : Answer) (out rest : List ℕ) → IsAnswer a
    → names_other_than_0 a.others ≡ true → out ++ rest ≡ ts a.convention ∷ body_before a []
    → length out < 33
room_for_check a out rest is due e =
    let fits : length (ts a.convention ∷ body_before a []) < 33 = check_fits a is due in
    let size = ap length e in omega (arith, length-append out rest)
