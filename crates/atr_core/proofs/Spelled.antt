-- The characters of an answer have no fault.
use Rattle.std.proofs.Common.{rules, tests, if◌then◌else◌, ◌≡◌, ℕ, ◌+◌, ◌-◌, ◌*◌, ◌/◌, ◌%◌, ◌<◌, ◌≤◌, ◌==◌, ◌||◌, not, List, [], ◌∷◌, ◌++◌, length, replicate, slice_range, Option, Some, None, Bool, true, false, refl, sym, ap, ◌∙◌, arith, length-append}
use Rattle.std.proofs.lemmas.List.{take_at}
use Rattle.std.proofs.Math.Bool.{or_assoc}
use Rattle.atr_core.specs.Answer.{Answer, IsAnswer, AreInOrder, announcing, bit, before, group_before, body_before, check_field, characters, ts, xor_of, names_other_than_0}
use Rattle.atr_core.specs.FirstFault.{Due, Ts, T0, Td, Plain, when, announced, wrong_with, due_after, last_after, checked_after, end_fault, fault_from, first_fault}
use Rattle.atr_core.specs.Reading.{groups_before, more, group_due}
use Rattle.atr_core.specs.declared.convention.Convention.{Convention}
use Rattle.atr_core.specs.declared.convention.Convention.TheVariants.{Direct, Inverse}
use Rattle.atr_core.specs.declared.group.Group.{Group}
use Rattle.atr_core.specs.declared.group.TypedGroup.{TypedGroup}
use Rattle.atr_core.proofs.Groups.{unrolled}
use Rattle.atr_core.proofs.OneReading.{announcing_bits, bit_fits, more_fits}
use Rattle.atr_core.proofs.Steps.{not_33}
use Rattle.atr_core.proofs.Whole.{body_append}

-- one character in its place
step : (all : List ℕ) (character : Due) (due : List Due) (last : Option ℕ) (checked : Bool)
    (place b : ℕ) (rest : List ℕ) → place < 33 → wrong_with character b last ≡ None
    → fault_from all (character ∷ due) last checked place (b ∷ rest)
    ≡ fault_from all (due_after character b due) (last_after character b last)
    (checked_after character b checked) (place + 1) rest
step all character due last checked place b rest h none = rw (not_33 place h, none) refl

-- a character that may be present, in a row of n
past_maybe : (all : List ℕ) (c : Option ℕ) (due : List Due) (last : Option ℕ) (checked : Bool)
    (place next n : ℕ) (rest : List ℕ) → n ≤ 33 → place + length (before c rest) ≡ n
    → next + length rest ≡ n → fault_from all (when (bit c) Plain due) last checked place
    (before c rest) ≡ fault_from all due last checked next rest
past_maybe all None due last checked place next n rest fits h k =
    let e : place ≡ next = omega arith in rw e refl
past_maybe all (Some b) due last checked place next n rest fits h k =
    let e : place + 1 ≡ next = omega arith in
    step all Plain due last checked place b rest (omega arith) refl
    ∙ ap (λ p. fault_from all due last checked p rest) e

size_before : (c : Option ℕ) (rest : List ℕ) → length (before c rest) ≡ bit c + length rest
size_before None rest = omega arith
size_before (Some b) rest = omega arith

or_false : (v : Bool) → v ≡ (v || false)
or_false true = refl
or_false false = refl

before_grows : (c : Option ℕ) (rest : List ℕ) → length rest ≤ length (before c rest)
before_grows None rest = omega arith
before_grows (Some b) rest = omega arith

group_grows : (g : Group) (rest : List ℕ) → length rest ≤ length (group_before g rest)
group_grows g rest = omega (
  arith,
  before_grows g.tc rest,
  before_grows g.tb (before g.tc rest),
  before_grows g.ta (before g.tb (before g.tc rest)),
)

groups_grow : (ns : List TypedGroup) (rest : List ℕ) → length rest ≤ length (groups_before ns rest)
groups_grow [] rest = omega arith
groups_grow (n ∷ ns) rest =
    let tail : length rest ≤ length (groups_before ns rest) = groups_grow ns rest in
    let grows : length (groups_before ns rest)
    ≤ length (group_before n.group (groups_before ns rest))
    = group_grows n.group (groups_before ns rest) in
    let size = ap length (unrolled n.t n.group ns rest) in omega arith

-- the bits of Y
record HasBits (y : ℕ) (g : Group) (ns : List TypedGroup) : Type 0 where
  pub ta : y % 2 ≡ bit g.ta
  pub tb : y / 2 % 2 ≡ bit g.tb
  pub tc : y / 4 % 2 ≡ bit g.tc
  pub td : y / 8 ≡ more ns

has_bits : (g : Group) (ns : List TypedGroup) → HasBits (announcing g ns) g ns
has_bits g ns =
    let e : announcing g ns ≡ bit g.ta + 2 * bit g.tb + 4 * bit g.tc + 8 * more ns
    = announcing_bits g ns in
    let ta : bit g.ta < 2 = bit_fits g.ta in
    let tb : bit g.tb < 2 = bit_fits g.tb in
    let tc : bit g.tc < 2 = bit_fits g.tc in
    let m : more ns < 2 = more_fits ns in
    record { ta = omega arith; tb = omega arith; tc = omega arith; td = omega arith }

-- a group in a row of n
past_group : (all : List ℕ) (g : Group) (ns : List TypedGroup) (due : List Due) (last : Option ℕ)
    (checked : Bool) (place next n : ℕ) (rest : List ℕ) → n ≤ 33
    → place + length (group_before g rest) ≡ n → next + length rest ≡ n
    → fault_from all (group_due (announcing g ns) due) last checked place (group_before g rest)
    ≡ fault_from all due last checked next rest
past_group all g ns due last checked place next n rest fits h k =
    let bits = has_bits g ns in
    let c : length (before g.tc rest) ≡ bit g.tc + length rest = size_before g.tc rest in
    let b : length (before g.tb (before g.tc rest)) ≡ bit g.tb + length (before g.tc rest)
    = size_before g.tb (before g.tc rest) in
    let a : length (group_before g rest) ≡ bit g.ta + length (before g.tb (before g.tc rest))
    = size_before g.ta (before g.tb (before g.tc rest)) in
    rw (bits.ta, bits.tb, bits.tc) (
    past_maybe all g.ta (when (bit g.tb) Plain (when (bit g.tc) Plain due)) last checked place
    (place + bit g.ta) n (before g.tb (before g.tc rest)) fits h (omega arith)
    ∙ past_maybe all g.tb (when (bit g.tc) Plain due) last checked (place + bit g.ta)
    (place + bit g.ta + bit g.tb) n (before g.tc rest) fits (omega arith) (omega arith)
    ∙ past_maybe all g.tc due last checked (place + bit g.ta + bit g.tb) next n rest fits
    (omega arith) k)

y_of : (y low : ℕ) → low < 16 → (16 * y + low) / 16 ≡ y
y_of y low h = omega arith

low_of : (y low : ℕ) → low < 16 → (16 * y + low) % 16 ≡ low
low_of y low h = omega arith

-- the last T of the groups
abbrev last_of : Option ℕ → List TypedGroup → Option ℕ
last_of last [] = last
last_of last (n ∷ ns) = last_of (Some n.t) ns

-- the characters expected after an indicator, which are there
past_indicator : (all : List ℕ) (y low : ℕ) (g : Group) (ns : List TypedGroup) (due : List Due)
    (last : Option ℕ) (checked : Bool) (place next n : ℕ) (rest : List ℕ) → n ≤ 33
    → AreInOrder last ns → y ≡ announcing g ns
    → place + length (group_before g (groups_before ns rest)) ≡ n → next + length rest ≡ n
    → fault_from all (announced y due) last checked place (group_before g (groups_before ns rest))
    ≡ fault_from all due (last_of last ns) (checked || names_other_than_0 ns) next rest
past_indicator all y low g [] due last checked place next n rest fits ordered is h k =
    let bits = has_bits g [] in
    rw (is, bits.td) (past_group all g [] due last checked place next n rest fits h k
    ∙ ap (λ v. fault_from all due last v next rest) (or_false checked))
past_indicator all y low g (m ∷ ns) due last checked place next n rest fits ordered is h k =
    let bits = has_bits g (m ∷ ns) in
    let from : List ℕ = groups_before (m ∷ ns) rest in
    let b : ℕ = 16 * announcing m.group ns + m.t in
    let behind : List ℕ = group_before m.group (groups_before ns rest) in
    let small : m.t < 16 = ordered.0 in
    let td_at : ℕ = n - length (b ∷ behind) in
    let unroll : from ≡ b ∷ behind = unrolled m.t m.group ns rest in
    let size : length from ≡ length (b ∷ behind) = ap length unroll in
    let grows : length from ≤ length (group_before g from) = group_grows g from in
    let y_is : b / 16 ≡ announcing m.group ns = y_of (announcing m.group ns) m.t small in
    let t_is : b % 16 ≡ m.t = low_of (announcing m.group ns) m.t small in
    rw (is, bits.td) (
    past_group all g (m ∷ ns) (Td ∷ due) last checked place td_at n from fits h (omega arith)
    ∙ ap (λ x. fault_from all (Td ∷ due) last checked td_at x) unroll
    ∙ step all Td due last checked td_at b behind (omega arith)
    (rw (t_is, ordered.1) refl)
    ∙ ap (λ t. fault_from all (announced (b / 16) due) (Some t) (checked || not (t == 0))
    (td_at + 1) behind) t_is
    ∙ past_indicator all (b / 16) m.t m.group ns due (Some m.t) (checked || not (m.t == 0))
    (td_at + 1) next n rest fits ordered.2 y_is (omega arith) k
    ∙ ap (λ v. fault_from all due (last_of (Some m.t) ns) v next rest)
    (or_assoc checked (not (m.t == 0)) (names_other_than_0 ns)))

-- historical bytes
past_historical : (all : List ℕ) (bytes : List ℕ) (last : Option ℕ) (checked : Bool)
    (place next n : ℕ) (rest : List ℕ) → n ≤ 33 → place + length (bytes ++ rest) ≡ n
    → next + length rest ≡ n
    → fault_from all (replicate (length bytes) Plain) last checked place (bytes ++ rest)
    ≡ fault_from all [] last checked next rest
past_historical all [] last checked place next n rest fits h k =
    let e : place ≡ next = omega arith in rw e refl
past_historical all (b ∷ bytes) last checked place next n rest fits h k =
    step all Plain (replicate (length bytes) Plain) last checked place b (bytes ++ rest)
    (omega arith) refl
    ∙ past_historical all bytes last checked (place + 1) next n rest fits (omega arith) k

ts_has : (c : Convention) (last : Option ℕ) → wrong_with Ts (ts c) last ≡ None
ts_has Direct last = refl
ts_has Inverse last = refl

range_is : (b : ℕ) (body rest : List ℕ)
    → slice_range (b ∷ (body ++ rest)) 1 (1 + length body) ≡ body
range_is b body rest = take_at body rest (1 + length body - 1) (omega arith)

-- a check byte in its place
check_passes : (all : List ℕ) (place b : ℕ) → place < 33 → b ≡ xor_of (slice_range all 1 place)
    → end_fault all true place (b ∷ []) ≡ None
check_passes all place b h e =
    let right : (b == xor_of (slice_range all 1 place)) ≡ true = search (rules, tests) in
    rw (not_33 place h, right) refl

end_passes : (all body : List ℕ) (b : ℕ) (due : Bool) → let check : List ℕ
    = (if due then xor_of body ∷ [] else []) in all ≡ b ∷ (body ++ check) → length all ≤ 33
    → end_fault all due (length all - length check) check ≡ None
end_passes all body b false e fits = refl
end_passes all body b true e fits =
    let same : length all ≡ 1 + (length body + 1)
    = omega (arith, ap length e, length-append body (xor_of body ∷ [])) in
    let place : length all - 1 ≡ 1 + length body = omega arith in
    check_passes all (length all - 1) (xor_of body) (omega arith)
    (ap xor_of (sym (ap (λ x. slice_range x 1 (length all - 1)) e
    ∙ ap (λ n. slice_range (b ∷ (body ++ xor_of body ∷ [])) 1 n) place
    ∙ range_is b body (xor_of body ∷ []))))

-- the characters after T0
past_t0 : (all : List ℕ) (b : ℕ) (g : Group) (ns : List TypedGroup) (bytes check : List ℕ)
    (n : ℕ) → n ≤ 33 → length bytes < 16 → AreInOrder None ns
    → b ≡ 16 * announcing g ns + length bytes
    → 2 + length (group_before g (groups_before ns (bytes ++ check))) ≡ n
    → fault_from all (announced (b / 16) (replicate (b % 16) Plain)) None false 2
    (group_before g (groups_before ns (bytes ++ check)))
    ≡ end_fault all (names_other_than_0 ns) (n - length check) check
past_t0 all b g ns bytes check n fits few ordered is size =
    let grows : length (groups_before ns (bytes ++ check))
    ≤ length (group_before g (groups_before ns (bytes ++ check)))
    = group_grows g (groups_before ns (bytes ++ check)) in
    let tail : length (bytes ++ check) ≤ length (groups_before ns (bytes ++ check))
    = groups_grow ns (bytes ++ check) in
    let both : length (bytes ++ check) ≡ length bytes + length check = length-append bytes check in
    let y_is : b / 16 ≡ announcing g ns = omega arith in
    let k_is : b % 16 ≡ length bytes = omega arith in
    rw k_is (
    past_indicator all (b / 16) (length bytes) g ns (replicate (length bytes) Plain) None false 2
    (n - length (bytes ++ check)) n (bytes ++ check) fits ordered y_is size (omega arith)
    ∙ past_historical all bytes (last_of None ns) (names_other_than_0 ns)
    (n - length (bytes ++ check)) (n - length check) n check fits (omega arith) (omega arith))

pub no_fault : (a : Answer) → IsAnswer a → first_fault (characters a) ≡ None
no_fault a is =
    let all : List ℕ = characters a in
    let check : List ℕ = check_field a in
    let b : ℕ = 16 * announcing a.first a.others + length a.historical in
    let behind : List ℕ = group_before a.first (groups_before a.others (a.historical ++ check)) in
    let fits : length all ≤ 33 = is.fits in
    let unroll : body_before a check ≡ b ∷ behind
    = unrolled (length a.historical) a.first a.others (a.historical ++ check) in
    let size : length (body_before a check) ≡ length (b ∷ behind) = ap length unroll in
    step all Ts (T0 ∷ []) None false 0 (ts a.convention) (body_before a check) (omega arith)
    (ts_has a.convention None)
    ∙ ap (λ x. fault_from all (T0 ∷ []) None false 1 x) unroll
    ∙ step all T0 [] None false 1 b behind (omega arith) refl
    ∙ past_t0 all b a.first a.others a.historical check (length all) fits is.few is.in_order refl
    (omega arith)
    ∙ end_passes all (body_before a []) (ts a.convention) (names_other_than_0 a.others)
    (ap (λ x. ts a.convention ∷ x) (body_append a check)) fits
