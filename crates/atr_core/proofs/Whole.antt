-- An answer read from TS to the end.
use Rattle.std.proofs.Common.{rules, tests, if◌then◌else◌, ◌≡◌, ◌≢◌, ℕ, ◌+◌, ◌*◌, ◌/◌, ◌%◌, ◌<◌, ◌≤◌, ◌==◌, List, [], ◌∷◌, ◌++◌, length, drop, replicate, slice_range, Option, Some, None, Bool, true, false, refl, sym, ap, subst, ◌∙◌, arith, append-nil, length-drop}
use Rattle.std.proofs.lemmas.List.{append_cancel_right}
use Rattle.std.proofs.lemmas.List.Folds.{drop_split}
use Rattle.atr_core.specs.Answer.{Answer, announcing, before, group_before, from_indicator, body_before, characters, ts, xor_of, names_other_than_0}
use Rattle.atr_core.specs.Conventions.{convention_of}
use Rattle.atr_core.specs.FirstFault.{Ts, T0, Td, Plain, when, announced, end_fault, first_fault}
use Rattle.atr_core.specs.Reading.{IsAt, fault_at, HasGroup, HasGroups, HasHistorical, IsWhole, groups_before, more}
use Rattle.atr_core.specs.declared.convention.Convention.{Convention}
use Rattle.atr_core.specs.declared.fault.AtrFault.{AtrFault}
use Rattle.atr_core.specs.declared.group.Group.{Group}
use Rattle.atr_core.specs.declared.group.TypedGroup.{TypedGroup}
use Rattle.atr_core.proofs.Groups.{indicator_splits}
use Rattle.atr_core.proofs.Steps.{read_at, is_33}

-- what the characters before the second are
pub record HasTs (all : List ℕ) (b : ℕ) (convention : Convention) : Type 0 where
  pub at : IsAt all 0 b
  pub is : convention_of b ≡ Some convention

-- TS, T0, and the first group
pub record HasFirst (all : List ℕ) (b t0 : ℕ) (convention : Convention) (first : Group) (place : ℕ)
    : Type 0 where
  pub ts : HasTs all b convention
  pub at : IsAt all 1 t0
  pub fits : t0 < 256
  pub group : HasGroup all 2 (t0 / 16) first place

to_t0 : (all : List ℕ) (b : ℕ) (convention : Convention) → HasTs all b convention
    → first_fault all ≡ fault_at all (T0 ∷ []) None false 1
to_t0 all b convention h = read_at all 0 b Ts (T0 ∷ []) None false h.at (rw h.is refl)

to_first : (all : List ℕ) (b t0 : ℕ) (convention : Convention) → HasTs all b convention
    → IsAt all 1 t0
    → first_fault all ≡ fault_at all (announced (t0 / 16) (replicate (t0 % 16) Plain)) None false 2
to_first all b t0 convention h at =
    to_t0 all b convention h ∙ read_at all 1 t0 T0 [] None false at refl

to_others : (all : List ℕ) (b t0 place : ℕ) (convention : Convention) (first : Group)
    → HasFirst all b t0 convention first place → first_fault all
    ≡ fault_at all (when (t0 / 16 / 8) Td (replicate (t0 % 16) Plain)) None false place
to_others all b t0 place convention first h = to_first all b t0 convention h.ts h.at
    ∙ h.group.passes (when (t0 / 16 / 8) Td (replicate (t0 % 16) Plain)) None false

to_historical : (all : List ℕ) (b t0 place end : ℕ) (convention : Convention) (first : Group)
    (others : List TypedGroup) → HasFirst all b t0 convention first place
    → (h : HasGroups all place (t0 / 16) others end) → first_fault all
    ≡ fault_at all (replicate (t0 % 16) Plain) h.last (names_other_than_0 others) end
to_historical all b t0 place end convention first others f h =
    to_others all b t0 place convention first f ∙ h.passes (replicate (t0 % 16) Plain)

-- TS, T0, all groups and the historical bytes
pub record HasAll (all : List ℕ) (b t0 place end last : ℕ) (a : Answer) : Type 0 where
  pub first : HasFirst all b t0 a.convention a.first place
  pub groups : HasGroups all place (t0 / 16) a.others end
  pub historical : HasHistorical all end (t0 % 16) a.historical last

to_end : (all : List ℕ) (b t0 place end last : ℕ) (a : Answer)
    → HasAll all b t0 place end last a → first_fault all
    ≡ end_fault all (names_other_than_0 a.others) last (drop last all)
to_end all b t0 place end last a h =
    to_historical all b t0 place end a.convention a.first a.others h.first h.groups
    ∙ h.historical.passes h.groups.last (names_other_than_0 a.others)

-- a part in front can be split off
pub before_append : (c : Option ℕ) (rest more : List ℕ)
    → before c (rest ++ more) ≡ before c rest ++ more
before_append None rest more = refl
before_append (Some b) rest more = refl

pub group_append : (g : Group) (rest more : List ℕ)
    → group_before g (rest ++ more) ≡ group_before g rest ++ more
group_append g rest more =
    ap (λ x. before g.ta (before g.tb x)) (before_append g.tc rest more)
    ∙ ap (λ x. before g.ta x) (before_append g.tb (before g.tc rest) more)
    ∙ before_append g.ta (before g.tb (before g.tc rest)) more

pub indicator_append : (low : ℕ) (g : Group) (ns : List TypedGroup) (rest more : List ℕ)
    → from_indicator low g ns (rest ++ more) ≡ from_indicator low g ns rest ++ more
indicator_append low g [] rest more =
    ap (λ x. (16 * announcing g [] + low) ∷ x) (group_append g rest more)
indicator_append low g (n ∷ ns) rest more =
    ap (λ x. (16 * announcing g (n ∷ ns) + low) ∷ group_before g x)
    (indicator_append n.t n.group ns rest more)
    ∙ ap (λ x. (16 * announcing g (n ∷ ns) + low) ∷ x)
    (group_append g (from_indicator n.t n.group ns rest) more)

pub body_append : (a : Answer) (more : List ℕ) → body_before a more ≡ body_before a [] ++ more
body_append a more =
    ap (λ x. from_indicator (length a.historical) a.first a.others (x ++ more))
    (sym (append-nil a.historical))
    ∙ indicator_append (length a.historical) a.first a.others (a.historical ++ []) more

-- TS is that of its convention
ts_is : (b : ℕ) (convention : Convention) → convention_of b ≡ Some convention → ts convention ≡ b
ts_is b convention h = grind (arith)

-- all characters except those at the end
body_is : (all : List ℕ) (b t0 place end last : ℕ) (a : Answer)
    → HasAll all b t0 place end last a → drop 1 all ≡ body_before a (drop last all)
body_is all b t0 place end last a h =
    let size : length a.historical ≡ t0 % 16 = h.historical.size in
    indicator_splits all 1 t0 place a.first a.others (a.historical ++ drop last all) h.first.fits
    h.first.at h.first.group h.groups.is
    (h.groups.split ∙ ap (λ x. groups_before a.others x) h.historical.split)
    ∙ ap (λ n. from_indicator n a.first a.others (a.historical ++ drop last all)) (sym size)

pub all_is : (all : List ℕ) (b t0 place end last : ℕ) (a : Answer)
    → HasAll all b t0 place end last a
    → all ≡ ts a.convention ∷ body_before a (drop last all)
all_is all b t0 place end last a h = h.first.ts.at.split
    ∙ ap (λ x. x ∷ drop 1 all) (sym (ts_is b a.convention h.first.ts.is))
    ∙ ap (λ x. ts a.convention ∷ x) (body_is all b t0 place end last a h)

-- the end has no fault only if it is the check field
nothing_behind : (all : List ℕ) (place : ℕ) (rest : List ℕ)
    → end_fault all false place rest ≡ None → rest ≡ []
nothing_behind all place [] h = refl
nothing_behind all place (b ∷ []) h = cc
nothing_behind all place (b ∷ c ∷ rest) h = cc

record HasCheck (all : List ℕ) (place : ℕ) (rest : List ℕ) : Type 0 where
  pub within : place ≢ 33
  pub is : rest ≡ xor_of (slice_range all 1 place) ∷ []

chosen : (long right : Bool) (f g : AtrFault)
    → (if long then Some f else if right then None else Some g) ≡ None
    → (long ≡ false) × (right ≡ true)
chosen true right f g h = cc
chosen false true f g h = (refl, refl)
chosen false false f g h = cc

many_ok : {P : Type 0} (long : Bool) (f g : AtrFault) → (if long then Some f else Some g) ≡ None → P
many_ok true f g h = cc
many_ok false f g h = cc

check_behind : (all : List ℕ) (place : ℕ) (rest : List ℕ)
    → end_fault all true place rest ≡ None → HasCheck all place rest
check_behind all place [] h = cc
check_behind all place (b ∷ []) h =
    let k = chosen (place == 33) (b == xor_of (slice_range all 1 place)) _ _ h in
    let right : (b == xor_of (slice_range all 1 place)) ≡ true = k.1 in
    let short : (place == 33) ≡ false = k.0 in
    let e : b ≡ xor_of (slice_range all 1 place) = search (rules, tests) in
    record {
      within = λ (is : place ≡ 33). let long : (place == 33) ≡ true = is_33 place is in cc;
      is = rw e refl;
    }
check_behind all place (b ∷ c ∷ rest) h = many_ok (place == 33) _ _ h

-- the characters from T0 on, as a range of the bytes
body_range : (all : List ℕ) (b t0 place end last : ℕ) (a : Answer)
    → HasAll all b t0 place end last a → slice_range all 1 last ≡ body_before a []
body_range all b t0 place end last a h =
    let forth : 2 ≤ place = h.first.group.ranges.forth in
    let further : place ≤ end = h.groups.ranges.forth in
    let last_of : end ≤ last = h.historical.ranges.forth in
    append_cancel_right (slice_range all 1 last) (body_before a []) (drop last all)
    (sym (drop_split all 1 last (omega arith)) ∙ body_is all b t0 place end last a h
    ∙ body_append a (drop last all))

check_is : (all : List ℕ) (b t0 place end last : ℕ) (a : Answer) (due : Bool)
    → HasAll all b t0 place end last a → end_fault all due last (drop last all) ≡ None
    → drop last all ≡ (if due then xor_of (body_before a []) ∷ [] else [])
check_is all b t0 place end last a false h e = nothing_behind all last (drop last all) e
check_is all b t0 place end last a true h e = (check_behind all last (drop last all) e).is
    ∙ ap (λ x. xor_of x ∷ []) (body_range all b t0 place end last a h)

size_is : (all : List ℕ) (last : ℕ) (due : Bool) → last ≤ 33
    → end_fault all due last (drop last all) ≡ None → length all ≤ 33
size_is all last false h e = omega (
  arith,
  length-drop last all,
  ap length (nothing_behind all last (drop last all) e),
)
size_is all last true h e =
    let check = check_behind all last (drop last all) e in
    let within : last ≢ 33 = check.within in
    omega (arith, length-drop last all, ap length check.is)

pub whole : (all : List ℕ) (b t0 place end last : ℕ) (a : Answer)
    → HasAll all b t0 place end last a
    → end_fault all (names_other_than_0 a.others) last (drop last all) ≡ None → IsWhole all a
whole all b t0 place end last a h e =
    let due : Bool = names_other_than_0 a.others in
    let is : all ≡ characters a = all_is all b t0 place end last a h
    ∙ ap (λ x. ts a.convention ∷ body_before a x)
    (check_is all b t0 place end last a due h e) in
    let size : length a.historical ≡ t0 % 16 = h.historical.size in
    let fits : length all ≤ 33 = size_is all last due h.historical.ranges.within e in
    record {
      answer = record {
        few = omega arith;
        in_order = h.groups.in_order;
        fits = let P : List ℕ → Type 0 = λ x. length x ≤ 33 in subst P is fits;
      };
      is = is;
      none = to_end all b t0 place end last a h ∙ e;
    }
