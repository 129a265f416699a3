-- The same bytes are never two answers.
use Rattle.std.proofs.Common.{◌≡◌, ℕ, ◌+◌, ◌*◌, ◌<◌, List, [], ◌∷◌, ◌++◌, length, Option, Some, None, refl, sym, ap, ◌∙◌, arith}
use Rattle.atr_core.specs.Answer.{Answer, IsAnswer, AreInOrder, announcing, bit, before, group_before, from_indicator, check_field, characters, ts}
use Rattle.atr_core.specs.declared.convention.Convention.{Convention}
use Rattle.atr_core.specs.declared.convention.Convention.TheVariants.{Direct, Inverse}
use Rattle.atr_core.specs.declared.group.Group.{Group}
use Rattle.atr_core.specs.declared.group.TypedGroup.{TypedGroup}
use Rattle.atr_core.specs.Reading.{more}

pub bit_fits : (c : Option ℕ) → bit c < 2
bit_fits None = omega arith
bit_fits (Some b) = omega arith

pub more_fits : (ns : List TypedGroup) → more ns < 2
more_fits [] = omega arith
more_fits (n ∷ ns) = omega arith

pub announcing_bits : (g : Group) (ns : List TypedGroup)
    → announcing g ns ≡ bit g.ta + 2 * bit g.tb + 4 * bit g.tc + 8 * more ns
announcing_bits g [] = omega arith
announcing_bits g (n ∷ ns) = omega arith

pub heads : (m n : ℕ) (x y : List ℕ) → m ∷ x ≡ n ∷ y → m ≡ n
heads m n x y e = cc

pub tails : (m n : ℕ) (x y : List ℕ) → m ∷ x ≡ n ∷ y → x ≡ y
tails m n x y e = cc

-- a character that is present in both, or in neither
pub same_before : (c d : Option ℕ) (x y : List ℕ) → bit c ≡ bit d → before c x ≡ before d y
    → (c ≡ d) × (x ≡ y)
same_before None None x y b e = (refl, e)
same_before (Some m) (Some n) x y b e = (ap Some (heads m n x y e), tails m n x y e)
same_before None (Some n) x y b e = absurd (omega arith)
same_before (Some m) None x y b e = absurd (omega arith)

-- the parts of two equal indicators
record AreSame (low low2 : ℕ) (g h : Group) (ns ns2 : List TypedGroup) : Type 0 where
  pub low_is : low ≡ low2
  pub ta_is : bit g.ta ≡ bit h.ta
  pub tb_is : bit g.tb ≡ bit h.tb
  pub tc_is : bit g.tc ≡ bit h.tc
  pub others_are : more ns ≡ more ns2

same_indicator : (low low2 : ℕ) (g h : Group) (ns ns2 : List TypedGroup) → low < 16 → low2 < 16
    → 16 * announcing g ns + low ≡ 16 * announcing h ns2 + low2 → AreSame low low2 g h ns ns2
same_indicator low low2 g h ns ns2 fits fits2 e =
    let a : announcing g ns ≡ bit g.ta + 2 * bit g.tb + 4 * bit g.tc + 8 * more ns
    = announcing_bits g ns in
    let b : announcing h ns2 ≡ bit h.ta + 2 * bit h.tb + 4 * bit h.tc + 8 * more ns2
    = announcing_bits h ns2 in
    let ta : bit g.ta < 2 = bit_fits g.ta in
    let tb : bit g.tb < 2 = bit_fits g.tb in
    let tc : bit g.tc < 2 = bit_fits g.tc in
    let m : more ns < 2 = more_fits ns in
    let ta2 : bit h.ta < 2 = bit_fits h.ta in
    let tb2 : bit h.tb < 2 = bit_fits h.tb in
    let tc2 : bit h.tc < 2 = bit_fits h.tc in
    let m2 : more ns2 < 2 = more_fits ns2 in
    let same : low ≡ low2 = omega arith in
    let y_is : announcing g ns ≡ announcing h ns2 = omega arith in
    record {
      low_is = same;
      ta_is = omega arith;
      tb_is = omega arith;
      tc_is = omega arith;
      others_are = omega arith;
    }

abbrev group_of : Option ℕ → Option ℕ → Option ℕ → Group
group_of ta tb tc = record { ta = ta; tb = tb; tc = tc }

same_parts : (g h : Group) → g.ta ≡ h.ta → g.tb ≡ h.tb → g.tc ≡ h.tc → g ≡ h
same_parts g h a b c = ap (λ x. group_of x g.tb g.tc) a ∙ ap (λ x. group_of h.ta x g.tc) b
    ∙ ap (λ x. group_of h.ta h.tb x) c

abbrev typed_of : ℕ → Group → TypedGroup
typed_of t group = record { t = t; group = group }

same_typed : (n m : TypedGroup) → n.t ≡ m.t → n.group ≡ m.group → n ≡ m
same_typed n m a b = ap (λ x. typed_of x n.group) a ∙ ap (λ x. typed_of m.t x) b

abbrev answer_of : Convention → Group → List TypedGroup → List ℕ → Answer
answer_of convention first others historical = record {
  convention = convention;
  first = first;
  others = others;
  historical = historical;
}

same_answer : (a b : Answer) → a.convention ≡ b.convention → a.first ≡ b.first
    → a.others ≡ b.others → a.historical ≡ b.historical → a ≡ b
same_answer a b c d e f =
    ap (λ x. answer_of x a.first a.others a.historical) c
    ∙ ap (λ x. answer_of b.convention x a.others a.historical) d
    ∙ ap (λ x. answer_of b.convention b.first x a.historical) e
    ∙ ap (λ x. answer_of b.convention b.first b.others x) f

same_group : (g h : Group) (x y : List ℕ) → bit g.ta ≡ bit h.ta → bit g.tb ≡ bit h.tb
    → bit g.tc ≡ bit h.tc → group_before g x ≡ group_before h y → (g ≡ h) × (x ≡ y)
same_group g h x y ta tb tc e =
    let a = same_before g.ta h.ta _ _ ta e in
    let b = same_before g.tb h.tb _ _ tb a.1 in
    let c = same_before g.tc h.tc _ _ tc b.1 in
    let one : g.ta ≡ h.ta = a.0 in
    let two : g.tb ≡ h.tb = b.0 in
    let three : g.tc ≡ h.tc = c.0 in
    (same_parts g h one two three, c.1)

pub record IsSame (low low2 : ℕ) (g h : Group) (ns ns2 : List TypedGroup) (x y : List ℕ)
    : Type 0 where
  pub low_is : low ≡ low2
  pub group_is : g ≡ h
  pub others_are : ns ≡ ns2
  pub rest_is : x ≡ y

same_list : (n m : TypedGroup) (ns ms : List TypedGroup) → n.t ≡ m.t → n.group ≡ m.group
    → ns ≡ ms → n ∷ ns ≡ m ∷ ms
same_list n m ns ms t group others =
    let same : n ≡ m = same_typed n m t group in cc

apart : (m n : ℕ) → m ≡ 0 → n ≡ 1 → m ≡ n → ⊥
apart m n zero one e = omega arith

-- the bytes from an indicator on determine all parts
pub same_from : (low low2 : ℕ) (g h : Group) (ns ns2 : List TypedGroup) (x y : List ℕ)
    (last last2 : Option ℕ) → low < 16 → low2 < 16 → AreInOrder last ns → AreInOrder last2 ns2
    → from_indicator low g ns x ≡ from_indicator low2 h ns2 y → IsSame low low2 g h ns ns2 x y
same_from low low2 g h [] [] x y last last2 fits fits2 ordered ordered2 e =
    let head = heads (16 * announcing g [] + low) (16 * announcing h [] + low2) _ _ e in
    let tail = tails (16 * announcing g [] + low) (16 * announcing h [] + low2) _ _ e in
    let same = same_indicator low low2 g h [] [] fits fits2 head in
    let group = same_group g h x y same.ta_is same.tb_is same.tc_is tail in
    record {
      low_is = same.low_is;
      group_is = group.0;
      others_are = refl;
      rest_is = group.1;
    }
same_from low low2 g h (n ∷ ns) (m ∷ ms) x y last last2 fits fits2 ordered ordered2 e =
    let head = heads (16 * announcing g (n ∷ ns) + low) (16 * announcing h (m ∷ ms) + low2) _ _
    e in
    let tail = tails (16 * announcing g (n ∷ ns) + low) (16 * announcing h (m ∷ ms) + low2) _ _
    e in
    let same = same_indicator low low2 g h (n ∷ ns) (m ∷ ms) fits fits2 head in
    let group = same_group g h _ _ same.ta_is same.tb_is same.tc_is tail in
    let behind = same_from n.t m.t n.group m.group ns ms x y (Some n.t) (Some m.t) ordered.0
    ordered2.0 ordered.2 ordered2.2 group.1 in
    record {
      low_is = same.low_is;
      group_is = group.0;
      others_are = same_list n m ns ms behind.low_is behind.group_is behind.others_are;
      rest_is = behind.rest_is;
    }
same_from low low2 g h [] (m ∷ ms) x y last last2 fits fits2 ordered ordered2 e =
    let head = heads (16 * announcing g [] + low) (16 * announcing h (m ∷ ms) + low2) _ _ e in
    let same = same_indicator low low2 g h [] (m ∷ ms) fits fits2 head in
    absurd (apart (more []) (more (m ∷ ms)) refl refl same.others_are)
same_from low low2 g h (n ∷ ns) [] x y last last2 fits fits2 ordered ordered2 e =
    let head = heads (16 * announcing g (n ∷ ns) + low) (16 * announcing h [] + low2) _ _ e in
    let same = same_indicator low low2 g h (n ∷ ns) [] fits fits2 head in
    absurd (apart (more []) (more (n ∷ ns)) refl refl (sym same.others_are))

-- two lists of equal length, before others
same_lists : (s t x y : List ℕ) → length s ≡ length t → s ++ x ≡ t ++ y → s ≡ t
same_lists [] [] x y n e = refl
same_lists (b ∷ s) (c ∷ t) x y n e =
    let head : b ≡ c = heads b c (s ++ x) (t ++ y) e in
    let tail : s ++ x ≡ t ++ y = tails b c (s ++ x) (t ++ y) e in
    let same : s ≡ t = same_lists s t x y (omega arith) tail in cc
same_lists [] (c ∷ t) x y n e = absurd (omega arith)
same_lists (b ∷ s) [] x y n e = absurd (omega arith)

same_ts : (c d : Convention) → ts c ≡ ts d → c ≡ d
same_ts Direct Direct e = refl
same_ts Inverse Inverse e = refl
same_ts Direct Inverse e = absurd (omega arith)
same_ts Inverse Direct e = absurd (omega arith)

pub one_reading : (a b : Answer) → IsAnswer a → IsAnswer b → characters a ≡ characters b → a ≡ b
one_reading a b is is2 e =
    let head = heads (ts a.convention) (ts b.convention) _ _ e in
    let tail = tails (ts a.convention) (ts b.convention) _ _ e in
    let same = same_from (length a.historical) (length b.historical) a.first b.first a.others
    b.others _ _ None None is.few is2.few is.in_order is2.in_order tail in
    same_answer a b (same_ts a.convention b.convention head) same.group_is same.others_are
    (same_lists a.historical b.historical (check_field a) (check_field b) same.low_is same.rest_is)
