-- The groups of an answer, as they are read.
use Rattle.std.proofs.Common.{◌≡◌, ℕ, ◌+◌, ◌*◌, ◌/◌, ◌%◌, ◌<◌, ◌≤◌, ◌==◌, ◌||◌, not, List, [], ◌∷◌, ◌++◌, length, drop, Option, Some, None, true, false, refl, sym, ap, ◌∙◌, arith, append_assoc, append-nil, length-append}
use Rattle.std.proofs.Math.Bool.{or_assoc}
use Rattle.atr_core.specs.Answer.{bit, announcing, group_before, from_indicator, names_other_than_0, may_follow, AreInOrder}
use Rattle.atr_core.specs.FirstFault.{Due, Td, when, wrong_with}
use Rattle.atr_core.specs.Reading.{IsAt, fault_at, HasGroup, HasGroups, Ranges, groups_before, more}
use Rattle.atr_core.specs.declared.group.Group.{Group}
use Rattle.atr_core.specs.declared.group.TypedGroup.{TypedGroup}
use Rattle.atr_core.proofs.Steps.{read_at}

-- Y announces the group and the groups after it
pub announcing_is : (g : Group) (ns : List TypedGroup) (y : ℕ) → y < 16 → bit g.ta ≡ y % 2
    → bit g.tb ≡ y / 2 % 2 → bit g.tc ≡ y / 4 % 2 → more ns ≡ y / 8 → announcing g ns ≡ y
announcing_is g [] y fits a b c m = omega arith
announcing_is g (n ∷ ns) y fits a b c m = omega arith

pub indicator_is : (g : Group) (ns : List TypedGroup) (b : ℕ) → b < 256
    → bit g.ta ≡ b / 16 % 2 → bit g.tb ≡ b / 16 / 2 % 2 → bit g.tc ≡ b / 16 / 4 % 2
    → more ns ≡ b / 16 / 8 → 16 * announcing g ns + b % 16 ≡ b
indicator_is g ns b fits ta tb tc m =
    let e : announcing g ns ≡ b / 16 = announcing_is g ns (b / 16) (omega arith) ta tb tc m in
    rw e (omega arith)

-- an indicator, its group, and the others
pub unrolled : (low : ℕ) (g : Group) (ns : List TypedGroup) (rest : List ℕ)
    → from_indicator low g ns rest
    ≡ (16 * announcing g ns + low) ∷ group_before g (groups_before ns rest)
unrolled low g [] rest = refl
unrolled low g (n ∷ ns) rest = refl

-- the bytes from an indicator on
pub indicator_splits : (all : List ℕ) (place b end : ℕ) (g : Group) (ns : List TypedGroup)
    (tail : List ℕ) → b < 256 → IsAt all place b → HasGroup all (place + 1) (b / 16) g end
    → more ns ≡ b / 16 / 8 → drop end all ≡ groups_before ns tail
    → drop place all ≡ from_indicator (b % 16) g ns tail
indicator_splits all place b end g ns tail fits is group m e =
    is.split ∙ ap (λ x. b ∷ x) (group.split ∙ ap (λ x. group_before g x) e)
    ∙ ap (λ x. x ∷ group_before g (groups_before ns tail))
    (sym (indicator_is g ns b fits group.ta group.tb group.tc m))
    ∙ sym (unrolled (b % 16) g ns tail)

pub names_snoc : (ns : List TypedGroup) (n : TypedGroup)
    → names_other_than_0 (ns ++ n ∷ []) ≡ (names_other_than_0 ns || not (n.t == 0))
names_snoc [] n = elim (not (n.t == 0)) as (λ v. (v || false) ≡ v) [ true ↦ refl | false ↦ refl ]
names_snoc (m ∷ ns) n = ap (λ v. not (m.t == 0) || v) (names_snoc ns n)
    ∙ sym (or_assoc (not (m.t == 0)) (names_other_than_0 ns) (not (n.t == 0)))

-- the groups so far, read from a place where Y announced a TD or none
pub record AreRead (all : List ℕ) (start y0 : ℕ) (others : List TypedGroup) (place y : ℕ)
    (last : Option ℕ) : Type 0 where
  pub ranges : Ranges all start place
  pub y_fits : y < 16
  pub room : length others + start ≤ place
  pub is : (ns : List TypedGroup) → more ns ≡ y / 8 → more (others ++ ns) ≡ y0 / 8
  pub split : (ns : List TypedGroup) (tail : List ℕ) → more ns ≡ y / 8
      → drop place all ≡ groups_before ns tail → drop start all ≡ groups_before (others ++ ns) tail
  pub in_order : (ns : List TypedGroup) → AreInOrder last ns → AreInOrder None (others ++ ns)
  pub passes : (due : List Due) → fault_at all (when (y0 / 8) Td due) None false start
      ≡ fault_at all (when (y / 8) Td due) last (names_other_than_0 others) place

with_td : (y : ℕ) (due : List Due) → y < 16 → 8 ≤ y → when (y / 8) Td due ≡ Td ∷ due
with_td y due fits h = let e : y / 8 ≡ 1 = omega arith in rw e refl

without_td : (y : ℕ) (due : List Due) → y < 8 → when (y / 8) Td due ≡ due
without_td y due h = let e : y / 8 ≡ 0 = omega arith in rw e refl

-- the first fault from the next TD on
at_td : (all : List ℕ) (start y0 place y : ℕ) (others : List TypedGroup) (last : Option ℕ)
    → AreRead all start y0 others place y last → 8 ≤ y → (due : List Due)
    → fault_at all (when (y0 / 8) Td due) None false start
    ≡ fault_at all (Td ∷ due) last (names_other_than_0 others) place
at_td all start y0 place y others last are h due = are.passes due
    ∙ ap (λ x. fault_at all x last (names_other_than_0 others) place) (with_td y due are.y_fits h)

in_place : (last : Option ℕ) (b : ℕ) → may_follow last (b % 16) ≡ true
    → wrong_with Td b last ≡ None
in_place last b h = rw h refl

-- one more group
pub one_more : (all : List ℕ) (start y0 place y b end : ℕ) (others : List TypedGroup)
    (last : Option ℕ) (g : Group) → AreRead all start y0 others place y last → 8 ≤ y → b < 256
    → IsAt all place b → may_follow last (b % 16) ≡ true
    → HasGroup all (place + 1) (b / 16) g end
    → AreRead all start y0 (others ++ record { t = b % 16; group = g } ∷ []) end (b / 16)
    (Some (b % 16))
one_more all start y0 place y b end others last g are h fits is order group =
    let n : TypedGroup = record { t = b % 16; group = g } in
    let forth : place + 1 ≤ end = group.ranges.forth in
    let before : start ≤ place = are.ranges.forth in
    let room : length others + start ≤ place = are.room in
    let y_fits : y < 16 = are.y_fits in
    let one : 1 ≡ y / 8 = omega arith in
    record {
      ranges = record {
        forth = omega arith;
        inside = group.ranges.inside;
        within = group.ranges.within;
      };
      y_fits = omega arith;
      room = omega (arith, length-append others (n ∷ []));
      is = λ ns m. rw (append_assoc others (n ∷ []) ns) (are.is (n ∷ ns) one);
      split = λ ns tail m e. rw (append_assoc others (n ∷ []) ns)
          (are.split (n ∷ ns) tail one
          (indicator_splits all place b end g ns tail fits is group m e));
      in_order = λ ns k. rw (append_assoc others (n ∷ []) ns)
          (are.in_order (n ∷ ns) (omega arith, order, k));
      passes = λ due. at_td all start y0 place y others last are h due
          ∙ read_at all place b Td due last (names_other_than_0 others) is (in_place last b order)
          ∙ group.passes (when (b / 16 / 8) Td due) (Some (b % 16))
          (names_other_than_0 others || not (b % 16 == 0))
          ∙ ap (λ v. fault_at all (when (b / 16 / 8) Td due) (Some (b % 16)) v end)
          (sym (names_snoc others n));
    }

-- all groups
pub all_read : (all : List ℕ) (start y0 place y : ℕ) (others : List TypedGroup) (last : Option ℕ)
    → AreRead all start y0 others place y last → y < 8 → HasGroups all start y0 others place
all_read all start y0 place y others last are h =
    let zero : 0 ≡ y / 8 = omega arith in
    record {
      ranges = are.ranges;
      is = ap more (sym (append-nil others)) ∙ are.is [] zero;
      in_order = let k = are.in_order [] tt in rw (append-nil others) at k;
      split = are.split [] (drop place all) zero refl
          ∙ ap (λ x. groups_before x (drop place all)) (append-nil others);
      last = last;
      passes = λ due. are.passes due
          ∙ ap (λ x. fault_at all x last (names_other_than_0 others) place) (without_td y due h);
    }
