-- The end of an answer: historical bytes and the check byte.
use Rattle.std.proofs.Common.{◌≡◌, ◌≢◌, ℕ, suc, ◌+◌, ◌-◌, ◌<◌, ◌≤◌, List, [], ◌∷◌, ◌++◌, length, drop, replicate, Option, Bool, true, false, refl, sym, ap, ◌∙◌, arith, append_assoc, length-append, length-drop}
use Rattle.atr_core.specs.FirstFault.{Plain, end_fault, fault}
use Rattle.atr_core.specs.Reading.{IsAt, fault_at, Fails, FailsAtHistorical, HasHistorical, Ranges}
use Rattle.atr_core.specs.declared.fault.AtrFault.{AtrFault}
use Rattle.atr_core.specs.declared.fault.AtrReason.TheVariants.{TooLong, Surplus, CheckMissing, CheckNotDue}
use Rattle.atr_core.proofs.Steps.{read_at, is_33, not_33_is}

-- the historical bytes so far, i of k
pub record AreHistorical (all : List ℕ) (start k i : ℕ) (historical : List ℕ) (place : ℕ)
    : Type 0 where
  pub ranges : Ranges all start place
  pub size : length historical ≡ i
  pub split : drop start all ≡ historical ++ drop place all
  pub passes : (n : ℕ) (last : Option ℕ) (checked : Bool) → n + i ≡ k
      → fault_at all (replicate k Plain) last checked start
      ≡ fault_at all (replicate n Plain) last checked place

-- the first fault from the next historical byte on
at_next : (all : List ℕ) (start k i place : ℕ) (historical : List ℕ) → i < k
    → AreHistorical all start k i historical place → (n : ℕ) (last : Option ℕ) (checked : Bool)
    → n + (i + 1) ≡ k → fault_at all (replicate k Plain) last checked start
    ≡ fault_at all (Plain ∷ replicate n Plain) last checked place
at_next all start k i place historical h are n last checked e =
    are.passes (suc n) last checked (omega arith)

pub next_fails : (all : List ℕ) (start k i place : ℕ) (historical : List ℕ) (f : AtrFault) → i < k
    → AreHistorical all start k i historical place → Fails all place f
    → FailsAtHistorical all start k f
next_fails all start k i place historical f h are fails = λ last checked.
    at_next all start k i place historical h are (k - (i + 1)) last checked (omega arith)
    ∙ fails Plain (replicate (k - (i + 1)) Plain) last checked

pub one_more : (all : List ℕ) (start k i place b : ℕ) (historical : List ℕ) → i < k
    → AreHistorical all start k i historical place → IsAt all place b
    → AreHistorical all start k (i + 1) (historical ++ b ∷ []) (place + 1)
one_more all start k i place b historical h are is =
    let forth : start ≤ place = are.ranges.forth in
    let within : place < 33 = is.within in
    let inside : place < length all = is.inside in
    let size : length historical ≡ i = are.size in
    record {
      ranges = record { forth = omega arith; inside = omega arith; within = omega arith };
      size = let e : length (historical ++ b ∷ []) ≡ length historical + 1
          = length-append historical (b ∷ []) in omega arith;
      split = are.split ∙ ap (λ x. historical ++ x) is.split
          ∙ sym (append_assoc historical (b ∷ []) (drop (place + 1) all));
      passes = λ n last checked e.
          at_next all start k i place historical h are n last checked e
          ∙ read_at all place b Plain (replicate n Plain) last checked is refl;
    }

pub all_read : (all : List ℕ) (start k i place : ℕ) (historical : List ℕ) → k ≤ i → i ≤ k
    → AreHistorical all start k i historical place → HasHistorical all start k historical place
all_read all start k i place historical h m are =
    let size : length historical ≡ i = are.size in
    record {
      ranges = are.ranges;
      size = omega arith;
      split = are.split;
      passes = λ last checked. are.passes 0 last checked (omega arith);
    }

-- the number of characters left
left : (all : List ℕ) (place n : ℕ) → length all - place ≡ n → length (drop place all) ≡ n
left all place n h = length-drop place all ∙ h

one_not_due : (all : List ℕ) (place : ℕ) (rest : List ℕ) → length rest ≡ 1
    → end_fault all false place rest ≡ fault place CheckNotDue
one_not_due all place [] h = absurd (omega arith)
one_not_due all place (b ∷ []) h = refl
one_not_due all place (b ∷ c ∷ rest) h = absurd (omega arith)

many_not_due : (all : List ℕ) (place : ℕ) (rest : List ℕ) → 1 < length rest
    → end_fault all false place rest ≡ fault place Surplus
many_not_due all place [] h = absurd (omega arith)
many_not_due all place (b ∷ []) h = absurd (omega arith)
many_not_due all place (b ∷ c ∷ rest) h = refl

long_due : (all : List ℕ) (place : ℕ) (rest : List ℕ) → place ≡ 33
    → end_fault all true place rest ≡ fault place TooLong
long_due all place [] e = rw (is_33 place e) refl
long_due all place (b ∷ []) e = rw (is_33 place e) refl
long_due all place (b ∷ c ∷ rest) e = rw (is_33 place e) refl

none_due : (all : List ℕ) (place : ℕ) (rest : List ℕ) → length rest ≡ 0 → place ≢ 33
    → end_fault all true place rest ≡ fault place CheckMissing
none_due all place [] h e = rw (not_33_is place e) refl
none_due all place (b ∷ rest) h e = absurd (omega arith)

many_due : (all : List ℕ) (place : ℕ) (rest : List ℕ) → 1 < length rest → place ≢ 33
    → end_fault all true place rest ≡ fault (place + 1) Surplus
many_due all place [] h e = absurd (omega arith)
many_due all place (b ∷ []) h e = absurd (omega arith)
many_due all place (b ∷ c ∷ rest) h e = rw (not_33_is place e) refl

pub one_behind : (all : List ℕ) (place : ℕ) → length all - place ≡ 1
    → end_fault all false place (drop place all) ≡ fault place CheckNotDue
one_behind all place h = one_not_due all place (drop place all) (left all place 1 h)

pub many_behind : (all : List ℕ) (place : ℕ) → 1 < length all - place
    → end_fault all false place (drop place all) ≡ fault place Surplus
many_behind all place h = many_not_due all place (drop place all)
    (omega (arith, length-drop place all))

pub long_check : (all : List ℕ) (place : ℕ) → place ≡ 33
    → end_fault all true place (drop place all) ≡ fault place TooLong
long_check all place e = long_due all place (drop place all) e

pub no_check : (all : List ℕ) (place : ℕ) → length all - place ≡ 0 → place ≢ 33
    → end_fault all true place (drop place all) ≡ fault place CheckMissing
no_check all place h e = none_due all place (drop place all) (left all place 0 h) e

pub many_behind_check : (all : List ℕ) (place : ℕ) → 1 < length all - place → place ≢ 33
    → end_fault all true place (drop place all) ≡ fault (place + 1) Surplus
many_behind_check all place h e = many_due all place (drop place all)
    (omega (arith, length-drop place all)) e
