-- The segments of a plan, one by one.
use Rattle.std.proofs.Common.{◌≡◌, ℕ, zero, suc, ◌+◌, ◌-◌, List, [], ◌∷◌, ◌++◌, drop, refl, sym, subst, ◌∙◌, ap, arith, append_assoc, append-nil}
use Rattle.std.specs.List.{AllByRecursion}
use Rattle.t0_core.specs.declared.plan.Step.{Step}
use Rattle.t0_core.specs.declared.plan.Step.TheVariants.{Null, One, All}
use Rattle.t0_core.specs.Dialogue.{moves, all_moves}
use Rattle.t0_core.specs.Plan.{segments_of}
use Rattle.t0_core.specs.CardSide.{Starts, IsFrugal, AreOnPlan}

-- a step is carried out if data are left, and a NULL always
pub carried_out : (s : Step) (rest : List Step) (left : ℕ) → Starts s left
    → segments_of (s ∷ rest) left ≡ s ∷ segments_of rest (left - moves s left)
carried_out Null rest left starts = let same : left - 0 ≡ left = omega arith in rw same refl
carried_out One rest zero starts = absurd (omega (arith, starts))
carried_out One rest (suc n) starts = let same : suc n - 1 ≡ n = omega arith in rw same refl
carried_out All rest zero starts = absurd (omega (arith, starts))
carried_out All rest (suc n) starts = let none : suc n - suc n ≡ 0 = omega arith in rw none refl

-- there is a segment as long as data are left
pub some_left : (steps : List Step) (left : ℕ) → segments_of steps left ≡ [] → left ≡ 0
some_left steps zero none = refl
some_left [] (suc n) none = absurd (cc)
some_left (Null ∷ steps) (suc n) none = absurd (cc)
some_left (One ∷ steps) (suc n) none = absurd (cc)
some_left (All ∷ steps) (suc n) none = absurd (cc)

pub frugal_more : (segments : List Step) (s : Step) (n : ℕ) → IsFrugal segments n
    → Starts s (n - all_moves segments n) → IsFrugal (segments ++ s ∷ []) n
frugal_more [] s n frugal starts = let same : n - 0 ≡ n = omega arith in
    (subst (Starts s) same starts, tt)
frugal_more (t ∷ segments) s n frugal starts =
    let same : n - (moves t n + all_moves segments (n - moves t n)) ≡ (n - moves t n)
    - all_moves segments (n - moves t n) = omega arith in
    (frugal.0, frugal_more segments s (n - moves t n) frugal.1 (subst (Starts s) same starts))

-- Segments that each move data, or are NULLs, are those of the plan made of them. One more `All`
-- moves the data that are left.
pub frugal_goes_on : (segments : List Step) (n : ℕ) → IsFrugal segments n
    → segments_of segments n ≡ segments ++ segments_of [] (n - all_moves segments n)
frugal_goes_on [] n frugal = let same : n - 0 ≡ n = omega arith in
    ap (λ k. segments_of [] k) (sym same)
frugal_goes_on (s ∷ segments) n frugal =
    let left : (n - moves s n) - all_moves segments (n - moves s n) ≡ n
    - (moves s n + all_moves segments (n - moves s n)) = omega arith in
    carried_out s segments n frugal.0
    ∙ ap (λ x. s ∷ x) (frugal_goes_on segments (n - moves s n) frugal.1)
    ∙ ap (λ k. s ∷ (segments ++ segments_of [] k)) left

-- if they move all data, nothing follows
pub follows_itself : (segments : List Step) (n : ℕ) → IsFrugal segments n → all_moves segments n ≡ n
    → segments ≡ segments_of segments n
follows_itself segments n frugal all =
    let none : n - all_moves segments n ≡ 0 = omega (arith, all) in
    sym (frugal_goes_on segments n frugal ∙ ap (λ k. segments ++ segments_of [] k) none
    ∙ append-nil segments)

-- the segments of a plan move all data
pub moves_all : (steps : List Step) (n : ℕ) → all_moves (segments_of steps n) n ≡ n
moves_all [] zero = refl
moves_all [] (suc n) = omega arith
moves_all (Null ∷ steps) n =
    let same : n - 0 ≡ n = omega arith in rw same (omega (arith, moves_all steps n))
moves_all (One ∷ steps) zero = moves_all steps zero
moves_all (One ∷ steps) (suc n) =
    let same : suc n - 1 ≡ n = omega arith in rw same (omega (arith, moves_all steps n))
moves_all (All ∷ steps) zero = moves_all steps zero
moves_all (All ∷ steps) (suc n) =
    let none : suc n - suc n ≡ 0 = omega arith in rw none (omega (arith, moves_all steps 0))

-- if no data are left, the segments are NULLs
pub nulls_where_none_left : (steps : List Step)
    → AllByRecursion (λ s. s ≡ Null) (segments_of steps 0)
nulls_where_none_left [] = tt
nulls_where_none_left (Null ∷ steps) = (refl, nulls_where_none_left steps)
nulls_where_none_left (One ∷ steps) = nulls_where_none_left steps
nulls_where_none_left (All ∷ steps) = nulls_where_none_left steps

-- NULLs alone
pub nulls_follow : (segments : List Step) → AllByRecursion (λ s. s ≡ Null) segments
    → segments ≡ segments_of segments 0
nulls_follow [] nulls = refl
nulls_follow (Null ∷ segments) nulls = ap (λ x. Null ∷ x) (nulls_follow segments nulls.1)
nulls_follow (One ∷ segments) nulls = absurd (cc)
nulls_follow (All ∷ segments) nulls = absurd (cc)

pub nulls_move_nothing : (segments : List Step) (n : ℕ) → AllByRecursion (λ s. s ≡ Null) segments
    → all_moves segments n ≡ 0
nulls_move_nothing [] n nulls = refl
nulls_move_nothing (Null ∷ segments) n nulls =
    omega (arith, nulls_move_nothing segments (n - 0) nulls.1)
nulls_move_nothing (One ∷ segments) n nulls = absurd (cc)
nulls_move_nothing (All ∷ segments) n nulls = absurd (cc)

-- one more segment of the plan
pub on_plan_more : (segments steps : List Step) (s : Step) (whole until next done count : ℕ)
    → AreOnPlan segments steps whole until done
    → segments_of (drop done steps) (whole - until) ≡ s ∷ segments_of (drop count steps)
    (whole - next) → AreOnPlan (segments ++ s ∷ []) steps whole next count
on_plan_more segments steps s whole until next done count on is =
    on ∙ ap (λ x. segments ++ x) is
    ∙ sym (append_assoc segments (s ∷ []) (segments_of (drop count steps) (whole - next)))

-- all segments of the plan were passed
pub on_plan_all : (segments steps : List Step) (whole until done : ℕ)
    → AreOnPlan segments steps whole until done → segments_of (drop done steps) (whole - until) ≡ []
    → segments ≡ segments_of steps whole
on_plan_all segments steps whole until done on none =
    sym (on ∙ ap (λ x. segments ++ x) none ∙ append-nil segments)
