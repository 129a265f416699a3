-- The unused room of a buffer holds zeros.
use Rattle.std.proofs.Common.{arith, ◌≡◌, ℕ, ◌+◌, ◌++◌, ◌-◌, ◌≤◌, List, length, take, drop, replicate, slice_set, length-append, ap, ◌∙◌, sym}
use Rattle.std.proofs.lemmas.List.{drop_at, drop-drop, drop-replicate, length-take-le, drop-set-lt, replicate-append-replicate}

-- the bytes behind one that is written
pub still_zeros : (room : List ℕ) (size at byte : ℕ) →
    drop at room ≡ replicate (size - at) 0 →
    drop (at + 1) (slice_set room at byte) ≡ replicate (size - (at + 1)) 0
still_zeros room size at byte zeros =
    let fewer : size - at - 1 ≡ size - (at + 1) = omega (arith) in
    drop-set-lt (at + 1) room at byte (omega (arith)) ∙ sym (drop-drop 1 at room)
    ∙ ap (drop 1) zeros ∙ drop-replicate 1 _ 0 ∙ ap (λ k. replicate k 0) fewer

-- all bytes, when zeros overwrite the others
pub all_zeros : (room new : List ℕ) (size at : ℕ) → at ≤ size →
    new ≡ replicate at 0 ++ drop at room → drop at room ≡ replicate (size - at) 0 →
    new ≡ replicate size 0
all_zeros room new size at within overwritten zeros =
    let whole : at + (size - at) ≡ size = omega (arith, within) in
    overwritten ∙ ap (λ rest. replicate at 0 ++ rest) zeros
    ∙ replicate-append-replicate at (size - at) 0 ∙ ap (λ k. replicate k 0) whole

-- the bytes behind a run that is written
pub zeros_behind : (room new run : List ℕ) (size at n : ℕ) → length run ≡ n → at ≤ length room
    → new ≡ take at room ++ run ++ drop (at + n) room → drop at room ≡ replicate (size - at) 0
    → drop (at + n) new ≡ replicate (size - (at + n)) 0
zeros_behind room new run size at n len within is zeros =
    let front = take at room ++ run in
    let all : length front ≡ at + n = length-append (take at room) run
    ∙ ap (λ k. k + length run) (length-take-le at room within) ∙ ap (λ k. at + k) len in
    let fewer : size - at - n ≡ size - (at + n) = omega (arith) in
    ap (λ bs. drop (at + n) bs) is ∙ drop_at front (drop (at + n) room) (at + n) all
    ∙ sym (drop-drop n at room) ∙ ap (drop n) zeros ∙ drop-replicate n _ 0
    ∙ ap (λ k. replicate k 0) fewer

-- further behind
pub zeros_further : (room : List ℕ) (size at to : ℕ) → at ≤ to
    → drop at room ≡ replicate (size - at) 0 → drop to room ≡ replicate (size - to) 0
zeros_further room size at to later zeros =
    let on : to ≡ at + (to - at) = omega (arith, later) in
    let fewer : size - at - (to - at) ≡ size - to = omega (arith, later) in
    ap (λ k. drop k room) on ∙ sym (drop-drop (to - at) at room) ∙ ap (drop (to - at)) zeros
    ∙ drop-replicate (to - at) _ 0 ∙ ap (λ k. replicate k 0) fewer
