-- The buffer of a chain after it took more bytes.
use Rattle.std.proofs.Common.{arith, ◌≡◌, ℕ, ◌+◌, ◌-◌, ◌≤◌, List, ◌++◌, length, take, drop, replicate, Some, ap, ◌∙◌, subst, sym}
use Rattle.std.proofs.Math.Seq.{take-append_seam}
use Rattle.std.proofs.lemmas.List.{drop-drop, drop-replicate, length-take-le}
use Rattle.apdu_core.specs.declared.header.Header.{Header}
use Rattle.apdu_core.specs.Chaining.{IsChain}

-- The bytes after the chain are still zeros once more bytes are written before them.
still_zeros : (old new : List ℕ) (at n : ℕ) → length new ≡ length old →
    drop (at + n) new ≡ drop (at + n) old → drop at old ≡ replicate (length old - at) 0 →
    drop (at + n) new ≡ replicate (length new - (at + n)) 0
still_zeros old new at n size same zeros =
    let fewer : length old - at - n ≡ length new - (at + n) = omega (arith, size) in
    let behind : drop (at + n) old ≡ replicate (length old - at - n) 0 =
    sym (drop-drop n at old) ∙ ap (drop n) zeros ∙ drop-replicate n _ 0 in
    same ∙ behind ∙ ap (λ k. replicate k 0) fewer

-- the invariant of a pending chain of `len` bytes, over its buffer
abbrev pub IsRoom : Header → ℕ → List ℕ → Type 0
IsRoom first len room =
    IsChain (record { bytes = take len room; limit = length room; pending = Some first })
    × (len ≤ length room) × (drop len room ≡ replicate (length room - len) 0)

pub has_taken : (old new rest : List ℕ) (at n size : ℕ) (first : Header) → size ≡ length new →
    length new ≡ length old → drop (at + n) new ≡ drop (at + n) old →
    drop at old ≡ replicate (length old - at) 0 → at + n ≤ length old →
    IsRoom first (at + n) (take size (new ++ rest))
has_taken old new rest at n size first whole same behind zeros fits =
    let all : new ≡ take size (new ++ rest) =
    sym (ap (λ k. take k (new ++ rest)) whole ∙ take-append_seam new rest) in
    let within : at + n ≤ length new = omega (arith, same, fits) in
    let P : List ℕ → Type 0 = IsRoom first (at + n) in
    subst P all (
      record { within = search (arith, length-take-le); empty = search },
      within,
      still_zeros old new at n same behind zeros,
    )
