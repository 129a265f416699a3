-- When two equal concatenations have equal parts.
use Rattle.std.proofs.Common.{◌≡◌, ℕ, List, ◌++◌, length, take, drop, ap, ◌∙◌, sym}
use Rattle.std.proofs.Math.Seq.{take-append_seam, drop-append_seam}

pub parted : (a b c d : List ℕ) → length a ≡ length c → a ++ b ≡ c ++ d → (a ≡ c) × (b ≡ d)
parted a b c d size same =
    let front : a ≡ take (length a) (c ++ d) =
    sym (take-append_seam a b) ∙ ap (take (length a)) same in
    let back : b ≡ drop (length a) (c ++ d) =
    sym (drop-append_seam a b) ∙ ap (drop (length a)) same in
    let front' : take (length a) (c ++ d) ≡ c =
    ap (λ n. take n (c ++ d)) size ∙ take-append_seam c d in
    let back' : drop (length a) (c ++ d) ≡ d =
    ap (λ n. drop n (c ++ d)) size ∙ drop-append_seam c d in
    (front ∙ front', back ∙ back')
