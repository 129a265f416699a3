-- The fields that a chain is cut into.
use Rattle.std.proofs.Common.{◌≡◌, refl, sym, ap, ◌∙◌, ℕ, ◌+◌, zero, suc, ◌-◌, ◌<◌, List, [], ◌∷◌, ◌++◌, length, take, drop, length-drop, arith, nat_lt, rules, tests}
use Rattle.std.proofs.lemmas.List.{take-append-drop}
use Rattle.std.proofs.Math.Seq.{drop-append-add, take-append_seam}
use Rattle.t1_core.specs.Block.{more}

more_is : (rest : List ℕ) → nat_lt 0 (length rest) ≡ more rest
more_is [] = refl
more_is (b ∷ rest) = search (rules, tests)

pub follow_is : (from cut place : ℕ) (bytes : List ℕ) → from ≡ cut
    → nat_lt from (length bytes - place) ≡ more (drop cut (drop place bytes))
follow_is from cut place bytes is =
    let both : length (drop cut (drop place bytes)) ≡ length bytes - place - cut =
    length-drop cut (drop place bytes) ∙ ap (λ n. n - cut) (length-drop place bytes) in
    let same : nat_lt from (length bytes - place) ≡ nat_lt 0
    (length (drop cut (drop place bytes))) =
    grind (arith, both, is) in
    same ∙ more_is (drop cut (drop place bytes))

-- a field that is cut again is a shorter cut of the same bytes
pub shorter_cut : (size cut : ℕ) (bytes : List ℕ) → size < cut
    → (take size (take cut bytes) ≡ take size bytes)
    × (drop size (take cut bytes) ++ drop cut bytes ≡ drop size bytes)
shorter_cut zero cut bytes less = (refl, take-append-drop cut bytes)
shorter_cut (suc n) zero bytes less = absurd (omega (arith, less))
shorter_cut (suc n) (suc m) [] less = (refl, refl)
shorter_cut (suc n) (suc m) (b ∷ bytes) less =
    let e = shorter_cut n m bytes (omega (arith, less)) in (ap (λ x. b ∷ x) e.0, e.1)

-- bytes that are put behind others
pub put_behind : (done more rest old now : List ℕ) (at : ℕ) → old ≡ done ++ rest
    → at ≡ length done → now ≡ take at old ++ more ++ drop (at + length more) old
    → now ≡ (done ++ more) ++ drop (length more) rest
put_behind done more rest old now at is place put =
    put
    ∙ ap (λ o. take at o ++ more ++ drop (at + length more) o) is
    ∙ ap (λ n. take n (done ++ rest) ++ more ++ drop (n + length more) (done ++ rest)) place
    ∙ ap (λ l. l ++ more ++ drop (length done + length more) (done ++ rest))
    (take-append_seam done rest)
    ∙ ap (λ l. (done ++ more) ++ l) (drop-append-add done rest (length more))
