use Rattle.std.proofs.Common.{◌≡◌, ◌≤◌, ◌<◌, ◌+◌, ◌-◌, ◌++◌, ◌∙◌, ℕ, List, false, length, take, drop, refl, sym, ap, subst, arith, append_assoc, inl, inr}
use Rattle.std.proofs.Math.Seq.{take-add}
use Rattle.std.proofs.lemmas.Bool.{cases_order}
use Rattle.std.proofs.lemmas.List.{take-take, length-take-le, length-drop}
use Rattle.t1_core.specs.BlockBytes.{is_whole}
use Rattle.t1_core.proofs.receiver.Receiver.take_bytes.Goals as goal

-- the bytes so far, and a run of the rest
run_added : (old mid new bytes : List ℕ) (at n : ℕ) → at ≤ length bytes
    → n ≤ length (take (length bytes - at) (drop at bytes)) → mid ≡ old ++ take at bytes
    → new ≡ mid ++ take n (take (length bytes - at) (drop at bytes))
    → new ≡ old ++ take (at + n) bytes
run_added old mid new bytes at n within fits was is =
    let len = length-take-le (length bytes - at) (drop at bytes)
    (omega (arith, length-drop at bytes)) in
    is ∙ ap (λ bs. mid ++ bs) (take-take n (length bytes - at) (drop at bytes)
    (omega (arith, fits, len))) ∙ ap (λ bs. bs ++ take n (drop at bytes)) was
    ∙ append_assoc old (take at bytes) (take n (drop at bytes))
    ∙ ap (λ bs. old ++ bs) (sym (take-add at n bytes))

pub take-preserved : goal.take-preserved
take-preserved c =
    let old : List ℕ = c.args.self.now in
    let bytes : List ℕ = c.args.bytes.now in
    let run = c.append_run-at in
    let (so_far, within, part) = c.take.invariant in
    let at = c.take.at in
    let rest : List ℕ = take (length bytes - at) (drop at bytes) in
    let len : length rest ≡ length bytes - at = length-take-le (length bytes - at) (drop at bytes)
    (omega (arith, length-drop at bytes)) in
    let behind : (k j : ℕ) → k ≡ at + j → j < run.result
    → is_whole (old ++ take k bytes) ≡ false =
    λ k j is less. subst (λ bs. is_whole bs ≡ false)
    (run_added old c.take.self (c.take.self ++ take j rest) bytes at j within
    (omega (arith, less, run.ensures.count.1)) so_far refl ∙ ap (λ n. old ++ take n bytes) (sym is))
    (run.ensures.none_behind j less) in (
      run_added old c.take.self run.new.self bytes at run.result within run.ensures.count.1 so_far
          run.ensures.after,
      omega (arith, within, run.ensures.count.1, len),
      λ k before. elim (cases_order k at) [
        | inl here ↦ behind k 0 (omega (arith, here)) (omega (arith, run.ensures.count.0))
        | inr (inl early) ↦ part k early
        | inr (inr late) ↦ behind k (k - at) (omega (arith, late)) (omega (arith, late, before))
      ],
    )
