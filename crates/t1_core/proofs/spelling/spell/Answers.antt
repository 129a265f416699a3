use Rattle.std.proofs.Common.{◌≡◌, ◌+◌, ◌++◌, ◌∷◌, [], List, ℕ, refl, ap, ◌∙◌, length, length-append, take, drop, arith}
use Rattle.std.proofs.lemmas.List.{drop-drop}
use Rattle.std.proofs.Math.Seq.{take-append_seam}
use Rattle.t1_core.specs.BlockBytes.{lrc, pcb_byte, spelled}
use Rattle.t1_core.proofs.Fields.{put_behind}
use Rattle.t1_core.proofs.spelling.spell.Goals as goal

pub returns : goal.returns
returns c =
    let out = c.args.out.now in
    let info = c.args.info.now in
    let front : List ℕ = 0 ∷ pcb_byte c.args.pcb ∷ length info ∷ [] in
    let check = c.lrc-check.result in
    let end : ℕ = length info + 3 in
    let left : List ℕ = drop (length info) (drop 3 out) in
    let place : end ≡ length (front ++ info) = omega arith in
    let first : c.copy_at.new.bytes ≡ front ++ drop 3 out = c.copy_at.ensures
    ∙ ap (λ p. 0 ∷ p ∷ length info ∷ drop 3 out) c.byte.ensures in
    let second : c.copy_at-2.new.bytes ≡ (front ++ info) ++ left =
    put_behind front info (drop 3 out) c.copy_at.new.bytes c.copy_at-2.new.bytes 3
    first refl c.copy_at-2.ensures in
    let third : c.copy_at-3.new.bytes ≡ ((front ++ info) ++ check ∷ []) ++ drop 1 left =
    put_behind (front ++ info) (check ∷ []) left c.copy_at-2.new.bytes c.copy_at-3.new.bytes end
    second place c.copy_at-3.ensures in
    let summed : check ≡ lrc (front ++ info) = c.lrc-check.ensures
    ∙ ap (λ l. lrc (take end l)) second
    ∙ ap (λ n. lrc (take n ((front ++ info) ++ left))) place
    ∙ ap lrc (take-append_seam (front ++ info) left) in
    let many = length-append (front ++ info) (lrc (front ++ info) ∷ []) in
    let all : 3 + (length info + 1) ≡ length (spelled c.args.pcb info) =
    omega (arith, many, place) in
    third
    ∙ ap (λ b. ((front ++ info) ++ b ∷ []) ++ drop 1 left) summed
    ∙ ap (λ l. spelled c.args.pcb info ++ l)
    (drop-drop 1 (length info) (drop 3 out) ∙ drop-drop (length info + 1) 3 out
    ∙ ap (λ n. drop n out) all)
