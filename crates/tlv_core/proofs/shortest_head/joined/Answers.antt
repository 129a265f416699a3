-- The tag with its padding, the length written over that, and the rest of the padding.
use Rattle.std.proofs.Common.{◌≡◌, ℕ, ◌+◌, ◌-◌, ◌≤◌, List, [], ◌∷◌, ◌++◌, length, take, drop, replicate, refl, sym, ◌∙◌, ap, arith, append_assoc, length-append}
use Rattle.std.specs.Prelude.{slice_index_or}
use Rattle.std.proofs.lemmas.List.{take_at, drop_at, drop-replicate, length-replicate, replicate-append-replicate}
use borrow.Rule.Slice.PartMut.{put_mid}
use Rattle.tlv_core.specs.TagForm.{IsTag}
use Rattle.tlv_core.specs.PaddedCells.{padded}
use Rattle.tlv_core.proofs.shortest_head.joined.Goals as goal

at_most_three : (tag : List ℕ) → IsTag tag → length tag ≤ 3
at_most_three [] is = absurd is
at_most_three (a ∷ []) is = omega arith
at_most_three (a ∷ b ∷ []) is = omega arith
at_most_three (a ∷ b ∷ c ∷ []) is = omega arith
at_most_three (a ∷ b ∷ c ∷ d ∷ rest) is = absurd is

three_long : (tag p : List ℕ) → IsTag tag → p ≡ tag ++ replicate (3 - length tag) 0
    → length p ≡ 3
three_long tag p is e =
    let left : List ℕ = replicate (3 - length tag) 0 in
    omega (
      arith,
      ap length e,
      length-append tag left,
      length-replicate {A = ℕ} (3 - length tag) 0,
      at_most_three tag is,
    )

three : (p : List ℕ) → length p ≡ 3
    → slice_index_or p 0 0 ∷ slice_index_or p 1 0 ∷ slice_index_or p 2 0 ∷ 0 ∷ 0 ∷ 0 ∷ []
    ≡ p ++ replicate 3 0
three [] long = absurd (omega (arith, long))
three (a ∷ []) long = absurd (omega (arith, long))
three (a ∷ b ∷ []) long = absurd (omega (arith, long))
three (a ∷ b ∷ c ∷ []) long = refl
three (a ∷ b ∷ c ∷ d ∷ rest) long = absurd (omega (arith, long))

-- three cells with the tag in front, and three more cells
six : (tag : List ℕ) → length tag ≤ 3
    → (tag ++ replicate (3 - length tag) 0) ++ replicate 3 0 ≡ padded 6 tag
six tag short =
    let e : 3 - length tag + 3 ≡ 6 - length tag = omega (arith, short) in
    append_assoc tag (replicate (3 - length tag) 0) (replicate 3 0)
    ∙ ap (λ l. tag ++ l) (replicate-append-replicate (3 - length tag) 3 0
    ∙ ap (λ n. replicate n 0) e)

length_put : (tag size : List ℕ)
    → put_mid (length tag) (length size) (padded 6 tag) size ≡ padded 6 (tag ++ size)
length_put tag size =
    let left = replicate (6 - length tag) 0 in
    let n = length tag in
    let k = length size in
    let e : 6 - n - k ≡ 6 - length (tag ++ size) = omega (arith, length-append tag size) in
    ap (λ l. l ++ (size ++ drop k (drop n (tag ++ left)))) (take_at tag left n refl)
    ∙ ap (λ l. tag ++ (size ++ drop k l)) (drop_at tag left n refl)
    ∙ ap (λ l. tag ++ (size ++ l)) (drop-replicate k (6 - n) 0 ∙ ap (λ m. replicate m 0) e)
    ∙ sym (append_assoc tag size (replicate (6 - length (tag ++ size)) 0))

-- all cells after the length is written after the tag
cells : (tag size start rest p : List ℕ) (a k : ℕ) → IsTag tag
    → p ≡ tag ++ replicate (3 - length tag) 0 → a ≡ length tag → rest ≡ size → k ≡ length size
    → start ≡ p ++ replicate 3 0 → put_mid a k start rest ≡ padded 6 (tag ++ size)
cells tag size start rest p a k is e_p e_a e_rest e_k e_start =
    let whole : start ≡ padded 6 tag = e_start ∙ ap (λ l. l ++ replicate 3 0) e_p
    ∙ six tag (at_most_three tag is) in
    ap (λ n. put_mid n k start rest) e_a ∙ ap (λ n. put_mid (length tag) n start rest) e_k
    ∙ ap (λ xs. put_mid (length tag) (length size) xs rest) whole
    ∙ ap (λ ys. put_mid (length tag) (length size) (padded 6 tag) ys) e_rest
    ∙ length_put tag size

view : (bytes all : List ℕ) (len : ℕ) → all ≡ padded 6 bytes → length bytes ≡ len
    → take len all ≡ bytes
view bytes all len e long = ap (take len) e
    ∙ take_at bytes (replicate (6 - length bytes) 0) len long

pub returns : goal.returns
returns c =
    let tag = c.args.tag in
    let size = c.args.size.now in
    let place : length c.bytes-place.result.now ≡ length tag =
    ap length c.bytes-place.ensures.bytes in
    let is = c.bytes-place.ensures.tag in
    view (tag ++ size) _ _ (cells tag size _ c.copy_from_slice.new.self c.padded.result _ _ is
    c.padded.ensures place c.copy_from_slice.ensures.after (omega arith)
    (three c.padded.result (three_long tag _ is c.padded.ensures)))
    (omega (arith, length-append tag size, place))

pub invariant_of-result : goal.invariant_of-result
invariant_of-result c =
    let tag = c.args.tag in
    let size = c.args.size.now in
    let place : length c.bytes-place.result.now ≡ length tag =
    ap length c.bytes-place.ensures.bytes in
    let is = c.bytes-place.ensures.tag in
    let long = length-append tag size in
    let same = ap length (returns c) in
    record {
      holds = omega (arith, same, long, place, at_most_three tag is, c.requires);
      has_len = same ∙ omega (arith, long, place);
      is_padded = sym (cells tag size _ c.copy_from_slice.new.self c.padded.result _ _ is
          c.padded.ensures place c.copy_from_slice.ensures.after (omega arith)
          (three c.padded.result (three_long tag _ is c.padded.ensures))
          ∙ ap (padded 6) (sym (returns c)));
    }
