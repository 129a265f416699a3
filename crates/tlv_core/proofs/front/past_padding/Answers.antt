-- One more 00 is skipped.
use Rattle.std.proofs.Common.{◌≡◌, ℕ, ◌≤◌, ◌-◌, ◌∙◌, List, [], ◌∷◌, ◌++◌, length, take, drop, get_or, All, sym, ap, arith, append_assoc}
use Rattle.std.proofs.lemmas.List.{take_all}
use Rattle.std.proofs.lemmas.List.Elements.{All-push}
use Rattle.tlv_core.proofs.front.past_padding.Goals as goal

padding_grows : (bytes rest : List ℕ) → (padding : List ℕ) × (All (λ b. b ≡ 0) padding)
    × (bytes ≡ padding ++ rest) → 1 ≤ length rest
    → get_or rest 0 0 ≡ 0 → (padding : List ℕ) × (All (λ b. b ≡ 0) padding)
    × (bytes ≡ padding ++ take (length rest - 1) (drop 1 rest))
padding_grows bytes [] h some first = absurd (omega arith)
padding_grows bytes (a ∷ rest) (padding, zeros, e) some first = (
  padding ++ a ∷ [],
  All-push (λ b. b ≡ 0) padding a zeros first,
  e ∙ sym (append_assoc padding (a ∷ []) rest) ∙ ap (λ x. padding ++ a ∷ [] ++ x)
      (sym (take_all (length (a ∷ rest) - 1) rest (omega arith))),
)

pub loop-rest-preserved : goal.loop-rest-preserved
loop-rest-preserved c = padding_grows _ c.loop-rest.rest.now c.loop-rest.invariant
    c.in-0.len_at_least (omega arith)
