use Rattle.std.proofs.Common.{◌≡◌, ◌≤◌, ◌↔◌, ℕ, List, ◌∷◌, length, Some, arith, subst, sym}
use Rattle.std.specs.List.{concat}
use Rattle.apdu_core.specs.Chaining.{chain_commands, idle}
use Rattle.apdu_core.specs.Laws.{AreAdded}
use Rattle.apdu_core.proofs.PieceFacts.{gathers, some_piece, pieces_concatenate}
use Rattle.apdu_core.proofs.laws.a_chain_gathers_the_value.Goals as goal

pub returns : goal.returns
returns c = λ header value p limit after h clear byte.
    let (first, others, is) = some_piece value p h in
    let TakesAll : List (List ℕ) → List ℕ → Type 0 = λ q bytes.
    AreAdded (idle limit) (chain_commands header q) after ↔ ((length bytes ≤ limit)
    × (after ≡ record { bytes = bytes; limit = limit; pending = Some header })) in
    let step = gathers header byte clear first others (idle limit) after tt in
    let here : TakesAll (first ∷ others) (concat (first ∷ others)) = (
      λ taken. let all = step.0 taken in (omega (arith, all.0), all.1),
      λ all. step.1 (omega (arith, all.0), all.1),
    ) in
    let there = subst (λ q. TakesAll q (concat q)) (sym is) here in
    subst (TakesAll p) (pieces_concatenate value p h) there
