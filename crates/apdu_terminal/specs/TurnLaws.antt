-- Pairs in turn, after one another.
use Rattle.std.proofs.Common.{List, [], ◌∷◌, ◌++◌, refl}
use Rattle.apdu_terminal.specs.Apdus.{Pair}
use Rattle.apdu_terminal.specs.CardApdu.{InTurn}

pub turns_apart : {State : Type 0} (One : State → Pair → State → Type 0) (old new : State)
    (xs ys : List Pair) → InTurn One old (xs ++ ys) new
    → (mid : State) × InTurn One old xs mid × InTurn One mid ys new
turns_apart One old new [] ys goes = (old, refl, goes)
turns_apart One old new (x ∷ xs) ys (next, is, others) =
    let (mid, before, after) = turns_apart One next new xs ys others in
    (mid, (next, is, before), after)
