-- Lines that are mild enough, and how many receptions a terminal survives.
use Rattle.std.specs.Prelude.{◌≡◌, ℕ, ◌+◌, ◌-◌, ◌≤◌, ◌*◌, true, List, [], ◌∷◌, length, Option, Some, None}
use Rattle.t1_core.specs.declared.line.Fate.{Fate}
use Rattle.t1_core.specs.declared.line.Fate.TheVariants.{Delivers}
use Rattle.t1_core.specs.declared.line.Fates.{Fates}
use Rattle.t1_core.specs.declared.settings.Settings.{Settings}
use Rattle.t1_core.specs.Block.{Bad, is_size}
use Rattle.t1_core.specs.BlockBytes.{arrival_of}
use Rattle.t1_core.specs.declared.pcb.BlockReason.TheVariants.{Other}
use Rattle.t1_core.specs.CardSide.{Meaning}
use Rattle.t1_core.specs.TerminalSide.{Terminal, takes}
use Rattle.t1_core.specs.World.{World, exchange}

abbrev pub bad_of : Fate → ℕ
bad_of Delivers = 0
bad_of _ = 1

-- the number of blocks of an exchange that fail to arrive
abbrev pub bad : Fates → ℕ
bad fates = bad_of fates.down + bad_of fates.up

-- no progress: N(S) and N(R) stay the same
abbrev pub Stays : Terminal → Terminal → Type 0
Stays old new = (new.number ≡ old.number) × (new.due ≡ old.due)

-- While N(S) and N(R) of the terminal stay the same, at most `f` blocks fail to arrive. `left` is
-- the rest of these.
abbrev pub IsMild : Meaning → (f left : ℕ) → World → List Fates → Type 0
IsMild m f left w [] = Unit {0}
IsMild m f left w (x ∷ xs) =
    (bad x ≤ left)
    × (Stays w.terminal (exchange m x w).terminal → IsMild m f (left - bad x) (exchange m x w) xs)
    × ((Stays w.terminal (exchange m x w).terminal → ⊥) → IsMild m f f (exchange m x w) xs)

abbrev pub count_of : Option ℕ → ℕ
count_of None = 0
count_of (Some size) = 1

abbrev pub IsSize : Option ℕ → Type 0
IsSize None = Unit {0}
IsSize (Some size) = is_size size ≡ true

-- The settings survive `f` failures between two steps: 2 `f` tries, and an extension for each
-- request of the card and for each failure. Each IFSC of the card is valid, and no response is too
-- long.
pub record Enough (m : Meaning) (f : ℕ) (settings : Settings) : Type 0 where
  pub tries : 2 * f ≤ settings.tries
  pub extensions : (ran : List (List ℕ))
      → (m.asks ran).extensions + count_of (m.asks ran).size + f ≤ settings.extensions
  pub sizes : (ran : List (List ℕ)) → IsSize (m.asks ran).size
  pub fits : (ran : List (List ℕ)) → length (m.does ran) ≤ settings.limit

-- The bytes of the command after the first of its current field, and of the response up to the
-- limit. Each can be one step of progress.
abbrev pub steps_left : Terminal → ℕ
steps_left t = (length t.field - 1) + length t.rest + (t.settings.limit - length t.got)

-- After more receptions than this a terminal has stopped. It counts the tries and extensions left,
-- two more, and for S(IFS request) and each step left all tries and one more.
abbrev pub most_receptions : Terminal → ℕ
most_receptions t =
    t.tries + t.extensions + 2 + (1 + steps_left t) * (t.settings.tries + 1)

-- a terminal after receptions from any peer: the bytes of a block, or `None` for a time-out
abbrev pub meets_all : Terminal → List (Option (List ℕ)) → Terminal
meets_all t [] = t
meets_all t (None ∷ xs) = meets_all (takes t (Bad Other)) xs
meets_all t (Some bytes ∷ xs) = meets_all (takes t (arrival_of bytes)) xs
