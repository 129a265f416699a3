-- All that may happen at a card's end, whatever a terminal sends.
use Rattle.std.specs.Prelude.{◌≡◌, List, [], ◌∷◌, false}
use Rattle.t1_core.specs.declared.applet.Applet.{Ghosts}
use Rattle.t1_core.specs.declared.card.Reply.{Reply}
use Rattle.t1_core.specs.Block.{Arrival}
use Rattle.t1_core.specs.CardSide.{card_after, card_hears}
use Rattle.t1_core.specs.Doing.{EndOf, Keeps, Steps}

-- a call that changes the end: a block, valid or not, with the reply; a block at which memory runs
-- out; or a reset
pub data Call : Type 0 where
  Replies : (arrival : Arrival) → (reply : Reply) → Call
  Fails : Call
  Resets : Call

abbrev pub Happens : {C : Type 0} (a : Ghosts C) → Call → EndOf C → EndOf C → Type 0
Happens a (Replies arrival reply) old new = Steps a (λ m c. card_hears m arrival c) old reply new
Happens a Fails old new = Keeps a (λ c. c) old new
Happens a Resets old new = new ≡ record { card = old.card; at = card_after []; over = false }

abbrev pub HappenAll : {C : Type 0} (a : Ghosts C) → List Call → EndOf C → EndOf C → Type 0
HappenAll a [] old new = new ≡ old
HappenAll {C = C} a (call ∷ calls) old new =
    (mid : EndOf C) × Happens a call old mid × HappenAll a calls mid new
