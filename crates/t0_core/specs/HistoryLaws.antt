-- Law: what led to a card's end is whole dialogues, resets, and the part of a dialogue in progress.
use Rattle.std.specs.Prelude.{ℕ, List, [], ◌∷◌}
use Rattle.std.specs.List.{AllByRecursion}
use Rattle.t0_core.specs.CardHistory.{Leads}
use Rattle.t0_core.specs.CardSide.{Stage}
use Rattle.t0_core.specs.Front.{front_characters}
use Rattle.t0_core.specs.History.{AreCutInto, Event, Item, Whole, Cut_off, IsItem, RunsOver}
use Rattle.t0_core.specs.Meaning.{Prepared, Tpdu}

module _ {State : Type 0} (Does : State → ℕ → Tpdu → State → Type 0)
    (after_reset : State → State) where
  -- A run consists of items.
  run_is_of_items : (old new : State) (items : List Item)
      → RunsOver Does after_reset old items new → AllByRecursion IsItem items
  run_is_of_items old new [] runs = tt
  run_is_of_items old new (Whole d ∷ items) (plan, mid, under, does, rest) =
      ((plan, under), run_is_of_items mid new items rest)
  run_is_of_items old new (Cut_off part ∷ items) (is_part, rest) =
      (is_part, run_is_of_items (after_reset old) new items rest)

  pub leads_are_cut : (first : State) (events : List Event) (standing : State)
      (prepared : Prepared State) (stage : Stage)
      (leads : Leads Does after_reset first events standing prepared stage)
      → AreCutInto events leads.items (front_characters leads.front)
  leads_are_cut first events standing prepared stage leads = record {
    are_items = run_is_of_items first standing leads.items leads.runs;
    is_part = leads.at_front.is_part;
    all_of_them = leads.events_are;
  }
