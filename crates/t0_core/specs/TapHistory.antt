-- What a tap has heard since it was made.
use Rattle.std.specs.Prelude.{◌≡◌, ◌⊎◌, List, [], ◌∷◌, ◌++◌}
use Rattle.std.specs.List.{AllByRecursion, flat_map}
use Rattle.t0_core.specs.declared.direction.Direction.{Direction}
use Rattle.t0_core.specs.declared.heard.Heard.{Heard}
use Rattle.t0_core.specs.Character.{Character}
use Rattle.t0_core.specs.Dialogue.{Dialogue, IsDialogue}
use Rattle.t0_core.specs.Front.{Front, IsFront, GoesOn, Ends, fresh, front_characters}
use Rattle.t0_core.specs.History.{Event, Passed, Item, Whole, Cut_off, events_of, passed}
use Rattle.t0_core.specs.TapSide.{Place, TapStandsAt, IsRead, IsReadFront, Makes, Concludes, turned}

-- a dialogue that the tap reads, or the part of one that a reset cut off
abbrev pub IsOverheard : Item → Type 0
IsOverheard (Whole d) = IsDialogue d × IsRead d.body
IsOverheard (Cut_off part) = (front : Front) × IsFront front × IsReadFront front
    × (part ≡ front_characters front)

-- These events are whole dialogues, resets with what they cut off, and the front of one more
-- dialogue, at which the tap is.
pub record HasHeard (events : List Event) (place : Place) : Type 0 where
  pub items : List Item
  pub front : Front
  pub events_are : events ≡ flat_map events_of items ++ passed (front_characters front)
  pub are_overheard : AllByRecursion IsOverheard items
  pub is_front : IsFront front
  pub stands : TapStandsAt place front

-- The history with one more character. The current front continues with it, with data in one
-- direction or the other, or the dialogue ends with it and becomes one more item.
pub record HearsOn {events : List Event} {before : Place} (led : HasHeard events before)
    (heard : Heard) (c : Character) (after : Place) : Type 0 where
  pub now : HasHeard (events ++ Passed c ∷ []) after
  pub way : Direction
  pub goes : (GoesOn (turned way led.front) c now.front
      × Makes heard (turned way led.front) c now.front × (now.items ≡ led.items))
      ⊎ ((d : Dialogue) × Ends (turned way led.front) c d × Concludes heard d
      × (now.front ≡ fresh) × (now.items ≡ led.items ++ Whole d ∷ []))
