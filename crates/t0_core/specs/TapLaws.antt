-- Laws of what a tap has heard.
use Rattle.std.specs.Prelude.{◌≡◌, List, [], ◌∷◌, ◌++◌}
use Rattle.std.proofs.Common.{refl, sym, subst, lit<}
use Rattle.t0_core.specs.DialogueLaws.{all_more, events_item}
use Rattle.t0_core.specs.Front.{Front, In_header, In_body, After_first, fresh, front_characters}
use Rattle.t0_core.specs.History.{Event, Reset, Cut_off, passed}
use Rattle.t0_core.specs.TapSide.{Place, In_opening, Between, In_data, After_sw1, TapStandsAt, IsReadFront, afresh}
use Rattle.t0_core.specs.TapHistory.{HasHeard, IsOverheard}

-- a tap reads the fronts at which it is
stands_read : (place : Place) (front : Front) → TapStandsAt place front → IsReadFront front
stands_read (In_opening bytes) (In_header heard) at = tt
stands_read (Between said) (In_body b) at = at.0.is_read
stands_read (In_data said until) (In_body b) at = at.0.is_read
stands_read (After_sw1 said sw1) (After_first b first) at = at.0.is_read
stands_read _ _ at = absurd at

-- A reset cuts off the current front, and the next dialogue starts afresh.
pub heard_reset : (events : List Event) (before after : Place) → after ≡ afresh
    → (led : HasHeard events before) → (now : HasHeard (events ++ Reset ∷ []) after)
    × (now.items ≡ led.items ++ Cut_off (front_characters led.front) ∷ []) × (now.front ≡ fresh)
heard_reset events before after is led =
    let part = front_characters led.front in
    let S : Place → Type 0 = λ place. TapStandsAt place fresh in (
      record {
        items = led.items ++ Cut_off part ∷ [];
        front = fresh;
        events_are = events_item events led.items (passed part) Reset (Cut_off part) led.events_are
            refl;
        are_overheard = all_more IsOverheard led.items (Cut_off part) led.are_overheard
            (led.front, led.is_front, stands_read before led.front led.stands, refl);
        is_front = lit< tt;
        stands = subst S (sym is) (refl, lit< tt);
      },
      refl,
      refl,
    )
