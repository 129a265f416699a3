-- What a card of an own application does, it does as a card that has no data objects.
use Rattle.std.proofs.Common.{◌≡◌, ℕ, ℤ, List, Option, None, Some, false, refl, inr, subst, sym}
use Rattle.std.specs.Prelude.{is_some}
use Rattle.t0_core.specs.CardSending.{IsHandedOut}
use Rattle.t0_core.specs.CardSide.{EndOf, Stage}
use Rattle.t0_core.specs.Meaning.{Prepared}
use Rattle.t0_core.specs.Plan.{Cursor, plan_kept}
use Rattle.object_card.specs.CardView.{CardView}
use Rattle.command_card.specs.Given.{GivenState}
use Rattle.command_card.specs.State.{CardState}
use Rattle.card_c.specs.declared.card_side.CardSide.{CardSide}
use Rattle.card_c.specs.declared.card_side.CardSide.TheVariants.{Standing, AtT1, Own, OwnAtT1}
use Rattle.card_c.specs.BufferCalls.{CardReceives, CardSends}
use Rattle.card_c.specs.CardApduCalls.{RespondsTo}
use Rattle.card_c.specs.CardCalls.{Resets, TakesOne, Turns}
use Rattle.card_c.specs.CardT1Calls.{at_t0}
use Rattle.card_c.specs.CardTpduCalls.{CarriesOut}
use Rattle.card_c.specs.OwnCalls.{OwnCard, OwnHandsOut, OwnHandsOutOne, OwnReceives, OwnResets, OwnSends, OwnTakes, OwnTurns, own_card}
use Rattle.card_c.specs.OwnT1.{own_at_t0}
use Rattle.card_c.specs.OwnWhole.{OwnCommand, OwnTpdu}

-- it is not a card of data objects at T=0
abbrev pub IsOther : CardSide → Type 0
IsOther side = (end : EndOf CardView) (plans : Cursor) → side ≡ Standing end plans → ⊥

pub other_takes : (byte : ℕ) (side : CardSide) (code : ℤ) (new : CardSide) → IsOther side
    → OwnTakes byte side code new → TakesOne byte side code new
other_takes byte (Standing end plans) code new other is = absurd (other end plans refl)
other_takes byte side code new other is = is

pub other_turns : (before byte : ℕ) (side : CardSide) (code : ℤ) (new : CardSide) → IsOther side
    → OwnTurns before byte side code new → Turns before byte side code new
other_turns before byte (Standing end plans) code new other is = absurd (other end plans refl)
other_turns before byte side code new other is = is

pub other_receives : (bytes : List ℕ) (before n : ℕ) (side : CardSide) (code : ℤ)
    (new : CardSide) → IsOther side → OwnReceives bytes before n side code new
    → CardReceives bytes before n side code new
other_receives bytes before n (Standing end plans) code new other is =
    absurd (other end plans refl)
other_receives bytes before n side code new other is = is

pub other_sends : (room : List ℕ) (n : ℕ) (room' : List ℕ) (n' : ℕ) (side : CardSide) (code : ℤ)
    (new : CardSide) → IsOther side → OwnSends room n room' n' side code new
    → CardSends room n room' n' side code new
other_sends room n room' n' (Standing end plans) code new other is = absurd (other end plans refl)
other_sends room n room' n' side code new other is = is

pub other_resets : (side : CardSide) (code : ℤ) (new : CardSide) → at_t0 side ≡ side
    → IsOther side → OwnResets side code new → Resets side code new
other_resets (Standing end plans) code new same other is = absurd (other end plans refl)
other_resets (AtT1 at) code new same other is =
    let never : Standing at.end.card at.plans ≡ AtT1 at = same in absurd (cc)
other_resets (OwnAtT1 at) code new same other is =
    let never : Own (own_at_t0 at) ≡ OwnAtT1 at = same in absurd (cc)
other_resets side code new same other is = is

pub other_responds : (apdu room : List ℕ) (len : ℕ) (room' : List ℕ) (len' : ℕ) (side : CardSide)
    (code : ℤ) (new : CardSide) → IsOther side → OwnCommand apdu room len room' len' side code new
    → RespondsTo apdu room len room' len' side code new
other_responds apdu room len room' len' (Standing end plans) code new other is =
    absurd (other end plans refl)
other_responds apdu room len room' len' side code new other is = is

pub other_carries : (tpdu room : List ℕ) (len : ℕ) (room' : List ℕ) (len' : ℕ) (side : CardSide)
    (code : ℤ) (new : CardSide) → IsOther side → OwnTpdu tpdu room len room' len' side code new
    → CarriesOut tpdu room len room' len' side code new
other_carries tpdu room len room' len' (Standing end plans) code new other is =
    absurd (other end plans refl)
other_carries tpdu room len room' len' side code new other is = is

pub empty_is : (o : Option CardSide) → is_some o ≡ false → o ≡ None
empty_is None none = refl
empty_is (Some side) none = absurd (cc)

-- a data character takes no plan
pub own_handed : (plans : Cursor) (s t : EndOf OwnCard) (b : ℕ) → IsHandedOut own_card s b t
    → OwnHandsOut s plans b t plans
own_handed plans s t b is = (
  is.silent,
  rw is.begun refl,
  is.led,
  λ first came taken led last. rw is.begun
      (is.led_under first came taken (plan_kept plans) led (last is.begun)),
)

pub own_driven : (plans : Cursor) (s t : EndOf OwnCard) (b : ℕ) → IsHandedOut own_card s b t
    → OwnHandsOutOne (s, plans) b (t, plans)
own_driven plans s t b is = (inr is, own_handed plans s t b is)

-- what leads to an end leads to another that stands alike
pub same_end : (old new : EndOf OwnCard) → own_card.standing new.card ≡ own_card.standing old.card
    → own_card.prepared new.card ≡ own_card.prepared old.card → new.stage ≡ old.stage
    → (L : CardState GivenState → Prepared (CardState GivenState) → Stage → Type 0)
    → L (own_card.standing old.card) (own_card.prepared old.card) old.stage
    → L (own_card.standing new.card) (own_card.prepared new.card) new.stage
same_end old new stands prepared stage L led =
    subst (λ s. L s (own_card.prepared new.card) new.stage) (sym stands)
    (subst (λ p. L (own_card.standing old.card) p new.stage) (sym prepared)
    (subst (λ t. L (own_card.standing old.card) (own_card.prepared old.card) t) (sym stage) led))
