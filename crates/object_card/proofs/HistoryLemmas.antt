-- What a history shows, however it is cut, and the state of an end after it.
use Rattle.std.proofs.Common.{◌≡◌, ℕ, List, [], ◌∷◌, ◌++◌, ◌⊎◌, inl, inr, refl, sym, ap, subst, ◌∙◌}
use Rattle.apdu_core.specs.declared.header.Header.{Header}
use Rattle.apdu_core.specs.StatusWord.{StatusWord}
use Rattle.t0_core.specs.declared.direction.Direction.{Direction}
use Rattle.t0_core.specs.declared.direction.Direction.TheVariants.{ToCard, FromCard}
use Rattle.t0_core.specs.declared.plan.Step.{Step}
use Rattle.t0_core.specs.Dialogue.{Dialogue}
use Rattle.t0_core.specs.Meaning.{Tpdu, tpdu_of}
use Rattle.t0_core.specs.History.{Item, Whole, Cut_off, RunsOver, AreAlike, AreAlikeInTurn}
use Rattle.object_card.specs.State.{CardState, after_reset}
use Rattle.object_card.specs.CardMeaning.{Does}
use Rattle.object_card.specs.DataCard.{StandsFor}
use Rattle.object_card.specs.ShownPuts.{shown_puts, shown_after, shown_by}

-- a dialogue's TPDU, from its parts
abbrev tpdu_from : Header → ℕ → Direction → List Step → List ℕ → StatusWord → Tpdu
tpdu_from h p3 direction segments moved status = tpdu_of (record {
  body = record { header = h; p3 = p3; direction = direction; segments = segments; moved = moved };
  status = status;
})

-- A direction in which no data moved has no effect.
same_parts : (h k : Header) (p q : ℕ) (a b : Direction) (s t : List Step) (m n : List ℕ)
    (x y : StatusWord) → h ≡ k → p ≡ q → m ≡ n → x ≡ y → (a ≡ b) ⊎ (m ≡ [])
    → tpdu_from h p a s m x ≡ tpdu_from k q b t n y
same_parts h k p q ToCard ToCard s t m n x y e f g i way = rw (e, f, g, i) refl
same_parts h k p q FromCard FromCard s t m n x y e f g i way = rw (e, f, g, i) refl
same_parts h k p q ToCard FromCard s t m n x y e f g i (inl differ) = absurd (cc)
same_parts h k p q FromCard ToCard s t m n x y e f g i (inl differ) = absurd (cc)
same_parts h k p q ToCard FromCard s t m n x y e f g i (inr none) =
    let also : n ≡ [] = sym g ∙ none in rw (e, f, none, also, i) refl
same_parts h k p q FromCard ToCard s t m n x y e f g i (inr none) =
    let also : n ≡ [] = sym g ∙ none in rw (e, f, none, also, i) refl

same_tpdu : (d e : Dialogue) → AreAlike d e → tpdu_of d ≡ tpdu_of e
same_tpdu d e alike =
    same_parts d.body.header e.body.header d.body.p3 e.body.p3 d.body.direction e.body.direction
    d.body.segments e.body.segments d.body.moved e.body.moved d.status e.status
    alike.same_header alike.same_p3 alike.same_moved alike.same_status alike.same_direction

same_after : (before : List Tpdu) (items others : List Item) → AreAlikeInTurn items others
    → shown_after before items ≡ shown_after before others
same_after before [] [] alike = refl
same_after before (Whole d ∷ items) (Whole e ∷ others) (one, rest) =
    ap (λ t. shown_by before t ++ shown_after (t ∷ before) items) (same_tpdu d e one)
    ∙ ap (λ x. shown_by before (tpdu_of e) ++ x) (same_after (tpdu_of e ∷ before) items others rest)
same_after before (Cut_off p ∷ items) (Cut_off q ∷ others) (one, rest) =
    same_after [] items others rest
same_after _ _ _ alike = absurd alike

-- Items that are alike show the same puts.
pub same_shown : (items others : List Item) → AreAlikeInTurn items others
    → shown_puts items ≡ shown_puts others
same_shown items others alike = same_after [] items others alike

module _ {State : Type 0} (OwnDoes : State → ℕ → Tpdu → State → Type 0) (own_reset : State → State)
    (state_of : State → CardState) (stands : StandsFor OwnDoes own_reset state_of) where
  -- A run of a card's own meaning is one of the definition.
  pub runs_over_stand : (old new : State) (items : List Item)
      → RunsOver OwnDoes own_reset old items new
      → RunsOver Does after_reset (state_of old) items (state_of new)
  runs_over_stand old new [] runs = ap state_of runs
  runs_over_stand old new (Whole d ∷ items) (plan, mid, under, does, rest) = (
    plan,
    state_of mid,
    under,
    stands.steps old mid plan.cut (tpdu_of d) does,
    runs_over_stand mid new items rest,
  )
  runs_over_stand old new (Cut_off part ∷ items) (is_part, rest) = (
    is_part,
    subst (λ s. RunsOver Does after_reset s items (state_of new)) (stands.resets old)
        (runs_over_stand (own_reset old) new items rest),
  )
