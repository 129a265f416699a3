-- A whole TPDU at a card, from the clauses of the call of its end.
use Rattle.std.proofs.Common.{◌≡◌, ℕ, ◌+◌, List, ◌∷◌, ◌++◌, length, drop, true, false, Option, Some, Result, Ok, Err, refl, sym, ◌∙◌, ap, subst, inl, inr}
use Rattle.std.specs.Prelude.{IsSome}
use Rattle.apdu_core.specs.StatusWord.{StatusWord}
use Rattle.t0_core.specs.declared.tpdu_card.TpduCard.{Ghosts}
use Rattle.t0_core.specs.declared.tpdu_fault.TpduFault.{TpduFault}
use Rattle.t0_core.specs.CardSide.{EndOf}
use Rattle.t0_core.specs.CardTpdu.{CarriesOut, HasGone, rests}
use Rattle.t0_core.specs.Plan.{Cursor, advanced}
use Rattle.t0_core.specs.Room.{Room}
use Rattle.t0_core.specs.TpduBytes.{Asked, asked_in}
use Rattle.card_c.specs.Codes.{gt_ok, tpdu_code}
use Rattle.card_c.specs.WholeCalls.{IsCarriedOut}

-- the characters that were sent of this TPDU
abbrev pub HasGoneOf : {C : Type 0} (card : Ghosts C) → List ℕ → EndOf C → Cursor → Room
    → Result StatusWord TpduFault → EndOf C → Cursor → Room → Type 0
HasGoneOf card tpdu old plans room result new plans' room' =
    (asked : Asked) × (asked_in tpdu ≡ Some asked)
    × HasGone card asked old plans room result new plans' room'

goes : {C : Type 0} (card : Ghosts C)
    (tpdu : List ℕ) (old : EndOf C) (plans : Cursor) (room : Room)
    (result : Result StatusWord TpduFault) (new : EndOf C) (plans' : Cursor) (room' : Room)
    → CarriesOut card tpdu old plans room result new plans' room'
    → rests old.stage ≡ true → IsSome (asked_in tpdu)
    → HasGoneOf card tpdu old plans room result new plans' room'
goes card tpdu old plans room result new plans' room' (inl under_way) rests some =
    let never : true ≡ false = sym rests ∙ under_way.0 in absurd (cc)
goes card tpdu old plans room result new plans' room' (inr (inl none)) rests some =
    let P : Option Asked → Type 0 = λ o. IsSome o in
    let never : false ≡ true = subst P none.1 some in absurd (cc)
goes card tpdu old plans room result new plans' room' (inr (inr gone)) rests some =
    (gone.1, gone.2, gone.3)

-- the same, and the queue without its first plan is where the cursor over it is
pub in_queue : {C : Type 0} (card : Ghosts C)
    (tpdu : List ℕ) (old : EndOf C) (cursor plans plans' kept : Cursor)
    (room : Room) (result : Result StatusWord TpduFault) (new : EndOf C) (room' : Room)
    → rests old.stage ≡ true → IsSome (asked_in tpdu) → cursor ≡ plans → kept ≡ advanced plans
    → CarriesOut card tpdu old cursor room result new plans' room'
    → HasGoneOf card tpdu old plans room result new kept room'
in_queue card tpdu old cursor plans plans' kept room result new room' at_rest some is kept_is
    carried =
    let P : Cursor → Type 0 = λ k. HasGoneOf card tpdu old k room result new plans' room' in
    let Q : Cursor → Type 0 = λ k. HasGoneOf card tpdu old plans room result new k room' in
    let gone = goes card tpdu old cursor room result new plans' room' carried at_rest some in
    let same : plans' ≡ kept = gone.2.0 ∙ ap advanced is ∙ sym kept_is in
    subst Q same (subst P is gone)

pub answered : {C : Type 0} (card : Ghosts C)
    (tpdu : List ℕ) (end : EndOf C) (plans : Cursor) (gather : Room)
    (room : List ℕ) (status : StatusWord) (end' : EndOf C) (plans' : Cursor)
    (gathered : Room) (room' : List ℕ) (len len' : ℕ) (bytes : List ℕ)
    → HasGoneOf card tpdu end plans gather (Ok status) end' plans' gathered
    → bytes ≡ gathered.bytes → len' ≡ length bytes + 2
    → room' ≡ bytes ++ status.0 ∷ status.1 ∷ drop (length bytes + 2) room
    → IsCarriedOut card tpdu end plans gather room len gt_ok end' plans' room' len'
answered card tpdu end plans gather room status end' plans' gathered room' len len' bytes gone is
    len_is room_is =
    let P : List ℕ → Type 0 =
    λ xs. room' ≡ xs ++ status.0 ∷ status.1 ∷ drop (length xs + 2) room in
    let Q : List ℕ → Type 0 = λ xs. len' ≡ length xs + 2 in
    (gone.0, gone.1, Ok status, gathered, gone.2, (refl, subst Q is len_is, subst P is room_is))

pub failed : {C : Type 0} (card : Ghosts C)
    (tpdu : List ℕ) (end : EndOf C) (plans : Cursor) (gather : Room)
    (room : List ℕ) (fault : TpduFault) (end' : EndOf C) (plans' : Cursor)
    (gathered : Room) (len : ℕ)
    → HasGoneOf card tpdu end plans gather (Err fault) end' plans' gathered
    → IsCarriedOut card tpdu end plans gather room len (tpdu_code fault) end' plans' room len
failed card tpdu end plans gather room fault end' plans' gathered len gone =
    (gone.0, gone.1, Err fault, gathered, gone.2, (refl, refl, refl))
