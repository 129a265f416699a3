-- What no TPDU does, in any state.
use Rattle.std.proofs.Common.{◌≡◌, ℕ, List, [], ◌++◌, Some, inl, inr, refl, ap, arith}
use Rattle.apdu_core.specs.StatusWord.{StatusWord}
use Rattle.t0_core.specs.Meaning.{Tpdu}
use Rattle.object_card.specs.State.{CardState, chained}
use Rattle.apdu_core.specs.Shared.{Reply}
use Rattle.object_card.specs.OneStep.{Put, Answers}
use Rattle.object_card.specs.CardMeaning.{Does, selects_application, puts_value}
use Rattle.object_card.specs.Refusals.{refusal}
use Rattle.object_card.specs.StepLaws.{refused_step}
use Rattle.object_card.specs.CardLaws.{put_leaves}

-- a put keeps the selection
pub put_keeps_selection : (old new : CardState) (tag value : List ℕ) (reply : Reply)
    → Answers old (Put tag value) reply new → new.selected ≡ old.selected
put_keeps_selection old new tag value reply h = elim (put_leaves old new tag value reply h) [
  | inl w ↦ ap (λ s. s.selected) w.1
  | inr w ↦ ap (λ s. s.selected) w.6
]

-- A command that is followed by more of its chain changes no entry.
pub chaining_keeps_applications : (old new : CardState) (cut : ℕ) (tpdu : Tpdu)
    → Does old cut tpdu new → tpdu.header.cla ≡ 0x10
    → new.applications ≡ old.applications
chaining_keeps_applications old new cut tpdu
    (puts_value h bytes tag answer next is ins cla named put) more =
    absurd (omega (arith, cla, more))
chaining_keeps_applications _ _ _ _ _ _ = refl

-- A refused header moves no data, and has that status.
pub refused_moves_nothing : (old new : CardState) (cut : ℕ) (tpdu : Tpdu) (status : StatusWord)
    → Does old cut tpdu new
    → refusal old tpdu.header tpdu.p3 ≡ Some status → (tpdu.sent ≡ []) × (tpdu.received ≡ [])
    × (tpdu.status ≡ status)
refused_moves_nothing old new cut tpdu status does refused =
    let step = refused_step old new cut tpdu status does refused in
    (step.none_sent, step.none_received, step.status_is)

-- 6A82 keeps the selection.
pub not_found_keeps_selection : (old new : CardState) (cut : ℕ) (tpdu : Tpdu)
    → Does old cut tpdu new → tpdu.status ≡ (0x6A, 0x82)
    → new.selected ≡ old.selected
not_found_keeps_selection old new cut tpdu (selects_application h aid is ins held) not_found =
    let e : 0x61 ≡ 0x6A = ap (λ s. s.0) not_found in absurd (omega (arith, e))
not_found_keeps_selection old new cut tpdu (puts_value h bytes tag answer next is ins cla named put)
    not_found =
    put_keeps_selection old next tag (chained old.pending ++ bytes) answer put
not_found_keeps_selection _ _ _ _ _ _ = refl
