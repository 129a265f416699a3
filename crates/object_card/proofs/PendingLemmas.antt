-- What is pending after a TPDU.
use Rattle.std.proofs.Common.{◌≡◌, ◌≢◌, ℕ, List, [], ◌∷◌, length, drop, Some, None, Bool, true, false, ◌⊎◌, inl, inr, refl, sym, subst, ◌∙◌}
use Rattle.std.specs.Prelude.{if◌then◌else◌, ◌&&◌, ◌==◌}
use Rattle.std.proofs.lemmas.Bool.{and_parts, eqb-true}
use Rattle.apdu_core.specs.declared.header.Header.{Header}
use Rattle.apdu_core.specs.StatusWord.{StatusWord, ok, count}
use Rattle.t0_core.specs.Meaning.{Tpdu}
use Rattle.object_card.specs.State.{CardState, Pending, NothingPending, ChainPending, ResponsePending, is_idle, pending_of}
use Rattle.object_card.specs.Refusals.{refusal, is_select, is_put, is_get_response, to_send}
use Rattle.object_card.specs.StepLaws.{select_step, select_refused, is_selected, is_missed, other_ins, is_sending}
use Rattle.object_card.specs.ResponseLaws.{rest_is_idle}
use Rattle.object_card.specs.RefusalLaws.{refusal_drops_chain}
use Rattle.object_card.specs.CardMeaning.{Does, refuses, selects_application, sends, chains, after_refusal, announcing}

-- Every status but 9000 drops a chain.
pub other_status_drops_chain : (old new : CardState) (cut : ℕ) (tpdu : Tpdu) → Does old cut tpdu new
    → tpdu.status ≢ ok → is_idle new.pending ≡ true
other_status_drops_chain old new cut tpdu (refuses h p3 status e) other =
    refusal_drops_chain h status old.pending
other_status_drops_chain old new cut tpdu (sends h p3 e ins) other =
    rest_is_idle (drop (count p3) (to_send old h))
other_status_drops_chain old new cut tpdu (chains h bytes e ins cla) other = absurd (other refl)
other_status_drops_chain _ _ _ _ _ _ = refl

-- A command that is not followed by more of its chain ends it.
pub last_ends_chain : (old new : CardState) (cut : ℕ) (tpdu : Tpdu) → Does old cut tpdu new
    → tpdu.header.cla ≢ 0x10 → is_idle new.pending ≡ true
last_ends_chain old new cut tpdu (refuses h p3 status e) last =
    refusal_drops_chain h status old.pending
last_ends_chain old new cut tpdu (sends h p3 e ins) last =
    rest_is_idle (drop (count p3) (to_send old h))
last_ends_chain old new cut tpdu (chains h bytes e ins cla) last = absurd (last cla)
last_ends_chain _ _ _ _ _ _ = refl

-- why a response may be pending after a TPDU
abbrev pub IsAnnounced : CardState → CardState → Tpdu → Type 0
IsAnnounced old new tpdu = (tpdu.status.0 ≡ 0x61)
    ⊎ ((tpdu.header.ins ≡ 0xC0) × (tpdu.status.0 ≡ 0x6C) × (new.pending ≡ old.pending))

refusal_keeps_response : (h : Header) (status : StatusWord) (pending : Pending) (left : List ℕ)
    → after_refusal h status pending ≡ ResponsePending left
    → (h.ins ≡ 0xC0) × (status.0 ≡ 0x6C) × (after_refusal h status pending ≡ pending)
refusal_keeps_response h status NothingPending left is = absurd (cc)
refusal_keeps_response h status (ChainPending p1 p2 bytes) left is = absurd (cc)
refusal_keeps_response h status (ResponsePending before) left is =
    kept (is_get_response h && (status.0 == 0x6C)) refl
  where
    kept : (v : Bool) → (is_get_response h && (status.0 == 0x6C)) ≡ v
        → (h.ins ≡ 0xC0) × (status.0 ≡ 0x6C)
        × (after_refusal h status (ResponsePending before) ≡ ResponsePending before)
    kept true e = let both = and_parts (h.ins == 0xC0) (status.0 == 0x6C) e in
        (eqb-true h.ins 0xC0 both.0, eqb-true status.0 0x6C both.1, rw e refl)
    kept false e = let no : NothingPending ≡ ResponsePending left =
        subst (λ v. (if v then ResponsePending before else NothingPending) ≡ ResponsePending left) e
        is in absurd (cc)

rest_is_announced : (left : List ℕ) (cut : ℕ) (response : List ℕ) → pending_of left
    ≡ ResponsePending response → (announcing left cut).0 ≡ 0x61
rest_is_announced [] cut response is = absurd (cc)
rest_is_announced (b ∷ left) cut response is = refl

-- A response is pending only after 61XX, or unchanged after 6CXX to a GET RESPONSE.
pub response_is_announced : (old new : CardState) (cut : ℕ) (tpdu : Tpdu) (left : List ℕ)
    → Does old cut tpdu new → new.pending ≡ ResponsePending left
    → IsAnnounced old new tpdu
response_is_announced old new cut tpdu left (refuses h p3 status e) is =
    inr (refusal_keeps_response h status old.pending left is)
response_is_announced old new cut tpdu left (selects_application h aid e ins held) is = inl refl
response_is_announced old new cut tpdu left (sends h p3 e ins) is =
    inl (rest_is_announced (drop (count p3) (to_send old h)) cut left is)
response_is_announced old new cut tpdu left _ is = absurd (cc)

-- All P3 bytes of a PUT DATA move, unless its header is refused.
pub all_of_a_put_moves : (old new : CardState) (cut : ℕ) (tpdu : Tpdu) → Does old cut tpdu new
    → refusal old tpdu.header tpdu.p3 ≡ None
    → is_put tpdu.header ≡ true → tpdu.p3 ≡ length tpdu.sent
all_of_a_put_moves old new cut tpdu (refuses h p3 status e) taken put = absurd (cc)
all_of_a_put_moves old new cut tpdu (sends h p3 e ins) taken put =
    absurd (other_ins is_sending h.ins 0xDA refl put ins)
all_of_a_put_moves _ _ _ _ _ _ _ = refl

-- All P3 bytes of a SELECT move, unless its header is refused.
pub all_of_a_select_moves : (old new : CardState) (cut : ℕ) (tpdu : Tpdu) → Does old cut tpdu new
    → refusal old tpdu.header tpdu.p3 ≡ None
    → is_select tpdu.header ≡ true → tpdu.p3 ≡ length tpdu.sent
all_of_a_select_moves old new cut tpdu does taken select =
    elim (select_step old new cut tpdu does select) [
      | select_refused refused none_sent none new_is ↦ let no : None ≡ Some tpdu.status =
          sym taken ∙ refused in absurd (cc)
      | is_selected e all found none status new_is ↦ all
      | is_missed e all missed none status new_is ↦ all
    ]
