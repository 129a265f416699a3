-- The statuses of refused headers, and what holds if a header is not refused.
use Rattle.std.proofs.Common.{◌≡◌, ℕ, ◌+◌, ◌<◌, List, [], ◌∷◌, length, Option, Some, None, Bool, true, false, ◌⊎◌, inl, inr, refl, subst}
use Rattle.std.specs.Prelude.{if◌then◌else◌, ◌==◌, ◌&&◌, not, is_some, is_none, nat_lt}
use Rattle.std.proofs.lemmas.Bool.{ltb-true}
use Rattle.apdu_core.specs.declared.header.Header.{Header}
use Rattle.apdu_core.specs.StatusWord.{StatusWord}
use Rattle.apdu_core.specs.Chaining.{with_more}
use Rattle.object_card.specs.declared.limits.TheConstants.{VALUE_LIMIT}
use Rattle.object_card.specs.Tables.{Entry, is_locked}
use Rattle.object_card.specs.State.{CardState, Pending, NothingPending, ResponsePending, is_idle, chained, selected_entries}
use Rattle.object_card.specs.Refusals.{Reason, MoreThanIsLeft, in_order, holds, first_of_them, status_for, refusal, breaks_chain, named_tag, is_locked_among, is_get_response}
use Rattle.object_card.specs.CardMeaning.{after_refusal}
use Rattle.object_card.specs.CarryingOut.{put_header}

-- neither 9000, nor 61XX, nor 6581
pub record IsRefusing (status : StatusWord) : Type 0 where
  pub not_ok : (status.0 == 0x90) ≡ false
  pub not_more : (status.0 == 0x61) ≡ false
  pub not_memory : (status.0 == 0x65) ≡ false

each_is_refusing : (state : CardState) (h : Header) (r : Reason) → IsRefusing (status_for state h r)
each_is_refusing state h MoreThanIsLeft =
    record { not_ok = refl; not_more = refl; not_memory = refl }
each_is_refusing _ _ _ = record { not_ok = refl; not_more = refl; not_memory = refl }

first_is_refusing : (state : CardState) (h : Header) (p3 : ℕ) (rs : List Reason)
    (status : StatusWord) → first_of_them state h p3 rs ≡ Some status → IsRefusing status
first_is_refusing state h p3 [] status is = absurd (cc)
first_is_refusing state h p3 (r ∷ rs) status is =
    split (holds state h p3 r) refl (first_is_refusing state h p3 rs status)
  where
    split : (v : Bool) → holds state h p3 r ≡ v
        → (first_of_them state h p3 rs ≡ Some status → IsRefusing status) → IsRefusing status
    split true e more =
        let here : Some (status_for state h r) ≡ Some status =
        subst (λ b. (if b then Some (status_for state h r) else first_of_them state h p3 rs)
        ≡ Some status) e is in
        let same : status_for state h r ≡ status = cc in
        subst IsRefusing same (each_is_refusing state h r)
    split false e more =
        more (subst (λ b. (if b then Some (status_for state h r) else first_of_them state h p3 rs)
        ≡ Some status) e is)

-- A header is never refused with 9000, 61XX or 6581.
pub is_refusing : (state : CardState) (h : Header) (p3 : ℕ) (status : StatusWord)
    → refusal state h p3 ≡ Some status → IsRefusing status
is_refusing state h p3 status is = first_is_refusing state h p3 in_order status is

-- A property of no pending command, and of the response that was pending, holds after a refusal.
pub after_refusal_holds : (P : Pending → Type 0) (h : Header) (status : StatusWord)
    (pending : Pending) → P NothingPending
    → ((left : List ℕ) → pending ≡ ResponsePending left → P (ResponsePending left))
    → P (after_refusal h status pending)
after_refusal_holds P h status (ResponsePending left) nothing waits =
    kept (is_get_response h && (status.0 == 0x6C))
  where
    kept : (v : Bool) → P (if v then ResponsePending left else NothingPending)
    kept true = waits left refl
    kept false = nothing
after_refusal_holds _ _ _ _ nothing _ = nothing

-- No chain is pending after a refusal.
pub refusal_drops_chain : (h : Header) (status : StatusWord) (pending : Pending)
    → is_idle (after_refusal h status pending) ≡ true
refusal_drops_chain h status pending =
    after_refusal_holds (λ p. is_idle p ≡ true) h status pending refl (λ left e. refl)

-- the first of the reasons for which a PUT DATA may be refused
abbrev first_of_put : Bool → Bool → Bool → Bool → Bool → Option StatusWord
first_of_put broken unnamed unselected locked long =
    if broken then Some (0x68, 0x83) else if unnamed then Some (0x6A, 0x86) else if unselected
    then Some (0x69, 0x85)
    else if locked then Some (0x69, 0x82) else if long then Some (0x67, 0x00) else None

-- why a PUT DATA that continues what is pending, and names this tag, is refused
pub data IsPutRefusal (state : CardState) (tag : List ℕ) (p3 : ℕ) : StatusWord → Type 0 where
  none_is_selected : selected_entries state ≡ None → IsPutRefusal state tag p3 (0x69, 0x85)
  is_not_allowed : (entries : List Entry) → selected_entries state ≡ Some entries
      → is_locked tag entries ≡ true → IsPutRefusal state tag p3 (0x69, 0x82)
  is_too_long : (entries : List Entry) → selected_entries state ≡ Some entries
      → is_locked tag entries ≡ false
      → VALUE_LIMIT < length (chained state.pending) + p3 → IsPutRefusal state tag p3 (0x67, 0x00)

module _ (state : CardState) (tag : List ℕ) (p1 p2 p3 : ℕ) (is_named : named_tag p1 p2 ≡ Some tag)
  where
    abbrev too_long : Bool
    too_long = nat_lt VALUE_LIMIT (length (chained state.pending) + p3)

    reasons : (status : StatusWord) (es : Option (List Entry)) → selected_entries state ≡ es
        → first_of_put false false (is_none es) (is_locked_among (Some tag) es) too_long
        ≡ Some status
        → IsPutRefusal state tag p3 status
    reasons status None e is = let same : (0x69, 0x85) ≡ status = cc in
        subst (IsPutRefusal state tag p3) same (none_is_selected e)
    reasons status (Some entries) e is = locked (is_locked tag entries) too_long refl refl
      where
        locked : (v w : Bool) → is_locked tag entries ≡ v → too_long ≡ w
            → IsPutRefusal state tag p3 status
        locked true w l k =
            let here : Some (0x69, 0x82) ≡ Some status =
            subst (λ b. first_of_put false false false b too_long ≡ Some status) l is in
            let same : (0x69, 0x82) ≡ status = cc in
            subst (IsPutRefusal state tag p3) same (is_not_allowed entries e l)
        locked false true l k =
            let here : Some (0x67, 0x00) ≡ Some status =
            subst (λ b. first_of_put false false false false b ≡ Some status) k
            (subst (λ b. first_of_put false false false b too_long ≡ Some status) l is) in
            let same : (0x67, 0x00) ≡ status = cc in
            subst (IsPutRefusal state tag p3) same
            (is_too_long entries e l
            (ltb-true VALUE_LIMIT (length (chained state.pending) + p3) k))
        locked false false l k =
            let no : None ≡ Some status =
            subst (λ b. first_of_put false false false false b ≡ Some status) k
            (subst (λ b. first_of_put false false false b too_long ≡ Some status) l is) in
            absurd (cc)

    abbrev first_for : Header → Option StatusWord
    first_for h = first_of_put (breaks_chain state.pending h) (not (is_some (named_tag p1 p2)))
        (is_none (selected_entries state))
        (is_locked_among (named_tag p1 p2) (selected_entries state)) too_long

    reasons_for : (h : Header) (status : StatusWord) → breaks_chain state.pending h ≡ false
        → first_for h ≡ Some status → IsPutRefusal state tag p3 status
    reasons_for h status goes_on is =
        let joined : first_of_put false (not (is_some (named_tag p1 p2)))
        (is_none (selected_entries state))
        (is_locked_among (named_tag p1 p2) (selected_entries state)) too_long ≡ Some status =
        subst (λ b. first_of_put b (not (is_some (named_tag p1 p2)))
        (is_none (selected_entries state))
        (is_locked_among (named_tag p1 p2) (selected_entries state)) too_long ≡ Some status)
        goes_on is in
        reasons status (selected_entries state) refl
        (subst (λ t. first_of_put false (not (is_some t)) (is_none (selected_entries state))
        (is_locked_among t (selected_entries state)) too_long ≡ Some status) is_named joined)

    -- A PUT DATA that continues what is pending is refused for one of three reasons.
    pub put_is_refused : (h : Header) (status : StatusWord) → (h ≡ put_header p1 p2)
        ⊎ (h ≡ with_more (put_header p1 p2)) → breaks_chain state.pending h ≡ false
        → refusal state h p3 ≡ Some status → IsPutRefusal state tag p3 status
    put_is_refused h status which goes_on is =
        let Refused : Header → Type 0 = λ h. (breaks_chain state.pending h ≡ false)
        × (refusal state h p3 ≡ Some status) in
        elim which [
          | inl last ↦ let at : Refused (put_header p1 p2) = subst Refused last (goes_on, is) in
              reasons_for (put_header p1 p2) status at.0 at.1
          | inr more ↦ let at : Refused (with_more (put_header p1 p2)) =
              subst Refused more (goes_on, is) in
              reasons_for (with_more (put_header p1 p2)) status at.0 at.1
        ]
