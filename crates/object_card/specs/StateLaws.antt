-- A card's state stays sound, whatever the terminal sends.
use Rattle.std.proofs.Common.{◌≡◌, ◌<◌, ℕ, ◌+◌, ◌/◌, ◌%◌, ◌≤◌, List, [], ◌∷◌, ◌++◌, length, drop, Option, Some, None, Bool, true, false, ◌⊎◌, inl, inr, refl, sym, ap, arith, subst, ◌∙◌, length-append, length-drop}
use Rattle.std.specs.Prelude.{is_some, is_none, IsSome, if◌then◌else◌, IfSome, ◌&&◌, ◌||◌, nat_lt, option_and_then, unwrap_or}
use Rattle.std.specs.Option.{option_map}
use Rattle.std.specs.List.{AllByRecursion}
use Rattle.std.proofs.lemmas.Bool.{ltb-false}
use Rattle.apdu_core.specs.declared.header.Header.{Header}
use Rattle.apdu_core.specs.StatusWord.{StatusWord, ok, count}
use Rattle.t0_core.specs.Meaning.{Tpdu}
use Rattle.tlv_core.specs.Address.{IsAddressable, NamesTag}
use Rattle.tlv_core.specs.Length.{shortest}
use Rattle.tlv_core.specs.Spelling.{object_bytes}
use Rattle.object_card.specs.declared.limits.TheConstants.{VALUE_LIMIT, ENTRY_LIMIT, HEAD_LIMIT}
use Rattle.object_card.specs.Tables.{Entry, IsEntry, AreApplications, IsValueOf, value_under, entries_in, with_object, is_locked}
use Rattle.object_card.specs.State.{CardState, IsCardState, Pending, NothingPending, ChainPending, ResponsePending, IsPending, chained, waiting, pending_of, selected_entries, with_pending}
use Rattle.apdu_core.specs.Shared.{Reply}
use Rattle.object_card.specs.OneStep.{Put, Answers, PutStatus, stored, control_information}
use Rattle.object_card.specs.Refusals.{Reason, OtherThanItsChain, UnknownClass, UnknownInstruction, NotChained, WrongParameters, NoApplicationSelected, NoResponsePending, LockedEntry, NoSuchObject, ValueTooLong, NoIdentifier, MoreThanIsLeft, in_order, holds, first_of_them, status_for, refusal, is_get, is_put, to_send, object_asked, named_tag, is_get_response}
use Rattle.object_card.specs.CardMeaning.{Does, refuses, selects_application, misses_application, sends, chains, puts_value, after_refusal}
use Rattle.object_card.specs.TableLaws.{applications_stay_sound, found_is_sound, value_is_sound, held_stays}
use Rattle.object_card.specs.CardLaws.{put_leaves}
use Rattle.object_card.specs.TableLaws.{applications_stay_sound, found_is_sound, value_is_sound, held_stays}
use Rattle.object_card.specs.CardLaws.{put_leaves}
use Rattle.object_card.specs.RefusalLaws.{after_refusal_holds}

-- what holds if a value is stored
pub stored_why : (entries : List Entry) (tag value : List ℕ) → PutStatus entries tag value ok
    → (is_locked tag entries ≡ false) × (length value ≤ VALUE_LIMIT) × IsValueOf tag value
    × ((is_some (value_under tag entries) ≡ true) ⊎ (length entries < ENTRY_LIMIT))
stored_why entries tag value (stored free fits value_of room) = (free, fits, value_of, room)

-- if there is no status, none of these reasons holds
pub none_of_them : (state : CardState) (h : Header) (p3 : ℕ) (rs : List Reason)
    → first_of_them state h p3 rs ≡ None
    → AllByRecursion (λ r. holds state h p3 r ≡ false) rs
none_of_them state h p3 [] none = tt
none_of_them state h p3 (r ∷ rs) none =
    split (holds state h p3 r) refl (λ n. none_of_them state h p3 rs n)
  where
    split : (v : Bool) → holds state h p3 r ≡ v
        → (first_of_them state h p3 rs ≡ None → AllByRecursion (λ r. holds state h p3 r ≡ false) rs)
        → AllByRecursion (λ r. holds state h p3 r ≡ false) (r ∷ rs)
    split true s more =
        let no : Some (status_for state h r) ≡ None =
        subst (λ b. (if b then Some (status_for state h r) else first_of_them state h p3 rs)
        ≡ None) s none in
        absurd (cc)
    split false s more = (
      s,
      more (subst (λ b.
          (if b then Some (status_for state h r) else first_of_them state h p3 rs) ≡ None) s none),
    )

-- No reason holds if a header is not refused.
pub none_holds : (state : CardState) (h : Header) (p3 : ℕ) (r : Reason) → refusal state h p3 ≡ None
    → holds state h p3 r ≡ false
none_holds state h p3 r none = each r (none_of_them state h p3 in_order none)
  where
    each : (r : Reason) → AllByRecursion (λ r. holds state h p3 r ≡ false) in_order
        → holds state h p3 r ≡ false
    each OtherThanItsChain all = all.0
    each UnknownClass all = all.1.0
    each UnknownInstruction all = all.1.1.0
    each NotChained all = all.1.1.1.0
    each WrongParameters all = all.1.1.1.1.0
    each NoApplicationSelected all = all.1.1.1.1.1.0
    each NoResponsePending all = all.1.1.1.1.1.1.0
    each LockedEntry all = all.1.1.1.1.1.1.1.0
    each NoSuchObject all = all.1.1.1.1.1.1.1.1.0
    each ValueTooLong all = all.1.1.1.1.1.1.1.1.1.0
    each NoIdentifier all = all.1.1.1.1.1.1.1.1.1.1.0
    each MoreThanIsLeft all = all.1.1.1.1.1.1.1.1.1.1.1.0

-- a PUT DATA that is not refused keeps to the limit
pub keeps_to_limit : (state : CardState) (h : Header) (p3 : ℕ) → refusal state h p3 ≡ None
    → is_put h ≡ true → length (chained state.pending) + p3 ≤ VALUE_LIMIT
keeps_to_limit state h p3 none put =
    let past = none_holds state h p3 ValueTooLong none in
    ltb-false VALUE_LIMIT (length (chained state.pending) + p3)
    (subst (λ b. (b && nat_lt VALUE_LIMIT (length (chained state.pending) + p3)) ≡ false) put
    past)

selected_where : (state : CardState) → is_none (selected_entries state) ≡ false
    → IsSome state.selected
selected_where state some = split state.selected refl
  where
    split : (v : Option (List ℕ)) → state.selected ≡ v → IsSome v
    split None e = let no : true ≡ false =
        subst (λ v. is_none (option_and_then (λ aid. entries_in aid state.applications) v) ≡ false)
        e some in absurd (cc)
    split (Some aid) e = refl

-- and an application is selected
pub put_is_selected : (state : CardState) (h : Header) (p3 : ℕ) → refusal state h p3 ≡ None
    → is_put h ≡ true → IsSome state.selected
put_is_selected state h p3 none put = selected_where state (
    shed (is_get h) (subst (λ b. ((is_get h || b) && is_none (selected_entries state)) ≡ false) put
    (none_holds state h p3 NoApplicationSelected none))
    )
  where
    shed : (v : Bool) → ((v || true) && is_none (selected_entries state)) ≡ false
        → is_none (selected_entries state) ≡ false
    shed true e = e
    shed false e = e

pending_after : (selected : Option (List ℕ)) (h : Header) (status : StatusWord) (pending : Pending)
    → IsPending selected pending
    → IsPending selected (after_refusal h status pending)
pending_after selected h status pending is =
    after_refusal_holds (IsPending selected) h status pending tt
    (λ left e. subst (IsPending selected) e is)

pending_rest : (selected : Option (List ℕ)) (left : List ℕ) → length left ≤ VALUE_LIMIT + HEAD_LIMIT
    → IsPending selected (pending_of left)
pending_rest selected [] short = tt
pending_rest selected (b ∷ left) short = (λ e. cc, short)

-- the shortest length of a value has at most three bytes
short_length : (n : ℕ) → length (shortest n) ≤ 3
short_length n = split (nat_lt n 0x80) (nat_lt n 0x100)
  where
    split : (v w : Bool)
        → length (if v then n ∷ [] else if w then 0x81 ∷ n ∷ [] else 0x82 ∷ n / 256 ∷ n % 256 ∷ [])
        ≤ 3
    split true w = omega arith
    split false true = omega arith
    split false false = omega arith

-- an object is its value and its head
object_length : (tag value : List ℕ)
    → length (object_bytes tag value) ≤ length tag + 3 + length value
object_length tag value =
    omega (
      arith,
      short_length (length value),
      length-append (tag ++ shortest (length value)) value,
      length-append tag (shortest (length value)),
    )

-- a tag that can be addressed has at most two bytes
address_length : (tag : List ℕ) (p1 p2 : ℕ) → NamesTag tag p1 p2 → length tag ≤ 2
address_length [] p1 p2 h = absurd h
address_length (a ∷ []) p1 p2 h = omega arith
address_length (a ∷ b ∷ []) p1 p2 h = omega arith
address_length (a ∷ b ∷ c ∷ tag) p1 p2 h = absurd h

pub information_length : (aid : List ℕ) → length (control_information aid) ≤ length aid + 8
information_length aid =
    omega (
      arith,
      object_length (0x6F ∷ []) (object_bytes (0x84 ∷ []) aid),
      object_length (0x84 ∷ []) aid,
    )

-- an object that a GET DATA asks for is at most a value with its tag and length
object_in : (tag : List ℕ) (entries : List Entry) → AllByRecursion IsEntry entries
    → length (unwrap_or (option_map (object_bytes tag) (value_under tag entries)) []) ≤ VALUE_LIMIT
    + HEAD_LIMIT
object_in tag entries all = split (value_under tag entries) refl
  where
    split : (v : Option (List ℕ)) → value_under tag entries ≡ v
        → length (unwrap_or (option_map (object_bytes tag) v) []) ≤ VALUE_LIMIT + HEAD_LIMIT
    split None e = omega arith
    split (Some value) e =
        let is = value_is_sound tag value entries all e in
        omega (
          arith,
          object_length tag value,
          is.within,
          address_length tag is.addressable.0 is.addressable.1 is.addressable.2,
        )

object_asked_length : (state : CardState) (h : Header) → IsCardState state
    → length (unwrap_or (object_asked state h) []) ≤ VALUE_LIMIT + HEAD_LIMIT
object_asked_length state h is = tagged (named_tag h.p1 h.p2)
  where
    held : (tag aid : List ℕ) (v : Option (List Entry)) → entries_in aid state.applications ≡ v
        → length (unwrap_or (option_and_then
        (λ entries. option_map (object_bytes tag) (value_under tag entries)) v) [])
        ≤ VALUE_LIMIT + HEAD_LIMIT
    held tag aid None e = omega arith
    held tag aid (Some entries) e =
        object_in tag entries
        (found_is_sound aid entries state.applications is.are_applications.all_sound e).are_entries

    chosen : (tag : List ℕ) (v : Option (List ℕ))
        → length (unwrap_or (option_and_then
        (λ entries. option_map (object_bytes tag) (value_under tag entries))
        (option_and_then (λ aid. entries_in aid state.applications) v)) []) ≤ VALUE_LIMIT
        + HEAD_LIMIT
    chosen tag None = omega arith
    chosen tag (Some aid) = held tag aid (entries_in aid state.applications) refl

    tagged : (v : Option (List ℕ))
        → length (unwrap_or (option_and_then
        (λ t. option_and_then (λ entries. option_map (object_bytes t) (value_under t entries))
        (selected_entries state)) v) []) ≤ VALUE_LIMIT + HEAD_LIMIT
    tagged None = omega arith
    tagged (Some tag) = chosen tag state.selected

pub waiting_length : (selected : Option (List ℕ)) (pending : Pending) → IsPending selected pending
    → length (waiting pending) ≤ VALUE_LIMIT + HEAD_LIMIT
waiting_length selected NothingPending is = omega arith
waiting_length selected (ChainPending p1 p2 bytes) is = omega arith
waiting_length selected (ResponsePending left) is = is.1

-- the size of what is sent
pub to_send_length : (state : CardState) (h : Header) → IsCardState state
    → length (to_send state h) ≤ VALUE_LIMIT + HEAD_LIMIT
to_send_length state h is = split (is_get_response h)
  where
    split : (v : Bool) → length
        (if v then waiting state.pending else unwrap_or (object_asked state h) []) ≤ VALUE_LIMIT
        + HEAD_LIMIT
    split true = waiting_length state.selected state.pending is.is_pending
    split false = object_asked_length state h is

-- the identifier of an application in the tables has at most 16 bytes
held_is_aid : (state : CardState) (aid : List ℕ) → IsCardState state
    → is_some (entries_in aid state.applications) ≡ true → length aid ≤ 16
held_is_aid state aid is held = split (entries_in aid state.applications) refl
  where
    split : (v : Option (List Entry)) → entries_in aid state.applications ≡ v → length aid ≤ 16
    split None e = let no : false ≡ true = subst (λ v. is_some v ≡ true) e held in absurd (cc)
    split (Some entries) e =
        (found_is_sound aid entries state.applications is.are_applications.all_sound e).is_aid.1

pub control_information_is_pending : (state : CardState) (aid : List ℕ) → IsCardState state
    → is_some (entries_in aid state.applications) ≡ true
    → IsPending (Some aid) (ResponsePending (control_information aid))
control_information_is_pending state aid is held =
    (λ none. cc, omega (arith, information_length aid, held_is_aid state aid is held))

-- the selected application exists
abbrev pub IsSelectionHeld : CardState → Type 0
IsSelectionHeld state =
    IfSome state.selected (λ aid. is_some (entries_in aid state.applications) ≡ true)

pub put_stays_sound : (old new : CardState) (tag value : List ℕ) (reply : Reply)
    → Answers old (Put tag value) reply new → IsAddressable tag
    → IsCardState old → AreApplications new.applications × IsSelectionHeld new
put_stays_sound old new tag value reply h addressable is =
    elim (put_leaves old new tag value reply h) [
      | inl (other, e) ↦ subst (λ s. AreApplications s.applications × IsSelectionHeld s) (sym e)
          (is.are_applications, is.selected_is_held)
      | inr (aid, entries, fine, selected, found, status, e) ↦
          let (free, fits, value_of, room) = stored_why entries tag value status in
          let entry : IsEntry (record { tag = tag; value = value; locked = false }) =
          record { addressable = addressable; within = fits; value_of_kind = value_of } in
          subst (λ s. AreApplications s.applications × IsSelectionHeld s) (sym e) (
            applications_stay_sound aid tag value entries old.applications is.are_applications entry
                room found,
            subst (λ s. IfSome s
                (λ x. is_some (entries_in x (with_object aid tag value old.applications)) ≡ true))
                (sym selected)
                (held_stays aid aid tag value old.applications ∙ ap is_some found),
          )
    ]

sound_with : (state : CardState) (pending : Pending) → IsCardState state
    → IsPending state.selected pending → IsCardState (with_pending state pending)
sound_with state pending is fits = record {
  are_applications = is.are_applications;
  selected_is_held = is.selected_is_held;
  is_pending = fits;
}

-- A card's state stays sound.
pub stays_sound : (old new : CardState) (cut : ℕ) (tpdu : Tpdu) → Does old cut tpdu new
    → IsCardState old → IsCardState new
stays_sound old new cut tpdu (refuses h p3 status e) is =
    sound_with old _ is (pending_after old.selected h status old.pending is.is_pending)
stays_sound old new cut tpdu (selects_application h aid e ins held) is =
    record {
      are_applications = is.are_applications;
      selected_is_held = held;
      is_pending = control_information_is_pending old aid is held;
    }
stays_sound old new cut tpdu (misses_application h aid e ins none) is = sound_with old _ is tt
stays_sound old new cut tpdu (sends h p3 e ins) is =
    sound_with old _ is (pending_rest old.selected (drop (count p3) (to_send old h))
    (omega (arith, length-drop (count p3) (to_send old h), to_send_length old h is)))
stays_sound old new cut tpdu (chains h bytes e ins cla) is = sound_with old _ is (
  put_is_selected old h (length bytes) e ins,
  omega (
    arith,
    length-append (chained old.pending) bytes,
    keeps_to_limit old h (length bytes) e ins,
  ),
)
stays_sound old new cut tpdu (puts_value h bytes tag answer next e ins cla named put) is =
    let sound = put_stays_sound old next tag (chained old.pending ++ bytes) answer put
    (h.p1, h.p2, named) is in
    record { are_applications = sound.0; selected_is_held = sound.1; is_pending = tt }
