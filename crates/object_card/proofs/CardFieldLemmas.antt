-- A card's state, if its applications are in places.
use Rattle.std.proofs.Common.{◌≡◌, ◌≢◌, ◌∙◌, ℕ, zero, suc, ◌≤◌, List, [], ◌∷◌, ◌++◌, length, map, Option, Some, None, Bool, true, false, refl, sym, ap, subst, take, drop}
use Rattle.std.specs.Prelude.{slice_get, unwrap_or, option_map, option_and_then, IfNone, IsSome}
use Rattle.std.specs.List.{AllByRecursion}
use Rattle.std.specs.Cmp.Lexicographic.{same_text}
use Rattle.apdu_core.specs.declared.header.Header.{Header}
use Rattle.apdu_core.specs.Chaining.{ChainState, IsChain}
use Rattle.object_card.specs.Tables.{Application, Entry, IsEntry, AreDistinct, value_under, same_bytes, entries_in}
use Rattle.object_card.specs.State.{IsCardState, chained, selected_entries}
use Rattle.object_card.specs.declared.response.Response.{Response}
use Rattle.object_card.specs.declared.limits.TheConstants.{VALUE_LIMIT}
use Rattle.object_card.specs.CardFields.{ApplicationView, IsWhole, left_of, value_at, applications_of, aid_at, held_at, entries_at, state_of, pending_in}
use Rattle.object_card.proofs.SameTag.{itself}
use Rattle.object_card.specs.TableLaws.{aids, found_is_sound, value_is_sound}

all_at : (P : List ℕ → Type 0) (held : List ApplicationView) (i : ℕ) (a : ApplicationView)
    → AllByRecursion P (aids (applications_of held)) → slice_get held i ≡ Some a → P a.aid
all_at P [] i a all is = absurd (cc)
all_at P (h ∷ held) zero a all is = let e : h ≡ a = cc in subst (λ x. P x.aid) e all.0
all_at P (h ∷ held) (suc i) a all is = all_at P held i a all.1 is

other_than : (x y : List ℕ) → y ≢ x → same_bytes x y ≡ false
other_than x y other = split (same_bytes x y) refl
  where
    split : (v : Bool) → same_bytes x y ≡ v → v ≡ false
    split true e = absurd (other (sym (same_text x y (sym e))))
    split false e = refl

-- an identifier further on differs
pub other_aid : (x : List ℕ) (held : List ApplicationView) (i : ℕ) (a : ApplicationView)
    → AllByRecursion (λ y. x ≢ y) (aids (applications_of held)) → slice_get held i ≡ Some a
    → same_bytes a.aid x ≡ false
other_aid x held i a all is = other_than a.aid x (all_at (λ y. x ≢ y) held i a all is)

-- the entries at an application's place are those under its identifier
pub entries-in : (held : List ApplicationView) (i : ℕ) (a : ApplicationView)
    → AreDistinct (aids (applications_of held)) → slice_get held i ≡ Some a
    → entries_in a.aid (applications_of held) ≡ Some a.entries
entries-in [] i a distinct is = absurd (cc)
entries-in (h ∷ held) zero a distinct is =
    let e : h ≡ a = cc in
    subst (λ x. entries_in x.aid (applications_of (h ∷ held)) ≡ Some x.entries) e
    (rw (itself h.aid) refl)
entries-in (h ∷ held) (suc i) a distinct is =
    rw (other_aid h.aid held i a distinct.0 is) (entries-in held i a distinct.1 is)

-- so are those at the selected place
pub entries-here : (held : List ApplicationView) (selected : Option ℕ) (a : ApplicationView)
    → AreDistinct (aids (applications_of held)) → held_at held selected ≡ Some a
    → entries_in a.aid (applications_of held) ≡ Some a.entries
entries-here held None a distinct is = absurd (cc)
entries-here held (Some i) a distinct is = entries-in held i a distinct is

pub selected-entries : (held : List ApplicationView) (selected : Option ℕ) (chain : ChainState)
    (response : Option Response) → IsCardState (state_of held selected chain response)
    → selected_entries (state_of held selected chain response)
    ≡ option_map (λ a. a.entries) (held_at held selected)
selected-entries held None chain response is = refl
selected-entries held (Some i) chain response is = split (slice_get held i) refl
  where
    split : (v : Option ApplicationView) → slice_get held i ≡ v
        → option_and_then (λ aid. entries_in aid (applications_of held)) (option_map (λ a. a.aid) v)
        ≡ option_map (λ a. a.entries) v
    split None e = refl
    split (Some a) e = entries-in held i a is.are_applications.distinct_aids e

-- the bytes of the pending chain are those in its buffer
pub chained-bytes : (entries : List Entry) (chain : ChainState) (response : Option Response)
    → IsChain chain → (IsSome response → chain.pending ≡ None)
    → chained (pending_in entries chain response) ≡ chain.bytes
chained-bytes entries chain None is alone = split chain.pending refl
  where
    split : (v : Option Header) → chain.pending ≡ v → chained (pending_in entries chain None)
        ≡ chain.bytes
    split None e = rw e (sym (subst (λ v. IfNone v (chain.bytes ≡ [])) e is.empty))
    split (Some h) e = rw e refl
chained-bytes entries chain (Some r) is alone =
    sym (subst (λ v. IfNone v (chain.bytes ≡ [])) (alone refl) is.empty)

-- the selected entries
pub selected-known : (held : List ApplicationView) (selected : Option ℕ) (chain : ChainState)
    (response : Option Response) (a : ApplicationView)
    → IsCardState (state_of held selected chain response) → held_at held selected ≡ Some a
    → selected_entries (state_of held selected chain response) ≡ Some a.entries
selected-known held selected chain response a is at_place =
    selected-entries held selected chain response is ∙ ap (option_map (λ a. a.entries)) at_place

-- they are sound
pub entries-sound : (held : List ApplicationView) (selected : Option ℕ) (chain : ChainState)
    (response : Option Response) (a : ApplicationView)
    → IsCardState (state_of held selected chain response) → held_at held selected ≡ Some a
    → AllByRecursion IsEntry a.entries
entries-sound held selected chain response a is at_place =
    (found_is_sound a.aid a.entries (applications_of held) is.are_applications.all_sound
    (entries-here held selected a is.are_applications.distinct_aids at_place)).are_entries

-- a value in the tables keeps to the limit
pub value-fits : (held : List ApplicationView) (selected : Option ℕ) (chain : ChainState)
    (response : Option Response) (a : ApplicationView) (tag value : List ℕ)
    → IsCardState (state_of held selected chain response) → held_at held selected ≡ Some a
    → value_under tag a.entries ≡ Some value → length value ≤ VALUE_LIMIT
value-fits held selected chain response a tag value is at_place found =
    (value_is_sound tag value a.entries (entries-sound held selected chain response a is at_place)
    found).within

pub entries-known : (held : List ApplicationView) (selected : Option ℕ) (a : ApplicationView)
    → held_at held selected ≡ Some a → entries_at held selected ≡ a.entries
entries-known held selected a at_place = ap (λ v. unwrap_or (option_map (λ a. a.entries) v) [])
    at_place

-- all of a response is left before its first byte
pub whole_left : (entries : List Entry) (r : Response) (front : List ℕ) (value : Option ℕ)
    → IsWhole r front value
    → left_of entries r ≡ front ++ value_at entries value
whole_left entries r front value w =
    ap (λ n. drop n (take r.len r.front ++ value_at entries r.value)) w.unsent
    ∙ ap (λ f. f ++ value_at entries r.value) w.front_is
    ∙ ap (λ v. front ++ value_at entries v) w.value_is

-- the identifiers, in order
pub aids-of : (held : List ApplicationView) → map (λ (a : Application). a.aid)
    (applications_of held) ≡ map (λ (a : ApplicationView). a.aid) held
aids-of [] = refl
aids-of (a ∷ held) = ap (λ others. a.aid ∷ others) (aids-of held)

-- the entries of the application at the place where its identifier is found
pub entries_found : (held : List ApplicationView) (place : ℕ) (a : ApplicationView) (aid : List ℕ)
    → AreDistinct (aids (applications_of held))
    → slice_get held place ≡ Some a → aid_at held (Some place) ≡ Some aid
    → entries_in aid (applications_of held) ≡ Some a.entries
entries_found held place a aid distinct is found =
    let named : Some a.aid ≡ Some aid = sym (ap (option_map (λ (x : ApplicationView). x.aid)) is)
    ∙ found in
    let same : a.aid ≡ aid = cc in
    let P : List ℕ → Type 0 = λ x. entries_in x (applications_of held) ≡ Some a.entries in
    subst P same (entries-in held place a distinct is)
