-- Why a value is not put, and how an application is found by its identifier.
use Rattle.std.proofs.Common.{◌≡◌, ◌≢◌, ◌∙◌, ℕ, zero, suc, ◌+◌, ◌<◌, ◌≤◌, List, [], ◌∷◌, length, drop, Option, Some, None, true, false, refl, sym, ap, subst, arith, add-one}
use Rattle.std.specs.Prelude.{slice_get, slice_set, option_map, is_some, IsNone, if◌then◌else◌}
use Rattle.apdu_core.specs.StatusWord.{StatusWord, ok}
use Rattle.object_card.specs.declared.limits.TheConstants.{VALUE_LIMIT, ENTRY_LIMIT}
use Rattle.object_card.specs.Tables.{Entry, IsValueOf, is_locked, value_under, entries_in, same_bytes}
use Rattle.object_card.specs.OneStep.{PutStatus, wrong_data, no_space}
use Rattle.object_card.specs.CardFields.{ApplicationView, applications_of}

pub none_not_some : {T : Type 0} (r : Option T) → IsNone r → is_some r ≡ true → ⊥
none_not_some None none some = absurd (cc)
none_not_some (Some x) none some = absurd (cc)

pub none_from : {T : Type 0} (r : Option T) → is_some r ≡ false → IsNone r
none_from None e = refl
none_from (Some x) e = absurd (cc)

pub none_is : {T : Type 0} (r : Option T) → is_some r ≡ false → r ≡ None
none_is None e = refl
none_is (Some x) e = absurd (cc)

pub is_some-option_map : {T U : Type 0} (f : T → U) (r : Option T) → is_some (option_map f r)
    ≡ is_some r
is_some-option_map f None = refl
is_some-option_map f (Some x) = refl

pub refuses_data : (entries : List Entry) (tag value : List ℕ) (status : StatusWord) → status
    ≡ (0x6A, 0x80) → is_locked tag entries ≡ false
    → length value ≤ VALUE_LIMIT → (IsValueOf tag value → ⊥) → (status ≢ ok)
    × PutStatus entries tag value status
refuses_data entries tag value status is free within unlike =
    let Refuses : StatusWord → Type 0 = λ s. (s ≢ ok) × PutStatus entries tag value s in
    subst Refuses (sym is) (
      λ e. (let n : 0x6A ≡ 0x90 = ap (λ s. s.0) e in omega (arith, n)),
      wrong_data free within unlike,
    )

pub refuses_space : (entries : List Entry) (tag value : List ℕ) (status : StatusWord) → status
    ≡ (0x6A, 0x84) → is_locked tag entries ≡ false
    → length value ≤ VALUE_LIMIT → IsValueOf tag value → value_under tag entries ≡ None
    → ENTRY_LIMIT ≤ length entries
    → (status ≢ ok) × PutStatus entries tag value status
refuses_space entries tag value status is free within kind new full =
    let Refuses : StatusWord → Type 0 = λ s. (s ≢ ok) × PutStatus entries tag value s in
    subst Refuses (sym is) (
      λ e. (let n : 0x6A ≡ 0x90 = ap (λ s. s.0) e in omega (arith, n)),
      no_space free within kind new full,
    )

-- the applications from a place on begin with the one at that place
pub drop-at : (held : List ApplicationView) (i : ℕ) (a : ApplicationView) → slice_get held i
    ≡ Some a → drop i held ≡ a ∷ drop (suc i) held
drop-at [] i a is = absurd (cc)
drop-at (h ∷ held) zero a is = let e : h ≡ a = cc in ap (λ x. x ∷ held) e
drop-at (h ∷ held) (suc i) a is = drop-at held i a is

pub passes_by : (aid : List ℕ) (held : List ApplicationView) (i : ℕ) (a : ApplicationView)
    → slice_get held i ≡ Some a → same_bytes aid a.aid ≡ false
    → entries_in aid (applications_of (drop i held))
    ≡ entries_in aid (applications_of (drop (i + 1) held))
passes_by aid held i a is same =
    ap (λ xs. entries_in aid (applications_of xs)) (drop-at held i a is)
    ∙ ap (λ b. if b then Some a.entries else entries_in aid (applications_of (drop (suc i) held)))
    same
    ∙ ap (λ n. entries_in aid (applications_of (drop n held))) (sym (add-one i))

pub none_left : (aid : List ℕ) (held : List ApplicationView) (i : ℕ) → length held ≤ i
    → entries_in aid (applications_of (drop i held)) ≡ None
none_left aid [] zero past = refl
none_left aid [] (suc i) past = refl
none_left aid (h ∷ held) zero past = absurd (omega (arith, past))
none_left aid (h ∷ held) (suc i) past = none_left aid held i (omega (arith, past))

pub slice_get-set : {X : Type 0} (xs : List X) (i : ℕ) (y : X) → i < length xs
    → slice_get (slice_set xs i y) i ≡ Some y
slice_get-set [] i y within = absurd (omega (arith, within))
slice_get-set (x ∷ xs) zero y within = refl
slice_get-set (x ∷ xs) (suc i) y within = slice_get-set xs i y (omega (arith, within))

pub some_same : {X : Type 0} (x y : X) → Some x ≡ Some y → x ≡ y
some_same x y e = cc
