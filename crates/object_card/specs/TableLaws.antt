-- What is unchanged if a value is put among entries, and entries among applications.
use Rattle.std.proofs.Common.{◌≡◌, ◌≢◌, ℕ, suc, ◌<◌, ◌≤◌, List, [], ◌∷◌, ◌++◌, length, map, Option, Some, None, Bool, true, false, ◌⊎◌, inl, inr, refl, sym, ap, arith, subst, ◌∙◌}
use Rattle.std.specs.Prelude.{is_some, if◌then◌else◌}
use Rattle.std.specs.List.{AllByRecursion}
use Rattle.std.specs.Cmp.Lexicographic.{same_text, other_text}
use Rattle.std.proofs.lemmas.List.{length-map}
use Rattle.object_card.specs.declared.limits.TheConstants.{ENTRY_LIMIT}
use Rattle.object_card.specs.Tables.{Entry, Application, IsEntry, IsApplication, AreApplications, AreDistinct, IsValueOf, same_bytes, value_under, with_value, entries_in, with_object}

abbrev pub tags : List Entry → List (List ℕ)
tags entries = map (λ entry. entry.tag) entries

abbrev pub aids : List Application → List (List ℕ)
aids applications = map (λ application. application.aid) applications

-- if the tag is present, the tags stay the same
pub tags_stay : (tag value : List ℕ) (entries : List Entry)
    → is_some (value_under tag entries) ≡ true → tags (with_value tag value entries) ≡ tags entries
tags_stay tag value [] held = absurd (cc)
tags_stay tag value (e ∷ entries) held =
    split (same_bytes tag e.tag) refl (λ h. tags_stay tag value entries h)
  where
    split : (v : Bool) → same_bytes tag e.tag ≡ v
        → (is_some (value_under tag entries) ≡ true
        → tags (with_value tag value entries) ≡ tags entries)
        → tags (with_value tag value (e ∷ entries)) ≡ tags (e ∷ entries)
    split true s more = rw s refl
    split false s more = rw s (ap (λ ts. e.tag ∷ ts)
        (more (subst (λ b. is_some (if b then Some e.value else value_under tag entries) ≡ true) s
        held)))

-- a new tag is appended
pub tag_goes_last : (tag value : List ℕ) (entries : List Entry) → value_under tag entries ≡ None
    → tags (with_value tag value entries) ≡ tags entries ++ tag ∷ []
tag_goes_last tag value [] none = refl
tag_goes_last tag value (e ∷ entries) none =
    split (same_bytes tag e.tag) refl (λ h. tag_goes_last tag value entries h)
  where
    split : (v : Bool) → same_bytes tag e.tag ≡ v
        → (value_under tag entries ≡ None
        → tags (with_value tag value entries) ≡ tags entries ++ tag ∷ [])
        → tags (with_value tag value (e ∷ entries)) ≡ tags (e ∷ entries) ++ tag ∷ []
    split true s more = let no : Some e.value ≡ None =
        subst (λ b. (if b then Some e.value else value_under tag entries) ≡ None) s none in
        absurd (cc)
    split false s more = rw s (ap (λ ts. e.tag ∷ ts)
        (more (subst (λ b. (if b then Some e.value else value_under tag entries) ≡ None) s none)))

-- an absent tag differs from all tags
pub tag_is_new : (tag : List ℕ) (entries : List Entry) → value_under tag entries ≡ None
    → AllByRecursion (λ t. t ≢ tag) (tags entries)
tag_is_new tag [] none = tt
tag_is_new tag (e ∷ entries) none =
    split (same_bytes tag e.tag) refl (λ h. tag_is_new tag entries h)
  where
    split : (v : Bool) → same_bytes tag e.tag ≡ v
        → (value_under tag entries ≡ None → AllByRecursion (λ t. t ≢ tag) (tags entries))
        → AllByRecursion (λ t. t ≢ tag) (tags (e ∷ entries))
    split true s more = let no : Some e.value ≡ None =
        subst (λ b. (if b then Some e.value else value_under tag entries) ≡ None) s none in
        absurd (cc)
    split false s more = (
      λ is. other_text tag e.tag (sym s) (sym is),
      more (subst (λ b. (if b then Some e.value else value_under tag entries) ≡ None) s none),
    )

all_with_last : (P : List ℕ → Type 0) (xs : List (List ℕ)) (y : List ℕ) → AllByRecursion P xs → P y
    → AllByRecursion P (xs ++ y ∷ [])
all_with_last P [] y all last = (last, tt)
all_with_last P (x ∷ xs) y all last = (all.0, all_with_last P xs y all.1 last)

-- the list with one more, which differs from all
pub distinct_with_last : (xs : List (List ℕ)) (y : List ℕ) → AreDistinct xs
    → AllByRecursion (λ x. x ≢ y) xs → AreDistinct (xs ++ y ∷ [])
distinct_with_last [] y distinct new = (tt, tt)
distinct_with_last (x ∷ xs) y distinct new =
    (all_with_last (λ z. x ≢ z) xs y distinct.0 new.0, distinct_with_last xs y distinct.1 new.1)

-- each entry is sound if the new one is
pub entries_stay_sound : (tag value : List ℕ) (entries : List Entry)
    → IsEntry (record { tag = tag; value = value; locked = false }) → AllByRecursion IsEntry entries
    → AllByRecursion IsEntry (with_value tag value entries)
entries_stay_sound tag value [] new all = (new, tt)
entries_stay_sound tag value (e ∷ entries) new all =
    split (same_bytes tag e.tag) refl (entries_stay_sound tag value entries new all.1)
  where
    split : (v : Bool) → same_bytes tag e.tag ≡ v
        → (AllByRecursion IsEntry (with_value tag value entries))
        → AllByRecursion IsEntry (with_value tag value (e ∷ entries))
    split true s more = rw s (
      record {
        addressable = all.0.addressable;
        within = new.within;
        value_of_kind = subst (λ t. IsValueOf t value) (same_text tag e.tag (sym s))
            new.value_of_kind;
      },
      all.1,
    )
    split false s more = rw s (all.0, more)

-- the tags with the new value are distinct
pub tags_with : (tag value : List ℕ) (entries : List Entry) → AreDistinct (tags entries)
    → AreDistinct (tags (with_value tag value entries))
tags_with tag value entries distinct = split (value_under tag entries) refl
  where
    split : (v : Option (List ℕ)) → value_under tag entries ≡ v
        → AreDistinct (tags (with_value tag value entries))
    split None none = subst AreDistinct (sym (tag_goes_last tag value entries none))
        (distinct_with_last (tags entries) tag distinct (tag_is_new tag entries none))
    split (Some held) is =
        subst AreDistinct (sym (tags_stay tag value entries (ap is_some is))) distinct

pub length_with_last : (xs : List (List ℕ)) (y : List ℕ) → length (xs ++ y ∷ []) ≡ suc (length xs)
length_with_last [] y = refl
length_with_last (x ∷ xs) y = ap suc (length_with_last xs y)

-- there is room for the new value
pub length_with : (tag value : List ℕ) (entries : List Entry) → length entries ≤ ENTRY_LIMIT
    → (is_some (value_under tag entries) ≡ true) ⊎ (length entries < ENTRY_LIMIT)
    → length (with_value tag value entries) ≤ ENTRY_LIMIT
length_with tag value entries fits room = split (value_under tag entries) refl
  where
    counted : length (tags (with_value tag value entries)) ≡ length (with_value tag value entries)
    counted = length-map (with_value tag value entries) (λ entry. entry.tag)

    before : length (tags entries) ≡ length entries
    before = length-map entries (λ entry. entry.tag)

    split : (v : Option (List ℕ)) → value_under tag entries ≡ v
        → length (with_value tag value entries) ≤ ENTRY_LIMIT
    split None none = elim room [
      | inl held ↦ let no : false ≡ true = sym (ap is_some none) ∙ held in absurd (cc)
      | inr short ↦ omega (
        arith,
        counted,
        before,
        short,
        ap length (tag_goes_last tag value entries none),
        length_with_last (tags entries) tag,
      )
    ]
    split (Some held) is =
        omega (
          arith,
          counted,
          before,
          fits,
          ap length (tags_stay tag value entries (ap is_some is)),
        )

-- an application stays sound
pub application_stays_sound : (a : Application) (tag value : List ℕ) → IsApplication a
    → IsEntry (record { tag = tag; value = value; locked = false })
    → (is_some (value_under tag a.entries) ≡ true) ⊎ (length a.entries < ENTRY_LIMIT)
    → IsApplication (record a { entries = with_value tag value a.entries })
application_stays_sound a tag value is new room = record {
  is_aid = is.is_aid;
  are_entries = entries_stay_sound tag value a.entries new is.are_entries;
  distinct_tags = tags_with tag value a.entries is.distinct_tags;
  no_more = length_with tag value a.entries is.no_more room;
}

-- the identifiers stay the same
pub aids_stay : (aid tag value : List ℕ) (applications : List Application)
    → aids (with_object aid tag value applications) ≡ aids applications
aids_stay aid tag value [] = refl
aids_stay aid tag value (a ∷ applications) =
    split (same_bytes aid a.aid) refl (aids_stay aid tag value applications)
  where
    split : (v : Bool) → same_bytes aid a.aid ≡ v
        → (aids (with_object aid tag value applications) ≡ aids applications)
        → aids (with_object aid tag value (a ∷ applications)) ≡ aids (a ∷ applications)
    split true s more = rw s refl
    split false s more = rw s (ap (λ xs. a.aid ∷ xs) more)

-- a value can be put among the entries: its tag is present, or there is room
abbrev pub HasRoom : List ℕ → List Entry → Type 0
HasRoom tag entries = (is_some (value_under tag entries) ≡ true) ⊎ (length entries < ENTRY_LIMIT)

-- each application is sound if a sound value is put into one
pub all_stay_sound : (aid tag value : List ℕ) (entries : List Entry)
    (applications : List Application)
    → IsEntry (record { tag = tag; value = value; locked = false }) → HasRoom tag entries
    → entries_in aid applications ≡ Some entries
    → AllByRecursion IsApplication applications
    → AllByRecursion IsApplication (with_object aid tag value applications)
all_stay_sound aid tag value entries [] new room found all = tt
all_stay_sound aid tag value entries (a ∷ applications) new room found all =
    split (same_bytes aid a.aid) refl
    (λ f. all_stay_sound aid tag value entries applications new room f all.1)
  where
    split : (v : Bool) → same_bytes aid a.aid ≡ v
        → (entries_in aid applications ≡ Some entries
        → AllByRecursion IsApplication (with_object aid tag value applications))
        → AllByRecursion IsApplication (with_object aid tag value (a ∷ applications))
    split true s more =
        let is : Some a.entries ≡ Some entries =
        subst (λ b. (if b then Some a.entries else entries_in aid applications) ≡ Some entries)
        s found in
        let e : entries ≡ a.entries = cc in
        let here : HasRoom tag a.entries = subst (λ es. HasRoom tag es) e room in
        rw s (application_stays_sound a tag value all.0 new here, all.1)
    split false s more =
        rw s (
          all.0,
          more (subst
              (λ b. (if b then Some a.entries else entries_in aid applications) ≡ Some entries)
              s found),
        )

-- the same identifiers are found
pub held_stays : (x aid tag value : List ℕ) (applications : List Application)
    → is_some (entries_in x (with_object aid tag value applications))
    ≡ is_some (entries_in x applications)
held_stays x aid tag value [] = refl
held_stays x aid tag value (a ∷ applications) =
    split (same_bytes aid a.aid) refl (held_stays x aid tag value applications)
  where
    seen : (v : Bool) → is_some
        (if v then Some (with_value tag value a.entries) else entries_in x applications)
        ≡ is_some (if v then Some a.entries else entries_in x applications)
    seen true = refl
    seen false = refl

    passed : (v : Bool) → is_some (entries_in x (with_object aid tag value applications))
        ≡ is_some (entries_in x applications)
        → is_some (if v then Some a.entries else entries_in x
        (with_object aid tag value applications))
        ≡ is_some (if v then Some a.entries else entries_in x applications)
    passed true more = refl
    passed false more = more

    split : (v : Bool) → same_bytes aid a.aid ≡ v
        → (is_some (entries_in x (with_object aid tag value applications))
        ≡ is_some (entries_in x applications))
        → is_some (entries_in x (with_object aid tag value (a ∷ applications)))
        ≡ is_some (entries_in x (a ∷ applications))
    split true s more = rw s (seen (same_bytes x a.aid))
    split false s more = rw s (passed (same_bytes x a.aid) more)

-- the applications are still ones that a card can hold
pub applications_stay_sound : (aid tag value : List ℕ) (entries : List Entry)
    (applications : List Application) → AreApplications applications
    → IsEntry (record { tag = tag; value = value; locked = false }) → HasRoom tag entries
    → entries_in aid applications ≡ Some entries
    → AreApplications (with_object aid tag value applications)
applications_stay_sound aid tag value entries applications are new room found = record {
  all_sound = all_stay_sound aid tag value entries applications new room found are.all_sound;
  distinct_aids = subst AreDistinct (sym (aids_stay aid tag value applications)) are.distinct_aids;
  no_more = omega (
    arith,
    are.no_more,
    ap length (aids_stay aid tag value applications),
    length-map applications (λ application. application.aid),
    length-map (with_object aid tag value applications) (λ application. application.aid),
  );
}

-- an application that is found is sound
pub found_is_sound : (aid : List ℕ) (entries : List Entry) (applications : List Application)
    → AllByRecursion IsApplication applications
    → entries_in aid applications ≡ Some entries
    → IsApplication (record { aid = aid; entries = entries })
found_is_sound aid entries [] all found = absurd (cc)
found_is_sound aid entries (a ∷ applications) all found =
    split (same_bytes aid a.aid) refl (λ h. found_is_sound aid entries applications all.1 h)
  where
    split : (v : Bool) → same_bytes aid a.aid ≡ v
        → (entries_in aid applications ≡ Some entries
        → IsApplication (record { aid = aid; entries = entries }))
        → IsApplication (record { aid = aid; entries = entries })
    split true s more =
        let is : Some a.entries ≡ Some entries =
        subst (λ b. (if b then Some a.entries else entries_in aid applications) ≡ Some entries)
        s found in
        let e : a.entries ≡ entries = cc in
        subst (λ x. IsApplication (record { aid = x; entries = entries }))
        (sym (same_text aid a.aid (sym s)))
        (subst (λ x. IsApplication (record { aid = a.aid; entries = x })) e all.0)
    split false s more = more
        (subst (λ b. (if b then Some a.entries else entries_in aid applications) ≡ Some entries) s
        found)

-- an entry that is found is sound
pub value_is_sound : (tag value : List ℕ) (entries : List Entry) → AllByRecursion IsEntry entries
    → value_under tag entries ≡ Some value
    → IsEntry (record { tag = tag; value = value; locked = false })
value_is_sound tag value [] all found = absurd (cc)
value_is_sound tag value (e ∷ entries) all found =
    split (same_bytes tag e.tag) refl (λ h. value_is_sound tag value entries all.1 h)
  where
    split : (v : Bool) → same_bytes tag e.tag ≡ v
        → (value_under tag entries ≡ Some value
        → IsEntry (record { tag = tag; value = value; locked = false }))
        → IsEntry (record { tag = tag; value = value; locked = false })
    split true s more =
        let is : Some e.value ≡ Some value =
        subst (λ b. (if b then Some e.value else value_under tag entries) ≡ Some value) s
        found in
        let same : e.value ≡ value = cc in
        let entry : IsEntry (record { tag = e.tag; value = e.value; locked = false }) =
        record {
          addressable = all.0.addressable;
          within = all.0.within;
          value_of_kind = all.0.value_of_kind;
        } in
        subst (λ x. IsEntry (record { tag = x; value = value; locked = false }))
        (sym (same_text tag e.tag (sym s)))
        (subst (λ x. IsEntry (record { tag = e.tag; value = x; locked = false })) same entry)
    split false s more = more
        (subst (λ b. (if b then Some e.value else value_under tag entries) ≡ Some value) s found)
