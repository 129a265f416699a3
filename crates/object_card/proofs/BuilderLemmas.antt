-- What a builder adds stays what a card can hold.
use Rattle.std.proofs.Common.{◌≡◌, ◌≢◌, ℕ, zero, suc, ◌-◌, ◌<◌, ◌≤◌, List, [], ◌∷◌, ◌++◌, length, Option, Some, None, Bool, true, false, refl, sym, ap, arith, subst, ◌∙◌, Result, Ok, Err}
use Rattle.std.specs.Prelude.{is_some, slice_get, slice_set, slice_index_or, option_map, OnOk, OnErr, IfErr, MatchOption, if◌then◌else◌}
use Rattle.std.specs.List.{AllByRecursion}
use Rattle.std.specs.Cmp.Lexicographic.{same_text, other_text}
use Rattle.std.proofs.lemmas.List.{length-map, map-append, map-set}
use Rattle.std.proofs.lemmas.Option.{slice_get-map, slice_get_read}
use Rattle.std.proofs.Math.Seq.{map-set_same}
use Rattle.tlv_core.specs.Address.{IsAddressable}
use Rattle.object_card.specs.declared.limits.TheConstants.{ENTRY_LIMIT}
use Rattle.object_card.specs.Tables.{Entry, Application, IsAid, IsEntry, IsApplication, AreApplications, AreDistinct, IsValueOf, same_bytes, with_value, with_entry, entries_in}
use Rattle.object_card.specs.CardFields.{ApplicationView, applications_of, aid_at}
use Rattle.object_card.specs.Builder.{last_added, with_application, with_last_entry, TakesApplication, TakesEntry, TakesObject}
use Rattle.object_card.proofs.CardFieldLemmas.{entries-in}
use Rattle.object_card.specs.TableLaws.{tags, aids, tags_with, length_with, distinct_with_last}

all_and_last : {T : Type 0} (P : T → Type 0) (xs : List T) (y : T) → AllByRecursion P xs → P y
    → AllByRecursion P (xs ++ y ∷ [])
all_and_last P [] y all last = (last, tt)
all_and_last P (x ∷ xs) y all last = (all.0, all_and_last P xs y all.1 last)

length_and_last : {T : Type 0} (xs : List T) (y : T) → length (xs ++ y ∷ []) ≡ suc (length xs)
length_and_last [] y = refl
length_and_last (x ∷ xs) y = ap suc (length_and_last xs y)

-- an identifier that is not found differs from all
aid_is_new : (aid : List ℕ) (applications : List Application) → entries_in aid applications ≡ None
    → AllByRecursion (λ x. x ≢ aid) (aids applications)
aid_is_new aid [] none = tt
aid_is_new aid (a ∷ applications) none = split (same_bytes aid a.aid) refl
    (λ h. aid_is_new aid applications h)
  where
    split : (v : Bool) → same_bytes aid a.aid ≡ v
        → (entries_in aid applications ≡ None → AllByRecursion (λ x. x ≢ aid) (aids applications))
        → AllByRecursion (λ x. x ≢ aid) (aids (a ∷ applications))
    split true s more = let no : Some a.entries ≡ None =
        subst (λ b. (if b then Some a.entries else entries_in aid applications) ≡ None) s none in
        absurd (cc)
    split false s more = (
      λ is. other_text aid a.aid (sym s) (sym is),
      more (subst (λ b. (if b then Some a.entries else entries_in aid applications) ≡ None) s none),
    )

-- one more application
pub application_added : (aid : List ℕ) (applications : List Application) → IsAid aid
    → TakesApplication aid applications
    → AreApplications applications → AreApplications (with_application aid applications)
application_added aid applications is takes are = record {
  all_sound = all_and_last IsApplication applications (record { aid = aid; entries = [] })
      are.all_sound
      (record { is_aid = is; are_entries = tt; distinct_tags = tt; no_more = omega arith });
  distinct_aids = subst AreDistinct
      (sym (map-append (λ a. a.aid) applications (record { aid = aid; entries = [] } ∷ [])))
      (distinct_with_last (aids applications) aid are.distinct_aids
      (aid_is_new aid applications takes.0));
  no_more = omega (
    arith,
    takes.1,
    length_and_last applications
        (record { aid = aid; entries = [] }),
  );
}

-- the lock does not affect the tags
same_tags : (tag value : List ℕ) (locked : Bool) (entries : List Entry)
    → tags (with_entry tag value locked entries) ≡ tags (with_value tag value entries)
same_tags tag value locked [] = refl
same_tags tag value locked (e ∷ entries) = split (same_bytes tag e.tag) refl
    (same_tags tag value locked entries)
  where
    split : (v : Bool) → same_bytes tag e.tag ≡ v → tags (with_entry tag value locked entries)
        ≡ tags (with_value tag value entries)
        → tags (with_entry tag value locked (e ∷ entries))
        ≡ tags (with_value tag value (e ∷ entries))
    split true s more = rw s refl
    split false s more = rw s (ap (λ ts. e.tag ∷ ts) more)

same_length : (tag value : List ℕ) (locked : Bool) (entries : List Entry)
    → length (with_entry tag value locked entries) ≡ length (with_value tag value entries)
same_length tag value locked entries =
    sym (length-map (with_entry tag value locked entries) (λ e. e.tag))
    ∙ ap length (same_tags tag value locked entries)
    ∙ length-map (with_value tag value entries) (λ e. e.tag)

entries_with_entry : (tag value : List ℕ) (locked : Bool) (entries : List Entry)
    → IsEntry (record { tag = tag; value = value; locked = locked })
    → AllByRecursion IsEntry entries → AllByRecursion IsEntry (with_entry tag value locked entries)
entries_with_entry tag value locked [] new all = (new, tt)
entries_with_entry tag value locked (e ∷ entries) new all =
    split (same_bytes tag e.tag) refl (entries_with_entry tag value locked entries new all.1)
  where
    split : (v : Bool) → same_bytes tag e.tag ≡ v
        → AllByRecursion IsEntry (with_entry tag value locked entries)
        → AllByRecursion IsEntry (with_entry tag value locked (e ∷ entries))
    split true s more = rw s (
      record {
        addressable = all.0.addressable;
        within = new.within;
        value_of_kind = subst (λ t. IsValueOf t value)
            (same_text tag e.tag (sym s)) new.value_of_kind;
      },
      all.1,
    )
    split false s more = rw s (all.0, more)

-- an application with one more entry, or with an entry replaced
entry_added : (a : Application) (tag value : List ℕ) (locked : Bool) → IsAddressable tag
    → TakesEntry tag value a.entries → IsApplication a
    → IsApplication (record a { entries = with_entry tag value locked a.entries })
entry_added a tag value locked addressable takes is = record {
  is_aid = is.is_aid;
  are_entries = entries_with_entry tag value locked a.entries
      (record { addressable = addressable; within = takes.0; value_of_kind = takes.1 })
      is.are_entries;
  distinct_tags = subst AreDistinct (sym (same_tags tag value locked a.entries))
      (tags_with tag value a.entries is.distinct_tags);
  no_more = subst (λ n. n ≤ ENTRY_LIMIT) (sym (same_length tag value locked a.entries))
      (length_with tag value a.entries is.no_more takes.2);
}

all_with_last_entry : (tag value : List ℕ) (locked : Bool) (applications : List Application)
    → IsAddressable tag → TakesObject tag value applications
    → AllByRecursion IsApplication applications → AllByRecursion IsApplication
    (with_last_entry tag value locked applications)
all_with_last_entry tag value locked [] addressable takes all = tt
all_with_last_entry tag value locked (a ∷ []) addressable takes all =
    (entry_added a tag value locked addressable takes all.0, tt)
all_with_last_entry tag value locked (a ∷ b ∷ applications) addressable takes all =
    (all.0, all_with_last_entry tag value locked (b ∷ applications) addressable takes all.1)

aids_with_last_entry : (tag value : List ℕ) (locked : Bool) (applications : List Application)
    → aids (with_last_entry tag value locked applications) ≡ aids applications
aids_with_last_entry tag value locked [] = refl
aids_with_last_entry tag value locked (a ∷ []) = refl
aids_with_last_entry tag value locked (a ∷ b ∷ applications) =
    ap (λ xs. a.aid ∷ xs) (aids_with_last_entry tag value locked (b ∷ applications))

-- one more entry, or one replaced, in the last application
pub object_added : (tag value : List ℕ) (locked : Bool) (applications : List Application)
    → IsAddressable tag → TakesObject tag value applications
    → AreApplications applications → AreApplications (with_last_entry tag value locked applications)
object_added tag value locked applications addressable takes are =
    let same = aids_with_last_entry tag value locked applications in
    record {
      all_sound = all_with_last_entry tag value locked applications addressable takes are.all_sound;
      distinct_aids = subst AreDistinct (sym same) are.distinct_aids;
      no_more = omega (
        arith,
        are.no_more,
        ap length same,
        length-map applications (λ a. a.aid),
        length-map (with_last_entry tag value locked applications) (λ a. a.aid),
      );
    }

-- the last application is the one at the last place
last_is : (applications : List Application) (i : ℕ) (a : Application) → suc i ≡ length applications
    → slice_get applications i ≡ Some a → last_added applications ≡ Some a
last_is (x ∷ []) zero a last is = is
last_is (x ∷ y ∷ applications) (suc i) a last is =
    last_is (y ∷ applications) i a (omega (arith, last)) is
last_is _ _ a last is = absurd (omega (arith, last))

last_set : (tag value : List ℕ) (locked : Bool) (applications : List Application) (i : ℕ)
    (a : Application) → suc i ≡ length applications → slice_get applications i ≡ Some a
    → slice_set applications i (record a { entries = with_entry tag value locked a.entries })
    ≡ with_last_entry tag value locked applications
last_set tag value locked (x ∷ []) zero a last is =
    let e : x ≡ a = cc in
    let With : Application → List Application =
    λ y. record y { entries = with_entry tag value locked y.entries } ∷ [] in
    ap With (sym e)
last_set tag value locked (x ∷ y ∷ applications) (suc i) a last is =
    ap (λ xs. x ∷ xs) (last_set tag value locked (y ∷ applications) i a (omega (arith, last)) is)
last_set tag value locked _ _ a last is = absurd (omega (arith, last))

-- an application in memory, as one of the definitions
abbrev pub application_in : ApplicationView → Application
application_in h = record { aid = h.aid; entries = h.entries }

module _ (held : List ApplicationView) (old : ApplicationView) (some : 0 < length held)
    (is : old ≡ slice_index_or held (length held - 1) old) where
  at_last : slice_get (applications_of held) (length held - 1) ≡ Some (application_in old)
  at_last = slice_get-map application_in held (length held - 1)
      ∙ ap (option_map application_in)
      (slice_get_read held (length held) (length held - 1) old refl (omega (arith, some)) is)

  last_place : suc (length held - 1) ≡ length (applications_of held)
  last_place = omega (arith, some, length-map held application_in)

  pub last_held : last_added (applications_of held) ≡ Some (application_in old)
  last_held = last_is (applications_of held) (length held - 1)
      (application_in old) last_place at_last

  pub last_replaced : (tag value : List ℕ) (locked : Bool) (new : ApplicationView) → new.aid
      ≡ old.aid → new.entries ≡ with_entry tag value locked old.entries
      → applications_of (slice_set held (length held - 1) new)
      ≡ with_last_entry tag value locked (applications_of held)
  last_replaced tag value locked new aid entries =
      map-set application_in held (length held - 1) new
      ∙ ap (λ x. slice_set (applications_of held) (length held - 1)
      (record { aid = x; entries = new.entries })) aid
      ∙ ap (λ es. slice_set (applications_of held) (length held - 1)
      (record { aid = old.aid; entries = es })) entries
      ∙ last_set tag value locked (applications_of held) (length held - 1)
      (application_in old) last_place at_last

  pub last_stays : (new : ApplicationView) → new.aid ≡ old.aid → new.entries ≡ old.entries
      → applications_of (slice_set held (length held - 1) new) ≡ applications_of held
  last_stays new aid entries = map-set_same application_in held (length held - 1) new old
      (ap (λ x. record { aid = x; entries = new.entries }) aid
      ∙ ap (λ es. record { aid = old.aid; entries = es }) entries ∙ ap application_in is)

-- what holds after a success
pub on_ok : {T E P Q : Type 0} (r : Result T E) → (P → Q) → OnOk r P → OnOk r Q
on_ok (Ok x) f p = f p
on_ok (Err e) f p = tt

pub on_err : {T E P Q : Type 0} (r : Result T E) → (P → Q) → OnErr r P → OnErr r Q
on_err (Ok x) f p = tt
on_err (Err e) f p = f p

pub if_err : {T E : Type 0} {P Q : E → Type 0} (r : Result T E) → ((e : E) → P e → Q e) → IfErr r P
    → IfErr r Q
if_err (Ok x) f p = tt
if_err (Err e) f p = f e p

-- the result of a search for an application
abbrev pub Finds : List ℕ → List ApplicationView → Option ℕ → Type 0
Finds aid held place = MatchOption place (entries_in aid (applications_of held) ≡ None)
    (λ place. (place < length held) × (aid_at held (Some place) ≡ Some aid))

pub finds_in : (aid bytes : List ℕ) (held slice : List ApplicationView) (place : Option ℕ) → bytes
    ≡ aid → slice ≡ held → Finds bytes slice place → Finds aid held place
finds_in aid bytes held slice place same_aid same_held finds =
    let At : List ℕ → Type 0 = λ x. Finds x held place in
    let In : List ApplicationView → Type 0 = λ x. Finds bytes x place in
    subst At same_aid (subst In same_held finds)

pub is_there : (aid : List ℕ) (held : List ApplicationView) (place : Option ℕ)
    → AreApplications (applications_of held) → Finds aid held place → is_some place ≡ true
    → is_some (entries_in aid (applications_of held)) ≡ true
is_there aid held None are finds some = absurd (cc)
is_there aid held (Some i) are finds some = at_place (slice_get held i) refl
  where
    at_place : (o : Option ApplicationView) → slice_get held i ≡ o
        → is_some (entries_in aid (applications_of held)) ≡ true
    at_place None e = let no : None ≡ Some aid = sym (ap (option_map (λ a. a.aid)) e) ∙ finds.1 in
        absurd (cc)
    at_place (Some a) e =
        let is : Some a.aid ≡ Some aid = sym (ap (option_map (λ a. a.aid)) e) ∙ finds.1 in
        let same : a.aid ≡ aid = cc in
        let IsThere : List ℕ → Type 0 = λ x. is_some (entries_in x (applications_of held)) ≡ true in
        subst IsThere same (ap is_some (entries-in held i a are.distinct_aids e))

pub is_not_there : (aid : List ℕ) (held : List ApplicationView) (place : Option ℕ)
    → Finds aid held place → is_some place ≡ false
    → entries_in aid (applications_of held) ≡ None
is_not_there aid held None finds none = finds
is_not_there aid held (Some i) finds none = absurd (cc)

-- one more application in memory
pub pushed : (held after : List ApplicationView) (new : ApplicationView) (aid : List ℕ)
    (done : Bool) → after ≡ (if done then held ++ new ∷ [] else held) → done ≡ true
    → new.aid ≡ aid → new.entries ≡ [] → applications_of after
    ≡ with_application aid (applications_of held)
pushed held after new aid done is yes_done aid_is none =
    ap applications_of (subst (λ b. after ≡ (if b then held ++ new ∷ [] else held)) yes_done is)
    ∙ map-append application_in held (new ∷ [])
    ∙ ap (λ x. applications_of held ++ record { aid = x; entries = new.entries } ∷ []) aid_is
    ∙ ap (λ es. applications_of held ++ record { aid = aid; entries = es } ∷ []) none

-- the applications after a data object was added, or refused
module _ {T E : Type 0} (tag value : List ℕ) (locked : Bool) (r : Result T E)
    (before after : List Application)
    (stored : OnOk r (TakesObject tag value before
    × (after ≡ with_last_entry tag value locked before))) where
  pub stays_sound : OnOk r (IsAddressable tag) → OnErr r (after ≡ before) → AreApplications before
      → AreApplications after
  stays_sound addressable same are = split r stored addressable same
    where
      split : (r : Result T E) → OnOk r (TakesObject tag value before
          × (after ≡ with_last_entry tag value locked before)) → OnOk r (IsAddressable tag)
          → OnErr r (after ≡ before) → AreApplications after
      split (Ok x) stored addressable same = subst AreApplications (sym stored.1)
          (object_added tag value locked before addressable stored.0 are)
      split (Err e) stored addressable same = subst AreApplications (sym same) are

  pub is_stored : (old new : List Application) → before ≡ old → new ≡ after
      → OnOk r (TakesObject tag value old × (new ≡ with_last_entry tag value locked old))
  is_stored old new was is = on_ok r (λ (takes, added). (
    subst (λ applications. TakesObject tag value applications) was takes,
    is ∙ added ∙ ap (with_last_entry tag value locked) was,
  )) stored
