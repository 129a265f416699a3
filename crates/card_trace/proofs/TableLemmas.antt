-- The lines of a table, written one entry after another, and one application after another.
use Rattle.std.proofs.Common.{◌≡◌, ◌≢◌, ℕ, List, [], ◌∷◌, ◌++◌, refl, sym, ap, ap₂, ◌∙◌, subst, Bool, true, false, Some, map, append-nil, append_assoc}
use Rattle.std.specs.Prelude.{codes}
use Rattle.std.specs.List.{AllByRecursion, flat_map}
use Rattle.std.proofs.lemmas.Slice.Eq.{bytes_eq-Decides}
use Rattle.hex.specs.Hex.{encode_upper}
use Rattle.object_card.specs.Tables.{Entry, Application, AreApplications, AreDistinct, IsApplication, same_bytes, is_locked, entries_in}
use Rattle.card_trace.specs.LineText.{newline}
use Rattle.card_trace.specs.TableText.{entry_line, application_text, table_text}
use Rattle.card_trace.specs.MarkedLines.{marked_lines}

same_self : (x : List ℕ) → same_bytes x x ≡ true
same_self x = (bytes_eq-Decides x x).1 refl

not_same : (x y : List ℕ) → x ≢ y → same_bytes y x ≡ false
not_same x y differ = split (same_bytes y x) refl
  where
    split : (v : Bool) → same_bytes y x ≡ v → same_bytes y x ≡ false
    split false e = e
    split true e = absurd (differ (sym ((bytes_eq-Decides y x).0 e)))

-- ---- the marks of entries with distinct tags

abbrev IsMarked : List Entry → Entry → Type 0
IsMarked all e = is_locked e.tag all ≡ e.locked

marked_after : (first : Entry) (all entries : List Entry)
    → AllByRecursion (λ tag. first.tag ≢ tag) (map (λ e. e.tag) entries)
    → AllByRecursion (IsMarked all) entries → AllByRecursion (IsMarked (first ∷ all)) entries
marked_after first all [] differ marked = tt
marked_after first all (e ∷ entries) differ marked = (
  rw (not_same first.tag e.tag differ.0) marked.0,
  marked_after first all entries differ.1
      marked.1,
)

marks_agree : (entries : List Entry) → AreDistinct (map (λ e. e.tag) entries)
    → AllByRecursion (IsMarked entries) entries
marks_agree [] distinct = tt
marks_agree (e ∷ entries) distinct = (
  rw (same_self e.tag) refl,
  marked_after e entries entries distinct.0
      (marks_agree entries distinct.1),
)

lines_agree : (all entries : List Entry) → AllByRecursion (IsMarked all) entries
    → marked_lines (Some all) (map (λ e. (e.tag, e.value)) entries) ≡ flat_map entry_line entries
lines_agree all [] marked = refl
lines_agree all (e ∷ entries) marked =
    ap₂ (λ a b. a ++ b) (ap (λ l. entry_line (record { tag = e.tag; value = e.value; locked = l }))
    marked.0) (lines_agree all entries marked.1)

-- ---- lookups among applications with distinct identifiers

pub record IsFound (all : List Application) (a : Application) : Type 0 where
  pub entries : entries_in a.aid all ≡ Some a.entries
  pub lines : marked_lines (Some a.entries) (map (λ e. (e.tag, e.value)) a.entries)
      ≡ flat_map entry_line a.entries

found_after : (first : Application) (all applications : List Application)
    → AllByRecursion (λ aid. first.aid ≢ aid) (map (λ a. a.aid) applications)
    → AllByRecursion (IsFound all) applications → AllByRecursion
    (IsFound (first ∷ all)) applications
found_after first all [] differ found = tt
found_after first all (a ∷ applications) differ found = (
  record {
    entries = rw (not_same first.aid a.aid differ.0) found.0.entries;
    lines =
        found.0.lines;
  },
  found_after first all applications differ.1 found.1,
)

all_found : (applications : List Application) → AllByRecursion IsApplication applications
    → AreDistinct (map (λ a. a.aid) applications)
    → AllByRecursion (IsFound applications) applications
all_found [] sound distinct = tt
all_found (a ∷ applications) sound distinct = (
  record {
    entries = rw (same_self a.aid) refl;
    lines = lines_agree a.entries a.entries
        (marks_agree a.entries sound.0.distinct_tags);
  },
  found_after a applications applications distinct.0 (all_found applications sound.1 distinct.1),
)

-- The written text, followed by the text of the applications that are left, is the whole text.
pub record Listed (all : List Application) (aids : List (List ℕ)) (text : List ℕ) : Type 0 where
  pub left : List Application
  pub aids_are : aids ≡ map (λ a. a.aid) left
  pub found : AllByRecursion (IsFound all) left
  pub continues : text ++ flat_map application_text left ≡ table_text all

pub listed_at_start : (all : List Application) (aids : List (List ℕ)) (text : List ℕ)
    → AreApplications all → aids ≡ map (λ a. a.aid) all → text ≡ [] → Listed all aids text
listed_at_start all aids text sound are none = record {
  left = all;
  aids_are = are;
  found = all_found all sound.all_sound sound.distinct_aids;
  continues = rw none refl;
}

-- the text of an application, in the form in which it was written
pub written_whole : (all : List Application) (a : Application) (old new : List ℕ) → IsFound all a
    → ((entries : List Entry) → entries_in a.aid all ≡ Some entries
    → new ≡ old ++ (codes "app " ++ encode_upper a.aid ++ newline
    ++ marked_lines (Some entries) (map (λ e. (e.tag, e.value)) entries)))
    → new ≡ old ++ application_text a
written_whole all a old new found written =
    written a.entries found.entries
    ∙ ap (λ x. old ++ (codes "app " ++ encode_upper a.aid ++ newline ++ x)) found.lines

pub listed_next : (all : List Application) (aid : List ℕ) (rest aids : List (List ℕ))
    (old new : List ℕ) → Listed all aids old → aids ≡ aid ∷ rest
    → ((entries : List Entry) → entries_in aid all ≡ Some entries
    → new ≡ old ++ (codes "app " ++ encode_upper aid ++ newline
    ++ marked_lines (Some entries) (map (λ e. (e.tag, e.value)) entries)))
    → Listed all rest new
listed_next all aid rest aids old new h is written =
    cases h.left (sym is ∙ h.aids_are) h.found h.continues
  where
    cases : (left : List Application) → aid ∷ rest ≡ map (λ a. a.aid) left
        → AllByRecursion (IsFound all) left
        → old ++ flat_map application_text left ≡ table_text all → Listed all rest new
    cases [] are found continues = absurd (cc)
    cases (a ∷ left) are found continues =
        let aid_is : aid ≡ a.aid = cc in
        let rest_is : rest ≡ map (λ a. a.aid) left = cc in
        let Written : List ℕ → Type 0 = λ x. (entries : List Entry) → entries_in x all
        ≡ Some entries
        → new ≡ old ++ (codes "app " ++ encode_upper x ++ newline
        ++ marked_lines (Some entries) (map (λ e. (e.tag, e.value)) entries)) in
        let whole = written_whole all a old new found.0 (subst Written aid_is written) in
        record {
          left = left;
          aids_are = rest_is;
          found = found.1;
          continues = ap (λ x. x ++ flat_map application_text left) whole
              ∙ append_assoc old (application_text a) (flat_map application_text left) ∙ continues;
        }

pub listed_all : (all : List Application) (aids : List (List ℕ)) (text : List ℕ)
    → Listed all aids text → aids ≡ [] → text ≡ table_text all
listed_all all aids text h none = cases h.left (sym none ∙ h.aids_are) h.continues
  where
    cases : (left : List Application) → [] ≡ map (λ a. a.aid) left → text
        ++ flat_map application_text left ≡ table_text all → text ≡ table_text all
    cases [] are continues = sym (append-nil text) ∙ continues
    cases (a ∷ left) are continues = absurd (cc)
