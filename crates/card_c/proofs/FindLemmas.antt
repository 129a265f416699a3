-- The tags of a path of numbers, put into an array one after another.
use Rattle.std.proofs.Common.{◌≡◌, ◌≢◌, ℕ, zero, suc, ◌+◌, ◌<◌, ◌≤◌, ◌==◌, true, false, List, [], ◌∷◌, ◌++◌, length, get_or, take, map, length-set, refl, sym, ap, subst, ◌∙◌, arith, ◌⊎◌, inl, inr, ℤ}
use Rattle.std.specs.Prelude.{All}
use Rattle.std.proofs.Math.ListN.{set}
use Rattle.std.proofs.lemmas.Bool.Decides.{eqb_tells}
use Rattle.std.proofs.lemmas.List.{take_all, take_more, take_more_set, map-append, length-map, nil_from_length}
use Rattle.std.proofs.lemmas.List.Elements.{All-append, All-cons, All-tail}
use Rattle.tlv_core.specs.TagForm.{IsTag}
use Rattle.tlv_core.specs.Spelling.{AreObjects, deepest}
use Rattle.tlv_core.specs.FirstFault.{IsFirstFault}
use Rattle.tlv_core.specs.PathLaws.{none_below}
use Rattle.tlv_core.specs.declared.fault.Reason.{Reason}
use Rattle.card_c.specs.declared.reader.ObjectRecord.{ObjectRecord}
use Rattle.card_c.specs.Codes.{gt_not_found, reason_code}
use Rattle.card_c.specs.TagNumbers.{tag_number, IsTagNumber, AreTagNumbers}
use Rattle.card_c.specs.Reading.{Finds, FindsOn}

-- The tags of the numbers before this place, at the front of the cells while they fit.
pub record Numbered (path : List ℕ) (at : ℕ) (cells : List (List ℕ)) : Type 0 where
  pub tags : List (List ℕ)
  pub numbered : AreTagNumbers (take at path) tags
  pub room : length cells ≡ deepest
  pub kept : at ≤ deepest → take at cells ≡ tags

no_tags : All IsTag []
no_tags k d low = absurd (omega arith)

one_tag : (tag : List ℕ) → IsTag tag → All IsTag (tag ∷ [])
one_tag tag is = All-cons IsTag tag [] is no_tags

pub numbered_none : (path : List ℕ) (cells : List (List ℕ)) → length cells ≡ deepest
    → Numbered path 0 cells
numbered_none path cells room =
    record { tags = []; numbered = (no_tags, refl); room = room; kept = λ few. refl }

one_more : (path : List ℕ) (at number : ℕ) (tags : List (List ℕ)) (tag : List ℕ) → at < length path
    → number ≡ get_or path at 0
    → IsTagNumber number tag → AreTagNumbers (take at path) tags
    → AreTagNumbers (take (at + 1) path) (tags ++ tag ∷ [])
one_more path at number tags tag low is (is_tag, e) (all, same) =
    let last : get_or path at 0 ≡ tag_number tag = sym is ∙ e in (
      All-append IsTag tags (tag ∷ []) all (one_tag tag is_tag),
      take_more path at 0 low ∙ ap (λ (x : ℕ). take at path ++ x ∷ []) last
          ∙ ap (λ (xs : List ℕ). xs ++ tag_number tag ∷ []) same
          ∙ sym (map-append tag_number tags (tag ∷ [])),
    )

pub numbered_in : (path : List ℕ) (at number : ℕ) (cells : List (List ℕ)) (tag : List ℕ) → at
    < length path → number ≡ get_or path at 0
    → IsTagNumber number tag → at < deepest → Numbered path at cells
    → Numbered path (at + 1) (set cells at tag)
numbered_in path at number cells tag low is numbers room h = record {
  tags = h.tags ++ tag ∷ [];
  numbered = one_more path at number h.tags tag low is numbers h.numbered;
  room = length-set cells at tag ∙ h.room;
  kept = λ few. take_more_set cells at tag (omega (arith, h.room))
      ∙ ap (λ (ts : List (List ℕ)). ts ++ tag ∷ []) (h.kept (omega arith));
}

pub numbered_past : (path : List ℕ) (at number : ℕ) (cells : List (List ℕ)) (tag : List ℕ) → at
    < length path → number ≡ get_or path at 0
    → IsTagNumber number tag → deepest ≤ at → Numbered path at cells → Numbered path (at + 1) cells
numbered_past path at number cells tag low is numbers full h = record {
  tags = h.tags ++ tag ∷ [];
  numbered = one_more path at number h.tags tag low is numbers h.numbered;
  room = h.room;
  kept = λ few. absurd (omega (arith, few, full));
}

-- at the end they are those of the whole path
pub numbered_all : (path : List ℕ) (at : ℕ) (cells : List (List ℕ)) → at ≡ length path
    → Numbered path at cells
    → (tags : List (List ℕ)) × AreTagNumbers path tags × (length cells ≡ deepest)
    × (length path ≤ deepest → take (length path) cells ≡ tags)
numbered_all path at cells e h =
    let whole : take at path ≡ path = take_all at path (omega arith) in (
      h.tags,
      subst (λ (ns : List ℕ). AreTagNumbers ns h.tags) whole h.numbered,
      h.room,
      λ few. subst (λ (n : ℕ). take n cells ≡ h.tags) e (h.kept (omega arith)),
    )

-- if one of them is the number of no tag, there are no tags with these numbers
none_there : (tags : List (List ℕ)) (at : ℕ) → at < length (map tag_number tags)
    → ((tag : List ℕ) → ¬ IsTagNumber (get_or (map tag_number tags) at 0) tag) → ¬ All IsTag tags
none_there [] at low none all = omega (arith, low)
none_there (tag ∷ tags) zero low none all = none tag (all 0 [] (omega arith), refl)
none_there (tag ∷ tags) (suc at) low none all =
    none_there tags at (omega (arith, low)) none (All-tail IsTag tag tags all)

pub no_numbers : (path : List ℕ) (at number : ℕ) → at < length path → number ≡ get_or path at 0
    → ((tag : List ℕ) → ¬ IsTagNumber number tag) → (tags : List (List ℕ))
    → ¬ AreTagNumbers path tags
no_numbers path at number low is none tags (all, e) =
    let P : List ℕ → Type 0 = λ ns. at < length ns in
    let Q : List ℕ → Type 0 = λ ns. (tag : List ℕ) → ¬ IsTagNumber (get_or ns at 0) tag in
    let R : ℕ → Type 0 = λ n. (tag : List ℕ) → ¬ IsTagNumber n tag in
    none_there tags at (subst P e low) (subst Q e (subst R is none)) all

-- What is found on the tags is found on the path of their numbers.
no_step : (path : List ℕ) → true ≡ (length path == 0) → path ≡ []
no_step path e = of (eqb_tells (length path) 0)
  where
    of : ((length path == 0) ≡ true) × (length path ≡ 0) ⊎ ((length path == 0) ≡ false)
        × (length path ≢ 0) → path ≡ []
    of (inl (same, is)) = nil_from_length path is
    of (inr (same, is)) = absurd (let clash : true ≡ false = e ∙ same in cc)

pub on_no_step : (bytes path : List ℕ) (object object' : ObjectRecord) (place place' : ℕ) (code : ℤ)
    → true ≡ (length path == 0)
    → FindsOn bytes [] object place code object' place'
    → Finds bytes path object place code object' place'
on_no_step bytes path object object' place place' code e h =
    let none : path ≡ [] = no_step path e in
    inr ([], subst (λ (ns : List ℕ). AreTagNumbers ns []) (sym none) (no_tags, refl), h)

-- the tags of the path are at the front of the cells, if they fit
abbrev pub HoldsTags : List ℕ → List (List ℕ) → Type 0
HoldsTags path cells = (tags : List (List ℕ)) × AreTagNumbers path tags × (length cells ≡ deepest)
    × (length path ≤ deepest → take (length path) cells ≡ tags)

pub on_steps : (bytes path : List ℕ) (cells : List (List ℕ)) (object object' : ObjectRecord)
    (place place' : ℕ) (code : ℤ) → HoldsTags path cells
    → length path ≤ deepest → FindsOn bytes (take (length path) cells) object place code object'
    place' → Finds bytes path object place code object' place'
on_steps bytes path cells object object' place place' code (tags, numbers, room, kept) few h =
    inr (
      tags,
      numbers,
      subst
          (λ (ts : List (List ℕ)). FindsOn bytes ts object place code object' place') (kept few) h,
    )

-- nothing is on a path that is too long
pub on_many_steps : (bytes path : List ℕ) (cells : List (List ℕ)) (object : ObjectRecord)
    (place place' : ℕ) (code : ℤ) → HoldsTags path cells
    → deepest < length path
    → ((reason : Reason) × IsFirstFault bytes 1 place' reason × (code ≡ reason_code reason))
    ⊎ (AreObjects bytes 1 × (code ≡ gt_not_found) × (place' ≡ place))
    → Finds bytes path object place code object place'
on_many_steps bytes path cells object place place' code (tags, numbers, room, kept) long
    (inl (reason, first, is)) =
    inr (tags, numbers, inl (reason, first, is, refl))
on_many_steps bytes path cells object place place' code (tags, numbers, room, kept) long
    (inr (objects, is, same)) =
    let many : deepest < length tags =
    omega (arith, long, ap length numbers.1, length-map tags tag_number) in
    inr (tags, numbers, inr (inl (objects, none_below bytes tags objects many, is, refl, same)))
