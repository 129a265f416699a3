-- A reader that looks for a path inside open templates, and enters only those on the path.
use Rattle.std.proofs.Common.{◌≡◌, ◌≢◌, ℕ, suc, ◌+◌, ◌-◌, ◌<◌, ◌≤◌, List, [], ◌∷◌, ◌++◌, length, get_or, drop, refl, sym, ap, subst, arith, length-append, ◌∙◌, true, false}
use Rattle.std.proofs.lemmas.List.{take_all, drop_all, length-drop}
use Rattle.std.proofs.Math.Seq.{drop-cons}
use Rattle.tlv_core.specs.TagForm.{is_constructed}
use Rattle.tlv_core.specs.Object.{Object, IsObject}
use Rattle.tlv_core.specs.Spelling.{AreObjects, deepest}
use Rattle.tlv_core.specs.Path.{IsFirstPlaced, NoneLiesAt, StandsAt}
use Rattle.tlv_core.specs.Place.{StartsWith, StartsWithObject}
use Rattle.tlv_core.specs.SpellingLaws.{after_is_spelled, inside_is_spelled}
use Rattle.tlv_core.proofs.SpellingFacts.{objects_past_zero, spelled_starts, spelled_is_object}
use Rattle.tlv_core.proofs.PlaceFacts.{starts_length}
use Rattle.tlv_core.proofs.Found.{Seeks, seeks_one_zero, seeks_past_object, found_here, found_within, none_in_nil, lies_stands}
use Rattle.tlv_core.proofs.Cuts.{cut, cut_length, cut_empty, padding_first, object_first, cut_rest, cut_value}

-- The reader is at a place of a list. The first object on the path from there on is the first of
-- the bytes.
pub record IsIn (bytes : List ℕ) (path : List (List ℕ)) (place end depth : ℕ)
    (below : List (List ℕ)) : Type 0 where
  pub inside : place ≤ end
  pub within : end ≤ length bytes
  pub objects : AreObjects (cut bytes place end) depth
  pub first : (p : ℕ) (o : Object) → IsFirstPlaced (cut bytes place end) depth below p o
      → IsFirstPlaced bytes 1 path (place + p) o

-- If the rest of the innermost list contains no such object, the reader continues after its
-- template, in the list around it. If the outermost list ends so, no object is on the path.
abbrev pub Looks : List ℕ → List ℕ → List (List ℕ) → ℕ → ℕ → Type 0
Looks [] bytes path place end =
    IsIn bytes path place end 1 path
    × (NoneLiesAt (cut bytes place end) 1 path → NoneLiesAt bytes 1 path)
Looks (outer_end ∷ outer) bytes path place end =
    IsIn bytes path place end (suc (suc (length outer))) (drop (suc (length outer)) path)
    × (NoneLiesAt (cut bytes place end) (suc (suc (length outer))) (drop (suc (length outer)) path)
    → Looks outer bytes path end outer_end)

pub looks_in : (outer bytes : List ℕ) (path : List (List ℕ)) (place end : ℕ)
    → Looks outer bytes path place end
    → IsIn bytes path place end (suc (length outer)) (drop (length outer) path)
looks_in [] bytes path place end h = h.0
looks_in (e ∷ outer) bytes path place end h = h.0

goes_in : (bytes : List ℕ) (path : List (List ℕ)) (place end depth next by : ℕ)
    (below : List (List ℕ)) → next ≡ place + by → next ≤ end
    → Seeks (cut bytes place end) depth below by (cut bytes next end)
    → AreObjects (cut bytes next end) depth
    → IsIn bytes path place end depth below → IsIn bytes path next end depth below
goes_in bytes path place end depth next by below e low step objects h = record {
  inside = low;
  within = h.within;
  objects = objects;
  first = λ p o at.
      let there : place + (by + p) ≡ next + p = omega (arith, e) in
      subst (λ (n : ℕ). IsFirstPlaced bytes 1 path n o) there
      (h.first (by + p) o (step.first p o at));
}

goes_on : (outer bytes : List ℕ) (path : List (List ℕ)) (place end next by : ℕ) → next ≡ place
    + by → next ≤ end
    → Seeks (cut bytes place end) (suc (length outer))
    (drop (length outer) path) by (cut bytes next end)
    → AreObjects (cut bytes next end) (suc (length outer))
    → Looks outer bytes path place end → Looks outer bytes path next end
goes_on [] bytes path place end next by e low step objects (h, done) = (
  goes_in bytes path place end 1 next by path e low step objects h,
  λ none. done
      (step.none none),
)
goes_on (outer_end ∷ outer) bytes path place end next by e low step objects (h, done) = (
  goes_in bytes path place end (suc (suc (length outer))) next
      by (drop (suc (length outer)) path) e low step objects h,
  λ none. done (step.none none),
)

-- A reader at a place of a list, inside templates whose lists end at `outer`.
pub record Stands (outer bytes : List ℕ) (path : List (List ℕ)) (place end : ℕ) : Type 0 where
  pub inside : place ≤ end
  pub within : end ≤ length bytes
  pub on_path : length outer < length path
  pub in_depth : length outer ≤ deepest
  pub looks : Looks outer bytes path place end

stands : (outer bytes : List ℕ) (path : List (List ℕ)) (place end : ℕ) → length outer < length path
    → length outer ≤ deepest
    → Looks outer bytes path place end → Stands outer bytes path place end
stands outer bytes path place end low deep h =
    let i = looks_in outer bytes path place end h in
    record { inside = i.inside; within = i.within; on_path = low; in_depth = deep; looks = h }

starts_at_front : (bytes : List ℕ) (path : List (List ℕ)) (place : ℕ) (o : Object)
    → IsFirstPlaced bytes 1 path place o
    → IsFirstPlaced bytes 1 path (0 + place) o
starts_at_front bytes path place o h =
    let same : place ≡ 0 + place = omega arith in
    subst (λ (n : ℕ). IsFirstPlaced bytes 1 path n o) same h

pub stands_at_start : (outer bytes : List ℕ) (path : List (List ℕ)) → outer ≡ [] → 0 < length path
    → AreObjects bytes 1
    → Stands outer bytes path 0 (length bytes)
stands_at_start outer bytes path e some objects =
    let all : cut bytes 0 (length bytes) ≡ bytes =
    take_all (length bytes - 0) bytes (omega arith) in
    rw e (stands [] bytes path 0 (length bytes) some (omega arith) (
      record {
        inside = omega arith;
        within = omega arith;
        objects = rw all objects;
        first = λ p o
            at. starts_at_front bytes path p o (rw all at at);
      },
      λ none. rw all at none,
    ))

pub stands_past_zero : (outer bytes : List ℕ) (path : List (List ℕ)) (place end : ℕ) → place < end
    → get_or bytes place 0 ≡ 0
    → Stands outer bytes path place end → Stands outer bytes path (place + 1) end
stands_past_zero outer bytes path place end low first h =
    let i = looks_in outer bytes path place end h.looks in
    let e = padding_first bytes place end low h.within first in
    let depth = suc (length outer) in
    let below = drop (length outer) path in
    stands outer bytes path (place + 1) end h.on_path h.in_depth
    (goes_on outer bytes path place end (place + 1) 1 refl (omega arith)
    (rw e (seeks_one_zero (cut bytes (place + 1) end) (suc (length outer))
    (drop (length outer) path)))
    (objects_past_zero (cut bytes place end) (cut bytes (place + 1) end)
    (suc (length outer)) e i.objects) h.looks)

-- The object at the front is not the one wanted, and does not contain it.
passes : (outer bytes : List ℕ) (path : List (List ℕ)) (t s v r : List ℕ) (place end next : ℕ)
    → StartsWith (cut bytes place end) t s v r
    → (drop (length outer) path ≡ t ∷ [] → ⊥)
    → ((deep : List (List ℕ)) → drop (length outer) path ≡ t ∷ deep → is_constructed t ≡ true
    → NoneLiesAt v (suc (suc (length outer))) deep)
    → next ≡ place + length (t ++ s ++ v) → Looks outer bytes path place end
    → Looks outer bytes path next end
passes outer bytes path t s v r place end next starts here inside e h =
    let i = looks_in outer bytes path place end h in
    let fits : next ≤ end =
    omega (
      arith,
      starts_length (cut bytes place end) t s v r starts,
      cut_length bytes place end
          i.inside i.within,
      length-append (t ++ s) v,
    ) in
    let rest : cut bytes next end ≡ r = cut_rest bytes t s v r place end next starts e fits in
    goes_on outer bytes path place end next (length (t ++ s ++ v)) e fits
    (rw rest (seeks_past_object (cut bytes place end) t s v r (suc (length outer))
    (drop (length outer) path) starts here inside))
    (rw rest (after_is_spelled (cut bytes place end) t s v r (suc (length outer)) starts i.objects))
    h

-- The reader is at an object; `wanted` is the next tag on the path.
pub record Faces (outer bytes : List ℕ) (path : List (List ℕ)) (place end : ℕ)
    (wanted t s v r : List ℕ) : Type 0 where
  pub stands : Stands outer bytes path place end
  pub starts : StartsWith (cut bytes place end) t s v r
  pub next : drop (length outer) path ≡ wanted ∷ drop (suc (length outer)) path
  pub behind : end - length r ≡ place + length (t ++ s ++ v)
  pub within : end - length r - length v ≡ place + length (t ++ s)

pub faces : (outer bytes : List ℕ) (path : List (List ℕ)) (place end n : ℕ)
    (wanted t s v r : List ℕ) → n ≡ length outer → wanted ≡ get_or path n wanted
    → StartsWith (cut bytes place end) t s v r → Stands outer bytes path place end
    → Faces outer bytes path place end wanted t s v r
faces outer bytes path place end n wanted t s v r e is starts h =
    let there : wanted ≡ get_or path (length outer) wanted =
    is ∙ ap (λ x. get_or path x wanted) e in
    let long = starts_length (cut bytes place end) t s v r starts in
    let whole = cut_length bytes place end h.inside h.within in
    record {
      stands = h;
      starts = starts;
      next = drop-cons path (length outer) wanted h.on_path
          ∙ ap (λ x. x ∷ drop (suc (length outer)) path) (sym there);
      behind = omega (arith, h.inside, length-append (t ++ s) v);
      within = omega (arith, h.inside);
    }

-- The object has another tag.
pub stands_elsewhere : (outer bytes : List ℕ) (path : List (List ℕ)) (place end : ℕ)
    (wanted t s v r : List ℕ)
    → Faces outer bytes path place end wanted t s v r → t ≢ wanted
    → Stands outer bytes path (end - length r) end
stands_elsewhere outer bytes path place end wanted t s v r f other =
    stands outer bytes path (end - length r) end f.stands.on_path f.stands.in_depth
    (passes outer bytes path t s v r place end (end - length r) f.starts
    (λ is. other (let g : t ∷ [] ≡ wanted ∷ drop (suc (length outer)) path = sym is
    ∙ f.next in cc))
    (λ deep is kind.
    absurd (other (let g : t ∷ deep ≡ wanted ∷ drop (suc (length outer)) path = sym is
    ∙ f.next in cc)))
    f.behind f.stands.looks)

-- The path continues below the object's tag.
goes_below : (path : List (List ℕ)) (n : ℕ) (wanted t : List ℕ) → drop n path ≡ wanted
    ∷ drop (suc n) path → t ≡ wanted
    → drop n path ≡ t ∷ drop (suc n) path
goes_below path n wanted t e same = e ∙ ap (λ x. x ∷ drop (suc n) path) (sym same)

not_last : (path : List (List ℕ)) (n : ℕ) → n < length path → n + 1 ≢ length path
    → drop (suc n) path ≢ []
not_last path n low more nil = omega (arith, ap length nil, length-drop (suc n) path)

pub stands_past_primitive : (outer bytes : List ℕ) (path : List (List ℕ)) (place end n : ℕ)
    (wanted t s v r : List ℕ) → n ≡ length outer
    → Faces outer bytes path place end wanted t s v r → t ≡ wanted → n + 1 ≢ length path
    → is_constructed t ≡ false
    → Stands outer bytes path (end - length r) end
stands_past_primitive outer bytes path place end n wanted t s v r e f same more kind =
    let below = goes_below path (length outer) wanted t f.next same in
    let some : drop (suc (length outer)) path ≢ [] =
    not_last path (length outer) f.stands.on_path (λ g. more (omega arith)) in
    stands outer bytes path (end - length r) end f.stands.on_path f.stands.in_depth
    (passes outer bytes path t s v r place end (end - length r) f.starts
    (λ is. some (let g : t ∷ [] ≡ t ∷ drop (suc (length outer)) path = sym is ∙ below in cc))
    (λ deep is constructed. absurd (let clash : true ≡ false = sym constructed ∙ kind in cc))
    f.behind f.stands.looks)

pub stands_in_template : (outer inner bytes : List ℕ) (path : List (List ℕ)) (place end n : ℕ)
    (wanted t s v r : List ℕ) → inner ≡ end ∷ outer
    → n ≡ length outer → n + 1 ≤ deepest → Faces outer bytes path place end wanted t s v r → t
    ≡ wanted → n + 1 ≢ length path
    → is_constructed t ≡ true → Stands inner bytes path (end - length r - length v) (end - length r)
stands_in_template outer inner bytes path place end n wanted t s v r g e deep f same more kind =
    let i = looks_in outer bytes path place end f.stands.looks in
    let below = goes_below path (length outer) wanted t f.next same in
    let some : drop (suc (length outer)) path ≢ [] =
    not_last path (length outer) f.stands.on_path (λ k. more (omega arith)) in
    let long = starts_length (cut bytes place end) t s v r f.starts in
    let inside : cut bytes (end - length r - length v) (end - length r) ≡ v =
    cut_value bytes t s v r place end (end - length r - length v) (end - length r) f.starts f.within
    (omega (arith, f.behind, f.within, length-append (t ++ s) v)) (omega arith) in
    let depth = suc (suc (length outer)) in
    rw g (stands (end ∷ outer) bytes path (end - length r - length v) (end - length r)
    (omega (arith, f.stands.on_path)) (omega arith) (
      record {
        inside = omega arith;
        within = omega (arith, f.stands.within);
        objects = rw inside (inside_is_spelled (cut bytes place end) t s v r
            (suc (length outer)) f.starts kind i.objects);
        first = λ p o at.
            let there : IsFirstPlaced v (suc (suc (length outer)))
            (drop (suc (length outer)) path) p o = rw (← inside) at in
            let behind : place + (length (t ++ s) + p) ≡ end - length r - length v + p =
            omega (arith, f.within) in
            subst (λ (n : ℕ). IsFirstPlaced bytes 1 path n o) behind
            (i.first (length (t ++ s) + p) o
            (found_within (cut bytes place end) t s v r (suc (length outer))
            (drop (length outer) path)
            (drop (suc (length outer)) path) p o f.starts kind below some there));
      },
      λ none.
          let nowhere : NoneLiesAt v (suc (suc (length outer))) (drop (suc (length outer)) path) =
          rw (← inside) none in
          passes outer bytes path t s v r place end (end - length r) f.starts
          (λ is. some (let k : t ∷ [] ≡ t ∷ drop (suc (length outer)) path = sym is ∙ below in cc))
          (λ deep is constructed.
          let k : deep ≡ drop (suc (length outer)) path =
          (let l : t ∷ deep ≡ t ∷ drop (suc (length outer)) path = sym is ∙ below in cc) in
          rw k nowhere)
          f.behind f.stands.looks,
    ))

-- The object is the one wanted.
pub found : (outer bytes : List ℕ) (path : List (List ℕ)) (place end n : ℕ)
    (wanted t s v r : List ℕ) (o : Object) → n ≡ length outer
    → Faces outer bytes path place end wanted t s v r → t ≡ wanted → n + 1 ≡ length path
    → o ≡ record { tag = t; size = s; value = v; level = n + 1 }
    → IsFirstPlaced bytes 1 path place o × StandsAt bytes place o
found outer bytes path place end n wanted t s v r o e f same last is =
    let i = looks_in outer bytes path place end f.stands.looks in
    let nil : drop (suc (length outer)) path ≡ [] =
    drop_all (suc (length outer)) path (omega arith) in
    let below : drop (length outer) path ≡ t ∷ [] =
    goes_below path (length outer) wanted t f.next same ∙ ap (λ x. t ∷ x) nil in
    let level : n + 1 ≡ suc (length outer) = omega arith in
    let here : place + 0 ≡ place = omega arith in
    let P : ℕ → ℕ → Type 0 = λ p x. IsFirstPlaced bytes 1 path p
    (record { tag = t; size = s; value = v; level = x }) in
    let first : IsFirstPlaced bytes 1 path place o =
    rw is (subst (P place) (sym level) (subst (λ (p : ℕ). P p (suc (length outer))) here
    (i.first 0 (record { tag = t; size = s; value = v; level = suc (length outer) })
    (found_here (cut bytes place end) t s v r (suc (length outer))
    (drop (length outer) path) f.starts below)))) in
    (first, lies_stands bytes 1 place path o first.here)

pub stands_behind : (outer inner bytes : List ℕ) (path : List (List ℕ)) (place end outer_end : ℕ)
    → inner ≡ outer_end ∷ outer → place ≡ end
    → Stands inner bytes path place end → Stands outer bytes path place outer_end
stands_behind outer inner bytes path place end outer_end f e h =
    let k : Stands (outer_end ∷ outer) bytes path place end = rw (← f) h in
    let nil = cut_empty bytes place end e k.within in
    let P : ℕ → Type 0 = λ x. Looks outer bytes path x outer_end in
    stands outer bytes path place outer_end (omega (arith, k.on_path)) (omega (arith, k.in_depth))
    (subst P (sym e)
    (k.looks.1
    (rw nil (none_in_nil (suc (suc (length outer))) (drop (suc (length outer)) path)))))

pub none_at_end : (outer bytes : List ℕ) (path : List (List ℕ)) (place end : ℕ) → outer ≡ [] → place
    ≡ end → Stands outer bytes path place end
    → NoneLiesAt bytes 1 path
none_at_end outer bytes path place end f e h =
    let k : Stands [] bytes path place end = rw (← f) h in
    let nil = cut_empty bytes place end e k.within in k.looks.1 (rw nil (none_in_nil 1 path))

-- An object is there, not too deep.
pub starts_there : (outer bytes : List ℕ) (path : List (List ℕ)) (place end n : ℕ) → n
    ≡ length outer → place < end
    → get_or bytes place 0 ≢ 0 → Stands outer bytes path place end
    → StartsWithObject (cut bytes place end) × (n + 1 ≤ deepest)
starts_there outer bytes path place end n e low object h =
    let i = looks_in outer bytes path place end h.looks in
    let s = spelled_starts (cut bytes place end) (suc (length outer)) i.objects
    (object_first bytes place end low h.within object) in
    (s.0, omega (arith, s.1))

pub is_object : (outer bytes : List ℕ) (path : List (List ℕ)) (place end n : ℕ) (t s v r : List ℕ)
    → n ≡ length outer → n + 1 ≤ deepest
    → StartsWith (cut bytes place end) t s v r → Stands outer bytes path place end
    → IsObject (record { tag = t; size = s; value = v; level = n + 1 })
is_object outer bytes path place end n t s v r e deep starts h =
    let i = looks_in outer bytes path place end h.looks in
    let level : n + 1 ≡ suc (length outer) = omega arith in
    let o : AreObjects (cut bytes place end) (n + 1) = rw level i.objects in
    spelled_is_object (cut bytes place end) t s v r (n + 1) o deep starts
