-- A reader inside open templates: the rest of the innermost list decides about the whole.
use Rattle.std.proofs.Common.{◌≡◌, ◌≢◌, ℕ, suc, ◌+◌, ◌-◌, ◌<◌, ◌≤◌, List, [], ◌∷◌, ◌++◌, length, get_or, refl, sym, subst, arith, length-append, ◌∙◌, inl, inr, true, false}
use Rattle.std.proofs.lemmas.Bool.{cases_Bool}
use Rattle.std.proofs.lemmas.List.{take_all, length-set}
use Rattle.std.proofs.Math.ListN.{set}
use Rattle.tlv_core.specs.TagForm.{is_constructed}
use Rattle.tlv_core.specs.Spelling.{Empty, Primitive, Template, AreObjects, deepest}
use Rattle.tlv_core.specs.Place.{StartsWith}
use Rattle.tlv_core.specs.FrontParts.{HasParts, innermost_first}
use Rattle.tlv_core.specs.FirstFault.{FailsFor, IsFirstFault}
use Rattle.tlv_core.specs.declared.fault.Reason.{Reason}
use Rattle.tlv_core.proofs.SpellingFacts.{spells_more, spells_primitive, spells_template, All_nil}
use Rattle.tlv_core.proofs.PlaceFacts.{starts_length}
use Rattle.tlv_core.specs.FaultLaws.{first_here}
use Rattle.tlv_core.proofs.FaultFacts.{first_past_padding, first_past_object, first_in_template}
use Rattle.tlv_core.proofs.Outers.{one_more, last_left, none_left, depth_is}
use Rattle.tlv_core.proofs.Cuts.{cut, cut_length, cut_empty, padding_first, object_first, kind_first, cut_rest, cut_value}

-- The reader is at a place of a list. The first fault of the rest of that list is the first fault
-- of the bytes.
pub record IsIn (bytes : List ℕ) (level place end depth : ℕ) : Type 0 where
  pub inside : place ≤ end
  pub within : end ≤ length bytes
  pub faulty : (p : ℕ) (r : Reason) → IsFirstFault (cut bytes place end) depth p r
      → IsFirstFault bytes level (place + p) r

-- If the rest of the innermost list is objects, the reader continues after its template, in the
-- list around it. If the outermost list ends so, the bytes are objects.
abbrev pub Reads : List ℕ → List ℕ → ℕ → ℕ → ℕ → ℕ → Type 0
Reads [] bytes level place end depth =
    IsIn bytes level place end depth
    × (AreObjects (cut bytes place end) depth → AreObjects bytes level)
Reads (outer_end ∷ outer) bytes level place end depth =
    IsIn bytes level place end depth
    × (AreObjects (cut bytes place end) depth → (above : ℕ) → depth ≡ suc above
    → Reads outer bytes level end outer_end above)

pub reads_in : (outer bytes : List ℕ) (level place end depth : ℕ)
    → Reads outer bytes level place end depth → IsIn bytes level place end depth
reads_in [] bytes level place end depth h = h.0
reads_in (e ∷ outer) bytes level place end depth h = h.0

-- The reader moves ahead in its list.
goes_in : (bytes : List ℕ) (level place end depth passed next : ℕ) → next ≡ place + passed → next
    ≤ end
    → ((p : ℕ) (r : Reason) → IsFirstFault (cut bytes next end) depth p r
    → IsFirstFault (cut bytes place end) depth (passed + p) r)
    → IsIn bytes level place end depth → IsIn bytes level next end depth
goes_in bytes level place end depth passed next e low faults h = record {
  inside = low;
  within = h.within;
  faulty = λ p r first.
      let g : next + p ≡ place + (passed + p) = omega arith in
      rw g (h.faulty (passed + p) r (faults p r first));
}

goes_on : (outer bytes : List ℕ) (level place end depth passed next : ℕ) → next ≡ place + passed
    → next ≤ end
    → ((p : ℕ) (r : Reason) → IsFirstFault (cut bytes next end) depth p r
    → IsFirstFault (cut bytes place end) depth (passed + p) r)
    → (AreObjects (cut bytes next end) depth → AreObjects (cut bytes place end) depth)
    → Reads outer bytes level place end depth → Reads outer bytes level next end depth
goes_on [] bytes level place end depth passed next e low faults objects (h, done) =
    (goes_in bytes level place end depth passed next e low faults h, λ rest. done (objects rest))
goes_on (outer_end ∷ outer) bytes level place end depth passed next e low faults objects (h, done) =
    (goes_in bytes level place end depth passed next e low faults h, λ rest. done (objects rest))

pub reads_at_start : (bytes : List ℕ) (level depth : ℕ) → depth ≡ level
    → Reads [] bytes level 0 (length bytes) depth
reads_at_start bytes level depth e =
    let all : cut bytes 0 (length bytes) ≡ bytes =
    take_all (length bytes - 0) bytes (omega arith) in (
      record {
        inside = omega arith;
        within = omega arith;
        faulty = λ p r first. let f = rw (all, e) at first in let g : 0 + p ≡ p = omega arith in
            rw g f;
      },
      λ objects. rw (all, e) at objects,
    )

pub reads_past_zero : (outer bytes : List ℕ) (level place end depth : ℕ) → place < end
    → get_or bytes place 0 ≡ 0
    → Reads outer bytes level place end depth → Reads outer bytes level (place + 1) end depth
reads_past_zero outer bytes level place end depth low first h =
    let i = reads_in outer bytes level place end depth h in
    let e = padding_first bytes place end low i.within first in
    goes_on outer bytes level place end depth 1 (place + 1) refl (omega arith)
    (λ p r fault. rw e (first_past_padding (cut bytes (place + 1) end) depth p r fault))
    (λ (forest, spells).
    (forest, rw e (spells_more forest (cut bytes (place + 1) end) depth spells)))
    h

spelled_past : (at t s v r : List ℕ) (level : ℕ) → StartsWith at t s v r → level ≤ deepest
    → (is_constructed t ≡ true → AreObjects v (suc level)) → AreObjects r level
    → AreObjects at level
spelled_past at t s v r level h low inside (next, more) = elim (cases_Bool (is_constructed t)) [
  | inl kind ↦ let (children, spells) = inside kind in (
    Template t children next,
    spells_template at t s v r level children next h low kind spells
        more,
  )
  | inr kind ↦ (Primitive t v next, spells_primitive at t s v r level next h low kind more)
]

pub reads_past_object : (outer bytes t s v r : List ℕ) (level place end depth next : ℕ)
    → StartsWith (cut bytes place end) t s v r → depth ≤ deepest
    → (is_constructed t ≡ true → AreObjects v (suc depth)) → next ≡ place + length (t ++ s ++ v)
    → Reads outer bytes level place end depth → Reads outer bytes level next end depth
reads_past_object outer bytes t s v r level place end depth next starts low inside e h =
    let i = reads_in outer bytes level place end depth h in
    let fits : next ≤ end =
    omega (
      arith,
      starts_length (cut bytes place end) t s v r starts,
      cut_length bytes place end
          i.inside i.within,
      length-append (t ++ s) v,
    ) in
    let rest : cut bytes next end ≡ r = cut_rest bytes t s v r place end next starts e fits in
    goes_on outer bytes level place end depth (length (t ++ s ++ v)) next e fits
    (λ p reason fault.
    let f : IsFirstFault r depth p reason = rw (← rest) fault in
    first_past_object (cut bytes place end) t s v r depth p reason starts low inside f)
    (λ more. let m : AreObjects r depth = rw (← rest) more in spelled_past
    (cut bytes place end) t s v r depth starts low inside m)
    h

pub reads_in_template : (outer bytes t s v r : List ℕ) (level place end depth value next : ℕ)
    → StartsWith (cut bytes place end) t s v r
    → depth ≤ deepest → is_constructed t ≡ true → value ≡ place + length (t ++ s) → next ≡ value
    + length v
    → Reads outer bytes level place end depth → Reads (end ∷ outer) bytes level value next
    (suc depth)
reads_in_template outer bytes t s v r level place end depth value next starts low kind e f h =
    let i = reads_in outer bytes level place end depth h in
    let fits : next ≤ end =
    omega (
      arith,
      starts_length (cut bytes place end) t s v r starts,
      cut_length bytes place end
          i.inside i.within,
    ) in
    let within : cut bytes value next ≡ v = cut_value bytes t s v r place end value next starts e f
    fits in (
      record {
        inside = omega arith;
        within = omega (arith, i.within);
        faulty = λ p reason fault.
            let g : value + p ≡ place + (length (t ++ s) + p) = omega arith in
            let k : IsFirstFault v (suc depth) p reason = rw (← within) fault in
            rw g (i.faulty (length (t ++ s) + p) reason
            (first_in_template (cut bytes place end) t s v r depth p reason starts low kind
            k));
      },
      λ objects above same.
          let k : AreObjects v (suc depth) = rw (← within) objects in
          let up : depth ≡ above = omega arith in
          let P : ℕ → Type 0 = λ x. Reads outer bytes level next end x in
          subst P up
          (reads_past_object outer bytes t s v r level place end depth next starts low (λ is. k)
          (omega (arith, length-append (t ++ s) v)) h),
    )

nothing_left : (bytes : List ℕ) (place end depth : ℕ) → place ≡ end → end ≤ length bytes
    → AreObjects (cut bytes place end) depth
nothing_left bytes place end depth e h = rw (cut_empty bytes place end e h) (Empty, All_nil)

-- The reader is at the end of the innermost list.
pub reads_behind : (outer bytes : List ℕ) (level place end outer_end depth above : ℕ) → place ≡ end
    → depth ≡ suc above
    → Reads (outer_end ∷ outer) bytes level place end depth
    → Reads outer bytes level place outer_end above
reads_behind outer bytes level place end outer_end depth above e up (h, done) =
    let P : ℕ → Type 0 = λ x. Reads outer bytes level x outer_end above in
    subst P (sym e) (done (nothing_left bytes place end depth e h.within) above up)

pub reads_to_end : (bytes : List ℕ) (level place end depth : ℕ) → place ≡ end
    → Reads [] bytes level place end depth → AreObjects bytes level
reads_to_end bytes level place end depth e (h, done) =
    done (nothing_left bytes place end depth e h.within)

-- A reader at a place of a list, inside templates whose lists end at `outer`.
pub record Stands (outer bytes : List ℕ) (level place end : ℕ) : Type 0 where
  pub inside : place ≤ end
  pub within : end ≤ length bytes
  pub in_depth : level + length outer ≤ deepest + 1
  pub reads : Reads outer bytes level place end (level + length outer)

stands : (outer bytes : List ℕ) (level place end : ℕ) → level + length outer ≤ deepest + 1
    → Reads outer bytes level place end (level + length outer)
    → Stands outer bytes level place end
stands outer bytes level place end low h =
    let i = reads_in outer bytes level place end (level + length outer) h in
    record { inside = i.inside; within = i.within; in_depth = low; reads = h }

pub stands_at_start : (outer bytes : List ℕ) (level : ℕ) → outer ≡ [] → level ≤ deepest + 1
    → Stands outer bytes level 0 (length bytes)
stands_at_start outer bytes level e low = rw e
    (stands [] bytes level 0 (length bytes) (omega arith)
    (reads_at_start bytes level (level + 0) (omega arith)))

pub stands_past_zero : (outer bytes : List ℕ) (level place end : ℕ) → place < end
    → get_or bytes place 0 ≡ 0 → Stands outer bytes level place end
    → Stands outer bytes level (place + 1) end
stands_past_zero outer bytes level place end low first h =
    stands outer bytes level (place + 1) end h.in_depth
    (reads_past_zero outer bytes level place end (level + length outer) low first h.reads)

pub stands_past_object : (outer bytes : List ℕ) (level place end depth a head m : ℕ) → depth ≡ level
    + length outer → place < end
    → HasParts (cut bytes place end) depth a head m → is_constructed (get_or bytes place 0 ∷ [])
    ≡ false
    → Stands outer bytes level place end → Stands outer bytes level (place + head + m) end
stands_past_object outer bytes level place end depth a head m e low p kind h =
    let q : HasParts (cut bytes place end) (level + length outer) a head m = rw (← e) p in
    let is_kind = kind_first bytes q.tag q.size q.value q.rest place end low q.starts ∙ kind in
    stands outer bytes level (place + head + m) end h.in_depth
    (reads_past_object outer bytes q.tag q.size q.value q.rest level place end
    (level + length outer) (place + head + m) q.starts q.in_depth
    (λ is. absurd (let clash : true ≡ false = sym is ∙ is_kind in cc))
    (omega (arith, length-append (q.tag ++ q.size) q.value, q.head_is, q.value_is)) h.reads)

pub stands_in_template : (outer inner bytes : List ℕ) (level place end depth a head m : ℕ) → inner
    ≡ end ∷ outer → depth ≡ level + length outer → place < end
    → HasParts (cut bytes place end) depth a head m → is_constructed (get_or bytes place 0 ∷ [])
    ≡ true
    → Stands outer bytes level place end → Stands inner bytes level (place + head)
    (place + head + m)
stands_in_template outer inner bytes level place end depth a head m f e low p kind h =
    let q : HasParts (cut bytes place end) (level + length outer) a head m = rw (← e) p in
    let is_kind = kind_first bytes q.tag q.size q.value q.rest place end low q.starts ∙ kind in
    let up : suc (level + length outer) ≡ level + length (end ∷ outer) = omega arith in
    let P : ℕ → Type 0 = λ x. Reads (end ∷ outer) bytes level (place + head) (place + head + m) x in
    rw f (stands (end ∷ outer) bytes level (place + head) (place + head + m)
    (omega (arith, q.in_depth))
    (subst P up (reads_in_template outer bytes q.tag q.size q.value q.rest level place end
    (level + length outer) (place + head) (place + head + m) q.starts
    q.in_depth is_kind (omega (arith, q.head_is)) (omega (arith, q.value_is)) h.reads)))

pub stands_behind : (outer inner bytes : List ℕ) (level place end outer_end : ℕ) → inner ≡ outer_end
    ∷ outer → place ≡ end
    → Stands inner bytes level place end → Stands outer bytes level place outer_end
stands_behind outer inner bytes level place end outer_end f e h =
    let k : Stands (outer_end ∷ outer) bytes level place end = rw (← f) h in
    stands outer bytes level place outer_end (omega (arith, k.in_depth))
    (reads_behind outer bytes level place end outer_end (level + length (outer_end ∷ outer))
    (level + length outer) e (omega arith) k.reads)

pub stands_at_end : (outer bytes : List ℕ) (level place end : ℕ) → outer ≡ [] → place ≡ end
    → Stands outer bytes level place end → AreObjects bytes level
stands_at_end outer bytes level place end f e h =
    let k : Stands [] bytes level place end = rw (← f) h in
    reads_to_end bytes level place end (level + 0) e k.reads

pub fault_at_place : (outer bytes : List ℕ) (level place end depth : ℕ) (reason : Reason) → depth
    ≡ level + length outer → place < end
    → get_or bytes place 0 ≢ 0 → FailsFor (cut bytes place end) depth reason
    → Stands outer bytes level place end
    → IsFirstFault bytes level place reason
fault_at_place outer bytes level place end depth reason e low object fails h =
    let i = reads_in outer bytes level place end (level + length outer) h.reads in
    let f : FailsFor (cut bytes place end) (level + length outer) reason = rw (← e) fails in
    let g : place ≡ place + 0 = omega arith in
    rw g (i.faulty 0 reason (first_here (cut bytes place end) (level + length outer) reason
    (object_first bytes place end low h.within object) f))

-- The same with the ends in an array: its first `used` cells count.
pub record Keeps (cells bytes : List ℕ) (level used place end : ℕ) : Type 0 where
  pub cells_are : length cells ≡ deepest
  pub few : level + used ≤ deepest + 1
  pub stands : Stands (innermost_first cells used) bytes level place end

pub keeps_at_start : (cells bytes : List ℕ) (level : ℕ) → length cells ≡ deepest → level ≤ deepest
    + 1 → Keeps cells bytes level 0 0 (length bytes)
keeps_at_start cells bytes level are low =
    record { cells_are = are; few = omega arith; stands = stands_at_start [] bytes level refl low }

pub keeps_past_zero : (cells bytes : List ℕ) (level used place end : ℕ) → place ≢ end
    → get_or bytes place 0 ≡ 0 → Keeps cells bytes level used place end
    → Keeps cells bytes level used (place + 1) end
keeps_past_zero cells bytes level used place end more first h = record {
  cells_are = h.cells_are;
  few = h.few;
  stands = stands_past_zero (innermost_first cells used) bytes level place end
      (omega (arith, h.stands.inside)) first h.stands;
}

pub keeps_past_object : (cells bytes : List ℕ) (level used place end a head m : ℕ) → place ≢ end
    → HasParts (cut bytes place end) (level + used) a head m
    → is_constructed (get_or bytes place 0 ∷ []) ≡ false → Keeps cells bytes level used place end
    → Keeps cells bytes level used (place + head + m) end
keeps_past_object cells bytes level used place end a head m more p kind h = record {
  cells_are = h.cells_are;
  few = h.few;
  stands = stands_past_object (innermost_first cells used) bytes level place end
      (level + used) a head m (depth_is cells level used)
      (omega (arith, h.stands.inside)) p kind h.stands;
}

pub keeps_in_template : (cells bytes : List ℕ) (level used place end a head m : ℕ) → 1 ≤ level
    → place ≢ end → HasParts (cut bytes place end) (level + used) a head m
    → is_constructed (get_or bytes place 0 ∷ []) ≡ true → Keeps cells bytes level used place end
    → Keeps (set cells used end) bytes level (used + 1) (place + head) (place + head + m)
keeps_in_template cells bytes level used place end a head m above more p kind h = record {
  cells_are = length-set cells used end ∙ h.cells_are;
  few = omega (arith, p.in_depth);
  stands = stands_in_template (innermost_first cells used)
      (innermost_first (set cells used end) (used + 1)) bytes level place end
      (level + used) a head m
      (one_more cells used end (omega (arith, h.cells_are, p.in_depth))) (depth_is cells level used)
      (omega (arith, h.stands.inside)) p kind h.stands;
}

pub keeps_behind : (cells bytes : List ℕ) (level used place end : ℕ) → used ≢ 0 → place ≡ end
    → Keeps cells bytes level used place end
    → Keeps cells bytes level (used - 1) place (get_or cells (used - 1) 0)
keeps_behind cells bytes level used place end some e h = record {
  cells_are = h.cells_are;
  few = omega (arith, h.few);
  stands = stands_behind (innermost_first cells (used - 1)) (innermost_first cells used) bytes level
      place end (get_or cells (used - 1) 0)
      (last_left cells used some) e h.stands;
}

pub keeps_to_end : (cells bytes : List ℕ) (level used place end : ℕ) → used ≡ 0 → place ≡ end
    → Keeps cells bytes level used place end → AreObjects bytes level
keeps_to_end cells bytes level used place end none e h =
    stands_at_end (innermost_first cells used) bytes level place end
    (none_left cells used none) e h.stands

pub fault_here : (cells bytes : List ℕ) (level used place end : ℕ) (reason : Reason) → place ≢ end
    → get_or bytes place 0 ≢ 0
    → FailsFor (cut bytes place end) (level + used) reason → Keeps cells bytes level used place end
    → IsFirstFault bytes level place reason
fault_here cells bytes level used place end reason more object fails h =
    fault_at_place (innermost_first cells used) bytes level place end (level + used) reason
    (depth_is cells level used) (omega (arith, h.stands.inside))
    object fails h.stands
