-- The items that a tap gives are those of the bytes that it has heard.
use Rattle.std.proofs.Common.{arith, ◌≡◌, refl, sym, ap, subst, ◌∙◌, ℕ, zero, suc, ◌+◌, ◌<◌, ◌≤◌, ◌⊎◌, inl, inr, Bool, true, false, List, [], ◌∷◌, ◌++◌, length, take, drop, append_assoc, append-nil, length-append, nat_lt, slice_index}
use Rattle.std.proofs.lemmas.Grind.{flat_map-append}
use Rattle.std.proofs.lemmas.Bool.{cases_order}
use Rattle.std.proofs.lemmas.List.{append_cancel_left, length-drop, length-map, map-append, take-append-le, take_all}
use Rattle.std.specs.List.{flat_map}
use Rattle.t1_core.specs.declared.reading.End.{End}
use Rattle.t1_core.specs.declared.reading.End.TheVariants.{Terminal, Card}
use Rattle.t1_core.specs.declared.reading.Reading.{Reading}
use Rattle.t1_core.specs.declared.settings.Edc.{Edc}
use Rattle.t1_core.specs.Block.{Block, more}
use Rattle.t1_core.specs.Hearing.{listening, Heard, Item, IsItem, AreItems, IsOther, Ear, HasHeard, after_items, given, goes_on, heard_of, hears, hears_all, hears_on, stops, goes_on_from, hears_next, is_cut, item_with, sent_by}
use Rattle.t1_core.specs.Items.{Valid, Cut, found_in, is_complete}
use Rattle.t1_core.specs.Reading.{fresh, peer, reads}
use Rattle.std.proofs.Math.Seq.{take-length}
use Rattle.t1_core.specs.Hearing.{IsNext}

-- ---- a run of bytes

next_of : (e : Ear) (from : End) (bytes : List ℕ) (at : ℕ) → at < length bytes
    → hears (hears_all e from (take at bytes)) from (slice_index bytes at)
    ≡ hears_all e from (take (suc at) bytes)
next_of e from [] at few = absurd (omega (arith, few))
next_of e from (b ∷ bytes) zero few = refl
next_of e from (b ∷ bytes) (suc n) few = next_of (hears e from b) from bytes n (omega (arith, few))

pub all_next : (e old now : Ear) (from : End) (bytes : List ℕ) (at : ℕ) → at < length bytes
    → old ≡ hears_all e from (take at bytes) → now ≡ hears old from (slice_index bytes at)
    → now ≡ hears_all e from (take (at + 1) bytes)
all_next e old now from bytes at few before is =
    let one : suc at ≡ at + 1 = omega arith in
    is ∙ ap (λ x. hears x from (slice_index bytes at)) before ∙ next_of e from bytes at few
    ∙ ap (λ k. hears_all e from (take k bytes)) one

pub none_more : (e now : Ear) (from : End) (bytes : List ℕ) (at : ℕ)
    → now ≡ hears_all e from (take (at + 1) bytes) → now.ended ≡ false
    → ((k : ℕ) → 0 < k → k ≤ at → (hears_all e from (take k bytes)).ended ≡ false)
    → (k : ℕ) → 0 < k → k ≤ at + 1 → (hears_all e from (take k bytes)).ended ≡ false
none_more e now from bytes at is none before k some few = by (nat_lt at k) refl where
  by : (v : Bool) → nat_lt at k ≡ v → (hears_all e from (take k bytes)).ended ≡ false
  by true lt =
      let last : k ≡ at + 1 = grind (arith, few, lt) in
      ap (λ j. (hears_all e from (take j bytes)).ended) last ∙ ap (λ (x : Ear). x.ended) (sym is)
      ∙ none
  by false lt = before k some (grind (arith, lt))

-- ---- more bytes, and one more item

other_longer : (from : End) (rest more : List Heard) → IsOther from rest
    → IsOther from (rest ++ more)
other_longer from [] more is = absurd is
other_longer from (c ∷ cs) more is = is

item_longer : {edc : Edc} {r : Reading} {i : Item} (rest more : List Heard)
    → IsItem edc r i rest → IsItem edc r i (rest ++ more)
item_longer {edc} {r} {i} rest more item = record {
  some = item.some;
  not_sooner = item.not_sooner;
  ends = longer item.ends;
  is = item.is;
} where
  longer : (is_complete edc i.bytes ≡ true) ⊎ IsOther i.from rest
      → (is_complete edc i.bytes ≡ true) ⊎ IsOther i.from (rest ++ more)
  longer (inl whole) = inl whole
  longer (inr cut) = inr (other_longer i.from rest more cut)

items_longer : (edc : Edc) (r : Reading) (items : List Item) (rest more : List Heard)
    → AreItems edc r items rest → AreItems edc r items (rest ++ more)
items_longer edc r [] rest more are = tt
items_longer edc r (i ∷ items) rest more are = (
  subst (IsItem edc r i) (append_assoc (flat_map heard_of items) rest more)
      (item_longer (flat_map heard_of items ++ rest) more are.0),
  items_longer edc (reads r i.from i.found).1 items rest more are.1,
)

-- `i` begins with `rest`, and `later` follows it
joins : (items : List Item) (i : Item) (rest more later : List Heard)
    → rest ++ more ≡ heard_of i ++ later
    → (flat_map heard_of items ++ rest) ++ more ≡ flat_map heard_of (items ++ i ∷ []) ++ later
joins items i rest more later is =
    let before : List Heard = flat_map heard_of items in
    append_assoc before rest more ∙ ap (λ hs. before ++ hs) is
    ∙ sym (append_assoc before (heard_of i) later)
    ∙ ap (λ hs. (before ++ hs) ++ later) (sym (append-nil (heard_of i)))
    ∙ ap (λ hs. hs ++ later) (sym (flat_map-append heard_of items (i ∷ [])))

one_more : (edc : Edc) (r : Reading) (items : List Item) (i : Item)
    (rest more later : List Heard) → rest ++ more ≡ heard_of i ++ later
    → AreItems edc r items rest → IsItem edc (after_items r items) i later
    → AreItems edc r (items ++ i ∷ []) later
one_more edc r [] i rest more later is are item = (item, tt)
one_more edc r (j ∷ items) i rest more later is are item = (
  subst (IsItem edc r j) (joins items i rest more later is)
      (item_longer (flat_map heard_of items ++ rest) more are.0),
  one_more edc (reads r j.from j.found).1 items i rest more later is are.1 item,
)

read_more : (r : Reading) (items : List Item) (i : Item)
    → after_items r (items ++ i ∷ []) ≡ (reads (after_items r items) i.from i.found).1
read_more r [] i = refl
read_more r (j ∷ items) i = read_more (reads r j.from j.found).1 items i

-- ---- one byte

-- an end that does not cut off the item adds to it
joined : (part : List ℕ) (from now : End) (b : ℕ) → is_cut part from now ≡ false
    → sent_by from part ++ (now, b) ∷ [] ≡ sent_by now (part ++ b ∷ [])
joined [] from now b is = refl
joined (c ∷ part) Terminal Terminal b is = sym (map-append (λ x. (Terminal, x)) (c ∷ part) (b ∷ []))
joined (c ∷ part) Card Card b is = sym (map-append (λ x. (Card, x)) (c ∷ part) (b ∷ []))
joined (c ∷ part) _ _ b is = absurd (cc)

cut_by : (part : List ℕ) (from now : End) → is_cut part from now ≡ true
    → (now ≡ peer from) × (0 < length part)
cut_by [] from now is = absurd (cc)
cut_by (c ∷ part) Terminal Card is = (refl, omega arith)
cut_by (c ∷ part) Card Terminal is = (refl, omega arith)
cut_by (c ∷ part) _ _ is = absurd (cc)

-- a part that grows is complete with its last byte, if ever
grows : (edc : Edc) (part : List ℕ) (b k : ℕ) → ((k : ℕ) → is_complete edc (take k part) ≡ false)
    → k < length (part ++ b ∷ []) → is_complete edc (take k (part ++ b ∷ [])) ≡ false
grows edc part b k before few =
    let long = length-append part (b ∷ []) in
    ap (is_complete edc) (take-append-le k part (b ∷ []) (omega (arith, few, long))) ∙ before k

one_is_short : (edc : Edc) (b k : ℕ) → is_complete edc (take k (b ∷ [])) ≡ false
one_is_short edc b zero = refl
one_is_short edc b (suc zero) = refl
one_is_short edc b (suc (suc k)) = refl

none_is_short : (edc : Edc) (k : ℕ) → is_complete edc (take k []) ≡ false
none_is_short edc zero = refl
none_is_short edc (suc k) = refl

module _ (heard : List Heard) (items : List Item) where
  abbrev pub Hears : End → (byte : ℕ) → Ear → Type 0
  Hears from b e = HasHeard (heard ++ (from, b) ∷ []) (items ++ given e) (goes_on e)

  -- this byte has ended an item of `part`, and `held` follows
  ends_item : (g : Ear) (end : End) (part : List ℕ) (from : End) (b : ℕ) (next : End)
      (held : List ℕ) → HasHeard heard items g
      → sent_by g.from g.part ++ (from, b) ∷ [] ≡ sent_by end part ++ sent_by next held
      → 0 < length part
      → ((k : ℕ) → k < length part → is_complete g.edc (take k part) ≡ false)
      → (is_complete g.edc part ≡ true) ⊎ IsOther end (sent_by next held)
      → ((k : ℕ) → is_complete g.edc (take k held) ≡ false)
      → HasHeard (heard ++ (from, b) ∷ []) (items ++ item_with g.edc g.reading end part ∷ [])
      (listening g.edc next held (reads g.reading end (found_in g.edc part)).1)
  ends_item g end part from b next held h is some sooner ends short =
      let i : Item = item_with g.edc g.reading end part in
      let later : List Heard = sent_by next held in
      let rest : List Heard = sent_by g.from g.part in
      record {
        all = ap (λ hs. hs ++ (from, b) ∷ []) h.all
            ∙ joins items i rest ((from, b) ∷ []) later is;
        divided = one_more g.edc fresh items i rest ((from, b) ∷ []) later is h.divided
            (subst (λ r. IsItem g.edc r i later) h.read
            (record { some = some; not_sooner = sooner; ends = ends; is = refl }));
        incomplete = short;
        none_held = refl;
        read = ap (λ r. (reads r end (found_in g.edc part)).1) h.read
            ∙ sym (read_more fresh items i);
      }

  adds : (g : Ear) (from : End) (b : ℕ) → is_cut g.part g.from from ≡ false
      → HasHeard heard items g → (v : Bool) → is_complete g.edc (g.part ++ b ∷ []) ≡ v
      → Hears from b (record g { from = from; part = g.part ++ b ∷ []; ended = v })
  adds g from b cut h true whole =
      let part : List ℕ = g.part ++ b ∷ [] in
      let long = length-append g.part (b ∷ []) in
      rw h.none_held (ends_item g from part from b from [] h
      (joined g.part g.from from b cut ∙ sym (append-nil (sent_by from part)))
      (omega (arith, long)) (λ k. grows g.edc g.part b k h.incomplete) (inl whole)
      (none_is_short g.edc))
  adds g from b cut h false whole =
      let part : List ℕ = g.part ++ b ∷ [] in
      let is : sent_by g.from g.part ++ (from, b) ∷ [] ≡ sent_by from part =
      joined g.part g.from from b cut in
      rw (append-nil items) (record {
        all = ap (λ hs. hs ++ (from, b) ∷ []) h.all
            ∙ append_assoc (flat_map heard_of items) (sent_by g.from g.part) ((from, b) ∷ [])
            ∙ ap (λ hs. flat_map heard_of items ++ hs) is;
        divided = subst (AreItems g.edc fresh items) is
            (items_longer g.edc fresh items (sent_by g.from g.part) ((from, b) ∷ []) h.divided);
        incomplete = λ k. any k (nat_lt k (length part)) refl;
        none_held = h.none_held;
        read = h.read;
      }) where
        any : (k : ℕ) (v : Bool) → nat_lt k (length (g.part ++ b ∷ [])) ≡ v
            → is_complete g.edc (take k (g.part ++ b ∷ [])) ≡ false
        any k true few = grows g.edc g.part b k h.incomplete (grind (arith, few))
        any k false few =
            ap (is_complete g.edc) (take_all k (g.part ++ b ∷ []) (grind (arith, few))) ∙ whole

  pub hears_so : (e now : Ear) (from : End) (b : ℕ) → now ≡ hears e from b
      → HasHeard heard items (goes_on e) → Hears from b now
  hears_so e now from b is h = subst (Hears from b) (sym is) (by (goes_on e) h) where
    by : (g : Ear) → HasHeard heard items g → Hears from b (hears_next g from b)
    by g h = at (is_cut g.part g.from from) refl where
      at : (v : Bool) → is_cut g.part g.from from ≡ v → Hears from b (hears_on v g from b)
      at true cut =
          let by = cut_by g.part g.from from cut in
          ends_item g g.from g.part from b (peer g.from) (b ∷ []) h
          (ap (λ end. sent_by g.from g.part ++ (end, b) ∷ []) by.0) by.1 (λ k few. h.incomplete k)
          (inr refl) (one_is_short g.edc b)
      at false cut = adds g from b cut h (is_complete g.edc (g.part ++ b ∷ [])) refl

-- ---- a reset

begun : (e : Ear) → e.part ≡ [] → e.held ≡ [] → e.reading ≡ fresh → HasHeard [] [] e
begun e part held reading = record {
  all = rw part refl;
  divided = tt;
  incomplete = rw part (none_is_short e.edc);
  none_held = held;
  read = reading;
}

nothing : (bytes : List ℕ) → more bytes ≡ false → bytes ≡ []
nothing [] none = refl
nothing (b ∷ bytes) none = absurd (cc)

stopped_at : (g : Ear) → is_complete g.edc g.part ≡ false → g.held ≡ [] → (v : Bool)
    → more g.part ≡ v → HasHeard [] [] (goes_on_from v (record g { ended = v; reading = fresh }))
stopped_at g incomplete none_held true some =
    begun (goes_on_from true (record g { ended = true; reading = fresh })) none_held refl
    (rw incomplete refl)
stopped_at g incomplete none_held false none = begun _ (nothing g.part none) none_held refl

pub stopped : (heard : List Heard) (items : List Item) (e now : Ear) → now ≡ stops e
    → HasHeard heard items (goes_on e) → HasHeard [] [] (goes_on now)
stopped heard items e now is h =
    let g : Ear = goes_on e in
    subst (λ x. HasHeard [] [] (goes_on x)) (sym is)
    (stopped_at g (ap (is_complete g.edc) (sym (take-length g.part)) ∙ h.incomplete (length g.part))
    h.none_held (more g.part) refl)

-- ---- a whole valid block

abbrev head_of : Heard → List Heard → Heard
head_of c [] = c
head_of c (d ∷ ds) = d

abbrev tail_of : List Heard → List Heard
tail_of [] = []
tail_of (d ∷ ds) = ds

-- of two runs that begin the same bytes, the shorter one is the first bytes of the other
front_of : (f g : End) (xs ys : List ℕ) (tail more : List Heard)
    → sent_by f xs ++ tail ≡ sent_by g ys ++ more → length xs ≤ length ys
    → (take (length xs) ys ≡ xs) × (tail ≡ sent_by g (drop (length xs) ys) ++ more)
front_of f g [] ys tail more is few = (refl, is)
front_of f g (a ∷ xs) [] tail more is few = absurd (omega (arith, few))
front_of f g (a ∷ xs) (b ∷ ys) tail more is few =
    let rest = front_of f g xs ys tail more (ap tail_of is) (omega (arith, few)) in (
      ap (λ zs. b ∷ zs) rest.0
          ∙ ap (λ c. c ∷ xs) (sym (ap (λ (cs : List Heard). (head_of (f, a) cs).1) is)),
      rest.1,
    )

same_from : (f g : End) (xs ys : List ℕ) (tail more : List Heard) → 0 < length xs
    → 0 < length ys → sent_by f xs ++ tail ≡ sent_by g ys ++ more → f ≡ g
same_from f g [] ys tail more some any is = absurd (omega (arith, some))
same_from f g xs [] tail more some any is = absurd (omega (arith, any))
same_from f g (a ∷ xs) (b ∷ ys) tail more some any is =
    ap (λ (cs : List Heard). (head_of (f, a) cs).0) is

valid_is_complete : (edc : Edc) (bytes : List ℕ) (b : Block) → found_in edc bytes ≡ Valid b
    → is_complete edc bytes ≡ true
valid_is_complete edc bytes b is = by (is_complete edc bytes) refl where
  by : (v : Bool) → is_complete edc bytes ≡ v → is_complete edc bytes ≡ true
  by true e = e
  by false e =
      absurd (let cut : found_in edc bytes ≡ Cut = rw e refl in (let no = sym cut ∙ is in cc))

-- what an end sends does not cut off its own item
not_own : (from : End) (bytes : List ℕ) (more : List Heard) → 0 < length bytes
    → IsOther from (sent_by from bytes ++ more) → ⊥
not_own from [] more some is = omega (arith, some)
not_own Terminal (b ∷ bytes) more some is = cc
not_own Card (b ∷ bytes) more some is = cc

complete_is_some : (edc : Edc) (bytes : List ℕ) → is_complete edc bytes ≡ true → 0 < length bytes
complete_is_some edc [] is = absurd (cc)
complete_is_some edc (b ∷ bytes) is = omega arith

later_items : (edc : Edc) (r : Reading) (xs ys : List Item) (rest : List Heard)
    → AreItems edc r (xs ++ ys) rest → AreItems edc (after_items r xs) ys rest
later_items edc r [] ys rest are = are
later_items edc r (x ∷ xs) ys rest are =
    later_items edc (reads r x.from x.found).1 xs ys rest are.1

module _ (heard more : List Heard) (xs ys : List Item) (e : Ear) (from : End) (bytes : List ℕ)
    (b : Block) (h : HasHeard heard (xs ++ ys) e)
    (is : heard ≡ flat_map heard_of xs ++ (sent_by from bytes ++ more))
    (valid : found_in e.edc bytes ≡ Valid b)
    (none_sooner : (k : ℕ) → k < length bytes → is_complete e.edc (take k bytes) ≡ false) where
  whole : is_complete e.edc bytes ≡ true
  whole = valid_is_complete e.edc bytes b valid

  -- no first part of these is the block
  too_short : (part : List ℕ) → is_complete e.edc (take (length bytes) part) ≡ false
      → take (length bytes) part ≡ bytes → ⊥
  too_short part none is = let not_so = sym (ap (is_complete e.edc) is) ∙ none in
      let sure = whole in cc

  first_is : (r : Reading) (i : Item) (tail : List Heard) → IsItem e.edc r i tail → i.from ≡ from
      → sent_by i.from i.bytes ++ tail ≡ sent_by from bytes ++ more → i.bytes ≡ bytes
  first_is r i tail item end is =
      elim (cases_order (length i.bytes) (length bytes)) [
        | inl same ↦ sym (front_of i.from from i.bytes bytes tail more is (omega (arith, same))).0
            ∙ take_all (length i.bytes) bytes (omega (arith, same))
        | inr (inl short) ↦ absurd (too_soon short item.ends)
        | inr (inr long) ↦ absurd (too_short i.bytes (item.not_sooner (length bytes) long)
            (front_of from i.from bytes i.bytes more tail (sym is) (omega (arith, long))).0)
      ] where
        too_soon : length i.bytes < length bytes → (is_complete e.edc i.bytes ≡ true)
            ⊎ IsOther i.from tail → ⊥
        too_soon short ends =
            let front = front_of i.from from i.bytes bytes tail more is (omega (arith, short)) in
            let left = length-drop (length i.bytes) bytes in
            elim ends [
              | inl sure ↦ let not_so = sym (ap (is_complete e.edc) front.0)
                  ∙ none_sooner (length i.bytes) short in cc
              | inr other ↦ not_own i.from (drop (length i.bytes) bytes) more
                  (omega (arith, left, short))
                  (subst (IsOther i.from) (front.1 ∙ ap (λ f. sent_by f
                  (drop (length i.bytes) bytes)
                  ++ more) (sym end)) other)
            ]

  at : (r : Reading) (items : List Item) → AreItems e.edc r items (sent_by e.from e.part)
      → flat_map heard_of items ++ sent_by e.from e.part ≡ sent_by from bytes ++ more
      → IsNext items from bytes b
  at r [] are is =
      let long = ap length is in
      let all = length-append (sent_by from bytes) more in
      let part = length-map {B = Heard} e.part (λ c. (e.from, c)) in
      let own = length-map {B = Heard} bytes (λ c. (from, c)) in
      absurd (too_short e.part (h.incomplete (length bytes))
      (front_of from e.from bytes e.part more [] (sym (append-nil (sent_by e.from e.part) ∙ is))
      (omega (arith, long, all, part, own))).0)
  at r (i ∷ items) are is =
      let tail : List Heard = flat_map heard_of items ++ sent_by e.from e.part in
      let both : heard_of i ++ tail ≡ sent_by from bytes ++ more =
      sym (append_assoc (heard_of i) (flat_map heard_of items) (sent_by e.from e.part)) ∙ is in
      let end = same_from i.from from i.bytes bytes tail more are.0.some
      (complete_is_some e.edc bytes whole) both in
      let same = first_is r i tail are.0 end both in
      (end, same, ap (λ (j : Item). j.found) are.0.is ∙ ap (found_in e.edc) same ∙ valid)

  pub whole_block : IsNext ys from bytes b
  whole_block =
      at (after_items fresh xs) ys
      (later_items e.edc fresh xs ys (sent_by e.from e.part) h.divided)
      (append_cancel_left (flat_map heard_of xs) _ _
      (sym (append_assoc (flat_map heard_of xs) (flat_map heard_of ys) (sent_by e.from e.part))
      ∙ ap (λ hs. hs ++ sent_by e.from e.part) (sym (flat_map-append heard_of xs ys))
      ∙ sym h.all ∙ is))
