-- A forest as the list of its objects.
use Rattle.std.proofs.Common.{◌≡◌, ℕ, zero, suc, ◌+◌, ◌<◌, ◌≤◌, get_or, take, min, max, List, [], ◌∷◌, ◌++◌, length, refl, sym, ap, ◌∙◌, subst, append_assoc, length-append, arith}
use Rattle.std.proofs.Common.{Option, Some, None, Bor, slice_get, option_copied}
use Rattle.std.specs.Slice.{IsItemAt}
use Rattle.std.specs.declared.alloc.Allocator.{Ghosts}
use Rattle.std.proofs.lemmas.List.{take_more, append-nil}
use Rattle.tlv_core.specs.Nodes.{IsKept}
use Rattle.std.proofs.lemmas.Option.{slice_get_past, slice_get_read}
use Rattle.tlv_core.specs.Length.{shortest}
use Rattle.tlv_core.specs.Spelling.{Forest, Empty, Primitive, Template, encoding, object_bytes, levels, longest, deepest, HasSoundObjects}
use Rattle.tlv_core.specs.Items.{Item, PrimitiveItem, TemplateItem, items, forest_of, with_first, with_last}

pub items-forest_of : (ns : List Item) → items (forest_of ns) ≡ ns
items-forest_of [] = refl
items-forest_of (PrimitiveItem tag value ∷ ns) =
    ap (λ x. PrimitiveItem tag value ∷ x) (items-forest_of ns)
items-forest_of (TemplateItem tag children ∷ ns) =
    ap (λ x. TemplateItem tag children ∷ x) (items-forest_of ns)

pub forest_of-push : (ns : List Item) (n : Item) → forest_of (ns ++ n ∷ [])
    ≡ with_last (forest_of ns) n
forest_of-push [] n = refl
forest_of-push (PrimitiveItem tag value ∷ ns) n =
    ap (λ x. Primitive tag value x) (forest_of-push ns n)
forest_of-push (TemplateItem tag children ∷ ns) n =
    ap (λ x. Template tag children x) (forest_of-push ns n)

pub encoding-with_last : (f : Forest) (n : Item) → encoding (with_last f n) ≡ encoding f
    ++ encoding (with_first n Empty)
encoding-with_last Empty n = refl
encoding-with_last (Primitive tag value rest) n =
    ap (λ x. object_bytes tag value ++ x) (encoding-with_last rest n)
    ∙ sym (append_assoc (object_bytes tag value) (encoding rest)
    (encoding (with_first n Empty)))
encoding-with_last (Template tag children rest) n =
    ap (λ x. object_bytes tag (encoding children) ++ x) (encoding-with_last rest n)
    ∙ sym (append_assoc (object_bytes tag (encoding children)) (encoding rest)
    (encoding (with_first n Empty)))

pub levels-with_last : (f : Forest) (n : Item) → levels (with_last f n)
    ≡ max (levels f) (levels (with_first n Empty))
levels-with_last Empty n = omega arith
levels-with_last (Primitive tag value rest) n = omega (arith, levels-with_last rest n)
levels-with_last (Template tag children rest) n = omega (arith, levels-with_last rest n)

pub sound-with_last : (f : Forest) (n : Item) → HasSoundObjects f
    → HasSoundObjects (with_first n Empty) → HasSoundObjects (with_last f n)
sound-with_last Empty n h k = k
sound-with_last (Primitive tag value rest) n (t, kind, size, more) k =
    (t, kind, size, sound-with_last rest n more k)
sound-with_last (Template tag children rest) n (t, kind, size, inner, more) k =
    (t, kind, size, inner, sound-with_last rest n more k)

-- the written size of a longer forest is the sum of both sizes, up to a bound
pub written-with_last : (f : Forest) (n : Item) (most : ℕ) →
    min (length (encoding (with_last f n))) most
    ≡ min (min (length (encoding f)) most + length (encoding (with_first n Empty))) most
written-with_last f n most =
    omega (
      arith,
      ap length (encoding-with_last f n),
      length-append (encoding f)
          (encoding (with_first n Empty)),
    )

-- a look-up returns the element with that index
pub item_lent : {X : Type 0} (xs : List X) (i : ℕ) (r : Option (Bor X)) → IsItemAt xs i r
    → option_copied r ≡ slice_get xs i
item_lent xs i None h = sym (slice_get_past xs i h.3)
item_lent xs i (Some x) h = sym (slice_get_read xs (length xs) i x.now refl h.3.0 h.1)

-- the invariant of a forest holds after one more object
pub kept-push : {A : Type 0} {allocator : Ghosts A} (ns : List Item) (n : Item)
    (written depth size deep written' depth' : ℕ) → IsKept allocator (forest_of ns) written depth
    → HasSoundObjects (with_first n Empty) → size ≡ length (encoding (with_first n Empty)) → deep
    ≡ levels (with_first n Empty) → deep ≤ deepest
    → written' ≡ min (written + size) 65536 → depth' ≡ max depth deep
    → IsKept allocator (forest_of (ns ++ n ∷ [])) written' depth'
kept-push ns n written depth size deep written' depth' h sound is_size is_deep in_depth is_written
    is_depth =
    let deeper = levels-with_last (forest_of ns) n in
    let more = written-with_last (forest_of ns) n 65536 in
    let was_deep = h.writable.in_depth in
    rw forest_of-push (record {
      writable = record {
        sound = sound-with_last (forest_of ns) n h.writable.sound sound;
        in_depth = omega arith;
      };
      written_is = omega (arith, h.written_is);
      depth_is = omega (arith, h.depth_is);
    })

-- each object of a sound forest is sound
pub sound_at : (ns : List Item) (i : ℕ) (n : Item) → i < length ns → n ≡ get_or ns i n
    → HasSoundObjects (forest_of ns) → HasSoundObjects (with_first n Empty)
sound_at [] i n within is h = absurd (omega arith)
sound_at (PrimitiveItem tag value ∷ ns) zero n within is (t, k, size, more) = rw is (t, k, size, tt)
sound_at (TemplateItem tag children ∷ ns) zero n within is (t, k, size, inner, more) =
    rw is (t, k, size, inner, tt)
sound_at (PrimitiveItem tag value ∷ ns) (suc i) n within is (t, k, size, more) =
    sound_at ns i n (omega arith) is more
sound_at (TemplateItem tag children ∷ ns) (suc i) n within is (t, k, size, inner, more) =
    sound_at ns i n (omega arith) is more

-- the encoding of one more object follows that of the others
pub encoding-more : (ns : List Item) (i : ℕ) (n : Item) → i < length ns → n ≡ get_or ns i n
    → encoding (forest_of (take (i + 1) ns)) ≡ encoding (forest_of (take i ns))
    ++ encoding (with_first n Empty)
encoding-more ns i n within is =
    rw (take_more ns i n within, ← is, forest_of-push)
    (encoding-with_last (forest_of (take i ns)) n)

-- the values of a sound forest fit a length
pub primitive_fits : (ns : List Item) (i : ℕ) (n : Item) (tag value : List ℕ) → i < length ns → n
    ≡ get_or ns i n → PrimitiveItem tag value ≡ n
    → HasSoundObjects (forest_of ns) → length value ≤ longest
primitive_fits ns i n tag value within is e h =
    let P : Item → Type 0 = λ x. HasSoundObjects (with_first x Empty) in
    (subst P (sym e) (sound_at ns i n within is h)).2

pub template_fits : (ns : List Item) (i : ℕ) (n : Item) (tag : List ℕ) (children : Forest) → i
    < length ns → n ≡ get_or ns i n → TemplateItem tag children ≡ n
    → HasSoundObjects (forest_of ns) → length (encoding children) ≤ longest
template_fits ns i n tag children within is e h =
    let P : Item → Type 0 = λ x. HasSoundObjects (with_first x Empty) in
    (subst P (sym e) (sound_at ns i n within is h)).2

-- appending an object to the bytes of those before it
pub appended_object : (ns : List Item) (i : ℕ) (n : Item) (start now next : List ℕ) → i < length ns
    → n ≡ get_or ns i n
    → now ≡ start ++ encoding (forest_of (take i ns)) → next ≡ now ++ encoding (with_first n Empty)
    → next ≡ start ++ encoding (forest_of (take (i + 1) ns))
appended_object ns i n start now next within is before after =
    after ∙ rw (before, encoding-more ns i n within is) (simp append_assoc)

-- the encoding of one object
pub primitive_written : (n : Item) (tag value : List ℕ) → PrimitiveItem tag value ≡ n
    → object_bytes tag value ≡ encoding (with_first n Empty)
primitive_written n tag value e = rw (← e) (simp append-nil)

pub template_written : (n : Item) (tag : List ℕ) (children : Forest) (len : ℕ)
    → TemplateItem tag children ≡ n → len ≡ length (encoding children)
    → (tag ++ shortest len) ++ encoding children ≡ encoding (with_first n Empty)
template_written n tag children len e size = rw (← e, size) (simp append-nil)

-- the size that a forest stores is the size of the template value that it becomes
pub kept_size : {A : Type 0} {allocator : Ghosts A} (f g : Forest) (written depth : ℕ)
    → IsKept allocator f written depth → f ≡ g → length (encoding g) ≤ longest → written
    ≡ length (encoding g)
kept_size f g written depth h e fits =
    let same : length (encoding f) ≡ length (encoding g) = ap (λ x. length (encoding x)) e in
    omega (arith, h.written_is)
