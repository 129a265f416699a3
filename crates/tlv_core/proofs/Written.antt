-- The encoding of a list of objects spells it, and no shorter bytes do.
use Rattle.std.proofs.Common.{◌≡◌, ℕ, suc, ◌+◌, ◌-◌, ◌≤◌, List, [], ◌++◌, length, refl, ap, ◌∙◌, length-append, arith}
use Rattle.std.proofs.lemmas.List.Elements.{All-nil}
use Rattle.tlv_core.specs.TagForm.{IsTag}
use Rattle.tlv_core.specs.Length.{shortest}
use Rattle.tlv_core.specs.Spelling.{Forest, Empty, Primitive, Template, Begins, Spells, encoding, object_bytes, levels, HasSoundObjects, IsWritable, deepest}
use Rattle.tlv_core.proofs.Shortest.{shortest_spells, shortest_below, spelled_below}

begins_written : (tag value rest : List ℕ) (level : ℕ) → IsTag tag → length value ≤ 65535 → level
    ≤ deepest
    → Begins (object_bytes tag value ++ rest) [] tag (shortest (length value)) value rest level
begins_written tag value rest level t n d = record {
  spelled = refl;
  is_padding = All-nil (λ b. b ≡ 0);
  is_tag = t;
  is_size = shortest_spells (length value) n;
  in_depth = d;
}

pub spelled_when_written : (f : Forest) (level : ℕ) → HasSoundObjects f → levels f + level
    ≤ suc deepest → Spells f (encoding f) level
spelled_when_written Empty level h d = All-nil (λ b. b ≡ 0)
spelled_when_written (Primitive tag value rest) level (t, k, n, more) d = (
  [],
  shortest (length value),
  encoding rest,
  begins_written tag value (encoding rest) level t n
      (omega arith),
  k,
  spelled_when_written rest level more (omega arith),
)
spelled_when_written (Template tag children rest) level (t, k, n, inner, more) d = (
  [],
  shortest (length (encoding children)),
  encoding children,
  encoding rest,
  begins_written tag (encoding children) (encoding rest) level t n (omega arith),
  k,
  spelled_when_written children (suc level) inner (omega arith),
  spelled_when_written rest level more (omega arith),
)

size_of_object : (tag value rest : List ℕ) → length (object_bytes tag value ++ rest) ≡ length tag
    + length (shortest (length value)) + length value + length rest
size_of_object tag value rest = simp length-append

size_of_spelled : (bytes padding tag size value rest : List ℕ) (level : ℕ)
    → Begins bytes padding tag size value rest level
    → length bytes ≡ length padding + length tag + length size + length value + length rest
size_of_spelled bytes padding tag size value rest level h = ap length h.spelled ∙ simp length-append

-- no shorter bytes spell these objects
pub shortest_encoding : (f : Forest) (bytes : List ℕ) (level : ℕ) → Spells f bytes level
    → length (encoding f) ≤ length bytes
shortest_encoding Empty bytes level h = omega arith
shortest_encoding (Primitive tag value rest) bytes level (p, s, more, begins, kind, others) =
    let rests = shortest_encoding rest more level others in
    let heads = shortest_below s (length value) (length value) (omega arith) begins.is_size in
    omega (
      arith,
      size_of_object tag value (encoding rest),
      size_of_spelled bytes p tag s value more
          level begins,
    )
shortest_encoding (Template tag children rest) bytes level
    (p, s, value, more, begins, kind, inner, others) =
    let rests = shortest_encoding rest more level others in
    let below = shortest_encoding children value (suc level) inner in
    let heads = shortest_below s (length (encoding children)) (length value) below begins.is_size in
    omega (
      arith,
      size_of_object tag (encoding children) (encoding rest),
      size_of_spelled bytes p
          tag s value more level begins,
    )

-- a forest that some bytes spell can be written
pub sound_when_spelled : (f : Forest) (bytes : List ℕ) (level : ℕ) → Spells f bytes level
    → HasSoundObjects f
sound_when_spelled Empty bytes level h = tt
sound_when_spelled (Primitive tag value rest) bytes level (p, s, more, begins, kind, others) = (
  begins.is_tag,
  kind,
  spelled_below s (length value) begins.is_size,
  sound_when_spelled rest
      more level others,
)
sound_when_spelled (Template tag children rest) bytes level
    (p, s, value, more, begins, kind, inner, others) =
    let below = shortest_encoding children value (suc level) inner in
    let size = spelled_below s (length value) begins.is_size in (
      begins.is_tag,
      kind,
      omega arith,
      sound_when_spelled children value
          (suc level) inner,
      sound_when_spelled rest more level others,
    )

pub levels_when_spelled : (f : Forest) (bytes : List ℕ) (level : ℕ) → Spells f bytes level
    → levels f ≤ suc deepest - level
levels_when_spelled Empty bytes level h = omega arith
levels_when_spelled (Primitive tag value rest) bytes level (p, s, more, begins, kind, others) =
    let d = begins.in_depth in let rests = levels_when_spelled rest more level others in omega arith
levels_when_spelled (Template tag children rest) bytes level
    (p, s, value, more, begins, kind, inner, others) =
    let d = begins.in_depth in
    let below = levels_when_spelled children value (suc level) inner in
    let rests = levels_when_spelled rest more level others in omega arith

pub spelled_at_top : (f : Forest) → IsWritable f → Spells f (encoding f) 1
spelled_at_top f h = spelled_when_written f 1 h.sound (let d = h.in_depth in omega arith)

pub writable_when_spelled : (f : Forest) (bytes : List ℕ) → Spells f bytes 1 → IsWritable f
writable_when_spelled f bytes h =
    record {
      sound = sound_when_spelled f bytes 1 h;
      in_depth =
          omega (arith, levels_when_spelled f bytes 1 h);
    }
