-- Lists of objects, bytes that spell them, their encoding, and near misses.
use Rattle.std.proofs.Common.{◌≡◌, ℕ, zero, suc, List, [], ◌∷◌, ◌++◌, refl, arith}
use Rattle.std.specs.List.{All}
use Rattle.std.proofs.lemmas.List.Elements.{All-nil, All-cons}
use Rattle.tlv_core.proofs.OneForest.{same_forest}
use Rattle.tlv_core.specs.Spelling.{Forest, Empty, Primitive, Template, Spells, encoding, levels}

abbrev Zero : ℕ → Type 0
Zero b = b ≡ 0

abbrev no_padding : All Zero []
no_padding = All-nil Zero

one_zero : All Zero (0 ∷ [])
one_zero = All-cons Zero 0 [] refl no_padding

two_zeros : All Zero (0 ∷ 0 ∷ [])
two_zeros = All-cons Zero 0 (0 ∷ []) refl one_zero

-- n templates, each inside the one before
abbrev nested : ℕ → Forest
nested zero = Empty
nested (suc n) = Template (0x70 ∷ []) (nested n) Empty

abbrev name : List ℕ
name = 0xA0 ∷ 0x00 ∷ 0x00 ∷ 0x00 ∷ 0x03 ∷ 0x10 ∷ 0x10 ∷ []

abbrev information : Forest
information = Template (0x6F ∷ []) (Primitive (0x84 ∷ []) name Empty) Empty

written_information : encoding information ≡ (0x6F ∷ 0x09 ∷ 0x84 ∷ 0x07 ∷ []) ++ name
written_information = refl

information_spelled : Spells information ((0x6F ∷ 0x09 ∷ 0x84 ∷ 0x07 ∷ []) ++ name) 1
information_spelled = (
  [],
  0x09 ∷ [],
  (0x84 ∷ 0x07 ∷ []) ++ name,
  [],
  record {
    spelled = refl;
    is_padding = no_padding;
    is_tag =
        (omega arith, omega arith, omega arith);
    is_size = (omega arith, refl);
    in_depth =
        omega arith;
  },
  refl,
  (
    [],
    0x07 ∷ [],
    [],
    record {
      spelled = refl;
      is_padding = no_padding;
      is_tag =
          (omega arith, omega arith, omega arith);
      is_size = (omega arith, refl);
      in_depth =
          omega arith;
    },
    refl,
    no_padding,
  ),
  no_padding,
)

abbrev two_objects : Forest
two_objects = Primitive (0x5A ∷ []) (0x12 ∷ [])
    (Primitive (0x9F ∷ 0x02 ∷ []) (0x00 ∷ 0xFF ∷ []) Empty)

padding_is_not_written : encoding two_objects ≡ 0x5A ∷ 0x01 ∷ 0x12 ∷ 0x9F ∷ 0x02 ∷ 0x02 ∷ 0x00
    ∷ 0xFF ∷ []
padding_is_not_written = refl

padding_round_objects : Spells two_objects
    (0x00 ∷ 0x00 ∷ 0x5A ∷ 0x01 ∷ 0x12 ∷ 0x00 ∷ 0x9F ∷ 0x02 ∷ 0x02 ∷ 0x00 ∷ 0xFF ∷ 0x00 ∷ 0x00 ∷ [])
    1
padding_round_objects = (
  0 ∷ 0 ∷ [],
  0x01 ∷ [],
  0x00 ∷ 0x9F ∷ 0x02 ∷ 0x02 ∷ 0x00 ∷ 0xFF ∷ 0x00 ∷ 0x00 ∷ [],
  record {
    spelled = refl;
    is_padding = two_zeros;
    is_tag = (omega arith, omega arith, omega arith);
    is_size = (omega arith, refl);
    in_depth = omega arith;
  },
  refl,
  (
    0 ∷ [],
    0x02 ∷ [],
    0x00 ∷ 0x00 ∷ [],
    record {
      spelled = refl;
      is_padding = one_zero;
      is_tag =
          (omega arith, refl, omega arith, omega arith);
      is_size = (omega arith, refl);
      in_depth =
          omega arith;
    },
    refl,
    two_zeros,
  ),
)

padding_alone : Spells Empty (0x00 ∷ []) 1
padding_alone = one_zero

padding_alone_below_the_deepest : Spells Empty (0x00 ∷ []) 17
padding_alone_below_the_deepest = one_zero

padding_in_a_template : Spells (nested 1) (0x70 ∷ 0x02 ∷ 0x00 ∷ 0x00 ∷ []) 1
padding_in_a_template = (
  [],
  0x02 ∷ [],
  0x00 ∷ 0x00 ∷ [],
  [],
  record {
    spelled = refl;
    is_padding = no_padding;
    is_tag =
        (omega arith, omega arith, omega arith);
    is_size = (omega arith, refl);
    in_depth =
        omega arith;
  },
  refl,
  two_zeros,
  no_padding,
)

zeros_in_a_primitive : encoding (Primitive (0x50 ∷ []) (0x00 ∷ 0x00 ∷ []) Empty) ≡ 0x50 ∷ 0x02
    ∷ 0x00 ∷ 0x00 ∷ []
zeros_in_a_primitive = refl

empty_primitive : encoding (Primitive (0x50 ∷ []) [] Empty) ≡ 0x50 ∷ 0x00 ∷ []
empty_primitive = refl

empty_template : encoding (nested 1) ≡ 0x70 ∷ 0x00 ∷ []
empty_template = refl

tag_of_three_bytes : encoding (Primitive (0xDF ∷ 0x81 ∷ 0x01 ∷ []) (0x42 ∷ []) Empty) ≡ 0xDF ∷ 0x81
    ∷ 0x01 ∷ 0x01 ∷ 0x42 ∷ []
tag_of_three_bytes = refl

abbrev one_byte : Forest
one_byte = Primitive (0x50 ∷ []) (0xAA ∷ []) Empty

long_length_is_taken : Spells one_byte (0x50 ∷ 0x82 ∷ 0x00 ∷ 0x01 ∷ 0xAA ∷ []) 1
long_length_is_taken = (
  [],
  0x82 ∷ 0x00 ∷ 0x01 ∷ [],
  [],
  record {
    spelled = refl;
    is_padding = no_padding;
    is_tag =
        (omega arith, omega arith, omega arith);
    is_size =
        (refl, omega arith, omega arith, refl);
    in_depth = omega arith;
  },
  refl,
  no_padding,
)

short_length_is_written : encoding one_byte ≡ 0x50 ∷ 0x01 ∷ 0xAA ∷ []
short_length_is_written = refl

sixteen_levels : levels (nested 16) ≡ 16
sixteen_levels = refl

written_sixteen_levels : encoding (nested 16) ≡
    0x70 ∷ 0x1E ∷ 0x70 ∷ 0x1C ∷ 0x70 ∷ 0x1A ∷ 0x70 ∷ 0x18 ∷ 0x70 ∷ 0x16 ∷ 0x70 ∷ 0x14 ∷ 0x70 ∷ 0x12
    ∷ 0x70 ∷ 0x10
    ∷ 0x70 ∷ 0x0E ∷ 0x70 ∷ 0x0C ∷ 0x70 ∷ 0x0A ∷ 0x70 ∷ 0x08 ∷ 0x70 ∷ 0x06 ∷ 0x70 ∷ 0x04 ∷ 0x70
    ∷ 0x02 ∷ 0x70 ∷ 0x00 ∷ []
written_sixteen_levels = refl

no_object_at_level_17 : (bytes : List ℕ) → Spells (nested 1) bytes 17 → ⊥
no_object_at_level_17 bytes (p, s, v, more, begins, kind, inner, others) = let deep =
    begins.in_depth in omega arith

no_primitive_with_a_constructed_tag : (bytes : List ℕ)
    → Spells (Primitive (0x70 ∷ []) [] Empty) bytes 1 → ⊥
no_primitive_with_a_constructed_tag bytes (p, s, more, begins, kind, others) = cc

zeros_of_a_primitive_are_its_value : Spells (Primitive (0x50 ∷ []) [] Empty)
    (0x50 ∷ 0x02 ∷ 0x00 ∷ 0x00 ∷ []) 1 → ⊥
zeros_of_a_primitive_are_its_value h =
    let zeros : Spells (Primitive (0x50 ∷ []) (0x00 ∷ 0x00 ∷ []) Empty)
    (0x50 ∷ 0x02 ∷ 0x00 ∷ 0x00 ∷ []) 1 = (
      [],
      0x02 ∷ [],
      [],
      record {
        spelled = refl;
        is_padding = no_padding;
        is_tag =
            (omega arith, omega arith, omega arith);
        is_size = (omega arith, refl);
        in_depth =
            omega arith;
      },
      refl,
      no_padding,
    ) in
    let same = same_forest (Primitive (0x50 ∷ []) [] Empty)
    (Primitive (0x50 ∷ []) (0x00 ∷ 0x00 ∷ []) Empty) (0x50 ∷ 0x02 ∷ 0x00 ∷ 0x00 ∷ []) 1 h
    zeros in cc
