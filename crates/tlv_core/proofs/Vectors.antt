-- Rows computed from the definitions, and near misses.
use Rattle.std.proofs.Common.{◌≡◌, ℕ, [], ◌∷◌, refl, true, false, arith, inr}
use Rattle.tlv_core.specs.TagForm.{IsTag, is_constructed}
use Rattle.tlv_core.specs.Length.{SpellsLength, shortest}
use Rattle.tlv_core.specs.Address.{NamesTag}
use Rattle.tlv_core.specs.Spelling.{Empty, Primitive, Spells}
use Rattle.tlv_core.specs.FirstFault.{IsFirstFault}
use Rattle.tlv_core.specs.declared.fault.Reason.TheVariants.{TagCut, TagForm, ValueCut, TooDeep}
use Rattle.tlv_core.proofs.SpellingFacts.{spells_more, spells_primitive, All_nil}
use Rattle.tlv_core.specs.FaultLaws.{first_here}
use Rattle.tlv_core.proofs.FaultFacts.{first_past_padding, first_past_object, first_in_template}
use Rattle.tlv_core.proofs.Agree.{first_faults_agree}
use Rattle.tlv_core.specs.TagLaws.{front_second, front_cut_first}

tag_of_one_byte : IsTag (0x50 ∷ [])
tag_of_one_byte = (omega arith, omega arith, omega arith)

tag_of_two_bytes : IsTag (0x5F ∷ 0x20 ∷ [])
tag_of_two_bytes = (omega arith, refl, omega arith, omega arith)

tag_of_three_bytes : IsTag (0xDF ∷ 0x81 ∷ 0x01 ∷ [])
tag_of_three_bytes = (omega arith, refl, omega arith, omega arith, omega arith)

no_tag_of_zero : IsTag (0 ∷ []) → ⊥
no_tag_of_zero (low, high, last) = omega arith

more_bytes_follow : IsTag (0x9F ∷ []) → ⊥
more_bytes_follow (low, high, last) = last refl

second_byte_zero : IsTag (0x9F ∷ 0x00 ∷ []) → ⊥
second_byte_zero (low, all, some, few) = omega arith

second_byte_80 : IsTag (0x9F ∷ 0x80 ∷ []) → ⊥
second_byte_80 (low, all, some, few) = omega arith

second_byte_80_of_three : IsTag (0x9F ∷ 0x80 ∷ 0x01 ∷ []) → ⊥
second_byte_80_of_three (low, all, some, few, third) = omega arith

third_byte_80 : IsTag (0x9F ∷ 0x81 ∷ 0x80 ∷ []) → ⊥
third_byte_80 (low, all, some, few, third) = omega arith

template : is_constructed (0x70 ∷ []) ≡ true
template = refl

template_of_two_bytes : is_constructed (0xBF ∷ 0x0C ∷ []) ≡ true
template_of_two_bytes = refl

primitive : is_constructed (0x9F ∷ 0x20 ∷ []) ≡ false
primitive = refl

short_127 : shortest 127 ≡ 0x7F ∷ []
short_127 = refl

short_128 : shortest 128 ≡ 0x81 ∷ 0x80 ∷ []
short_128 = refl

short_255 : shortest 255 ≡ 0x81 ∷ 0xFF ∷ []
short_255 = refl

short_256 : shortest 256 ≡ 0x82 ∷ 0x01 ∷ 0x00 ∷ []
short_256 = refl

short_2048 : shortest 2048 ≡ 0x82 ∷ 0x08 ∷ 0x00 ∷ []
short_2048 = refl

long_spelling_of_1 : SpellsLength (0x82 ∷ 0x00 ∷ 0x01 ∷ []) 1
long_spelling_of_1 = (refl, omega arith, omega arith, refl)

no_length_80 : (n : ℕ) → SpellsLength (0x80 ∷ []) n → ⊥
no_length_80 n (low, is) = omega arith

no_length_83 : (n : ℕ) → SpellsLength (0x83 ∷ 0x00 ∷ 0x01 ∷ []) n → ⊥
no_length_83 n (first, second, third, is) = omega arith

address_50 : NamesTag (0x50 ∷ []) 0x00 0x50
address_50 = (omega arith, omega arith, omega arith, refl, refl)

address_5F20 : NamesTag (0x5F ∷ 0x20 ∷ []) 0x5F 0x20
address_5F20 = (omega arith, omega arith, refl, omega arith, omega arith, refl, refl)

address_FF7F : NamesTag (0xFF ∷ 0x7F ∷ []) 0xFF 0x7F
address_FF7F = (omega arith, omega arith, refl, omega arith, omega arith, refl, refl)

below_40 : (p1 p2 : ℕ) → NamesTag (0x3E ∷ []) p1 p2 → ⊥
below_40 p1 p2 (low, high, last, first, second) = omega arith

first_byte_3F : (p1 p2 : ℕ) → NamesTag (0x3F ∷ 0x20 ∷ []) p1 p2 → ⊥
first_byte_3F p1 p2 (low, high, all, some, few, first, second) = omega arith

no_address_of_three_bytes : (p1 p2 : ℕ) → NamesTag (0xDF ∷ 0x81 ∷ 0x01 ∷ []) p1 p2 → ⊥
no_address_of_three_bytes p1 p2 h = h

no_tag_at_00FF : NamesTag (0xFF ∷ []) 0x00 0xFF → ⊥
no_tag_at_00FF (low, high, last, first, second) = omega arith

-- 50 81 01 41 between padding is one object 50 = 41.
padded_object : Spells (Primitive (0x50 ∷ []) (0x41 ∷ []) Empty)
    (0x00 ∷ 0x50 ∷ 0x81 ∷ 0x01 ∷ 0x41 ∷ 0x00 ∷ []) 1
padded_object = spells_more (Primitive (0x50 ∷ []) (0x41 ∷ []) Empty)
    (0x50 ∷ 0x81 ∷ 0x01 ∷ 0x41 ∷ 0x00 ∷ []) 1
    (spells_primitive (0x50 ∷ 0x81 ∷ 0x01 ∷ 0x41 ∷ 0x00 ∷ []) (0x50 ∷ []) (0x81 ∷ 0x01 ∷ [])
    (0x41 ∷ []) (0x00 ∷ []) 1 Empty
    (record { spelled = refl; is_tag = tag_of_one_byte; is_size = (refl, omega arith, refl) })
    (omega arith) refl
    (spells_more Empty [] 1 All_nil))

template_tag : IsTag (0x70 ∷ [])
template_tag = (omega arith, omega arith, omega arith)

-- The value of 50 extends four bytes past the end.
cut_value : IsFirstFault (0x50 ∷ 0x05 ∷ 0x41 ∷ []) 1 0 ValueCut
cut_value = first_here (0x50 ∷ 0x05 ∷ 0x41 ∷ []) 1 ValueCut (λ e. omega arith) (
  omega arith,
  (
    0x50 ∷ [],
    0x05 ∷ [],
    0x41 ∷ [],
    5,
    tag_of_one_byte,
    (omega arith, refl),
    refl,
    omega arith,
  ),
)

-- The fault is that of the innermost object, not of the template around it.
cut_value_in_template : IsFirstFault (0x70 ∷ 0x03 ∷ 0x50 ∷ 0x02 ∷ 0xAA ∷ []) 1 2 ValueCut
cut_value_in_template =
    first_in_template (0x70 ∷ 0x03 ∷ 0x50 ∷ 0x02 ∷ 0xAA ∷ []) (0x70 ∷ []) (0x03 ∷ [])
    (0x50 ∷ 0x02 ∷ 0xAA ∷ []) [] 1 0 ValueCut
    (record { spelled = refl; is_tag = template_tag; is_size = (omega arith, refl) })
    (omega arith) refl
    (first_here (0x50 ∷ 0x02 ∷ 0xAA ∷ []) 2 ValueCut (λ e. omega arith) (
      omega arith,
      (
        0x50 ∷ [],
        0x02 ∷ [],
        0xAA ∷ [],
        2,
        tag_of_one_byte,
        (omega arith, refl),
        refl,
        omega arith,
      ),
    ))

not_the_template : IsFirstFault (0x70 ∷ 0x03 ∷ 0x50 ∷ 0x02 ∷ 0xAA ∷ []) 1 0 ValueCut → ⊥
not_the_template h =
    let same = first_faults_agree (0x70 ∷ 0x03 ∷ 0x50 ∷ 0x02 ∷ 0xAA ∷ []) 1 2 0 ValueCut ValueCut
    cut_value_in_template h in omega (arith, same.0)

-- A fault after an object and padding.
cut_value_behind : IsFirstFault (0x50 ∷ 0x01 ∷ 0x41 ∷ 0x00 ∷ 0x50 ∷ 0x02 ∷ 0x41 ∷ []) 1 4 ValueCut
cut_value_behind =
    first_past_object (0x50 ∷ 0x01 ∷ 0x41 ∷ 0x00 ∷ 0x50 ∷ 0x02 ∷ 0x41 ∷ []) (0x50 ∷ []) (0x01 ∷ [])
    (0x41 ∷ []) (0x00 ∷ 0x50 ∷ 0x02 ∷ 0x41 ∷ []) 1 1 ValueCut
    (record { spelled = refl; is_tag = tag_of_one_byte; is_size = (omega arith, refl) })
    (omega arith) (λ is. cc)
    (first_past_padding (0x50 ∷ 0x02 ∷ 0x41 ∷ []) 1 0 ValueCut
    (first_here (0x50 ∷ 0x02 ∷ 0x41 ∷ []) 1 ValueCut (λ e. omega arith) (
      omega arith,
      (
        0x50 ∷ [],
        0x02 ∷ [],
        0x41 ∷ [],
        2,
        tag_of_one_byte,
        (omega arith, refl),
        refl,
        omega arith,
      ),
    )))

-- 9F alone ends inside a tag. 9F 80 starts no tag, even though the bytes end there.
cut_tag : IsFirstFault (0x9F ∷ []) 1 0 TagCut
cut_tag = first_here (0x9F ∷ []) 1 TagCut (λ e. omega arith)
    (omega arith, front_cut_first (0x9F ∷ []) (omega arith) (omega arith) refl)

no_tag_9F80 : IsFirstFault (0x9F ∷ 0x80 ∷ []) 1 0 TagForm
no_tag_9F80 =
    let h = front_second (0x9F ∷ 0x80 ∷ []) (omega arith) refl (inr refl) in
    first_here (0x9F ∷ 0x80 ∷ []) 1 TagForm (λ e. omega arith) (omega arith, h.0, h.1)

-- Below the deepest level even half a tag is too deep.
half_a_tag_too_deep : IsFirstFault (0x9F ∷ []) 17 0 TooDeep
half_a_tag_too_deep = first_here (0x9F ∷ []) 17 TooDeep (λ e. omega arith) (omega arith)

not_a_cut_tag : IsFirstFault (0x9F ∷ []) 17 0 TagCut → ⊥
not_a_cut_tag h = let same = first_faults_agree
    (0x9F ∷ []) 17 0 0 TooDeep TagCut half_a_tag_too_deep h in let e : TooDeep ≡ TagCut = same.1 in
    cc
