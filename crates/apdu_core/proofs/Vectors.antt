-- Worked values, computed from the definitions, and near misses.
use Rattle.std.proofs.Common.{◌≡◌, ◌≢◌, ℕ, List, [], ◌∷◌, ◌++◌, length, map, replicate, true, false, Option, Some, None, refl, arith, ap}
use Rattle.apdu_core.specs.declared.header.Header.{Header}
use Rattle.apdu_core.specs.HeaderBytes.{ins_is_valid}
use Rattle.apdu_core.specs.StatusWord.{is_first_status, IsStatusWord, announces, corrects}
use Rattle.apdu_core.specs.CommandBytes.{Command, IsCommand, HasInvalidIns, HasForm, command_bytes, lc_field, le_field}
use Rattle.apdu_core.specs.Chaining.{IsPieces, HavePieceSizes, with_more, as_last, chain_commands, ChainState, Accepts, idle, added}
use Rattle.apdu_core.specs.PieceList.{pieces_of}

abbrev header : ℕ → ℕ → ℕ → ℕ → Header
header cla ins p1 p2 = record { cla = cla; ins = ins; p1 = p1; p2 = p2 }

abbrev command : Header → List ℕ → Option ℕ → Command
command h content le = record { header = h; content = content; le = le }

-- ---- commands

case_one : command_bytes (command (header 0x00 0xA4 0x04 0x00) [] None)
    ≡ 0x00 ∷ 0xA4 ∷ 0x04 ∷ 0x00 ∷ []
case_one = refl

case_two_with_256 : command_bytes (command (header 0x00 0xCA 0x5F 0x20) [] (Some 256))
    ≡ 0x00 ∷ 0xCA ∷ 0x5F ∷ 0x20 ∷ 0x00 ∷ []
case_two_with_256 = refl

case_three : command_bytes (command (header 0x00 0xDA 0x5F 0x20) (0x41 ∷ []) None)
    ≡ 0x00 ∷ 0xDA ∷ 0x5F ∷ 0x20 ∷ 0x01 ∷ 0x41 ∷ []
case_three = refl

abbrev aid : List ℕ
aid = 0xA0 ∷ 0x00 ∷ 0x00 ∷ 0x00 ∷ 0x03 ∷ 0x10 ∷ 0x10 ∷ []

case_four_with_256 : command_bytes (command (header 0x00 0xA4 0x04 0x00) aid (Some 256))
    ≡ 0x00 ∷ 0xA4 ∷ 0x04 ∷ 0x00 ∷ 0x07 ∷ 0xA0 ∷ 0x00 ∷ 0x00 ∷ 0x00 ∷ 0x03 ∷ 0x10 ∷ 0x10 ∷ 0x00 ∷ []
case_four_with_256 = refl

case_four_is_a_command : IsCommand (command (header 0x00 0xA4 0x04 0x00) aid (Some 256))
case_four_is_a_command = record {
  valid_ins = refl;
  sizes = record { fits = omega arith; le_in_range = (omega arith, omega arith) };
}

-- the bytes after the header of 00A404000000, and of 00DA5F200241, fit no case
no_fields_of_two_zeros : (content : List ℕ) (le : Option ℕ) →
    lc_field content ++ le_field le ≢ 0x00 ∷ 0x00 ∷ []
no_fields_of_two_zeros [] None e = cc
no_fields_of_two_zeros [] (Some n) e = cc
no_fields_of_two_zeros (b ∷ bs) le e = let size : length (b ∷ bs) ≡ 0 = cc in absurd (omega arith)

data_cut_off : (content : List ℕ) (le : Option ℕ) →
    lc_field content ++ le_field le ≢ 0x02 ∷ 0x41 ∷ []
data_cut_off [] None e = cc
data_cut_off [] (Some n) e = cc
data_cut_off (b ∷ []) le e = let size : length (b ∷ []) ≡ 2 = cc in absurd (omega arith)
data_cut_off (b ∷ c ∷ bs) le e = cc

no_command_of_two_zeros : HasForm (0x00 ∷ 0xA4 ∷ 0x04 ∷ 0x00 ∷ 0x00 ∷ 0x00 ∷ []) → ⊥
no_command_of_two_zeros (c, sizes, e) =
    let rest : lc_field c.content ++ le_field c.le ≡ 0x00 ∷ 0x00 ∷ [] = cc in
    no_fields_of_two_zeros c.content c.le rest

no_command_of_cut_off_data : HasForm (0x00 ∷ 0xDA ∷ 0x5F ∷ 0x20 ∷ 0x02 ∷ 0x41 ∷ []) → ⊥
no_command_of_cut_off_data (c, sizes, e) =
    let rest : lc_field c.content ++ le_field c.le ≡ 0x02 ∷ 0x41 ∷ [] = cc in
    data_cut_off c.content c.le rest

invalid_ins : HasInvalidIns (command (header 0x00 0x60 0x00 0x00) [] (Some 256))
invalid_ins = record {
  invalid_ins = refl;
  sizes = record { fits = omega arith; le_in_range = (omega arith, omega arith) };
}

instructions : map ins_is_valid (0x5F ∷ 0x60 ∷ 0x6F ∷ 0x70 ∷ 0x8F ∷ 0x90 ∷ 0x9F ∷ 0xA0 ∷ 0xCA ∷ [])
    ≡ true ∷ false ∷ false ∷ true ∷ true ∷ false ∷ false ∷ true ∷ true ∷ []
instructions = refl

-- ---- status words

first_status_bytes :
    map is_first_status (0x60 ∷ 0x61 ∷ 0x6F ∷ 0x70 ∷ 0x8F ∷ 0x90 ∷ 0x9F ∷ 0xA0 ∷ [])
    ≡ false ∷ true ∷ true ∷ false ∷ false ∷ true ∷ true ∷ false ∷ []
first_status_bytes = refl

status_words : IsStatusWord (0x61, 0x00) × IsStatusWord (0x6F, 0xFF) × IsStatusWord (0x90, 0x00)
status_words = ((refl, omega arith), (refl, omega arith), (refl, omega arith))

no_60 : IsStatusWord (0x60, 0x00) → ⊥
no_60 h = cc

no_a0 : IsStatusWord (0xA0, 0x00) → ⊥
no_a0 h = cc

announced : map announces ((0x61, 0x00) ∷ (0x61, 0x0B) ∷ (0x6C, 0x06) ∷ (0x90, 0x00) ∷ [])
    ≡ Some 256 ∷ Some 11 ∷ None ∷ None ∷ []
announced = refl

corrected : map corrects ((0x6C, 0x06) ∷ (0x6C, 0x00) ∷ (0x61, 0x06) ∷ [])
    ≡ Some 6 ∷ Some 256 ∷ None ∷ []
corrected = refl

-- ---- pieces

abbrev sizes : ℕ → List ℕ
sizes n = map length (pieces_of (replicate n 0x42))

sizes_of_pieces : (sizes 0 ≡ 0 ∷ []) × (sizes 255 ≡ 255 ∷ []) × (sizes 256 ≡ 255 ∷ 1 ∷ [])
    × (sizes 510 ≡ 255 ∷ 255 ∷ [])
sizes_of_pieces = (refl, refl, refl, refl)

eight_and_a_rest : sizes 2048 ≡ replicate 8 255 ++ 8 ∷ []
eight_and_a_rest = refl

sixteen : sizes 4080 ≡ replicate 16 255
sixteen = refl

no_empty_last_piece : (b : ℕ) (bs : List ℕ) → IsPieces (b ∷ bs) ((b ∷ bs) ∷ [] ∷ []) → ⊥
no_empty_last_piece b bs h = absurd (omega (arith, h.1.1.0))

the_empty_value_has_a_piece : IsPieces [] [] → ⊥
the_empty_value_has_a_piece h = cc

no_piece_of_254 : HavePieceSizes (replicate 254 0x42 ∷ (0x42 ∷ []) ∷ []) → ⊥
no_piece_of_254 h = absurd (omega (arith, h.0))

-- ---- chains

abbrev put : Header
put = header 0x00 0xDA 0x5F 0x20

chained : map (λ c. c.header) (chain_commands put (pieces_of (replicate 600 0x42)))
    ≡ header 0x10 0xDA 0x5F 0x20 ∷ header 0x10 0xDA 0x5F 0x20 ∷ put ∷ []
chained = refl

bit_five : (with_more (header 0x80 0xCA 0x00 0x50) ≡ header 0x90 0xCA 0x00 0x50)
    × (as_last (header 0x90 0xCA 0x00 0x50) ≡ header 0x80 0xCA 0x00 0x50)
bit_five = (refl, refl)

abbrev begun : ChainState
begun = added (idle 4) (header 0x10 0xDA 0x5F 0x20) (1 ∷ 2 ∷ 3 ∷ [])

continued : Accepts begun put × Accepts begun (header 0x10 0xDA 0x5F 0x20)
continued = (refl, refl)

other_p2 : Accepts begun (header 0x10 0xDA 0x5F 0x21) → ⊥
other_p2 e = let p2 : Header → ℕ = λ h. h.p2 in absurd (omega (arith, ap p2 e))

other_class : Accepts begun (header 0x80 0xDA 0x5F 0x20) → ⊥
other_class e = let cla : Header → ℕ = λ h. h.cla in absurd (omega (arith, ap cla e))
