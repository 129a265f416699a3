-- Whole TPDUs as bytes, computed from the definitions, and near misses.
use Rattle.std.proofs.Common.{◌≡◌, [], ◌∷◌, refl, Some, None}
use Rattle.apdu_core.specs.declared.header.Header.{Header}
use Rattle.t0_core.specs.TpduBytes.{asked_for, asked_in, tpdu_bytes}

abbrev select : Header
select = record { cla = 0x00; ins = 0xA4; p1 = 0x04; p2 = 0x00 }

abbrev get_data : Header
get_data = record { cla = 0x00; ins = 0xCA; p1 = 0x5F; p2 = 0x20 }

abbrev put_data : Header
put_data = record { cla = 0x00; ins = 0xDA; p1 = 0x5F; p2 = 0x20 }

-- four bytes move no data
four_bytes : asked_in (0x00 ∷ 0xA4 ∷ 0x04 ∷ 0x00 ∷ []) ≡ Some (asked_for select 0 [] 0)
four_bytes = refl

written_as_four : tpdu_bytes (asked_for put_data 0 [] 0) ≡ 0x00 ∷ 0xDA ∷ 0x5F ∷ 0x20 ∷ []
written_as_four = refl

-- five bytes with P3 00 ask for 256
asks_for_256 : asked_in (0x00 ∷ 0xCA ∷ 0x5F ∷ 0x20 ∷ 0x00 ∷ [])
    ≡ Some (asked_for get_data 0 [] 256)
asks_for_256 = refl

written_as_five : tpdu_bytes (asked_for get_data 0 [] 256)
    ≡ 0x00 ∷ 0xCA ∷ 0x5F ∷ 0x20 ∷ 0x00 ∷ []
written_as_five = refl

sends_two : asked_in (0x00 ∷ 0xDA ∷ 0x5F ∷ 0x20 ∷ 0x02 ∷ 0x41 ∷ 0x42 ∷ [])
    ≡ Some (asked_for put_data 2 (0x41 ∷ 0x42 ∷ []) 0)
sends_two = refl

-- INS may be any byte
of_any_ins : asked_in (0x00 ∷ 0x6D ∷ 0x00 ∷ 0x00 ∷ 0x01 ∷ [])
    ≡ Some (asked_for (record { cla = 0x00; ins = 0x6D; p1 = 0x00; p2 = 0x00 }) 1 [] 1)
of_any_ins = refl

-- P3 with the wrong number of data, as in a command with data and Le
too_short : asked_in (0x00 ∷ 0xDA ∷ 0x5F ∷ [])
    ≡ None
too_short = refl

too_few : asked_in (0x00 ∷ 0xDA ∷ 0x5F ∷ 0x20 ∷ 0x02 ∷ 0x41 ∷ []) ≡ None
too_few = refl

with_le : asked_in (0x00 ∷ 0xA4 ∷ 0x04 ∷ 0x00 ∷ 0x01 ∷ 0x41 ∷ 0x00 ∷ []) ≡ None
with_le = refl

sends_none : asked_in (0x00 ∷ 0xDA ∷ 0x5F ∷ 0x20 ∷ 0x00 ∷ 0x41 ∷ []) ≡ None
sends_none = refl
