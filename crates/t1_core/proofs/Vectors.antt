-- Rows computed from the definitions: which I-block is the newest one once more, and near misses.
use Rattle.std.proofs.Common.{◌≡◌, refl, ℕ, true, false, List, [], ◌∷◌}
use Rattle.t1_core.specs.declared.block.Control.TheVariants.{Ifs}
use Rattle.t1_core.specs.declared.pcb.BlockReason.TheVariants.{NoError, Edc}
use Rattle.t1_core.specs.declared.reading.End.{End}
use Rattle.t1_core.specs.declared.reading.End.TheVariants.{Terminal, Card}
use Rattle.t1_core.specs.declared.reading.Reading.{Reading}
use Rattle.t1_core.specs.declared.reading.Role.{Role}
use Rattle.t1_core.specs.declared.reading.Role.TheVariants as role
use Rattle.t1_core.specs.Block.{Block, I, R, Request, Response}
use Rattle.t1_core.specs.Items.{Valid}
use Rattle.t1_core.specs.Overhearing.{Passed}
use Rattle.t1_core.specs.Reading.{fresh, reads}

abbrev after : Reading → List Passed → Reading
after r [] = r
after r (p ∷ ps) = after (reads r p.0 (Valid p.1)).1 ps

-- the role of a block behind these
abbrev role_behind : List Passed → End → Block → Role
role_behind ps from b = (reads (after fresh ps) from (Valid b)).0

-- SELECT of two applications: the same length, and another last byte
abbrev select_a : List ℕ
select_a = 0x00 ∷ 0xA4 ∷ 0x04 ∷ 0x00 ∷ 0x02 ∷ 0xA0 ∷ 0x01 ∷ []

abbrev select_b : List ℕ
select_b = 0x00 ∷ 0xA4 ∷ 0x04 ∷ 0x00 ∷ 0x02 ∷ 0xA0 ∷ 0x02 ∷ []

abbrev ok : List ℕ
ok = 0x90 ∷ 0x00 ∷ []

abbrev command : List Passed
command = (Terminal, I false false select_a) ∷ []

abbrev asked_again : List Passed
asked_again = (Terminal, I false false select_a) ∷ (Card, R false Edc) ∷ []

abbrev answered : List Passed
answered = (Terminal, I false false select_a) ∷ (Card, I false false ok) ∷ []

command_again : role_behind asked_again Terminal (I false false select_a) ≡ role.Repetition true
command_again = refl

no_one_asked : role_behind command Terminal (I false false select_a) ≡ role.Repetition true
no_one_asked = refl

another_command : role_behind asked_again Terminal (I false false select_b) ≡ role.Unknown
another_command = refl

another_after_a_missed_reset : role_behind answered Terminal (I false false select_b)
    ≡ role.Unknown
another_after_a_missed_reset = refl

-- it came late, or there was a reset: the tap can't tell
same_again : role_behind answered Terminal (I false false select_a) ≡ role.Repetition true
same_again = refl

-- a response that comes late is in no way of the command after it
abbrev late : List Passed
late = (Terminal, I false false select_a) ∷ (Card, I false false ok)
    ∷ (Terminal, I true true select_b) ∷ (Card, I false false ok) ∷ []

goes_on_after_it : role_behind late Terminal (I false false ok) ≡ role.Field false true
goes_on_after_it = refl

another_more_data_bit : role_behind asked_again Terminal (I false true select_a) ≡ role.Unknown
another_more_data_bit = refl

response_again : role_behind answered Card (I false false ok) ≡ role.Repetition true
response_again = refl

another_response : role_behind answered Card (I false false (0x6A ∷ 0x82 ∷ [])) ≡ role.Unknown
another_response = refl

-- The card takes fields of at most four bytes from now on.
abbrev granted : List Passed
granted = (Terminal, I false false select_a) ∷ (Card, Request (Ifs 4))
    ∷ (Terminal, Response (Ifs 4)) ∷ (Card, R false NoError) ∷ []

abbrev cut : List ℕ
cut = 0x00 ∷ 0xA4 ∷ 0x04 ∷ 0x00 ∷ []

cut_again : role_behind granted Terminal (I false true cut) ≡ role.Repetition false
cut_again = refl

cut_is_continued : (reads (reads (after fresh granted) Terminal (Valid (I false true cut))).1
    Terminal (Valid (I true false (0x02 ∷ 0xA0 ∷ 0x01 ∷ [])))).0 ≡ role.Field false true
cut_is_continued = refl

not_cut : role_behind granted Terminal (I false false select_a) ≡ role.Repetition true
not_cut = refl

cut_without_the_bit : role_behind granted Terminal (I false false cut) ≡ role.Unknown
cut_without_the_bit = refl

cut_elsewhere : role_behind granted Terminal (I false true (0x00 ∷ 0xA4 ∷ 0x04 ∷ []))
    ≡ role.Unknown
cut_elsewhere = refl

not_granted : role_behind asked_again Terminal (I false true cut) ≡ role.Unknown
not_granted = refl

-- the terminal's request says nothing of its own fields
granted_to_the_card : role_behind ((Terminal, Request (Ifs 4)) ∷ (Card, Response (Ifs 4))
    ∷ (Terminal, I false false select_a) ∷ (Card, R false NoError) ∷ [])
    Terminal (I false true cut) ≡ role.Unknown
granted_to_the_card = refl
