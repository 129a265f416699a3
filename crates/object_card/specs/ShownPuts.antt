-- The puts that the history of a card's end shows, from its dialogues alone.
use Rattle.std.specs.Prelude.{ℕ, List, [], ◌∷◌, ◌++◌, reverse, Option, Some, None, Bool, ◌==◌, ◌&&◌, if◌then◌else◌, take_while, find}
use Rattle.std.specs.Option.{option_map}
use Rattle.std.specs.List.{flat_map}
use Rattle.apdu_core.specs.declared.header.Header.{Header}
use Rattle.apdu_core.specs.StatusWord.{StatusWord}
use Rattle.t0_core.specs.Meaning.{Tpdu, tpdu_of}
use Rattle.t0_core.specs.History.{Item, Whole, Cut_off}
use Rattle.object_card.specs.Tables.{Application, with_object}
use Rattle.object_card.specs.Refusals.{is_select, is_put, named_tag}

-- 9000
abbrev pub is_ok : StatusWord → Bool
is_ok status = (status.0 == 0x90) && (status.1 == 0x00)

-- a SELECT with status 61XX
abbrev pub is_selecting : Tpdu → Bool
is_selecting t = is_select t.header && (t.status.0 == 0x61)

-- a command with CLA 10, the INS, P1 and P2 of this header, and status 9000
abbrev pub is_piece_for : Header → Tpdu → Bool
is_piece_for h t =
    (t.header.cla == 0x10) && (t.header.ins == h.ins) && (t.header.p1 == h.p1)
    && (t.header.p2 == h.p2)
    && is_ok t.status

-- a PUT DATA with CLA 00 and status 9000
abbrev pub is_stored : Tpdu → Bool
is_stored t = (t.header.cla == 0x00) && is_put t.header && is_ok t.status

-- Below, `before` lists the TPDUs before one, since the last reset, the latest first.

-- the application of the last SELECT with status 61XX
abbrev pub selected_by : List Tpdu → Option (List ℕ)
selected_by before = option_map (λ t. t.sent) (find is_selecting before)

-- the data of the longest run of its pieces directly before it, in the order in which they were
-- sent
abbrev pub run_before : Header → List Tpdu → List ℕ
run_before h before = flat_map (λ t. t.sent) (reverse (take_while (is_piece_for h) before))

-- a value put under a tag in an application
pub record ShownPut : Type 0 where
  pub aid : List ℕ
  pub tag : List ℕ
  pub value : List ℕ

abbrev pub put_into : Option (List ℕ) → Option (List ℕ) → List ℕ → List ShownPut
put_into None tag value = []
put_into (Some aid) None value = []
put_into (Some aid) (Some tag) value = record { aid = aid; tag = tag; value = value } ∷ []

-- what one TPDU shows: if it is stored, its run's data and its own, under the tag of its P1-P2
abbrev pub shown_by : List Tpdu → Tpdu → List ShownPut
shown_by before t =
    if is_stored t
    then put_into (selected_by before) (named_tag t.header.p1 t.header.p2)
    (run_before t.header before ++ t.sent)
    else []

abbrev pub shown_after : List Tpdu → List Item → List ShownPut
shown_after before [] = []
shown_after before (Whole d ∷ items) =
    shown_by before (tpdu_of d) ++ shown_after (tpdu_of d ∷ before) items
shown_after before (Cut_off part ∷ items) = shown_after [] items

-- the puts that a history shows, in order
abbrev pub shown_puts : List Item → List ShownPut
shown_puts items = shown_after [] items

-- the tables with these puts applied, one after another
abbrev pub with_puts : List ShownPut → List Application → List Application
with_puts [] applications = applications
with_puts (p ∷ puts) applications = with_puts puts (with_object p.aid p.tag p.value applications)
