-- Worked histories and the puts that they show, and near misses.
use Rattle.std.specs.Prelude.{◌≡◌, ℕ, List, [], ◌∷◌, length, false, true}
use Rattle.std.proofs.Common.{refl}
use Rattle.apdu_core.specs.StatusWord.{StatusWord}
use Rattle.t0_core.specs.declared.direction.Direction.TheVariants.{ToCard, FromCard}
use Rattle.t0_core.specs.declared.end.End.TheVariants.{Terminal, Card}
use Rattle.t0_core.specs.declared.plan.Step.TheVariants.{All}
use Rattle.t0_core.specs.History.{Item, Whole, Cut_off}
use Rattle.object_card.specs.Tables.{Application}
use Rattle.object_card.specs.ShownPuts.{ShownPut, shown_puts, with_puts}

abbrev aid : List ℕ
aid = 0xA0 ∷ 0x00 ∷ 0x00 ∷ 0x00 ∷ 0x03 ∷ 0x10 ∷ 0x10 ∷ []

abbrev other_aid : List ℕ
other_aid = 0xA0 ∷ 0x00 ∷ 0x00 ∷ 0x00 ∷ 0x04 ∷ 0x10 ∷ 0x10 ∷ []

-- a command that sends these bytes to the card, where they all move, and its status
abbrev sent : ℕ → ℕ → ℕ → ℕ → List ℕ → StatusWord → Item
sent cla ins p1 p2 bytes status = Whole (record {
  body = record {
    header = record { cla = cla; ins = ins; p1 = p1; p2 = p2 };
    p3 = length bytes;
    direction = ToCard;
    segments = All ∷ [];
    moved = bytes;
  };
  status = status;
})

abbrev select : List ℕ → Item
select aid = sent 0x00 0xA4 0x04 0x00 aid (0x61, 0x0B)

-- 5F20 is put, and a piece of it is sent
abbrev put : List ℕ → Item
put bytes = sent 0x00 0xDA 0x5F 0x20 bytes (0x90, 0x00)

abbrev piece : List ℕ → Item
piece bytes = sent 0x10 0xDA 0x5F 0x20 bytes (0x90, 0x00)

-- a refused GET DATA
abbrev refused_get : StatusWord → Item
refused_get status = Whole (record {
  body = record {
    header = record { cla = 0x00; ins = 0xCA; p1 = 0x5F; p2 = 0x20 };
    p3 = 0;
    direction = FromCard;
    segments = [];
    moved = [];
  };
  status = status;
})

-- 5F20 with this value, in the first application
abbrev shown : List ℕ → ShownPut
shown value = record { aid = aid; tag = 0x5F ∷ 0x20 ∷ []; value = value }

a_put : shown_puts (select aid ∷ put (0xBB ∷ []) ∷ []) ≡ shown (0xBB ∷ []) ∷ []
a_put = refl

a_chain : shown_puts (select aid ∷ piece (0xAA ∷ 0xAB ∷ []) ∷ piece (0xBB ∷ []) ∷ put (0xCC ∷ [])
    ∷ []) ≡ shown (0xAA ∷ 0xAB ∷ 0xBB ∷ 0xCC ∷ []) ∷ []
a_chain = refl

a_chain_and_a_put : shown_puts (select aid ∷ piece (0xAA ∷ []) ∷ put (0xBB ∷ []) ∷ put (0xCC ∷ [])
    ∷ []) ≡ shown (0xAA ∷ 0xBB ∷ []) ∷ shown (0xCC ∷ []) ∷ []
a_chain_and_a_put = refl

-- near misses

pieces_alone : shown_puts (select aid ∷ piece (0xAA ∷ []) ∷ piece (0xBB ∷ []) ∷ []) ≡ []
pieces_alone = refl

no_chain_outlives_a_reset : shown_puts
    (select aid ∷ piece (0xAA ∷ []) ∷ Cut_off [] ∷ select aid ∷ put (0xBB ∷ []) ∷ [])
    ≡ shown (0xBB ∷ []) ∷ []
no_chain_outlives_a_reset = refl

no_selection_outlives_a_reset : shown_puts (select aid ∷ Cut_off [] ∷ put (0xBB ∷ []) ∷ []) ≡ []
no_selection_outlives_a_reset = refl

-- a reset between SW1 and SW2
cut_before_its_end : shown_puts
    (select aid ∷ Cut_off ((Terminal, 0x00) ∷ (Terminal, 0xDA) ∷ (Terminal, 0x5F) ∷ (Terminal, 0x20)
    ∷ (Terminal, 0x01)
    ∷ (Card, 0xDA) ∷ (Terminal, 0xBB) ∷ (Card, 0x90) ∷ []) ∷ []) ≡ []
cut_before_its_end = refl

given_up : shown_puts (select aid ∷ piece (0xAA ∷ []) ∷ refused_get (0x68, 0x83) ∷ put (0xBB ∷ [])
    ∷ []) ≡ shown (0xBB ∷ []) ∷ []
given_up = refl

dropped_by_another_tag : shown_puts (select aid ∷ piece (0xAA ∷ [])
    ∷ sent 0x10 0xDA 0x5F 0x21 [] (0x68, 0x83) ∷ put (0xBB ∷ []) ∷ []) ≡ shown (0xBB ∷ []) ∷ []
dropped_by_another_tag = refl

refused_piece : shown_puts (select aid ∷ piece (0xAA ∷ [])
    ∷ sent 0x10 0xDA 0x5F 0x20 [] (0x67, 0x00) ∷ put (0xBB ∷ []) ∷ []) ≡ shown (0xBB ∷ []) ∷ []
refused_piece = refl

wrong_data : shown_puts (select aid ∷ piece (0xAA ∷ [])
    ∷ sent 0x00 0xDA 0x5F 0x20 (0xBB ∷ []) (0x6A, 0x80) ∷ put (0xCC ∷ []) ∷ []) ≡ shown (0xCC ∷ [])
    ∷ []
wrong_data = refl

wants_memory : shown_puts (select aid ∷ sent 0x00 0xDA 0x5F 0x20 (0xBB ∷ []) (0x65, 0x81) ∷ []) ≡ []
wants_memory = refl

not_found_keeps_the_selection : shown_puts
    (select aid ∷ sent 0x00 0xA4 0x04 0x00 other_aid (0x6A, 0x82) ∷ put (0xBB ∷ []) ∷ [])
    ≡ shown (0xBB ∷ []) ∷ []
not_found_keeps_the_selection = refl

the_last_selection : shown_puts (select aid ∷ select other_aid ∷ put (0xBB ∷ []) ∷ [])
    ≡ record { aid = other_aid; tag = 0x5F ∷ 0x20 ∷ []; value = 0xBB ∷ [] } ∷ []
the_last_selection = refl

-- the tables of a card, with this value under 5F20
abbrev tables : List ℕ → List Application
tables value = record {
  aid = aid;
  entries = record { tag = 0x5F ∷ 0x20 ∷ []; value = value; locked = false }
      ∷ record { tag = 0x50 ∷ []; value = 0x41 ∷ []; locked = true } ∷ [];
} ∷ []

the_last_put_stays : with_puts (shown (0xAA ∷ 0xBB ∷ []) ∷ shown (0xCC ∷ []) ∷ [])
    (tables (0x4A ∷ [])) ≡ tables (0xCC ∷ [])
the_last_put_stays = refl
