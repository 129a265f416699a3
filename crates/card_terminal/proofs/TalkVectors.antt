-- A worked talk, and near misses.
use Rattle.std.proofs.Common.{◌≡◌, ◌<◌, ℕ, List, [], ◌∷◌, ◌++◌, length, Option, Some, None, true, false, IsTrue, refl, sym, inl, inr, lit<, ap, arith, length-append}
use Rattle.apdu_core.specs.HeaderBytes.{ins_is_valid}
use Rattle.apdu_core.specs.StatusWord.{StatusWord, is_first_status, ok}
use Rattle.apdu_core.specs.CommandBytes.{Command}
use Rattle.tlv_core.specs.Address.{NamesTag}
use Rattle.t0_core.specs.declared.end.End.TheVariants.{Terminal, Card}
use Rattle.t0_core.specs.declared.direction.Direction.{Direction}
use Rattle.t0_core.specs.declared.direction.Direction.TheVariants.{ToCard, FromCard}
use Rattle.t0_core.specs.declared.plan.Step.{Step}
use Rattle.t0_core.specs.declared.plan.Step.TheVariants.{Null, All}
use Rattle.t0_core.specs.Character.{Character, sent_by}
use Rattle.t0_core.specs.Dialogue.{Dialogue, IsDialogue, foreseen, to_move}
use Rattle.t0_core.specs.Meaning.{Runs}
use Rattle.t0_core.specs.Plan.{Course, Follows, segments_of}
use Rattle.object_card.specs.Tables.{Entry}
use Rattle.object_card.specs.State.{CardState, NothingPending, ResponsePending}
use Rattle.apdu_core.specs.Shared.{Reply, reply}
use Rattle.object_card.specs.OneStep.{Operation, Select, Get, Put, stores, stored}
use Rattle.object_card.specs.CardMeaning.{Does, refuses, selects_application, sends, puts_value}
use Rattle.exchange_core.specs.declared.wanted.Wanted.{Wanted}
use Rattle.exchange_core.specs.Gathered.{UnitOf, IsUnit, wanted_by, after_unit, fetched_after, last_of, Single, Repeated, By_command, Gathers, AreFollowed}
use Rattle.card_terminal.specs.Talk.{select_command, get_command, Talk}
use Rattle.exchange_core.specs.RowLaws as row

abbrev aid : List ℕ
aid = 0xA0 ∷ 0x00 ∷ 0x00 ∷ 0x00 ∷ 0x03 ∷ 0x10 ∷ 0x10 ∷ []

abbrev information : List ℕ
information = 0x6F ∷ 0x09 ∷ 0x84 ∷ 0x07 ∷ aid

abbrev object : List ℕ
object = 0x5F ∷ 0x20 ∷ 0x03 ∷ 0x4A ∷ 0x4F ∷ 0x45 ∷ []

abbrev entry : List ℕ → List ℕ → Entry
entry tag value = record { tag = tag; value = value; locked = false }

-- the card holds 5F20, and later 9F36 too
abbrev card : List Entry → Option (List ℕ) → CardState
card entries selected =
    record {
      applications = record { aid = aid; entries = entries } ∷ [];
      selected =
          selected;
      pending = NothingPending;
    }

abbrev fresh : CardState
fresh = card (entry (0x5F ∷ 0x20 ∷ []) (0x4A ∷ 0x4F ∷ 0x45 ∷ []) ∷ []) None

abbrev chosen : CardState
chosen = card (entry (0x5F ∷ 0x20 ∷ []) (0x4A ∷ 0x4F ∷ 0x45 ∷ []) ∷ []) (Some aid)

abbrev filled : CardState
filled = card (entry (0x5F ∷ 0x20 ∷ []) (0x4A ∷ 0x4F ∷ 0x45 ∷ []) ∷ entry (0x9F ∷ 0x36 ∷ [])
    (0x01 ∷ []) ∷ []) (Some aid)

abbrev dialogue : ℕ → ℕ → ℕ → ℕ → Direction → List Step → List ℕ → StatusWord → Dialogue
dialogue ins p1 p2 p3 direction segments moved status =
    row.dialogue (record { cla = 0x00; ins = ins; p1 = p1; p2 = p2 }) p3 direction segments moved
    status

abbrev select : Dialogue
select = dialogue 0xA4 0x04 0x00 0x07 ToCard (Null ∷ All ∷ []) aid (0x61, 0x0B)

abbrev fetch : Dialogue
fetch = dialogue 0xC0 0x00 0x00 0x0B FromCard (All ∷ []) information ok

abbrev corrected : Dialogue
corrected = dialogue 0xCA 0x5F 0x20 0x00 FromCard [] [] (0x6C, 0x06)

abbrev repeated : Dialogue
repeated = dialogue 0xCA 0x5F 0x20 0x06 FromCard (All ∷ []) object ok

abbrev put : Dialogue
put = dialogue 0xDA 0x9F 0x36 0x01 ToCard (All ∷ []) (0x01 ∷ []) ok

abbrev operations : List Operation
operations = Select aid ∷ Get (0x5F ∷ 0x20 ∷ []) ∷ Put (0x9F ∷ 0x36 ∷ []) (0x01 ∷ []) ∷ []

abbrev replies : List Reply
replies = record { status = ok; content = information } ∷ record { status = ok; content = object }
    ∷ reply ok ∷ []

-- one NULL first, and cuts of 256
abbrev plan : Course
plan = record { steps = Null ∷ []; cut = 256 }

abbrev line : List Character
line = sent_by Terminal (0x00 ∷ 0xA4 ∷ 0x04 ∷ 0x00 ∷ 0x07 ∷ []) ++ sent_by Card (0x60 ∷ 0xA4 ∷ [])
    ++ sent_by Terminal aid ++ sent_by Card (0x61 ∷ 0x0B ∷ [])
    ++ sent_by Terminal (0x00 ∷ 0xC0 ∷ 0x00 ∷ 0x00 ∷ 0x0B ∷ [])
    ++ sent_by Card (0xC0 ∷ information ++ 0x90 ∷ 0x00 ∷ [])
    ++ sent_by Terminal (0x00 ∷ 0xCA ∷ 0x5F ∷ 0x20 ∷ 0x00 ∷ []) ++ sent_by Card (0x6C ∷ 0x06 ∷ [])
    ++ sent_by Terminal (0x00 ∷ 0xCA ∷ 0x5F ∷ 0x20 ∷ 0x06 ∷ [])
    ++ sent_by Card (0xCA ∷ object ++ 0x90 ∷ 0x00 ∷ [])
    ++ sent_by Terminal (0x00 ∷ 0xDA ∷ 0x9F ∷ 0x36 ∷ 0x01 ∷ []) ++ sent_by Card (0xDA ∷ [])
    ++ sent_by Terminal (0x01 ∷ []) ++ sent_by Card (0x90 ∷ 0x00 ∷ [])

selects_row : Gathers (select_command aid) (Single select ∷ Single fetch ∷ []) information ok
selects_row = row.whole (row.of_two (select_command aid) (Single select) (Single fetch) 11
    (row.sends refl refl refl refl) refl refl (row.asks refl refl refl (lit< tt)) refl) refl

gets_row : Gathers (get_command 0x5F 0x20) (Repeated corrected repeated ∷ []) object ok
gets_row = row.whole (row.of_one (get_command 0x5F 0x20) (Repeated corrected repeated)
    (row.asks refl refl refl (lit< tt)) (6, refl, row.asks refl refl refl (lit< tt))) refl

abbrev put_command : Command
put_command = record {
  header = record { cla = 0x00; ins = 0xDA; p1 = 0x9F; p2 = 0x36 };
  content = 0x01 ∷ [];
  le = None;
}

puts_row : Gathers put_command (Single put ∷ []) [] ok
puts_row =
    row.whole (row.of_one put_command (Single put) (row.sends refl refl refl refl) refl) refl

name_address : NamesTag (0x5F ∷ 0x20 ∷ []) 0x5F 0x20
name_address = (omega arith, omega arith, refl, omega arith, omega arith, refl, refl)

counter_address : NamesTag (0x9F ∷ 0x36 ∷ []) 0x9F 0x36
counter_address = (omega arith, omega arith, refl, omega arith, omega arith, refl, refl)

runs_row : Runs Does fresh (select ∷ fetch ∷ corrected ∷ repeated ∷ put ∷ []) (plan ∷ []) filled
runs_row = (
  record {
    applications = fresh.applications;
    selected = Some aid;
    pending =
        ResponsePending information;
  },
  selects_application select.body.header aid refl refl refl,
  (
    chosen,
    sends fetch.body.header 0x0B refl refl,
    (
      chosen,
      refuses corrected.body.header 0x00 (0x6C, 0x06) refl,
      (
        chosen,
        sends repeated.body.header 0x06 refl refl,
        (
          filled,
          puts_value put.body.header (0x01 ∷ []) (0x9F ∷ 0x36 ∷ []) (reply ok) filled refl refl refl
              counter_address
              (stores (0x9F ∷ 0x36 ∷ []) (0x01 ∷ []) aid
              (entry (0x5F ∷ 0x20 ∷ []) (0x4A ∷ 0x4F ∷ 0x45 ∷ []) ∷ []) refl refl
              (stored refl (omega arith) (λ kind. absurd (cc)) (inr (omega arith)))),
          refl,
        ),
      ),
    ),
  ),
)

-- a dialogue whose INS is valid
is_dialogue : {d : Dialogue} → ins_is_valid d.body.header.ins ≡ true
    → length d.body.moved ≡ to_move d.body → IsTrue (is_first_status d.status.0)
    → d.status.1 < 256 → IsDialogue d
is_dialogue valid moved first second = record {
  moved_by_segments = moved;
  is_status = (first, second);
  only_nulls = λ invalid. absurd (cc);
}

-- it moves all of its data, or none
moves_all : {d : Dialogue} {p : Course}
    → length d.body.moved ≡ foreseen d.body.direction d.body.p3
    → d.body.segments ≡ segments_of p.steps (length d.body.moved) → Follows d p
moves_all all steps = record { all_or_nothing = inr all; step_by_step = steps }

moves_none : {d : Dialogue} {p : Course} → d.body.moved ≡ []
    → d.body.segments ≡ segments_of p.steps (length d.body.moved) → Follows d p
moves_none none steps = record { all_or_nothing = inl none; step_by_step = steps }

-- SELECT, GET DATA and PUT DATA under one plan: the characters on the line, and no plan is left.
talk_row : Talk Does fresh (plan ∷ []) operations replies filled [] line
talk_row = record {
  dialogues = select ∷ fetch ∷ corrected ∷ repeated ∷ put ∷ [];
  talks = ((Single select ∷ Single fetch ∷ []) ∷ []) ∷ ((Repeated corrected repeated ∷ []) ∷ [])
      ∷ ((Single put ∷ []) ∷ []) ∷ [];
  are_dialogues = (
    is_dialogue refl refl refl (lit< tt),
    (
      is_dialogue refl refl refl (lit< tt),
      (
        is_dialogue refl refl refl (lit< tt),
        (
          is_dialogue refl refl refl (lit< tt),
          (
            is_dialogue refl refl refl (lit< tt),
            tt,
          ),
        ),
      ),
    ),
  );
  line_is = refl;
  follow = (
    moves_all refl refl,
    (
      moves_all refl refl,
      (
        moves_none refl refl,
        (moves_all refl refl, (moves_all refl refl, tt)),
      ),
    ),
  );
  runs = runs_row;
  left_is = refl;
  dialogues_are = refl;
  are_talks = (
    (select_command aid ∷ [], ((omega arith, omega arith), refl), (selects_row, inl refl)),
    (
      (get_command 0x5F 0x20 ∷ [], (0x5F, 0x20, name_address, refl), (gets_row, inl refl)),
      (
        (
          put_command ∷ [],
          (
            0x9F,
            0x36,
            (0x01 ∷ []) ∷ [],
            counter_address,
            (refl, (omega arith, omega arith)),
            refl,
          ),
          (puts_row, inl refl),
        ),
        tt,
      ),
    ),
  );
}

-- an exchange of one unit
only_unit : (c : Command) (u : UnitOf) (brought : List ℕ) (status : StatusWord)
    → Gathers c (u ∷ []) brought status
    → IsUnit (wanted_by c.le) u
    × (fetched_after (after_unit (wanted_by c.le) u) (last_of u).status ≡ None)
only_unit c u brought status g =
    by g.is_open.before g.is_open.last g.is_open.left g.is_open.units_are g.is_open.followed
    g.is_open.is_unit g.ends
  where
    by : (before : List UnitOf) (last : UnitOf) (left : Wanted) → (u ∷ []) ≡ before ++ last ∷ []
        → AreFollowed (By_command c) (wanted_by c.le) before g.is_open.opening left
        → IsUnit left last → fetched_after (after_unit left last) (last_of last).status ≡ None
        → IsUnit (wanted_by c.le) u
        × (fetched_after (after_unit (wanted_by c.le) u) (last_of u).status ≡ None)
    by [] last left is followed is_unit ends =
        let same : u ≡ last = cc in
        rw (same, sym followed.1) (is_unit, ends)
    by (v ∷ before) last left is followed is_unit ends =
        absurd (omega (arith, ap length is, length-append before (last ∷ [])))

-- Near misses: a GET DATA that is not repeated after its 6CXX, and a SELECT whose response is not
-- fetched, are no whole exchanges.
not_repeated_row : (brought : List ℕ) (status : StatusWord)
    → Gathers (get_command 0x5F 0x20) (Single corrected ∷ []) brought status → ⊥
not_repeated_row brought status g = let no : ◌≡◌ {A = Option ℕ} (Some 6) None =
    (only_unit (get_command 0x5F 0x20) (Single corrected) brought status g).0 in absurd (cc)

not_fetched_row : (brought : List ℕ) (status : StatusWord)
    → Gathers (select_command aid) (Single select ∷ []) brought status → ⊥
not_fetched_row brought status g = let no : ◌≡◌ {A = Option ℕ} (Some 11) None =
    (only_unit (select_command aid) (Single select) brought status g).1 in absurd (cc)
