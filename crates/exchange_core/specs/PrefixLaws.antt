-- The characters that led to an exchange are the first of an open exchange of its command.
use Rattle.std.proofs.Common.{◌≡◌, ℕ, List, [], ◌∷◌, ◌++◌, refl, sym, ◌∙◌, ap, inl, inr, ◌⊎◌, lit<, Option, Some, None, append-nil, append_assoc, true, false, Bool, ◌==◌, if◌then◌else◌}
use Rattle.std.specs.List.{AllByRecursion, flat_map}
use Rattle.apdu_core.specs.StatusWord.{StatusWord, count, corrects}
use Rattle.apdu_core.specs.CommandBytes.{Command}
use Rattle.t0_core.specs.declared.direction.Direction.{Direction}
use Rattle.t0_core.specs.declared.direction.Direction.TheVariants.{ToCard, FromCard}
use Rattle.t0_core.specs.Character.{Character}
use Rattle.t0_core.specs.Dialogue.{Dialogue, characters, IsDialogue}
use Rattle.t0_core.specs.Front.{Front, front_characters, header_only}
use Rattle.t0_core.specs.DialogueLaws.{flat_map_last, all_more}
use Rattle.t0_core.specs.HostSide.{IsOpenedBy}
use Rattle.t0_core.specs.OwnLaws.{begins_own}
use Rattle.exchange_core.specs.declared.wanted.Wanted.{Wanted}
use Rattle.exchange_core.specs.Gathered.{Asks, wants_at_least, correction_of, repeated_with, after_dialogue, UnitOf, Repeated, dialogues_of, IsOpenExchange, OpensWith, IsUnit, first_of}
use Rattle.exchange_core.specs.ExchangeSide.{ExchangeOf, UnderWay, so_far, ended_with}
use Rattle.exchange_core.specs.ExchangeHistory.{unit_characters, characters_to, ComesTo, to_front, to_end, to_stall, to_fault, BeginsExchange, FaultCameLast}
use Rattle.exchange_core.specs.EndLaws.{again_of, some_or_none, unit_is, unit_opens}
use Rattle.exchange_core.specs.UnitLaws.{unit_dialogues}

-- a dialogue in which the card answers at once
abbrev at_once : Dialogue → Dialogue
at_once d = record { body = header_only d.body.header d.status.1 FromCard; status = (0x90, 0x00) }

told_count : (v : Bool) (n m : ℕ) → (if v then Some n else None) ≡ Some m → n ≡ m
told_count true n m e = cc
told_count false n m e = absurd (cc)

corrected_count : (status : StatusWord) (n : ℕ) → corrects status ≡ Some n → count status.1 ≡ n
corrected_count status n e = told_count (status.0 == 0x6C) (count status.1) n e

pub correction_is : (direction : Direction) (left : Wanted) (corrected : Option ℕ) (n : ℕ)
    → correction_of direction left corrected ≡ Some n → corrected ≡ Some n
correction_is ToCard left corrected n e = absurd (cc)
correction_is FromCard left None n e = absurd (cc)
correction_is FromCard left (Some m) n e = ap Some (told_count (wants_at_least m left) m n e)

asks_at_once : (left : Wanted) (d : Dialogue) (n : ℕ) → IsDialogue d
    → repeated_with left d ≡ Some n → Asks d.body.header n (at_once d)
asks_at_once left d n is e = record {
  header_is = refl;
  from_card = refl;
  counts = corrected_count d.status n
      (correction_is d.body.direction (after_dialogue left d) (corrects d.status) n e);
  is_byte = is.is_status.1;
}

is_at_once : (d : Dialogue) → IsDialogue (at_once d)
is_at_once d = record {
  moved_by_segments = refl;
  is_status = (refl, lit< tt);
  only_nulls = λ _. tt;
}

-- the characters of one more dialogue, and the front that is a part of it
with_dialogue : (ds : List Dialogue) (front : Front) (d : Dialogue) (rest : List Character)
    → characters d ≡ front_characters front ++ rest
    → flat_map characters (ds ++ d ∷ []) ≡ (flat_map characters ds ++ front_characters front)
    ++ rest
with_dialogue ds front d rest is =
    flat_map_last characters ds d ∙ ap (λ cs. flat_map characters ds ++ cs) is
    ∙ sym (append_assoc (flat_map characters ds) (front_characters front) rest)

-- a unit that the characters so far are the first of
unit_begins : (c : Command) (ex : ExchangeOf) (units : List UnitOf) (first : Option Dialogue)
    (front : Front) (u : UnitOf) (rest : List Character) (under : UnderWay c ex units first front)
    → OpensWith under.opening (first_of u) → IsUnit under.left u
    → AllByRecursion IsDialogue (flat_map dialogues_of (units ++ u ∷ []))
    → unit_characters (units ++ u ∷ []) ≡ characters_to units first front ++ rest
    → BeginsExchange c (characters_to units first front)
unit_begins c ex units first front u rest under opens is_unit are whole = record {
  units = units ++ u ∷ [];
  is_open = record {
    before = units;
    last = u;
    opening = under.opening;
    left = under.left;
    units_are = refl;
    followed = under.followed;
    opens = opens;
    is_unit = is_unit;
  };
  are_dialogues = are;
  rest = rest;
  whole = whole;
}

-- a dialogue that completes the current unit
whole_with : (c : Command) (ex : ExchangeOf) (units : List UnitOf) (first : Option Dialogue)
    (front : Front) (d : Dialogue) (rest : List Character) (under : UnderWay c ex units first front)
    → IsDialogue d → IsOpenedBy ex.host d.body → characters d ≡ front_characters front ++ rest
    → again_of first (repeated_with under.left d) ≡ None
    → BeginsExchange c (characters_to units first front)
whole_with c ex units first front d rest under is by begins none =
    unit_begins c ex units first front (ended_with first d) rest under
    (unit_opens under.opening under.left first ex.host d under.opened_as by)
    (unit_is under.opening under.left first ex.host d under.opened_as by none)
    (rw (unit_dialogues units first d)
    (all_more IsDialogue (so_far units first) d under.are_dialogues is))
    (ap (flat_map characters) (unit_dialogues units first d)
    ∙ with_dialogue (so_far units first) front d rest begins)

-- one that is repeated, with its repetition
repeated_dialogues : (units : List UnitOf) (d e : Dialogue)
    → flat_map dialogues_of (units ++ Repeated d e ∷ []) ≡ (so_far units None ++ d ∷ []) ++ e ∷ []
repeated_dialogues units d e =
    flat_map_last dialogues_of units (Repeated d e)
    ∙ ap (λ ds. ds ++ d ∷ e ∷ []) (sym (append-nil (flat_map dialogues_of units)))
    ∙ sym (append_assoc (so_far units None) (d ∷ []) (e ∷ []))

repeated_with_it : (c : Command) (ex : ExchangeOf) (units : List UnitOf) (front : Front)
    (d : Dialogue) (rest : List Character) (n : ℕ) (under : UnderWay c ex units None front)
    → IsDialogue d → IsOpenedBy ex.host d.body → characters d ≡ front_characters front ++ rest
    → repeated_with under.left d ≡ Some n
    → BeginsExchange c (characters_to units None front)
repeated_with_it c ex units front d rest n under is by begins again =
    let e = at_once d in
    let both = so_far units None ++ d ∷ [] in
    unit_begins c ex units None front (Repeated d e) (rest ++ characters e) under
    (unit_opens under.opening under.left None ex.host d under.opened_as by)
    (n, again, asks_at_once under.left d n is again)
    (rw (repeated_dialogues units d e) (all_more IsDialogue both e
    (all_more IsDialogue (so_far units None) d under.are_dialogues is) (is_at_once d)))
    (ap (flat_map characters) (repeated_dialogues units d e) ∙ flat_map_last characters both e
    ∙ ap (λ cs. cs ++ characters e) (with_dialogue (so_far units None) front d rest begins)
    ∙ append_assoc (characters_to units None front) rest (characters e))

front_begins : (c : Command) (ex : ExchangeOf) (units : List UnitOf) (first : Option Dialogue)
    (front : Front) → UnderWay c ex units first front
    → BeginsExchange c (characters_to units first front)
front_begins c ex units None front under =
    let own = begins_own ex.host front under.request under.stands under.is_front in
    elim (some_or_none (repeated_with under.left own.0)) [
      | inl none ↦ whole_with c ex units None front own.0 (own.1 ∷ own.2) under own.3 own.4 own.5
          none
      | inr again ↦ repeated_with_it c ex units front own.0 (own.1 ∷ own.2) again.0 under own.3
          own.4 own.5 again.1
    ]
front_begins c ex units (Some e) front under =
    let own = begins_own ex.host front under.request under.stands under.is_front in
    whole_with c ex units (Some e) front own.0 (own.1 ∷ own.2) under own.3 own.4 own.5 refl

whole_begins : (c : Command) (units : List UnitOf) → IsOpenExchange c units
    → AllByRecursion IsDialogue (flat_map dialogues_of units)
    → BeginsExchange c (unit_characters units)
whole_begins c units is_open are = record {
  units = units;
  is_open = is_open;
  are_dialogues = are;
  rest = [];
  whole = sym (append-nil (unit_characters units));
}

-- except a last character that ended it by a fault
pub led_begins : (c : Command) (came : List Character) (ex : ExchangeOf) → ComesTo c came ex
    → BeginsExchange c came ⊎ FaultCameLast c came ex
led_begins c came ex (to_front units first front under is) =
    inl (rw is (front_begins c ex units first front under))
led_begins c came ex (to_end units status over is) =
    inl (rw is (whole_begins c units over.gathers.is_open over.are_dialogues))
led_begins c came ex (to_stall units stall are failed is) =
    inl (rw is (whole_begins c units stall.is_open are))
led_begins c came ex (to_fault units first front prior byte fault under why final failed same is) =
    inr (record {
      before = characters_to units first front;
      byte = byte;
      came_is = is;
      begins = front_begins c prior units first front under;
      prior = prior;
      led = to_front units first front under refl;
      fault = fault;
      is_fault = why;
      is_final = final;
      limit = same;
      failed = failed;
    })
