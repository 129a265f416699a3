-- Worked histories of a card of given responses, computed from the definitions, and near misses.
use Rattle.std.proofs.Common.{◌≡◌, ℕ, List, [], ◌∷◌, ◌++◌, Option, Some, None, Bool, true, false, inl, inr, refl, ap, arith, lit≤, lit<}
use Rattle.std.specs.Prelude.{map}
use Rattle.t0_core.specs.declared.end.End.TheVariants.{Terminal, Card}
use Rattle.t0_core.specs.declared.plan.Step.TheVariants.{All}
use Rattle.t0_core.specs.declared.direction.Direction.TheVariants.{FromCard, ToCard}
use Rattle.t0_core.specs.Character.{Character, sent_by}
use Rattle.t0_core.specs.Dialogue.{Dialogue}
use Rattle.t0_core.specs.Front.{Front, In_body, IsFront, header_only}
use Rattle.t0_core.specs.History.{IsUnderPlan, Whole, Cut_off, Passed, Reset}
use Rattle.t0_core.specs.Meaning.{tpdu_of}
use Rattle.t0_core.specs.Plan.{Course}
use Rattle.command_card.specs.declared.given.Directions.TheVariants as way
use Rattle.apdu_core.specs.CommandBytes.{Command}
use Rattle.apdu_core.specs.StatusWord.{StatusWord}
use Rattle.command_card.specs.Carrying.{asking}
use Rattle.command_card.specs.Deeds.{HasData, IsWithout, command_in, outcome_in}
use Rattle.command_card.specs.Given.{Answer, GivenState, after_drop, new_given, takes_data}
use Rattle.command_card.specs.Giving.{Decided, Gave, Giving, Lends, Responded, TookBack}
use Rattle.command_card.specs.Settling.{AnswersBy, AreAllowed, AreMet, As_whole, By_tpdu, Empty, GoesOut, GoesOutWhole, Held, Holding, Holds, Settled}
use Rattle.command_card.specs.Lending.{AreLent, Happening, IsStretch, Lent, On_line, RunsLent, Stretch}
use Rattle.command_card.specs.Meaning.{Does}
use Rattle.command_card.specs.State.{CardState, Nothing_left}
use Rattle.command_card.specs.View.{after_reset}

-- 80100000 with P3 01, its response of one byte, and 9000
abbrev asked : ℕ → Dialogue
asked byte = record {
  body = record {
    header = record { cla = 0x80; ins = 0x10; p1 = 0; p2 = 0 };
    p3 = 1;
    direction = FromCard;
    segments = All ∷ [];
    moved = byte ∷ [];
  };
  status = (0x90, 0x00);
}

-- the same header, refused with 6581
abbrev refused : Dialogue
refused = record {
  body = record {
    header = record { cla = 0x80; ins = 0x10; p1 = 0; p2 = 0 };
    p3 = 1;
    direction = FromCard;
    segments = [];
    moved = [];
  };
  status = (0x65, 0x81);
}

-- the command that is shown: Le is 1
abbrev shown : Command
shown = asking (record { cla = 0x80; ins = 0x10; p1 = 0; p2 = 0 }) 1

-- the same header with another INS
abbrev other_shown : Command
other_shown = asking (record { cla = 0x80; ins = 0x11; p1 = 0; p2 = 0 }) 1

abbrev with_byte : ℕ → Answer
with_byte byte = record { bytes = byte ∷ []; status = (0x90, 0x00) }

abbrev heard : List Character → List (Happening Giving)
heard cs = map (λ c. On_line (Passed c)) cs

abbrev header : List (Happening Giving)
header = heard (sent_by Terminal (0x80 ∷ 0x10 ∷ 0x00 ∷ 0x00 ∷ 0x01 ∷ []))

-- the command waits after its header, its response is given, and it goes out
abbrev answered_for : Command → ℕ → ℕ → Stretch Giving
answered_for command given byte = record {
  item = Whole (asked byte);
  before = header ++ Lent (Decided false) ∷ Lent (Gave (Some command) (with_byte given))
      ∷ heard (sent_by Card (0x10 ∷ byte ∷ 0x90 ∷ []));
  last = Passed (Card, 0x00);
}

abbrev answered : ℕ → ℕ → Stretch Giving
answered given byte = answered_for shown given byte

-- A response without data is given at a header whose P3 the card takes as Le. The terminal then
-- sends data.
abbrev sent_instead : Dialogue
sent_instead = record {
  body = record {
    header = record { cla = 0x80; ins = 0x10; p1 = 0; p2 = 0 };
    p3 = 1;
    direction = ToCard;
    segments = All ∷ [];
    moved = 0x2A ∷ [];
  };
  status = (0x90, 0x00);
}

abbrev answered_instead : Stretch Giving
answered_instead = record {
  item = Whole sent_instead;
  before = header ++ Lent (Gave (Some shown) (record { bytes = []; status = (0x90, 0x00) }))
      ∷ heard ((Card, 0x10) ∷ (Terminal, 0x2A) ∷ (Card, 0x90) ∷ []);
  last = Passed (Card, 0x00);
}

-- a response is given for a command that was shown, amid a GET RESPONSE
abbrev fetched : Dialogue
fetched = record {
  body = record {
    header = record { cla = 0x80; ins = 0xC0; p1 = 0; p2 = 0 };
    p3 = 1;
    direction = FromCard;
    segments = [];
    moved = [];
  };
  status = (0x69, 0x85);
}

abbrev given_amid_a_fetch : Stretch Giving
given_amid_a_fetch = record {
  item = Whole fetched;
  before = heard (sent_by Terminal (0x80 ∷ 0xC0 ∷ 0x00 ∷ 0x00 ∷ 0x01 ∷ []))
      ++ Lent (Gave (Some shown) (with_byte 0x2A)) ∷ heard (sent_by Card (0x69 ∷ []));
  last = Passed (Card, 0x85);
}

-- the same without a response
abbrev unanswered : List (Happening Giving) → Stretch Giving
unanswered lent = record {
  item = Whole refused;
  before = header ++ lent ++ heard (sent_by Card (0x65 ∷ []));
  last = Passed (Card, 0x81);
}

-- a response is given, and a reset comes before SW2
abbrev reset_amid : Stretch Giving
reset_amid = record {
  item = Cut_off (sent_by Terminal (0x80 ∷ 0x10 ∷ 0x00 ∷ 0x00 ∷ 0x01 ∷ [])
      ++ sent_by Card (0x10 ∷ 0x2A ∷ 0x90 ∷ []));
  before = header ++ Lent (Gave None (with_byte 0x2A))
      ∷ heard (sent_by Card (0x10 ∷ 0x2A ∷ 0x90 ∷ []));
  last = Reset;
}

-- 80100000 01 with this response, and no new one is given
abbrev ungiven : ℕ → Stretch Giving
ungiven byte = record {
  item = Whole (asked byte);
  before = header ++ heard (sent_by Card (0x10 ∷ byte ∷ 0x90 ∷ []));
  last = Passed (Card, 0x00);
}

abbrev settled_with : ℕ → Settled
settled_with byte = By_tpdu (tpdu_of (asked byte)) (with_byte byte)

abbrev held_with : Option Command → ℕ → Held
held_with command byte = record { shown = command; answer = with_byte byte }

-- the front after the header
abbrev at_header : Front
at_header = In_body (header_only (record { cla = 0x80; ins = 0x10; p1 = 0; p2 = 0 }) 1 FromCard)

at_front : IsFront at_header
at_front = record { in_last = refl; only_nulls = λ _. tt }

is_stretch : (byte : ℕ) → IsStretch (answered byte byte)
is_stretch byte = refl

are_stretches : IsStretch (unanswered []) × IsStretch reset_amid × IsStretch (ungiven 0x2A)
    × IsStretch answered_instead × IsStretch given_amid_a_fetch
are_stretches = (refl, refl, refl, refl, refl)

-- neither GET RESPONSE nor a repetition
command : (byte : ℕ) → IsWithout None (tpdu_of (asked byte)) → ⊥
command byte (inl invalid) = absurd (cc)
command byte (inr (inl fetches)) = absurd (cc)
command byte (inr (inr repeats)) = repeats

second : (byte other : ℕ) → IsWithout (Some (tpdu_of (asked byte))) (tpdu_of (asked other)) → ⊥
second byte other (inl invalid) = absurd (cc)
second byte other (inr (inl fetches)) = absurd (cc)
second byte other (inr (inr (same, said))) = absurd (cc)

refusal : IsWithout None (tpdu_of refused) → ⊥
refusal (inl invalid) = absurd (cc)
refusal (inr (inl fetches)) = absurd (cc)
refusal (inr (inr repeats)) = repeats

goes_out : (byte : ℕ) → GoesOut (tpdu_of (asked byte)) (held_with (Some shown) byte)
goes_out byte = record {
  to_card = false;
  cut = 256;
  is_cut = (lit≤ tt, lit≤ tt);
  is_for = refl;
  has_data = refl;
  received_is = refl;
  status_is = refl;
}

-- two commands, each with its response: both settle, in order
two_settle : AreMet true None (Empty true) (answered 0x2A 0x2A ∷ answered 0x2B 0x2B ∷ [])
    (settled_with 0x2A ∷ settled_with 0x2B ∷ []) (Empty true)
two_settle = (
  (tt, (tt, tt)),
  settled_with 0x2A ∷ settled_with 0x2B ∷ [],
  refl,
  inr (inl (
    command 0x2A,
    goes_out 0x2A,
    settled_with 0x2B ∷ [],
    refl,
    (
      (tt, (tt, tt)),
      settled_with 0x2B ∷ [],
      refl,
      inr (inl (second 0x2A 0x2B, goes_out 0x2B, [], refl, (refl, refl))),
    ),
  )),
)

-- a reset before SW2 drops the first; only the second settles
one_is_dropped : AreMet true None (Empty true) (reset_amid ∷ answered 0x2B 0x2B ∷ [])
    (settled_with 0x2B ∷ []) (Empty true)
one_is_dropped = (
  (tt, tt),
  settled_with 0x2B ∷ [],
  refl,
  (
    (tt, (tt, tt)),
    settled_with 0x2B ∷ [],
    refl,
    inr (inl (command 0x2B, goes_out 0x2B, [], refl, (refl, refl))),
  ),
)

-- given and taken back: the command gets 6581, and nothing settles, so `has_settled` is false
none_settles : AreMet true None (Empty true)
    (unanswered (Lent (Gave None (with_byte 0x2A)) ∷ Lent TookBack ∷ []) ∷ []) [] (Empty false)
none_settles =
    ((tt, (tt, tt)), [], refl, inr (inl (refusal, (refl, refl), [], refl, (refl, refl))))

-- given, and passed as a whole command: it settles, and the TPDU gets 6581
whole_settles : AreMet true None (Empty true)
    (unanswered (Lent (Gave None (with_byte 0x2A))
    ∷ Lent (Responded shown true (0x2A ∷ 0x90 ∷ 0x00 ∷ [])) ∷ []) ∷ [])
    (As_whole shown (with_byte 0x2A) ∷ []) (Empty true)
whole_settles = (
  (tt, ((Nothing_left, record { response_is = refl; left_is = refl }), tt)),
  [],
  refl,
  inr (inl (refusal, (refl, refl), [], refl, (refl, refl))),
)

-- nothing happened
nothing : AreMet true None (Empty true) [] [] (Empty true)
nothing = (refl, refl)

-- near misses, also for a card that may miss a response

-- another response than the one that was given
first_of : List ℕ → ℕ
first_of [] = 0
first_of (b ∷ bytes) = b

other_bytes : (to_card : Bool) (cut : ℕ) → 0x2B ∷ []
    ≡ (outcome_in to_card (tpdu_of (asked 0x2B)) (0x2A ∷ []) (0x90, 0x00) cut).received → ⊥
unfolding first_of
other_bytes true cut is = absurd (cc)
other_bytes false cut is =
    let no : 0x2B ≡ 0x2A = ap first_of is in omega (arith, no)

not_another : (strict : Bool) (done : List Settled) (last : Holding)
    → AreMet strict None (Empty true) (answered 0x2A 0x2B ∷ []) done last → ⊥
not_another strict done last (_, _, _, inl (without, _, _)) = command 0x2B without
not_another strict done last (_, _, _, inr (inl (other, out, _, _, _))) =
    other_bytes out.to_card out.cut out.received_is
not_another strict done last (_, _, _, inr (inr (lax, other, (status, none), _))) =
    absurd (cc)

-- a response for another command than the one that was shown
other_header : (to_card : Bool) → other_shown ≡ command_in to_card (tpdu_of (asked 0x2A)) → ⊥
other_header true is =
    let no : 0x11 ≡ 0x10 = ap (λ (c : Command). c.header.ins) is in omega (arith, no)
other_header false is =
    let no : 0x11 ≡ 0x10 = ap (λ (c : Command). c.header.ins) is in omega (arith, no)

not_for_another : (strict : Bool) (done : List Settled) (last : Holding)
    → AreMet strict None (Empty true) (answered_for other_shown 0x2A 0x2A ∷ []) done last → ⊥
not_for_another strict done last (_, _, _, inl (without, _, _)) = command 0x2A without
not_for_another strict done last (_, _, _, inr (inl (other, out, _, _, _))) =
    other_header out.to_card out.is_for
not_for_another strict done last (_, _, _, inr (inr (lax, other, (status, none), _))) =
    absurd (cc)

-- a response for the same header, whose data go the other way
some_le : (n : ℕ) → Some n ≡ None → ⊥
some_le n is = absurd (cc)

other_way : (to_card : Bool) → shown ≡ command_in to_card (tpdu_of sent_instead)
    → HasData to_card (tpdu_of sent_instead) → ⊥
other_way true is has_data = some_le 1 (ap (λ (c : Command). c.le) is)
other_way false is has_data = absurd (cc)

a_command : IsWithout None (tpdu_of sent_instead) → ⊥
a_command (inl invalid) = absurd (cc)
a_command (inr (inl fetches)) = absurd (cc)
a_command (inr (inr repeats)) = repeats

not_the_other_way : (strict : Bool) (done : List Settled) (last : Holding)
    → AreMet strict None (Empty true) (answered_instead ∷ []) done last → ⊥
not_the_other_way strict done last (_, _, _, inl (without, _, _)) = a_command without
not_the_other_way strict done last (_, _, _, inr (inl (other, out, _, _, _))) =
    other_way out.to_card out.is_for out.has_data
not_the_other_way strict done last (_, _, _, inr (inr (lax, other, (status, none), _))) =
    let no : 0x90 ≡ 0x65 = ap (λ (w : StatusWord). w.0) status in omega (arith, no)

-- a command was shown, and the TPDU fetches
not_amid_a_fetch : (strict : Bool) (done : List Settled) (last : Holding)
    → AreMet strict None (Empty true) (given_amid_a_fetch ∷ []) done last → ⊥
not_amid_a_fetch strict done last (_, _, _, inl (without, unshown, _)) = absurd (cc)
not_amid_a_fetch strict done last (_, _, _, inr (inl (other, _, _, _, _))) =
    other (inr (inl refl))
not_amid_a_fetch strict done last (_, _, _, inr (inr (lax, other, _, _))) =
    other (inr (inl refl))

-- a response twice
not_twice : (strict : Bool) (done : List Settled) (last : Holding)
    → AreMet strict (Some (tpdu_of (asked 0x2A))) (Empty true) (ungiven 0x2A ∷ []) done last → ⊥
not_twice strict done last (_, _, _, inl (without, _, _)) = second 0x2A 0x2A without
not_twice strict done last (_, _, _, inr (inl (other, (status, none), _, _, _))) = absurd (cc)
not_twice strict done last (_, _, _, inr (inr (lax, other, (status, none), _))) = absurd (cc)

-- a response that a reset dropped
not_after_a_reset : (strict : Bool) (done : List Settled) (last : Holding)
    → AreMet strict None (Empty true) (reset_amid ∷ ungiven 0x2A ∷ []) done last → ⊥
not_after_a_reset strict done last (_, _, _, (_, _, _, inl (without, _, _))) =
    command 0x2A without
not_after_a_reset strict done last
    (_, _, _, (_, _, _, inr (inl (other, (status, none), _, _, _)))) = absurd (cc)
not_after_a_reset strict done last
    (_, _, _, (_, _, _, inr (inr (lax, other, (status, none), _)))) = absurd (cc)

-- a command that a reset dropped has not settled
not_settled : (strict : Bool) (s : Settled) (last : Holding)
    → AreMet strict None (Empty true) (reset_amid ∷ []) (s ∷ []) last → ⊥
not_settled strict s last (allowed, more, all, (none, is)) = absurd (cc)

-- nor does it count as settled
not_counted : (strict : Bool)
    → AreMet strict None (Empty true) (reset_amid ∷ []) [] (Empty true) → ⊥
not_counted strict (allowed, more, all, (none, is)) = absurd (cc)

-- a second response before the first went out
not_over_another : (strict : Bool) (done : List Settled) (last : Holding)
    → AreMet strict None (Holds (held_with None 0x2A))
    (answered 0x2B 0x2B ∷ []) done last → ⊥
not_over_another strict done last ((known, (none, others)), more, all, rest) = none

-- a response by a whole command, twice
not_whole_twice : (h : Held) (c : Command) (response again : List ℕ)
    → AreAllowed (Holds h) (Responded c true response ∷ Responded c true again ∷ []) → ⊥
not_whole_twice h c response again (once, (never, rest)) = never

-- more of a response than Le asks for
not_beyond_le : GoesOutWhole (Holds (record {
  shown = None;
  answer = record { bytes = 0x2A ∷ 0x2B ∷ []; status = (0x90, 0x00) };
})) shown (0x2A ∷ 0x2B ∷ 0x90 ∷ 0x00 ∷ []) → ⊥
not_beyond_le (left, hands) = absurd (cc)

-- ---- the first row is a run of the card's meaning: the law covers two answered commands

abbrev at_first : CardState GivenState
at_first = record { app = new_given way.Unknown; left = Nothing_left }

abbrev plan : Course
plan = record { steps = All ∷ []; cut = 256 }

under : (byte : ℕ) → IsUnderPlan (asked byte) plan
under byte = record {
  is_dialogue = record {
    moved_by_segments = refl;
    is_status = (refl, lit< tt);
    only_nulls = λ invalid. absurd (cc);
  };
  in_range = (lit≤ tt, lit≤ tt);
  follows = record { all_or_nothing = inr refl; step_by_step = refl };
}

abbrev decided : CardState GivenState
decided = record at_first { app = record at_first.app { directions = way.Known false } }

abbrev given_with : ℕ → CardState GivenState
given_with byte = record {
  app = record {
    directions = way.Known false;
    given = Some (with_byte byte);
    settled = false;
    handed = false;
  };
  left = Nothing_left;
}

are_lent : (byte : ℕ) → AreLent Lends [] at_first (answered byte byte).before (given_with byte)
are_lent byte = (
  at_header,
  decided,
  at_front,
  refl,
  (refl, refl),
  (
    at_header,
    given_with byte,
    at_front,
    refl,
    ((refl, refl), refl, (refl, refl), lit≤ tt, refl),
    refl,
  ),
)

two_run : RunsLent (Does takes_data (AnswersBy true)) (after_reset after_drop) Lends at_first
    (answered 0x2A 0x2A ∷ answered 0x2B 0x2B ∷ []) at_first
two_run = (
  given_with 0x2A,
  at_first,
  is_stretch 0x2A,
  are_lent 0x2A,
  (plan, under 0x2A, does 0x2A),
  (
    given_with 0x2B,
    at_first,
    is_stretch 0x2B,
    are_lent 0x2B,
    (plan, under 0x2B, does 0x2B),
    refl,
  ),
)
  where
    does : (byte : ℕ) → Does takes_data (AnswersBy true) (given_with byte) 256
        (tpdu_of (asked byte)) at_first
    does byte = record {
      response = byte ∷ [];
      status = (0x90, 0x00);
      makes = inl (inl ((refl, refl), refl), (refl, refl), lit≤ tt);
      none_sent = refl;
      brings = record { received_is = refl; status_is = refl; left_is = refl };
    }
