-- A tap takes each dialogue that it can read, and each character that it takes is one of a
-- dialogue.
use Rattle.std.proofs.Common.{◌≡◌, ℕ, zero, suc, ◌+◌, ◌-◌, ◌<◌, ◌≤◌, List, [], ◌∷◌, ◌++◌, length, take, drop, refl, sym, subst, ◌∙◌, ap, arith, inl, inr, lit<, true, false, Bool, ◌==◌, ◌⊎◌, nat_lt, if◌then◌else◌, Option, Some, None, length-append, not}
use Rattle.std.specs.List.{AllByRecursion, flat_map}
use Rattle.std.proofs.lemmas.List.{take_all, length-take-le}
use Rattle.std.proofs.lemmas.Bool.{ltb-true, ltb-false, ne_eqb, eqb-true, eqb-false}
use Rattle.apdu_core.specs.HeaderBytes.{header_bytes, ins_is_valid}
use Rattle.apdu_core.specs.StatusWord.{IsStatusWord, is_first_status}
use Rattle.t0_core.specs.declared.end.End.{End}
use Rattle.t0_core.specs.declared.end.End.TheVariants.{Terminal, Card}
use Rattle.t0_core.specs.declared.plan.Step.{Step}
use Rattle.t0_core.specs.declared.plan.Step.TheVariants.{Null}
use Rattle.t0_core.specs.declared.direction.Direction.{Direction}
use Rattle.t0_core.specs.declared.direction.Direction.TheVariants.{ToCard, FromCard}
use Rattle.t0_core.specs.declared.heard.Said.{Said}
use Rattle.t0_core.specs.declared.heard.Heard.{Heard}
use Rattle.t0_core.specs.declared.heard.Heard.TheVariants as heard
use Rattle.t0_core.specs.declared.heard.Due.TheVariants as due
use Rattle.t0_core.specs.declared.tap.TapStage.{TapStage}
use Rattle.t0_core.specs.declared.tap.TapStage.TheVariants as stage
use Rattle.t0_core.specs.declared.tap_fault.TapFault.{TapFault}
use Rattle.t0_core.specs.declared.tap_fault.TapFault.TheVariants.{OutOfTurn, BadProcedure}
use Rattle.t0_core.specs.Character.{Character, sent_by}
use Rattle.t0_core.specs.Dialogue.{Body, Dialogue, IsDialogue, characters, body_characters, segment_characters, data_sender, foreseen, procedure_byte, moves, all_moves, to_move}
use Rattle.t0_core.specs.Front.{Front, IsFront, front_characters, fresh, In_header, In_body, After_first, GoesOn, Ends, IsBetween, IsBegun, EndInLast, with_segment, with_moved, GoesOnInHeader}
use Rattle.t0_core.specs.FrontLaws.{goes_on, all_moves-more, all_moves-within, begins_between}
use Rattle.t0_core.specs.History.{Event, Passed, Whole, events_of, passed}
use Rattle.t0_core.specs.TapHistory.{HasHeard, HearsOn, IsOverheard}
use Rattle.t0_core.specs.TapView.{place_of, IsHeldAt}
use Rattle.t0_core.specs.DialogueLaws.{all_more, ends_with, events_item}
use Rattle.t0_core.specs.TapSide.{Place, In_opening, Between, In_data, After_sw1, SaysSo, Shows, IsRead, IsReadFront, IsPlace, TapStandsAt, Makes, tap_fault_at, heard_at, after_hearing, after_opening, begun_by, foreseen_by, may_come_from, due_at, direction_from, goes_this_way, way_of, with_one_more, is_terminal, tap_byte_fault, tap_procedure_fault, turned_body, turned, Takes, Concludes, afresh}
use Rattle.t0_core.specs.ProcedureLaws.{step_is, status_is_no_step, first_is_in_range}
use Rattle.t0_core.proofs.HostTook.{step_tells}
use Rattle.t0_core.proofs.HistoryLemmas.{events_with, passed_more}
use Rattle.t0_core.proofs.PlanLemmas.{nulls_move_nothing}
use Rattle.t0_core.specs.CardLaws.{next_header}

-- What the tap does with a character that continues a dialogue.
pub record TapTook (place : Place) (from : End) (byte : ℕ) (front new : Front) : Type 0 where
  pub none : tap_fault_at place from byte ≡ None
  pub makes : Makes (heard_at place from byte) front (from, byte) new
  pub stands : TapStandsAt (after_hearing place from byte) new

-- a header that is incomplete
opened_short : (bytes : List ℕ) → length bytes < 5 → after_opening bytes ≡ In_opening bytes
opened_short (a ∷ b ∷ c ∷ d ∷ e ∷ bytes) lt = absurd (omega (arith, lt))
opened_short _ _ = refl

in_header : (bytes heard : List ℕ) (from : End) (byte : ℕ) (new : Front) → heard ≡ bytes
    → length bytes < 5 → GoesOn (In_header heard) (from, byte) new
    → TapTook (In_opening bytes) from byte (In_header heard) new
in_header bytes heard from byte new same lt (way, inl (short, is)) =
    let len : length (bytes ++ byte ∷ []) < 5 =
    omega (arith, short, ap length same, length-append bytes (byte ∷ [])) in
    record {
      none = rw way refl;
      makes = (heard, refl);
      stands = rw (opened_short (bytes ++ byte ∷ []) len, is) (ap (λ x. x ++ byte ∷ []) same, len);
    }
in_header bytes heard from byte new same lt (way, inr (h, direction, whole, is)) =
    let all : bytes ≡ header_bytes h = sym same ∙ whole in
    record {
      none = rw way refl;
      makes = (heard, refl);
      stands = rw (all, is) (
        record {
          header_is = refl;
          p3_is = refl;
          shows = refl;
          moved_is = refl;
          is_read = λ _ _. tt;
        },
        refl,
      );
    }

-- each procedure byte is recognised, and SW1 is not one
begun_is : (ins : ℕ) (s : Step) (v : Bool) → ins_is_valid ins ≡ v → ins < 256
    → (ins_is_valid ins ≡ false → s ≡ Null) → begun_by ins (procedure_byte ins s) ≡ Some s
begun_is ins s true valid small nulls = rw valid (step_is ins s valid small)
begun_is ins s false invalid small nulls = rw (invalid, nulls invalid) refl

status_begins_nothing : (ins byte : ℕ) (v : Bool) → ins_is_valid ins ≡ v → ins < 256
    → IsStatusWord (byte, 0) → begun_by ins byte ≡ None
status_begins_nothing ins byte true valid small status =
    rw valid (status_is_no_step ins byte valid small status)
status_begins_nothing ins byte false invalid small status =
    let range = first_is_in_range byte status.0 in
    rw (
      invalid,
      ne_eqb byte 0x60 (λ same. elim range [
        | inl six ↦ absurd (omega (arith, same, six.0))
        | inr nine ↦ absurd (omega (arith, same, nine.0))
      ]),
    ) refl

-- With P3 other than 00 both directions have the same number of data characters.
pub both_foresee : (d e : Direction) (p3 : ℕ) → (p3 == 0) ≡ false → foreseen d p3 ≡ foreseen e p3
both_foresee ToCard ToCard p3 some = refl
both_foresee ToCard FromCard p3 some = rw some refl
both_foresee FromCard ToCard p3 some = rw some refl
both_foresee FromCard FromCard p3 some = refl

-- what is left by the tap's count is what is left, or P3 is 00 and nothing goes to the card
foresees : (seen : Option Direction) (d : Direction) (p3 : ℕ) (moved : List ℕ) → Shows seen d moved
    → (foreseen_by seen p3 ≡ foreseen d p3) ⊎ ((d ≡ ToCard) × (p3 ≡ 0))
foresees (Some seen) d p3 moved shows = inl (ap (λ x. foreseen x p3) shows.0)
foresees None FromCard p3 moved shows = inl refl
foresees None ToCard p3 moved shows = split (p3 == 0) refl
  where
    split : (v : Bool) → (p3 == 0) ≡ v
        → (foreseen FromCard p3 ≡ foreseen ToCard p3) ⊎ ((ToCard ≡ ToCard) × (p3 ≡ 0))
    split true none = inr (refl, eqb-true p3 0 none)
    split false some = inl (both_foresee FromCard ToCard p3 some)

-- the last segment is a NULL if all are
last_null : (segments : List Step) (s : Step) → AllByRecursion (λ t. t ≡ Null) (segments ++ s ∷ [])
    → s ≡ Null
last_null [] s all = all.0
last_null (t ∷ segments) s all = last_null segments s all.1

as_many : (said : Said) (b : Body) (s : Step) → SaysSo said b → IsRead (with_segment b s)
    → IsBetween b
    → to_move (with_segment b s) ≡ said.moved
    + moves s (foreseen_by said.direction said.p3 - said.moved)
as_many said b s says read between =
    let n = foreseen b.direction b.p3 in
    let so_far : to_move b ≡ said.moved = sym between ∙ says.moved_is in
    let more = all_moves-more b.segments s n in
    elim (foresees said.direction b.direction b.p3 b.moved says.shows) [
      | inl same ↦
          let same_here : foreseen_by said.direction said.p3 ≡ n =
          ap (λ x. foreseen_by said.direction x) (sym says.p3_is) ∙ same in
          more ∙ rw (so_far, same_here) refl
      | inr none ↦
          let null : s ≡ Null = last_null b.segments s (read none.0 none.1) in
          more ∙ rw (null, so_far) refl
    ]

-- the tap is inside a segment, or the segment has moved all its data
stands_on : (said : Said) (until : ℕ) (b : Body) (v : Bool) → nat_lt said.moved until ≡ v
    → said.moved ≤ until → SaysSo said b → to_move b ≡ until
    → TapStandsAt (if v then In_data said until else Between said) (In_body b)
stands_on said until b true e le says all = (says, ltb-true said.moved until e, all)
stands_on said until b false e le says all =
    (says, omega (arith, says.moved_is, le, ltb-false said.moved until e, all))

at_procedure : (said : Said) (from : End) (byte : ℕ) (b : Body) (s : Step)
    → said.header.ins < 256 → SaysSo said b → IsBetween b → from ≡ Card
    → (ins_is_valid b.header.ins ≡ false → s ≡ Null)
    → byte ≡ procedure_byte b.header.ins s → IsRead (with_segment b s)
    → TapTook (Between said) from byte (In_body b) (In_body (with_segment b s))
at_procedure said from byte b s small says between way nulls is read =
    let header = says.header_is in
    let nulls_here : ins_is_valid said.header.ins ≡ false → s ≡ Null =
    λ invalid. nulls (ap (λ x. ins_is_valid x.ins) header ∙ invalid) in
    let begun : begun_by said.header.ins byte ≡ Some s =
    ap (begun_by said.header.ins) (is ∙ ap (λ x. procedure_byte x.ins s) header)
    ∙ begun_is said.header.ins s (ins_is_valid said.header.ins) refl small nulls_here in
    let until = said.moved + moves s (foreseen_by said.direction said.p3 - said.moved) in
    record {
      none = rw (way, begun) refl;
      makes = rw begun (b, refl, refl);
      stands = rw begun
          (stands_on said until (with_segment b s) (nat_lt said.moved until) refl (omega arith)
          (record {
            header_is = says.header_is;
            p3_is = says.p3_is;
            shows = says.shows;
            moved_is = says.moved_is;
            is_read = read;
          })
          (as_many said b s says read between));
    }

at_status : (said : Said) (from : End) (byte : ℕ) (b : Body) → said.header.ins < 256 → SaysSo said b
    → IsBetween b → from ≡ Card → IsStatusWord (byte, 0)
    → TapTook (Between said) from byte (In_body b) (After_first b byte)
at_status said from byte b small says between way status =
    let none_begun =
    status_begins_nothing said.header.ins byte (ins_is_valid said.header.ins) refl small status in
    record {
      none = rw (way, none_begun, status.0) refl;
      makes = rw none_begun (b, refl, refl);
      stands = rw none_begun (says, refl, between);
    }

-- who sends data
pub direction_of_sender : (d : Direction) → direction_from (data_sender d) ≡ d
direction_of_sender ToCard = refl
direction_of_sender FromCard = refl

sender_goes : (d : Direction) → goes_this_way d (data_sender d) ≡ true
sender_goes ToCard = refl
sender_goes FromCard = refl

-- if data follow and P3 is 00, they come from the card
from_the_card : (d : Direction) (p3 : ℕ) → 0 < foreseen d p3 → p3 ≡ 0 → d ≡ FromCard
from_the_card ToCard p3 some none = absurd (omega (arith, some, none))
from_the_card FromCard p3 some none = refl

pub may_come : (seen : Option Direction) (d : Direction) (p3 : ℕ) (moved : List ℕ)
    → Shows seen d moved → 0 < foreseen d p3
    → may_come_from (due.Data (way_of seen p3)) (data_sender d) ≡ true
may_come (Some seen) d p3 moved shows some =
    rw (ap (λ x. goes_this_way x (data_sender d)) shows.0) (sender_goes d)
may_come None d p3 moved shows some = split (p3 == 0) refl
  where
    split : (v : Bool) → (p3 == 0) ≡ v
        → may_come_from (due.Data (way_of None p3)) (data_sender d) ≡ true
    split true none = rw (none, from_the_card d p3 some (eqb-true p3 0 none)) refl
    split false more = rw more refl

-- one data character more
pub one_more_said : (said : Said) (from : End) (byte : ℕ) (b : Body) → SaysSo said b
    → from ≡ data_sender b.direction → SaysSo (with_one_more said from) (with_moved b byte)
one_more_said said from byte b says way = record {
  header_is = says.header_is;
  p3_is = says.p3_is;
  shows = (
    ap direction_from way ∙ direction_of_sender b.direction,
    omega (arith, length-append b.moved (byte ∷ [])),
  );
  moved_is = length-append b.moved (byte ∷ []) ∙ ap (λ n. n + 1) says.moved_is;
  is_read = says.is_read;
}

in_data : (said : Said) (until : ℕ) (from : End) (byte : ℕ) (b : Body) → SaysSo said b
    → said.moved < until → to_move b ≡ until → from ≡ data_sender b.direction
    → TapTook (In_data said until) from byte (In_body b) (In_body (with_moved b byte))
in_data said until from byte b says lt all way =
    let some : 0 < foreseen b.direction b.p3 =
    omega (arith, lt, all, all_moves-within b.segments (foreseen b.direction b.p3)) in
    let turn : may_come_from (due.Data (way_of said.direction said.p3)) from ≡ true =
    ap (λ x. may_come_from (due.Data (way_of said.direction x)) from) (sym says.p3_is)
    ∙ ap (λ x. may_come_from (due.Data (way_of said.direction b.p3)) x) way
    ∙ may_come said.direction b.direction b.p3 b.moved says.shows some in
    record {
      none = rw turn refl;
      makes = (
        b,
        refl,
        sym (ap direction_from way ∙ direction_of_sender b.direction),
        refl,
      );
      stands = stands_on (with_one_more said from) until (with_moved b byte)
          (nat_lt (said.moved + 1) until) refl (omega (arith, lt))
          (one_more_said said from byte b says way) all;
    }

-- INS is a byte
abbrev pub HasByte : Place → Type 0
HasByte (Between said) = said.header.ins < 256
HasByte _ = Unit {0}

has_byte : (place : Place) → IsPlace place → HasByte place
has_byte (Between said) range = range.0
has_byte _ _ = tt

pub takes_all : (place : Place) (from : End) (byte : ℕ) (front new : Front) → HasByte place
    → TapStandsAt place front → GoesOn front (from, byte) new → IsReadFront new
    → TapTook place from byte front new
takes_all (In_opening bytes) from byte (In_header heard) new range at goes read =
    in_header bytes heard from byte new at.0 at.1 goes
takes_all (Between said) from byte (In_body b) new range at (inl (lt, way, is)) read =
    absurd (omega (arith, lt, at.1))
takes_all (Between said) from byte (In_body b) new range at
    (inr (inl (between, way, (s, nulls, byte_is, is)))) read =
    let Reads : Front → Type 0 = λ x. IsReadFront x in
    let here : IsRead (with_segment b s) = subst Reads is read in
    let P : Front → Type 0 = λ x. TapTook (Between said) from byte (In_body b) x in
    subst P (sym is) (at_procedure said from byte b s range at.0 between way nulls byte_is here)
takes_all (Between said) from byte (In_body b) new range at (inr (inr (between, way, status, is)))
    read =
    let P : Front → Type 0 = λ x. TapTook (Between said) from byte (In_body b) x in
    subst P (sym is) (at_status said from byte b range at.0 between way status)
takes_all (In_data said until) from byte (In_body b) new range at (inl (lt, way, is)) read =
    let P : Front → Type 0 = λ x. TapTook (In_data said until) from byte (In_body b) x in
    subst P (sym is) (in_data said until from byte b at.0 at.1 at.2 way)
takes_all (In_data said until) from byte (In_body b) new range at (inr begins) read =
    let between = begins_between b (from, byte) new begins in
    absurd (omega (arith, between.0, at.0.moved_is, at.1, at.2))
takes_all (After_sw1 said sw1) from byte (After_first b first) new range at goes read = absurd goes
takes_all _ _ _ _ _ _ at _ _ = absurd at

-- ---- a character that is taken is one of a dialogue

-- a character that is taken comes from an end that may send it
taken_in_turn : (v : Bool) (o : Option TapFault) → (if v then o else Some OutOfTurn) ≡ None
    → (v ≡ true) × (o ≡ None)
taken_in_turn true o e = (refl, e)
taken_in_turn false o e = absurd (cc)

of_terminal : (from : End) → is_terminal from ≡ true → from ≡ Terminal
of_terminal Terminal e = refl
of_terminal Card e = absurd (cc)

of_card : (from : End) → not (is_terminal from) ≡ true → from ≡ Card
of_card Terminal e = absurd (cc)
of_card Card e = refl

abbrev nothing : List ℕ
nothing = []

take_none : (n : ℕ) → take n nothing ≡ []
take_none n = take_all n nothing (omega arith)

drop_none : (n : ℕ) → drop n nothing ≡ []
drop_none zero = refl
drop_none (suc n) = refl

-- if no data have moved, nobody sees their direction
no_data_characters : (ins : ℕ) (d e : Direction) (segments : List Step) (n m : ℕ)
    → segment_characters ins d segments n [] ≡ segment_characters ins e segments m []
no_data_characters ins d e [] n m = refl
no_data_characters ins d e (s ∷ segments) n m =
    rw (
      take_none (moves s n),
      take_none (moves s m),
      drop_none (moves s n),
      drop_none (moves s m),
    )
    (ap (λ cs. (Card, procedure_byte ins s) ∷ cs)
    (no_data_characters ins d e segments (n - moves s n) (m - moves s m)))

same_characters : (b : Body) (way : Direction) → b.moved ≡ []
    → body_characters (turned_body way b) ≡ body_characters b
same_characters b way none =
    let same : segment_characters b.header.ins way b.segments (foreseen way b.p3) b.moved
    ≡ segment_characters b.header.ins b.direction b.segments (foreseen b.direction b.p3) b.moved =
    rw none (no_data_characters b.header.ins way b.direction b.segments (foreseen way b.p3)
    (foreseen b.direction b.p3)) in
    ap (λ cs. sent_by Terminal (header_bytes b.header ++ b.p3 ∷ []) ++ cs) same

nulls_in_last : (segments : List Step) (n : ℕ) → AllByRecursion (λ s. s ≡ Null) segments
    → EndInLast segments n 0
nulls_in_last [] n nulls = refl
nulls_in_last (s ∷ []) n nulls = omega arith
nulls_in_last (s ∷ t ∷ segments) n nulls =
    let InLast : ℕ → Type 0 = λ k. EndInLast (t ∷ segments) (n - moves s n) k in (
      rw (nulls.0) (omega arith),
      subst InLast (omega arith) (nulls_in_last (t ∷ segments) (n - moves s n) nulls.1),
    )

-- the front in the other direction is one too
abbrev TurnsTo : Direction → Body → Type 0
TurnsTo way b = IsBegun b → IsBegun (turned_body way b)

turns_by_count : (b : Body) (way : Direction) → foreseen b.direction b.p3 ≡ foreseen way b.p3
    → TurnsTo way b
turns_by_count b way same is =
    let InLast : ℕ → Type 0 = λ n. EndInLast b.segments n (length b.moved) in
    record { in_last = subst InLast same is.in_last; only_nulls = is.only_nulls }

turns_by_nulls : (b : Body) (way : Direction) → b.moved ≡ []
    → AllByRecursion (λ s. s ≡ Null) b.segments → TurnsTo way b
turns_by_nulls b way none nulls is =
    let InLast : List ℕ → Type 0 = λ m. EndInLast b.segments (foreseen way b.p3) (length m) in
    record {
      in_last = subst InLast (sym none) (nulls_in_last b.segments (foreseen way b.p3) nulls);
      only_nulls = is.only_nulls;
    }

abbrev TakesBody : Place → End → ℕ → Body → Type 0
TakesBody place from byte b =
    Takes (heard_at place from byte) (In_body b) (from, byte) (after_hearing place from byte)

-- the dialogue continues from the front in this direction
goes_so : (place : Place) (from : End) (byte : ℕ) (b : Body) (new : Front) (way : Direction)
    → body_characters (turned_body way b) ≡ body_characters b → TurnsTo way b
    → GoesOn (In_body (turned_body way b)) (from, byte) new
    → TapTook place from byte (In_body (turned_body way b)) new
    → TakesBody place from byte b
goes_so place from byte b new way same turns goes took = record {
  way = way;
  same = same;
  is_front = turns;
  goes = inl (new, goes, took.makes, took.stands);
}

-- from the front as it is
goes_straight : (place : Place) (from : End) (byte : ℕ) (b : Body) (new : Front)
    → GoesOn (In_body b) (from, byte) new → TapTook place from byte (In_body b) new
    → TakesBody place from byte b
goes_straight place from byte b new goes took =
    goes_so place from byte b new b.direction refl (λ is. is) goes took

-- while a header continues, nothing has happened that the tap does not read
header_read : (heard : List ℕ) (c : Character) (new : Front) → GoesOnInHeader heard c new
    → IsReadFront new
header_read heard c new (way, inl (short, is)) = let P : Front → Type 0 = λ f. IsReadFront f in
    subst P (sym is) tt
header_read heard c new (way, inr (h, direction, whole, is)) =
    let P : Front → Type 0 = λ f. IsReadFront f in subst P (sym is) (λ to none. tt)

pub header_goes : (heard : List ℕ) (byte : ℕ) → length heard < 5
    → (new : Front) × GoesOn (In_header heard) (Terminal, byte) new × IsReadFront new
header_goes heard byte lt =
    let next = next_header heard byte lt in
    (next.0, next.1, header_read heard (Terminal, byte) next.0 next.1)

took_header : (bytes heard : List ℕ) (from : End) (byte : ℕ) → heard ≡ bytes → length bytes < 5
    → from ≡ Terminal
    → Takes (heard_at (In_opening bytes) from byte) (In_header heard) (from, byte)
    (after_hearing (In_opening bytes) from byte)
took_header bytes heard from byte same lt way =
    let next = header_goes heard byte (omega (arith, lt, ap length same)) in
    let Goes : End → Type 0 = λ x. GoesOn (In_header heard) (x, byte) next.0 in
    let goes = subst Goes (sym way) next.1 in
    let took = takes_all (In_opening bytes) from byte (In_header heard) next.0 tt (same, lt) goes
    next.2 in
    record {
      way = FromCard;
      same = refl;
      is_front = λ is. is;
      goes = inl (next.0, goes, took.makes, took.stands);
    }

-- a byte is recognised as what it is
begun_tells : (ins byte : ℕ) (s : Step) (v : Bool) → ins_is_valid ins ≡ v
    → begun_by ins byte ≡ Some s
    → (byte ≡ procedure_byte ins s) × (ins_is_valid ins ≡ false → s ≡ Null)
begun_tells ins byte s true valid e =
    (step_tells ins byte s (rw valid at e), λ invalid. absurd (both (sym valid ∙ invalid)))
  where
    both : true ≡ false → ⊥
    both same = absurd (cc)
begun_tells ins byte s false invalid e = split (byte == 0x60) refl (rw invalid at e)
  where
    split : (v : Bool) → (byte == 0x60) ≡ v → (if byte == 0x60 then Some Null else None) ≡ Some s
        → (byte ≡ procedure_byte ins s) × (ins_is_valid ins ≡ false → s ≡ Null)
    split true is null =
        let s_is : Some Null ≡ Some s = rw is at null in
        let step : Null ≡ s = cc in
        (rw (← step) (eqb-true byte 0x60 is), λ _. sym step)
    split false is null = let no : None ≡ Some s = rw is at null in absurd (cc)

first_status_is : (byte : ℕ) (v : Bool) → (if v then None else Some BadProcedure) ≡ None → v ≡ true
first_status_is byte true e = refl
first_status_is byte false e = absurd (cc)

no_length : (moved : List ℕ) → length moved ≡ 0 → moved ≡ []
no_length [] e = refl
no_length (x ∷ moved) e = absurd (omega (arith, e))

shows_nothing : (seen : Option Direction) (d e : Direction) (moved : List ℕ) → Shows seen d moved
    → moved ≡ [] → Shows seen e moved
shows_nothing None d e moved shows none = none
shows_nothing (Some seen) d e moved shows none =
    absurd (omega (arith, shows.1, ap length none))

turned_says : (said : Said) (b : Body) (way : Direction) → SaysSo said b → b.moved ≡ []
    → IsRead (turned_body way b) → SaysSo said (turned_body way b)
turned_says said b way says none read = record {
  header_is = says.header_is;
  p3_is = says.p3_is;
  shows = shows_nothing said.direction b.direction way b.moved says.shows none;
  moved_is = says.moved_is;
  is_read = read;
}

from_is_to : FromCard ≡ ToCard → ⊥
from_is_to e = absurd (cc)

begins_segment : (b : Body) (from : End) (byte : ℕ) (s : Step) → IsBetween b → from ≡ Card
    → (ins_is_valid b.header.ins ≡ false → s ≡ Null) → byte ≡ procedure_byte b.header.ins s
    → GoesOn (In_body b) (from, byte) (In_body (with_segment b s))
begins_segment b from byte s between way nulls is =
    inr (inl (between, way, (s, nulls, is, refl)))

took_step : (said : Said) (from : End) (byte : ℕ) (b : Body) (s : Step)
    → said.header.ins < 256
    → SaysSo said b → IsBetween b → from ≡ Card
    → (ins_is_valid b.header.ins ≡ false → s ≡ Null) → byte ≡ procedure_byte b.header.ins s
    → TakesBody (Between said) from byte b
took_step said from byte b s range says between way nulls is = by_count (b.p3 == 0) refl
  where
    straight : IsRead (with_segment b s) → TakesBody (Between said) from byte b
    straight read = goes_straight (Between said) from byte b (In_body (with_segment b s))
        (begins_segment b from byte s between way nulls is)
        (at_procedure said from byte b s range says between way nulls is read)

    by_way : (d : Direction) → b.direction ≡ d → b.p3 ≡ 0 → TakesBody (Between said) from byte b
    by_way FromCard d_is zero_p3 =
        straight (λ to none. absurd (from_is_to (sym d_is ∙ to)))
    by_way ToCard d_is zero_p3 =
        let all_null = says.is_read d_is zero_p3 in
        let c = turned_body FromCard b in
        let moves_none : to_move b ≡ 0 =
        nulls_move_nothing b.segments (foreseen b.direction b.p3) all_null in
        let none : b.moved ≡ [] = no_length b.moved (between ∙ moves_none) in
        let between_too : IsBetween c = between ∙ moves_none
        ∙ sym (nulls_move_nothing b.segments (foreseen FromCard b.p3) all_null) in
        let says_too = turned_says said b FromCard says none
        (λ to count. absurd (from_is_to to)) in
        goes_so (Between said) from byte b (In_body (with_segment c s)) FromCard
        (same_characters b FromCard none) (turns_by_nulls b FromCard none all_null)
        (begins_segment c from byte s between_too way nulls is)
        (at_procedure said from byte c s range says_too between_too way nulls is
        (λ to count. absurd (from_is_to to)))

    by_count : (v : Bool) → (b.p3 == 0) ≡ v → TakesBody (Between said) from byte b
    by_count true none = by_way b.direction refl (eqb-true b.p3 0 none)
    by_count false some = straight (λ to none. absurd (eqb-false b.p3 0 some none))

took_between : (said : Said) (from : End) (byte : ℕ) (b : Body) (found : Option Step)
    → begun_by said.header.ins byte ≡ found → said.header.ins < 256
    → SaysSo said b → IsBetween b → from ≡ Card → tap_procedure_fault found byte ≡ None
    → TakesBody (Between said) from byte b
took_between said from byte b (Some s) begun range says between way none =
    let tells = begun_tells said.header.ins byte s (ins_is_valid said.header.ins) refl begun in
    let back = ap (λ x. x.ins) says.header_is in
    took_step said from byte b s range says between way
    (λ invalid. tells.1 (ap ins_is_valid (sym back) ∙ invalid))
    (tells.0 ∙ ap (λ x. procedure_byte x s) (sym back))
took_between said from byte b None begun range says between way none =
    let status : IsStatusWord (byte, 0) =
    (first_status_is byte (is_first_status byte) none, lit< tt) in
    goes_straight (Between said) from byte b (After_first b byte)
    (inr (inr (between, way, status, refl)))
    (at_status said from byte b range says between way status)

-- the direction of data that this end sends
this_way : (d : Direction) (from : End) → goes_this_way d from ≡ true → from ≡ data_sender d
this_way ToCard from e = of_terminal from e
this_way FromCard from e = of_card from e

sender_of : (from : End) → from ≡ data_sender (direction_from from)
sender_of Terminal = refl
sender_of Card = refl

took_data : (said : Said) (until : ℕ) (from : End) (byte : ℕ) (b : Body) → SaysSo said b
    → said.moved < until → to_move b ≡ until
    → may_come_from (due.Data (way_of said.direction said.p3)) from ≡ true
    → TakesBody (In_data said until) from byte b
took_data said until from byte b says lt all turn = by_seen said.direction refl
  where
    straight : from ≡ data_sender b.direction → TakesBody (In_data said until) from byte b
    straight way = goes_straight (In_data said until) from byte b (In_body (with_moved b byte))
        (inl (omega (arith, lt, all, says.moved_is), way, refl))
        (in_data said until from byte b says lt all way)

    some : 0 < foreseen b.direction b.p3
    some = omega (arith, lt, all, all_moves-within b.segments (foreseen b.direction b.p3))

    turned_round : b.moved ≡ [] → (b.p3 == 0) ≡ false → TakesBody (In_data said until) from byte b
    turned_round none more =
        let way = direction_from from in
        let c = turned_body way b in
        let count = both_foresee b.direction way b.p3 more in
        let says_too = turned_says said b way says none
        (λ to zero_p3. absurd (eqb-false b.p3 0 more zero_p3)) in
        let all_too : to_move c ≡ until = ap (λ n. all_moves b.segments n) (sym count) ∙ all in
        goes_so (In_data said until) from byte b (In_body (with_moved c byte)) way
        (same_characters b way none) (turns_by_count b way count)
        (inl (omega (arith, lt, all_too, says.moved_is), sender_of from, refl))
        (in_data said until from byte c says_too lt all_too (sender_of from))

    by_count : (v : Bool) → (b.p3 == 0) ≡ v → said.direction ≡ None → b.moved ≡ []
        → TakesBody (In_data said until) from byte b
    by_count true zero_p3 unseen none =
        let may : may_come_from (due.Data (way_of None b.p3)) from ≡ true =
        ap (λ x. may_come_from (due.Data (way_of None x)) from) says.p3_is
        ∙ ap (λ x. may_come_from (due.Data (way_of x said.p3)) from) (sym unseen) ∙ turn in
        let card : goes_this_way FromCard from ≡ true = rw zero_p3 at may in
        straight (this_way FromCard from card
        ∙ ap data_sender (sym (from_the_card b.direction b.p3 some (eqb-true b.p3 0 zero_p3))))
    by_count false more unseen none = turned_round none more

    by_seen : (seen : Option Direction) → said.direction ≡ seen
        → TakesBody (In_data said until) from byte b
    by_seen (Some d) is =
        let shows : Shows (Some d) b.direction b.moved =
        let P : Option Direction → Type 0 = λ x. Shows x b.direction b.moved in
        subst P is says.shows in
        let may : goes_this_way d from ≡ true =
        ap (λ x. may_come_from (due.Data (way_of x said.p3)) from) (sym is) ∙ turn in
        straight (this_way d from may ∙ ap data_sender shows.0)
    by_seen None is =
        let none : Shows None b.direction b.moved =
        let P : Option Direction → Type 0 = λ x. Shows x b.direction b.moved in
        subst P is says.shows in
        by_count (b.p3 == 0) refl is none

took_end : (said : Said) (sw1 : ℕ) (from : End) (byte : ℕ) (b : Body) (first : ℕ) → byte < 256
    → SaysSo said b → first ≡ sw1 → from ≡ Card
    → Takes (heard_at (After_sw1 said sw1) from byte) (After_first b first) (from, byte)
    (after_hearing (After_sw1 said sw1) from byte)
took_end said sw1 from byte b first small says same way = record {
  way = b.direction;
  same = refl;
  is_front = λ is. is;
  goes = inr (
    record { body = b; status = (first, byte) },
    (way, small, refl),
    (says, ap (λ x. (x, byte)) same),
    refl,
  );
}

pub took : (place : Place) (from : End) (byte : ℕ) (front : Front) → IsPlace place → byte < 256
    → TapStandsAt place front → tap_fault_at place from byte ≡ None
    → Takes (heard_at place from byte) front (from, byte) (after_hearing place from byte)
took place from byte front range small at none =
    let both = taken_in_turn (may_come_from (due_at place) from) (tap_byte_fault place byte) none in
    at_place place front range at both.0 both.1
  where
    at_place : (place : Place) (front : Front) → IsPlace place → TapStandsAt place front
        → may_come_from (due_at place) from ≡ true → tap_byte_fault place byte ≡ None
        → Takes (heard_at place from byte) front (from, byte) (after_hearing place from byte)
    at_place (In_opening bytes) (In_header heard) range at turn none =
        took_header bytes heard from byte at.0 at.1 (of_terminal from turn)
    at_place (Between said) (In_body b) range at turn none =
        took_between said from byte b (begun_by said.header.ins byte) refl range.0 at.0 at.1
        (of_card from turn) none
    at_place (In_data said until) (In_body b) range at turn none =
        took_data said until from byte b at.0 at.1 at.2 turn
    at_place (After_sw1 said sw1) (After_first b first) range at turn none =
        took_end said sw1 from byte b first small at.0 at.1 (of_card from turn)
    at_place _ _ _ at _ _ = absurd at

-- ---- the tap as contracts see it

pub stands_inside : (p seen : Place) (front : Front) → p ≡ seen → TapStandsAt seen front
    → TapStandsAt p front
stands_inside p seen front is stands = let P : Place → Type 0 = λ x. TapStandsAt x front in
    subst P (sym is) stands

-- if it refuses a character, no dialogue continues with it
pub hears_none : (p seen : Place) (from : End) (byte : ℕ) (fault : TapFault) → p ≡ seen → IsPlace p
    → tap_fault_at p from byte ≡ Some fault → (front new : Front) → TapStandsAt seen front
    → GoesOn front (from, byte) new → IsReadFront new → ⊥
hears_none p seen from byte fault is range why front new stands goes read =
    let none = (takes_all p from byte front new (has_byte p range)
    (stands_inside p seen front is stands) goes
    read).none in
    let no : None ≡ Some fault = sym none ∙ why in
    absurd (cc)

-- what it does with a character that it takes
pub record HearsOne (p seen : Place) (from : End) (byte : ℕ) (heard : Heard) (next : Place) : Type 0
  where
    pub seen_is : p ≡ seen
    pub range : IsPlace p
    pub small : byte < 256
    pub none : tap_fault_at p from byte ≡ None
    pub heard_is : heard ≡ heard_at p from byte
    pub next_is : next ≡ after_hearing p from byte

pub hears_all : (p seen : Place) (from : End) (byte : ℕ) (heard : Heard) (next : Place)
    → HearsOne p seen from byte heard next → (front new : Front) → TapStandsAt seen front
    → GoesOn front (from, byte) new → IsReadFront new
    → Makes heard front (from, byte) new × TapStandsAt next new
hears_all p seen from byte heard next hears front new stands goes read =
    let all = takes_all p from byte front new (has_byte p hears.range)
    (stands_inside p seen front hears.seen_is stands) goes read in
    rw (hears.heard_is, hears.next_is) (all.makes, all.stands)

pub hears_of_one : (p seen : Place) (from : End) (byte : ℕ) (heard : Heard) (next : Place)
    → HearsOne p seen from byte heard next → (front : Front) → TapStandsAt seen front
    → Takes heard front (from, byte) next
hears_of_one p seen from byte heard next hears front stands =
    rw (hears.heard_is, hears.next_is)
    (took p from byte front hears.range hears.small
    (stands_inside p seen front hears.seen_is stands) hears.none)

concluded_read : (heard : Heard) (d : Dialogue) → Concludes heard d → IsRead d.body
concluded_read (heard.SecondStatus said status) d concludes = concludes.0.is_read
concluded_read _ _ concludes = absurd concludes

ended_is : (front : Front) (c : Character) (d : Dialogue) → IsFront front → Ends front c d
    → IsDialogue d
ended_is (After_first b sw1) c d is ends =
    rw (ends.2) (record {
      moved_by_segments = is.1;
      is_status = (is.2.0, ends.1);
      only_nulls = is.0.only_nulls;
    })
ended_is (In_header bytes) c d is ends = absurd ends
ended_is (In_body b) c d is ends = absurd ends

ends_by_card : (front : Front) (c : Character) (d : Dialogue) → Ends front c d
    → characters d ≡ front_characters front ++ c ∷ []
ends_by_card (After_first b sw1) (from, byte) d ends =
    let P : End → Type 0 =
    λ x. characters d ≡ front_characters (After_first b sw1) ++ (x, byte) ∷ [] in
    subst P (sym ends.0) (ends_with (After_first b sw1) byte d (refl, ends.1, ends.2))
ends_by_card (In_header bytes) c d ends = absurd ends
ends_by_card (In_body b) c d ends = absurd ends

passed_whole : (front : Front) (c : Character) (d : Dialogue) → Ends front c d
    → events_of (Whole d) ≡ passed (front_characters front) ++ Passed c ∷ []
passed_whole front c d ends = ap passed (ends_by_card front c d ends)
    ∙ passed_more (front_characters front) c

pub hears_led : (p seen : Place) (from : End) (byte : ℕ) (heard : Heard) (next : Place)
    → HearsOne p seen from byte heard next → (events : List Event) (led : HasHeard events seen)
    → HearsOn led heard (from, byte) next
hears_led p seen from byte heard next hears events led =
    let takes = hears_of_one p seen from byte heard next hears led.front led.stands in
    let front = turned takes.way led.front in
    let is_front = takes.is_front led.is_front in
    let events_are : events ≡ flat_map events_of led.items ++ passed (front_characters front) =
    led.events_are
    ∙ ap (λ cs. flat_map events_of led.items ++ passed cs) (sym takes.same) in
    elim takes.goes [
      | inl goes ↦
          let grown = goes_on front goes.0 (from, byte) is_front goes.1 in
          record {
            now = record {
              items = led.items;
              front = goes.0;
              events_are = events_with events led.items front goes.0 (from, byte) events_are
                  grown.1;
              are_overheard = led.are_overheard;
              is_front = grown.0;
              stands = goes.3;
            };
            way = takes.way;
            goes = inl (goes.1, goes.2, refl);
          }
      | inr ends ↦
          record {
            now = record {
              items = led.items ++ Whole ends.0 ∷ [];
              front = fresh;
              events_are = events_item events led.items (passed (front_characters front))
                  (Passed (from, byte)) (Whole ends.0) events_are
                  (passed_whole front (from, byte) ends.0 ends.1);
              are_overheard = all_more IsOverheard led.items (Whole ends.0) led.are_overheard (
                ended_is front (from, byte) ends.0 is_front ends.1,
                concluded_read heard ends.0 ends.2,
              );
              is_front = lit< tt;
              stands = rw (ends.3) (refl, lit< tt);
            };
            way = takes.way;
            goes = inr (ends.0, ends.1, ends.2, refl, refl);
          }
    ]

pub heard_nothing : HasHeard [] afresh
heard_nothing = record {
  items = [];
  front = fresh;
  events_are = refl;
  are_overheard = tt;
  is_front = lit< tt;
  stands = (refl, lit< tt);
}

-- ---- the stage

pub place_in_range : (stage : TapStage) → IsHeldAt stage → IsPlace (place_of stage)
place_in_range (stage.Opening bytes taken) held =
    omega (arith, held.0, held.1, length-take-le taken bytes (omega (arith, held.0, held.1)))
place_in_range _ held = held

-- out of turn
pub out_of_turn : (place : Place) (from : End) (byte : ℕ) → may_come_from (due_at place) from
    ≡ false
    → tap_fault_at place from byte ≡ Some OutOfTurn
out_of_turn place from byte e = rw e refl

pub in_turn : (place : Place) (from : End) (byte : ℕ) (o : Option TapFault)
    → may_come_from (due_at place) from ≡ true → tap_byte_fault place byte ≡ o
    → tap_fault_at place from byte ≡ o
in_turn place from byte o e why = rw (e, why) refl
