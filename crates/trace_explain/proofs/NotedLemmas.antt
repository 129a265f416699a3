-- The reports of dialogues after one more character or reset.
use Rattle.std.proofs.Common.{◌≡◌, ◌<◌, ℕ, List, [], ◌∷◌, ◌++◌, ◌==◌, if◌then◌else◌, Option, Some, refl, sym, subst, ◌∙◌, ap, inl, inr, lit<, true, false, append_assoc, append-nil, length, arith, ◌≤◌, slice_index, fold, Bool, None, ◌&&◌, map}
use Rattle.std.specs.List.{AllByRecursion, flat_map}
use Rattle.std.proofs.lemmas.Bool.{and_parts, ne_eqb, eqb-true}
use Rattle.std.proofs.lemmas.List.{map-append}
use Rattle.std.proofs.lemmas.List.Sums.{fold-append}
use Rattle.t0_core.specs.declared.direction.Direction.{Direction}
use Rattle.t0_core.specs.declared.end.End.{End}
use Rattle.t0_core.specs.declared.heard.Heard.{Heard}
use Rattle.t0_core.specs.Character.{Character, sent_by}
use Rattle.t0_core.specs.Dialogue.{Dialogue, Body, IsDialogue, all_moves, characters, foreseen, segment_characters}
use Rattle.t0_core.specs.Front.{Front, In_header, In_body, After_first, GoesOn, Ends, fresh, front_characters, EndInLast, IsFront}
use Rattle.t0_core.specs.History as history
use Rattle.t0_core.specs.History.{Item, Whole, Cut_off, events_of, passed}
use Rattle.t0_core.specs.TapSide.{After_sw1, Between, In_data, In_opening, Makes, Concludes, TapStandsAt, turned, afresh, due_at, Place, heard_at, heard_procedure, tap_fault_at}
use Rattle.t0_core.specs.TapHistory.{HasHeard, HearsOn, IsOverheard}
use Rattle.trace_explain.specs.declared.follow.listener.Listener.{Listener}
use Rattle.trace_explain.specs.Reports.{Report, both_marks, ends_next, marked, no_mark, report_of, counted, uncounted, no_report, noted, is_last, reported, Reports, ReportsFront, reported_body}
use Rattle.trace_explain.specs.Noted.{Carried, Event, HasNoted, IsNoted, IsNotedItem, NotesRun, Part, Passed, ReportItems, AreStatus, IsBare, Reset, bared, carried_in, ended_by, events_in, is_bare, mark_of, on_line, with_event}
use Rattle.apdu_core.specs.HeaderBytes.{header_bytes}
use Rattle.apdu_core.specs.StatusWord.{IsStatusWord, count}
use Rattle.t0_core.specs.declared.direction.Direction.TheVariants.{ToCard, FromCard}
use Rattle.t0_core.specs.declared.end.End.TheVariants.{Card, Terminal}
use Rattle.t0_core.specs.declared.plan.Step.{Step}
use Rattle.t0_core.specs.declared.plan.Step.TheVariants.{Null, One, All}
use Rattle.t0_core.specs.DialogueLaws.{all_more, flat_map_last}
use Rattle.t0_core.specs.FrontLaws.{all_moves-within}
use Rattle.t0_core.specs.WholeLaws.{owes}
use Rattle.t0_core.specs.declared.tap_fault.TapFault.{TapFault}
use Rattle.trace_explain.specs.declared.follow.tally.Tally.{Tally}
use Rattle.trace_explain.specs.declared.follow.tpdu.Mark.{Mark}
use Rattle.trace_explain.specs.declared.follow.tpdu.Tpdu.{Tpdu}
use Rattle.t0_core.specs.declared.heard.Heard.TheVariants as heard
use Rattle.t0_core.specs.TapLaws as law

-- A report has no direction that nobody has seen.
reports_turned : (t : Report) (loose : Mark) (way : Direction) (front : Front)
    → ReportsFront t loose front → ReportsFront t loose (turned way front)
reports_turned t loose way (In_header bytes) h = h
reports_turned t loose way other h = h

-- One more character.
in_header : (way : Option Direction) (loose : Mark) (bytes : List ℕ) (c : Character) (new : Front)
    → GoesOn (In_header bytes) c new
    → noted (reported way loose (In_header bytes)) heard.Header c.1 ≡ reported way loose new
in_header way loose bytes c new (from, inl (short, is)) = ap (reported way loose) (sym is)
in_header way loose bytes c new (from, inr (header, direction, bytes_are, is)) = grind (arith)

noted_continues : (t : Report) (loose : Mark) (front new : Front) (h : Heard) (c : Character)
    → ReportsFront t loose front
    → GoesOn front c new → Makes h front c new → ReportsFront (noted t h c.1) loose new
noted_continues t loose front new heard.Header c reports goes (bytes, is) = grind (arith, in_header)
noted_continues t loose front new (heard.Procedure step) c reports goes (b, is, next) =
    grind (arith, fold-append)
noted_continues t loose front new (heard.Data direction) c reports goes (b, is, way, next) =
    grind (arith)
noted_continues t loose front new heard.FirstStatus c reports goes (b, is, next) = grind (arith)
noted_continues t loose front new (heard.SecondStatus said status) c reports goes bad = absurd bad

-- The last character.
noted_ends : (t : Report) (loose : Mark) (front : Front) (d : Dialogue) (h : Heard) (c : Character)
    → ReportsFront t loose front → Ends front c d → Concludes h d → Reports (noted t h c.1) loose d
noted_ends t loose (After_first b sw1) d (heard.SecondStatus said status) c reports ends ends_so =
    grind (arith)
noted_ends t loose (After_first b sw1) d other c reports ends bad = absurd bad
noted_ends t loose other d h c reports ends ends_so = absurd ends

-- The mark after one more event.
mark_last : (events : List Event) (e : Event)
    → mark_of (events ++ e ∷ []) ≡ with_event (mark_of events) e
mark_last events e = fold-append with_event no_mark events (e ∷ [])

-- A dialogue at T=0 carries nothing at T=1.
none_carried : (events : List Event) (cs : List Character) → map on_line events ≡ passed cs
    → carried_in (events ++ Reset ∷ []) ≡ []
none_carried [] cs is = refl
none_carried (e ∷ events) [] is = absurd (cc)
none_carried (Passed c l ∷ events) (d ∷ cs) is = none_carried events cs (cc)
none_carried (other ∷ events) (d ∷ cs) is = absurd (cc)

marked_front : (t : Report) (m n : Mark) (front : Front) → ReportsFront t m front
    → ReportsFront (marked n t) (both_marks m n) front
marked_front t m n (In_header bytes) h = ap (marked n) h
marked_front t m n other h = ap (marked n) h

-- Which of the two it is.
makes_no_last : (h : Heard) (front new : Front) (c : Character) → Makes h front c new
    → is_last h ≡ true → ⊥
makes_no_last (heard.SecondStatus said status) front new c makes last = absurd makes
makes_no_last other front new c makes last = absurd (cc)

ends_last : (h : Heard) (d : Dialogue) → Concludes h d → is_last h ≡ false → ⊥
ends_last (heard.SecondStatus said status) d ends_so last = absurd (cc)
ends_last other d ends_so last = absurd ends_so

-- Dialogues after others.
pub reports_both : (parts : List Part) (reports : List Report) (more : List Part)
    (later : List Report) → ReportItems parts reports → ReportItems more later
    → ReportItems (parts ++ more) (reports ++ later)
reports_both [] [] more later h k = k
reports_both [] (t ∷ reports) more later h k = absurd h
reports_both ((Whole d, events) ∷ parts) [] more later h k = absurd h
reports_both ((Whole d, events) ∷ parts) (t ∷ reports) more later h k =
    (h.0, reports_both parts reports more later h.1 k)
reports_both ((Cut_off [], events) ∷ parts) reports more later (rest, is, h) k = (
  rest ++ later,
  ap (λ ts. ts ++ later) is ∙ append_assoc (carried_in events) rest later,
  reports_both parts rest more later h k,
)
reports_both ((Cut_off (c ∷ part), events) ∷ parts) [] more later h k = absurd h
reports_both ((Cut_off (c ∷ part), events) ∷ parts) (t ∷ reports) more later h k =
    (h.0, h.1, reports_both parts reports more later h.2 k)

-- The report of a dialogue that is cut off, unless nothing of it was received.
abbrev pub cut_of : Report → List Report
cut_of t = if length t.header == 0 then [] else t ∷ []

cut_some : (t : Report) → 0 < length t.header → cut_of t ≡ t ∷ []
cut_some t some =
    ap (λ v. if v then [] else t ∷ []) (ne_eqb (length t.header) 0 (omega (arith, some)))

pub size_of : {t u : Report} → t ≡ u → length t.header ≡ length u.header
size_of is = ap (λ (x : Report). length x.header) is

reports_part : (t : Report) (front : Front) (events : List Event)
    → ReportsFront t (mark_of events) front → carried_in events ≡ []
    → ReportItems ((Cut_off (front_characters front), events) ∷ []) (cut_of t)
reports_part t (In_header []) events h none = rw (ap (λ (x : Report). x.header) h)
    ([], sym (ap (λ ts. ts ++ []) none), tt)
reports_part t other events h none =
    rw (cut_some t (omega (arith, size_of h))) ((other, refl, h), none, tt)

-- The front of the tap, with nothing before it.
abbrev pub alone : (events : List Event) (reports : List Report) (l : Listener)
    → (n : HasNoted events reports l) → HasHeard (passed (front_characters n.front)) l.tap
alone events reports l n = record {
  items = [];
  front = n.front;
  events_are = refl;
  are_overheard = tt;
  is_front = n.is_front;
  stands = n.is_at;
}

-- Between two dialogues.
reports_nothing : {t : Report} → t ≡ no_report → ReportsFront t no_mark fresh
reports_nothing is = rw is refl

pub noted_between : (parts : List Part) (events : List Event) (reports : List Report)
    (new : Listener) → events ≡ events_in parts → AllByRecursion IsNoted parts
    → ReportItems parts reports → TapStandsAt new.tap fresh → report_of new.under_way ≡ no_report
    → HasNoted events reports new
noted_between parts events reports new events_are are_noted are stands is = record {
  parts = parts;
  last = [];
  front = fresh;
  events_are = events_are ∙ sym (append-nil (events_in parts));
  last_are = refl;
  are_noted = are_noted;
  is_front = lit< tt;
  is_at = stands;
  are_reported = are;
  under_way = reports_nothing is;
}

stands_afresh : {place : Place} → place ≡ afresh → TapStandsAt place fresh
stands_afresh is = rw is (refl, lit< tt)

-- Before the first character.
pub hears_nothing : (new : Listener) → report_of new.under_way ≡ no_report
    → new.tap ≡ afresh → HasNoted [] [] new
hears_nothing new is tap_is = noted_between [] [] [] new refl tt tt (stands_afresh tap_is) is

-- What a tap has heard is noted.
noted_item : (item : Item) → IsOverheard item → IsNotedItem item
noted_item (Whole d) h = (h.0, inl h.1)
noted_item (Cut_off part) h = h

spelled : (last : List Event) (e : Event) {front : List history.Event} → map on_line last ≡ front
    → map on_line (last ++ e ∷ []) ≡ front ++ on_line e ∷ []
spelled last e is = map-append on_line last (e ∷ []) ∙ ap (λ es. es ++ on_line e ∷ []) is

-- A part ends with this event.
noted_more : (events : List Event) (reports later : List Report) (old new : Listener) (e : Event)
    (item : Item) (n : HasNoted events reports old)
    (now : HasHeard (passed (front_characters n.front) ++ on_line e ∷ []) new.tap)
    → now.items ≡ item ∷ [] → now.front ≡ fresh
    → ReportItems ((item, n.last ++ e ∷ []) ∷ []) later → report_of new.under_way ≡ no_report
    → HasNoted (events ++ e ∷ []) (reports ++ later) new
noted_more events reports later old new e item n now items_are front_is are is =
    let part : Part = (item, n.last ++ e ∷ []) in
    let S : Front → Type 0 = λ f. TapStandsAt new.tap f in
    let O : List Item → Type 0 = λ is. AllByRecursion IsOverheard is in
    noted_between (n.parts ++ part ∷ []) (events ++ e ∷ []) (reports ++ later) new
    (ap (λ es. es ++ e ∷ []) n.events_are ∙ append_assoc (events_in n.parts) n.last (e ∷ [])
    ∙ sym (flat_map_last (λ (p : Part). p.1) n.parts part))
    (all_more IsNoted n.parts part n.are_noted (
      noted_item item (subst O items_are now.are_overheard).0,
      spelled n.last e n.last_are ∙ now.events_are
          ∙ ap (λ is. flat_map events_of is ++ passed (front_characters now.front)) items_are
          ∙ ap (λ f. (events_of item ++ []) ++ passed (front_characters f)) front_is
          ∙ append-nil (events_of item ++ []) ∙ append-nil (events_of item),
    ))
    (reports_both n.parts reports (part ∷ []) later n.are_reported are)
    (subst S front_is now.stands) is

-- Not each character ends a dialogue.
none_last : (o : Option Step) → is_last (heard_procedure o) ≡ false
none_last None = refl
none_last (Some step) = refl

pub not_last : (p : Place) (from : End) (byte : ℕ) → ends_next (due_at p) ≡ false
    → is_last (heard_at p from byte) ≡ false
not_last (In_opening bytes) from byte inside = refl
not_last (Between said) from byte inside = none_last _
not_last (In_data said until) from byte inside = refl
not_last (After_sw1 said sw1) from byte inside = absurd (cc)

-- One more character after others.
pub notes_more : (from : End) (loose : Mark) (bytes : List ℕ) (byte : ℕ) (events : List Event)
    (reports : List Report) (mid new : Listener)
    → ((es : List Event) → HasNoted es reports mid
    → HasNoted (es ++ Passed (from, byte) loose ∷ []) reports new)
    → NotesRun from loose bytes events reports mid
    → NotesRun from loose (bytes ++ byte ∷ []) events reports new
notes_more from loose [] byte events reports mid new one h = ((mid, h), one events h)
notes_more from loose (b ∷ bytes) byte events reports mid new one (at, rest) = (
  at,
  notes_more from loose bytes byte (events ++ Passed (from, b) loose ∷ []) reports mid new one rest,
)

-- A character that does not end a dialogue, or one that does.
pub hears_inside : (events : List Event) (reports : List Report) (old new : Listener) (h : Heard)
    (c : Character) (loose : Mark) (n : HasNoted events reports old)
    → HearsOn (alone events reports old n) h c new.tap → is_last h ≡ false
    → report_of new.under_way ≡ marked loose (noted (report_of old.under_way) h c.1)
    → HasNoted (events ++ Passed c loose ∷ []) reports new
hears_inside events reports old new h c loose n on inside is = elim on.goes [
  | inl (goes, makes, items_are) ↦
      let so = mark_of n.last in
      let t = report_of old.under_way in
      let Q : Mark → Report → Type 0 = λ v x. ReportsFront x v on.now.front in
      let R : Report → Type 0 = Q (mark_of (n.last ++ Passed c loose ∷ [])) in
      let V : Mark → Type 0 = λ v. Q v (marked loose (noted t h c.1)) in
      record {
        parts = n.parts;
        last = n.last ++ Passed c loose ∷ [];
        front = on.now.front;
        events_are = ap (λ es. es ++ Passed c loose ∷ []) n.events_are
            ∙ append_assoc (events_in n.parts) n.last (Passed c loose ∷ []);
        last_are = spelled n.last (Passed c loose) n.last_are ∙ on.now.events_are
            ∙ ap (λ items. flat_map events_of items ++ passed (front_characters on.now.front))
            items_are;
        are_noted = n.are_noted;
        is_front = on.now.is_front;
        is_at = on.now.stands;
        are_reported = n.are_reported;
        under_way = subst R (sym is) (subst V (sym (mark_last n.last (Passed c loose)))
            (marked_front (noted t h c.1) so loose on.now.front
            (noted_continues t so (turned on.way n.front) on.now.front h c
            (reports_turned t so on.way n.front n.under_way) goes makes)));
      }
  | inr (d, ends, ends_so, front_is, items_are) ↦ absurd (ends_last h d ends_so inside)
]

pub hears_last : (events : List Event) (reports : List Report) (old new : Listener) (h : Heard)
    (c : Character) (loose : Mark) (n : HasNoted events reports old)
    → HearsOn (alone events reports old n) h c new.tap
    → is_last h ≡ true → report_of new.under_way ≡ no_report
    → HasNoted (events ++ Passed c loose ∷ [])
    (reports ++ marked loose (noted (report_of old.under_way) h c.1) ∷ []) new
hears_last events reports old new h c loose n on last is = elim on.goes [
  | inl (goes, makes, items_are) ↦
      absurd (makes_no_last h (turned on.way n.front) on.now.front c makes last)
  | inr (d, ends, ends_so, front_is, items_are) ↦
      let so = mark_of n.last in
      let t = report_of old.under_way in
      let t2 : Report = marked loose (noted t h c.1) in
      let V : Mark → Type 0 = λ v. Reports t2 v d in
      let ended = noted_ends t so (turned on.way n.front) d h c
      (reports_turned t so on.way n.front n.under_way) ends ends_so in
      noted_more events reports (t2 ∷ []) old new (Passed c loose) (Whole d) n on.now items_are
      front_is
      (subst V (sym (mark_last n.last (Passed c loose))) (ap (marked loose) ended.0, ended.1), tt)
      is
]

-- A reset.
pub hears_reset : (events : List Event) (reports : List Report) (old new : Listener)
    → HasNoted events reports old → new.tap ≡ afresh → report_of new.under_way ≡ no_report
    → HasNoted (events ++ Reset ∷ []) (reports ++ cut_of (report_of old.under_way)) new
hears_reset events reports old new n tap_is is =
    let t = report_of old.under_way in
    let part = front_characters n.front in
    let V : Mark → Type 0 = λ v. ReportsFront t v n.front in
    let (cut, items_are, front_is) =
    law.heard_reset (passed part) old.tap new.tap tap_is (alone events reports old n) in
    noted_more events reports (cut_of t) old new Reset (Cut_off part) n cut items_are front_is
    (reports_part t n.front (n.last ++ Reset ∷ [])
    (subst V (sym (mark_last n.last Reset)) n.under_way)
    (none_carried n.last (front_characters n.front) n.last_are)) is

-- With P3 00 no data move to the card.
from_card : (way : Direction) (segments : List Step) (p3 n : ℕ) → p3 ≡ 0 → n ≡ 2
    → n ≤ all_moves segments (foreseen way p3) → way ≡ FromCard
from_card FromCard segments p3 n p3_is n_is h = refl
from_card ToCard segments p3 n p3_is n_is h =
    absurd (omega (arith, p3_is, n_is, h, all_moves-within segments p3))

-- A procedure byte for one character stays counted.
ones_stay : (segments : List Step) (t : Tally) → 0 < t.ones → 0 < (fold counted t segments).ones
ones_stay [] t h = h
ones_stay (Null ∷ segments) t h = ones_stay segments (counted t Null) h
ones_stay (One ∷ segments) t h = ones_stay segments (counted t One) (omega (arith, h))
ones_stay (All ∷ segments) t h = ones_stay segments (counted t All) h

-- Two of 256 data are received from the card, and no procedure byte asked for one: NULLs alone
-- precede INS. The same characters are a status without data to the card.
nulls_before : (ins sw1 sw2 : ℕ) (segments : List Step) (t : Tally) → EndInLast segments 256 2
    → (fold counted t segments).ones ≡ 0
    → (nulls : List Step) × AllByRecursion (λ s. s ≡ Null) nulls × (segments ≡ nulls ++ All ∷ [])
    × (segment_characters ins ToCard segments 0 [] ++ sent_by Card (sw1 ∷ sw2 ∷ [])
    ≡ segment_characters ins FromCard segments 256 (sw1 ∷ sw2 ∷ []))
nulls_before ins sw1 sw2 [] t h none = absurd (omega (arith, h))
nulls_before ins sw1 sw2 (Null ∷ []) t h none = absurd (omega (arith, h))
nulls_before ins sw1 sw2 (All ∷ []) t h none = ([], tt, refl, refl)
nulls_before ins sw1 sw2 (Null ∷ s ∷ segments) t h none =
    let (nulls, are, is, same) = nulls_before ins sw1 sw2 (s ∷ segments) (counted t Null) h.1 none
    in (
      Null ∷ nulls,
      (refl, are),
      ap (λ steps. Null ∷ steps) is,
      ap (λ cs. (Card, 0x60) ∷ cs) same,
    )
nulls_before ins sw1 sw2 (One ∷ segments) t h none =
    absurd (omega (arith, none, ones_stay segments (counted t One) (omega arith)))
nulls_before ins sw1 sw2 (All ∷ s ∷ segments) t h none = absurd (omega (arith, h.0))

-- The dialogue that such a front is.
two_of : (moved : List ℕ) → AreStatus moved
    → (sw1 : ℕ) × (sw2 : ℕ) × (moved ≡ sw1 ∷ sw2 ∷ []) × IsStatusWord (sw1, sw2)
two_of (sw1 ∷ sw2 ∷ []) h = (sw1, sw2, refl, h)
two_of other h = absurd h

abbrev as_dialogue : Body → ℕ → ℕ → Dialogue
as_dialogue b sw1 sw2 = record {
  body = record {
    header = b.header;
    p3 = b.p3;
    direction = ToCard;
    segments = b.segments;
    moved = [];
  };
  status = (sw1, sw2);
}

abbrev IsOfBare : Report → Mark → Front → Dialogue → Type 0
IsOfBare t loose front d = IsDialogue d × IsBare d.body
    × (front_characters front ≡ characters d) × Reports (bared t) loose d

bare_body : (t : Report) (loose : Mark) (b : Body) (sw1 sw2 : ℕ)
    → ReportsFront t loose (In_body b) → IsFront (In_body b)
    → slice_index t.header 4 ≡ 0 → t.tally.ones ≡ 0 → t.moved ≡ sw1 ∷ sw2 ∷ []
    → IsStatusWord (sw1, sw2) → IsOfBare t loose (In_body b) (as_dialogue b sw1 sw2)
bare_body t loose b sw1 sw2 reports front p3_read none moved_is status =
    let ins = b.header.ins in
    let two : List ℕ = sw1 ∷ sw2 ∷ [] in
    let d = as_dialogue b sw1 sw2 in
    let p3_is : b.p3 ≡ 0 = sym (ap (λ (x : Report). slice_index x.header 4) reports) ∙ p3_read in
    let data_are : b.moved ≡ two = sym (ap (λ (x : Report). x.moved) reports) ∙ moved_is in
    let way_is : b.direction ≡ FromCard =
    from_card b.direction b.segments b.p3 (length b.moved) p3_is (ap length data_are)
    (owes b front) in
    let all_is : foreseen b.direction b.p3 ≡ 256 =
    ap (λ way. foreseen way b.p3) way_is ∙ ap count p3_is in
    let (nulls, are, is, same) = nulls_before ins sw1 sw2 b.segments uncounted
    (rw (all_is, data_are) at front.in_last)
    (sym (ap (λ (x : Report). x.tally.ones) reports) ∙ none) in
    let opening = sent_by Terminal (header_bytes b.header ++ b.p3 ∷ []) in
    let to_card : ℕ → List Character = λ n. segment_characters ins ToCard b.segments n [] in (
      record {
        moved_by_segments = omega (arith, p3_is, all_moves-within b.segments b.p3);
        is_status = status;
        only_nulls = front.only_nulls;
      },
      record {
        p3_is = p3_is;
        direction_is = refl;
        nulls = nulls;
        are_nulls = are;
        segments_are = is;
      },
      ap (λ cs. opening ++ cs)
          (ap (λ way. segment_characters ins way b.segments (foreseen b.direction b.p3) b.moved)
          way_is
          ∙ ap (λ n. segment_characters ins FromCard b.segments n b.moved) all_is
          ∙ ap (λ xs. segment_characters ins FromCard b.segments 256 xs) data_are
          ∙ sym same
          ∙ ap (λ n. to_card n ++ sent_by Card two) (sym p3_is))
          ∙ sym (append_assoc opening (to_card b.p3) (sent_by Card two)),
      (ap bared reports ∙ ap (reported_body None loose d.body) data_are, refl),
    )

bare_front : (t : Report) (loose : Mark) (front : Front) → ReportsFront t loose front
    → IsFront front → is_bare t ≡ true
    → AreStatus t.moved → (d : Dialogue) × IsOfBare t loose front d
bare_front t loose (In_header bytes) reports front bare status = absurd (rw reports at status)
bare_front t loose (After_first b sw1) reports front bare status =
    absurd (omega (
      arith,
      eqb-true (length t.status) 0 (and_parts _ _ (and_parts _ _ bare).0).1,
      ap (λ (x : Report). length x.status) reports,
    ))
bare_front t loose (In_body b) reports front bare status =
    let both = and_parts _ _ (and_parts _ _ (and_parts _ _ bare).0).0 in
    let (sw1, sw2, moved_is, word) = two_of t.moved status in (
      as_dialogue b sw1 sw2,
      bare_body t loose b sw1 sw2 reports front (eqb-true (slice_index t.header 4) 0 both.0)
          (eqb-true t.tally.ones 0 both.1) moved_is word,
    )

-- It ends, and is reported.
pub hears_bare : (events : List Event) (reports : List Report) (old new : Listener)
    → HasNoted events reports old → is_bare (report_of old.under_way) ≡ true
    → AreStatus (report_of old.under_way).moved → new.tap ≡ afresh
    → report_of new.under_way ≡ no_report
    → HasNoted events (reports ++ bared (report_of old.under_way) ∷ []) new
hears_bare events reports old new n bare status tap_is is =
    let t = report_of old.under_way in
    let (d, is_so) =
    bare_front t (mark_of n.last) n.front n.under_way n.is_front bare status in
    let part : Part = (Whole d, n.last) in
    noted_between (n.parts ++ part ∷ []) events (reports ++ bared t ∷ []) new
    (n.events_are ∙ sym (flat_map_last (λ (p : Part). p.1) n.parts part))
    (all_more IsNoted n.parts part n.are_noted
    ((is_so.0, inr is_so.1), n.last_are ∙ ap passed is_so.2))
    (reports_both n.parts reports (part ∷ []) (bared t ∷ []) n.are_reported (is_so.3, tt))
    (stands_afresh tap_is) is

-- The next character of the terminal begins a header.
pub hears_behind : (events : List Event) (before : List Report) (whole : Tpdu)
    (old mid new : Listener) (h : Heard) (byte : ℕ) (loose : Mark)
    → HasNoted events before old → is_bare (report_of old.under_way) ≡ true
    → AreStatus (report_of old.under_way).moved → mid.tap ≡ afresh
    → report_of mid.under_way ≡ no_report
    → report_of whole ≡ bared (report_of old.under_way)
    → ((es : List history.Event) (led : HasHeard es mid.tap)
    → HearsOn led h (Terminal, byte) new.tap)
    → h ≡ heard_at mid.tap Terminal byte
    → report_of new.under_way ≡ marked loose (noted (report_of mid.under_way) h byte)
    → HasNoted (events ++ Passed (Terminal, byte) loose ∷ []) (before ++ report_of whole ∷ []) new
hears_behind events before whole old mid new h byte loose n bare status tap_is is whole_is on h_is
    noted_is =
    let reports = before ++ report_of whole ∷ [] in
    let ended : HasNoted events reports mid =
    rw whole_is (hears_bare events before old mid n bare status tap_is is) in
    hears_inside events reports mid new h (Terminal, byte) loose ended
    (on (passed (front_characters ended.front)) (alone events reports mid ended))
    (ap is_last (h_is ∙ ap (λ p. heard_at p Terminal byte) tap_is)) noted_is

-- No character of the terminal is refused then.
pub header_refused : (p : Place) (byte : ℕ) (why : TapFault) → p ≡ afresh
    → Some why ≡ tap_fault_at p Terminal byte → ⊥
header_refused p byte why is refused = grind (arith)

-- Something of such a command was received.
bare_some : (t : Report) (loose : Mark) (front : Front) → ReportsFront t loose front
    → AreStatus t.moved → 0 < length t.header
bare_some t loose (In_header bytes) reports status = absurd (rw reports at status)
bare_some t loose other reports status = omega (arith, size_of reports)

-- A reset after such a command, or after anything else.
pub reset_noted : (events : List Event) (reports : List Report) (old new : Listener)
    → HasNoted events reports old → new.tap ≡ afresh → report_of new.under_way ≡ no_report
    → (is_bare (report_of old.under_way) ≡ true → AreStatus (report_of old.under_way).moved)
    → HasNoted (events ++ Reset ∷ []) (reports ++ ended_by (report_of old.under_way)) new
reset_noted events reports old new n tap_is is status = split (is_bare t) refl
  where
    t : Report
    t = report_of old.under_way

    P : List Report → Type 0
    P ts = HasNoted (events ++ Reset ∷ []) (reports ++ ts) new

    split : (v : Bool) → is_bare t ≡ v → P (ended_by t)
    split true e =
        let mid = hears_bare events reports old new n e (status e) tap_is is in
        let some = bare_some t (mark_of n.last) n.front n.under_way (status e) in
        let same : ended_by t ≡ bared t ∷ [] =
        rw (ne_eqb (length t.header) 0 (omega (arith, some))) (rw e refl) in
        let Q : List Report → Type 0 = λ ts. HasNoted (events ++ Reset ∷ []) ts new in
        subst Q (ap (λ ts. (reports ++ bared t ∷ []) ++ ts) (ap cut_of is)
        ∙ append-nil (reports ++ bared t ∷ []) ∙ ap (λ ts. reports ++ ts) (sym same))
        (hears_reset events (reports ++ bared t ∷ []) new new mid tap_is is)
    split false e =
        let same : cut_of t ≡ ended_by t = rw e refl in
        subst P same (hears_reset events reports old new n tap_is is)
