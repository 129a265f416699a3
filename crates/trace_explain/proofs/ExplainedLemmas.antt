-- What an explainer has explained after one more character or line.
use Rattle.std.proofs.Common.{◌≡◌, ℕ, List, [], ◌∷◌, ◌++◌, length, sym, subst, ◌∙◌, ap, true, false, ◌==◌, refl, append-nil, Result, Ok, Err, OnOk, arith, ◌+◌, ◌<◌, take, append_assoc, get_or, map, Option, Some, None, inl}
use Rattle.std.proofs.lemmas.Bool.{eqb-true}
use Rattle.std.proofs.lemmas.List.{nil_from_length, take_more}
use Rattle.t0_core.specs.declared.end.End.{End}
use Rattle.t0_core.specs.Front.{Front, In_header, front_characters}
use Rattle.t0_core.specs.History.{passed}
use Rattle.trace_explain.specs.declared.describe.complaint.Complaint.{Complaint}
use Rattle.trace_explain.specs.declared.explain_fault.ExplainFault.{ExplainFault}
use Rattle.trace_explain.specs.declared.explain_fault.ExplainFault.TheVariants as fault
use Rattle.trace_explain.specs.declared.explainer.Explainer.{Explainer}
use Rattle.trace_explain.specs.declared.follow.listener.Listener.{Listener}
use Rattle.trace_explain.specs.declared.follow.tpdu.Mark.{Mark}
use Rattle.trace_explain.specs.declared.read.reading.Reading.{Reading}
use Rattle.trace_explain.specs.declared.read.trace_line.LineFault.{LineFault}
use Rattle.trace_explain.specs.declared.read.trace_line.LineFault.TheVariants as bad
use Rattle.trace_explain.specs.declared.write.teller.Teller.{Teller}
use Rattle.trace_explain.specs.declared.read.entry.Source.{Source}
use Rattle.trace_explain.specs.declared.read.entry.Source.TheVariants.{Sign, Turn}
use Rattle.trace_explain.specs.Reports.{Report, report_of, ReportsFront}
use Rattle.trace_explain.specs.Openings.{begun, opening_of}
use Rattle.trace_explain.specs.Lines.{AreOver, entered, IsBadLine, Says, Position, TakesCharacters, read_on, IsSent, TakesCharacter}
use Rattle.trace_explain.specs.Noted.{Event, HasNoted, NotesRun, Passed, ended_by, events_in, mark_of, on_line}
use Rattle.trace_explain.specs.Explained.{HasExplained, ExplainsMore, ExplainsCharacter, ExplainsCharacters, IsPlain, IsRight, Leaves, StopsAmong, StopsAtLine, StopsIfAt, StopsRightly, line_of, next_line, refused, position_of}
use Rattle.trace_explain.specs.Account.{AddsBoxes}
use Rattle.trace_explain.proofs.AccountLemmas.{boxes_both}
use Rattle.trace_explain.specs.Turns.{source_at}
use Rattle.std.specs.Global.{Vec}
use Rattle.trace_explain.specs.declared.read.entry.Entry.TheVariants as entry
use Rattle.trace_explain.proofs.NotedLemmas.{size_of}

-- What holds whether it succeeded or not.
pub ok_too : {T E : Type 0} (r : Result T E) (P : Type 0) → P → OnOk r P
ok_too (Ok x) P h = h
ok_too (Err e) P h = tt

pub explains_nothing : (events : List Event) (before : List Report) {old : Explainer}
    (e : Explainer) → HasExplained events before e → AddsBoxes [] old.teller e.teller
    → ExplainsMore [] events before old e
explains_nothing events before e h boxes = grind (arith, append-nil)

-- What was written before stays.
pub explains_from : {more events : List Event} {before : List Report} {old mid new : Explainer}
    → AddsBoxes [] old.teller mid.teller → ExplainsMore more events before mid new
    → ExplainsMore more events before old new
explains_from begins h =
    record { reports = h.reports; explained = h.explained; boxes = boxes_both begins h.boxes }

-- If no character of a header is reported, no dialogue has started.
pub front_of_none : (t : Report) (loose : Mark) (front : Front) → ReportsFront t loose front
    → length t.header ≡ 0 → passed (front_characters front) ≡ []
front_of_none t loose (In_header bytes) reports none = grind (arith, nil_from_length, size_of)
front_of_none t loose other reports none = absurd (omega (arith, none, size_of reports))

pub none_on_line : (events : List Event) → map on_line events ≡ [] → events ≡ []
none_on_line [] is = refl
none_on_line (e ∷ events) is = absurd (cc)

pub over_behind : {events : List Event} {reports : List Report} (l : Listener)
    → HasNoted events reports l → (length (report_of l.under_way).header == 0) ≡ true
    → AreOver events
over_behind l noted none = record {
  parts = noted.parts;
  events_are = noted.events_are
      ∙ ap (λ es. events_in noted.parts ++ es) (none_on_line noted.last (noted.last_are
      ∙ front_of_none (report_of l.under_way) (mark_of noted.last) noted.front noted.under_way
      (eqb-true _ 0 none)))
      ∙ append-nil (events_in noted.parts);
  are_noted = noted.are_noted;
}

-- A line of characters is not one of a log.
pub read_on_hears : (source : Source) (reading : Reading) {r : Reading}
    → r ≡ read_on source reading → reading.of_tpdus ≡ false → r.of_tpdus ≡ false
read_on_hears (Sign form from) reading is none = ap (λ (x : Reading). x.of_tpdus) is ∙ none
read_on_hears Turn reading is none = ap (λ (x : Reading). x.of_tpdus) is ∙ none

-- What is shown when it stops.
right_as : (P Q : List Report → Report → Type 0) {c : Complaint} {source : Source} {at : Position}
    {bytes : List ℕ} {events : List Event} {before : List Report}
    → ((all : List Report) (t : Report) → P all t → Q all t)
    → IsRight P c source at bytes events before → IsRight Q c source at bytes events before
right_as P Q so h = record {
  here = h.here;
  sent = h.sent;
  is_of_dialogue = h.is_of_dialogue;
  none = h.none;
  not_again = h.not_again;
  expected_is = h.expected_is;
  byte_is = h.byte_is;
  shown = so _ _ h.shown;
}

pub rightly_as : (P Q : List Report → Report → Type 0) (f : ExplainFault) (at : Position)
    (line : List ℕ) (events : List Event) (before : List Report) (t : Report)
    → ((all : List Report) (u : Report) → P all u → Q all u)
    → StopsRightly P f at line events before t → StopsRightly Q f at line events before t
rightly_as P Q (fault.NoDialogue c) at line events before t so (source, bytes, says, h) =
    (source, bytes, says, right_as P Q so h)
rightly_as P Q (fault.NoTurn n m why) at line events before t so (source, bytes, says, h) =
    (source, bytes, says, record { here = h.here; unsent = h.unsent; shown = so _ _ h.shown })
rightly_as P Q (fault.BadLine n bad.OutOfMemory) at line events before t so h = absurd h
rightly_as P Q (fault.BadLine n why) at line events before t so (is, h) = (is, so before t h)
rightly_as P Q (fault.LineTooLong n) at line events before t so (is, h) = (is, so before t h)
rightly_as P Q other at line events before t so h = absurd h

at_line_as : (P Q : List Report → Report → Type 0) (f : ExplainFault) (found : Option ℕ) (n : ℕ)
    (at : Position) (line : List ℕ) (events : List Event) (before : List Report) (t : Report)
    → ((all : List Report) (u : Report) → P all u → Q all u)
    → StopsIfAt P found f n line at events before t
    → StopsIfAt Q found f n line at events before t
at_line_as P Q f None n at line events before t so h = tt
at_line_as P Q f (Some m) n at line events before t so (number, h) =
    (number, rightly_as P Q f at line events before t so h)

-- What was shown before stays.
pub leaves_from : (f : ExplainFault) (n : ℕ) (at : Position) (line : List ℕ)
    (events : List Event) (before : List Report) (t : Report) (old mid : Teller) (new : Explainer)
    → AddsBoxes [] old mid → StopsAtLine (Leaves before mid new) f n line at events before t
    → StopsAtLine (Leaves before old new) f n line at events before t
leaves_from f n at line events before t old mid new begins h =
    at_line_as (Leaves before mid new) (Leaves before old new) f (line_of f) n at line events before
    t (λ all u l. record {
      reports = l.reports;
      boxes = boxes_both begins l.boxes;
      hears = l.hears;
      all_are = l.all_are;
    }) h

-- A line is refused for what it is.
pub line_refused : (why : LineFault) (line : List ℕ) (n : ℕ) (events : List Event)
    (before : List Report) (old new : Explainer) → HasExplained events before old
    → IsBadLine why old.reading line → n ≡ next_line old → AddsBoxes [] old.teller new.teller
    → new.listener ≡ old.listener → new.reading ≡ old.reading
    → StopsAtLine (Leaves before old.teller new) (refused n why) (next_line old) line
    (entered (position_of old)) events before (report_of old.listener.under_way)
line_refused bad.OutOfMemory line n events before old new has h n_is boxes same reads = tt
line_refused other line n events before old new has h n_is boxes same reads = (
  n_is,
  (
    h,
    record {
      reports = [];
      boxes = boxes;
      hears = ap (λ (x : Reading). x.of_tpdus) reads ∙ has.1.2;
      all_are = ap (λ (l : Listener). before ++ ended_by (report_of l.under_way)) (sym same);
    },
  ),
)

-- What stops it among the characters of a line stops it in that line.
pub line_stops : (IsShown : List Report → Report → Type 0) (f : ExplainFault) (line : List ℕ)
    (n : ℕ) (source : Source) (bytes : Vec ℕ) {r : Reading} {bs : List ℕ} (t : Report)
    (events : List Event) (before : List Report) (old : Explainer)
    → Says old.reading line (entry.Characters source bytes)
    → r ≡ read_on source old.reading → bs ≡ bytes.items
    → StopsAmong IsShown f source n (record (position_of old) { reading = r }) bs events before
    → StopsAtLine IsShown f n line (position_of old) events before t
line_stops IsShown (fault.NoDialogue c) line n source bytes t events before old says on are
    (number, right) = (number, (source, bytes, says, rw (on, are) at right))
line_stops IsShown (fault.NoTurn m k why) line n source bytes t events before old says on are
    (number, unsent) = (number, (source, bytes, says, rw (on, are) at unsent))
line_stops IsShown fault.OutOfMemory line n source bytes t events before old says on are h = tt
line_stops IsShown other line n source bytes t events before old says on are h = absurd h

-- One more character follows the others.
taken_more : (source : Source) (so_far : List Event) (at mid after : Position) (front : List ℕ)
    (b : ℕ) (from : End) (events more : List Event)
    → TakesCharacters source so_far at front events mid
    → IsSent source (so_far ++ events) mid b from
    → TakesCharacter (so_far ++ events) mid from b more after
    → TakesCharacters source so_far at (front ++ b ∷ []) (events ++ more) after
taken_more source so_far at mid after [] b from events more (none, same) sent takes = (
  from,
  rw (none, append-nil so_far, same) at sent,
  more,
  [],
  after,
  rw (none, append-nil so_far, same) at takes,
  rw none (sym (append-nil more)),
  (refl, refl),
)
taken_more source so_far at mid after (one ∷ front) b from events more
    (first_from, first_sent, first, rest, next, first_takes, cut, others) sent takes = (
      first_from,
      first_sent,
      first,
      rest ++ more,
      next,
      first_takes,
      ap (λ es. es ++ more) cut ∙ append_assoc first rest more,
      taken_more source (so_far ++ first) next mid after front b from rest more others
          (rw (cut, ← append_assoc so_far first rest) at sent)
          (rw (cut, ← append_assoc so_far first rest) at takes),
    )

-- It has explained one more character, which is this end's.
pub taken_on : (source : Source) (bytes : List ℕ) (place : ℕ) {from : End}
    {events : List Event} {before : List Report} {old mid new : Explainer} → place < length bytes
    → source_at source mid.reading (opening_of mid.preface) mid.listener (get_or bytes place 0)
    ≡ Ok from
    → ((es : List Event) (ts : List Report) → HasExplained es ts mid
    → ExplainsCharacter from (get_or bytes place 0) es ts mid new)
    → ExplainsCharacters source (take place bytes) events before old mid
    → ExplainsCharacters source (take (place + 1) bytes) events before old new
taken_on source bytes place {from} {events} {before} {old} {mid} {new} within sent explains
    (more, takes, explained) =
    let reports : List Report = before ++ explained.reports in
    let (first, first_takes, goes) = explains (events ++ more) reports explained.explained in
    let W : List ℕ → Type 0 = λ bs. TakesCharacters source events (position_of old) bs
    (more ++ first) (position_of new) in (
      more ++ first,
      subst W (sym (take_more bytes place 0 within)) (taken_more source events (position_of old)
          (position_of mid) (position_of new) (take place bytes) (get_or bytes place 0) from more
          first takes (record {
            reports = reports;
            listener = mid.listener;
            noted = explained.explained.0;
            sent = sent;
          }) first_takes),
      record {
        reports = explained.reports ++ goes.reports;
        explained = rw (
          ← append_assoc events more first,
          ← append_assoc before explained.reports
              goes.reports,
        ) goes.explained;
        boxes = boxes_both explained.boxes goes.boxes;
      },
    )

-- The characters of a run, which are this end's.
abbrev pub in_dialogue : Position → Position
in_dialogue at = record at { opening = begun; has_characters = true }

-- The mark of its characters.
abbrev pub mark_at : Position → Mark
mark_at at = record { is_loose = false; line = at.number }

pub run_taken : (source : Source) (from : End) (bytes : List ℕ) (events : List Event)
    (before : List Report) (p : Position) (l : Listener)
    → ((at : Listener) (b : ℕ) → source_at source p.reading begun at b ≡ Ok from)
    → NotesRun from (mark_at p) bytes events before l
    → (more : List Event)
    × TakesCharacters source events (in_dialogue p) bytes more (in_dialogue p)
    × HasNoted (events ++ more) before l
run_taken source from [] events before p l sent noted =
    ([], (refl, refl), rw append-nil noted)
run_taken source from (b ∷ bytes) events before p l sent ((at, noted), rest) =
    let one : List Event = Passed (from, b) (mark_at p) ∷ [] in
    let (more, takes, others) =
    run_taken source from bytes (events ++ one) before p l sent rest in
    let P : List Event → Type 0 = λ es. HasNoted es before l in (
      one ++ more,
      (
        from,
        record { reports = before; listener = at; noted = noted; sent = sent at b },
        one,
        more,
        in_dialogue p,
        inl (refl, refl),
        refl,
        takes,
      ),
      subst P (append_assoc events one more) others,
    )

-- An explainer has heard a run.
pub run_explained : (source : Source) (from : End) (bytes : List ℕ) (events : List Event)
    (before : List Report) (old new : Explainer)
    → position_of old ≡ in_dialogue (position_of old) → position_of new ≡ position_of old
    → ((at : Listener) (b : ℕ) → source_at source old.reading begun at b ≡ Ok from)
    → NotesRun from (mark_at (position_of old)) bytes events before new.listener → IsPlain new
    → AddsBoxes [] old.teller new.teller
    → ExplainsCharacters source bytes events before old new
run_explained source from bytes events before old new is same sent run plain boxes =
    let (more, takes, noted) =
    run_taken source from bytes events before (position_of old) new.listener sent run in
    let P : Position → Type 0 = λ at. TakesCharacters source events at bytes more at in
    let Q : Position → Type 0 =
    λ at. TakesCharacters source events (position_of old) bytes more at in (
      more,
      subst Q (sym same) (subst P (sym is) takes),
      record {
        reports = [];
        explained = (rw append-nil noted, plain);
        boxes = boxes;
      },
    )
