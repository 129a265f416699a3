-- A whole trace after one more byte or line.
use Rattle.std.proofs.Common.{◌≡◌, ℕ, ◌+◌, ◌-◌, ◌^◌, min, ◌<◌, ◌≤◌, slice_index, List, [], ◌∷◌, ◌++◌, length, drop, get_or, Bool, true, false, ◌==◌, refl, sym, ap, subst, ◌∙◌, append-nil, append_assoc, Result, Ok, Err, IfErr, OnOk, IsErrAnd, Option, Some, None, IfSome, take, arith, length-drop, length-take, take-append-drop}
use Rattle.std.proofs.lemmas.Bool.{ne_eqb}
use Rattle.std.proofs.lemmas.List.{drop_more, get_or-drop, length-append, take_more}
use Rattle.std.specs.Io.KnownBytes.{Consumes, IsAtEnd}
use Rattle.std.specs.Str.Lines.{strip_carriage_return}
use Rattle.std.specs.String.{string_bytes}
use Rattle.trace_explain.specs.declared.explain_fault.ExplainFault.{ExplainFault}
use Rattle.trace_explain.specs.declared.explain_fault.ExplainFault.TheVariants as fault
use Rattle.trace_explain.specs.declared.explainer.Explainer.{Explainer}
use Rattle.trace_explain.specs.declared.read.reading.Reading.{Reading}
use Rattle.trace_explain.specs.declared.write.sheet.Sheet.{Sheet}
use Rattle.trace_explain.specs.Account.{HasWritten, Out, WritesOut, out_with}
use Rattle.trace_explain.specs.Noted.{Event, ended_by}
use Rattle.trace_explain.specs.Reports.{Report, report_of}
use Rattle.trace_explain.specs.Lines.{LineLeads, Position, entered, first_of_all}
use Rattle.trace_explain.specs.Explained.{HasExplained, ExplainsLine, Leaves, StopsAtLine, StopsIfAt, line_of, next_line, position_of}
use Rattle.trace_explain.specs.Trace.{AreOfLine, HasLeft, HasReceived, IsExplained, IsOfEnd, IsOfLines, IsOfSink, IsOver, IsReached, IsReady, KeepsLimit, SayAll, SayInTurn, StopsIn, StopsInLine, lines_from}
use Rattle.trace_explain.proofs.AccountLemmas.{written_more, written_out}
use Rattle.trace_explain.proofs.ExplainedLemmas.{rightly_as}

-- The events of one more line follow the others.
say_more : (so_far : List Event) (at mid after : Position) (before : List (List ℕ))
    (line : List ℕ) (events more : List Event) → SayInTurn so_far at before events mid
    → LineLeads (so_far ++ events) (entered mid) line more after
    → SayInTurn so_far at (before ++ line ∷ []) (events ++ more) after
say_more so_far at mid after [] line events more (none, same) leads =
    let P : List Event → Type 0 = λ es. LineLeads (so_far ++ es) (entered mid) line more after in
    let Q : List Event → Type 0 = λ es. LineLeads es (entered mid) line more after in
    let R : Position → Type 0 = λ s. LineLeads so_far (entered s) line more after in (
      more,
      [],
      after,
      subst R same (subst Q (append-nil so_far) (subst P none leads)),
      ap (λ es. es ++ more) none ∙ sym (append-nil more),
      (refl, refl),
    )
say_more so_far at mid after (one ∷ before) line events more
    (first, rest, next, first_leads, cut, others) leads =
    let P : List Event → Type 0 = λ es. LineLeads es (entered mid) line more after in (
      first,
      rest ++ more,
      next,
      first_leads,
      ap (λ es. es ++ more) cut ∙ append_assoc first rest more,
      say_more (so_far ++ first) next mid after before line rest more others
          (subst P (ap (λ es. so_far ++ es) cut ∙ sym (append_assoc so_far first rest)) leads),
    )

fed : (line given left bytes : List ℕ) (b : ℕ) → bytes ≡ b ∷ left → b ≡ 10
    → given ≡ strip_carriage_return line
    → lines_from line bytes ≡ given ∷ lines_from [] left
fed line given left bytes b left_is is same = grind (arith)

line_continues : (line left : List ℕ) (b : ℕ) → (b == 10) ≡ false
    → lines_from line (b ∷ left) ≡ lines_from (line ++ b ∷ []) left
line_continues line left b other = rw other refl

-- A fault that a caller returns too.
pub fault_passed : {T E : Type 0} (r : Result T E) (e : E) (Q : E → Type 0)
    → IsErrAnd r (λ x. x ≡ e) → Q e → IfErr r Q
fault_passed (Ok x) e Q same h = absurd same
fault_passed (Err f) e Q same h = subst Q (sym same) h

-- One more line is counted.
counted_on : (n before all : ℕ) → n ≡ min (before + 1) (2 ^ 64 - 1) → all ≡ before + 1
    → min (n + 1) (2 ^ 64 - 1) ≡ min (all + 1) (2 ^ 64 - 1)
counted_on n before all n_is all_is = omega (arith, n_is, all_is)

-- What an explainer explains of a line at any position.
abbrev pub Explains : List ℕ → Explainer → Explainer → Type 0
Explains line old new = (events : List Event) (before : List Report)
    → HasExplained events before old
    → ExplainsLine (entered (position_of old)) line events before old new

-- This line has ended.
pub line_more : {front : Out} {reading : Reading} {all : List (List ℕ)} {line bytes : List ℕ}
    (given next left : List ℕ) {old : Explainer} (new : Explainer)
    → HasReceived front reading all line bytes old → new.line ≡ next_line old
    → lines_from line bytes ≡ given ∷ lines_from next left → Explains given old new
    → HasReceived front reading all next left new
line_more {front} {reading} given next left {old} new come counts ends explains =
    let (more, leads, reports) = explains come.events come.reports come.explained in
    record {
      before = come.before ++ given ∷ [];
      is_cut = come.is_cut ∙ ap (λ ls. come.before ++ ls) ends
          ∙ sym (append_assoc come.before (given ∷ []) (lines_from next left));
      number_is = counted_on new.line (length come.before)
          (length (come.before ++ given ∷ [])) (counts ∙ come.number_is)
          (length-append come.before (given ∷ []));
      events = come.events ++ more;
      says = say_more [] (first_of_all reading) (position_of old) (position_of new) come.before
          given come.events more come.says leads;
      reports = come.reports ++ reports.reports;
      explained = reports.explained;
      written = written_more front come.reports reports.reports old new reports.explained.1.2
          come.written
          reports.boxes;
    }

-- It ended with LF.
pub line_fed : {front : Out} {reading : Reading} {all : List (List ℕ)} {line bytes : List ℕ}
    (given left : List ℕ) (b : ℕ) {old : Explainer} (new : Explainer)
    → HasReceived front reading all line bytes old → new.line ≡ next_line old → bytes ≡ b ∷ left
    → b ≡ 10 → given ≡ strip_carriage_return line → Explains given old new
    → HasReceived front reading all [] left new
line_fed {line = line} {bytes = bytes} given left b new come counts left_is is same explains =
    line_more given [] left new come counts (fed line given left bytes b left_is is same) explains

-- A run of bytes, and one more.
pub run_of_none : AreOfLine []
run_of_none line left = ap (λ l. lines_from l left) (sym (append-nil line))

pub run_of_more : (bytes : List ℕ) (i : ℕ) → i < length bytes → (get_or bytes i 0 == 10) ≡ false
    → AreOfLine (take i bytes) → AreOfLine (take (i + 1) bytes)
run_of_more bytes i within other so_far line left =
    let b : ℕ = get_or bytes i 0 in
    let front : List ℕ = take i bytes in
    let more : take (i + 1) bytes ≡ front ++ b ∷ [] = take_more bytes i 0 within in
    ap (λ x. lines_from line (x ++ left)) more
    ∙ ap (lines_from line) (append_assoc front (b ∷ []) left) ∙ so_far line (b ∷ left)
    ∙ line_continues (line ++ front) left b other
    ∙ ap (λ l. lines_from l left) (append_assoc line front (b ∷ []))
    ∙ ap (λ x. lines_from (line ++ x) left) (sym more)

-- A run of a line was received.
run_more : {front : Out} {reading : Reading} {all : List (List ℕ)} {line bytes : List ℕ}
    (next run left : List ℕ) {e : Explainer} → HasReceived front reading all line bytes e
    → bytes ≡ run ++ left → AreOfLine run → next ≡ line ++ run
    → HasReceived front reading all next left e
run_more {line = line} next run left come left_is of same = record {
  before = come.before;
  is_cut = come.is_cut ∙ ap (λ ls. come.before ++ ls)
      (ap (lines_from line) left_is ∙ of line left ∙ ap (λ l. lines_from l left) (sym same));
  number_is = come.number_is;
  events = come.events;
  says = come.says;
  reports = come.reports;
  explained = come.explained;
  written = come.written;
}

-- A chunk is a run and others, and more follows.
chunk_cut : (chunk run others left : List ℕ) (n : ℕ) → run ≡ take n chunk
    → others ≡ drop n chunk → chunk ++ left ≡ run ++ (others ++ left)
chunk_cut chunk run others left n run_is others_is =
    ap (λ x. x ++ left) (sym (take-append-drop n chunk))
    ∙ append_assoc (take n chunk) (drop n chunk) left
    ∙ ap (λ x. x ++ (drop n chunk ++ left)) (sym run_is)
    ∙ ap (λ x. run ++ (x ++ left)) (sym others_is)

-- The run of a chunk was received.
pub run_cut : {front : Out} {reading : Reading} {all : List (List ℕ)} {line : List ℕ}
    (next chunk run others left : List ℕ) (n : ℕ) {e : Explainer} → run ≡ take n chunk
    → others ≡ drop n chunk → AreOfLine (take n chunk) → next ≡ line ++ run
    → HasReceived front reading all line (chunk ++ left) e
    → HasReceived front reading all next (others ++ left) e
run_cut next chunk run others left n run_is others_is of same come =
    run_more next run (others ++ left) come (chunk_cut chunk run others left n run_is others_is)
    (subst AreOfLine (sym run_is) of) same

-- What follows a run begins with LF.
pub ends_line : (rest others left : List ℕ) (n : ℕ) → others ≡ drop n rest → 0 < length others
    → (n < length rest → get_or rest n 0 ≡ 10) → others ++ left ≡ 10 ∷ (drop 1 others ++ left)
ends_line rest others left n others_is some ends =
    let size : length others ≡ length (drop n rest) = ap length others_is in
    let more : n < length rest = omega (arith, length-drop n rest, size, some) in
    let same : n + 0 ≡ n = omega arith in
    let at : get_or others 0 0 ≡ 10 = ap (λ x. get_or x 0 0) others_is ∙ get_or-drop n rest 0 0
    ∙ ap (λ k. get_or rest k 0) same ∙ ends more in
    ap (λ x. x ++ left) (drop_more others 0 0 some) ∙ ap (λ b. b ∷ (drop 1 others ++ left)) at

-- At the end all lines are explained.
still_left : {front : Out} {reading : Reading} {all : List (List ℕ)} {line left : List ℕ}
    {e : Explainer} → (come : HasReceived front reading all line left e)
    → HasLeft front e come.reports (report_of e.listener.under_way)
still_left come = record { reports = come.reports; written = come.written; all_are = refl }

all_explained : {front : Out} {reading : Reading} {all : List (List ℕ)} {line : List ℕ}
    {e : Explainer} → HasReceived front reading all line [] e → lines_from line [] ≡ []
    → IsExplained (HasLeft front e) reading all (position_of e)
all_explained {reading = reading} {e = e} come none =
    let P : List (List ℕ) → Type 0 = λ ls. SayAll reading ls come.events (position_of e) in
    record {
      events = come.events;
      says = subst P (sym (come.is_cut ∙ ap (λ ls. come.before ++ ls) none
          ∙ append-nil come.before)) come.says;
      reports = come.reports;
      listener = e.listener;
      noted = come.explained.0;
      is_shown = still_left come;
    }

pub none_is_left : {front : Out} {reading : Reading} {all : List (List ℕ)} {line : List ℕ}
    {e : Explainer} → (length line == 0) ≡ true → HasReceived front reading all line [] e
    → IsExplained (HasLeft front e) reading all (position_of e)
none_is_left none come = all_explained come (rw none refl)

last_line : (line : List ℕ) → (length line == 0) ≡ false → lines_from line [] ≡ line ∷ []
last_line line some = rw some refl

pub last_explained : {T : Type 0} {front : Out} {reading : Reading} {all : List (List ℕ)}
    (result : Result T ExplainFault) (line : List ℕ) {old : Explainer} (new : Explainer)
    → (length line == 0) ≡ false → HasReceived front reading all line [] old
    → OnOk result (new.line ≡ next_line old)
    → ((events : List Event) (before : List Report) → HasExplained events before old
    → OnOk result (ExplainsLine (entered (position_of old)) line events before old new))
    → OnOk result (IsExplained (HasLeft front new) reading all (position_of new))
last_explained (Err f) line new some come counts explains = tt
last_explained (Ok x) line new some come counts explains =
    all_explained (line_more line [] [] new come counts (last_line line some) explains) refl

-- The line that an explainer has reached.
unfoldable pub reached : {front : Out} {reading : Reading} (n : ℕ) {all : List (List ℕ)}
    {line left : List ℕ} (given : List ℕ) (others : List (List ℕ)) {old : Explainer}
    → HasReceived front reading all line left old → lines_from line left ≡ given ∷ others
    → n ≡ next_line old → IsReached reading all n
reached n given others {old} come ends number = record {
  before = come.before;
  line = given;
  others = others;
  is_cut = come.is_cut ∙ ap (λ ls. come.before ++ ls) ends;
  number_is = number ∙ come.number_is;
  events = come.events;
  at = position_of old;
  says = come.says;
  reports = come.reports;
  listener = old.listener;
  noted = come.explained.0;
}

-- A line that is too long.
cut_at : (line : List ℕ) (n : ℕ) → n < length line → n ≤ length (strip_carriage_return line)
cut_at line n more = split (slice_index line (length line - 1) == 13) refl
  where
    split : (v : Bool) → (slice_index line (length line - 1) == 13) ≡ v
        → n ≤ length (strip_carriage_return line)
    split true e = rw e (omega (arith, length-take (length line - 1) line, more))
    split false e = rw e (omega (arith, more))

first_longer : (line left : List ℕ) (n : ℕ) → n < length line
    → (first : List ℕ) × (others : List (List ℕ)) × (lines_from line left ≡ first ∷ others)
    × (n ≤ length first)
first_longer line [] n more =
    (line, [], last_line line (ne_eqb (length line) 0 (omega (arith, more))), omega (arith, more))
first_longer line (b ∷ left) n more =
    split (b == 10) refl (first_longer (line ++ b ∷ []) left n
    (omega (arith, length-append line (b ∷ []), more)))
  where
    split : (v : Bool) → (b == 10) ≡ v
        → ((first : List ℕ) × (others : List (List ℕ))
        × (lines_from (line ++ b ∷ []) left ≡ first ∷ others) × (n ≤ length first))
        → (first : List ℕ) × (others : List (List ℕ))
        × (lines_from line (b ∷ left) ≡ first ∷ others) × (n ≤ length first)
    split true e later =
        (strip_carriage_return line, lines_from [] left, rw e refl, cut_at line n more)
    split false e (first, others, is, long) =
        (first, others, line_continues line left b e ∙ is, long)

pub too_long : {front : Out} {reading : Reading} {all : List (List ℕ)} {line left : List ℕ}
    (n : ℕ) {e : Explainer} → HasReceived front reading all line left e → 4194304 < length line
    → n ≡ next_line e → StopsIn (HasLeft front e) reading all (fault.LineTooLong n)
unfolding reached
too_long {line = line} {left} n come long number =
    let (first, others, is, first_long) = first_longer line left 4194304 long in
    (reached n first others come is number, (first_long, still_left come))

-- A line that stops an explainer.
abbrev pub Stops : ExplainFault → List ℕ → Explainer → Explainer → Type 0
Stops f line old new = (events : List Event) (before : List Report) → HasExplained events before old
    → StopsAtLine (Leaves before old.teller new) f (next_line old) line (entered (position_of old))
    events before (report_of old.listener.under_way)

stops_at : {front : Out} {reading : Reading} {all : List (List ℕ)} {line left : List ℕ}
    (f : ExplainFault) (n : Option ℕ) (given : List ℕ) (others : List (List ℕ))
    {old : Explainer} (new : Explainer)
    → HasReceived front reading all line left old → lines_from line left ≡ given ∷ others
    → ((events : List Event) (before : List Report) → HasExplained events before old
    → StopsIfAt (Leaves before old.teller new) n f (next_line old) given (entered (position_of old))
    events before (report_of old.listener.under_way))
    → StopsInLine (HasLeft front new) reading all f n
unfolding reached
stops_at f None given others new come ends stops = tt
stops_at {front} f (Some n) given others {old} new come ends stops =
    let before = come.reports in
    let (number, is) = stops come.events before come.explained in (
      reached n given others come ends number,
      rightly_as (Leaves before old.teller new) (HasLeft front new) f (entered (position_of old))
          given come.events before (report_of old.listener.under_way) (λ all t h. record {
            reports = before ++ h.reports;
            written = written_more front before h.reports old new h.hears come.written h.boxes;
            all_are = h.all_are ∙ sym (append_assoc before h.reports
                (ended_by (report_of new.listener.under_way)));
          }) is,
    )

line_stops_in : {front : Out} {reading : Reading} {all : List (List ℕ)} {line left : List ℕ}
    (f : ExplainFault) (given : List ℕ) (others : List (List ℕ)) {old : Explainer}
    (new : Explainer) → IsOfLines f
    → HasReceived front reading all line left old → lines_from line left ≡ given ∷ others
    → Stops f given old new → StopsIn (HasLeft front new) reading all f
line_stops_in fault.NoCharacters given others new of come ends stops = absurd of
line_stops_in (fault.NoForm m note) given others new of come ends stops = absurd of
line_stops_in f given others new of come ends stops =
    stops_at f (line_of f) given others new come ends stops

pub fed_stops : {T : Type 0} {front : Out} {reading : Reading} {all : List (List ℕ)}
    {line bytes : List ℕ} (r : Result T ExplainFault) (f : ExplainFault) (given left : List ℕ)
    (b : ℕ) {old : Explainer} (new : Explainer) → IsErrAnd r (λ x. x ≡ f) → IsOfLines f
    → HasReceived front reading all line bytes old → bytes ≡ b ∷ left → b ≡ 10
    → given ≡ strip_carriage_return line → Stops f given old new
    → IfErr r (StopsIn (HasLeft front new) reading all)
fed_stops {front = front} {reading = reading} {all = all} {line = line} {bytes = bytes} r f given
    left b new passed of come left_is is same stops =
    fault_passed r f (StopsIn (HasLeft front new) reading all) passed (line_stops_in f given
    (lines_from [] left) new of come (fed line given left bytes b left_is is same) stops)

pub last_stops : {T : Type 0} {front : Out} {reading : Reading} {all : List (List ℕ)}
    (result : Result T ExplainFault) (line : List ℕ) {old : Explainer} (new : Explainer)
    → (length line == 0) ≡ false → HasReceived front reading all line [] old
    → ((events : List Event) (before : List Report) → HasExplained events before old
    → IfErr result (λ f. StopsAtLine (Leaves before old.teller new) f (next_line old) line
    (entered (position_of old)) events before (report_of old.listener.under_way)))
    → IfErr result IsOfLines → IfErr result (StopsIn (HasLeft front new) reading all)
last_stops (Ok x) line new some come stops of = tt
last_stops (Err f) line new some come stops of =
    line_stops_in f line [] new of come (last_line line some) stops

-- Before the first byte.
pub is_ready : {front : Out} {reading : Reading} {e : Explainer} → HasExplained [] [] e
    → position_of e ≡ first_of_all reading → e.line ≡ 0 → HasWritten front [] e
    → IsReady front reading e
is_ready h at first blank left = record {
  before = [];
  is_cut = refl;
  number_is = ap (λ n. min (n + 1) (2 ^ 64 - 1)) first;
  events = [];
  says = (refl, at);
  reports = [];
  explained = h;
  written = blank;
}

-- An explainer that has written out is where it was.
pub still_received : {front : Out} {reading : Reading} {all : List (List ℕ)} {line left : List ℕ}
    (e : Explainer) (s : Sheet) → WritesOut e.teller.output.sheet s
    → HasReceived front reading all line left e
    → HasReceived (out_with front (string_bytes e.teller.output.sheet.text)) reading all line left
    (record e { teller = record e.teller { output = record e.teller.output { sheet = s } } })
still_received {front} e s out come = record {
  before = come.before;
  is_cut = come.is_cut;
  number_is = come.number_is;
  events = come.events;
  says = come.says;
  reports = come.reports;
  explained = come.explained;
  written = written_out front come.reports e s out come.written;
}

-- What holds of the bytes read, whatever follows, holds of the known ones; of all if none are left.
pub of_known : (a b : Option (List ℕ)) (bytes : List ℕ) (P : List ℕ → Type 0)
    → Consumes a b bytes → ((left : List ℕ) → P (bytes ++ left)) → IfSome a P
of_known None b bytes P reads h = tt
of_known (Some all) None bytes P reads h = absurd reads
of_known (Some all) (Some left) bytes P reads h = subst P (sym reads) (h left)

pub of_all : (a b c : Option (List ℕ)) {n : ℕ} (bytes room : List ℕ) (P : List ℕ → Type 0)
    → n ≡ 0 → Consumes a b bytes → Consumes b c (take n room) → IsAtEnd c → P (bytes ++ [])
    → IfSome a P
of_all None b c bytes room P none reads last ends h = tt
of_all (Some all) None c bytes room P none reads last ends h = absurd reads
of_all (Some all) (Some left) None bytes room P none reads last ends h = absurd last
of_all (Some all) (Some left) (Some more) {n} bytes room P none reads last ends h = grind (arith)

-- A trace keeps the limit.
is_over : (f : ExplainFault) (bytes : List ℕ) → IsOfLines f → IsOver bytes f
is_over fault.InputTooLong bytes of = absurd of
is_over other bytes of = tt

pub limit_kept : {T : Type 0} (r : Result T ExplainFault) (bytes : List ℕ) (size : ℕ)
    → size ≡ length bytes → size ≤ 1099511627776 → IfErr r IsOfLines
    → KeepsLimit (bytes ++ []) r
limit_kept (Ok x) bytes size size_is within of =
    omega (arith, size_is, within, length-append bytes [])
limit_kept (Err f) bytes size size_is within of = is_over f (bytes ++ []) of

pub limit_passed : {T : Type 0} (r : Result T ExplainFault) (f : ExplainFault)
    (a : Option (List ℕ)) → IsErrAnd r (λ x. x ≡ f) → IsOfLines f
    → IfSome a (λ bytes. KeepsLimit bytes r)
limit_passed (Ok x) f a same h = absurd same
limit_passed (Err g) f None same h = tt
limit_passed (Err g) f (Some bytes) same h = is_over g bytes (rw same h)

-- Faults of lines, and those at the end, are not of the sink.
pub lines_sink : (Fails : ExplainFault → Type 0) (f : ExplainFault) → IsOfLines f
    → IsOfSink Fails f
lines_sink Fails fault.Write h = absurd h
lines_sink Fails fault.Closed h = absurd h
lines_sink Fails other h = tt

pub end_sink : (Fails : ExplainFault → Type 0) (has_characters : Bool) (f : ExplainFault)
    → IsOfEnd f has_characters → IsOfSink Fails f
end_sink Fails has_characters fault.Write h = absurd h
end_sink Fails has_characters fault.Closed h = absurd h
end_sink Fails has_characters other h = tt

-- The result at the end of a trace is not a protocol error.
pub ended_stops : {P : List Report → Report → Type 0} (Q : List Report → Report → Type 0)
    {reading : Reading} {all : List (List ℕ)} {at : Position} (f : ExplainFault)
    → IsOfEnd f at.has_characters
    → IsExplained P reading all at → StopsIn Q reading all f
ended_stops Q {at = at} fault.NoCharacters ended explained =
    (explained.events, at, explained.says, ended)
ended_stops Q {at = at} (fault.NoForm line note) ended explained =
    (explained.events, at, explained.says, ended)
ended_stops Q (fault.Resumed m c) ended explained = tt
ended_stops Q (fault.BadPairs n m why) ended explained = tt
ended_stops Q (fault.Skipped line place) ended explained = tt
ended_stops Q (fault.NothingWhole line note) ended explained = tt
ended_stops Q (fault.NoValidBlock invalid) ended explained = tt
ended_stops Q other ended explained = absurd ended

-- What is shown of the reports.
pub shown_as : (P Q : List Report → Report → Type 0) {reading : Reading} {all : List (List ℕ)}
    {at : Position} → ((reports : List Report) (t : Report) → P reports t → Q reports t)
    → IsExplained P reading all at → IsExplained Q reading all at
shown_as P Q so h = record {
  events = h.events;
  says = h.says;
  reports = h.reports;
  listener = h.listener;
  noted = h.noted;
  is_shown = so h.reports (report_of h.listener.under_way) h.is_shown;
}

stops_in_line_as : (P Q : List Report → Report → Type 0) (reading : Reading)
    (all : List (List ℕ)) (f : ExplainFault) (n : Option ℕ)
    → ((reports : List Report) (t : Report) → P reports t → Q reports t)
    → StopsInLine P reading all f n → StopsInLine Q reading all f n
stops_in_line_as P Q reading all f None so h = tt
stops_in_line_as P Q reading all f (Some n) so (reached, h) = (
  reached,
  rightly_as P Q f (entered reached.at) reached.line reached.events reached.reports
      (report_of reached.listener.under_way) so h,
)

pub stops_as : (P Q : List Report → Report → Type 0) (reading : Reading) (all : List (List ℕ))
    (f : ExplainFault) → ((reports : List Report) (t : Report) → P reports t → Q reports t)
    → StopsIn P reading all f → StopsIn Q reading all f
stops_as P Q reading all fault.NoCharacters so h = h
stops_as P Q reading all (fault.NoForm line note) so h = h
stops_as P Q reading all f so h = stops_in_line_as P Q reading all f (line_of f) so h
