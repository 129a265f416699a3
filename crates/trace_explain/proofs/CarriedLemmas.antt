-- Commands at T=1 that are reported.
use Rattle.std.proofs.Common.{◌≡◌, ℕ, List, [], ◌∷◌, ◌++◌, ◌∙◌, ap, refl, sym, subst, lit<, append-nil, append_assoc, true, false, Option, Some, None, OnOk, Result, Ok, Err, arith, if◌then◌else◌}
use Rattle.std.proofs.lemmas.List.{length-drop}
use Rattle.t0_core.specs.declared.end.End.{End}
use Rattle.t0_core.specs.DialogueLaws.{all_more, flat_map_last}
use Rattle.t0_core.specs.Front.{Front, In_header, fresh}
use Rattle.t0_core.specs.History.{Cut_off}
use Rattle.t0_core.specs.TapSide.{TapStandsAt}
use Rattle.trace_explain.specs.declared.follow.listener.Listener.{Listener}
use Rattle.trace_explain.specs.declared.follow.opening.Role.{Role}
use Rattle.trace_explain.specs.declared.follow.opening.Role.TheVariants as role
use Rattle.trace_explain.specs.declared.follow.pair.PairFault.{PairFault}
use Rattle.trace_explain.specs.declared.follow.pair.PairFault.TheVariants as bad
use Rattle.trace_explain.specs.declared.follow.tpdu.Mark.{Mark}
use Rattle.trace_explain.specs.declared.follow.tpdu.Tpdu.{Tpdu}
use Rattle.trace_explain.specs.declared.write.teller.Teller.{Teller}
use Rattle.trace_explain.specs.Account.{AddsBoxes}
use Rattle.trace_explain.specs.Explained.{CarriesAll}
use Rattle.trace_explain.specs.Lines.{block_events, dialogue_events}
use Rattle.trace_explain.specs.Noted.{Carried, Event, HasNoted, IsNoted, Part, Passed, Reset, events_in, mark_of}
use Rattle.trace_explain.specs.Openings.{Opening, is_block, is_dialogue, is_loose, opens, reports_with, role_of}
use Rattle.trace_explain.specs.Overheard.{Overheard, answered, exchanged}
use Rattle.trace_explain.specs.Pairs.{IsBadPair, IsPair, beside, command_in, data_in, is_refusal, moved_of, status_in, way_of}
use Rattle.trace_explain.specs.Reports.{Report, ReportsFront, no_report, report_of, uncounted}
use Rattle.trace_explain.proofs.AccountLemmas.{boxes_both}
use Rattle.trace_explain.proofs.ExplainedLemmas.{front_of_none, none_on_line}
use Rattle.trace_explain.proofs.NotedLemmas.{noted_between, reports_both, size_of}

front_is_fresh : (t : Report) (loose : Mark) (front : Front) → ReportsFront t loose front
    → t ≡ no_report → front ≡ fresh
front_is_fresh t loose (In_header []) reports none = refl
front_is_fresh t loose other reports none =
    absurd (omega (arith, size_of none, size_of reports))

-- One more, between two dialogues at T=0.
pub carries_on : {events : List Event} {reports : List Report} {l : Listener} (t : Report)
    → HasNoted events reports l → report_of l.under_way ≡ no_report
    → HasNoted (events ++ Carried t ∷ []) (reports ++ t ∷ []) l
carries_on {events} {reports} {l} t n none =
    let part : Part = (Cut_off [], Carried t ∷ []) in
    let S : Front → Type 0 = λ f. TapStandsAt l.tap f in
    let last_is : n.last ≡ [] = none_on_line n.last (n.last_are
    ∙ front_of_none (report_of l.under_way) (mark_of n.last) n.front n.under_way
    (size_of none)) in
    noted_between (n.parts ++ part ∷ []) (events ++ Carried t ∷ []) (reports ++ t ∷ []) l
    (ap (λ es. es ++ Carried t ∷ []) (n.events_are
    ∙ ap (λ es. events_in n.parts ++ es) last_is ∙ append-nil (events_in n.parts))
    ∙ sym (flat_map_last (λ (p : Part). p.1) n.parts part))
    (all_more IsNoted n.parts part n.are_noted ((fresh, lit< tt, tt, refl), refl))
    (reports_both n.parts reports (part ∷ []) (t ∷ []) n.are_reported ([], refl, tt))
    (subst S (front_is_fresh (report_of l.under_way) (mark_of n.last) n.front n.under_way none)
    n.is_at) none

-- What is reported after a reset of the listener.
pub carries_one : (t : Report) (events : List Event) (before ended : List Report)
    (old mid new : Teller) (l : Listener)
    → HasNoted (events ++ Reset ∷ []) (before ++ ended) l → report_of l.under_way ≡ no_report
    → AddsBoxes ended old mid → AddsBoxes (t ∷ []) mid new
    → CarriesAll (t ∷ []) events before l old new
carries_one t events before ended old mid new l noted none first next =
    let all = carries_on t noted none in
    let P : List Event → Type 0 = λ es. HasNoted es ((before ++ ended) ++ t ∷ []) l in
    let Q : List Report → Type 0 = λ ts. HasNoted (events ++ Reset ∷ Carried t ∷ []) ts l in
    record {
      reports = ended ++ t ∷ [];
      noted = subst Q (append_assoc before ended (t ∷ []))
          (subst P (append_assoc events (Reset ∷ []) (Carried t ∷ [])) all);
      boxes = boxes_both first next;
    }

pub carries_as : {events : List Event} {reports before : List Report} {l : Listener}
    {a b c d : Teller} → ((ts : List Report) → AddsBoxes ts a b → AddsBoxes ts c d)
    → CarriesAll reports events before l a b → CarriesAll reports events before l c d
carries_as so h =
    record { reports = h.reports; noted = h.noted; boxes = so h.reports h.boxes }

pub carries_is : {all others : List Report} {events : List Event} {before : List Report}
    {l : Listener} {old new : Teller} → all ≡ others → CarriesAll all events before l old new
    → CarriesAll others events before l old new
carries_is {events = events} {before = before} {l = l} {old = old} {new = new} is h =
    let P : List Report → Type 0 = λ ts. CarriesAll ts events before l old new in subst P is h

pub carries_none : {events : List Event} {before : List Report} {l : Listener} {old new : Teller}
    → HasNoted events before l → AddsBoxes [] old new → CarriesAll [] events before l old new
carries_none {events} {before} noted boxes = record {
  reports = [];
  noted = rw (append-nil events, append-nil before) noted;
  boxes = boxes;
}

-- The report of a command with its response.
abbrev pub with_mark : Mark → Report → Report
with_mark m t = record t { is_loose = m.is_loose; line = m.line }

pub exchanged_is : (loose : Mark) (command answer : List ℕ) (t : Tpdu) → IsPair command answer t
    → exchanged loose command answer ≡ with_mark loose (report_of t) ∷ []
exchanged_is loose command answer t (c, is, r, ok, few) =
    let header : t.header.items ≡ c.header = r.header_is in
    let tally : t.tally ≡ uncounted = r.tally_is in
    let way : t.way ≡ way_of c.sent (data_in answer) = r.way_is in
    let moved : t.moved.items ≡ moved_of c.sent (data_in answer) = r.moved_is in
    let status : t.status.items ≡ status_in answer = r.status_is in
    let next : t.answer.items ≡ beside c.sent (data_in answer) = r.beside_is in
    rw (is, ok, few) (cc)

-- An invalid command or answer has no report.
exchanged_by : (loose : Mark) (command answer : List ℕ) → command_in command ≡ None
    → exchanged loose command answer ≡ []
exchanged_by loose command answer none = rw none refl

pub exchanged_none : (why : PairFault) (loose : Mark) (command answer : List ℕ)
    → IsBadPair why command answer → is_refusal why ≡ true
    → exchanged loose command answer ≡ []
exchanged_none bad.Short loose command answer h other =
    exchanged_by loose command answer (grind (arith))
exchanged_none bad.Extended loose command answer h other =
    exchanged_by loose command answer (grind (arith, length-drop))
exchanged_none bad.Length loose command answer (four, short, none) other =
    exchanged_by loose command answer none
exchanged_none bad.NoStatus loose command answer ((c, is), none) other = rw (is, none) refl
exchanged_none bad.TooMany loose command answer (c, is, ok, many) other = rw (is, ok, many) refl
exchanged_none bad.Unasked loose command answer h other = absurd h
exchanged_none bad.OutOfMemory loose command answer h other =
    absurd (let bad : false ≡ true = other in cc)

-- A command with its response was reported, or is no TPDU.
pub carries_pair : {T E : Type 0} (r : Result T E) (loose : Mark) (command answer : List ℕ)
    (t : Tpdu) (events : List Event) (before : List Report) (l : Listener) (old new : Teller)
    → IsPair command answer t
    → OnOk r (CarriesAll (with_mark loose (report_of t) ∷ []) events before l old new)
    → OnOk r (CarriesAll (exchanged loose command answer) events before l old new)
carries_pair r loose command answer t events before l old new is h =
    let P : List Report → Type 0 = λ ts. OnOk r (CarriesAll ts events before l old new) in
    subst P (sym (exchanged_is loose command answer t is)) h

pub carries_refused : {T E : Type 0} (r : Result T E) (why : PairFault) (loose : Mark)
    (command answer : List ℕ) (events : List Event) (before : List Report) (l : Listener)
    (old new : Teller) → IsBadPair why command answer → OnOk r (is_refusal why ≡ true)
    → HasNoted events before l → OnOk r (AddsBoxes [] old new)
    → OnOk r (CarriesAll (exchanged loose command answer) events before l old new)
carries_refused (Ok x) why loose command answer events before l old new is refusal noted boxes =
    carries_is (sym (exchanged_none why loose command answer is refusal))
    (carries_none noted boxes)
carries_refused (Err e) why loose command answer events before l old new is refusal noted boxes =
    tt

-- The commands that get their response with a byte.
pub answered_none : (o : Overheard) → o.is_answered ≡ false → answered o ≡ []
answered_none o none = rw none refl

pub answered_one : (o mid : Overheard) → mid ≡ o → o.is_answered ≡ true
    → exchanged mid.mark mid.command mid.gathered.bytes ≡ answered o
answered_one o mid same is =
    ap (λ (x : Overheard). exchanged x.mark x.command x.gathered.bytes) same ∙ rw is refl

-- A byte of a block reports the command that gets its response with it.
pub reports_some : (r : Role) (o : Overheard) → is_block r ≡ true
    → answered o ≡ reports_with r (Some o)
reports_some (role.Block from) o block = refl
reports_some other o block = absurd (let bad : false ≡ true = block in cc)

-- No other character is one of a block.
pub none_with : (r : Role) (o : Option Overheard) → is_block r ≡ false → reports_with r o ≡ []
none_with (role.Block from) o other = absurd (let bad : true ≡ false = other in cc)
none_with r o other = refl

-- The events of a character, by what it is.
pub none_opens : (o : Opening) (line : ℕ) (from : End) (b : ℕ)
    → is_dialogue (role_of o from b) ≡ false → is_block (role_of o from b) ≡ false
    → [] ≡ dialogue_events o line from b
none_opens o line from b other block = rw (
  other,
  none_with (role_of o from b)
      (opens o (role_of o from b) b line).blocks block,
) refl

pub one_passes : (o : Opening) (line : ℕ) (from : End) (b : ℕ)
    → is_dialogue (role_of o from b) ≡ true
    → Passed (from, b) (record { is_loose = is_loose o.stage; line = line }) ∷ []
    ≡ dialogue_events o line from b
one_passes o line from b is = rw is refl

no_dialogue : (r : Role) → is_block r ≡ true → is_dialogue r ≡ false
no_dialogue role.Dialogue block = absurd (let bad : false ≡ true = block in cc)
no_dialogue other block = refl

pub block_takes : (o : Opening) (line : ℕ) (from : End) (b : ℕ) (r : Role) (after : Opening)
    → r ≡ role_of o from b → is_block r ≡ true → after ≡ opens o r b line
    → block_events (reports_with r after.blocks) ≡ dialogue_events o line from b
block_takes o line from b r after r_is block after_is =
    let E : Role → List Event = λ x. if is_dialogue x
    then Passed (from, b) (record { is_loose = is_loose o.stage; line = line }) ∷ []
    else block_events (reports_with x (opens o x b line).blocks) in
    let P : Role → Type 0 = λ x. block_events (reports_with r (opens o r b line).blocks) ≡ E x in
    ap (λ (x : Opening). block_events (reports_with r x.blocks)) after_is
    ∙ subst P r_is (rw (no_dialogue r block) refl)
