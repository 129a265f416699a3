use Rattle.std.proofs.Common.{◌≡◌, ◌≤◌, ◌∙◌, ◌++◌, true, false, ap, append-nil, append_assoc, arith, length, refl, subst, sym, take}
use Rattle.std.proofs.lemmas.List.{take_all}
use Rattle.trace_explain.specs.declared.explainer.Explainer.{Explainer}
use Rattle.trace_explain.specs.Explained.{ExplainsCharacters, HasExplained, position_of}
use Rattle.trace_explain.specs.Noted.{ended_by}
use Rattle.trace_explain.specs.Reports.{loose, report_of}
use Rattle.trace_explain.proofs.AccountLemmas.{boxes_both}
use Rattle.trace_explain.proofs.ExplainedLemmas.{taken_on}
use Rattle.trace_explain.proofs.explainer.Explainer.characters.Goals as goal

pub loop-place-init : goal.loop-place-init
loop-place-init c = (
  λ events before h.
      let same = (c.is_passed_over.ensures.none h.1.1).1 in
      let P : Explainer → Type 0 = λ e. ExplainsCharacters c.args.source
      (take c.in_ok-heard.heard c.args.bytes.now) events before e c.run.new.self in
      let Q : Explainer → Type 0 = λ e. HasExplained events before e in
      subst P same (c.in_ok-heard.ensures.explained events before (subst Q (sym same) h)),
  c.in_ok-heard.ensures.counts ∙ c.is_passed_over.ensures.counts,
)

pub loop-place-preserved : goal.loop-place-preserved
loop-place-preserved c = (
  λ events before h.
      taken_on c.args.source c.args.bytes.now c.loop-place.place
      (omega (arith, c.loop-place-test.true)) (sym c.sender.ensures ∙ c.in-Ok.is)
      (λ es ts k. rw c.if-stops.false at (c.in_ok-stops-in-Ok.ensures.takes es ts k))
      (c.loop-place.invariant.0 events before h),
  c.in_ok-stops-in-Ok.ensures.counts ∙ c.loop-place.invariant.1,
)

pub returns-then-is_passed_over-clause-explained :
    goal.returns-then-is_passed_over-clause-explained
returns-then-is_passed_over-clause-explained c = λ events before h.
    absurd (let no : false ≡ true = sym (c.is_passed_over.ensures.none h.1.1).0
    ∙ c.if-is_passed_over.true in cc)

pub returns-clause-explained : goal.returns-clause-explained
returns-clause-explained c = λ events before h.
    let bytes = c.args.bytes.now in
    let past : length bytes ≤ c.loop-place.place = omega (arith, c.loop-place-test.false) in
    rw (take_all c.loop-place.place bytes past) at (c.loop-place.invariant.0 events before h)

pub returns-then-stops-clause-stops : goal.returns-then-stops-clause-stops
returns-then-stops-clause-stops c = λ events before h.
    let (more, takes, goes) = c.loop-place.invariant.0 events before h in
    let (still, (same, none, boxes), own, not_again) = rw c.if-stops.true at
    (c.in_ok-stops-in-Ok.ensures.takes (events ++ more) (before ++ goes.reports) goes.explained) in
    let ended = ended_by (loose (report_of c.character.new.self.listener.under_way)) in
    rw c.complaint-complaint.ensures (
      c.in_ok-stops-in-Ok.ensures.counts ∙ c.loop-place.invariant.1,
      record {
        here = record {
          within = omega (arith, c.loop-place-test.true);
          more = more;
          position = position_of c.loop-place.self;
          takes = takes;
          reports = goes.reports;
          listener = c.character.new.self.listener;
          noted = still.0;
        };
        sent = rw same (sym c.sender.ensures ∙ c.in-Ok.is);
        is_of_dialogue = own;
        none = none;
        not_again = not_again;
        expected_is = refl;
        byte_is = refl;
        shown = record {
          reports = goes.reports ++ ended;
          boxes = boxes_both goes.boxes (boxes_both boxes c.in_ok-complain-in-Ok.ensures.shown);
          hears = still.1.2;
          all_are = append_assoc before goes.reports ended
              ∙ ap (λ ts. before ++ ts) (sym (append-nil (goes.reports ++ ended))
              ∙ ap (λ t. (goes.reports ++ ended) ++ ended_by t)
              (sym c.in_ok-complain-in-Ok.ensures.left));
        };
      },
    )

pub returns-then-self-clause-explained : goal.returns-then-self-clause-explained
returns-then-self-clause-explained c = λ events before h.
    let (more, takes, goes) = c.loop-place.invariant.0 events before h in
    let (still, heard, own, not_again) = rw c.if-stops.true at
    (c.in_ok-stops-in-Ok.ensures.takes (events ++ more) (before ++ goes.reports) goes.explained) in
    absurd (let no : false ≡ true = sym still.1.0 ∙ c.if-self.true in cc)

pub returns-in-Err-clause-stops : goal.returns-in-Err-clause-stops
returns-in-Err-clause-stops c = λ events before h.
    let (more, takes, goes) = c.loop-place.invariant.0 events before h in (
      refl,
      record {
        here = record {
          within = omega (arith, c.loop-place-test.true);
          more = more;
          position = position_of c.loop-place.self;
          takes = takes;
          reports = goes.reports;
          listener = c.loop-place.self.listener;
          noted = goes.explained.0;
        };
        unsent = sym c.sender.ensures ∙ c.in-Err.is;
        shown = record {
          reports = goes.reports;
          boxes = goes.boxes;
          hears = goes.explained.1.2;
          all_are = append_assoc before goes.reports
              (ended_by (report_of c.loop-place.self.listener.under_way));
        };
      },
    )

pub returns-then-eq-clause-explained : goal.returns-then-eq-clause-explained
returns-then-eq-clause-explained c = λ events before h.
    let (more, takes, goes) = c.loop-place.invariant.0 events before h in
    absurd (let no : false ≡ true = sym goes.explained.1.0 ∙ c.if-self-2.true in cc)
