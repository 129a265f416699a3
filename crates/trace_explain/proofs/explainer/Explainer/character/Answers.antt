use Rattle.std.proofs.Common.{◌≡◌, ◌∙◌, ◌==◌, ◌&&◌, [], ◌∷◌, Bool, false, true, not, ap, length, subst, sym, inl, inr, refl}
use Rattle.std.proofs.lemmas.Bool.{and_parts}
use Rattle.trace_explain.specs.declared.follow.listener.Listener.{Listener}
use Rattle.trace_explain.specs.declared.follow.tpdu.Mark.{Mark}
use Rattle.trace_explain.specs.Noted.{HasNoted, Passed, Reset}
use Rattle.trace_explain.specs.Openings.{Opening, begins_answer, is_block, is_loose, opening_of, opens}
use Rattle.trace_explain.specs.Explained.{position_of}
use Rattle.trace_explain.specs.Lines.{Position}
use Rattle.trace_explain.specs.Reports.{report_of}
use Rattle.trace_explain.proofs.AccountLemmas.{boxes_both}
use Rattle.trace_explain.proofs.CarriedLemmas.{block_takes, none_opens, one_passes}
use Rattle.trace_explain.proofs.ExplainedLemmas.{explains_nothing, over_behind}
use Rattle.trace_explain.proofs.explainer.Explainer.character.Goals as goal

pub returns-then-is_block-clause-takes : goal.returns-then-is_block-clause-takes
returns-then-is_block-clause-takes c = λ events before h.
    let hears = c.in_ok-hear_block.ensures in
    let o = opening_of c.args.self.now.preface in
    let line = c.args.self.now.number in
    let block = sym c.is_block.ensures ∙ c.if-is_block.true in
    let place : Opening → Position = λ x. record (position_of c.args.self.now) {
      opening = x;
      has_characters = true;
    } in
    let carries = hears.heard events before h.0 in (
      _,
      inl (
        block_takes o line c.args.from c.args.byte _ _ c.role_of-role.ensures block hears.opened,
        ap place (hears.opened ∙ ap (λ r. opens o r c.args.byte line) c.role_of-role.ensures),
      ),
      record {
        reports = carries.reports;
        explained = (carries.noted, h.1);
        boxes = carries.boxes;
      },
    )

pub returns-then-opens-clause-takes : goal.returns-then-opens-clause-takes
returns-then-opens-clause-takes c = λ events before h.
    let opened = c.in_ok-opens.ensures in
    let is = opened.dialogue ∙ ap not c.if-opens.true in
    let o = opening_of c.args.self.now.preface in
    let place : Opening → Position = λ x. record (position_of c.args.self.now) {
      opening = x;
      has_characters = true;
    } in
    let no = sym (ap is_block c.role_of-role.ensures) ∙ sym c.is_block.ensures
    ∙ c.if-is_block.false in (
      [],
      inl (none_opens o _ c.args.from c.args.byte is no, ap place opened.opens),
      explains_nothing events before _ h opened.boxes,
    )

pub returns-then-continues-clause-takes : goal.returns-then-continues-clause-takes
returns-then-continues-clause-takes c = λ events before h.
    let opened = c.in_ok-opens.ensures in
    let is = opened.dialogue ∙ ap not c.if-opens.false in
    let o = opening_of c.args.self.now.preface in
    let mark : Mark =
    record { is_loose = is_loose o.stage; line = c.args.self.now.number } in
    let place : Opening → Position = λ x. record (position_of c.args.self.now) {
      opening = x;
      has_characters = true;
    } in
    let (reports, noted, boxes) = rw (c.if-continues.true, c.is_loose-is_loose.ensures) at
    (c.in_ok-continues.ensures events before h.0) in (
      Passed (c.args.from, c.args.byte) mark ∷ [],
      inl (one_passes o _ c.args.from c.args.byte is, ap place opened.opens),
      record {
        reports = reports;
        explained = (noted, h.1);
        boxes = boxes_both opened.boxes boxes;
      },
    )

pub returns-clause-takes : goal.returns-clause-takes
returns-clause-takes c = λ events before h.
    let opened = c.in_ok-opens.ensures in
    let L : Listener → Type 0 = λ l. HasNoted events before l in
    let Q : Bool → Type 0 = λ v. (v && begins_answer c.args.from c.args.byte
    && (length (report_of c.hear.new.listener.under_way).header == 0)) ≡ false in
    let (same, none, boxes) = rw c.if-continues.false at
    (c.in_ok-continues.ensures events before h.0) in (
      (subst L (sym same) h.0, h.1),
      (same, none, boxes_both opened.boxes boxes),
      opened.dialogue ∙ ap not c.if-opens.false,
      subst Q (c.has_begun-begun.ensures)
          (sym c.answers_again.ensures ∙ c.if-answers_again.false),
    )

pub returns-then-answers_again-clause-takes : goal.returns-then-answers_again-clause-takes
returns-then-answers_again-clause-takes c = λ events before h.
    let opened = c.in_ok-opens.ensures in
    let there = c.hear.new.listener in
    let again = c.in_ok-answer_again.ensures in
    let L : Listener → Type 0 = λ l. HasNoted events before l in
    let (same, none, boxes) = rw c.if-continues.false at
    (c.in_ok-continues.ensures events before h.0) in
    let noted = subst L (sym same) h.0 in
    let (both, empty) = and_parts
    (c.has_begun-begun.result && begins_answer c.args.from c.args.byte)
    (length (report_of there.under_way).header == 0)
    (sym c.answers_again.ensures ∙ c.if-answers_again.true) in
    let (begun, begins) =
    and_parts c.has_begun-begun.result (begins_answer c.args.from c.args.byte) both in (
      Reset ∷ [],
      inr (record {
        has_begun = sym (c.has_begun-begun.ensures) ∙ begun;
        begins = begins;
        are_over = over_behind there noted empty;
        reports = before;
        listener = there;
        noted = noted;
        none = none;
        events_are = refl;
        after_is = cc;
      }),
      record {
        reports = [];
        explained = (rw empty at (c.reset.ensures.noted events before noted), h.1);
        boxes = boxes_both (boxes_both opened.boxes boxes) again.boxes;
      },
    )
