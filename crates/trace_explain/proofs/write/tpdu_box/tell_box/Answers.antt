use Rattle.std.proofs.Common.{◌≡◌, ◌&&◌, Bool, List, ℕ, codes, refl, subst}
use Rattle.trace_explain.specs.declared.write.layout.Side.{Side}
use Rattle.trace_explain.specs.declared.write.layout.Side.TheVariants.{Terminal, Card, Nobody}
use Rattle.trace_explain.specs.Boxes.{IsAnswer, IsBar, IsBeside, IsBox, IsData, IsFields, IsStatus, IsTitle, IsTogether, status_side}
use Rattle.trace_explain.specs.Reports.{is_doubtful, report_of}
use Rattle.trace_explain.specs.Sheets.{Adds, IsRow, Puts}
use Rattle.trace_explain.specs.Words.{IsWords}
use Rattle.trace_explain.specs.Written.{box_end, header_row, line_text}
use Rattle.trace_explain.proofs.SheetLemmas.{put_first, put_none}
use Rattle.trace_explain.proofs.write.tpdu_box.tell_box.Goals as goal

pub returns-clause-puts : goal.returns-clause-puts
returns-clause-puts c = λ whole.
    let number = c.args.links.number in
    let mask = c.args.mask.now in
    let t = report_of c.args.tpdu.now in
    let s = status_side t.header t.status in
    let T : List ℕ → Type 0 = λ x. Puts (IsTitle number x) c.join.new.self.sheet
    c.tell_title.new.output.sheet in
    let H : Bool → List ℕ → Type 0 = λ v x. Adds c.row-4.new.self.sheet
    (header_row v c.row-4.new.self.sheet.layout.medium x) c.push_header.new.sheet in
    let V : Bool → Type 0 = λ v. H v t.header in
    let E : List ℕ → Type 0 = λ x. Puts (IsStatus c.status_side.result x)
    c.tell_answer.new.output.sheet c.tell_status.new.output.sheet in
    let S : Side → Type 0 = λ x. Puts (IsStatus x t.status)
    c.tell_answer.new.output.sheet c.tell_status.new.output.sheet in
    (put_first IsWords c.join.ensures (put_first (IsBox mask number t)
    (put_first (IsTitle number t.status)
    (subst T c.as_slice-status.ensures.value c.tell_title.ensures)
    (put_first (IsBeside mask t.is_loose t.way t.header t.moved) c.tell_beside.ensures
    (put_first IsBar c.push_bar.ensures
    (put_first (λ m text. text ≡ line_text m t.line) (_, refl, c.push_line.ensures)
    (put_first IsFields c.tell_fields.ensures
    (put_first (IsRow Nobody (codes "file")) c.row.ensures
    (put_first (IsRow Nobody (codes "time")) c.row-2.ensures
    (put_first (IsRow Nobody (codes "before")) c.row-3.ensures
    (put_first (IsRow Nobody (codes "blocks")) c.row-4.ensures
    (put_first (λ m text. text ≡ header_row (mask.hides && is_doubtful t) m t.header) (
      _,
      refl,
      subst V (rw c.is_doubtful.ensures at c.hides_header-is_hidden.ensures)
          (subst (H c.hides_header-is_hidden.result) c.as_slice.ensures.value
          c.push_header.ensures),
    )
    (put_first (IsRow Card (codes "procedure")) c.row-5.ensures
    (put_first (IsData mask t.is_loose t.way t.header t.moved) c.tell_data.ensures
    (put_first (IsRow Terminal (codes "Le")) c.row-6.ensures
    (put_first (IsAnswer mask t.is_loose t.way t.header t.answer) c.tell_answer.ensures
    (put_first (IsStatus s t.status)
    (subst S c.status_side.ensures (subst E c.as_slice-status.ensures.value c.tell_status.ensures))
    (put_first (IsRow Nobody (codes "after")) c.row-7.ensures
    (put_first (IsTogether mask t.is_loose t.header) c.tell_together.ensures
    (put_first (λ m text. text ≡ box_end m) (_, refl, c.push_box_end.ensures)
    put_none)))))))))))))))))).puts put_none)).puts
