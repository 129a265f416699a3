use Rattle.std.proofs.Common.{sym, ap, ◌∙◌, List, ℕ, [], take, drop, arith}
use Rattle.t1_core.specs.CardSide.{shortened}
use Rattle.t1_core.specs.Doing.{EndOf, with_end}
use Rattle.t1_core.proofs.Fields.{shorter_cut}
use Rattle.t1_core.proofs.card.BlockCard.shorten.Goals as goal

pub returns-then-self : goal.returns-then-self
returns-then-self g c =
    let s = c.self.inside in
    let bytes : List ℕ = drop s.place s.response.items in
    let less = c.if-self.true in
    let e = shorter_cut s.size s.cut bytes (grind (arith, less)) in
    let at : List ℕ → List ℕ → EndOf g.row.C.Denot = λ field rest. record {
      card = s.applet;
      over = s.over;
      at = record {
        due = s.due;
        next = s.next;
        collected = s.collected.items;
        field = field;
        rest = rest;
        answering = s.answering;
        size = s.size;
        left = s.left;
        ran = [];
      };
    } in
    ap (λ field. at field (drop s.size bytes)) (sym e.0)
    ∙ ap (λ rest. at (take s.size (take s.cut bytes)) rest) (sym e.1)
    ∙ ap (λ e. with_end shortened e) c.self.view_is
