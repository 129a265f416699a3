use Rattle.std.proofs.Common.{sym, ap, ◌∙◌, List, ℕ, take, drop, arith}
use Rattle.t1_core.specs.TerminalSide.{Terminal, shortened}
use Rattle.t1_core.proofs.Fields.{shorter_cut}
use Rattle.t1_core.proofs.terminal.TerminalEnd.shorten.Goals as goal

pub returns-then-self : goal.returns-then-self
returns-then-self c =
    let s = c.self.inside in
    let bytes : List ℕ = drop s.place s.command.items in
    let less = c.if-self.true in
    let e = shorter_cut s.size s.cut bytes (grind (arith, less)) in
    let at : List ℕ → List ℕ → Terminal = λ field rest. record {
      settings = s.settings;
      field = field;
      rest = rest;
      size = s.size;
      got = s.response.items;
      number = s.number;
      due = s.due;
      opened = s.opened;
      phase = s.phase;
      out = s.out;
      tries = s.tries;
      extensions = s.extensions;
    } in
    ap (λ field. at field (drop s.size bytes)) (sym e.0)
    ∙ ap (λ rest. at (take s.size (take s.cut bytes)) rest) (sym e.1)
    ∙ ap shortened c.self.view_is
