use Rattle.std.proofs.Common.{◌≡◌, true}
use Rattle.t1_core.specs.Carried.{HasCarried}
use Rattle.t1_core.specs.TerminalSide.{is_ready}
use Rattle.t1_core.proofs.Carrying.{first_of}
use Rattle.t1_core.proofs.dialogue.converse.Given as goal

-- both ends have carried the commands before this one, with these answers
abbrev pub invariant-loop-command : goal.invariant-loop-command
invariant-loop-command g l = record {
  ready : is_ready l.ends.terminal.phase ≡ true;
  carried : HasCarried g.C.Applet (first_of g.C.Applet (λ v. v.items) l.fn.settings
      (g.C.Applet.standing l.fn.applet) (g.L.Line.passed l.fn.line) l.commands l.command-index
      l.answers.items) (g.L.Line.passed l.line) l.ends;
}
