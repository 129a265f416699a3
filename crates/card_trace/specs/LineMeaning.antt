-- What a line that was read says.
use Rattle.card_trace.specs.declared.script.line.Line.{Line}
use Rattle.card_trace.specs.declared.script.line.Line.TheVariants as line
use Rattle.card_trace.specs.Script.{Script, Meaning, Builds, Runs}

abbrev pub meaning_of : {P A : Type 0} (s : Script) → (P → s.Part) → (A → s.Act) → Line P A
    → Meaning s
meaning_of s part_of act_of (line.Builds part) = Builds (part_of part)
meaning_of s part_of act_of (line.Runs act) = Runs (act_of act)
