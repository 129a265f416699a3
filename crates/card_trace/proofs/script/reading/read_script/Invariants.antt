use Rattle.std.proofs.Common.{◌-◌, length}
use Rattle.std.specs.Io.KnownBytes.{Consumes}
use Rattle.card_trace.proofs.script.reading.read_script.Given as goal

abbrev pub invariant-reading : goal.invariant-reading
invariant-reading g l = Consumes (g.R.Read.remaining l.initial.reader)
    (g.R.Read.remaining l.reader) l.script.items

abbrev pub decreases-reading : goal.decreases-reading
decreases-reading g l = 1048577 - length l.script.items
