use Rattle.std.proofs.Common.{◌+◌, ◌-◌, ◌*◌, ◌≤◌, length}
use Rattle.tlv_core.proofs.Reading.{Keeps}
use Rattle.tlv_core.proofs.check.first_fault.Given as goal

abbrev pub invariant-reading : goal.invariant-reading
invariant-reading l = Keeps l.ends l.bytes l.level l.open l.place l.end

-- For the proof: the measure of the loop. Each object is skipped, or entered and left.
abbrev pub decreases-reading : goal.decreases-reading
decreases-reading l = 2 * (length l.bytes - l.place) + l.open

abbrev pub invariant-closing : goal.invariant-closing
invariant-closing l =
    record {
      keeps : Keeps l.ends l.bytes l.level l.open l.place l.end;
      fewer : l.open
          ≤ l.initial.open;
    }

abbrev pub decreases-closing : goal.decreases-closing
decreases-closing l = l.open
