use Rattle.std.proofs.Common.{◌≡◌, ◌+◌, ◌-◌, ◌*◌, ◌≤◌, length}
use Rattle.tlv_core.specs.Spelling.{deepest}
use Rattle.tlv_core.specs.FrontParts.{innermost_first}
use Rattle.tlv_core.proofs.Seeking.{Stands}
use Rattle.tlv_core.proofs.path.find_in.Given as goal

abbrev pub invariant-seeking : goal.invariant-seeking
invariant-seeking l = record {
  cells : length l.ends ≡ deepest;
  few : l.open ≤ deepest;
  stands : Stands (innermost_first l.ends l.open) l.bytes l.path l.place l.end;
}

-- For the proof: the measure of the loop. Each object is skipped, or entered and left.
abbrev pub decreases-seeking : goal.decreases-seeking
decreases-seeking l = 2 * (length l.bytes - l.place) + l.open
