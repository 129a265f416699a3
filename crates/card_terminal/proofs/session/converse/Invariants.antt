use Rattle.std.proofs.Common.{◌≡◌, ◌+◌, false, if◌then◌else◌}
use Rattle.apdu_core.specs.CommandBytes.{Command}
use Rattle.card_terminal.specs.Line.{line, begun, Begins, left, IsDone, IsOneOf}
use Rattle.card_terminal.proofs.session.converse.Given as goal

-- The exchange is in progress or has ended, since its start.
abbrev pub invariant-talk : goal.invariant-talk
invariant-talk g l =
    let card = g.C.TpduCard in
    let hearing = g.W.Watch.hearing in
    let now = line l.exchange l.end l.plans (hearing l.watch) in
    let was = line l.fn.exchange l.fn.end l.fn.plans (hearing l.fn.watch) in
    (command : Command) → Begins card command was → IsOneOf card (begun card command was) now
    × (l.going ≡ false → IsDone card (begun card command was) now)

abbrev pub decreases-talk : goal.decreases-talk
decreases-talk g l =
    left (line l.exchange l.end l.plans (g.W.Watch.hearing l.watch)) + (if l.going then 1 else 0)
