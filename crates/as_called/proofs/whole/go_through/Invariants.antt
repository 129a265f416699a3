use Rattle.std.proofs.Common.{[]}
use Rattle.apdu_core.specs.CommandBytes.{Command}
use Rattle.exchange_core.specs.Gathered.{wanted_by}
use Rattle.apdu_terminal.specs.ApduSide.{ComesTo, to_go}
use Rattle.as_called.proofs.Stands.{Stands}
use Rattle.as_called.proofs.whole.go_through.Given as goal

-- How far the command is, from the state before it.
abbrev pub invariant-talk : goal.invariant-talk
invariant-talk g l = g.K.Link.IsReady l.link
    × ((c : Command) → ComesTo c (wanted_by c.le) [] l.fn.exchange
    → Stands g.A.Application (g.K.Link.card l.fn.link) c l.exchange (g.K.Link.card l.link)
    l.is_first)

abbrev pub decreases-talk : goal.decreases-talk
decreases-talk g l = to_go l.exchange
