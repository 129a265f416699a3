use Rattle.std.proofs.Common.{ap, ◌∙◌}
use Rattle.apdu_terminal.specs.ApduSide.{due_of}
use Rattle.apdu_terminal.proofs.exchange.ApduExchange.apdu.Goals as goal

pub returns : goal.returns
returns g c = c.apdu.ensures c.self.inside.gather ∙ ap due_of c.self.view_is
