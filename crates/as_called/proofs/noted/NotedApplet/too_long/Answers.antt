use Rattle.as_called.proofs.Carrying.{never_long}
use Rattle.as_called.proofs.noted.NotedApplet.too_long.Goals as goal

pub unreachable-requires : goal.unreachable-requires
unreachable-requires g c = never_long c.in_default.ensures.does.2
