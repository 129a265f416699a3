use Rattle.t0_core.proofs.TapLemmas.{heard_nothing}
use Rattle.t0_core.proofs.tap.Tap.new.Goals as goal

pub returns-clause-led : goal.returns-clause-led
returns-clause-led c = heard_nothing
