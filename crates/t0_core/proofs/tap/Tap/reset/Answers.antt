use Rattle.std.proofs.Common.{refl}
use Rattle.t0_core.specs.TapLaws.{heard_reset}
use Rattle.t0_core.proofs.tap.Tap.reset.Goals as goal

pub returns-clause-led : goal.returns-clause-led
returns-clause-led c = λ events led. (heard_reset events _ _ refl led).0
