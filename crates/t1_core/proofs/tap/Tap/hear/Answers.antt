use Rattle.std.proofs.Common.{ap, ◌∙◌}
use Rattle.t1_core.specs.Hearing.{hears_next}
use Rattle.t1_core.proofs.HearingFacts.{hears_so}
use Rattle.t1_core.proofs.tap.Tap.hear.Goals as goal

pub returns-clause-led : goal.returns-clause-led
returns-clause-led c = λ heard items led.
    hears_so heard items c.args.self.now c.add.new.self c.args.from c.args.byte
    (c.add.ensures ∙ ap (λ g. hears_next g c.args.from c.args.byte) c.go_on.ensures.after) led
