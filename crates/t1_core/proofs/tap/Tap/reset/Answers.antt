use Rattle.std.proofs.Common.{rules, ◌≡◌, [], take, nat_lt}
use Rattle.std.specs.List.{cons_option}
use Rattle.t1_core.specs.Hearing.{Ear, stops}
use Rattle.t1_core.proofs.HearingFacts.{stopped}
use Rattle.t1_core.proofs.tap.Tap.reset.Goals as goal

pub returns-clause-led : goal.returns-clause-led
returns-clause-led c = λ heard items led.
    let s = c.self.inside in
    let now : Ear = record {
      edc = s.edc;
      from = s.from;
      part = take s.len s.bytes;
      ended = nat_lt 0 s.len;
      held = cons_option s.held [];
      reading = c.default-self-inside.result;
    } in
    let is : now ≡ stops c.args.self.now = search rules in
    stopped heard items c.args.self.now now is led
