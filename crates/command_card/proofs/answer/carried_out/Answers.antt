use Rattle.std.proofs.Common.{refl, arith}
use Rattle.command_card.specs.Calls.{Carried_out}
use Rattle.command_card.proofs.answer.carried_out.Goals as goal

pub returns-then-len-gt-OWN_RESPONSE_LIMIT-clause-called :
    goal.returns-then-len-gt-OWN_RESPONSE_LIMIT-clause-called
returns-then-len-gt-OWN_RESPONSE_LIMIT-clause-called g c = (
  Carried_out (record {
    command = c.args.command;
    response = c.carry_out.new.response.items;
    status = c.in-Ok.status;
  }),
  (refl, omega (arith, c.if-len-gt-OWN_RESPONSE_LIMIT.true, c.len.ensures)),
  c.in-Ok.ensures.called,
)

pub returns-clause-called : goal.returns-clause-called
returns-clause-called g c = (
  Carried_out (record {
    command = c.args.command;
    response = c.carry_out.new.response.items;
    status = c.in-Ok.status;
  }),
  (refl, omega (arith, c.if-len-gt-OWN_RESPONSE_LIMIT.false, c.len.ensures)),
  c.in-Ok.ensures.called,
)
