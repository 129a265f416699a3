use Rattle.std.proofs.Common.{arith}
use Rattle.card_c.proofs.Listing.{set_there, none_there}
use Rattle.card_c.proofs.objects.put.Goals as goal

pub returns-then-at-objects : goal.returns-then-at-objects
returns-then-at-objects c = set_there c.args.objects.now c.args.at c.args.object
    (omega (arith, c.if-at-objects.true))

pub returns-else-at-objects : goal.returns-else-at-objects
returns-else-at-objects c = none_there c.args.objects.now c.args.at c.args.object
    (omega (arith, c.if-at-objects.false))
