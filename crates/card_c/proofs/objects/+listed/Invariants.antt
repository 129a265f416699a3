use Rattle.std.proofs.Common.{length}
use Rattle.card_c.proofs.Listing.{Going}
use Rattle.card_c.proofs.objects.+listed.Given as goal

abbrev pub decreases-listed : goal.decreases-listed
decreases-listed l = length l.list.bytes

abbrev pub invariant-listing : goal.invariant-listing
invariant-listing l = Going l.fn.list l.list l.fn.end l.fn.objects l.objects l.fn.before l.count

abbrev pub decreases-listing : goal.decreases-listing
decreases-listing l = length l.list.bytes
