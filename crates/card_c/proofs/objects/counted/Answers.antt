use Rattle.std.proofs.Common.{refl, arith}
use Rattle.card_c.proofs.Listing.{whole}
use Rattle.card_c.proofs.objects.counted.Goals as goal

pub returns : goal.returns
returns c =
    let l = c.listed.ensures in
    (l.0, whole _ _ _ _ c.requires refl l.1, omega (arith, l.2), l.3)
