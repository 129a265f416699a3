use Rattle.object_card.proofs.TagLemmas.{found_is_named}
use Rattle.object_card.proofs.lookup.named.Goals as goal

pub returns : goal.returns
returns c = found_is_named _ c.args.header.p1 c.args.header.p2 c.from_p1p2.ensures.named
    c.from_p1p2.ensures.tag
