use Rattle.std.proofs.Common.{not, ◌==◌, rules, tests}
use Rattle.std.proofs.lemmas.Iterator.{YieldsList-from_slice}
use Rattle.std.proofs.lemmas.Iterator.Search.{any_from_yields_List}
use Rattle.card_c.proofs.atr.names_other_than_0.Goals as goal

pub returns : goal.returns
returns c = any_from_yields_List (λ n. not (n.t == 0)) _ _ _ c.any.ensures.ran
    (YieldsList-from_slice c.args.others.now (cc)) (λ x b q k. search (rules, tests))
