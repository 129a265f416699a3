use Rattle.exchange_core.proofs.exchange.Exchange.begin.Goals as goal

pub returns-clause-begins : goal.returns-clause-begins
returns-clause-begins g c = c.beginning-end.ensures.begins c.args.gather c.requires.empty

pub returns-clause-by_characters : goal.returns-clause-by_characters
returns-clause-by_characters g c = c.beginning-end.ensures.by_characters c.args.gather
