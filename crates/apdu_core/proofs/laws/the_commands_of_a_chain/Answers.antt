use Rattle.std.proofs.Common.{◌∙◌, subst, sym}
use Rattle.apdu_core.specs.Chaining.{chain_commands}
use Rattle.apdu_core.specs.Laws.{MoreInAllButLast}
use Rattle.apdu_core.proofs.PieceFacts.{contents_concatenate, pieces_concatenate, some_piece, more_in_all_but_last, pieces_fit, links}
use Rattle.apdu_core.proofs.laws.the_commands_of_a_chain.Goals as goal

pub returns-clause-concatenate : goal.returns-clause-concatenate
returns-clause-concatenate c = λ header value p h.
    contents_concatenate header p ∙ pieces_concatenate value p h

pub returns-clause-more : goal.returns-clause-more
returns-clause-more c = λ header value p h clear.
    let (first, others, is) = some_piece value p h in
    subst (λ q. MoreInAllButLast (chain_commands header q)) (sym is)
    (more_in_all_but_last header first others clear)

pub returns-clause-links : goal.returns-clause-links
returns-clause-links c = λ header value p h clear byte valid.
    links header byte valid clear p (pieces_fit value p h)
