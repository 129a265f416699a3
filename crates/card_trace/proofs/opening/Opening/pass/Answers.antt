use Rattle.card_trace.specs.AnswerToReset.{characters_of}
use Rattle.card_trace.proofs.OpeningLemmas.{passes}
use Rattle.card_trace.proofs.opening.Opening.pass.Goals as goal

pub returns : goal.returns
returns g c =
    passes c.args.most (characters_of c.self.inside.answer) c.self.inside.handed
    c.saturating_sub-self-inside.result c.saturating_sub-still_left.result c.args.self.now
    c.all.result.now c.left.result.now c.next_characters-next.result.now c.self.view_is
    c.all.ensures c.left.ensures c.next_characters-next.ensures
    c.saturating_sub-still_left.ensures c.saturating_sub-self-inside.ensures
