use Rattle.std.proofs.Common.{◌∙◌, ap, refl, sym}
use Rattle.trace_explain.specs.Openings.{is_dialogue, opening_of, opens}
use Rattle.trace_explain.proofs.AccountLemmas.{boxes_from, boxes_none, boxes_stay}
use Rattle.trace_explain.proofs.write.teller.Teller.open.Goals as goal

pub returns-then-is_dialogue-clause-opens : goal.returns-then-is_dialogue-clause-opens
returns-then-is_dialogue-clause-opens c =
    c.in_ok-take.ensures
    ∙ ap (λ r. opens (opening_of c.args.preface.now) r c.args.byte c.args.number)
    c.role_of-role.ensures

pub returns-clause-opens : goal.returns-clause-opens
returns-clause-opens c =
    c.in_ok-take.ensures
    ∙ ap (λ r. opens (opening_of c.args.preface.now) r c.args.byte c.args.number)
    c.role_of-role.ensures

pub returns-then-is_dialogue-clause-dialogue : goal.returns-then-is_dialogue-clause-dialogue
returns-then-is_dialogue-clause-dialogue c =
    sym (ap is_dialogue c.role_of-role.ensures) ∙ sym c.is_dialogue.ensures ∙ c.if-is_dialogue.true

pub returns-clause-dialogue : goal.returns-clause-dialogue
returns-clause-dialogue c =
    sym (ap is_dialogue c.role_of-role.ensures) ∙ sym c.is_dialogue.ensures ∙ c.if-is_dialogue.false

pub returns-then-is_dialogue-clause-boxes : goal.returns-then-is_dialogue-clause-boxes
returns-then-is_dialogue-clause-boxes c = boxes_from c.tell_before.ensures boxes_stay

pub returns-clause-boxes : goal.returns-clause-boxes
returns-clause-boxes c =
    boxes_from c.tell_before.ensures (boxes_none refl refl refl c.outcome.ensures.joins)
