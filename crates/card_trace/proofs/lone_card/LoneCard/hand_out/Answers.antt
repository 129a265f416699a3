use Rattle.std.proofs.Common.{ap, refl, ◌∙◌}
use Rattle.t0_core.specs.declared.end.End.TheVariants.{Card}
use Rattle.t0_core.specs.Character.{sent_by}
use Rattle.card_trace.specs.TraceText.{handed_out_text}
use Rattle.card_trace.specs.CardScripts.{HandsOutNext, of_end}
use Rattle.card_trace.proofs.ScriptRefusalLemmas.{ok_more}
use Rattle.card_trace.proofs.CardLemmas.{leads_by}
use Rattle.card_trace.proofs.lone_card.LoneCard.hand_out.Goals as goal

pub returns-then-is_over : goal.returns-then-is_over
returns-then-is_over g c =
    let now = c.args.self.now in
    let new = c.handed_out.new in
    let handed = c.in_ok-characters.characters.items in
    ok_more c.handed_out_text.result _ _
    (λ text prints. leads_by (λ o n. HandsOutNext o c.args.most text.items n) now.opening
    (now.end, now.plans) (new.end, new.plans) (sent_by Card handed)
    c.in_ok-characters.ensures.led
    (λ past more goes. of_end (c.is_over.ensures.0 c.if-is_over.true)
    (record {
      handed = handed;
      continues = goes;
      is_enough = c.in_ok-characters.ensures.enough;
      prints = prints ∙ ap handed_out_text c.deref.ensures.value;
    }) refl))
    c.handed_out_text.ensures
