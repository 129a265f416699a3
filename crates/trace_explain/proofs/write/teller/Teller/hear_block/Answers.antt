use Rattle.std.proofs.Common.{◌∙◌, ap, sym}
use Rattle.std.proofs.lemmas.Result.{on_ok_weaker}
use Rattle.trace_explain.specs.Overheard.{Overheard, answered, overheard_by}
use Rattle.trace_explain.proofs.AccountLemmas.{boxes_from}
use Rattle.trace_explain.proofs.CarriedLemmas.{carries_as, carries_is, reports_some}
use Rattle.trace_explain.proofs.write.teller.Teller.hear_block.Goals as goal

pub returns-in-Some-clause-heard : goal.returns-in-Some-clause-heard
returns-in-Some-clause-heard c = λ events before h.
    on_ok_weaker c.tell_blocks.result (λ carries.
    carries_is (ap (λ (x : Overheard). answered x) (sym c.tell_blocks.ensures.same)
    ∙ reports_some c.args.role (overheard_by c.tell_blocks.new.blocks) c.requires.block)
    (carries_as (λ ts boxes. boxes_from c.lead_to_blocks.ensures boxes) carries))
    (c.tell_blocks.ensures.heard events before h)
