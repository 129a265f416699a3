use Rattle.std.proofs.Common.{◌≡◌, ◌∙◌, ap, false, true, refl, sym}
use Rattle.std.proofs.lemmas.Result.{on_ok_weaker}
use Rattle.trace_explain.specs.Overheard.{Overheard, overheard_by}
use Rattle.trace_explain.proofs.AccountLemmas.{boxes_from, boxes_none, boxes_words}
use Rattle.trace_explain.proofs.CarriedLemmas.{answered_none, answered_one, carries_as, carries_is, carries_none}
use Rattle.trace_explain.proofs.write.teller.Teller.tell_blocks.Goals as goal

pub returns-then-not-is_answered-clause-heard : goal.returns-then-not-is_answered-clause-heard
returns-then-not-is_answered-clause-heard c = λ events before h.
    let o : Overheard = overheard_by c.args.blocks.now in
    let none : o.is_answered ≡ false = ap (λ (x : Overheard). x.is_answered)
    (sym c.begin_blocks.ensures.same) ∙ sym c.if-not-is_answered.ensures in
    on_ok_weaker c.outcome.result (λ w.
    carries_is (sym (answered_none o none)) (carries_none h
    (boxes_from c.begin_blocks.ensures.stays (boxes_none refl refl refl c.outcome.ensures.joins))))
    c.outcome.ensures.whole

pub returns-clause-heard : goal.returns-clause-heard
returns-clause-heard c = λ events before h.
    let o : Overheard = overheard_by c.args.blocks.now in
    let mid : Overheard = overheard_by c.begin_blocks.new.blocks in
    let is : o.is_answered ≡ true = ap (λ (x : Overheard). x.is_answered)
    (sym c.begin_blocks.ensures.same) ∙ sym c.if-not-is_answered.ensures in
    on_ok_weaker c.outcome-2.result (λ w.
    carries_is (answered_one o mid c.begin_blocks.ensures.same is)
    (carries_as (λ ts boxes. boxes_words (boxes_from c.begin_blocks.ensures.stays boxes) refl refl
    refl c.outcome-2.ensures.joins) (c.in_ok-tell_carried.ensures.heard events before h)))
    c.outcome-2.ensures.whole
