use Rattle.std.proofs.Common.{ℕ, List, sym, subst, ◌∙◌, ap, length}
use Rattle.tlv_core.specs.Object.{ObjectList}
use Rattle.exchange_core.specs.OneObject.{IsOneObject}
use Rattle.exchange_core.proofs.ObjectLemmas.{first_is_all}
use Rattle.exchange_core.proofs.answer.Answer.object.Goals as goal

pub returns-else-size-data-clause-none : goal.returns-else-size-data-clause-none
returns-else-size-data-clause-none g c = λ object one.
    let list = ap (λ (l : ObjectList). l.bytes) c.in-Ok.ensures.list in
    let bytes = list ∙ c.data-data.ensures in
    let One : List ℕ → Type 0 = λ bs. IsOneObject bs object in
    let gives = c.in-Some.ensures.steps in
    let all = first_is_all c.in-Ok.objects.bytes gives.0.0 _ _ _ _ _ object gives.0.1
    (subst One (sym bytes) one) in
    c.if-size-data.false (c.size.ensures ∙ all ∙ ap length list)
