use Rattle.std.proofs.Common.{◌≡◌, Some, ap, ◌∙◌, sym, subst}
use Rattle.std.specs.Option.{option_map}
use Rattle.t0_core.specs.TpduBytes.{asked_of, due_by}
use Rattle.exchange_core.specs.OwnedExchange.{ExchangeMarkOf, over_data}
use Rattle.exchange_core.specs.Unsent.{IsFirst}
use Rattle.exchange_core.specs.UnsentLaws.{first_is}
use Rattle.exchange_core.proofs.exchange.exchange_mark.ExchangeMark.unsent.Goals as goal

pub returns-in-Some : goal.returns-in-Some
returns-in-Some g c =
    let At : ExchangeMarkOf → Type 0 =
    λ d. Some (asked_of c.in-Some.due) ≡ due_by (over_data d c.args.content.now).host in
    let due = subst At (sym c.self.view_is)
    (ap (λ t. option_map asked_of t) (sym c.in-Some.is) ∙ c.tpdu.ensures) in
    subst (λ (d : ExchangeMarkOf). IsFirst (over_data d c.args.content.now) c.new.result)
    c.self.view_is
    (first_is _ (asked_of c.in-Some.due) c.le.result c.new.result c.if-self.false
    c.if-self-ne1.false due c.le.ensures c.new.ensures)
