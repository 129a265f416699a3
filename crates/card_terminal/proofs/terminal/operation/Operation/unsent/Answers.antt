use Rattle.std.proofs.Common.{List, ℕ, Some, None, Option, refl, subst}
use Rattle.std.specs.List.{slice_range}
use Rattle.apdu_core.specs.CommandBytes.{Command}
use Rattle.exchange_core.specs.OwnedExchange.{over_data}
use Rattle.card_terminal.specs.PieceLaws.{rest_seen}
use Rattle.card_terminal.specs.TerminalSide.{OperationOf}
use Rattle.exchange_core.specs.Unsent.{IsFirst}
use Rattle.card_terminal.specs.Unsent.{IsUnsent}
use Rattle.card_terminal.proofs.UnsentLemmas.{none_unsent, unsent_at}
use Rattle.card_terminal.proofs.terminal.operation.Operation.unsent.Goals as goal

pub returns-in-None : goal.returns-in-None
returns-in-None g c =
    let i = c.self.inside in
    let first = subst (λ (r : Option Command).
    IsFirst (over_data i.exchange (slice_range i.content.items i.from i.until)) r) c.in-None.is
    (subst (λ (bs : List ℕ).
    IsFirst (over_data i.exchange (slice_range bs i.from i.until)) c.unsent.result)
    c.deref.ensures.value c.unsent.ensures) in
    subst (λ (o : OperationOf). IsUnsent (Some o) None) c.self.view_is (none_unsent _ first)

pub returns-in-Some : goal.returns-in-Some
returns-in-Some g c =
    let i = c.self.inside in
    let first = subst (λ (r : Option Command).
    IsFirst (over_data i.exchange (slice_range i.content.items i.from i.until)) r) c.in-Some.is
    (subst (λ (bs : List ℕ).
    IsFirst (over_data i.exchange (slice_range bs i.from i.until)) c.unsent.result)
    c.deref.ensures.value c.unsent.ensures) in
    unsent_at _ _ _ c.self.view_is c.if-not-self.false first refl refl
    (rest_seen i.content.items c.deref-in-Some.result.now i.until c.deref-in-Some.ensures.value)
