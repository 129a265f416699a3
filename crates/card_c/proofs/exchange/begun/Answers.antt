use Rattle.std.proofs.Common.{refl, sym, subst}
use Rattle.card_c.specs.declared.exchange_side.ExchangeSide.{ExchangeSide}
use Rattle.card_c.specs.ExchangeCalls.{HasBegun}
use Rattle.card_c.proofs.exchange.begun.Goals as goal

pub returns-in-Ok-new-clause-begun : goal.returns-in-Ok-new-clause-begun
returns-in-Ok-new-clause-begun c =
    let P : ExchangeSide → Type 0 = λ side. HasBegun c.args.command.now c.args.limit side in
    let begun : HasBegun c.args.command.now c.args.limit _ = record {
      begun = (
        c.in-Ok.command,
        c.in-Ok.ensures.command.0,
        c.in-Ok.ensures.command.1,
        c.in-Ok-start_within.ensures.limited.1,
        c.in-Ok-start_within.ensures.begins,
        c.in-Ok-start_within.ensures.led,
        c.in-Ok-start_within.ensures.by_characters,
      );
      apdus = c.in-Ok-new_within.ensures.1;
      leads = refl;
    } in
    subst P (sym c.in-Ok-new.ensures.ok) begun
