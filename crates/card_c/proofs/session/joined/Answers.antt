use Rattle.std.proofs.Common.{None, true, false, refl, subst, sym}
use Rattle.card_c.specs.declared.card_side.CardSide.{CardSide}
use Rattle.card_c.specs.declared.card_side.CardSide.TheVariants.{Joined}
use Rattle.card_c.specs.declared.session_side.SessionSide.{SessionSide}
use Rattle.card_c.specs.SessionCalls.{Joins}
use Rattle.card_c.proofs.session.joined.Goals as goal

pub returns-in-Standing : goal.returns-in-Standing
returns-in-Standing c =
    let session : SessionSide =
    record {
      session = c.new.result;
      plans = c.new-in-Standing.result;
      answer = None;
      listens = false;
      heard =
          c.new-in-Standing-2.result;
    } in
    subst (λ (s : CardSide). Joins s true (Joined session)) (sym c.in-Standing.is)
    (session, refl, refl, c.new.ensures, c.new-in-Standing.ensures.items, refl, refl)
