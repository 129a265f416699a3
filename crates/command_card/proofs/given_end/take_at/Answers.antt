use Rattle.std.proofs.Common.{◌++◌, ◌∷◌, [], List}
use Rattle.t0_core.specs.declared.end.End.TheVariants.{Terminal}
use Rattle.t0_core.specs.CardHistory.{Leads}
use Rattle.t0_core.specs.History.{Event, Passed}
use Rattle.command_card.specs.Given.{Answers, GivenState, after_drop, at_rest, settled, takes_data}
use Rattle.command_card.specs.Meaning.{Does}
use Rattle.command_card.specs.State.{CardState}
use Rattle.command_card.specs.View.{after_reset, prepared_in, standing_in}
use Rattle.command_card.proofs.GivenEndLemmas.{on_ok, within}
use Rattle.command_card.proofs.given_end.take_at.Goals as goal

pub returns : goal.returns
returns c =
    let old = c.args.end.now in
    let new = c.take.new.self in
    let D = Does takes_data Answers in
    let r = after_reset after_drop in
    let Was : CardState GivenState → List Event → Type 0 = λ f es. Leads D r f es
    (standing_in at_rest old.card) (prepared_in at_rest settled old.card) old.stage in
    let Is : CardState GivenState → List Event → Type 0 = λ f es.
    Leads D r f (es ++ Passed (Terminal, c.args.byte) ∷ []) (standing_in at_rest new.card)
    (prepared_in at_rest settled new.card) new.stage in
    record {
      led = on_ok c.take.result
          (λ led first hs bytes lent. c.the_line_leads_on_after_lending.ensures.line first
          (standing_in at_rest old.card) (standing_in at_rest new.card) hs
          (Passed (Terminal, c.args.byte)) (prepared_in at_rest settled old.card)
          (prepared_in at_rest settled new.card) old.stage new.stage bytes led lent)
          (within Was Is c.take.result c.take.ensures.led);
    }
