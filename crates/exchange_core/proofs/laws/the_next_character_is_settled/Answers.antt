use Rattle.std.proofs.Common.{◌∷◌, inr}
use Rattle.exchange_core.specs.CuttingLaws.{at_character, comes, is_whole, not_failed}
use Rattle.exchange_core.proofs.laws.the_next_character_is_settled.Goals as goal

pub returns : goal.returns
returns c = record {
  next = λ command came ex units gathered status ch rest valid small leads gathers are fits e.
      at_character (comes (is_whole small gathers are) came ex (ch ∷ rest) leads (inr fits) e)
      fits;
  going = λ command came ex units gathered status rest valid small leads gathers are fits e.
      not_failed (comes (is_whole small gathers are) came ex rest leads (inr fits) e) fits;
}
