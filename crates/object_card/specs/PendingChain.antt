-- When a piece can be removed from the chain again.
use Rattle.std.specs.Prelude.{◌≤◌, length, IfSome}
use Rattle.apdu_core.specs.Chaining.{ChainState}
use Rattle.object_card.specs.declared.ready.Ready.{Ready}
use Rattle.object_card.specs.declared.ready.Ready.TheVariants as ready

-- a piece that joined the chain was appended to it
abbrev pub CanBeGivenUp : ChainState → Ready → Type 0
CanBeGivenUp chain (ready.Joins before) = IfSome before (λ len. len ≤ length chain.bytes)
CanBeGivenUp _ _ = Unit {0}
