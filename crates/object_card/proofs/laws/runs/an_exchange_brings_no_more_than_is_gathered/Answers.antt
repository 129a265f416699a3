use Rattle.std.proofs.Common.{ℕ, ◌+◌, ◌≤◌, List, [], ◌∷◌, length, arith, length-append}
use Rattle.std.specs.List.{flat_map}
use Rattle.t0_core.specs.Meaning.{Tpdu}
use Rattle.object_card.specs.declared.limits.TheConstants.{VALUE_LIMIT, HEAD_LIMIT}
use Rattle.object_card.specs.State.{CardState, IsCardState, waiting}
use Rattle.object_card.specs.CardMeaning.{Does}
use Rattle.object_card.specs.CarryingOut.{AreFetches}
use Rattle.object_card.specs.ResponseLaws.{brings_within, corrected_brings_none, fetch_brings_what_waits}
use Rattle.object_card.proofs.laws.runs.an_exchange_brings_no_more_than_is_gathered.Goals as goal

fetches_bring_what_waits : (old new : CardState) (fetches : List Tpdu) → AreFetches old fetches new
    → length (flat_map (λ t. t.received) fetches) ≤ length (waiting old.pending)
fetches_bring_what_waits old new [] are = omega arith
fetches_bring_what_waits old new (t ∷ fetches) (cut, mid, is, does, others) =
    omega (
      arith,
      fetch_brings_what_waits old mid cut t does is,
      fetches_bring_what_waits mid new fetches others,
      length-append t.received (flat_map (λ t. t.received) fetches),
    )

-- A TPDU and its fetches bring no more than a value with its tag and length.
exchange_brings_within : (old mid new : CardState) (cut : ℕ) (t : Tpdu) (fetches : List Tpdu)
    → IsCardState old → Does old cut t mid → AreFetches mid fetches new
    → length (flat_map (λ t. t.received) (t ∷ fetches)) ≤ VALUE_LIMIT + HEAD_LIMIT
exchange_brings_within old mid new cut t fetches is does are =
    omega (
      arith,
      brings_within old mid cut t does is,
      fetches_bring_what_waits mid new fetches are,
      length-append t.received (flat_map (λ t. t.received) fetches),
    )

pub returns-clause-first : goal.returns-clause-first
returns-clause-first c = brings_within

pub returns-clause-corrected : goal.returns-clause-corrected
returns-clause-corrected c = corrected_brings_none

pub returns-clause-fetch : goal.returns-clause-fetch
returns-clause-fetch c = fetch_brings_what_waits

pub returns-clause-whole : goal.returns-clause-whole
returns-clause-whole c = exchange_brings_within
