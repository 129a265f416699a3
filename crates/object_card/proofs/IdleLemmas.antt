-- The fields show whether a card is idle.
use Rattle.std.proofs.Common.{◌≡◌, ◌∙◌, ℕ, ◌≤◌, List, length, Option, Some, None, Bool, true, false, refl, sym, ap, arith}
use Rattle.std.specs.Prelude.{IsSome, is_some, is_none, not, ◌||◌}
use Rattle.apdu_core.specs.declared.header.Header.{Header}
use Rattle.apdu_core.specs.Chaining.{ChainState}
use Rattle.apdu_core.specs.declared.shared.TheConstants.{RESPONSE_LIMIT}
use Rattle.object_card.specs.declared.response.Response.{Response}
use Rattle.object_card.specs.declared.ready.Ready.{Ready}
use Rattle.object_card.specs.declared.ready.Ready.TheVariants as ready
use Rattle.object_card.specs.Tables.{Entry}
use Rattle.object_card.specs.State.{Pending, NothingPending, ChainPending, ResponsePending, IsPending, is_idle, waiting}
use Rattle.object_card.specs.CardFields.{chain_pending, pending_in}
use Rattle.object_card.specs.CardView.{chain_before, standing_chain, stands_idle}

of_chain : (pending : Option Header) (bytes : List ℕ) → is_idle (chain_pending pending bytes)
    ≡ not (is_some pending)
of_chain None bytes = refl
of_chain (Some h) bytes = refl

of_pending : (entries : List Entry) (chain : ChainState) (response : Option Response)
    → (IsSome response → chain.pending ≡ None)
    → is_idle (pending_in entries chain response) ≡ not (is_some chain.pending)
of_pending entries chain None alone = of_chain chain.pending chain.bytes
of_pending entries chain (Some r) alone = sym (ap (λ p. not (is_some p)) (alone refl))

joined : (chain : ChainState) (before : Option ℕ)
    → not (is_some (chain_before chain before).pending)
    ≡ (is_none before || not (is_some chain.pending))
joined chain None = refl
joined chain (Some len) = refl

-- a card is idle if no chain is in effect
pub idle_seen : (entries : List Entry) (chain : ChainState) (response : Option Response) (r : Ready)
    → (IsSome response → (standing_chain chain r).pending ≡ None)
    → stands_idle r (is_some chain.pending) ≡ is_idle
    (pending_in entries (standing_chain chain r) response)
idle_seen entries chain response (ready.Joins before) alone =
    sym (joined chain before) ∙ sym (of_pending entries (chain_before chain before) response alone)
idle_seen entries chain response _ alone = sym (of_pending entries chain response alone)

-- what waits in a sound state fits into what a terminal gathers
pub few_wait : (selected : Option (List ℕ)) (pending : Pending) → IsPending selected pending
    → length (waiting pending) ≤ RESPONSE_LIMIT
few_wait selected NothingPending is = omega arith
few_wait selected (ChainPending p1 p2 bytes) is = omega arith
few_wait selected (ResponsePending left) is = omega (arith, is.1)

pub same_test : (b : Bool) (o : Option Header) → (b ≡ true → IsSome o) → (IsSome o → b ≡ true) → b
    ≡ is_some o
same_test true None there back = absurd (let e = there refl in cc)
same_test true (Some h) there back = refl
same_test false None there back = refl
same_test false (Some h) there back = absurd (let e : false ≡ true = back refl in cc)
