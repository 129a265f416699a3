use Rattle.std.proofs.Common.{rules, ◌≡◌, ℕ, List, ◌-◌, length, drop, replicate, subst, sym, ◌∙◌}
use Rattle.apdu_core.proofs.ChainLemmas.{has_taken}
use Rattle.apdu_core.proofs.chain.Chain.add.Goals as goal

pub invariant_of-self : goal.invariant_of-self
invariant_of-self g c =
    let P : List ℕ → Type 0 =
    λ room. drop c.self.inside.len room ≡ replicate (length room - c.self.inside.len) 0 in
    let zeros = subst P (sym c.deref_mut.ensures.value) c.self.invariant.2 in
    has_taken c.deref_mut.result.now c.lay.new.room _ c.self.inside.len
    (length c.args.content.now) c.self.inside.room.len c.as_last.result
    (sym (c.lay.ensures.len ∙ c.deref_mut.ensures.len)) c.lay.ensures.len c.lay.ensures.rest zeros
    (search (rules, c.if-content-len.false))
