-- What the calls on a card of an own application at T=1 leave.
use Rattle.std.proofs.Common.{◌≡◌, refl, sym, ap, subst, ℕ, List, [], Option, Some, None}
use Rattle.t1_core.specs.declared.card.Reply.{Reply}
use Rattle.t1_core.specs.declared.pcb.BlockReason.{BlockReason}
use Rattle.t1_core.specs.Patience.{Misses, PatientOf}
use Rattle.command_card.specs.declared.given_applet.GivenApplet.{GivenApplet}
use Rattle.card_c.specs.declared.own_side.OwnT1Side.{OwnT1Side}

pub no_reply : (o : Option Reply) → ((r : Reply) → o ≡ Some r → ⊥) → o ≡ None
no_reply None never = refl
no_reply (Some r) never = absurd (never r refl)

-- what one branch of the call that reports a missed block leaves
pub missed : (why told : BlockReason) (mid joined : OwnT1Side) (answer result : Reply)
    (end : PatientOf GivenApplet) → joined ≡ record mid { end = end } → answer ≡ result
    → why ≡ told → Misses told mid.end result end
    → (joined ≡ record mid { end = joined.end }) × Misses why mid.end answer joined.end
missed why told mid joined answer result end at_is answer_is why_is misses =
    subst (λ (j : OwnT1Side). (j ≡ record mid { end = j.end }) × Misses why mid.end answer j.end)
    (sym at_is) (
      refl,
      subst (λ r. Misses why mid.end r end) (sym answer_is)
          (subst (λ w. Misses w mid.end result end) (sym why_is) misses),
    )

pub replied : (mid joined : OwnT1Side) (answer : Reply) (block : List ℕ)
    → joined ≡ record mid { end = joined.end } → block ≡ []
    → record joined { block = block; reply = Some answer }
    ≡ record mid { end = joined.end; block = []; reply = Some answer }
replied mid joined answer block joined_is empty =
    subst (λ (b : List ℕ). record joined { block = b; reply = Some answer }
    ≡ record mid { end = joined.end; block = []; reply = Some answer }) (sym empty)
    (ap (λ (j : OwnT1Side). record j { block = []; reply = Some answer }) joined_is)
