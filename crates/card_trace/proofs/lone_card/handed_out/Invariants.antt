use Rattle.std.proofs.Common.{◌≤◌, length, IfSome}
use Rattle.t0_core.specs.declared.end.End.TheVariants.{Card}
use Rattle.t0_core.specs.Character.{sent_by}
use Rattle.card_trace.specs.CardPlaying.{LeadOn, may_hand_out}
use Rattle.card_trace.proofs.lone_card.handed_out.Given as goal

-- the characters so far lead to the end as it is now, and are no more than asked for
abbrev pub invariant-turns : goal.invariant-turns
invariant-turns g l = record {
  led : LeadOn (l.initial.end, l.initial.plans) (sent_by Card l.characters.items) (l.end, l.plans);
  within : IfSome l.most (λ most. length l.characters.items ≤ most);
}

abbrev pub decreases-turns : goal.decreases-turns
decreases-turns g l = may_hand_out l.end.stage l.plans
