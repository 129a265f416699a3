use Rattle.std.proofs.Common.{◌≡◌, drop}
use Rattle.atr_core.specs.Values.{ta_of_15}
use Rattle.atr_core.proofs.interface.ta_of_15.Given as goal

-- no group so far has a TA for T=15
abbrev pub invariant-loop-named : goal.invariant-loop-named
invariant-loop-named l = ta_of_15 (drop l.named-index l.others) ≡ ta_of_15 l.others
