use Rattle.std.proofs.Common.{rules, ap, sym, ◌∙◌, length, arith, length-append, ℕ, ◌+◌, ◌*◌, ◌≤◌, Bool, true, false}
use Rattle.t0_core.specs.Room.{Room}
use Rattle.exchange_core.specs.declared.attempt.Next.TheVariants as next
use Rattle.exchange_core.specs.Attempts.{most_begun, one_more}
use Rattle.apdu_terminal.proofs.LedLemmas.{seen_led}
use Rattle.apdu_terminal.proofs.CardLemmas.{seen_falls}
use Rattle.apdu_terminal.proofs.exchange.ApduExchange.responded.Goals as goal

-- a counted exchange has few commands, also after more bytes
few_counted : (fetches repeats : Bool) (before number bytes more : ℕ) → before ≤ bytes
    → number ≤ most_begun fetches before + one_more repeats → bytes ≤ more
    → number ≤ 2 * (more + 2)
few_counted false false before number bytes more begun most grown =
    omega (arith, begun, most, grown)
few_counted false true before number bytes more begun most grown =
    omega (arith, begun, most, grown)
few_counted true false before number bytes more begun most grown =
    omega (arith, begun, most, grown)
few_counted true true before number bytes more begun most grown = omega (arith, begun, most, grown)

pub returns-in-Asks-clause-responding : goal.returns-in-Asks-clause-responding
returns-in-Asks-clause-responding g c = record {
  fault = search rules;
  few = search rules;
  limit = search rules;
  unchanged = tt;
  failed = tt;
  falls = seen_falls _ _ c.args.bytes.now c.args.status c.extend.new.self _ _ c.in-Asks.attempt
      c.in-Asks.count c.self.view_is c.self.invariant (sym c.fault.ensures ∙ c.in_default.is)
      c.extend.ensures c.in-Asks.ensures.value;
  led = λ command wanted pairs led.
      seen_led command wanted pairs _ _ c.args.bytes.now c.args.status c.extend.new.self _ _
      (next.Asks c.in-Asks.attempt c.in-Asks.count) c.self.view_is
      (sym c.fault.ensures ∙ c.in_default.is) c.extend.ensures
      (ap length c.bytes-gathered.ensures.value) c.less-left.ensures c.in-Asks.ensures.value led;
}

pub returns-in-Ends-clause-responding : goal.returns-in-Ends-clause-responding
returns-in-Ends-clause-responding g c = record {
  fault = search rules;
  few = few_counted c.self.inside.mark.attempt.fetches c.self.inside.mark.attempt.repeats _ _ _ _
      c.self.invariant.counted.begun c.self.invariant.counted.number
      (omega (arith, ap (λ (r : Room). length r.bytes) c.extend.ensures, length-append {A = ℕ}));
  limit = search rules;
  unchanged = tt;
  failed = tt;
  falls = search rules;
  led = λ command wanted pairs led.
      seen_led command wanted pairs _ _ c.args.bytes.now c.args.status c.extend.new.self _ _
      next.Ends c.self.view_is (sym c.fault.ensures ∙ c.in_default.is)
      c.extend.ensures (ap length c.bytes-gathered.ensures.value) c.less-left.ensures
      c.in-Ends.ensures.value led;
}

pub returns-in-Stalls-clause-responding : goal.returns-in-Stalls-clause-responding
returns-in-Stalls-clause-responding g c = record {
  fault = search rules;
  few = search rules;
  limit = search rules;
  unchanged = search rules;
  failed = search rules;
  falls = tt;
  led = λ command wanted pairs led final.
      seen_led command wanted pairs _ _ c.args.bytes.now c.args.status c.extend.new.self _ _
      next.Stalls c.self.view_is (sym c.fault.ensures ∙ c.in_default.is)
      c.extend.ensures (ap length c.bytes-gathered.ensures.value) c.less-left.ensures
      c.in-Stalls.ensures.value led;
}
