-- The bounds of an exchange, and its one status.
use Rattle.std.proofs.Common.{◌≡◌, ℕ, ◌≤◌, ◌+◌, ◌*◌, length, Bool, true, false, arith}
use Rattle.apdu_core.specs.StatusWord.{StatusWord}
use Rattle.t0_core.specs.declared.host_end.HostTurn.TheVariants.{Done}
use Rattle.exchange_core.specs.Attempts.{most_begun, one_more}
use Rattle.exchange_core.specs.ExchangeSide.{ExchangeOf, IsKept, IsBounded}

pub same_done : (a b : StatusWord) → Done a ≡ Done b → a ≡ b
same_done a b e = cc

begun_within : (fetches repeats : Bool) (before number bytes : ℕ) → before ≤ bytes
    → number ≤ most_begun fetches before + one_more repeats → number ≤ 2 * (bytes + 2)
begun_within false false before number bytes begun most = omega (arith, begun, most)
begun_within false true before number bytes begun most = omega (arith, begun, most)
begun_within true false before number bytes begun most = omega (arith, begun, most)
begun_within true true before number bytes begun most = omega (arith, begun, most)

-- the bounds of an exchange
pub bounded : (ex : ExchangeOf) → IsKept ex → IsBounded ex
bounded ex kept = record {
  room = kept.room;
  fits = kept.fits;
  tpdus = begun_within ex.attempt.fetches ex.attempt.repeats ex.attempt.before ex.attempt.number
      (length ex.gather.bytes) kept.counted.begun kept.counted.number;
}
