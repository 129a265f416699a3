-- Which TPDU follows one of an exchange, by the place of that one (`Attempt`) and its status.
use Rattle.std.specs.Prelude.{◌≡◌, ℕ, ◌+◌, ◌*◌, ◌≤◌, Option, Some, None, Bool, true, false, not, ◌&&◌, ◌==◌, if◌then◌else◌}
use Rattle.apdu_core.specs.HeaderBytes.{ins_is_valid}
use Rattle.apdu_core.specs.StatusWord.{StatusWord, corrects}
use Rattle.t0_core.specs.declared.data_sent.DataSent.{DataSent}
use Rattle.exchange_core.specs.declared.wanted.Wanted.{Wanted}
use Rattle.exchange_core.specs.declared.attempt.Attempt.{Attempt}
use Rattle.exchange_core.specs.declared.attempt.Next.{Next}
use Rattle.exchange_core.specs.declared.attempt.Next.TheVariants.{Asks, Stalls, Ends}
use Rattle.apdu_core.specs.Shared.{get_response}
use Rattle.exchange_core.specs.Gathered.{wants_at_least, fetched_after}

-- the same place, where the TPDUs up to its own have sent this
abbrev pub with_sent : Attempt → DataSent → Attempt
with_sent a sent = record a { sent = sent }

abbrev pub repetition : Attempt → Attempt
repetition a = record {
  header = a.header;
  asks = a.asks;
  fetches = a.fetches;
  repeats =
      true;
  before = a.before;
  number = a.number + 1;
  sent = a.sent;
}

abbrev pub fetch : Attempt → ℕ → Attempt
fetch a gathered = record {
  header = get_response;
  asks = true;
  fetches = true;
  repeats = false;
  before =
      gathered;
  number = a.number + 1;
  sent = a.sent;
}

-- The count to repeat a TPDU with: if it asked for data and repeats none, the count of 6CXX, unless
-- that exceeds what is still wanted.
abbrev pub again_with : Attempt → Wanted → Option ℕ → Option ℕ
again_with a left None = None
again_with a left (Some n) =
    if a.asks && not a.repeats && wants_at_least n left then Some n else None

-- no fetch follows one that brought nothing
abbrev pub fetches_next : Attempt → ℕ → Option ℕ → Next
fetches_next a gathered None = Ends
fetches_next a gathered (Some n) = if a.fetches && gathered ==
    a.before then Stalls else Asks (fetch a gathered) n

abbrev pub next_by : Attempt → ℕ → Option ℕ → Option ℕ → Next
next_by a gathered (Some n) fetched = Asks (repetition a) n
next_by a gathered None fetched = fetches_next a gathered fetched

abbrev pub following : Attempt → ℕ → Wanted → StatusWord → Next
following a gathered left status = next_by a gathered (again_with a left (corrects status))
    (fetched_after left status)

-- the most TPDUs of an exchange: each fetch except the first follows one that brought a byte, and
-- each may be repeated once
abbrev pub most_begun : Bool → ℕ → ℕ
most_begun false before = 1
most_begun true before = 2 * before + 3

abbrev pub one_more : Bool → ℕ
one_more false = 0
one_more true = 1

pub record IsCounted (a : Attempt) (gathered : ℕ) : Type 0 where
  pub valid : ins_is_valid a.header.ins ≡ true
  pub begun : a.before ≤ gathered
  pub number : a.number ≤ most_begun a.fetches a.before + one_more a.repeats

-- the next TPDU is counted, and asks for 1 to 256 bytes
abbrev pub IsNext : Next → ℕ → Type 0
IsNext (Asks attempt count) gathered = IsCounted attempt gathered × (1 ≤ count) × (count ≤ 256)
IsNext Stalls gathered = Unit {0}
IsNext Ends gathered = Unit {0}
