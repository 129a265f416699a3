-- The parts of a worked row of an exchange.
use Rattle.std.proofs.Common.{◌≡◌, ◌<◌, ℕ, List, [], ◌∷◌, ◌++◌, length, refl, Some, None}
use Rattle.std.specs.List.{flat_map}
use Rattle.apdu_core.specs.declared.header.Header.{Header}
use Rattle.apdu_core.specs.StatusWord.{StatusWord, count}
use Rattle.apdu_core.specs.CommandBytes.{Command}
use Rattle.t0_core.specs.declared.direction.Direction.{Direction}
use Rattle.t0_core.specs.declared.direction.Direction.TheVariants.{ToCard, FromCard}
use Rattle.t0_core.specs.declared.plan.Step.{Step}
use Rattle.t0_core.specs.Dialogue.{Dialogue}
use Rattle.apdu_core.specs.Shared.{get_response}
use Rattle.exchange_core.specs.Gathered.{Asks, SendsFrom, Opens, wanted_by, after_unit, fetched_after, By_command, By_fetch, UnitOf, first_of, last_of, unit_data, IsUnit, IsOpenExchange, Gathers}

pub asks : {h : Header} {n : ℕ} {d : Dialogue} → d.body.header ≡ h → d.body.direction ≡ FromCard
    → count d.body.p3 ≡ n → d.body.p3 < 256 → Asks h n d
asks header from counts byte =
    record { header_is = header; from_card = from; counts = counts; is_byte = byte }

-- it sends all of its data
pub sends : {h : Header} {content : List ℕ} {d : Dialogue} → d.body.header ≡ h
    → d.body.direction ≡ ToCard → d.body.p3 ≡ length content → content ≡ d.body.moved ++ []
    → SendsFrom h content d
sends header to counts all =
    record { header_is = header; to_card = to; counts = counts; sends = ([], all) }

-- an exchange of one unit
abbrev pub of_one : (c : Command) (u : UnitOf) → Opens c (first_of u) → IsUnit (wanted_by c.le) u
    → IsOpenExchange c (u ∷ [])
of_one c u opens is_unit = record {
  before = [];
  last = u;
  opening = By_command c;
  left = wanted_by c.le;
  units_are = refl;
  followed = (refl, refl);
  opens = opens;
  is_unit = is_unit;
}

-- an exchange of two, in which the second fetches `n` bytes
abbrev pub of_two : (c : Command) (u v : UnitOf) (n : ℕ) → Opens c (first_of u)
    → IsUnit (wanted_by c.le) u
    → fetched_after (after_unit (wanted_by c.le) u) (last_of u).status ≡ Some n
    → Asks get_response n (first_of v) → IsUnit (after_unit (wanted_by c.le) u) v
    → IsOpenExchange c (u ∷ v ∷ [])
of_two c u v n opens is_unit fetched asks second = record {
  before = u ∷ [];
  last = v;
  opening = By_fetch n;
  left = after_unit (wanted_by c.le) u;
  units_are = refl;
  followed = (
    n,
    record { opens = opens; is_unit = is_unit; brings = tt; fetched = fetched },
    (refl, refl),
  );
  opens = asks;
  is_unit = second;
}

pub whole : {c : Command} {units : List UnitOf} (o : IsOpenExchange c units)
    → fetched_after (after_unit o.left o.last) (last_of o.last).status ≡ None
    → Gathers c units (flat_map unit_data units) (last_of o.last).status
whole o ends = record { is_open = o; ends = ends; status_is = refl; gathered_is = refl }

abbrev pub dialogue : Header → ℕ → Direction → List Step → List ℕ → StatusWord → Dialogue
dialogue h p3 direction segments moved status = record {
  body = record { header = h; p3 = p3; direction = direction; segments = segments; moved = moved };
  status = status;
}
