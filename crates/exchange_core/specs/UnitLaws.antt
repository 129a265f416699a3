-- Units one after another: one more of them, their dialogues and their data.
use Rattle.std.proofs.Common.{◌≡◌, ◌≢◌, ◌≤◌, ◌*◌, lit≤, ℕ, ◌+◌, List, [], ◌∷◌, ◌++◌, length, refl, sym, ◌∙◌, ap, arith, Option, Some, None, append-nil, append_assoc, length-append}
use Rattle.std.specs.List.{flat_map}
use Rattle.std.proofs.lemmas.Grind.{flat_map-append}
use Rattle.t0_core.specs.Dialogue.{Dialogue}
use Rattle.t0_core.specs.Meaning.{received}
use Rattle.t0_core.specs.DialogueLaws.{flat_map_last}
use Rattle.exchange_core.specs.declared.wanted.Wanted.{Wanted}
use Rattle.apdu_core.specs.CommandBytes.{Command}
use Rattle.exchange_core.specs.Gathered.{wanted_by, after_unit, Opening, By_command, By_fetch, UnitOf, Single, Repeated, dialogues_of, unit_data, AreFollowed, IsOpenExchange, tpdus}
use Rattle.exchange_core.specs.ExchangeSide.{begun_with, so_far, ended_with}

-- the dialogues that have ended, and one more
ended_dialogues : (first : Option Dialogue) (d : Dialogue)
    → dialogues_of (ended_with first d) ≡ begun_with first ++ d ∷ []
ended_dialogues None d = refl
ended_dialogues (Some e) d = refl

pub unit_dialogues : (units : List UnitOf) (first : Option Dialogue) (d : Dialogue)
    → flat_map dialogues_of (units ++ ended_with first d ∷ []) ≡ so_far units first ++ d ∷ []
unit_dialogues units first d =
    flat_map_last dialogues_of units (ended_with first d)
    ∙ ap (λ ds. flat_map dialogues_of units ++ ds) (ended_dialogues first d)
    ∙ sym (append_assoc (flat_map dialogues_of units) (begun_with first) (d ∷ []))

pub unit_ends : (units : List UnitOf) (first : Option Dialogue) (d : Dialogue)
    → so_far (units ++ ended_with first d ∷ []) None ≡ so_far units first ++ d ∷ []
unit_ends units first d = append-nil (flat_map dialogues_of (units ++ ended_with first d ∷ []))
    ∙ unit_dialogues units first d

pub unit_goes_on : (units : List UnitOf) (d : Dialogue)
    → so_far units (Some d) ≡ so_far units None ++ d ∷ []
unit_goes_on units d = ap (λ ds. ds ++ d ∷ []) (sym (append-nil (flat_map dialogues_of units)))

-- the data of the units are those of their dialogues
pub unit_data_received : (units : List UnitOf)
    → flat_map unit_data units ≡ flat_map received (flat_map dialogues_of units)
unit_data_received [] = refl
unit_data_received (u ∷ units) =
    ap (λ ds. unit_data u ++ ds) (unit_data_received units)
    ∙ sym (flat_map-append received (dialogues_of u) (flat_map dialogues_of units))

-- the gathered data: those of the units, and those of the current unit
pub gathered_parts : (units : List UnitOf) (first : Option Dialogue) (bytes : List ℕ)
    → flat_map received (so_far units first) ++ bytes
    ≡ flat_map unit_data units ++ (flat_map received (begun_with first) ++ bytes)
gathered_parts units first bytes =
    ap (λ ds. ds ++ bytes) (flat_map-append received (flat_map dialogues_of units)
    (begun_with first))
    ∙ append_assoc (flat_map received (flat_map dialogues_of units))
    (flat_map received (begun_with first)) bytes
    ∙ ap (λ ds. ds ++ (flat_map received (begun_with first) ++ bytes))
    (sym (unit_data_received units))

-- each unit has at most two dialogues, and each but the first and the last brings a byte
two_at_most : (u : UnitOf) → length (dialogues_of u) ≤ 2
two_at_most (Single d) = lit≤ tt
two_at_most (Repeated d e) = lit≤ tt

some_bytes : (bytes : List ℕ) → bytes ≢ [] → 1 ≤ length bytes
some_bytes [] some = absurd (some refl)
some_bytes (b ∷ bytes) some = omega arith

more_tpdus : (u : UnitOf) (units : List UnitOf)
    → length (flat_map dialogues_of (u ∷ units))
    ≡ length (dialogues_of u) + length (flat_map dialogues_of units)
more_tpdus u units = length-append (dialogues_of u) (flat_map dialogues_of units)

more_data : (u : UnitOf) (units : List UnitOf)
    → length (flat_map unit_data (u ∷ units))
    ≡ length (unit_data u) + length (flat_map unit_data units)
more_data u units = length-append (unit_data u) (flat_map unit_data units)

fetched_few : (n : ℕ) (w : Wanted) (units : List UnitOf) (next : Opening) (left : Wanted)
    → AreFollowed (By_fetch n) w units next left
    → length (flat_map dialogues_of units) ≤ 2 * length (flat_map unit_data units)
fetched_few n w [] next left followed = lit≤ tt
fetched_few n w (u ∷ units) next left followed =
    omega (
      arith,
      more_tpdus u units,
      more_data u units,
      two_at_most u,
      some_bytes (unit_data u) followed.1.brings,
      fetched_few followed.0 (after_unit w u) units next left followed.2,
    )

followed_few : (c : Command) (w : Wanted) (units : List UnitOf) (next : Opening) (left : Wanted)
    → AreFollowed (By_command c) w units next left
    → length (flat_map dialogues_of units) ≤ 2 * (length (flat_map unit_data units) + 1)
followed_few c w [] next left followed = lit≤ tt
followed_few c w (u ∷ units) next left followed =
    omega (
      arith,
      more_tpdus u units,
      more_data u units,
      two_at_most u,
      fetched_few followed.0 (after_unit w u) units next left followed.2,
    )

pub few_tpdus : (c : Command) (units : List UnitOf) → IsOpenExchange c units
    → tpdus units ≤ 2 * (length (flat_map unit_data units) + 2)
few_tpdus c units is =
    omega (
      arith,
      ap tpdus is.units_are,
      ap (λ us. length (flat_map unit_data us)) is.units_are,
      ap length (flat_map_last dialogues_of is.before is.last),
      ap length (flat_map_last unit_data is.before is.last),
      length-append (flat_map dialogues_of is.before) (dialogues_of is.last),
      length-append (flat_map unit_data is.before) (unit_data is.last),
      two_at_most is.last,
      followed_few c (wanted_by c.le) is.before is.opening is.left is.followed,
    )

-- a count is not both there and missing
pub none_or_some : (found : Option ℕ) (n : ℕ) → found ≡ None → found ≡ Some n → ⊥
none_or_some None n none some = absurd (cc)
none_or_some (Some m) n none some = absurd (cc)
