-- An exchange with a card of data objects brings at most a value and its head, and each fetch
-- brings some data.
use Rattle.std.proofs.Common.{◌≡◌, ℕ, ◌+◌, ◌≤◌, List, [], ◌∷◌, ◌++◌, length, drop, Option, Some, None, Bool, true, false, refl, sym, ap, subst, ◌∙◌, arith, append-nil, length-append, length-take}
use Rattle.std.specs.Prelude.{IfSome, if◌then◌else◌}
use Rattle.std.specs.List.{flat_map}
use Rattle.apdu_core.specs.StatusWord.{StatusWord, count, announces, corrects}
use Rattle.apdu_core.specs.CommandBytes.{Command}
use Rattle.t0_core.specs.declared.direction.Direction.{Direction}
use Rattle.t0_core.specs.declared.direction.Direction.TheVariants.{ToCard, FromCard}
use Rattle.t0_core.specs.Dialogue.{Dialogue}
use Rattle.t0_core.specs.Meaning.{tpdu_of, received}
use Rattle.object_card.specs.OperationLaws.{no_correction}
use Rattle.object_card.specs.declared.limits.TheConstants.{VALUE_LIMIT, HEAD_LIMIT}
use Rattle.object_card.specs.State.{CardState, IsCardState, waiting}
use Rattle.object_card.specs.StateLaws.{stays_sound}
use Rattle.object_card.specs.ResponseLaws.{brings_within, corrected_brings_none, fetch_brings_what_waits, what_is_announced_waits, fetched, count_is_some}
use Rattle.exchange_core.specs.declared.wanted.Wanted.{Wanted}
use Rattle.exchange_core.specs.declared.wanted.Wanted.TheVariants.{Bytes, Everything}
use Rattle.exchange_core.specs.Gathered.{UnitOf, Single, Repeated, Opening, By_command, By_fetch, OpensWith, first_of, last_of, dialogues_of, unit_data, after_unit, after_dialogue, smaller, wants_some, fetched_of, fetched_after, repeated_with, correction_of, IsUnit, AreFollowed, IsOpenExchange, wanted_by}
use Rattle.exchange_core.specs.ExchangeSide.{Stall, so_far, begun_with}
use Rattle.exchange_core.specs.UnitLaws.{gathered_parts}
use Rattle.t0_core.specs.DialogueLaws.{flat_map_last}
use Rattle.card_terminal.proofs.FetchLemmas.{Goes, goes_apart, goes_sound}

-- a dialogue that is repeated has a status 6CXX
repeated_is_corrected : (w : Wanted) (d : Dialogue) (n : ℕ) → repeated_with w d ≡ Some n
    → (k : ℕ) × (corrects d.status ≡ Some k)
repeated_is_corrected w d n is = by d.body.direction (corrects d.status) refl is
  where
    by : (v : Direction) (c : Option ℕ) → corrects d.status ≡ c
        → correction_of v (after_dialogue w d) c ≡ Some n → (k : ℕ) × (corrects d.status ≡ Some k)
    by ToCard c told is = absurd (cc)
    by FromCard None told is = absurd (cc)
    by FromCard (Some k) told is = (k, told)

-- the most that a unit brings
abbrev pub bound : Opening → CardState → ℕ
bound (By_command c) s = VALUE_LIMIT + HEAD_LIMIT
bound (By_fetch n) s = length (waiting s.pending)

unit_brings : (opening : Opening) (w : Wanted) (u : UnitOf) (s t : CardState) → IsCardState s
    → OpensWith opening (first_of u) → IsUnit w u → Goes s (dialogues_of u) t
    → length (unit_data u) + length (waiting t.pending) ≤ bound opening s
unit_brings (By_command c) w (Single d) s t sound opens is_unit (cut, mid, is_cut, does, is) =
    omega (
      arith,
      brings_within s mid cut (tpdu_of d) does sound,
      ap (λ x. length (waiting x.pending)) is,
      length-append (received d) [],
    )
unit_brings (By_command c) w (Repeated d e) s t sound opens is_unit
    (cut, mid, is_cut, does, (cut2, last, is_cut2, does2, is)) =
    let (k, told) = repeated_is_corrected w d is_unit.0 is_unit.1 in
    let none : received d ≡ [] = corrected_brings_none s mid cut k (tpdu_of d) does told in
    omega (
      arith,
      ap length none,
      brings_within mid last cut2 (tpdu_of e) does2 (stays_sound s mid cut (tpdu_of d) does sound),
      ap (λ x. length (waiting x.pending)) is,
      length-append (received d) (received e ++ []),
      length-append (received e) [],
    )
unit_brings (By_fetch n) w (Single d) s t sound opens is_unit (cut, mid, is_cut, does, is) =
    omega (
      arith,
      fetch_brings_what_waits s mid cut (tpdu_of d) does opens.header_is,
      ap (λ x. length (waiting x.pending)) is,
      length-append (received d) [],
    )
unit_brings (By_fetch n) w (Repeated d e) s t sound opens is_unit
    (cut, mid, is_cut, does, (cut2, last, is_cut2, does2, is)) =
    omega (
      arith,
      fetch_brings_what_waits s mid cut (tpdu_of d) does opens.header_is,
      fetch_brings_what_waits mid last cut2 (tpdu_of e) does2
          (is_unit.2.header_is ∙ opens.header_is),
      ap (λ x. length (waiting x.pending)) is,
      length-append (received d) (received e ++ []),
      length-append (received e) [],
    )

-- The data of units that follow one another, and those that then wait, are within the bound.
pub followed_bring : (opening : Opening) (w : Wanted) (units : List UnitOf) (next : Opening)
    (left : Wanted) (s t : CardState) → IsCardState s
    → AreFollowed opening w units next left → Goes s (flat_map dialogues_of units) t
    → length (flat_map unit_data units) + bound next t ≤ bound opening s
followed_bring opening w [] next left s t sound followed goes =
    let same : bound next t ≡ bound opening s = ap (λ o. bound o t) followed.0
    ∙ ap (λ x. bound opening x) goes in omega (arith, same)
followed_bring opening w (u ∷ units) next left s t sound (n, is, followed) goes =
    let (mid, first, others) = goes_apart s t (dialogues_of u) (flat_map dialogues_of units) goes in
    let more = followed_bring (By_fetch n) (after_unit w u) units next left mid t
    (goes_sound s mid (dialogues_of u) sound first) followed others in
    omega (
      arith,
      more,
      unit_brings opening w u s mid sound is.opens is.is_unit first,
      length-append (unit_data u) (flat_map unit_data units),
    )

-- the last unit of an exchange, and those before it
last_apart : (c : Command) (units : List UnitOf) (o : IsOpenExchange c units) (s t : CardState)
    → Goes s (flat_map dialogues_of units) t
    → (mid : CardState) × Goes s (flat_map dialogues_of o.before) mid
    × Goes mid (dialogues_of o.last) t
last_apart c units o s t goes =
    goes_apart s t (flat_map dialogues_of o.before) (dialogues_of o.last)
    (rw (o.units_are, flat_map_last dialogues_of o.before o.last) at goes)

-- The same holds for the units of an exchange, whole or not.
pub open_exchange_brings : (c : Command) (units : List UnitOf) (s t : CardState) → IsCardState s
    → IsOpenExchange c units → Goes s (flat_map dialogues_of units) t
    → length (flat_map unit_data units) + length (waiting t.pending) ≤ VALUE_LIMIT + HEAD_LIMIT
open_exchange_brings c units s t sound is_open goes =
    let (mid, first, last) = last_apart c units is_open s t goes in
    let before = followed_bring (By_command c) (wanted_by c.le) is_open.before is_open.opening
    is_open.left s mid sound is_open.followed first in
    let after = unit_brings is_open.opening is_open.left is_open.last mid t
    (goes_sound s mid (flat_map dialogues_of is_open.before) sound first) is_open.opens
    is_open.is_unit last in
    let parts : flat_map unit_data units ≡ flat_map unit_data is_open.before
    ++ unit_data is_open.last =
    ap (λ us. flat_map unit_data us) is_open.units_are
    ∙ flat_map_last unit_data is_open.before is_open.last in
    omega (
      arith,
      before,
      after,
      ap length parts,
      length-append (flat_map unit_data is_open.before)
          (unit_data is_open.last),
    )

-- The same holds for the dialogues of an exchange that have ended, even inside a unit.
pub so_far_brings : (c : Command) (units : List UnitOf) (opening : Opening) (left : Wanted)
    (first : Option Dialogue) (s t : CardState) → IsCardState s
    → AreFollowed (By_command c) (wanted_by c.le) units opening left
    → IfSome first (λ d. (n : ℕ) × (repeated_with left d ≡ Some n))
    → Goes s (so_far units first) t → length (flat_map received (so_far units first)) ≤ VALUE_LIMIT
    + HEAD_LIMIT
so_far_brings c units opening left first s t sound followed repeats goes =
    let (mid, before, last) =
    goes_apart s t (flat_map dialogues_of units) (begun_with first) goes in
    let none : flat_map received (begun_with first) ≡ [] = by first mid repeats last in
    let within = followed_bring (By_command c) (wanted_by c.le) units opening left s mid sound
    followed before in
    let parts : flat_map received (so_far units first) ++ [] ≡ flat_map unit_data units
    ++ (flat_map received (begun_with first) ++ []) = gathered_parts units first [] in
    omega (
      arith,
      within,
      ap length parts,
      ap length none,
      length-append (flat_map received (so_far units first)) [],
      length-append (flat_map unit_data units) (flat_map received (begun_with first) ++ []),
      length-append (flat_map received (begun_with first)) [],
    )
  where
    by : (first : Option Dialogue) (mid : CardState)
        → IfSome first (λ d. (n : ℕ) × (repeated_with left d ≡ Some n))
        → Goes mid (begun_with first) t
        → flat_map received (begun_with first) ≡ []
    by None mid repeats goes = refl
    by (Some d) mid (n, is) (cut, next, is_cut, does, last) =
        let (k, told) = repeated_is_corrected left d n is in
        append-nil (received d) ∙ corrected_brings_none mid next cut k (tpdu_of d) does told

-- A fetch asks for at most the bytes that wait.
abbrev pub Waits : Opening → CardState → Type 0
Waits (By_command c) s = Unit {0}
Waits (By_fetch n) s = n ≤ length (waiting s.pending)

-- a fetch asks for at most the bytes that were announced
fetch_is_announced : (left : Wanted) (status : StatusWord) (n : ℕ)
    → fetched_after left status ≡ Some n → (m : ℕ) × (announces status ≡ Some m) × (n ≤ m)
fetch_is_announced left status n is = by (announces status) refl is
  where
    no_more : (left : Wanted) (m : ℕ) → smaller m left ≤ m
    no_more (Bytes k) m = omega arith
    no_more Everything m = omega arith

    some : (v : Bool) (m : ℕ) → (if v then Some (smaller m left) else None) ≡ Some n
        → smaller m left ≡ n
    some true m is = cc
    some false m is = absurd (cc)

    by : (v : Option ℕ) → announces status ≡ v → fetched_of left v ≡ Some n
        → (m : ℕ) × (announces status ≡ Some m) × (n ≤ m)
    by None told is = absurd (cc)
    by (Some m) told is = (m, told, omega (arith, some (wants_some left) m is, no_more left m))

last_announces : (u : UnitOf) (s t : CardState) (m : ℕ) → Goes s (dialogues_of u) t
    → announces (last_of u).status ≡ Some m → m ≤ length (waiting t.pending)
last_announces (Single d) s t m (cut, mid, is_cut, does, is) told =
    omega (
      arith,
      (what_is_announced_waits s mid cut m (tpdu_of d) does is_cut told).1,
      ap (λ x. length (waiting x.pending)) is,
    )
last_announces (Repeated d e) s t m (cut, mid, is_cut, does, (cut2, last, is_cut2, does2, is))
    told =
    omega (
      arith,
      (what_is_announced_waits mid last cut2 m (tpdu_of e) does2 is_cut2 told).1,
      ap (λ x. length (waiting x.pending)) is,
    )

pub waits_on : (opening : Opening) (w : Wanted) (units : List UnitOf) (next : Opening)
    (left : Wanted) (s t : CardState) → Waits opening s
    → AreFollowed opening w units next left → Goes s (flat_map dialogues_of units) t → Waits next t
waits_on opening w [] next left s t waits followed goes =
    rw (goes, followed.0) waits
waits_on opening w (u ∷ units) next left s t waits (n, is, followed) goes =
    let (mid, first, others) = goes_apart s t (dialogues_of u) (flat_map dialogues_of units) goes in
    let (m, told, few) = fetch_is_announced (after_unit w u) (last_of u).status n is.fetched in
    let here : n ≤ length (waiting mid.pending) =
    omega (arith, few, last_announces u s mid m first told) in
    waits_on (By_fetch n) (after_unit w u) units next left mid t here followed others

-- a fetch of at most the bytes that wait brings some
fetch_brings : (n : ℕ) (w : Wanted) (u : UnitOf) (s t : CardState) → Waits (By_fetch n) s
    → OpensWith (By_fetch n) (first_of u) → IsUnit w u → Goes s (dialogues_of u) t
    → 1 ≤ length (unit_data u)
fetch_brings n w (Single d) s t waits opens is_unit (cut, mid, is_cut, does, is) =
    let f = fetched s mid cut (tpdu_of d) does opens.header_is
    (omega (arith, waits, opens.counts)) in
    omega (
      arith,
      ap length f.brought,
      length-take (count d.body.p3) (waiting s.pending),
      count_is_some d.body.p3,
      waits,
      opens.counts,
      length-append (received d) [],
    )
fetch_brings n w (Repeated d e) s t waits opens is_unit (cut, mid, is_cut, does, others) =
    let f = fetched s mid cut (tpdu_of d) does opens.header_is
    (omega (arith, waits, opens.counts)) in
    let (k, told) = repeated_is_corrected w d is_unit.0 is_unit.1 in
    let no : Some k ≡ None = sym told ∙ ap (λ x. corrects x) f.status_is
    ∙ no_correction (drop (count d.body.p3) (waiting s.pending)) cut in
    absurd (cc)

-- No exchange with a card of data objects stalls.
pub never_stalls : (c : Command) (units : List UnitOf) (s t : CardState) → Stall c units
    → Goes s (flat_map dialogues_of units) t → ⊥
never_stalls c units s t stall goes =
    let o = stall.is_open in
    let (mid, first, last) = last_apart c units o s t goes in
    let waits : Waits (By_fetch stall.asked) mid = subst (λ x. Waits x mid) stall.is_fetch
    (waits_on (By_command c) (wanted_by c.le) o.before o.opening o.left s mid tt o.followed
    first) in
    let some = fetch_brings stall.asked o.left o.last mid t waits
    (subst (λ x. OpensWith x (first_of o.last)) stall.is_fetch o.opens) o.is_unit last in
    omega (arith, some, ap length stall.brought_none)
