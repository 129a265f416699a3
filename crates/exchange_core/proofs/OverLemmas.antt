-- An exchange at the end of a whole one has ended, and has not stalled.
use Rattle.std.proofs.Common.{◌≡◌, ℕ, List, [], ◌∷◌, ◌++◌, refl, sym, ◌∙◌, ap, inl, inr, Option, Some, None}
use Rattle.std.proofs.lemmas.List.{same_from_push}
use Rattle.apdu_core.specs.StatusWord.{StatusWord}
use Rattle.apdu_core.specs.CommandBytes.{Command}
use Rattle.t0_core.specs.Dialogue.{Dialogue}
use Rattle.exchange_core.specs.declared.wanted.Wanted.{Wanted}
use Rattle.exchange_core.specs.Gathered.{wanted_by, after_unit, repeated_with, fetched_after, Opening, By_command, By_fetch, UnitOf, last_of, IsUnit, IsFollowed, AreFollowed, Gathers}
use Rattle.exchange_core.specs.ExchangeSide.{ExchangeOf, ended_with, IsOver, Stall, Continues}
use Rattle.exchange_core.proofs.UnitLemmas.{followed_left}
use Rattle.exchange_core.specs.UnitLaws.{none_or_some}

-- these units determine what is still wanted
same_left : (c : Command) (units : List UnitOf) (opening other : Opening) (left wanted : Wanted)
    → AreFollowed (By_command c) (wanted_by c.le) units opening left
    → AreFollowed (By_command c) (wanted_by c.le) units other wanted → left ≡ wanted
same_left c units opening other left wanted followed again =
    followed_left (By_command c) (wanted_by c.le) units opening left followed
    ∙ sym (followed_left (By_command c) (wanted_by c.le) units other wanted again)

-- if units are followed, so are those before the last, and the last
last_followed : (first : Opening) (w : Wanted) (units : List UnitOf) (u : UnitOf) (next : Opening)
    (left : Wanted) → AreFollowed first w (units ++ u ∷ []) next left
    → (opening : Opening) × (mid : Wanted) × (n : ℕ) × AreFollowed first w units opening mid
    × IsFollowed opening mid u n
last_followed first w [] u next left followed =
    (first, w, followed.0, (refl, refl), followed.1)
last_followed first w (v ∷ units) u next left followed =
    let rest = last_followed (By_fetch followed.0) (after_unit w v) units u next left followed.2 in
    (rest.0, rest.1, rest.2, (followed.0, followed.1, rest.3), rest.4)

-- the last unit of a whole exchange, and what is wanted before it
record Last (c : Command) (units : List UnitOf) (u : UnitOf) (status : StatusWord) : Type 0 where
  opening : Opening
  left : Wanted
  followed : AreFollowed (By_command c) (wanted_by c.le) units opening left
  is_unit : IsUnit left u
  ends : fetched_after (after_unit left u) (last_of u).status ≡ None
  status_is : status ≡ (last_of u).status

last_unit : (c : Command) (units : List UnitOf) (u : UnitOf) (gathered : List ℕ)
    (status : StatusWord) → Gathers c (units ++ u ∷ []) gathered status → Last c units u status
last_unit c units u gathered status whole =
    let same = same_from_push units whole.is_open.before u whole.is_open.last
    whole.is_open.units_are in
    let left = whole.is_open.left in
    record {
      opening = whole.is_open.opening;
      left = left;
      followed = rw same.0 whole.is_open.followed;
      is_unit = rw same.1 whole.is_open.is_unit;
      ends = rw same.1 whole.ends;
      status_is = whole.status_is ∙ ap (λ v. (last_of v).status) (sym same.1);
    }

-- it is not repeated
not_repeated : (c : Command) (units : List UnitOf) (first : Option Dialogue) (d : Dialogue)
    (status : StatusWord) (opening : Opening) (left : Wanted) (n : ℕ)
    → Last c units (ended_with first d) status → first ≡ None
    → AreFollowed (By_command c) (wanted_by c.le) units opening left
    → repeated_with left d ≡ Some n → ⊥
not_repeated c units first d status opening left n last none followed repeated =
    none_or_some (repeated_with last.left d) n (rw none at last.is_unit)
    (ap (λ w. repeated_with w d) (same_left c units last.opening opening last.left left
    last.followed followed) ∙ repeated)

-- and nothing is fetched after it
not_fetched : (c : Command) (units : List UnitOf) (u : UnitOf) (status : StatusWord)
    (opening : Opening) (left : Wanted) (n : ℕ) → Last c units u status
    → AreFollowed (By_command c) (wanted_by c.le) units opening left
    → fetched_after (after_unit left u) (last_of u).status ≡ Some n → ⊥
not_fetched c units u status opening left n last followed fetched =
    none_or_some (fetched_after (after_unit last.left u) (last_of u).status) n last.ends
    (ap (λ w. fetched_after (after_unit w u) (last_of u).status)
    (same_left c units last.opening opening last.left left last.followed followed) ∙ fetched)

pub is_over : (c : Command) (ex : ExchangeOf) (units : List UnitOf) (first : Option Dialogue)
    (d : Dialogue) (gathered : List ℕ) (status : StatusWord) → Continues c ex units first d
    → Gathers c (units ++ ended_with first d ∷ []) gathered status
    → IsOver c ex (units ++ ended_with first d ∷ []) status × (ex.gather.bytes ≡ gathered)
is_over c ex units first d gathered status (inl again) whole = absurd (
    not_repeated c units first d status again.1.opening again.1.left again.1.opened_as.1
    (last_unit c units (ended_with first d) gathered status whole) again.0 again.1.followed
    again.1.opened_as.2)
is_over c ex units first d gathered status (inr (inl under)) whole =
    let before = last_followed (By_command c) (wanted_by c.le) units (ended_with first d)
    under.opening under.left under.followed in
    absurd (not_fetched c units (ended_with first d) status before.0 before.1 before.2
    (last_unit c units (ended_with first d) gathered status whole) before.3 before.4.fetched)
is_over c ex units first d gathered status (inr (inr over)) whole =
    let u = ended_with first d in
    let same = (last_unit c units u ex.gather.bytes d.status over.gathers).status_is
    ∙ sym (last_unit c units u gathered status whole).status_is in
    (rw (sym same) over, over.gathers.gathered_is ∙ sym whole.gathered_is)

pub no_stall : (c : Command) (units : List UnitOf) (gathered : List ℕ) (status : StatusWord)
    → Gathers c units gathered status → Stall c units → ⊥
no_stall c units gathered status whole stall =
    let under = stall.is_open in
    not_fetched c under.before under.last status under.opening under.left stall.more
    (last_unit c under.before under.last gathered status (rw under.units_are at whole))
    under.followed stall.announces
