-- A tap passes through the dialogues that it can read, one after another. It can read all that
-- follow plans.
use Rattle.std.proofs.Common.{◌≡◌, ℕ, ◌<◌, List, [], ◌∷◌, ◌++◌, length, refl, sym, subst, ◌∙◌, ap, arith, inl, inr, lit<, None}
use Rattle.std.specs.List.{AllByRecursion, flat_map}
use Rattle.apdu_core.specs.declared.header.Header.{Header}
use Rattle.t0_core.specs.declared.end.End.{End}
use Rattle.t0_core.specs.declared.plan.Step.{Step}
use Rattle.t0_core.specs.declared.plan.Step.TheVariants.{Null}
use Rattle.t0_core.specs.declared.heard.Heard.{Heard}
use Rattle.t0_core.specs.declared.heard.Heard.TheVariants as heard
use Rattle.t0_core.specs.Character.{Character}
use Rattle.t0_core.specs.Dialogue.{Dialogue, IsDialogue, characters, foreseen}
use Rattle.t0_core.specs.Plan.{Course, plain, segments_of, Follows, FollowInTurn}
use Rattle.t0_core.specs.Front.{Front, In_header, In_body, After_first, GoesOn, Ends, GoesThrough, fresh}
use Rattle.t0_core.specs.FrontLaws.{all_moves-within}
use Rattle.t0_core.specs.WholeLaws.{goes_through}
use Rattle.t0_core.specs.History.{IsByteEvent, passed}
use Rattle.t0_core.specs.TapSide.{Place, In_opening, Between, In_data, After_sw1, TapStandsAt, IsRead, IsReadFront, Makes, Concludes, afresh, tap_fault_at, heard_at, after_hearing}
use Rattle.t0_core.specs.TapLine.{HearsInTurn, AreTold}
use Rattle.t0_core.proofs.PlanLemmas.{nulls_where_none_left}
use Rattle.t0_core.proofs.TapLemmas.{TapTook, HasByte, takes_all}

-- the front is one of a dialogue with this header, as the tap reads it
abbrev pub IsOf : Front → Dialogue → Type 0
IsOf (In_header bytes) d = Unit {0}
IsOf (In_body b) d = (b.header ≡ d.body.header) × IsRead b
IsOf (After_first b sw1) d = (b.header ≡ d.body.header) × IsRead b

all_before : (segments : List Step) (s : Step) → AllByRecursion (λ t. t ≡ Null) (segments ++ s ∷ [])
    → AllByRecursion (λ t. t ≡ Null) segments
all_before [] s all = tt
all_before (t ∷ segments) s all = (all.0, all_before segments s all.1)

pub is_of : (cs : List Character) (front : Front) (d : Dialogue) → IsRead d.body
    → GoesThrough front cs d → IsOf front d
is_of [] front d read through = absurd through
is_of (c ∷ cs) (In_header bytes) d read through = tt
is_of (c ∷ cs) (In_body b) d read (inl ends) = absurd ends.0
is_of (c ∷ cs) (In_body b) d read (inr (new, inl moves, through)) =
    let P : Front → Type 0 = λ x. IsOf x d in subst P moves.2 (is_of cs new d read through)
is_of (c ∷ cs) (In_body b) d read
    (inr (new, inr (inl (between, way, (s, nulls, byte, is))), through)) =
    let P : Front → Type 0 = λ x. IsOf x d in
    let later = subst P is (is_of cs new d read through) in
    (later.0, λ to none. all_before b.segments s (later.1 to none))
is_of (c ∷ cs) (In_body b) d read (inr (new, inr (inr (between, way, status, is)), through)) =
    let P : Front → Type 0 = λ x. IsOf x d in subst P is (is_of cs new d read through)
is_of (c ∷ cs) (After_first b sw1) d read (inl (ends, none)) =
    let P : Dialogue → Type 0 = λ x. IsOf (After_first b sw1) x in
    let Reads : Dialogue → Type 0 = λ x. IsRead x.body in
    let here : IsRead b = subst Reads ends.2 read in
    subst P (sym ends.2) (refl, here)
is_of (c ∷ cs) (After_first b sw1) d read (inr (new, goes, through)) = absurd goes

of_read : (front : Front) (d : Dialogue) → IsOf front d → IsReadFront front
of_read (In_header bytes) d is = tt
of_read (In_body b) d is = is.1
of_read (After_first b sw1) d is = is.1

pub has_its_byte : (place : Place) (front : Front) (d : Dialogue) → TapStandsAt place front
    → IsOf front d → d.body.header.ins < 256 → HasByte place
has_its_byte (Between said) (In_body b) d at is small =
    let P : Header → Type 0 = λ h. h.ins < 256 in subst P (sym is.0 ∙ at.0.header_is) small
has_its_byte (Between said) (In_header bytes) d at is small = absurd at
has_its_byte (Between said) (After_first b sw1) d at is small = absurd at
has_its_byte _ _ _ _ _ _ = tt

-- a tap takes each character that continues such a dialogue
pub takes_on : (cs : List Character) (place : Place) (front new : Front) (c : Character)
    (d : Dialogue) → HasByte place → TapStandsAt place front → GoesOn front c new
    → GoesThrough new cs d → IsRead d.body → TapTook place c.0 c.1 front new
takes_on cs place front new c d small at goes on read =
    takes_all place c.0 c.1 front new small at goes (of_read new d (is_of cs new d read on))

-- the end of a dialogue
pub record Closes (place : Place) (from : End) (byte : ℕ) (d : Dialogue) : Type 0 where
  pub none : tap_fault_at place from byte ≡ None
  pub concludes : Concludes (heard_at place from byte) d
  pub after : after_hearing place from byte ≡ afresh

pub closes : (place : Place) (from : End) (byte : ℕ) (front : Front) (d : Dialogue)
    → TapStandsAt place front → Ends front (from, byte) d → Closes place from byte d
closes (After_sw1 said sw1) from byte (After_first b first) d at ends = record {
  none = rw (ends.0) refl;
  concludes = rw (ends.2) (at.0, ap (λ x. (x, byte)) at.1);
  after = refl;
}
closes (In_opening bytes) from byte (In_header heard) d at ends = absurd ends
closes (Between said) from byte (In_body b) d at ends = absurd ends
closes (In_data said until) from byte (In_body b) d at ends = absurd ends
closes _ _ _ _ _ at _ = absurd at

-- a character inside a dialogue reports no dialogue
told_more : (this : Heard) (front new : Front) (c : Character) (told : List Heard)
    (ds : List Dialogue) → Makes this front c new → AreTold told ds → AreTold (this ∷ told) ds
told_more (heard.SecondStatus said status) front new c told ds makes are = absurd makes
told_more _ _ _ _ _ _ _ are = are

told_last : (this : Heard) (d : Dialogue) → Concludes this d → AreTold (this ∷ []) (d ∷ [])
told_last (heard.SecondStatus said status) d is = (is.0, is.1, tt)
told_last _ _ is = absurd is

hears_through : (cs : List Character) (place : Place) (front : Front) (d : Dialogue)
    → TapStandsAt place front → GoesThrough front cs d → IsRead d.body → d.body.header.ins < 256
    → (told : List Heard) × HearsInTurn place cs told afresh × AreTold told (d ∷ [])
hears_through [] place front d at through read small = absurd through
hears_through (c ∷ cs) place front d at (inl (ends, none)) read small =
    let end = closes place c.0 c.1 front d at ends in
    let Hears : List Character → Type 0 =
    λ x. HearsInTurn (after_hearing place c.0 c.1) x [] afresh in (
      heard_at place c.0 c.1 ∷ [],
      (end.none, refl, subst Hears (sym none) (refl, sym end.after)),
      told_last (heard_at place c.0 c.1) d end.concludes,
    )
hears_through (c ∷ cs) place front d at (inr (new, goes, through)) read small =
    let here = is_of (c ∷ cs) front d read (inr (new, goes, through)) in
    let took = takes_on cs place front new c d (has_its_byte place front d at here small) at goes
    through read in
    let rest = hears_through cs (after_hearing place c.0 c.1) new d took.stands through read
    small in (
      heard_at place c.0 c.1 ∷ rest.0,
      (took.none, refl, rest.1),
      told_more (heard_at place c.0 c.1) front new c rest.0 (d ∷ []) took.makes rest.2,
    )

-- one after another
hears_both : (cs ds : List Character) (told more : List Heard) (a b c : Place)
    → HearsInTurn a cs told b → HearsInTurn b ds more c → HearsInTurn a (cs ++ ds) (told ++ more) c
hears_both [] ds [] more a b c one two =
    let P : Place → Type 0 = λ x. HearsInTurn x ds more c in subst P one.1 two
hears_both [] ds (t ∷ told) more a b c one two = absurd (cc)
hears_both (x ∷ cs) ds [] more a b c one two = absurd one
hears_both (x ∷ cs) ds (t ∷ told) more a b c one two =
    (one.0, one.1, hears_both cs ds told more (after_hearing a x.0 x.1) b c one.2 two)

told_both : (told more : List Heard) (ds es : List Dialogue) → AreTold told ds → AreTold more es
    → AreTold (told ++ more) (ds ++ es)
told_both [] more [] es one two = two
told_both [] more (d ∷ ds) es one two = absurd one
told_both (heard.SecondStatus said status ∷ told) more [] es one two = absurd one
told_both (heard.SecondStatus said status ∷ told) more (d ∷ ds) es one two =
    (one.0, one.1, told_both told more ds es one.2 two)
told_both (heard.Header ∷ told) more ds es one two = told_both told more ds es one two
told_both (heard.Procedure step ∷ told) more ds es one two = told_both told more ds es one two
told_both (heard.Data direction ∷ told) more ds es one two = told_both told more ds es one two
told_both (heard.FirstStatus ∷ told) more ds es one two = told_both told more ds es one two

-- a dialogue that follows a plan has no segment without data, except NULLs
pub follows_read : (d : Dialogue) (plan : Course) → IsDialogue d → Follows d plan → IsRead d.body
follows_read d plan is follows to none =
    let within = all_moves-within d.body.segments (foreseen d.body.direction d.body.p3) in
    let foreseen_none : foreseen d.body.direction d.body.p3 ≡ 0 = rw (to, none) refl in
    let nothing : length d.body.moved ≡ 0 =
    omega (arith, is.moved_by_segments, within, foreseen_none) in
    let Nulls : List Step → Type 0 = λ x. AllByRecursion (λ s. s ≡ Null) x in
    subst Nulls
    (sym (follows.step_by_step ∙ ap (segments_of plan.steps) nothing))
    (nulls_where_none_left plan.steps)

bytes_after : (cs ds : List Character) → AllByRecursion IsByteEvent (passed (cs ++ ds))
    → AllByRecursion IsByteEvent (passed ds)
bytes_after [] ds all = all
bytes_after (c ∷ cs) ds all = bytes_after cs ds all.1

hears_one : (d : Dialogue) (rest : List Character) → IsDialogue d → IsRead d.body
    → AllByRecursion IsByteEvent (passed (characters d ++ rest))
    → (told : List Heard) × HearsInTurn afresh (characters d) told afresh × AreTold told (d ∷ [])
hears_one d rest is read bytes =
    hears_through (characters d) afresh fresh d (refl, lit< tt) (goes_through d is) read bytes.1.0

hears_then : (d : Dialogue) (ds : List Dialogue)
    → (told : List Heard) × HearsInTurn afresh (characters d) told afresh × AreTold told (d ∷ [])
    → (told : List Heard) × HearsInTurn afresh (flat_map characters ds) told afresh
    × AreTold told ds
    → (told : List Heard) × HearsInTurn afresh (flat_map characters (d ∷ ds)) told afresh
    × AreTold told (d ∷ ds)
hears_then d ds one more = (
  one.0 ++ more.0,
  hears_both (characters d) (flat_map characters ds) one.0 more.0 afresh afresh afresh one.1 more.1,
  told_both one.0 more.0 (d ∷ []) ds one.2 more.2,
)

pub hears_dialogues : (ds : List Dialogue) → AllByRecursion IsDialogue ds
    → AllByRecursion (λ d. IsRead d.body) ds
    → AllByRecursion IsByteEvent (passed (flat_map characters ds))
    → (told : List Heard) × HearsInTurn afresh (flat_map characters ds) told afresh
    × AreTold told ds
hears_dialogues [] are read bytes = ([], (refl, refl), tt)
hears_dialogues (d ∷ ds) are read bytes =
    let rest = flat_map characters ds in
    hears_then d ds (hears_one d rest are.0 read.0 bytes)
    (hears_dialogues ds are.1 read.1 (bytes_after (characters d) rest bytes))

follow_read : (ds : List Dialogue) (plans : List Course) → AllByRecursion IsDialogue ds
    → FollowInTurn ds plans → AllByRecursion (λ d. IsRead d.body) ds
follow_read [] plans are follow = tt
follow_read (d ∷ ds) [] are follow =
    (follows_read d plain are.0 follow.0, follow_read ds [] are.1 follow.1)
follow_read (d ∷ ds) (p ∷ plans) are follow =
    (follows_read d p are.0 follow.0, follow_read ds plans are.1 follow.1)

pub hears_planned : (ds : List Dialogue) (plans : List Course) → AllByRecursion IsDialogue ds
    → FollowInTurn ds plans → AllByRecursion IsByteEvent (passed (flat_map characters ds))
    → (told : List Heard) × HearsInTurn afresh (flat_map characters ds) told afresh
    × AreTold told ds
hears_planned ds plans are follow bytes =
    hears_dialogues ds are (follow_read ds plans are follow) bytes
