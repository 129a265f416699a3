-- Why a tap refuses a character, and that it stores no data.
use Rattle.std.proofs.Common.{◌≡◌, ℕ, ◌<◌, List, length, ◌↔◌, refl, sym, ◌∙◌, ap, arith, inl, inr, lit<, Option, Some, None, Bool, true, false, if◌then◌else◌}
use Rattle.apdu_core.specs.StatusWord.{is_first_status}
use Rattle.t0_core.specs.declared.end.End.{End}
use Rattle.t0_core.specs.declared.end.End.TheVariants.{Terminal, Card}
use Rattle.t0_core.specs.declared.plan.Step.{Step}
use Rattle.t0_core.specs.declared.plan.Step.TheVariants.{Null}
use Rattle.t0_core.specs.declared.direction.Direction.{Direction}
use Rattle.t0_core.specs.declared.direction.Direction.TheVariants.{ToCard, FromCard}
use Rattle.t0_core.specs.declared.heard.Said.{Said}
use Rattle.t0_core.specs.declared.heard.Heard.{Heard}
use Rattle.t0_core.specs.declared.heard.Heard.TheVariants as heard
use Rattle.t0_core.specs.declared.heard.Due.{Due}
use Rattle.t0_core.specs.declared.heard.Due.TheVariants as due
use Rattle.t0_core.specs.declared.tap_fault.TapFault.{TapFault}
use Rattle.t0_core.specs.declared.tap_fault.TapFault.TheVariants.{OutOfTurn, BadProcedure}
use Rattle.t0_core.specs.Dialogue.{Body, data_sender, foreseen, to_move}
use Rattle.t0_core.specs.Front.{Front, In_header, In_body, After_first, IsBetween, with_segment, with_moved}
use Rattle.t0_core.specs.FrontLaws.{all_moves-within, begins_between}
use Rattle.t0_core.specs.DialogueLaws.{all_more}
use Rattle.t0_core.specs.TapSide.{Place, In_opening, Between, In_data, After_sw1, SaysSo, TapStandsAt, HasTurn, other_end, tap_fault_at, tap_procedure_fault, heard_at, heard_procedure, after_hearing, begun_by, may_come_from, way_of}
use Rattle.t0_core.proofs.TapLemmas.{HearsOne, header_goes, may_come, stands_inside}

-- ---- out of turn: the other end sends next

not_out_of_turn : (found : Option Step) (byte : ℕ) → tap_procedure_fault found byte ≡ Some OutOfTurn
    → ⊥
not_out_of_turn (Some step) byte e = absurd (cc)
not_out_of_turn None byte e = split (is_first_status byte) e
  where
    split : (v : Bool) → (if v then None else Some BadProcedure) ≡ Some OutOfTurn → ⊥
    split true e = absurd (cc)
    split false e = absurd (cc)

header_turn : (bytes : List ℕ) → length bytes < 5 → HasTurn Terminal (In_header bytes)
header_turn bytes lt =
    let next = header_goes bytes 0 lt in (0, lit< tt, inl (next.0, next.1, next.2))

null_turn : (said : Said) (b : Body) → SaysSo said b → IsBetween b → HasTurn Card (In_body b)
null_turn said b says between = (
  0x60,
  lit< tt,
  inl (
    In_body (with_segment b Null),
    inr (inl (between, refl, (Null, λ _. refl, refl, refl))),
    λ to none. all_more (λ s. s ≡ Null) b.segments Null (says.is_read to none) refl,
  ),
)

-- data that are not this end's are the other's
other_sends : (from : End) (d : Direction) (due : Due) → may_come_from due (data_sender d) ≡ true
    → may_come_from due from ≡ false → other_end from ≡ data_sender d
other_sends Terminal FromCard due may not = refl
other_sends Card ToCard due may not = refl
other_sends Terminal ToCard due may not = let no : true ≡ false = sym may ∙ not in absurd (cc)
other_sends Card FromCard due may not = let no : true ≡ false = sym may ∙ not in absurd (cc)

out_of_turn_is : (v : Bool) → (if v then None else Some OutOfTurn) ≡ Some OutOfTurn → v ≡ false
out_of_turn_is true e = absurd (cc)
out_of_turn_is false e = refl

data_turn : (said : Said) (until : ℕ) (from : End) (b : Body) → SaysSo said b → said.moved < until
    → to_move b ≡ until → may_come_from (due.Data (way_of said.direction said.p3)) from ≡ false
    → HasTurn (other_end from) (In_body b)
data_turn said until from b says lt all not =
    let some : 0 < foreseen b.direction b.p3 =
    omega (arith, lt, all, all_moves-within b.segments (foreseen b.direction b.p3)) in
    let may : may_come_from (due.Data (way_of said.direction said.p3)) (data_sender b.direction)
    ≡ true =
    ap (λ x. may_come_from (due.Data (way_of said.direction x)) (data_sender b.direction))
    (sym says.p3_is) ∙ may_come said.direction b.direction b.p3 b.moved says.shows some in
    let sender = other_sends from b.direction (due.Data (way_of said.direction said.p3)) may
    not in (
      0,
      lit< tt,
      inl (
        In_body (with_moved b 0),
        inl (omega (arith, lt, all, says.moved_is), sender, refl),
        says.is_read,
      ),
    )

status_turn : (b : Body) (first : ℕ) → HasTurn Card (After_first b first)
status_turn b first =
    (0, lit< tt, inr (record { body = b; status = (first, 0) }, (refl, lit< tt, refl)))

others_turn : (place : Place) (from : End) (byte : ℕ) (front : Front) → TapStandsAt place front
    → tap_fault_at place from byte ≡ Some OutOfTurn → HasTurn (other_end from) front
others_turn (In_opening bytes) Card byte (In_header heard) at e =
    header_turn heard (omega (arith, at.1, ap length at.0))
others_turn (In_opening bytes) Terminal byte (In_header heard) at e = absurd (cc)
others_turn (Between said) Terminal byte (In_body b) at e = null_turn said b at.0 at.1
others_turn (Between said) Card byte (In_body b) at e =
    absurd (not_out_of_turn (begun_by said.header.ins byte) byte e)
others_turn (In_data said until) from byte (In_body b) at e =
    data_turn said until from b at.0 at.1 at.2 (out_of_turn_is _ e)
others_turn (After_sw1 said sw1) Terminal byte (After_first b first) at e = status_turn b first
others_turn (After_sw1 said sw1) Card byte (After_first b first) at e = absurd (cc)
others_turn _ _ _ _ at _ = absurd at

-- ---- a bad procedure byte: the other end does not send next

terminal_is_card : Terminal ≡ Card → ⊥
terminal_is_card e = absurd (cc)

no_turn : (said : Said) (b : Body) → IsBetween b → HasTurn Terminal (In_body b) → ⊥
no_turn said b between (byte, small, inl (new, inl moves, read)) = omega (arith, between, moves.0)
no_turn said b between (byte, small, inl (new, inr begins, read)) =
    terminal_is_card (begins_between b (Terminal, byte) new begins).1
no_turn said b between (byte, small, inr (d, ends)) = ends

no_bad : (v : Bool) → (if v then None else Some OutOfTurn) ≡ Some BadProcedure → ⊥
no_bad true e = absurd (cc)
no_bad false e = absurd (cc)

bad_in_turn : (place : Place) (from : End) (byte : ℕ) (front : Front) → TapStandsAt place front
    → tap_fault_at place from byte ≡ Some BadProcedure → HasTurn (other_end from) front → ⊥
bad_in_turn (In_opening bytes) Terminal byte front at e turn = absurd (cc)
bad_in_turn (In_opening bytes) Card byte front at e turn = absurd (cc)
bad_in_turn (Between said) Terminal byte front at e turn = absurd (cc)
bad_in_turn (Between said) Card byte (In_body b) at e turn = no_turn said b at.1 turn
bad_in_turn (Between said) Card byte front at e turn = absurd at
bad_in_turn (In_data said until) from byte front at e turn = no_bad _ e
bad_in_turn (After_sw1 said sw1) Terminal byte front at e turn = absurd (cc)
bad_in_turn (After_sw1 said sw1) Card byte front at e turn = absurd (cc)

reason_at : (place : Place) (from : End) (byte : ℕ) (fault : TapFault) (front : Front)
    → TapStandsAt place front → tap_fault_at place from byte ≡ Some fault
    → (fault ≡ OutOfTurn) ↔ HasTurn (other_end from) front
reason_at place from byte OutOfTurn front at e =
    (λ _. others_turn place from byte front at e, λ _. refl)
reason_at place from byte BadProcedure front at e =
    (λ is. absurd (cc), λ turn. absurd (bad_in_turn place from byte front at e turn))

pub reason : (p seen : Place) (from : End) (byte : ℕ) (fault : TapFault) → p ≡ seen
    → tap_fault_at p from byte ≡ Some fault → (front : Front) → TapStandsAt seen front
    → (fault ≡ OutOfTurn) ↔ HasTurn (other_end from) front
reason p seen from byte fault is why front stands =
    reason_at p from byte fault front (stands_inside p seen front is stands) why

-- ---- data leave no trace

no_data : (found : Option Step) (direction : Direction)
    → heard_procedure found ≡ heard.Data direction → ⊥
no_data (Some step) direction e = absurd (cc)
no_data None direction e = absurd (cc)

traceless : (place : Place) (from : End) (byte other : ℕ) (direction : Direction)
    → heard_at place from byte ≡ heard.Data direction
    → after_hearing place from byte ≡ after_hearing place from other
traceless (In_opening bytes) from byte other direction e = absurd (cc)
traceless (Between said) from byte other direction e =
    absurd (no_data (begun_by said.header.ins byte) direction e)
traceless (In_data said until) from byte other direction e = refl
traceless (After_sw1 said sw1) from byte other direction e = absurd (cc)

pub leaves_no_trace : (p seen : Place) (from : End) (byte : ℕ) (told : Heard) (next : Place)
    → HearsOne p seen from byte told next → (direction : Direction) (other : ℕ)
    → told ≡ heard.Data direction → next ≡ after_hearing seen from other
leaves_no_trace p seen from byte told next hears direction other data_is =
    hears.next_is ∙ traceless p from byte other direction (sym hears.heard_is ∙ data_is)
    ∙ ap (λ x. after_hearing x from other) hears.seen_is
