-- The terminal's end passes through each dialogue that it opened.
use Rattle.std.proofs.Common.{◌≡◌, ℕ, zero, suc, ◌+◌, ◌-◌, ◌<◌, ◌≤◌, List, [], ◌∷◌, ◌++◌, length, take, refl, sym, subst, ◌∙◌, ap, arith, inl, inr, lit<, true, false, Bool, ◌==◌, nat_lt, if◌then◌else◌, Option, Some, None, length-append, slice_index}
use Rattle.std.proofs.lemmas.List.{take_more}
use Rattle.std.proofs.lemmas.Bool.{ltb-true, ltb-false}
use Rattle.apdu_core.specs.declared.header.Header.{Header}
use Rattle.apdu_core.specs.StatusWord.{IsStatusWord}
use Rattle.t0_core.specs.declared.end.End.TheVariants.{Terminal, Card}
use Rattle.t0_core.specs.declared.host_end.HostStage.{HostStage}
use Rattle.t0_core.specs.declared.host_end.HostStage.TheVariants.{SendingHeader, Awaiting, Moving, AwaitingSecond, Ended, Broken}
use Rattle.t0_core.specs.declared.host_end.HostTurn.{HostTurn}
use Rattle.t0_core.specs.declared.host_end.HostTurn.TheVariants.{Sends, Listens, Done, Failed}
use Rattle.t0_core.specs.declared.plan.Step.{Step}
use Rattle.t0_core.specs.declared.line_fault.LineFault.{LineFault}
use Rattle.t0_core.specs.declared.line_fault.LineFault.TheVariants.{TooLong}
use Rattle.t0_core.specs.declared.direction.Direction.{Direction}
use Rattle.t0_core.specs.declared.direction.Direction.TheVariants.{ToCard, FromCard}
use Rattle.t0_core.specs.Dialogue.{Body, data_sender, foreseen, procedure_byte, moves, to_move}
use Rattle.t0_core.specs.Front.{Front, In_header, In_body, After_first, GoesOn, IsBetween, header_only, with_segment, with_moved}
use Rattle.t0_core.specs.DataSent.{sent_by_now}
use Rattle.t0_core.specs.DataSentLaws.{tells_itself}
use Rattle.t0_core.specs.HostSide.{Hosting, HostStandsAt, IsOpenedBy, AreOwn, IsInRange, at_stage, turn_of, after_turn, after_taking, step_of, fault_of}
use Rattle.t0_core.specs.Room.{Room}
use Rattle.t0_core.specs.FrontLaws.{all_moves-more}
use Rattle.t0_core.specs.ProcedureLaws.{step_is, status_is_no_step}

abbrev pub host_at : Header → ℕ → Direction → List ℕ → HostStage → Hosting
host_at h p3 d content stage =
    record { header = h; p3 = p3; direction = d; content = content; stage = stage }

-- the same for an end as contracts see it
pub seen_at : (host seen : Hosting) (front : Front) → host ≡ seen → HostStandsAt seen front
    → HostStandsAt host front
seen_at host seen front is stands = let P : Hosting → Type 0 = λ v. HostStandsAt v front in
    subst P (sym is) stands

byte_of : HostTurn → ℕ → ℕ
byte_of (Sends b) d = b
byte_of Listens d = d
byte_of (Done status) d = d
byte_of Failed d = d

pub sends_is : (a b : ℕ) → Sends a ≡ Sends b → a ≡ b
unfolding byte_of
sends_is a b e = ap (λ t. byte_of t 0) e

-- the end is inside a segment, or the segment has moved all its data
moves_on : (host : Hosting) (m u : ℕ) (b : Body) (v : Bool) → nat_lt m u ≡ v → m ≤ u
    → IsOpenedBy host b → length b.moved ≡ m → to_move b ≡ u
    → HostStandsAt (at_stage host (if v then Moving m u else Awaiting m)) (In_body b)
moves_on host m u b true e le opened len all = (opened, len, ltb-true m u e, all)
moves_on host m u b false e le opened len all =
    (opened, omega (arith, len, le, ltb-false m u e, all), len)

one_longer : (b : Body) (byte m : ℕ) → length b.moved ≡ m → length (b.moved ++ byte ∷ []) ≡ m + 1
one_longer b byte m len = length-append b.moved (byte ∷ []) ∙ rw len refl

abbrev HostGoesOn : Hosting → Front → ℕ → Type 0
HostGoesOn host front byte = (x : Front) × GoesOn front (Terminal, byte) x
    × HostStandsAt (at_stage host (after_turn host)) x

-- the next of the end's own data
own_more : (content moved : List ℕ) (byte m : ℕ) → moved ≡ take (length moved) content
    → length moved ≡ m → m < length content → slice_index content m ≡ byte
    → moved ++ byte ∷ [] ≡ take (length (moved ++ byte ∷ [])) content
own_more content moved byte m own len lt is =
    let longer : length (moved ++ byte ∷ []) ≡ m + 1 = length-append moved (byte ∷ [])
    ∙ rw len refl in
    let own_m : moved ≡ take m content = own ∙ ap (λ k. take k content) len in
    rw longer (ap (λ bytes. bytes ++ byte ∷ []) own_m ∙ ap (λ x. take m content ++ x ∷ []) (sym is)
    ∙ sym (take_more content m 0 lt))

-- it sends the next of its data
sends_data : (h : Header) (p3 : ℕ) (content : List ℕ) (m u : ℕ) (b : Body) (byte : ℕ)
    → IsInRange (host_at h p3 ToCard content (Moving m u))
    → HostStandsAt (host_at h p3 ToCard content (Moving m u)) (In_body b)
    → slice_index content m ≡ byte
    → HostGoesOn (host_at h p3 ToCard content (Moving m u)) (In_body b) byte
sends_data h p3 content m u b byte range at is =
    let own = own_more content b.moved byte m at.0.3 at.1
    (omega (arith, range.0.2, range.1.0, range.1.1)) is in (
      In_body (with_moved b byte),
      inl (omega (arith, at.1, at.2, at.3), sym (ap data_sender at.0.2), refl),
      moves_on (host_at h p3 ToCard content (Moving m u)) (m + 1) u (with_moved b byte)
          (nat_lt (m + 1) u) refl (omega (arith, at.2))
          (at.0.0, at.0.1, at.0.2, own) (one_longer b byte m at.1) at.3,
    )

-- no data have moved yet
own_none : (d : Direction) (content : List ℕ) → AreOwn d content []
own_none ToCard content = refl
own_none FromCard content = tt

pub host_sends : (h : Header) (p3 : ℕ) (d : Direction) (content : List ℕ) (stage : HostStage)
    (front : Front) (byte : ℕ) → IsInRange (host_at h p3 d content stage)
    → HostStandsAt (host_at h p3 d content stage) front
    → turn_of (host_at h p3 d content stage) ≡ Sends byte
    → HostGoesOn (host_at h p3 d content stage) front byte
host_sends h p3 d content (SendingHeader zero) (In_header bytes) byte range at e = (
  In_header (bytes ++ byte ∷ []),
  (refl, inl (rw at.1 (lit< tt), refl)),
  (lit< tt, rw (at.1, ← sends_is _ _ e) refl),
)
host_sends h p3 d content (SendingHeader (suc zero)) (In_header bytes) byte range at e = (
  In_header (bytes ++ byte ∷ []),
  (refl, inl (rw at.1 (lit< tt), refl)),
  (lit< tt, rw (at.1, ← sends_is _ _ e) refl),
)
host_sends h p3 d content (SendingHeader (suc (suc zero))) (In_header bytes) byte range at e = (
  In_header (bytes ++ byte ∷ []),
  (refl, inl (rw at.1 (lit< tt), refl)),
  (lit< tt, rw (at.1, ← sends_is _ _ e) refl),
)
host_sends h p3 d content (SendingHeader (suc (suc (suc zero)))) (In_header bytes) byte range at
    e = (
      In_header (bytes ++ byte ∷ []),
      (refl, inl (rw at.1 (lit< tt), refl)),
      (lit< tt, rw (at.1, ← sends_is _ _ e) refl),
    )
host_sends h p3 d content (SendingHeader (suc (suc (suc (suc zero))))) (In_header bytes) byte range
    at e = (
      In_body (header_only h byte d),
      (refl, inr (h, d, at.1, refl)),
      ((refl, sym (sends_is _ _ e), refl, own_none d content), refl, refl),
    )
host_sends h p3 d content (SendingHeader (suc (suc (suc (suc (suc n)))))) (In_header bytes) byte
    range at e = absurd (omega (arith, at.0))
host_sends h p3 d content (SendingHeader sent) (In_body b) byte range at e = absurd at
host_sends h p3 d content (SendingHeader sent) (After_first b sw1) byte range at e = absurd at
host_sends h p3 ToCard content (Moving m u) (In_body b) byte range at e =
    sends_data h p3 content m u b byte range at (sends_is _ _ e)
host_sends h p3 FromCard content (Moving m u) (In_body b) byte range at e = absurd (cc)
host_sends h p3 d content (Moving m u) (In_header bytes) byte range at e = absurd at
host_sends h p3 d content (Moving m u) (After_first b sw1) byte range at e = absurd at
host_sends h p3 d content (Awaiting m) front byte range at e = absurd (cc)
host_sends h p3 d content (AwaitingSecond sw1 sent) front byte range at e = absurd (cc)
host_sends h p3 d content (Ended status sent) front byte range at e = absurd (cc)
host_sends h p3 d content Broken front byte range at e = absurd (cc)

card_is_no_terminal : Card ≡ Terminal → ⊥
card_is_no_terminal e = absurd (cc)

abbrev no_fault : Option LineFault
no_fault = None

none_is_some : (f : LineFault) → no_fault ≡ Some f → ⊥
none_is_some f e = absurd (cc)

full_is_too_long : (full : Bool) (f : LineFault) → (if full then Some TooLong else None) ≡ Some f
    → f ≡ TooLong
full_is_too_long true f e = cc
full_is_too_long false f e = absurd (cc)

-- What the end does with a character that continues a dialogue of its own: it is at the front with
-- it, and the only possible error is lack of room.
pub record HostTakes (host : Hosting) (room : Room) (byte : ℕ) (new : Front) : Type 0 where
  pub stands : HostStandsAt (at_stage host (after_taking host byte)) new
  pub fault : (f : LineFault) → fault_of host room byte ≡ Some f → f ≡ TooLong

-- the segments before and including the next one move this number of data
up_to : (d : Direction) (p3 m : ℕ) (b : Body) (s : Step) → b.direction ≡ d → b.p3 ≡ p3 → IsBetween b
    → length b.moved ≡ m
    → to_move (with_segment b s) ≡ m + moves s (foreseen d p3 - m)
up_to d p3 m b s direction count between len =
    let so_far : to_move b ≡ m = sym between ∙ len in
    let same : foreseen b.direction b.p3 ≡ foreseen d p3 = rw (direction, count) refl in
    all_moves-more b.segments s (foreseen b.direction b.p3) ∙ rw (so_far, same) refl

begins : (h : Header) (p3 : ℕ) (d : Direction) (content : List ℕ) (m : ℕ) (room : Room) (byte : ℕ)
    (b : Body) (s : Step) → IsInRange (host_at h p3 d content (Awaiting m))
    → HostStandsAt (host_at h p3 d content (Awaiting m)) (In_body b)
    → byte ≡ procedure_byte b.header.ins s
    → HostTakes (host_at h p3 d content (Awaiting m)) room byte (In_body (with_segment b s))
begins h p3 d content m room byte b s range at is =
    let n = moves s (foreseen d p3 - m) in
    let step : step_of h.ins byte ≡ Some s =
    rw (is, at.0.0) (step_is h.ins s range.0.0 range.0.1) in
    record {
      stands = rw step (moves_on (host_at h p3 d content (Awaiting m)) m (m + n) (with_segment b s)
          (nat_lt m (m + n)) refl (omega arith) at.0 at.2
          (up_to d p3 m b s at.0.2 at.0.1 at.1 at.2));
      fault = λ f e. absurd (none_is_some f (rw step at e));
    }

ends_data : (h : Header) (p3 : ℕ) (d : Direction) (content : List ℕ) (m : ℕ) (room : Room)
    (byte : ℕ) (b : Body) → IsInRange (host_at h p3 d content (Awaiting m))
    → HostStandsAt (host_at h p3 d content (Awaiting m)) (In_body b) → IsStatusWord (byte, 0)
    → HostTakes (host_at h p3 d content (Awaiting m)) room byte (After_first b byte)
ends_data h p3 d content m room byte b range at status =
    let none = status_is_no_step h.ins byte range.0.0 range.0.1 status in
    record {
      stands = rw none (
        at.0,
        refl,
        rw (at.0.2, at.0.1, at.2) (tells_itself (sent_by_now d p3 m)),
      );
      fault = λ f e. absurd (none_is_some f (rw (none, status.0) at e));
    }

takes_data : (h : Header) (p3 : ℕ) (d : Direction) (content : List ℕ) (m u : ℕ) (room : Room)
    (byte : ℕ) (b : Body) → HostStandsAt (host_at h p3 d content (Moving m u)) (In_body b)
    → Card ≡ data_sender b.direction
    → HostTakes (host_at h p3 d content (Moving m u)) room byte (In_body (with_moved b byte))
takes_data h p3 ToCard content m u room byte b at from =
    absurd (card_is_no_terminal (from ∙ ap data_sender at.0.2))
takes_data h p3 FromCard content m u room byte b at from = record {
  stands = moves_on (host_at h p3 FromCard content (Moving m u)) (m + 1) u (with_moved b byte)
      (nat_lt (m + 1) u) refl (omega (arith, at.2))
      (at.0.0, at.0.1, at.0.2, tt) (one_longer b byte m at.1) at.3;
  fault = λ f e. full_is_too_long (length room.bytes == room.limit) f e;
}

pub host_takes : (h : Header) (p3 : ℕ) (d : Direction) (content : List ℕ) (stage : HostStage)
    (room : Room) (byte : ℕ) (front new : Front) → IsInRange (host_at h p3 d content stage)
    → HostStandsAt (host_at h p3 d content stage) front → GoesOn front (Card, byte) new
    → HostTakes (host_at h p3 d content stage) room byte new
host_takes h p3 d content (SendingHeader sent) room byte (In_header bytes) new range at
    (from, goes) = absurd (card_is_no_terminal from)
host_takes h p3 d content (Awaiting m) room byte (In_body b) new range at (inl (lt, from, is)) =
    absurd (omega (arith, lt, at.1))
host_takes h p3 d content (Awaiting m) room byte (In_body b) new range at
    (inr (inl (between, from, (s, nulls, byte_is, is)))) =
    rw is (begins h p3 d content m room byte b s range at byte_is)
host_takes h p3 d content (Awaiting m) room byte (In_body b) new range at
    (inr (inr (between, from, status, is))) =
    rw is (ends_data h p3 d content m room byte b range at status)
host_takes h p3 d content (Moving m u) room byte (In_body b) new range at (inl (lt, from, is)) =
    rw is (takes_data h p3 d content m u room byte b at from)
host_takes h p3 d content (Moving m u) room byte (In_body b) new range at
    (inr (inl (between, from, others))) = absurd (omega (arith, between, at.1, at.2, at.3))
host_takes h p3 d content (Moving m u) room byte (In_body b) new range at
    (inr (inr (between, from, status, is))) = absurd (omega (arith, between, at.1, at.2, at.3))
host_takes h p3 d content (AwaitingSecond sw1 sent) room byte (After_first b first) new range at
    goes =
    absurd goes
host_takes h p3 d content (SendingHeader sent) room byte (In_body b) new range at goes = absurd at
host_takes h p3 d content (SendingHeader sent) room byte (After_first b first) new range at goes =
    absurd at
host_takes h p3 d content (Awaiting m) room byte (In_header bytes) new range at goes = absurd at
host_takes h p3 d content (Awaiting m) room byte (After_first b first) new range at goes = absurd at
host_takes h p3 d content (Moving m u) room byte (In_header bytes) new range at goes = absurd at
host_takes h p3 d content (Moving m u) room byte (After_first b first) new range at goes = absurd at
host_takes h p3 d content (AwaitingSecond sw1 sent) room byte (In_header bytes) new range at goes =
    absurd at
host_takes h p3 d content (AwaitingSecond sw1 sent) room byte (In_body b) new range at goes =
    absurd at
host_takes h p3 d content (Ended status sent) room byte front new range at goes = absurd at
host_takes h p3 d content Broken room byte front new range at goes = absurd at
