-- A terminal's end writes characters to a buffer, in one turn for each.
use Rattle.std.proofs.Common.{◌≡◌, ℕ, ◌+◌, ◌<◌, ◌≤◌, List, [], ◌∷◌, length, take, set, refl, sym, subst, ap, ◌∙◌, arith, Some, None, Bool, true, false}
use Rattle.apdu_core.specs.StatusWord.{StatusWord}
use Rattle.t0_core.specs.declared.end.End.TheVariants.{Terminal}
use Rattle.t0_core.specs.declared.host_end.HostTurn.{HostTurn}
use Rattle.t0_core.specs.declared.host_end.HostTurn.TheVariants.{Sends, Done}
use Rattle.t0_core.specs.Front.{Front, GoesOn}
use Rattle.t0_core.specs.Room.{Room}
use Rattle.t0_core.specs.HostSide.{Hosting, HostStandsAt, IsRequest, at_stage, turn_of, after_turn}
use Rattle.t0_core.specs.HostMark.{HasOnly}
use Rattle.t0_core.specs.Buffers.{Steps, HandsOut, IsDataTurn}
use Rattle.exchange_core.specs.declared.attempt.Attempt.{Attempt}
use Rattle.exchange_core.specs.declared.wanted.Wanted.{Wanted}
use Rattle.exchange_core.specs.Buffers.{IsHandingOut}
use Rattle.exchange_core.specs.ExchangeSide.{ExchangeOf, IsKept, exchange_turn}
use Rattle.exchange_core.specs.ExchangeSteps.{IsTurn, SendsOne}
use Rattle.exchange_core.specs.OwnedExchange.{of_parts}
use Rattle.exchange_core.proofs.OwnedLemmas.{same_sent, turned}
use Rattle.exchange_core.proofs.TurnLemmas.{over_by_turn}
use Rattle.exchange_core.specs.BufferLaws.{one_handed}

-- Since it began, the end of an exchange has written `at` characters to the buffer, whatever the
-- other fields of the exchange.
pub record HasHanded (begun : Hosting) (stalled : Bool) (before after : List ℕ) (at : ℕ)
    (end : Hosting) : Type 0 where
  pub out : (gather : Room) (attempt : Attempt) (wanted : Wanted)
      → IsKept (of_parts begun gather attempt wanted stalled)
      → HandsOut SendsOne (of_parts begun gather attempt wanted stalled) before after at
      (of_parts end gather attempt wanted stalled)
  pub kept : (gather : Room) (attempt : Attempt) (wanted : Wanted)
      → IsKept (of_parts begun gather attempt wanted stalled)
      → IsKept (of_parts end gather attempt wanted stalled)
  pub over : (gather : Room) (attempt : Attempt) (wanted : Wanted) (status : StatusWord)
      → exchange_turn (of_parts end gather attempt wanted stalled) ≡ Done status → end ≡ begun
  pub only : (content : List ℕ) → HasOnly content begun → HasOnly content end

-- the invariant of an exchange still holds at another stage of its end, unless it has stalled
pub still_kept : (end next : Hosting) (stalled : Bool) (gather : Room) (attempt : Attempt)
    (wanted : Wanted) → stalled ≡ false → IsKept (of_parts end gather attempt wanted stalled)
    → IsKept (of_parts next gather attempt wanted stalled)
still_kept end next stalled gather attempt wanted going kept = record {
  counted = kept.counted;
  room = kept.room;
  fits = kept.fits;
  stalled_at_end = λ is. let no : true ≡ false = sym is ∙ going in absurd (cc);
}

-- a run of data equals one turn for each byte
data_run : (bytes : List ℕ) (end last : Hosting) (gather : Room) (attempt : Attempt)
    (wanted : Wanted) → IsKept (of_parts end gather attempt wanted false)
    → Steps IsDataTurn end bytes last
    → Steps SendsOne (of_parts end gather attempt wanted false) bytes
    (of_parts last gather attempt wanted false)
data_run [] end last gather attempt wanted kept steps =
    ap (λ (h : Hosting). of_parts h gather attempt wanted false) steps
data_run (b ∷ bytes) end last gather attempt wanted kept steps =
    let ex = of_parts end gather attempt wanted false in
    let next = steps.0 in
    let turn = steps.1 in (
      of_parts next gather attempt wanted false,
      turned ex (Sends b) next kept refl (sym turn.sends) turn.after turn.keeps
          (λ none. absurd (none b refl)) (λ front byte stands is.
          rw (same_sent b byte is) at (turn.goes_on front stands)),
      data_run bytes next last gather attempt wanted
          (still_kept end next false gather attempt wanted refl kept) steps.2,
    )

pub data_run_of : (bytes : List ℕ) (end last : Hosting) (gather : Room) (attempt : Attempt)
    (wanted : Wanted) (stalled : Bool) → stalled ≡ false
    → IsKept (of_parts end gather attempt wanted stalled) → Steps IsDataTurn end bytes last
    → Steps SendsOne (of_parts end gather attempt wanted stalled) bytes
    (of_parts last gather attempt wanted stalled)
data_run_of bytes end last gather attempt wanted stalled going =
    rw going (λ kept steps. data_run bytes end last gather attempt wanted kept steps)

data_over : (bytes : List ℕ) (end last : Hosting) (gather : Room) (attempt : Attempt)
    (wanted : Wanted) (status : StatusWord) → Steps IsDataTurn end bytes last
    → exchange_turn (of_parts last gather attempt wanted false) ≡ Done status → last ≡ end
data_over [] end last gather attempt wanted status steps done = steps
data_over (b ∷ bytes) end last gather attempt wanted status steps done =
    let next = steps.0 in
    let ex = of_parts end gather attempt wanted false in
    let back : last ≡ next =
    data_over bytes next last gather attempt wanted status steps.2 done in
    let first : next ≡ end = ap (λ (e : ExchangeOf). e.host)
    (over_by_turn ex ex next status refl refl steps.1.after
    (ap (λ (h : Hosting). exchange_turn (of_parts h gather attempt wanted false)) (sym back)
    ∙ done)) in
    back ∙ first

data_only : (bytes : List ℕ) (end last : Hosting) (content : List ℕ)
    → Steps IsDataTurn end bytes last → HasOnly content end → HasOnly content last
data_only [] end last content steps only = rw steps only
data_only (b ∷ bytes) end last content steps only =
    data_only bytes steps.0 last content steps.2 (rw steps.1.after only)

-- the data to send have been written
pub run_handed : (begun end : Hosting) (stalled : Bool) (before after : List ℕ) (at : ℕ)
    → stalled ≡ false → HandsOut IsDataTurn begun before after at end
    → HasHanded begun stalled before after at end
run_handed begun end stalled before after at going handed =
    rw going (record {
      out = λ gather attempt wanted kept. record {
        fits = handed.fits;
        steps = data_run (take at after) begun end gather attempt wanted kept handed.steps;
        behind = handed.behind;
      };
      kept = λ gather attempt wanted kept. still_kept begun end false gather attempt wanted refl
          kept;
      over = λ gather attempt wanted status done. data_over (take at after) begun end gather
          attempt wanted status handed.steps done;
      only = λ content only. data_only (take at after) begun end content handed.steps only;
    })

module _ (begun end next : Hosting) (stalled : Bool) (before after : List ℕ) (at : ℕ)
    (turn : HostTurn) (going : stalled ≡ false) (below : at < length after)
    (same : length after ≡ length before) (handed : HasHanded begun stalled before after at end)
    (is : turn ≡ turn_of end) (went : next ≡ at_stage end (after_turn end))
    (request : IsRequest next) (stays : ((byte : ℕ) → turn ≡ Sends byte → ⊥) → next ≡ end)
    (goes_on : (front : Front) (byte : ℕ) → HostStandsAt end front → turn ≡ Sends byte
    → (new : Front) × GoesOn front (Terminal, byte) new × HostStandsAt next new) where
  one_turn : (gather : Room) (attempt : Attempt) (wanted : Wanted)
      → IsKept (of_parts begun gather attempt wanted stalled)
      → IsTurn (of_parts end gather attempt wanted stalled) turn
      (of_parts next gather attempt wanted stalled)
  one_turn gather attempt wanted kept = turned (of_parts end gather attempt wanted stalled) turn
      next (handed.kept gather attempt wanted kept) going is went request stays goes_on

  -- one more character is written
  pub handed_on : (byte : ℕ) → turn ≡ Sends byte
      → HasHanded begun stalled before (set after at byte) (at + 1) next
  handed_on byte sends = record {
    out = λ gather attempt wanted kept.
        one_handed SendsOne (of_parts begun gather attempt wanted stalled)
        (of_parts end gather attempt wanted stalled) (of_parts next gather attempt wanted stalled)
        before after at byte below same (handed.out gather attempt wanted kept)
        (rw sends at (one_turn gather attempt wanted kept));
    kept = λ gather attempt wanted kept. still_kept end next stalled gather attempt wanted going
        (handed.kept gather attempt wanted kept);
    over = λ gather attempt wanted status done.
        let ex = of_parts end gather attempt wanted stalled in
        let back : next ≡ end = ap (λ (e : ExchangeOf). e.host)
        (over_by_turn ex ex next status refl going went done) in
        back ∙ handed.over gather attempt wanted status
        (ap (λ (h : Hosting). exchange_turn (of_parts h gather attempt wanted stalled)) (sym back)
        ∙ done);
    only = λ content only. rw went (handed.only content only);
  }

  -- or none is, and `stop` is the turn
  pub handed_up_to : ((byte : ℕ) → turn ≡ Sends byte → ⊥) → (gather : Room) (attempt : Attempt)
      (wanted : Wanted) → IsKept (of_parts begun gather attempt wanted stalled)
      → IsHandingOut IsTurn (of_parts begun gather attempt wanted stalled) before after
      (record { count = at; stop = Some turn }) (of_parts next gather attempt wanted stalled)
  handed_up_to none gather attempt wanted kept =
      let back = stays none in
      let step = one_turn gather attempt wanted kept in
      let S : Hosting → Type 0 = λ h. HandsOut SendsOne
      (of_parts begun gather attempt wanted stalled) before after at
      (of_parts h gather attempt wanted stalled) in
      let Q : Hosting → Type 0 = λ h. IsTurn (of_parts h gather attempt wanted stalled) turn
      (of_parts next gather attempt wanted stalled) in
      record {
        sent = subst S (sym back) (handed.out gather attempt wanted kept);
        stop = (omega (arith, below, same), subst Q (sym back) step, none);
      }

  -- the end has not changed
  pub over_still : ((byte : ℕ) → turn ≡ Sends byte → ⊥) → (gather : Room) (attempt : Attempt)
      (wanted : Wanted) (status : StatusWord)
      → exchange_turn (of_parts next gather attempt wanted stalled) ≡ Done status → next ≡ begun
  over_still none gather attempt wanted status done =
      let back = stays none in
      back ∙ handed.over gather attempt wanted status
      (ap (λ (h : Hosting). exchange_turn (of_parts h gather attempt wanted stalled)) (sym back)
      ∙ done)

  pub kept_still : (gather : Room) (attempt : Attempt) (wanted : Wanted)
      → IsKept (of_parts begun gather attempt wanted stalled)
      → IsKept (of_parts next gather attempt wanted stalled)
  kept_still gather attempt wanted kept = still_kept end next stalled gather attempt wanted going
      (handed.kept gather attempt wanted kept)

  pub only_still : (content : List ℕ) → HasOnly content begun → HasOnly content next
  only_still content only = rw went (handed.only content only)

-- the buffer is full
pub handed_all : (begun end : Hosting) (stalled : Bool) (before after : List ℕ) (at : ℕ)
    → length after ≤ at → at ≤ length after → length after ≡ length before
    → HasHanded begun stalled before after at end
    → (gather : Room) (attempt : Attempt) (wanted : Wanted)
    → IsKept (of_parts begun gather attempt wanted stalled)
    → IsHandingOut IsTurn (of_parts begun gather attempt wanted stalled) before after
    (record { count = length after; stop = None }) (of_parts end gather attempt wanted stalled)
handed_all begun end stalled before after at beyond within same handed gather attempt wanted kept =
    let e : at ≡ length after = omega (arith, beyond, within) in
    record {
      sent = rw e at (handed.out gather attempt wanted kept);
      stop = same;
    }
