-- Characters of a buffer that an exchange takes one after another.
use Rattle.std.proofs.Common.{◌≡◌, ℕ, ◌+◌, ◌<◌, ◌≤◌, List, [], ◌∷◌, ◌++◌, ◌⊎◌, inl, inr, Option, Some, None, true, false, length, take, get_or, refl, sym, ap, subst, ◌∙◌, arith, Bool, drop, append_assoc, length-append}
use Rattle.std.proofs.Math.Seq.{take-add}
use Rattle.std.specs.List.{flat_map}
use Rattle.std.specs.Prelude.{Result, Ok, Err}
use Rattle.apdu_core.specs.CommandBytes.{Command}
use Rattle.t0_core.specs.declared.end.End.TheVariants.{Card}
use Rattle.t0_core.specs.declared.host_end.HostTurn.TheVariants.{Failed}
use Rattle.t0_core.specs.declared.line_fault.LineFault.{LineFault}
use Rattle.t0_core.specs.declared.line_fault.LineFault.TheVariants.{AfterEnd, TooLong, Stalled}
use Rattle.t0_core.specs.Dialogue.{Dialogue}
use Rattle.t0_core.specs.Front.{Front, GoesOn, Ends, brought}
use Rattle.t0_core.specs.Meaning.{received}
use Rattle.t0_core.specs.Room.{Room}
use Rattle.t0_core.specs.HostSide.{Hosting, fault_of, data_sent}
use Rattle.t0_core.specs.HostLaws.{after_done}
use Rattle.t0_core.specs.DataSent.{both, IsKnown}
use Rattle.t0_core.specs.DataSentLaws.{takes_known, takes_same}
use Rattle.exchange_core.specs.declared.attempt.Attempt.{Attempt}
use Rattle.exchange_core.specs.declared.wanted.Wanted.{Wanted}
use Rattle.exchange_core.specs.Gathered.{UnitOf}
use Rattle.t0_core.specs.HostMark.{HasOnly}
use Rattle.t0_core.specs.Buffers.{Steps, IsDataTaken, Taker}
use Rattle.exchange_core.specs.Buffers.{IsTakingAll}
use Rattle.exchange_core.specs.ExchangeSide.{ExchangeOf, UnderWay, IsKept, IsBounded, Continues, Stall, GoesByCharacters, so_far, ended_with, exchange_turn, exchange_sent, is_final}
use Rattle.exchange_core.specs.OwnedExchange.{of_parts}
use Rattle.exchange_core.specs.ExchangeSteps.{IsTaking, TakesOne}
use Rattle.exchange_core.proofs.ComesToLemmas.{at_end_fault, fault_leads, none_at_end, stall_leads, take_leads}
use Rattle.exchange_core.proofs.ExchangeLemmas.{goes_further}
use Rattle.exchange_core.specs.BufferLaws.{one_taken, steps_on}
use Rattle.exchange_core.specs.OwnedLaws.{bounded}

-- ---- one character

pub takes_as : {G E : Front → Type 0} {H D : Dialogue → Type 0}
    → ((new : Front) × G new × E new) ⊎ ((d : Dialogue) × H d × D d)
    → ((new : Front) × G new) ⊎ ((d : Dialogue) × H d)
takes_as (inl goes) = inl (goes.0, goes.1)
takes_as (inr ends) = inr (ends.0, ends.1)

-- more bytes, within the room
pub more_bounded : (ex new : ExchangeOf) → IsKept ex → new.attempt ≡ ex.attempt
    → new.gather.limit ≡ ex.gather.limit → length ex.gather.bytes ≤ length new.gather.bytes
    → length new.gather.bytes ≤ new.gather.limit → IsBounded new
more_bounded ex new kept same limit more fits = record {
  room = omega (arith, limit, kept.room);
  fits = fits;
  tpdus = omega (arith, (bounded ex kept).tpdus, more, ap (λ (a : Attempt). a.number) same);
}

module _ (ex new : ExchangeOf) (byte : ℕ) (kept : IsKept ex) (bounds : IsBounded new)
    (limit : new.gather.limit ≡ ex.gather.limit) where
  -- it is taken
  pub takes : None ≡ fault_of ex.host ex.gather byte
      → ((c : Command) (units : List UnitOf) (first : Option Dialogue) (front next : Front)
      → UnderWay c ex units first front → GoesOn front (Card, byte) next
      → UnderWay c new units first next)
      → ((c : Command) (units : List UnitOf) (first : Option Dialogue) (front : Front)
      (d : Dialogue) → UnderWay c ex units first front → Ends front (Card, byte) d
      → Continues c new units first d)
      → ((c : Command) (units : List UnitOf) (first : Option Dialogue) (front : Front)
      → UnderWay c ex units first front
      → ((next : Front) × GoesOn front (Card, byte) next)
      ⊎ ((d : Dialogue) × Ends front (Card, byte) d))
      → (GoesByCharacters ex → GoesByCharacters new) → exchange_sent new ≡ exchange_sent ex
      → IsTaking ex byte (Ok tt) new
  takes taken goes_on ends came by_characters sent = record {
    fault = sym taken;
    bounds = bounds;
    limit = limit;
    after_end = λ over. absurd (none_at_end ex byte kept taken over);
    unchanged = tt;
    failed = tt;
    goes_on = goes_on;
    full = λ c units first front next under goes. tt;
    came = came;
    ends = ends;
    by_characters = by_characters;
    sent = sent;
    led = λ c before leads.
        take_leads c before ex new byte kept taken (goes_on c) (ends c) (came c) leads;
  }

  -- the exchange stalls
  pub stalls : None ≡ fault_of ex.host ex.gather byte → exchange_turn new ≡ Failed
      → ((c : Command) (units : List UnitOf) (first : Option Dialogue) (front next : Front)
      → UnderWay c ex units first front → GoesOn front (Card, byte) next → ⊥)
      → ((c : Command) (units : List UnitOf) (first : Option Dialogue) (front : Front)
      (d : Dialogue) → UnderWay c ex units first front → Ends front (Card, byte) d
      → Stall c (units ++ ended_with first d ∷ []))
      → ((c : Command) (units : List UnitOf) (first : Option Dialogue) (front : Front)
      → UnderWay c ex units first front
      → ((next : Front) × GoesOn front (Card, byte) next)
      ⊎ ((d : Dialogue) × Ends front (Card, byte) d))
      → IsTaking ex byte (Err Stalled) new
  stalls taken failed goes_on ends came = record {
    fault = inr (refl, sym taken);
    bounds = bounds;
    limit = limit;
    after_end = λ over. absurd (none_at_end ex byte kept taken over);
    unchanged = λ other. absurd (cc);
    failed = λ _. failed;
    goes_on = λ c units first front next under goes.
        absurd (goes_on c units first front next under goes);
    full = λ c units first front next under goes.
        absurd (goes_on c units first front next under goes);
    came = λ c units first front under. tt;
    by_characters = tt;
    sent = tt;
    ends = λ c units first front d under end. (refl, ends c units first front d under end);
    led = λ c before leads final.
        stall_leads c before ex new byte kept taken failed (goes_on c) (ends c) (came c) leads;
  }

  -- or it is a fault
  pub fails : (fault : LineFault) → fault_of ex.host ex.gather byte ≡ Some fault
      → (is_final fault ≡ false → new ≡ ex) → (is_final fault ≡ true → exchange_turn new ≡ Failed)
      → ((c : Command) (units : List UnitOf) (first : Option Dialogue) (front next : Front)
      → UnderWay c ex units first front → GoesOn front (Card, byte) next
      → (fault ≡ TooLong) × (length ex.gather.bytes ≡ ex.gather.limit)
      × (brought next ≡ brought front ++ byte ∷ []))
      → ((c : Command) (units : List UnitOf) (first : Option Dialogue) (front : Front)
      (d : Dialogue) → UnderWay c ex units first front → Ends front (Card, byte) d → ⊥)
      → IsTaking ex byte (Err fault) new
  fails fault is unchanged failed long ends = record {
    fault = inl is;
    bounds = bounds;
    limit = limit;
    after_end = λ over.
        let e : Some fault ≡ Some AfterEnd = sym is ∙ at_end_fault ex byte kept over in cc;
    unchanged = unchanged;
    failed = failed;
    goes_on = λ c units first front next under goes.
        (long c units first front next under goes).0;
    full = λ c units first front next under goes.
        let all = long c units first front next under goes in (all.1, all.2);
    came = λ c units first front under. tt;
    by_characters = tt;
    sent = tt;
    ends = λ c units first front d under end. absurd (ends c units first front d under end);
    led = λ c before leads final.
        fault_leads c before ex new byte fault kept is final (failed final) (sym limit) leads;
  }

-- ---- the characters of a buffer

-- since it began, an exchange has taken `at` characters of the buffer
pub record HasTaken (old now : ExchangeOf) (bytes : List ℕ) (at : ℕ) : Type 0 where
  pub kept : IsKept now
  pub limit : now.gather.limit ≡ old.gather.limit
  pub steps : Steps TakesOne old (take at bytes) now
  pub only : (content : List ℕ) → HasOnly content old.host → HasOnly content now.host

pub none_yet : (old : ExchangeOf) (bytes : List ℕ) → IsKept old → HasTaken old old bytes 0
none_yet old bytes kept = record {
  kept = kept;
  limit = refl;
  steps = refl;
  only = λ content only. only;
}

-- a run of the card's data is one character after another
module _ (attempt : Attempt) (wanted : Wanted) (stalled : Bool) where
  abbrev exchange_of : Taker → ExchangeOf
  exchange_of t = of_parts t.host t.room attempt wanted stalled

  longer : (old new : Taker) (byte : ℕ) → IsDataTaken old byte new
      → length new.room.bytes ≡ length old.room.bytes + 1
  longer old new byte is = ap (λ (r : Room). length r.bytes) is.room
      ∙ length-append old.room.bytes (byte ∷ [])

  data_kept : (old new : Taker) (byte : ℕ) → IsKept (exchange_of old)
      → IsDataTaken old byte new → IsKept (exchange_of new)
  data_kept old new byte kept is = record {
    counted = record {
      valid = kept.counted.valid;
      begun = omega (arith, kept.counted.begun, longer old new byte is);
      number = kept.counted.number;
    };
    room = omega (arith, kept.room, ap (λ (r : Room). r.limit) is.room);
    fits = is.fits;
    stalled_at_end = λ stall.
        let done = kept.stalled_at_end stall in
        let no : None ≡ Some AfterEnd =
        sym is.fault ∙ after_done old.host old.room byte done.0 done.1 in absurd (cc);
  }

  -- the same if it may be none
  pub kept_either : (does : Bool) (old new : Taker) (byte : ℕ) → IsKept (exchange_of old)
      → (does ≡ true → IsDataTaken old byte new)
      → (does ≡ false → (new.host ≡ old.host) × (new.room ≡ old.room))
      → IsKept (exchange_of new)
  kept_either true old new byte kept taken stays = data_kept old new byte kept (taken refl)
  kept_either false old new byte kept taken stays =
      let same = stays refl in
      subst (λ (h : Hosting). IsKept (of_parts h new.room attempt wanted stalled)) (sym same.0)
      (subst (λ (r : Room). IsKept (of_parts old.host r attempt wanted stalled)) (sym same.1)
      kept)

  pub data_taken : (old new : Taker) (byte : ℕ) → IsKept (exchange_of old)
      → IsDataTaken old byte new → IsTaking (exchange_of old) byte (Ok tt) (exchange_of new)
  data_taken old new byte kept is =
      let more = longer old new byte is in
      takes (exchange_of old) (exchange_of new) byte kept
      (more_bounded (exchange_of old) (exchange_of new) kept refl
      (ap (λ (r : Room). r.limit) is.room) (omega (arith, more)) is.fits)
      (ap (λ (r : Room). r.limit) is.room) (sym is.fault)
      (λ command units first front new' seen goes.
      let on = is.goes_on front new' seen.stands goes in
      goes_further command (exchange_of old) new.host new.room units first front new'
      (Card, byte)
      (record {
        header = ap (λ (h : Hosting). h.header) is.host;
        p3 = ap (λ (h : Hosting). h.p3) is.host;
        direction = ap (λ (h : Hosting). h.direction) is.host;
        content = ap (λ (h : Hosting). h.content) is.host;
      }) is.keeps seen goes on.0
      (ap (λ (r : Room). r.bytes) is.room ∙ ap (λ bs. bs ++ byte ∷ []) seen.gathered
      ∙ append_assoc (flat_map received (so_far units first)) (brought front) (byte ∷ [])
      ∙ ap (λ bs. flat_map received (so_far units first) ++ bs) (sym on.1)))
      (λ command units first front d seen ends. absurd (is.stays front d seen.stands ends))
      (λ command units first front seen. inl (is.came front seen.stands))
      (λ known. (
        known.0,
        subst (λ (h : Hosting). IsKnown (data_sent h)) (sym is.host)
            (takes_known old.host byte known.1),
      ))
      (ap (both attempt.sent) (takes_same old.host new.host old.room byte is.host is.fault))

  pub run_kept : (bytes : List ℕ) (old new : Taker) → IsKept (exchange_of old)
      → Steps IsDataTaken old bytes new → IsKept (exchange_of new)
  run_kept [] old new kept same = subst (λ (t : Taker). IsKept (exchange_of t)) (sym same) kept
  run_kept (b ∷ bytes) old new kept (next, is, rest) =
      run_kept bytes next new (data_kept old next b kept is) rest

  pub run_steps : (bytes : List ℕ) (old new : Taker) → IsKept (exchange_of old)
      → Steps IsDataTaken old bytes new
      → Steps TakesOne (exchange_of old) bytes (exchange_of new)
  run_steps [] old new kept same = ap exchange_of same
  run_steps (b ∷ bytes) old new kept (next, is, rest) = (
    exchange_of next,
    data_taken old next b kept is,
    run_steps bytes next new (data_kept old next b kept is) rest,
  )

  pub run_limit : (bytes : List ℕ) (old new : Taker) → Steps IsDataTaken old bytes new
      → new.room.limit ≡ old.room.limit
  run_limit [] old new same = ap (λ (t : Taker). t.room.limit) same
  run_limit (b ∷ bytes) old new (next, is, rest) =
      run_limit bytes next new rest ∙ ap (λ (r : Room). r.limit) is.room

  pub run_only : (bytes : List ℕ) (old new : Taker) (content : List ℕ)
      → Steps IsDataTaken old bytes new → HasOnly content old.host → HasOnly content new.host
  run_only [] old new content same only =
      subst (λ (t : Taker). HasOnly content t.host) (sym same) only
  run_only (b ∷ bytes) old new content (next, is, rest) only =
      run_only bytes next new content rest
      (subst (λ (h : Hosting). HasOnly content h) (sym is.host) only)

  -- the run is the next of the buffer
  pub run_taken : (old : ExchangeOf) (now next : Taker) (bytes : List ℕ) (at n : ℕ)
      → HasTaken old (exchange_of now) bytes at
      → Steps IsDataTaken now (take n (drop at bytes)) next
      → HasTaken old (exchange_of next) bytes (at + n)
  run_taken old now next bytes at n taken run = record {
    kept = run_kept (take n (drop at bytes)) now next taken.kept run;
    limit = run_limit (take n (drop at bytes)) now next run ∙ taken.limit;
    steps = subst (λ bs. Steps TakesOne old bs (exchange_of next)) (sym (take-add at n bytes))
        (steps_on TakesOne (take at bytes) (take n (drop at bytes)) old (exchange_of now)
        (exchange_of next) taken.steps
        (run_steps (take n (drop at bytes)) now next taken.kept run));
    only = λ content only. run_only (take n (drop at bytes)) now next content run
        (taken.only content only);
  }

-- one more character
pub taken_on : (old now next : ExchangeOf) (bytes : List ℕ) (at : ℕ)
    (result : Result (Unit {0}) LineFault) → at < length bytes → HasTaken old now bytes at
    → IsTaking now (get_or bytes at 0) result next → result ≡ Ok tt → IsKept next
    → ((content : List ℕ) → HasOnly content now.host → HasOnly content next.host)
    → HasTaken old next bytes (at + 1)
taken_on old now next bytes at result below taken step is kept only = record {
  kept = kept;
  limit = step.limit ∙ taken.limit;
  steps = one_taken TakesOne old now next bytes at below taken.steps
      (subst (λ r. IsTaking now (get_or bytes at 0) r next) is step);
  only = λ content has. only content (taken.only content has);
}

-- one character that is a fault
pub taken_up_to : (old now next : ExchangeOf) (bytes : List ℕ) (at : ℕ)
    (result : Result (Unit {0}) LineFault) (fault : LineFault) → at < length bytes
    → HasTaken old now bytes at → IsTaking now (get_or bytes at 0) result next
    → result ≡ Err fault
    → IsTakingAll IsTaking old bytes (record { count = at; outcome = Err fault }) next
taken_up_to old now next bytes at result fault below taken step is = record {
  last = now;
  steps = taken.steps;
  outcome = (below, subst (λ r. IsTaking now (get_or bytes at 0) r next) is step);
}

-- all characters
pub taken_all : (old now : ExchangeOf) (bytes : List ℕ) (at : ℕ) → length bytes ≤ at
    → at ≤ length bytes → HasTaken old now bytes at
    → IsTakingAll IsTaking old bytes (record { count = length bytes; outcome = Ok tt }) now
taken_all old now bytes at beyond within taken =
    let e : at ≡ length bytes = omega (arith, beyond, within) in
    record {
      last = now;
      steps = subst (λ n. Steps TakesOne old (take n bytes) now) e taken.steps;
      outcome = (refl, refl);
    }
