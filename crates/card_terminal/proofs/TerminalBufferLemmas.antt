-- What an exchange does with a buffer, its terminal does.
use Rattle.std.proofs.Common.{◌≡◌, ◌<◌, ℕ, List, [], ◌∷◌, length, take, get_or, inl, inr, refl, sym, subst, ◌∙◌, ap, true, false, Bool, Option, Some, None}
use Rattle.std.specs.Prelude.{Result, Ok, Err, MatchResult, MatchOption, IfErr, not}
use Rattle.apdu_core.specs.StatusWord.{ok}
use Rattle.t0_core.specs.declared.host_end.HostTurn.{HostTurn}
use Rattle.t0_core.specs.declared.host_end.HostTurn.TheVariants.{Sends, Done, Failed}
use Rattle.t0_core.specs.declared.line_fault.LineFault.{LineFault}
use Rattle.t0_core.specs.declared.line_fault.LineFault.TheVariants.{AfterEnd, NotListening}
use Rattle.t0_core.specs.Buffers.{Steps}
use Rattle.exchange_core.specs.declared.handed_out.HandedOut.{HandedOut}
use Rattle.exchange_core.specs.declared.taken.Taken.{Taken}
use Rattle.exchange_core.specs.Buffers.{IsHandingOut, IsTakingAll}
use Rattle.card_terminal.specs.Conversing.{is_done}
use Rattle.exchange_core.specs.ExchangeSide.{ExchangeOf, IsBounded, exchange_turn, is_final}
use Rattle.exchange_core.specs.ExchangeSteps.{IsTurn, IsTaking, SendsOne, TakesOne}
use Rattle.card_terminal.specs.TerminalSide.{OperationOf, IsSettled, GoesOver, GoesToNext, with_exchange}
use Rattle.card_terminal.specs.TerminalSteps.{IsTerminalTurn, IsTerminalHandingOut, IsTerminalTaking}
use Rattle.exchange_core.specs.TurnLaws.{not_listening}
use Rattle.card_terminal.proofs.TerminalStepLemmas.{turns, takes, stays}

-- a turn of a terminal with an operation
abbrev pub TurnsOf : Option OperationOf → HostTurn → Option OperationOf → Type 0
TurnsOf s turn t = IsTerminalTurn s (Some turn) t

-- ---- characters to send

-- a terminal that sends has not ended
sends_settled : (o : OperationOf) (ex next : ExchangeOf) (byte : ℕ) → SendsOne ex byte next
    → IsSettled (with_exchange o ex)
sends_settled o ex next byte step = λ done.
    let no : Sends byte ≡ Done ok = step.turn_is ∙ done in absurd (cc)

all_sent : (o : OperationOf) (bs : List ℕ) (ex last : ExchangeOf)
    → IsSettled (with_exchange o ex) → Steps SendsOne ex bs last → IsSettled (with_exchange o last)
    → Steps (λ s b t. TurnsOf s (Sends b) t) (Some (with_exchange o ex)) bs
    (Some (with_exchange o last))
all_sent o [] ex last settled same at_last = ap (λ x. Some (with_exchange o x)) same
all_sent o (b ∷ bs) ex last settled (next, step, rest) at_last =
    let then_settled = after bs rest in (
      Some (with_exchange o next),
      turns (with_exchange o ex) (with_exchange o next) (Sends b) step refl step.bounds
          then_settled,
      all_sent o bs next last then_settled rest at_last,
    )
  where
    after : (cs : List ℕ) → Steps SendsOne next cs last → IsSettled (with_exchange o next)
    after [] same = subst (λ x. IsSettled (with_exchange o x)) same at_last
    after (c ∷ cs) (then_next, then_step, then_rest) = sends_settled o next then_next c then_step

pub hands_out : (o new : OperationOf) (before after : List ℕ) (handed : HandedOut) → IsSettled o
    → IsHandingOut IsTurn o.exchange before after handed new.exchange
    → new ≡ with_exchange o new.exchange → IsSettled new
    → IsHandingOut TurnsOf (Some o) before after handed (Some new)
hands_out o new before after handed settled handing same now_settled = record {
  sent = record {
    fits = handing.sent.fits;
    steps = rw same (all_sent o (take handed.count after) o.exchange new.exchange settled
        handing.sent.steps (rw same at now_settled));
    behind = handing.sent.behind;
  };
  stop = stopped handed.stop handing.stop;
}
  where
    stopped : (stop : Option HostTurn) → MatchOption stop (handed.count ≡ length before)
        (λ turn. (handed.count < length before) × IsTurn new.exchange turn new.exchange
        × ((byte : ℕ) → turn ≡ Sends byte → ⊥))
        → MatchOption stop (handed.count ≡ length before)
        (λ turn. (handed.count < length before) × TurnsOf (Some new) turn (Some new)
        × ((byte : ℕ) → turn ≡ Sends byte → ⊥))
    stopped None full = full
    stopped (Some turn) (less, step, none) =
        (less, turns new new turn step refl step.bounds now_settled, none)

-- ---- characters to take

-- an exchange that takes a character has not ended
takes_settled : (o : OperationOf) (ex next : ExchangeOf) (byte : ℕ) → TakesOne ex byte next
    → IsSettled (with_exchange o ex)
takes_settled o ex next byte step = λ done.
    let no : Ok tt ≡ Err AfterEnd = step.after_end (inr (ok, done)) in absurd (cc)

-- the next command may follow the last character
all_taken : (o new : OperationOf) (bs : List ℕ) (ex last : ExchangeOf)
    → IsSettled (with_exchange o ex) → Steps TakesOne ex bs last
    → GoesOver (with_exchange o last) new
    → Steps (λ s b t. IsTerminalTaking s b (Ok tt) t) (Some (with_exchange o ex)) bs (Some new)
all_taken o new [] ex last settled same over =
    ap (λ x. Some x) (stays (with_exchange o ex) new last settled over same)
all_taken o new (b ∷ []) ex last settled (next, step, same) over = (
  Some new,
  takes (with_exchange o ex) new next settled
      (subst (λ x. GoesOver (with_exchange o x) new) same over) b (Ok tt) step,
  refl,
)
all_taken o new (b ∷ c ∷ cs) ex last settled (next, step, rest) over =
    let then_settled = takes_settled o next rest.0 c rest.1 in (
      Some (with_exchange o next),
      takes (with_exchange o ex) (with_exchange o next) next settled (inl (then_settled, refl)) b
          (Ok tt) step,
      all_taken o new (c ∷ cs) next last then_settled rest over,
    )

-- a character while the terminal sends
out_of_turn : (o : OperationOf) (sent byte : ℕ) → exchange_turn o.exchange ≡ Sends sent
    → IsBounded o.exchange → IsTerminalTaking (Some o) byte (Err NotListening) (Some o)
out_of_turn o sent byte sends bounds = record {
  fault = inl (not_listening o.exchange sent byte sends);
  after_end = λ none. let no : true ≡ false =
      sym (ap (λ t. not (is_done t)) sends) ∙ none in absurd (cc);
  bounds = bounds;
  unchanged = λ _. refl;
  failed = λ final. absurd (cc);
  by_characters = tt;
  led = λ commands came l final. absurd (cc);
}

-- a fault once the next command has begun: the terminal sends next
refused_next : (o new : OperationOf) (bytes : List ℕ) (count : ℕ) (fault : LineFault)
    (ex : ExchangeOf) → IsSettled o
    → IsTakingAll IsTaking o.exchange bytes (record { count = count; outcome = Err fault }) ex
    → GoesToNext (with_exchange o ex) new
    → IsTakingAll IsTerminalTaking (Some o) bytes
    (record { count = count; outcome = Err NotListening }) (Some new)
refused_next o new bytes count fault ex settled taking next =
    let step = taking.outcome.1 in
    let back : ex ≡ taking.last = step.unchanged (not_final (is_final fault) refl step.failed) in
    record {
      last = Some new;
      steps = all_taken o new (take count bytes) o.exchange taking.last settled taking.steps
          (inr (rw back at next));
      outcome = (
        taking.outcome.0,
        out_of_turn new next.sends.0 (get_or bytes count 0) next.sends.1 next.bounds,
      );
    }
  where
    not_final : (v : Bool) → is_final fault ≡ v
        → (is_final fault ≡ true → exchange_turn ex ≡ Failed) → is_final fault ≡ false
    not_final true is failed = let done = next.done in let no = failed is in absurd (cc)
    not_final false is failed = is

same_fault : (a b : LineFault) → ◌≡◌ {A = Result (Unit {0}) LineFault} (Err a) (Err b) → a ≡ b
same_fault a b e = cc

-- a character that is a fault does not end the exchange
last_settled : (o : OperationOf) (last ex : ExchangeOf) (byte : ℕ) (fault : LineFault)
    → IsTaking last byte (Err fault) ex → IsSettled (with_exchange o ex)
    → IsSettled (with_exchange o last)
last_settled o last ex byte fault step settled = by (is_final fault) refl
  where
    by : (v : Bool) → is_final fault ≡ v → IsSettled (with_exchange o last)
    by true is = λ done.
        let e : fault ≡ AfterEnd = same_fault fault AfterEnd (step.after_end (inr (ok, done))) in
        let no : true ≡ false = sym is ∙ ap is_final e in absurd (cc)
    by false is = subst (λ x. IsSettled (with_exchange o x)) (step.unchanged is) settled

-- all are taken, or one is a fault, and no command follows
takes_all : (o new : OperationOf) (bytes : List ℕ) (count : ℕ)
    (result : Result (Unit {0}) LineFault) (ex : ExchangeOf) → IsSettled o
    → IsTakingAll IsTaking o.exchange bytes (record { count = count; outcome = result }) ex
    → GoesOver (with_exchange o ex) new
    → IfErr result (λ _. IsSettled (with_exchange o ex) × (new ≡ with_exchange o ex))
    → IsTakingAll IsTerminalTaking (Some o) bytes (record { count = count; outcome = result })
    (Some new)
takes_all o new bytes count (Ok u) ex settled taking over none = record {
  last = Some new;
  steps = all_taken o new (take count bytes) o.exchange taking.last settled taking.steps
      (subst (λ x. GoesOver (with_exchange o x) new) taking.outcome.1 over);
  outcome = (taking.outcome.0, refl);
}
takes_all o new bytes count (Err fault) ex settled taking over none =
    let step = taking.outcome.1 in
    let before = last_settled o taking.last ex (get_or bytes count 0) fault step none.0 in
    record {
      last = Some (with_exchange o taking.last);
      steps = all_taken o (with_exchange o taking.last) (take count bytes) o.exchange taking.last
          settled taking.steps (inl (before, refl));
      outcome = (
        taking.outcome.0,
        takes (with_exchange o taking.last) new ex before (inl none) (get_or bytes count 0)
            (Err fault) step,
      );
    }

pub takes_and_stays : (o new : OperationOf) (bytes : List ℕ) (count : ℕ)
    (result : Result (Unit {0}) LineFault) (ex : ExchangeOf) → IsSettled o
    → IsTakingAll IsTaking o.exchange bytes (record { count = count; outcome = result }) ex
    → IsSettled (with_exchange o ex) × (new ≡ with_exchange o ex)
    → IsTakingAll IsTerminalTaking (Some o) bytes (record { count = count; outcome = result })
    (Some new)
takes_and_stays o new bytes count result ex settled taking both =
    takes_all o new bytes count result ex settled taking (inl both) (either result)
  where
    either : (r : Result (Unit {0}) LineFault)
        → IfErr r (λ _. IsSettled (with_exchange o ex) × (new ≡ with_exchange o ex))
    either (Ok u) = tt
    either (Err fault) = both

-- the next command has begun, and a character that was a fault is out of turn
pub takes_to_next : (o new : OperationOf) (bytes : List ℕ) (count : ℕ)
    (result : Result (Unit {0}) LineFault) (told : Taken) (ex : ExchangeOf) → IsSettled o
    → IsTakingAll IsTaking o.exchange bytes (record { count = count; outcome = result }) ex
    → GoesToNext (with_exchange o ex) new
    → MatchResult result (λ _. told ≡ record { count = count; outcome = result })
    (λ _. told ≡ record { count = count; outcome = Err NotListening })
    → IsTakingAll IsTerminalTaking (Some o) bytes told (Some new)
takes_to_next o new bytes count (Ok u) told ex settled taking next is =
    rw is (takes_all o new bytes count (Ok u) ex settled taking (inr next) tt)
takes_to_next o new bytes count (Err fault) told ex settled taking next is =
    rw is (refused_next o new bytes count fault ex settled taking next)

-- ---- the same for the terminal as contracts see it

pub none_handed_out : (old seen : Option OperationOf) (before after : List ℕ)
    (told : Option HandedOut) (later : Option OperationOf) → old ≡ seen → old ≡ None → told ≡ None
    → after ≡ before → later ≡ None → IsTerminalHandingOut seen before after told later
none_handed_out old seen before after told later is none same bytes then_none =
    rw same (sym is ∙ none, bytes, then_none)

pub handed_out : (old seen : Option OperationOf) (o new : OperationOf)
    (before after given : List ℕ) (handed : HandedOut) (told : Option HandedOut)
    (later : Option OperationOf) → old ≡ seen → old ≡ Some o → told ≡ Some handed → after ≡ given
    → later ≡ Some new → IsHandingOut TurnsOf (Some o) before given handed (Some new)
    → IsTerminalHandingOut seen before after told later
handed_out old seen o new before after given handed told later is some same bytes then_some
    handing =
    rw (sym is, some, same, bytes, then_some) (refl, handing)

pub taking_all_as : (old seen : Option OperationOf) (bytes : List ℕ) (taken told : Taken)
    (new later : Option OperationOf) → old ≡ seen → told ≡ taken → later ≡ new
    → IsTakingAll IsTerminalTaking old bytes taken new
    → IsTakingAll IsTerminalTaking seen bytes told later
taking_all_as old seen bytes taken told new later is same then_is taking =
    rw (sym is, same, then_is) taking
