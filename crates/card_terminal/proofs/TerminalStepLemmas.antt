-- Each step of an exchange is one of its terminal.
use Rattle.std.proofs.Common.{◌≡◌, ℕ, List, [], ◌∷◌, ◌++◌, ◌⊎◌, inl, inr, refl, sym, subst, ◌∙◌, ap, true, false, Option, Some, None, Bool}
use Rattle.std.specs.Prelude.{Result, Ok, Err, MatchResult, OnOk, IfErr, IfSome, not}
use Rattle.apdu_core.specs.StatusWord.{StatusWord, ok}
use Rattle.apdu_core.specs.CommandBytes.{Command}
use Rattle.t0_core.specs.declared.end.End.TheVariants.{Terminal, Card}
use Rattle.t0_core.specs.declared.host_end.HostTurn.{HostTurn}
use Rattle.t0_core.specs.declared.host_end.HostTurn.TheVariants.{Sends, Listens, Done, Failed}
use Rattle.t0_core.specs.declared.line_fault.LineFault.{LineFault}
use Rattle.t0_core.specs.declared.line_fault.LineFault.TheVariants.{AfterEnd}
use Rattle.t0_core.specs.declared.answer_fault.AnswerFault.{AnswerFault}
use Rattle.t0_core.specs.declared.answer_fault.AnswerFault.TheVariants as answer
use Rattle.t0_core.specs.Character.{Character}
use Rattle.t0_core.specs.Dialogue.{Dialogue, characters}
use Rattle.t0_core.specs.declared.data_sent.DataSent.{DataSent}
use Rattle.t0_core.specs.declared.data_sent.DataSent.TheVariants.{All, NotAll, NotKnown}
use Rattle.t0_core.specs.DataSent.{both, IsKnown}
use Rattle.t0_core.specs.DataSentLaws.{known_both}
use Rattle.t0_core.specs.HostSide.{data_sent}
use Rattle.t0_core.specs.HostAnswer.{fails_with}
use Rattle.card_terminal.specs.Conversing.{is_done}
use Rattle.exchange_core.specs.ExchangeSide.{ExchangeOf, IsBounded, IsAtEnd, GoesByCharacters, exchange_turn, exchange_sent, is_final}
use Rattle.exchange_core.specs.ExchangeHistory.{ComesTo, ComesTooFar}
use Rattle.exchange_core.specs.ExchangeSteps.{IsTurn, IsTaking, IsAnswering, IsAnswer}
use Rattle.exchange_core.specs.Gathered.{UnitOf}
use Rattle.card_terminal.specs.Talk.{AreExchangesOf, talk_characters}
use Rattle.card_terminal.specs.TerminalSide.{OperationOf, TerminalOf, LeadsThrough, LeadsThroughTooFar, LeadsTo, IsSettled, GoesOver, GoByCharacters, operation_sent, with_exchange}
use Rattle.card_terminal.specs.TerminalSteps.{IsTerminalTurn, IsTerminalTaking, IsTerminalAnswering, IsTerminalAnswer}
use Rattle.card_terminal.proofs.TerminalLemmas.{come_on, come_as, goes_over, answer_led}

-- no operation is in progress if its exchange has ended or failed
at_end : (ex : ExchangeOf) → not (is_done (exchange_turn ex)) ≡ false → IsAtEnd ex
at_end ex none = by (exchange_turn ex) refl none
  where
    by : (turn : HostTurn) → exchange_turn ex ≡ turn → not (is_done turn) ≡ false → IsAtEnd ex
    by (Sends byte) is none = absurd (cc)
    by Listens is none = absurd (cc)
    by (Done status) is none = inr (status, is)
    by Failed is none = inl is

pub turns : (o new : OperationOf) (turn : HostTurn) → IsTurn o.exchange turn new.exchange
    → new ≡ with_exchange o new.exchange → IsBounded new.exchange → IsSettled new
    → IsTerminalTurn (Some o) (Some turn) (Some new)
turns o new turn step same bounds settled = record {
  turn_is = ap (λ t. Some t) step.turn_is;
  stays = λ none. ap (λ x. Some x) (same ∙ ap (λ ex. with_exchange o ex)
      (step.stays (λ byte is. none byte (ap (λ t. Some t) is))));
  bounds = bounds;
  by_characters = λ known. subst (λ x. GoByCharacters (Some x)) (sym same)
      (known.0, step.by_characters known.1);
  led = λ commands came byte l is.
      let sends : turn ≡ Sends byte = same_turn turn (Sends byte) is in (
        subst (λ x. LeadsThrough commands (came ++ (Terminal, byte) ∷ []) x) (sym same)
            (come_on (λ c here. ComesTo c here o.exchange) (λ c here. ComesTo c here new.exchange)
            commands came ((Terminal, byte) ∷ []) o new.exchange l.0
            (step.led l.0.current l.0.here byte l.0.led sends)),
        settled,
      );
}
  where
    same_turn : (a b : HostTurn) → Some a ≡ Some b → a ≡ b
    same_turn a b e = cc

-- if the exchange of an operation is unchanged, so is the operation
pub stays : (o new : OperationOf) (ex : ExchangeOf) → IsSettled o
    → GoesOver (with_exchange o ex) new
    → ex ≡ o.exchange → new ≡ o
stays o new ex settled (inl same) is = same.1 ∙ ap (λ x. with_exchange o x) is
stays o new ex settled (inr next) is =
    absurd (next.more (settled (ap exchange_turn (sym is) ∙ next.done)))

-- in both cases the operation is settled
pub settles : (o new : OperationOf) → GoesOver o new → IsSettled new
settles o new (inl same) = rw same.1 same.0
settles o new (inr next) = λ done. let sends = next.sends.1 in absurd (cc)

-- no exchange follows one that has failed
fails : (o new : OperationOf) (ex : ExchangeOf) → GoesOver (with_exchange o ex) new
    → exchange_turn ex ≡ Failed → Some (exchange_turn new.exchange) ≡ Some Failed
fails o new ex (inl same) failed =
    ap (λ (x : OperationOf). Some (exchange_turn x.exchange)) same.1 ∙ ap (λ t. Some t) failed
fails o new ex (inr next) failed =
    let e : Done ok ≡ Failed = sym next.done ∙ failed in absurd (cc)

-- the bounds hold for the same exchange and for the next
bounds_over : (o new : OperationOf) (ex : ExchangeOf) → IsBounded ex
    → GoesOver (with_exchange o ex) new → IsBounded new.exchange
bounds_over o new ex bounds (inl same) =
    rw same.1 bounds
bounds_over o new ex bounds (inr next) = next.bounds

-- if one TPDU is not known, all data are never known to be sent
never_all : (a b : DataSent) → both a (both b NotKnown) ≡ All → ⊥
never_all NotAll b e = absurd (cc)
never_all All All e = absurd (cc)
never_all All NotAll e = absurd (cc)
never_all All NotKnown e = absurd (cc)
never_all NotKnown All e = absurd (cc)
never_all NotKnown NotAll e = absurd (cc)
never_all NotKnown NotKnown e = absurd (cc)

all_of_both : (a b : DataSent) → both a b ≡ All → a ≡ All
all_of_both All b e = refl
all_of_both NotAll b e = absurd (cc)
all_of_both NotKnown All e = absurd (cc)
all_of_both NotKnown NotAll e = absurd (cc)
all_of_both NotKnown NotKnown e = absurd (cc)

-- what a call does to an operation, by what it does to the exchange
module _ (o new : OperationOf) (ex : ExchangeOf) (settled : IsSettled o)
    (over : GoesOver (with_exchange o ex) new) where
  same : {F : Type 0} (final : F → Bool) (r : Result (Unit {0}) F)
      → IfErr r (λ fault. final fault ≡ false → ex ≡ o.exchange)
      → IfErr r (λ fault. final fault ≡ false → Some new ≡ Some o)
  same final (Ok u) is = tt
  same final (Err fault) is = λ no. ap (λ x. Some x) (stays o new ex settled over (is no))

  broken : {F : Type 0} (final : F → Bool) (r : Result (Unit {0}) F)
      → IfErr r (λ fault. final fault ≡ true → exchange_turn ex ≡ Failed)
      → IfErr r (λ fault. final fault ≡ true → Some (exchange_turn new.exchange) ≡ Some Failed)
  broken final (Ok u) is = tt
  broken final (Err fault) is = λ ends. fails o new ex over (is ends)

  went : (commands : List Command) (came cs : List Character) (l : LeadsThrough commands came o)
      → ComesTo l.current (l.here ++ cs) ex → LeadsTo commands (came ++ cs) (Some new)
  went commands came cs l led = (
    goes_over commands (came ++ cs) (with_exchange o ex) new over
        (come_on (λ c here. ComesTo c here o.exchange) (λ c here. ComesTo c here ex) commands came
        cs o ex l led),
    settles (with_exchange o ex) new over,
  )

  known_on : (r : Result (Unit {0}) LineFault)
      → OnOk r (GoesByCharacters o.exchange → GoesByCharacters ex)
      → OnOk r (GoByCharacters (Some o) → GoByCharacters (Some new))
  known_on (Ok u) stays = λ known. known_over new over known.0 (stays known.1)
    where
      known_over : (n : OperationOf) → GoesOver (with_exchange o ex) n → IsKnown o.sent
          → GoesByCharacters ex → GoByCharacters (Some n)
      known_over n (inl is) before here = rw is.1 (before, here)
      known_over n (inr next) before here = (
        rw next.sent (known_both o.sent (exchange_sent ex) before
            (known_both ex.attempt.sent (data_sent ex.host) here.0 here.1)),
        next.by_characters,
      )
  known_on (Err fault) stays = tt

  unknown_on : (r : Result (Unit {0}) AnswerFault)
      → OnOk r (exchange_sent ex ≡ both o.exchange.attempt.sent NotKnown)
      → OnOk r (operation_sent new ≡ All → ⊥)
  unknown_on (Ok u) whole = λ all. unknown_over new over all
    where
      unknown_over : (n : OperationOf) → GoesOver (with_exchange o ex) n
          → operation_sent n ≡ All → ⊥
      unknown_over n (inl is) all = never_all o.sent o.exchange.attempt.sent
          (ap (both o.sent) (sym whole) ∙ sym (ap operation_sent is.1) ∙ all)
      unknown_over n (inr next) all = never_all o.sent o.exchange.attempt.sent
          (ap (both o.sent) (sym whole) ∙ sym next.sent
          ∙ all_of_both n.sent (exchange_sent n.exchange) all)
  unknown_on (Err fault) whole = tt

  pub takes : (byte : ℕ) (result : Result (Unit {0}) LineFault) → IsTaking o.exchange byte result ex
      → IsTerminalTaking (Some o) byte result (Some new)
  takes byte result step = record {
    fault = step.fault;
    after_end = λ none. step.after_end (at_end o.exchange none);
    bounds = bounds_over o new ex step.bounds over;
    unchanged = same is_final result step.unchanged;
    failed = broken is_final result step.failed;
    by_characters = known_on result step.by_characters;
    led = λ commands came l. on commands came l.0 result (step.led l.0.current l.0.here l.0.led);
  }
    where
      on : (commands : List Command) (came : List Character) (l : LeadsThrough commands came o)
          (r : Result (Unit {0}) LineFault)
          → MatchResult r (λ _. ComesTo l.current (l.here ++ (Card, byte) ∷ []) ex)
          (λ fault. is_final fault ≡ true → ComesTo l.current (l.here ++ (Card, byte) ∷ []) ex)
          → MatchResult r (λ _. LeadsTo commands (came ++ (Card, byte) ∷ []) (Some new))
          (λ fault. is_final fault ≡ true
          → LeadsTo commands (came ++ (Card, byte) ∷ []) (Some new))
      on commands came l (Ok u) led = went commands came ((Card, byte) ∷ []) l led
      on commands came l (Err fault) led =
          λ final. went commands came ((Card, byte) ∷ []) l (led final)

  pub answering : (bytes : List ℕ) (status : StatusWord) (result : Result (Unit {0}) AnswerFault)
      → IsAnswering o.exchange bytes status result ex
      → IsTerminalAnswering (Some o) bytes status result (Some new)
  answering bytes status result step = record {
    fault = step.fault;
    bounds = bounds_over o new ex step.bounds over;
    unchanged = same fails_with result step.unchanged;
    failed = broken fails_with result step.failed;
    whole = unknown_on result step.whole;
    led = λ commands came d l gives.
        on commands came d l.0 result step.failed (step.led l.0.current l.0.here d l.0.led gives);
    given = step.given;
  }
    where
      too_far : (commands : List Command) (came : List Character) (d : Dialogue)
          (l : LeadsThrough commands came o) (after : OperationOf)
          → GoesOver (with_exchange o ex) after → exchange_turn ex ≡ Failed
          → ComesTooFar l.current l.here (characters d) ex
          → LeadsThroughTooFar commands came (characters d) after
      too_far commands came d l after (inl is) failed led =
          rw is.1 (come_as (λ c here. ComesTo c here o.exchange)
          (λ c here. ComesTooFar c here (characters d) ex) commands came o ex l led)
      too_far commands came d l after (inr next) failed led =
          let done = next.done in absurd (cc)

      on : (commands : List Command) (came : List Character) (d : Dialogue)
          (l : LeadsThrough commands came o) (r : Result (Unit {0}) AnswerFault)
          → IfErr r (λ fault. fails_with fault ≡ true → exchange_turn ex ≡ Failed)
          → MatchResult r (λ _. ComesTo l.current (l.here ++ characters d) ex)
          (λ fault. ((fault ≡ answer.Stalled) × ComesTo l.current (l.here ++ characters d) ex)
          ⊎ ((fault ≡ answer.TooLong) × ComesTooFar l.current l.here (characters d) ex)
          ⊎ (fault ≡ answer.NotDue))
          → MatchResult r (λ _. LeadsTo commands (came ++ characters d) (Some new))
          (λ fault. ((fault ≡ answer.Stalled) × LeadsTo commands (came ++ characters d) (Some new))
          ⊎ ((fault ≡ answer.TooLong) × LeadsThroughTooFar commands came (characters d) new)
          ⊎ (fault ≡ answer.NotDue))
      on commands came d l (Ok u) failed led = went commands came (characters d) l led
      on commands came d l (Err fault) failed (inl led) =
          inl (led.0, went commands came (characters d) l led.1)
      on commands came d l (Err fault) failed (inr (inl led)) = inr (inl (
        led.0,
        too_far commands came d l new over (failed (ap fails_with led.0)) led.1,
      ))
      on commands came d l (Err fault) failed (inr (inr none)) = inr (inr none)

-- the answer of an operation, by the characters that led to it
abbrev HasLed : OperationOf → Option (StatusWord × List ℕ) → Type 0
HasLed o answer = (commands : List Command) (came : List Character)
    → LeadsTo commands came (Some o)
    → IfSome answer (λ a. (exchanges : List (List UnitOf))
    × AreExchangesOf commands exchanges (record { status = a.0; content = a.1 })
    × (came ≡ talk_characters exchanges))

led_answer : (o : OperationOf) (answer : Option (StatusWord × List ℕ)) → IsSettled o
    → IsAnswer o.exchange answer → HasLed o answer
led_answer o answer settled is = by (exchange_turn o.exchange) refl
  where
    none : ((status : StatusWord) → exchange_turn o.exchange ≡ Done status → ⊥) → HasLed o answer
    none going = rw (is.undone going) (λ commands came l. tt)

    by : (turn : HostTurn) → exchange_turn o.exchange ≡ turn → HasLed o answer
    by (Sends byte) e = none (λ status done. absurd (cc))
    by Listens e = none (λ status done. absurd (cc))
    by Failed e = none (λ status done. absurd (cc))
    by (Done status) e = rw (is.done status e)
        (λ commands came l.
        let (exchanges, are, is, tells) = answer_led commands came o status settled e l.0 in
        (exchanges, are, is))

pub answers_for : (o : OperationOf) (answer : Option (StatusWord × List ℕ)) → IsSettled o
    → IsAnswer o.exchange answer → IsTerminalAnswer (Some o) answer
answers_for o answer settled is = record {
  done = λ status done. (
    o.exchange.gather.bytes,
    is.done status (same_turn (exchange_turn o.exchange) (Done status) done),
    refl,
  );
  undone = λ none. is.undone (λ status done. none status (ap (λ t. Some t) done));
  led = led_answer o answer settled is;
}
  where
    same_turn : (a b : HostTurn) → Some a ≡ Some b → a ≡ b
    same_turn a b e = cc

-- ---- if no operation has begun

pub idle_turn : IsTerminalTurn None None None
idle_turn = record {
  turn_is = refl;
  stays = λ _. refl;
  bounds = tt;
  by_characters = λ known. known;
  led = λ commands came byte l is. absurd l;
}

pub idle_take : (byte : ℕ) → IsTerminalTaking None byte (Err AfterEnd) None
idle_take byte = record {
  fault = inl refl;
  after_end = λ _. refl;
  bounds = tt;
  unchanged = λ _. refl;
  failed = λ final. absurd (cc);
  by_characters = tt;
  led = λ commands came l. absurd l;
}

pub idle_answered : (bytes : List ℕ) (status : StatusWord)
    → IsTerminalAnswering None bytes status (Err answer.NotDue) None
idle_answered bytes status = record {
  fault = inl refl;
  bounds = tt;
  unchanged = λ _. refl;
  failed = λ final. absurd (cc);
  whole = tt;
  led = λ commands came d l gives. absurd l;
  given = λ final. absurd (cc);
}

-- ---- the same for the terminal as contracts see it

pub held : {a b : TerminalOf} → a ≡ b → a.operation ≡ b.operation
held is = ap (λ (t : TerminalOf). t.operation) is

pub settled_at : (t : Option OperationOf) (o : OperationOf) → IfSome t (λ x. IsSettled x)
    → t ≡ Some o → IsSettled o
settled_at t o all is = rw is at all

pub turn_as : (old seen : Option OperationOf) (turn told : Option HostTurn)
    (new after : Option OperationOf) → old ≡ seen → told ≡ turn → after ≡ new
    → IsTerminalTurn old turn new → IsTerminalTurn seen told after
turn_as old seen turn told new after is same then_is step = rw (sym is, same, then_is) step

pub taking_as : (old seen : Option OperationOf) (byte : ℕ)
    (result told : Result (Unit {0}) LineFault) (new after : Option OperationOf) → old ≡ seen
    → told ≡ result → after ≡ new → IsTerminalTaking old byte result new
    → IsTerminalTaking seen byte told after
taking_as old seen byte result told new after is same then_is step =
    rw (sym is, same, then_is) step

pub answering_as : (old seen : Option OperationOf) (bytes : List ℕ) (status : StatusWord)
    (result told : Result (Unit {0}) AnswerFault) (new after : Option OperationOf) → old ≡ seen
    → told ≡ result → after ≡ new → IsTerminalAnswering old bytes status result new
    → IsTerminalAnswering seen bytes status told after
answering_as old seen bytes status result told new after is same then_is step =
    rw (sym is, same, then_is) step

pub answer_as : (old seen : Option OperationOf) (answer : Option (StatusWord × List ℕ))
    → old ≡ seen → IsTerminalAnswer old answer → IsTerminalAnswer seen answer
answer_as old seen answer is step = rw is at step
