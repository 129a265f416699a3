-- After each call, the characters that led to an operation lead to its next state, with those of
-- the call.
use Rattle.std.proofs.Common.{◌≡◌, ◌≢◌, ℕ, List, [], ◌∷◌, ◌++◌, ◌⊎◌, inl, inr, refl, sym, ◌∙◌, ap, append-nil, append_assoc}
use Rattle.std.specs.List.{flat_map}
use Rattle.std.proofs.lemmas.Grind.{flat_map-append}
use Rattle.apdu_core.specs.StatusWord.{StatusWord, ok}
use Rattle.apdu_core.specs.CommandBytes.{Command}
use Rattle.t0_core.specs.declared.host_end.HostTurn.TheVariants.{Done}
use Rattle.t0_core.specs.declared.data_sent.DataSent.{DataSent}
use Rattle.t0_core.specs.declared.data_sent.DataSent.TheVariants.{All}
use Rattle.t0_core.specs.DataSent.{both, sent_in_all, Tells}
use Rattle.t0_core.specs.DataSentLaws.{tells_both, sent_in-append}
use Rattle.t0_core.specs.Character.{Character}
use Rattle.t0_core.specs.Dialogue.{IsDialogue, characters}
use Rattle.exchange_core.specs.Gathered.{UnitOf, dialogues_of}
use Rattle.card_terminal.specs.Talk.{AreExchangesOf, talk_dialogues, talk_characters}
use Rattle.exchange_core.specs.ExchangeSide.{ExchangeOf, exchange_turn, exchange_sent}
use Rattle.exchange_core.specs.ExchangeHistory.{ComesTo, unit_characters}
use Rattle.card_terminal.specs.TerminalSide.{OperationOf, AreLeft, HasCome, LeadsThrough, IsSettled, GoesToNext, GoesOver, operation_sent, with_exchange}
use Rattle.exchange_core.specs.ComesToLaws.{end_leads}
use Rattle.card_terminal.proofs.TalkListLemmas.{taken_more, taken_to_end, one_more_exchange, all_both}
use Rattle.card_terminal.specs.TalkLaws.{is_ok_or_not}

-- an operation of several commands begins
pub first_begins : (c : Command) (left : List Command) (o : OperationOf)
    → AreLeft o.p1 o.p2 o.rest left → ComesTo c [] o.exchange → o.sent ≡ All
    → LeadsThrough (c ∷ left) [] o
first_begins c left o are_left led sent = record {
  gone = [];
  current = c;
  left = left;
  taken = refl;
  is_first = λ _. refl;
  are_dialogues = tt;
  are_left = are_left;
  sent_is = rw sent refl;
  here = [];
  led = led;
  came_is = refl;
}

-- an operation of one command begins
pub one_begins : (c : Command) (o : OperationOf) → o.rest ≡ [] → ComesTo c [] o.exchange
    → o.sent ≡ All → LeadsThrough (c ∷ []) [] o
one_begins c o none led sent = first_begins c [] o (rw none refl) led sent

-- more characters of the current exchange, and nothing else changes
pub come_on : (Led New : Command → List Character → Type 0) (commands : List Command)
    (came cs : List Character) (o : OperationOf) (ex : ExchangeOf)
    (l : HasCome Led commands came o) → New l.current (l.here ++ cs)
    → HasCome New commands (came ++ cs) (with_exchange o ex)
come_on Led New commands came cs o ex l led = record {
  gone = l.gone;
  current = l.current;
  left = l.left;
  taken = l.taken;
  is_first = l.is_first;
  are_dialogues = l.are_dialogues;
  are_left = l.are_left;
  sent_is = l.sent_is;
  here = l.here ++ cs;
  led = led;
  came_is = ap (λ z. z ++ cs) l.came_is ∙ append_assoc (talk_characters l.gone) l.here cs;
}

-- the same characters, with another claim about the current exchange
pub come_as : (Led New : Command → List Character → Type 0) (commands : List Command)
    (came : List Character) (o : OperationOf) (ex : ExchangeOf) (l : HasCome Led commands came o)
    → New l.current l.here → HasCome New commands came (with_exchange o ex)
come_as Led New commands came o ex l led = record {
  gone = l.gone;
  current = l.current;
  left = l.left;
  taken = l.taken;
  is_first = l.is_first;
  are_dialogues = l.are_dialogues;
  are_left = l.are_left;
  sent_is = l.sent_is;
  here = l.here;
  led = led;
  came_is = l.came_is;
}

-- the characters of one more exchange
pub talk_characters_more : (exchanges : List (List UnitOf)) (units : List UnitOf)
    → talk_characters (exchanges ++ units ∷ []) ≡ talk_characters exchanges ++ unit_characters units
talk_characters_more exchanges units =
    ap (λ ds. flat_map characters ds) (one_more_exchange exchanges units)
    ∙ flat_map-append characters (talk_dialogues exchanges) (flat_map dialogues_of units)

-- the data of one more exchange
sent_more : (exchanges : List (List UnitOf)) (units : List UnitOf) (a b sent : DataSent)
    → sent ≡ both a b → Tells a (sent_in_all (talk_dialogues exchanges))
    → Tells b (sent_in_all (flat_map dialogues_of units))
    → Tells sent (sent_in_all (talk_dialogues (exchanges ++ units ∷ [])))
sent_more exchanges units a b sent is before last =
    rw (
      is,
      one_more_exchange exchanges units,
      sent_in-append (talk_dialogues exchanges) (flat_map dialogues_of units),
    )
    (tells_both a b _ _ before last)

-- a command has ended with 9000, and the next begins
to_next : (commands : List Command) (came : List Character) (o new : OperationOf)
    → GoesToNext o new → LeadsThrough commands came o → LeadsThrough commands came new
to_next commands came o new next l =
    let (units, gathers, is, are, sent) = end_leads l.current l.here o.exchange ok next.done l.led
    in
    let (c, after, left_is, led, are_left) = next.next l.left l.are_left in
    record {
      gone = l.gone ++ units ∷ [];
      current = c;
      left = after;
      taken = taken_more commands l.gone l.current (c ∷ after) units o.exchange.gather.bytes
          (rw left_is at l.taken) gathers;
      is_first = λ is. let later = next.later in absurd (cc);
      are_dialogues = rw (one_more_exchange l.gone units) (all_both IsDialogue
          (talk_dialogues l.gone) (flat_map dialogues_of units) l.are_dialogues are);
      are_left = are_left;
      sent_is = sent_more l.gone units o.sent (exchange_sent o.exchange) new.sent next.sent
          l.sent_is sent;
      here = [];
      led = led;
      came_is = l.came_is ∙ ap (λ z. talk_characters l.gone ++ z) is
          ∙ sym (talk_characters_more l.gone units)
          ∙ sym (append-nil (talk_characters (l.gone ++ units ∷ [])));
    }

pub goes_over : (commands : List Command) (came : List Character) (o new : OperationOf)
    → GoesOver o new → LeadsThrough commands came o → LeadsThrough commands came new
goes_over commands came o new (inl same) l = rw same.1 l
goes_over commands came o new (inr next) l = to_next commands came o new next l

-- no commands carry an empty rest
pub none_left : (p1 p2 : ℕ) (rest : List ℕ) (left : List Command) → rest ≡ []
    → AreLeft p1 p2 rest left → left ≡ []
none_left p1 p2 [] left none are = are
none_left p1 p2 (b ∷ bs) left none are = absurd (cc)

-- the answer of an operation that has ended
pub answer_led : (commands : List Command) (came : List Character) (o : OperationOf)
    (status : StatusWord) → IsSettled o → exchange_turn o.exchange ≡ Done status
    → LeadsThrough commands came o
    → (exchanges : List (List UnitOf))
    × AreExchangesOf commands exchanges
    (record { status = status; content = o.exchange.gather.bytes })
    × (came ≡ talk_characters exchanges)
    × Tells (operation_sent o) (sent_in_all (talk_dialogues exchanges))
answer_led commands came o status settled done l =
    let (units, gathers, is, are, sent) = end_leads l.current l.here o.exchange status done l.led
    in (
      l.gone ++ units ∷ [],
      taken_to_end commands l.gone l.current l.left units
          (record { status = status; content = o.exchange.gather.bytes }) l.taken gathers
          (ends (is_ok_or_not status)),
      l.came_is ∙ ap (λ z. talk_characters l.gone ++ z) is
          ∙ sym (talk_characters_more l.gone units),
      sent_more l.gone units o.sent (exchange_sent o.exchange) _ refl l.sent_is sent,
    )
  where
    ends : (status ≡ ok) ⊎ (status ≢ ok) → (l.left ≡ []) ⊎ (status ≢ ok)
    ends (inl fine) = inl (none_left o.p1 o.p2 o.rest l.left
        (settled (done ∙ ap Done fine)) l.are_left)
    ends (inr other) = inr other
