-- If the characters that led to an operation continue to those of a whole one, the next character
-- is settled, and at the end the terminal is `Done`.
use Rattle.std.proofs.Common.{◌≡◌, ◌≤◌, ◌<◌, ◌+◌, ◌*◌, arith, Some, length-append, ℕ, suc, List, [], ◌∷◌, ◌++◌, length, refl, sym, subst, ◌∙◌, ap, inl, inr, ◌⊎◌, append-nil, append_assoc}
use Rattle.std.specs.List.{AllByRecursion, flat_map}
use Rattle.std.proofs.lemmas.Grind.{flat_map-append}
use Rattle.apdu_core.specs.StatusWord.{ok}
use Rattle.apdu_core.specs.CommandBytes.{Command}
use Rattle.t0_core.specs.declared.host_end.HostTurn.TheVariants.{Done, Failed}
use Rattle.t0_core.specs.Character.{Character}
use Rattle.t0_core.specs.Dialogue.{IsDialogue, characters}
use Rattle.apdu_core.specs.Shared.{Reply}
use Rattle.exchange_core.specs.Gathered.{UnitOf, dialogues_of, unit_data, tpdus}
use Rattle.card_terminal.specs.Talk.{AreTakenUpTo, AreExchangesOf, talk_dialogues, talk_characters}
use Rattle.exchange_core.specs.ExchangeSide.{ExchangeOf, exchange_turn}
use Rattle.exchange_core.specs.ExchangeHistory.{ComesTo, Expects, BeginsExchange, FaultCameLast, unit_characters}
use Rattle.card_terminal.specs.TerminalSide.{OperationOf, AreLeft, HasCome, LeadsTo, IsSettled}
use Rattle.card_terminal.specs.TerminalHistory.{HaveValidIns, HaveRoom, brought_by}
use Rattle.exchange_core.specs.CuttingLaws.{AreAll, Comes, ends, continues, if_room, at_end, at_character, not_failed, is_whole, split_all, none_before, comes, led_within, same_whole}
use Rattle.exchange_core.specs.PrefixLaws.{led_begins}
use Rattle.exchange_core.specs.UnitLaws.{few_tpdus}
use Rattle.card_terminal.proofs.TerminalLemmas.{come_as, none_left}

-- the characters of one exchange, and of those after it
pub first_characters : (units : List UnitOf) (exchanges : List (List UnitOf))
    → talk_characters (units ∷ exchanges) ≡ unit_characters units ++ talk_characters exchanges
first_characters units exchanges =
    flat_map-append characters (flat_map dialogues_of units) (talk_dialogues exchanges)

-- no command follows one whose exchange has ended with 9000
abbrev pub Ends : ExchangeOf → List Command → Type 0
Ends ex left = exchange_turn ex ≡ Done ok → left ≡ []

-- the exchange has ended with the operation's answer; or the next character is expected, if there
-- is room
abbrev pub GoesTo : ExchangeOf → List Character → List (List UnitOf) → Reply → Type 0
GoesTo ex rest exchanges answer =
    Comes (HaveRoom ex.gather.limit exchanges) ex rest answer.content answer.status

none_of_none : (exchanges : List (List UnitOf)) (answer : Reply) (left : List Command) → left ≡ []
    → AreExchangesOf left exchanges answer → ⊥
none_of_none exchanges answer [] none are = are
none_of_none exchanges answer (c ∷ left) none are = absurd (cc)

-- the current exchange, if it is the first
here_comes : (c : Command) (left : List Command) (here : List Character) (ex : ExchangeOf)
    (exchanges : List (List UnitOf)) (answer : Reply) (rest : List Character)
    → c.header.ins < 256 → ComesTo c here ex → Ends ex left
    → AreExchangesOf (c ∷ left) exchanges answer → AreAll (talk_dialogues exchanges)
    → (rest ≡ []) ⊎ HaveRoom ex.gather.limit exchanges → talk_characters exchanges ≡ here ++ rest
    → GoesTo ex rest exchanges answer
here_comes c left here ex [] answer rest small leads over whole are room e = absurd whole
here_comes c left here ex (units ∷ []) answer rest small leads over (gathers, last) are room e =
    let apart = split_all (flat_map dialogues_of units) [] are in
    if_room (comes (is_whole small gathers apart.0) here ex rest leads (elim room [
      | inl none ↦ inl none
      | inr has ↦ inr (rw gathers.gathered_is has.0)
    ]) (sym (append-nil (unit_characters units)) ∙ sym (first_characters units []) ∙ e))
    (λ has. rw gathers.gathered_is has.0)
here_comes c left here ex (units ∷ next ∷ others) answer rest small leads over
    (brought, gathers, more) are room e =
    let later = talk_characters (next ∷ others) in
    let apart = split_all (flat_map dialogues_of units) (talk_dialogues (next ∷ others)) are in
    let whole = is_whole small gathers apart.0 in
    let (t, is, rest_is) = led_within whole here ex later rest leads
    (sym (first_characters units (next ∷ others)) ∙ e) in
    elim (comes whole here ex t leads (elim room [
      | inl none ↦ inl (none_before t later (rest_is ∙ none))
      | inr has ↦ inr (rw gathers.gathered_is has.0)
    ]) is) [
      | ends none done all ↦
          absurd (none_of_none (next ∷ others) answer left (over done) more)
      | continues ch after due expects ↦ continues ch (after ++ later)
          (sym rest_is ∙ ap (λ z. z ++ later) due)
          (λ has. expects (rw gathers.gathered_is has.0))
    ]

none_taken : (gone : List (List UnitOf)) (current : Command) (commands left : List Command)
    → commands ≡ [] → AreTakenUpTo commands gone (current ∷ left) → ⊥
none_taken [] current commands left none taken =
    let e : current ∷ left ≡ [] = taken ∙ none in absurd (cc)
none_taken (g ∷ gone) current [] left none taken = taken
none_taken (g ∷ gone) current (c ∷ commands) left none taken = absurd (cc)

after_first : (g : List UnitOf) (gone : List (List UnitOf)) (here rest : List Character)
    → (talk_characters (g ∷ gone) ++ here) ++ rest
    ≡ unit_characters g ++ ((talk_characters gone ++ here) ++ rest)
after_first g gone here rest =
    ap (λ z. (z ++ here) ++ rest) (first_characters g gone)
    ∙ ap (λ z. z ++ rest) (append_assoc (unit_characters g) (talk_characters gone) here)
    ∙ append_assoc (unit_characters g) (talk_characters gone ++ here) rest

pub operation_comes : (commands : List Command) (gone : List (List UnitOf)) (current : Command)
    (left : List Command) (here : List Character) (ex : ExchangeOf)
    (exchanges : List (List UnitOf)) (answer : Reply) (rest : List Character)
    → HaveValidIns commands → AreTakenUpTo commands gone (current ∷ left)
    → AreAll (talk_dialogues gone) → ComesTo current here ex → Ends ex left
    → AreExchangesOf commands exchanges answer → AreAll (talk_dialogues exchanges)
    → (rest ≡ []) ⊎ HaveRoom ex.gather.limit exchanges
    → talk_characters exchanges ≡ (talk_characters gone ++ here) ++ rest
    → GoesTo ex rest exchanges answer
operation_comes [] [] current left here ex exchanges answer rest valid taken gone_are leads over
    whole are room e = absurd whole
operation_comes (c ∷ commands) [] current left here ex exchanges answer rest valid taken gone_are
    leads over whole are room e =
    let head : current ≡ c = cc in
    let tail : left ≡ commands = cc in
    here_comes c commands here ex exchanges answer rest valid.0.1 (rw head at leads)
    (rw tail at over) whole are room e
operation_comes [] (g ∷ gone) current left here ex exchanges answer rest valid taken gone_are
    leads over whole are room e = absurd taken
operation_comes (c ∷ commands) (g ∷ gone) current left here ex [] answer rest valid taken gone_are
    leads over whole are room e = absurd whole
operation_comes (c ∷ commands) (g ∷ gone) current left here ex (units ∷ []) answer rest valid
    (brought, first, taken) gone_are leads over (gathers, last) are room e =
    let gone_apart = split_all (flat_map dialogues_of g) (talk_dialogues gone) gone_are in
    let apart = split_all (flat_map dialogues_of units) [] are in
    let both = same_whole (is_whole valid.0.1 gathers apart.0) g brought ok []
    ((talk_characters gone ++ here) ++ rest) first gone_apart.0
    (sym (first_characters units []) ∙ e ∙ after_first g gone here rest) in
    elim last [
      | inl none ↦ absurd (none_taken gone current commands left none taken)
      | inr other ↦ absurd (other both.1)
    ]
operation_comes (c ∷ commands) (g ∷ gone) current left here ex (units ∷ next ∷ others) answer rest
    valid (brought, first, taken) gone_are leads over (come, gathers, more) are room e =
    let gone_apart = split_all (flat_map dialogues_of g) (talk_dialogues gone) gone_are in
    let apart = split_all (flat_map dialogues_of units) (talk_dialogues (next ∷ others)) are in
    let both = same_whole (is_whole valid.0.1 gathers apart.0) g brought ok
    (talk_characters (next ∷ others)) ((talk_characters gone ++ here) ++ rest) first gone_apart.0
    (sym (first_characters units (next ∷ others)) ∙ e ∙ after_first g gone here rest) in
    if_room (operation_comes commands gone current left here ex (next ∷ others) answer rest valid.1
    taken gone_apart.1 leads over more apart.1 (elim room [
      | inl none ↦ inl none
      | inr has ↦ inr has.1
    ]) both.0) (λ has. has.1)

-- ---- the laws

ends_of : (o : OperationOf) (left : List Command) → IsSettled o → AreLeft o.p1 o.p2 o.rest left
    → Ends o.exchange left
ends_of o left settled are done = none_left o.p1 o.p2 o.rest left (settled done) are

led_comes : (commands : List Command) (came : List Character) (o : OperationOf)
    (exchanges : List (List UnitOf)) (answer : Reply) (rest : List Character)
    → HaveValidIns commands → LeadsTo commands came (Some o)
    → AreExchangesOf commands exchanges answer
    → AllByRecursion IsDialogue (talk_dialogues exchanges)
    → (rest ≡ []) ⊎ HaveRoom o.exchange.gather.limit exchanges
    → talk_characters exchanges ≡ came ++ rest
    → GoesTo o.exchange rest exchanges answer
led_comes commands came o exchanges answer rest valid (l, settled) whole are room e =
    operation_comes commands l.gone l.current l.left l.here o.exchange exchanges answer rest valid
    l.taken l.are_dialogues l.led (ends_of o l.left settled l.are_left) whole are room
    (e ∙ ap (λ z. z ++ rest) l.came_is)

pub operation_done : (commands : List Command) (came : List Character) (o : OperationOf)
    (exchanges : List (List UnitOf)) (answer : Reply) → HaveValidIns commands
    → LeadsTo commands came (Some o) → AreExchangesOf commands exchanges answer
    → AllByRecursion IsDialogue (talk_dialogues exchanges) → came ≡ talk_characters exchanges
    → (exchange_turn o.exchange ≡ Done answer.status)
    × (o.exchange.gather.bytes ≡ answer.content)
operation_done commands came o exchanges answer valid leads whole are is =
    at_end (led_comes commands came o exchanges answer [] valid leads whole are (inl refl)
    (sym is ∙ sym (append-nil came)))

pub operation_next : (commands : List Command) (came : List Character) (o : OperationOf)
    (exchanges : List (List UnitOf)) (answer : Reply) (ch : Character) (rest : List Character)
    → HaveValidIns commands → LeadsTo commands came (Some o)
    → AreExchangesOf commands exchanges answer
    → AllByRecursion IsDialogue (talk_dialogues exchanges)
    → HaveRoom o.exchange.gather.limit exchanges
    → talk_characters exchanges ≡ came ++ ch ∷ rest → Expects o.exchange ch
operation_next commands came o exchanges answer ch rest valid leads whole are room e =
    at_character (led_comes commands came o exchanges answer (ch ∷ rest) valid leads whole are
    (inr room) e) room

pub operation_unfailing : (commands : List Command) (came : List Character) (o : OperationOf)
    (exchanges : List (List UnitOf)) (answer : Reply) (rest : List Character)
    → HaveValidIns commands → LeadsTo commands came (Some o)
    → AreExchangesOf commands exchanges answer
    → AllByRecursion IsDialogue (talk_dialogues exchanges)
    → HaveRoom o.exchange.gather.limit exchanges → talk_characters exchanges ≡ came ++ rest
    → exchange_turn o.exchange ≡ Failed → ⊥
operation_unfailing commands came o exchanges answer rest valid leads whole are room e =
    not_failed (led_comes commands came o exchanges answer rest valid leads whole are (inr room) e)
    room

pub operation_begins : (commands : List Command) (came : List Character) (o : OperationOf)
    → LeadsTo commands came (Some o) → HasCome (λ c here. BeginsExchange c here) commands came o
    ⊎ HasCome (λ c here. FaultCameLast c here o.exchange) commands came o
operation_begins commands came o (l, settled) =
    let Led : Command → List Character → Type 0 = λ c here. ComesTo c here o.exchange in
    elim (led_begins l.current l.here o.exchange l.led) [
      | inl begins ↦ inl (come_as Led (λ c here. BeginsExchange c here) commands came o o.exchange
          l begins)
      | inr last ↦ inr (come_as Led (λ c here. FaultCameLast c here o.exchange) commands came o
          o.exchange l last)
    ]

few_both : (a b c d n : ℕ) → a ≤ 2 * (b + 2) → c ≤ 2 * (d + 2 * n)
    → a + c ≤ 2 * ((b + d) + 2 * suc n)
few_both a b c d n one two = omega (arith, one, two)

few_of : (units : List UnitOf) (exchanges : List (List UnitOf)) (n : ℕ)
    → tpdus units ≤ 2 * (length (flat_map unit_data units) + 2)
    → length (talk_dialogues exchanges) ≤ 2 * (brought_by exchanges + 2 * n)
    → length (talk_dialogues (units ∷ exchanges))
    ≤ 2 * (brought_by (units ∷ exchanges) + 2 * suc n)
few_of units exchanges n one two =
    subst (λ (k : ℕ). k ≤ 2 * (brought_by (units ∷ exchanges) + 2 * suc n))
    (sym (length-append (flat_map dialogues_of units) (talk_dialogues exchanges)))
    (few_both (tpdus units) (length (flat_map unit_data units)) (length (talk_dialogues exchanges))
    (brought_by exchanges) n one two)

pub few_tpdus_in_all : (commands : List Command) (exchanges : List (List UnitOf)) (answer : Reply)
    → AreExchangesOf commands exchanges answer → length (talk_dialogues exchanges)
    ≤ 2 * (brought_by exchanges + 2 * length exchanges)
few_tpdus_in_all [] exchanges answer are = absurd are
few_tpdus_in_all (c ∷ commands) [] answer are = absurd are
few_tpdus_in_all (c ∷ commands) (units ∷ []) answer are =
    few_of units [] 0 (few_tpdus c units are.0.is_open) (omega arith)
few_tpdus_in_all (c ∷ commands) (units ∷ next ∷ exchanges) answer are =
    few_of units (next ∷ exchanges) (length (next ∷ exchanges)) (few_tpdus c units are.1.is_open)
    (few_tpdus_in_all commands (next ∷ exchanges) answer are.2)
