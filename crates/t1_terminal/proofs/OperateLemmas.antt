-- One operation over T=1: both ends carry its commands, and the card responds to each.
use Rattle.std.proofs.Common.{◌≡◌, refl, sym, ap, subst, ◌∙◌, ℕ, ◌+◌, Bool, true, false, List, [], ◌∷◌, ◌++◌, length, Option, Some, None, append_assoc, append-nil, length-append, arith, inl, inr, Result}
use Rattle.std.specs.Prelude.{IsOk, MatchOption, is_some, option_map, if◌then◌else◌}
use Rattle.std.proofs.lemmas.List.{length-map, map-append}
use Rattle.apdu_core.specs.CommandBytes.{Command, IsCommand, command_bytes}
use Rattle.apdu_core.specs.StatusWord.{StatusWord, IsStatusWord}
use Rattle.t0_core.specs.Meaning.{Tpdu}
use Rattle.t0_core.specs.declared.answer_fault.AnswerFault.{AnswerFault}
use Rattle.object_card.specs.Agreed.{IsAgreed}
use Rattle.object_card.specs.CardMeaning.{Does}
use Rattle.object_card.specs.Instructions.{MayReceive, MaySend}
use Rattle.object_card.specs.OneStep.{Operation}
use Rattle.object_card.specs.State.{CardState, IsCardState}
use Rattle.exchange_core.specs.ExchangeSide.{response_limit}
use Rattle.card_terminal.specs.Talk.{AreCommandsOf}
use Rattle.apdu_terminal.specs.Apdus.{Pair}
use Rattle.apdu_terminal.specs.ApduOperations.{ApduOperationOf, HasRoomFor, IsTakingResponse, LeadsTo, operation_answer, operation_due, pair_of}
use Rattle.apdu_terminal.specs.ApduSide.{answer_at, answered_by, command_of, due_of, is_going}
use Rattle.apdu_terminal.specs.ApduStops.{IsUnderWay}
use Rattle.apdu_terminal.specs.CardApdu.{Responds, RespondsToAll}
use Rattle.apdu_terminal.specs.TurnLaws.{turns_apart}
use Rattle.apdu_terminal.specs.declared.stage.Stage.{Stage}
use Rattle.apdu_terminal.specs.declared.stage.Stage.TheVariants.{Going, Done, Failed}
use Rattle.t1_core.specs.declared.applet.Applet.{Ghosts}
use Rattle.t1_core.specs.declared.line.Fates.{Fates}
use Rattle.t1_core.specs.declared.terminal.Fault.{Fault}
use Rattle.t1_core.specs.declared.terminal.Phase.TheVariants.{Over}
use Rattle.t1_core.specs.CardSide.{Did}
use Rattle.t1_core.specs.Carried.{EndsOf, HasCarried, Past, answers_in, with_command}
use Rattle.t1_core.specs.Conversing.{Conversed}
use Rattle.t1_core.specs.Doing.{commands_of, responses_of}
use Rattle.t1_core.specs.TerminalSide.{fault_of, has_stopped, is_ready}
use Rattle.t1_terminal.specs.CardCommand.{DoesAt, status_bytes}
use Rattle.t1_terminal.specs.Operated.{AreSent, GivesUp, HasTaken, IsSent, Start, Takes, commands_in, past_of, response_bytes, fault_at, responses_in}
use Rattle.t1_terminal.proofs.LineLemmas.{all_responded, is_over, last_same, ready_stops, sent_both, stops}

module _ {X State : Type 0} (Own : State → ℕ → Tpdu → State → Type 0) (standing : X → State) where
  -- the card above its end of the line
  abbrev pub applet : Ghosts X
  applet = record {
    LIMIT = 261;
    State = State;
    standing = standing;
    Does = DoesAt Own;
    Refuses = λ s bytes. (c : Command) × IsCommand c × (bytes ≡ command_bytes c);
  }

  -- law: the carried commands are a dialogue
  abbrev pub Dialogues : Type 0
  Dialogues = (past : Past State) (now : List Fates) (e : EndsOf X) → HasCarried applet past now e
      → has_stopped e.terminal.phase ≡ true
      → Conversed applet past.settings past.first (standing e.card.card) past.commands past.answers
      (fault_of e.terminal) past.passed now

  pub so_far : Dialogues → (s : Start State) (pairs : List Pair) (now : List Fates) (e : EndsOf X)
      → HasTaken applet s pairs now e → is_ready e.terminal.phase ≡ true
      → RespondsToAll Own s.first pairs (standing e.card.card)
  so_far law s pairs now e taken ready =
      let stopped = ready_stops e.terminal.phase e.terminal ready in
      let c = law (past_of s pairs) now e taken.0 stopped.0 in
      let done = c.finished stopped.1 in
      all_responded Own s.first (standing e.card.card) c.did pairs c.does done.0 (sym done.1)
      taken.1

  -- ---- one more command

  module _ (law : Dialogues) (s : Start State) (pairs : List Pair) (c : Command)
      (now : List Fates) (e : EndsOf X) (all : AreSent pairs) (sent : IsSent c)
      (carried : HasCarried applet (with_command (past_of s pairs) (command_bytes c) e.terminal)
      now e)
      (stopped : has_stopped e.terminal.phase ≡ true) (none : fault_of e.terminal ≡ None) where
    over : e.terminal.phase ≡ Over
    over = is_over e.terminal.phase e.terminal stopped none

    pub new_pair : (p : Pair) × (p.command ≡ c) × IsStatusWord p.status
        × (e.terminal.got ≡ response_bytes p)
        × RespondsToAll Own s.first (pairs ++ p ∷ []) (standing e.card.card)
    new_pair =
        let got = e.terminal.got in
        let d = law (with_command (past_of s pairs) (command_bytes c) e.terminal) now e carried
        stopped in
        let done = d.finished none in
        let answers : responses_in pairs ++ got ∷ [] ≡ responses_of d.did =
        sym (ap (λ p. answers_in p got (responses_in pairs)) over) ∙ done.1 in
        let many : length d.did ≡ length pairs + 1 =
        sym (length-map d.did (λ (x : Did). x.command)) ∙ ap length done.0
        ∙ length-append (commands_in pairs) (command_bytes c ∷ [])
        ∙ ap (λ n. n + 1) (length-map pairs (λ (x : Pair). command_bytes x.command)) in
        let as_many = length-map pairs response_bytes in
        elim (stops Own s.first (standing e.card.card) d.did pairs c d.does
        ([], append-nil (commands_of d.did) ∙ done.0) (got ∷ [], answers)
        (omega (arith, many, as_many)) all sent) [
          | inl few ↦ absurd (omega (arith, many, few.1))
          | inr m ↦ (
            m.0,
            m.1.of,
            m.1.status,
            last_same (responses_in pairs) got (response_bytes m.0)
                (answers ∙ m.1.responses ∙ map-append response_bytes pairs (m.0 ∷ [])),
            m.1.goes,
          )
        ]

    pub takes_more : (p : Pair) → p.command ≡ c → e.terminal.got ≡ response_bytes p
        → HasTaken applet s (pairs ++ p ∷ []) now e
    takes_more p of bytes =
        let P : List (List ℕ) → List (List ℕ) → Type 0 = λ commands answers.
        HasCarried applet (record {
          settings = s.settings;
          first = s.first;
          commands = commands;
          answers = answers;
          passed = s.passed;
        }) now e in
        let commands : commands_in pairs ++ command_bytes c ∷ [] ≡ commands_in (pairs ++ p ∷ []) =
        ap (λ (x : Command). commands_in pairs ++ command_bytes x ∷ []) (sym of)
        ∙ sym (map-append (λ (x : Pair). command_bytes x.command) pairs (p ∷ [])) in
        let answers : answers_in e.terminal.phase e.terminal.got (responses_in pairs)
        ≡ responses_in (pairs ++ p ∷ []) =
        ap (λ x. answers_in x e.terminal.got (responses_in pairs)) over
        ∙ ap (λ bs. responses_in pairs ++ bs ∷ []) bytes
        ∙ sym (map-append response_bytes pairs (p ∷ [])) in (
          subst (λ cs. P cs (responses_in (pairs ++ p ∷ []))) commands
              (subst (λ rs. P (commands_in pairs ++ command_bytes c ∷ []) rs) answers carried),
          sent_both pairs (p ∷ []) all (subst IsSent (sym of) sent, tt),
        )

  -- the same after any pairs before
  pub takes_on : Dialogues → (before mid after : List Fates) (old at new : EndsOf X)
      (here : List Pair) (c : Command) (p : Pair)
      → Takes applet before old here mid at → IsSent c
      → ((past : Past State) → HasCarried applet past mid at
      → HasCarried applet (with_command past (command_bytes c) new.terminal) after new)
      → has_stopped new.terminal.phase ≡ true → fault_of new.terminal ≡ None
      → p.command ≡ c → new.terminal.got ≡ response_bytes p
      → Takes applet before old (here ++ p ∷ []) after new
  takes_on law before mid after old at new here c p takes sent led stopped none of bytes s pairs
      taken =
      let h = takes s pairs taken in
      subst (λ ps. HasTaken applet s ps after new) (append_assoc pairs here (p ∷ []))
      (takes_more law s (pairs ++ here) c after new h.1 sent
      (led (past_of s (pairs ++ here)) h.0) stopped none p of bytes)

-- ---- the operation in progress

pub none_taken : {X : Type 0} (a : Ghosts X) (now : List Fates) (e : EndsOf X)
    → Takes a now e [] now e
none_taken a now e s pairs taken =
    subst (λ ps. HasTaken a s ps now e) (sym (append-nil pairs)) taken

pub under_way : (operation : Operation) (commands : List Command) (here : List Pair)
    (t : Option ApduOperationOf) (due : Command) → AreCommandsOf operation commands
    → LeadsTo commands here t → operation_due t ≡ Some due → IsUnderWay operation here due
under_way operation commands here None due are leads is = absurd leads
under_way operation commands here (Some o) due are leads is =
    record { commands = commands; are = are; at = o; led = leads; due_is = is }

-- the next command with this response is the new pair
pub due_pair : (t : Option ApduOperationOf) (commands : List Command) (here : List Pair)
    (due : Command) (content : List ℕ) (status : StatusWord) → LeadsTo commands here t
    → operation_due t ≡ Some due
    → pair_of t content status ≡ record { command = due; content = content; status = status } ∷ []
due_pair None commands here due content status leads is = absurd leads
due_pair (Some o) commands here due content status leads is =
    by (is_going o.exchange.stage) is
  where
    by : (v : Bool) → (if v then Some (command_of o.exchange) else None) ≡ Some due
        → answered_by o.exchange content status ∷ []
        ≡ record { command = due; content = content; status = status } ∷ []
    by true e =
        let same : command_of o.exchange ≡ due = cc in
        ap (λ (c : Command). record { command = c; content = content; status = status } ∷ []) same
    by false e = absurd (cc)

module _ {State : Type 0} (Own : State → ℕ → Tpdu → State → Type 0) (state_of : State → CardState)
    (any : (old new : State) (pairs : List Pair) → RespondsToAll Own old pairs new
    → RespondsToAll Does (state_of old) pairs (state_of new))
    (sound_law : (old new : CardState) (pairs : List Pair) → IsCardState old
    → RespondsToAll Does old pairs new → IsCardState new) where
  -- the operation takes the response
  pub is_taken : ((old mid new : CardState) (commands : List Command) (pairs : List Pair)
      (o : ApduOperationOf) (due : Command) (content : List ℕ) (status : StatusWord)
      (result : Result (Unit {0}) AnswerFault) (then_at : Option ApduOperationOf)
      → IsCardState old → LeadsTo commands pairs (Some o) → due_of o.exchange ≡ Some due
      → RespondsToAll Does old pairs mid
      → Responds Does mid (answered_by o.exchange content status) new
      → IsTakingResponse (Some o) content status result then_at
      → HasRoomFor response_limit then_at → IsOk result)
      → (first last : State) (pairs here : List Pair) (p : Pair) (commands : List Command)
      (t new : Option ApduOperationOf) (due : Command) (content : List ℕ) (status : StatusWord)
      (result : Result (Unit {0}) AnswerFault) → IsCardState (state_of first)
      → RespondsToAll Own first ((pairs ++ here) ++ p ∷ []) last → LeadsTo commands here t
      → operation_due t ≡ Some due
      → p ≡ record { command = due; content = content; status = status }
      → IsTakingResponse t content status result new → HasRoomFor response_limit new → IsOk result
  is_taken law first last pairs here p commands None new due content status result sound goes leads
      is same step room =
      absurd leads
  is_taken law first last pairs here p commands (Some o) new due content status result sound goes
      leads is same step room =
      let (m2, both, (l, responds, stays)) =
      turns_apart (Responds Own) first last (pairs ++ here) (p ∷ []) goes in
      let (m1, before, now) = turns_apart (Responds Own) first m2 pairs here both in
      let at_card = any m2 last (p ∷ []) (l, responds, stays) in
      let one : Responds Does (state_of m2) p (state_of last) =
      subst (λ x. Responds Does (state_of m2) p x) (sym at_card.2) at_card.1 in
      let firsts = due_pair (Some o) commands here due content status leads is in
      let q : answered_by o.exchange content status
      ≡ record { command = due; content = content; status = status } = cc in
      law (state_of m1) (state_of m2) (state_of last) commands here o due content status result new
      (sound_law (state_of first) (state_of m1) pairs sound (any first m1 pairs before)) leads is
      (any m1 m2 here now)
      (subst (λ x. Responds Does (state_of m2) x (state_of last)) (same ∙ sym q) one) step room

  -- without a next command the operation has its answer
  pub over_then : ((old new : CardState) (commands : List Command) (pairs : List Pair)
      (o : ApduOperationOf) → IsCardState old → LeadsTo commands pairs (Some o)
      → o.exchange.gather.limit ≡ response_limit → RespondsToAll Does old pairs new
      → o.exchange.stage ≡ Failed → ⊥)
      → (first last : State) (pairs here : List Pair) (commands : List Command)
      (t : Option ApduOperationOf) → IsCardState (state_of first)
      → RespondsToAll Own first (pairs ++ here) last → LeadsTo commands here t
      → HasRoomFor response_limit t → operation_due t ≡ None
      → is_some (operation_answer t) ≡ true
  over_then law first last pairs here commands None sound goes leads room none = absurd leads
  over_then law first last pairs here commands (Some o) sound goes leads room none =
      by o.exchange.stage refl
    where
      by : (v : Stage) → o.exchange.stage ≡ v
          → is_some (answer_at o.exchange.stage o.exchange.gather.bytes) ≡ true
      by Going is =
          let no : None ≡ Some (command_of o.exchange) = sym none
          ∙ ap (λ v. if is_going v then Some (command_of o.exchange) else None) is in absurd (cc)
      by (Done status) is = ap (λ v. is_some (answer_at v o.exchange.gather.bytes)) is
      by Failed is =
          let (m1, before, now) = turns_apart (Responds Own) first last pairs here goes in
          absurd (law (state_of m1) (state_of last) commands here o
          (sound_law (state_of first) (state_of m1) pairs sound (any first m1 pairs before)) leads
          room (any m1 last here now) is)

-- the answer exists
pub is_there : {A B : Type 0} (f : A → B) (r : Option A) → ((x : A) → r ≡ Some x → ⊥)
    → is_some (option_map f r) ≡ true → ⊥
is_there f None never some = absurd (cc)
is_there f (Some x) never some = absurd (never x refl)

-- ---- the calls of the loop

-- what the caller knows before the operation
pub record HasStarted {X State : Type 0} (Own : State → ℕ → Tpdu → State → Type 0)
    (standing : X → State) (state_of : State → CardState) (now : List Fates) (e : EndsOf X)
    : Type 0 where
  pub s : Start State
  pub pairs : List Pair
  pub sound : IsCardState (state_of s.first)
  pub taken : HasTaken (applet Own standing) s pairs now e

pub started_so : {C X State : Type 0} (Own : State → ℕ → Tpdu → State → Type 0)
    (standing : X → State) (state_of : State → CardState) (state : C → CardState)
    (own : C → State) → ((card : C) → state_of (own card) ≡ state card) → (now : List Fates)
    (e : EndsOf X)
    → (s : Start State) × (pairs : List Pair) × (card : C) × (own card ≡ s.first)
    × IsCardState (state card) × HasTaken (applet Own standing) s pairs now e
    → HasStarted Own standing state_of now e
started_so Own standing state_of state own means now e (s, pairs, card, same, sound, taken) =
    record {
      s = s;
      pairs = pairs;
      sound = subst IsCardState (sym (ap state_of (sym same) ∙ means card)) sound;
      taken = taken;
    }

-- the pairs of the operation so far
abbrev pub HasHad : {X State : Type 0} (Own : State → ℕ → Tpdu → State → Type 0)
    (standing : X → State) → List Fates → EndsOf X → List Command → Option ApduOperationOf
    → List Fates → EndsOf X → Type 0
HasHad Own standing before old commands t now e = (here : List Pair)
    × LeadsTo commands here t × Takes (applet Own standing) before old here now e

-- the next command may begin
pub may_carry : {X State : Type 0} (Own : State → ℕ → Tpdu → State → Type 0)
    (standing : X → State) (state_of : State → CardState) (before mid : List Fates)
    (old at : EndsOf X) (commands : List Command) (t : Option ApduOperationOf)
    → HasStarted Own standing state_of before old
    → HasHad Own standing before old commands t mid at
    → (past : Past State) × HasCarried (applet Own standing) past mid at
may_carry Own standing state_of before mid old at commands t start (here, leads, takes) = (
  past_of start.s (start.pairs ++ here),
  (takes start.s start.pairs start.taken).0,
)

pub sent_so : {X State : Type 0} (Own : State → ℕ → Tpdu → State → Type 0)
    (standing : X → State) (before mid : List Fates) (old at : EndsOf X) (operation : Operation)
    (commands : List Command) (t : Option ApduOperationOf) (due : Command)
    → ((operation : Operation) (pairs : List Pair) (c : Command) → IsUnderWay operation pairs c
    → IsAgreed MayReceive MaySend c)
    → AreCommandsOf operation commands → Some due ≡ operation_due t → IsCommand due
    → HasHad Own standing before old commands t mid at → IsSent due
sent_so Own standing before mid old at operation commands t due agreed are is_due is_command
    (here, leads, takes) = (
      is_command,
      agreed operation here due (under_way operation commands here t due are leads (sym is_due)),
    )

pub when_none : {A : Type 0} (r : Option A) (P : Type 0) (Q : A → Type 0)
    → ((x : A) → r ≡ Some x → ⊥) → MatchOption r P Q → P
when_none None P Q never holds = holds
when_none (Some x) P Q never holds = absurd (never x refl)

module _ {X State : Type 0} (Own : State → ℕ → Tpdu → State → Type 0) (standing : X → State)
    (before mid after : List Fates) (old at new : EndsOf X) (commands : List Command)
    (t : Option ApduOperationOf) (due : Command) (bytes : List ℕ)
    (is_due : Some due ≡ operation_due t) (bytes_are : bytes ≡ command_bytes due) where
  module _ (led : (past : Past State) → HasCarried (applet Own standing) past mid at
      → HasCarried (applet Own standing) (with_command past bytes new.terminal) after new)
      (sent : IsSent due)
      (had : HasHad Own standing before old commands t mid at) where
    led_so : (past : Past State) → HasCarried (applet Own standing) past mid at
        → HasCarried (applet Own standing) (with_command past (command_bytes due) new.terminal)
        after new
    led_so past h =
        subst (λ bs. HasCarried (applet Own standing) (with_command past bs new.terminal) after new)
        bytes_are (led past h)

    pub gives_up : (operation : Operation) → AreCommandsOf operation commands
        → (why fault : Fault) → Some why ≡ fault_of new.terminal
        → fault ≡ fault_at due.header why
        → GivesUp (applet Own standing) before old operation fault after new
    gives_up operation are why fault told is = record {
      here = had.0;
      due = due;
      under_way = under_way operation commands had.0 t due are had.1 (sym is_due);
      sent = sent;
      why = why;
      given_up = sym told;
      fault_is = is;
      led = λ s pairs taken.
          let h = had.2 s pairs taken in (led_so (past_of s (pairs ++ had.0)) h.0, h.1);
    }

    module _ (law : Dialogues Own standing) (stopped : has_stopped new.terminal.phase ≡ true)
        (none : None ≡ fault_of new.terminal) where
      -- the response of the card to the command
      pub pair_now : (state_of : State → CardState)
          → (start : HasStarted Own standing state_of before old) → (p : Pair)
          × (p.command ≡ due)
          × IsStatusWord p.status × (new.terminal.got ≡ response_bytes p)
          × RespondsToAll Own start.s.first ((start.pairs ++ had.0) ++ p ∷ [])
          (standing new.card.card)
      pair_now state_of start =
          let h = had.2 start.s start.pairs start.taken in
          new_pair Own standing law start.s (start.pairs ++ had.0) due after new h.1 sent
          (led_so (past_of start.s (start.pairs ++ had.0)) h.0) stopped (sym none)

      -- it leads to the next state of the operation
      pub leads_on : (content : List ℕ) (status : StatusWord) (then_at : Option ApduOperationOf)
          → new.terminal.got ≡ content ++ status_bytes status
          → LeadsTo commands (had.0 ++ pair_of t content status) then_at
          → HasHad Own standing before old commands then_at after new
      leads_on content status then_at got leads =
          let p : Pair = record { command = due; content = content; status = status } in
          let one = due_pair t commands had.0 due content status had.1 (sym is_due) in (
            had.0 ++ p ∷ [],
            subst (λ ps. LeadsTo commands (had.0 ++ ps) then_at) one leads,
            takes_on Own standing law before mid after old at new had.0 due p had.2 sent led_so
                stopped (sym none) refl got,
          )
