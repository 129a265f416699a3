-- The loop over the operations.
use Rattle.std.specs.Prelude.{Result, Ok, Err, OnErr}
use Rattle.std.proofs.Common.{◌≡◌, refl, sym, ap, subst, ◌∙◌, ℕ, ◌+◌, ◌≤◌, true, List, [], ◌∷◌, ◌++◌, length, map, take, drop, Option, Some, None, append_assoc, arith, ◌⊎◌, inl, inr}
use Rattle.std.specs.List.{flat_map}
use Rattle.std.proofs.lemmas.List.{drop-map, length-map}
use Rattle.apdu_core.specs.CommandBytes.{Command, command_bytes}
use Rattle.t0_core.specs.DialogueLaws.{flat_map_last}
use Rattle.t0_core.specs.Meaning.{Tpdu}
use Rattle.object_card.specs.CardMeaning.{Does}
use Rattle.apdu_core.specs.Shared.{Reply}
use Rattle.object_card.specs.OneStep.{Operation, AnswersAll}
use Rattle.object_card.specs.State.{CardState, is_idle}
use Rattle.card_terminal.specs.declared.operation.Op.{Op}
use Rattle.card_terminal.specs.Operations.{operation_of}
use Rattle.card_terminal.specs.RunLaws.{HaveReplies, replies_come}
use Rattle.card_terminal.specs.TalkLaws.{talks_more}
use Rattle.apdu_terminal.specs.Apdus.{Pair, GathersApdus}
use Rattle.apdu_terminal.specs.ApduStops.{IsLeftAfter, IsLeftBefore, IsUnderWay}
use Rattle.apdu_terminal.specs.ApduTalk.{AreApduTalksOf, IsApduTalkOf, talk_pairs}
use Rattle.apdu_terminal.specs.CardApdu.{Responds, RespondsToAll}
use Rattle.apdu_terminal.specs.TurnLaws.{turns_apart}
use Rattle.t1_core.specs.declared.line.Fates.{Fates}
use Rattle.t1_core.specs.declared.settings.Settings.{Settings}
use Rattle.t1_core.specs.declared.terminal.Fault.{Fault}
use Rattle.t1_core.specs.declared.terminal.Outcome.{Outcome}
use Rattle.t1_core.specs.CardSide.{Did}
use Rattle.t1_core.specs.Carried.{EndsOf, HasCarried, nothing_yet, with_command}
use Rattle.t1_core.specs.Doing.{commands_of, responses_of}
use Rattle.t1_core.specs.TerminalSide.{fault_of, is_ready}
use Rattle.t1_core.specs.World.{IsFrontOf, IsTrue}
use Rattle.t1_terminal.specs.Operated.{GivesUp, HasRun, HasTaken, IsLeft, Start, Takes, commands_in, past_of, response_bytes, responses_in, told_of}
use Rattle.t1_terminal.proofs.LineLemmas.{IsMore, all_short, enough, gave_up, left_by, not_after, not_before, ready_stops, stops}
use Rattle.t1_terminal.proofs.OperateLemmas.{Dialogues, applet, so_far}

-- the same by the states of the cards themselves
pub of_cards : {C X State : Type 0} (Own : State → ℕ → Tpdu → State → Type 0)
    (standing : X → State) (state_of : State → CardState) (state : C → CardState)
    (own : C → State) → ((card : C) → state_of (own card) ≡ state card) → (settings : Settings)
    (first last : C) (operations : List Operation) (answers : List Reply) (fault : Option Fault)
    (before after : List Fates)
    → HasRun (applet Own standing) settings (own first) (own last) (state_of (own first))
    (state_of (own last)) operations answers fault before after
    → HasRun (applet Own standing) settings (own first) (own last) (state first) (state last)
    operations answers fault before after
of_cards Own standing state_of state own means settings first last operations answers fault before
    after ran =
    let R : CardState → CardState → Type 0 = λ old new.
    HasRun (applet Own standing) settings (own first) (own last) old new operations answers fault
    before after in
    subst (λ old. R old (state last)) (means first)
    (subst (λ new. R (state_of (own first)) new) (means last) ran)

pub when_err : {X E : Type 0} {P : Type 0} (r : Result X E) → P → OnErr r P
when_err (Ok x) p = tt
when_err (Err e) p = p

module _ {X State : Type 0} (Own : State → ℕ → Tpdu → State → Type 0) (standing : X → State) where
  -- both ends have carried talks of these operations with these replies
  abbrev pub Come : Start State → List Fates → EndsOf X → List Operation → List Reply → Type 0
  Come s now e done replies = (talks : List (List (List Pair)))
      × AreApduTalksOf done talks replies
      × HasTaken (applet Own standing) s (flat_map talk_pairs talks) now e

  pub none_come : (s : Start State) (now : List Fates) (e : EndsOf X)
      → HasCarried (applet Own standing) (nothing_yet s.settings s.first s.passed) now e
      → Come s now e [] []
  none_come s now e carried = ([], tt, (carried, tt))

  pub one_comes : (s : Start State) (before after : List Fates) (old new : EndsOf X)
      (o : Operation) (r : Reply)
      → (exchanges : List (List Pair)) × IsApduTalkOf o exchanges r
      × Takes (applet Own standing) before old (talk_pairs exchanges) after new
      → (done : List Operation) (replies : List Reply) → Come s before old done replies
      → Come s after new (done ++ o ∷ []) (replies ++ r ∷ [])
  one_comes s before after old new o r (exchanges, is, takes) done replies (talks, are, taken) = (
    talks ++ exchanges ∷ [],
    talks_more GathersApdus done talks replies o exchanges r are is,
    subst (λ ps. HasTaken (applet Own standing) s ps after new)
        (sym (flat_map_last talk_pairs talks exchanges))
        (takes s (flat_map talk_pairs talks) taken),
  )

  module _ (law : Dialogues Own standing) (state_of : State → CardState)
      (any : (old new : State) (pairs : List Pair) → RespondsToAll Own old pairs new
      → RespondsToAll Does (state_of old) pairs (state_of new))
      (steps : (old new : CardState) (operations : List Operation)
      (talks : List (List (List Pair))) (replies : List Reply) → is_idle old.pending ≡ true
      → AreApduTalksOf operations talks replies
      → RespondsToAll Does old (flat_map talk_pairs talks) new
      → AnswersAll old operations replies new × (is_idle new.pending ≡ true))
      {A : Type 0} (ops : List (Op A)) (s : Start State)
      (idle : is_idle (state_of s.first).pending ≡ true) where
    abbrev done_by : List Reply → List Operation
    done_by given = take (length given) (map operation_of ops)

    -- all operations have their answers
    pub all_run : (now : List Fates) (e : EndsOf X) (n : ℕ) (given : List Reply)
        → HaveReplies (λ done replies. Come s now e done replies) ops [] n given
        → is_ready e.terminal.phase ≡ true → n ≡ length ops
        → HasRun (applet Own standing) s.settings s.first (standing e.card.card) (state_of s.first)
        (state_of (standing e.card.card)) (map operation_of ops) given None s.passed now
    all_run now e n given have ready all =
        let last = standing e.card.card in
        let (talks, are, taken) =
        replies_come (λ done replies. Come s now e done replies) ops [] n given have in
        let pairs = flat_map talk_pairs talks in
        let stopped = ready_stops e.terminal.phase e.terminal ready in
        let goes = so_far Own standing law s pairs now e taken ready in
        let step = steps (state_of s.first) (state_of last) (done_by given) talks given idle are
        (any s.first last pairs goes) in
        record {
          mid = state_of last;
          one_step = step.0;
          talks = talks;
          talk = are;
          finished = λ none. (
            stopped.1,
            ap length have.given_is ∙ have.many ∙ have.many_done ∙ all
                ∙ sym (length-map ops operation_of),
            (refl, refl),
            step.1,
            refl,
            refl,
          );
          stopped = λ f some. absurd (cc);
          commands = commands_in pairs;
          responses = responses_in pairs;
          why = fault_of e.terminal;
          dialogue = law (past_of s pairs) now e taken.0 stopped.0;
          survived = λ f tries extensions limit mild. refl;
        }

    -- the terminal gives up in the next operation
    module _ (before after : List Fates) (old new : EndsOf X) (n : ℕ) (given : List Reply)
        (op : Op A) (fault : Fault)
        (have : HaveReplies (λ done replies. Come s before old done replies) ops [] n given)
        (next : drop n ops ≡ op ∷ drop (n + 1) ops)
        (g : GivesUp (applet Own standing) before old (operation_of op) fault after new)
        (stops_before : (old new : CardState) (operation : Operation) (pairs : List Pair)
        (due : Command) → is_idle old.pending ≡ true → IsUnderWay operation pairs due
        → RespondsToAll Does old pairs new → IsLeftBefore old operation due.header new)
        (stops_after : (old new : CardState) (operation : Operation) (pairs : List Pair)
        (p : Pair) → is_idle old.pending ≡ true → IsUnderWay operation pairs p.command
        → RespondsToAll Does old (pairs ++ p ∷ []) new
        → IsLeftAfter old operation p.command.header new) where
      abbrev last : State
      last = standing new.card.card

      -- the tables after the answered operations, and after this one
      abbrev Leaves : Outcome → Type 0
      Leaves outcome = (mid : CardState) × AnswersAll (state_of s.first) (done_by given) given mid
          × IsLeft (told_of g.due.header outcome) mid (operation_of op) (state_of last)

      leaves : (talks : List (List (List Pair))) (did : List Did) (answers : List (List ℕ))
          → AreApduTalksOf (done_by given) talks given
          → answers ≡ responses_in (flat_map talk_pairs talks ++ g.here)
          → (RespondsToAll Own s.first (flat_map talk_pairs talks ++ g.here) last
          × (length did ≡ length (flat_map talk_pairs talks ++ g.here)))
          ⊎ ((p : Pair)
          × IsMore Own s.first last did (flat_map talk_pairs talks ++ g.here) g.due p)
          → IsTrue g.why.outcome (commands_of did) answers → Leaves g.why.outcome
      leaves talks did answers are same (inl none) told =
          let pairs = flat_map talk_pairs talks in
          let (mid, first, part) = turns_apart (Responds Own) s.first last pairs g.here none.0 in
          let step = steps (state_of s.first) (state_of mid) (done_by given) talks given idle are
          (any s.first mid pairs first) in
          let b = stops_before (state_of mid) (state_of last) (operation_of op) g.here g.due step.1
          g.under_way (any mid last g.here part) in
          let many : length (commands_of did) ≡ length answers =
          length-map did (λ (d : Did). d.command) ∙ none.1
          ∙ sym (ap length same ∙ length-map (pairs ++ g.here) response_bytes) in (
            state_of mid,
            step.0,
            left_by g.due.header g.why.outcome (state_of mid) (state_of last) (operation_of op)
                (inl (b, not_before g.why.outcome (commands_of did) answers many told)),
          )
      leaves talks did answers are same (inr (p, m)) told =
          let pairs = flat_map talk_pairs talks in
          let (mid, first, part) =
          turns_apart (Responds Own) s.first last pairs (g.here ++ p ∷ [])
          (subst (λ ps. RespondsToAll Own s.first ps last) (append_assoc pairs g.here (p ∷ []))
          m.goes) in
          let step = steps (state_of s.first) (state_of mid) (done_by given) talks given idle are
          (any s.first mid pairs first) in
          let l = stops_after (state_of mid) (state_of last) (operation_of op) g.here p step.1
          (subst (λ c. IsUnderWay (operation_of op) g.here c) (sym m.of) g.under_way)
          (any mid last (g.here ++ p ∷ []) part) in
          let many : length (commands_of did) ≡ length answers + 1 =
          length-map did (λ (d : Did). d.command) ∙ m.many
          ∙ ap (λ k. k + 1) (sym (ap length same ∙ length-map (pairs ++ g.here) response_bytes)) in
          let after_due : IsLeftAfter (state_of mid) (operation_of op) g.due.header
          (state_of last) =
          subst (λ (c : Command). IsLeftAfter (state_of mid) (operation_of op) c.header
          (state_of last)) m.of l in (
            state_of mid,
            step.0,
            left_by g.due.header g.why.outcome (state_of mid) (state_of last) (operation_of op)
                (inr (after_due, not_after g.why.outcome (commands_of did) answers many told)),
          )

      pub stopped_run : HasRun (applet Own standing) s.settings s.first last (state_of s.first)
          (state_of last) (map operation_of ops) given (Some fault) s.passed after
      stopped_run =
          let (talks, are, taken) =
          replies_come (λ done replies. Come s before old done replies) ops [] n given have in
          let pairs = flat_map talk_pairs talks in
          let (carried, sent) = g.led s pairs taken in
          let t = new.terminal in
          let gave = gave_up t.phase t g.why g.given_up in
          let past = with_command (past_of s (pairs ++ g.here)) (command_bytes g.due) t in
          let d = law past after new carried gave.0 in
          let same : past.answers ≡ responses_in (pairs ++ g.here) =
          gave.1 t.got (responses_in (pairs ++ g.here)) in
          let many : length d.did ≤ length (responses_in (pairs ++ g.here)) + 1 =
          let few = d.all_but_one in omega (arith, few, ap length same) in
          let which = stops Own s.first last d.did (pairs ++ g.here) g.due d.does d.carried_out
          (subst (λ rs. IsFrontOf rs (responses_of d.did)) same d.answered) many sent g.sent in
          let (mid, answers, left) = leaves talks d.did past.answers are same which
          (d.told g.why g.given_up) in
          let at : length given ≡ n = ap length have.given_is ∙ have.many ∙ have.many_done in
          record {
            mid = mid;
            one_step = answers;
            talks = talks;
            talk = are;
            finished = λ none. absurd (cc);
            stopped = λ f some.
                let is : fault ≡ f = cc in (
                  operation_of op,
                  map operation_of (drop (n + 1) ops),
                  ap (λ k. drop k (map operation_of ops)) at ∙ drop-map operation_of n ops
                      ∙ ap (map operation_of) next,
                  subst (λ o. IsLeft o mid (operation_of op) (state_of last))
                      (sym (ap (λ (x : Fault). x.outcome) (sym is ∙ g.fault_is))) left,
                  (
                    g.here,
                    g.due,
                    g.under_way,
                    refl,
                    same,
                    (g.why, g.given_up, sym is ∙ g.fault_is),
                  ),
                );
            commands = past.commands;
            responses = past.answers;
            why = fault_of t;
            dialogue = d;
            survived = λ f tries extensions limit mild.
                let none = d.survived f (enough Own d.did f s.settings
                (all_short Own s.first last d.did (pairs ++ g.here) g.due d.does d.carried_out sent
                g.sent) tries extensions limit) mild in
                absurd (let no : None ≡ Some g.why = sym none ∙ g.given_up in cc);
          }
