-- One command: what the card has carried out since it began.
use Rattle.std.proofs.Common.{◌≡◌, refl, sym, ap, subst, ◌∙◌, ℕ, suc, ◌+◌, ◌≤◌, true, List, [], ◌∷◌, ◌++◌, length, map, Option, Some, None, false, append_assoc, append-nil, length-append, arith, inl, inr}
use Rattle.std.proofs.lemmas.List.{length-map, map-append}
use Rattle.t1_core.specs.declared.applet.Applet.{Ghosts}
use Rattle.t1_core.specs.declared.line.Fates.{Fates}
use Rattle.t1_core.specs.declared.terminal.Fault.{Fault}
use Rattle.t1_core.specs.declared.terminal.Outcome.{Outcome}
use Rattle.t1_core.specs.declared.terminal.Outcome.TheVariants.{NotCarriedOut, Unknown, InPart}
use Rattle.t1_core.specs.declared.terminal.Phase.{Phase}
use Rattle.t1_core.specs.declared.terminal.Phase.TheVariants.{Over, GivenUp}
use Rattle.t1_core.specs.CardSide.{Did}
use Rattle.t1_core.specs.Carried.{EndsOf, HasCarried, Past, answers_in, with_command}
use Rattle.t1_core.specs.Doing.{DoesAll, DoesSome, commands_of, responses_of}
use Rattle.t1_core.specs.OneCommand.{CarriesOut, HasDone, IsLeftBy}
use Rattle.t1_core.specs.Passing.{IsHeard, Passes}
use Rattle.t1_core.specs.TerminalSide.{Terminal, begins, is_ready, has_stopped, fault_in, fault_of, outcome_of}
use Rattle.t1_core.specs.World.{IsFrontOf, IsTrue}
use Rattle.t1_core.proofs.Carrying.{carried_begins, carried_next, conversed_by}
use Rattle.t1_core.proofs.Logs.{does_with, log_with}

log_after : (log more : List Did) (did : Option Did)
    → log_with (log ++ more) did ≡ log ++ log_with more did
log_after log more None = refl
log_after log more (Some d) = append_assoc log more (d ∷ [])

-- ---- lists that differ by their last entry

last_same : (xs : List (List ℕ)) (x y : List ℕ) (rest : List (List ℕ))
    → (xs ++ x ∷ []) ++ rest ≡ xs ++ y ∷ [] → x ≡ y
last_same [] x y rest e = cc
last_same (z ∷ xs) x y rest e =
    let others : (xs ++ x ∷ []) ++ rest ≡ xs ++ y ∷ [] = cc in last_same xs x y rest others

-- the command of one more entry
command_same : (did : List Did) (d : Did) (commands : List (List ℕ)) (c : List ℕ)
    → commands_of did ≡ commands → IsFrontOf (commands_of (did ++ d ∷ [])) (commands ++ c ∷ [])
    → d.command ≡ c
command_same did d commands c is (rest, e) =
    last_same (commands_of did) d.command c rest
    (ap (λ l. l ++ rest) (sym (map-append (λ (x : Did). x.command) did (d ∷ [])))
    ∙ e ∙ ap (λ l. l ++ c ∷ []) (sym is))

response_same : (did : List Did) (d : Did) (answers : List (List ℕ)) (got : List ℕ)
    → answers ≡ responses_of did → answers ++ got ∷ [] ≡ responses_of (did ++ d ∷ [])
    → d.response ≡ got
response_same did d answers got is e =
    last_same (responses_of did) d.response got []
    (append-nil (responses_of did ++ d.response ∷ [])
    ∙ sym (map-append (λ (x : Did). x.response) did (d ∷ []))
    ∙ sym e ∙ ap (λ l. l ++ got ∷ []) is)

module _ {C : Type 0} (a : Ghosts C) where
  -- the card has carried out `more` since the command began
  pub record HasAdded (past : Past a.State) (command : List ℕ) (before : List Fates)
      (old : EndsOf C) (h : HasCarried a past before old) (now : List Fates) (e : EndsOf C) : Type 0
    where
      pub more : List Did
      pub does : DoesAll a.Does (a.standing old.card.card) more (a.standing e.card.card)
      pub carried : HasCarried a (with_command past command e.terminal) now e
      pub did_is : carried.did ≡ h.did ++ more

  pub added_begins : (past : Past a.State) (now : List Fates) (e f : EndsOf C) (c : List ℕ)
      (h : HasCarried a past now e) → is_ready e.terminal.phase ≡ true
      → f ≡ record { terminal = begins c e.terminal; card = e.card }
      → HasAdded past c now e h now f
  added_begins past now e f c h ready is =
      let (carried, same) = carried_begins a past now e f c h ready is in
      record {
        more = [];
        does = ap (λ (x : EndsOf C). a.standing x.card.card) is;
        carried = carried;
        did_is = same ∙ sym (append-nil h.did);
      }

  pub added_next : (past : Past a.State) (command : List ℕ) (before now next : List Fates)
      (y x : Fates) (old e f : EndsOf C) (h : HasCarried a past before old)
      → HasAdded past command before old h now e
      → has_stopped e.terminal.phase ≡ false
      → next ≡ now ++ y ∷ [] → IsHeard a y x → Passes a x e.terminal f.terminal e.card f.card
      → HasAdded past command before old h next f
  added_next past command before now next y x old e f h s moving one_more heard p =
      let (did, goes, carried, same) =
      carried_next a past command now next y x e f s.carried moving one_more heard p in
      record {
        more = log_with s.more did;
        does = does_with a.Does (a.standing old.card.card) (a.standing e.card.card)
            (a.standing f.card.card) s.more did s.does goes;
        carried = carried;
        did_is = same ∙ ap (λ log. log_with log did) s.did_is ∙ log_after h.did s.more did;
      }

  -- ---- the end of the command

  carried_one : (old new : a.State) (d : Did) (c : List ℕ) → DoesAll a.Does old (d ∷ []) new
      → d.command ≡ c → CarriesOut a.Does old c d.response new
  carried_one old new d c (mid, does, same) is = (
    d.asks,
    subst (λ x. a.Does old (record { command = x; response = d.response; asks = d.asks }) new) is
        (subst (λ s. a.Does old d s) (sym same) does),
  )

  module _ (old new : a.State) (log : List Did) (commands answers : List (List ℕ)) (c : List ℕ)
      (same_commands : commands_of log ≡ commands) (same_answers : answers ≡ responses_of log) where
    -- how many commands there are
    counts : (more : List Did) → length (commands_of (log ++ more)) ≡ length log + length more
    counts more =
        let n = length-map (log ++ more) (λ (d : Did). d.command) in
        let m = length-append log more in
        omega (arith, n, m)

    answers_count : length answers ≡ length log
    answers_count = ap length same_answers ∙ length-map log (λ (d : Did). d.response)

    left_by : (outcome : Outcome) (more : List Did)
        → IsFrontOf (commands_of (log ++ more)) (commands ++ c ∷ [])
        → length (log ++ more) ≤ length answers + 1
        → IsTrue outcome (commands_of (log ++ more)) answers → DoesAll a.Does old more new
        → IsLeftBy a.Does old c new outcome
    left_by NotCarriedOut [] front few told does = does
    left_by NotCarriedOut (d ∷ more) front few told does =
        let n = counts (d ∷ more) in
        let m = answers_count in
        absurd (omega (arith, n, m, told))
    left_by InPart [] front few told does =
        let n = counts [] in
        let m = answers_count in
        absurd (omega (arith, n, m, told))
    left_by InPart (d ∷ []) front few told does = (
      d.response,
      carried_one old new d c does (command_same log d commands c same_commands front),
    )
    left_by InPart (d ∷ e ∷ more) front few told does =
        let n = length-append log (d ∷ e ∷ more) in
        let m = answers_count in
        absurd (omega (arith, n, m, few))
    left_by Unknown [] front few told does = inl does
    left_by Unknown (d ∷ []) front few told does =
        inr (
          d.response,
          carried_one old new d c does (command_same log d commands c same_commands front),
        )
    left_by Unknown (d ∷ e ∷ more) front few told does =
        let n = length-append log (d ∷ e ∷ more) in
        let m = answers_count in
        absurd (omega (arith, n, m, few))

    answered : (got : List ℕ) (more : List Did)
        → IsFrontOf (commands_of (log ++ more)) (commands ++ c ∷ [])
        → length (log ++ more) ≤ length (answers ++ got ∷ []) + 1
        → answers ++ got ∷ [] ≡ responses_of (log ++ more) → DoesAll a.Does old more new
        → CarriesOut a.Does old c got new
    answered got [] front few is does =
        let n = ap length is in
        let m = length-map (log ++ []) (λ (d : Did). d.response) in
        let k = length-append answers (got ∷ []) in
        let l = length-append log [] in
        let j = answers_count in
        absurd (omega (arith, n, m, k, l, j))
    answered got (d ∷ []) front few is does =
        subst (λ r. CarriesOut a.Does old c r new) (response_same log d answers got same_answers is)
        (carried_one old new d c does (command_same log d commands c same_commands front))
    answered got (d ∷ e ∷ more) front few is does =
        let n = ap length is in
        let m = length-map (log ++ d ∷ e ∷ more) (λ (x : Did). x.response) in
        let k = length-append answers (got ∷ []) in
        let l = length-append log (d ∷ e ∷ more) in
        let j = answers_count in
        absurd (omega (arith, n, m, k, l, j))

    done_at : (p : Phase) (t : Terminal) (more : List Did) → has_stopped p ≡ true
        → IsFrontOf (commands_of (log ++ more)) (commands ++ c ∷ [])
        → length (log ++ more) ≤ length (answers_in p t.got answers) + 1
        → ((f : Fault) → fault_in p t ≡ Some f
        → IsTrue f.outcome (commands_of (log ++ more)) (answers_in p t.got answers))
        → (fault_in p t ≡ None → answers_in p t.got answers ≡ responses_of (log ++ more))
        → DoesAll a.Does old more new → HasDone a.Does old c t.got new (fault_in p t)
    done_at Over t more stop front few told finished does =
        answered t.got more front few (finished refl) does
    done_at (GivenUp cause) t more stop front few told finished does =
        left_by (outcome_of t) more front few (told _ refl) does
    done_at _ t more stop front few told finished does = absurd (cc)

  stops_ready : (p : Phase) (t : Terminal) → is_ready p ≡ true
      → (has_stopped p ≡ true) × (fault_in p t ≡ None)
  stops_ready Over t ready = (refl, refl)
  stops_ready _ t ready = absurd (cc)

  pub one_done : (past : Past a.State) (command : List ℕ) (before now : List Fates)
      (old e : EndsOf C) (h : HasCarried a past before old) → is_ready old.terminal.phase ≡ true
      → HasAdded past command before old h now e → has_stopped e.terminal.phase ≡ true
      → HasDone a.Does (a.standing old.card.card) command e.terminal.got (a.standing e.card.card)
      (fault_of e.terminal)
  one_done past command before now old e h ready s stop =
      let t = e.terminal in
      let so_far : Past a.State = with_command past command t in
      let (stopped, no_fault) = stops_ready old.terminal.phase old.terminal ready in
      let (d, d_is) = conversed_by a past before old past.commands [] h stopped
      (append-nil past.commands) (λ r. refl) in
      let (n, n_is) = conversed_by a so_far now e so_far.commands [] s.carried stop
      (append-nil so_far.commands) (λ r. refl) in
      let all : n.did ≡ h.did ++ s.more = n_is ∙ s.did_is in
      let done = d.finished no_fault in
      done_at (a.standing old.card.card) (a.standing e.card.card) h.did past.commands past.answers
      command (ap commands_of (sym d_is) ∙ done.0) (done.1 ∙ ap responses_of d_is) t.phase t s.more
      stop (subst (λ l. IsFrontOf (commands_of l) so_far.commands) all n.carried_out)
      (subst (λ l. length l ≤ length so_far.answers + 1) all n.all_but_one)
      (λ f is. subst (λ l. IsTrue f.outcome (commands_of l) so_far.answers) all (n.told f is))
      (λ none. (n.finished none).1 ∙ ap responses_of all) s.does
