-- A whole command as bytes at the card, and over a line at T=1.
use Rattle.std.proofs.Common.{◌≡◌, ◌∙◌, ◌<◌, ℕ, List, [], ◌∷◌, ◌++◌, length, replicate, Option, Some, None, true, refl, sym, ap, subst, arith, inl, inr, Result, Ok, Err}
use Rattle.std.specs.Prelude.{MatchResult}
use Rattle.std.proofs.lemmas.List.{length-replicate}
use Rattle.apdu_core.specs.CommandBytes.{Command, IsCommand, command_bytes}
use Rattle.t1_core.specs.declared.terminal.Fault.{Fault}
use Rattle.t1_core.specs.declared.terminal.Outcome.{Outcome}
use Rattle.t1_core.specs.declared.terminal.Outcome.TheVariants.{NotCarriedOut, Unknown, InPart}
use Rattle.t1_core.specs.declared.terminal.Phase.{Phase}
use Rattle.t1_core.specs.declared.terminal.Phase.TheVariants.{Over}
use Rattle.t1_core.specs.CardSide.{Did as Done}
use Rattle.t1_core.specs.Carried.{EndsOf, HasCarried, Past, nothing_yet}
use Rattle.t1_core.specs.Conversing.{Conversed}
use Rattle.t1_core.specs.Doing.{DoesAll, commands_of}
use Rattle.t1_core.specs.declared.line.Fates.{Fates}
use Rattle.t1_core.specs.declared.settings.Settings.{Settings}
use Rattle.t1_core.specs.OneCommand.{CarriesOut, HasDone, IsLeftBy}
use Rattle.t1_core.specs.TerminalSide.{Terminal, fault_in, fault_of, has_stopped, is_ready}
use Rattle.command_card.specs.declared.application.Application.{Ghosts}
use Rattle.command_card.specs.State.{CardState, Nothing_left}
use Rattle.command_card.specs.View.{AppletView, applet_in}
use Rattle.as_called.specs.AsIfCalled.{IsTidy}
use Rattle.as_called.specs.Faults.{IsTrue}
use Rattle.as_called.specs.Whole.{Takes, TakesBytes, at_t1}
use Rattle.as_called.proofs.Responding.{responds_tidy}

-- some bytes are too long
pub never_long : ((command : List ℕ) → 261 < length command → ⊥) → ⊥
never_long none = none (replicate 262 0) (omega (arith, length-replicate {A = ℕ} 262 0))

is_over : (p : Phase) (t : Terminal) → has_stopped p ≡ true → fault_in p t ≡ None → p ≡ Over
is_over Over t stopped none = refl
is_over _ t stopped none = absurd (cc)

pub ready_again : (t : Terminal) → has_stopped t.phase ≡ true → fault_of t ≡ None
    → is_ready t.phase ≡ true
ready_again t stopped none = ap is_ready (is_over t.phase t stopped none)

stops : (p : Phase) → is_ready p ≡ true → has_stopped p ≡ true
stops Over ready = refl
stops _ ready = absurd (cc)

nothing_done : {State : Type 0} (Does : State → Done → State → Type 0) (did : List Done)
    (old new : State) (rest : List (List ℕ)) → DoesAll Does old did new
    → commands_of did ++ rest ≡ [] → new ≡ old
nothing_done Does [] old new rest does none = does
nothing_done Does (d ∷ did) old new rest does none = absurd (cc)

module _ {A : Type 0} (a : Ghosts A) where
  pub takes_command : (old new : AppletView A) (d : Done) (c : Command) → IsCommand c
      → d.command ≡ command_bytes c → TakesBytes a old d new → Takes a old c d.response new
  takes_command old new d c is bytes takes = record {
    responds = takes.does.command c is bytes;
    called = takes.called.command c is bytes;
  }

  pub takes_tidy : (old new : AppletView A) (c : Command) (response : List ℕ)
      → IsTidy (applet_in a.standing old).left → Takes a old c response new
      → IsTidy (applet_in a.standing new).left
  takes_tidy old new c response tidy takes =
      responds_tidy a.takes a.Does (applet_in a.standing old) (applet_in a.standing new) c response
      tidy takes.responds

  -- what a link says of a fault
  abbrev Leaves : Outcome → AppletView A → Command → AppletView A → Type 0
  Leaves outcome old c new =
      IsTrue outcome (new ≡ old) ((bytes : List ℕ) × Takes a old c bytes new)

  out_so : (old new : AppletView A) (bytes response : List ℕ) (c : Command) → IsCommand c
      → bytes ≡ command_bytes c → CarriesOut (TakesBytes a) old bytes response new
      → Takes a old c response new
  out_so old new bytes response c is same (asks, takes) = takes_command old new _ c is same takes

  pub left_by : (outcome : Outcome) (old new : AppletView A) (bytes : List ℕ) (c : Command)
      → IsCommand c → bytes ≡ command_bytes c → IsLeftBy (TakesBytes a) old bytes new outcome
      → Leaves outcome old c new
  left_by NotCarriedOut old new bytes c is same left = left
  left_by InPart old new bytes c is same (response, out) =
      (response, out_so old new bytes response c is same out)
  left_by Unknown old new bytes c is same (inl stays) = inl stays
  left_by Unknown old new bytes c is same (inr (response, out)) =
      inr (response, out_so old new bytes response c is same out)

  left_tidy : (outcome : Outcome) (old new : AppletView A) (c : Command)
      → IsTidy (applet_in a.standing old).left → Leaves outcome old c new
      → IsTidy (applet_in a.standing new).left
  left_tidy NotCarriedOut old new c tidy stays =
      subst (λ (x : AppletView A). IsTidy (applet_in a.standing x).left) (sym stays) tidy
  left_tidy InPart old new c tidy (response, takes) = takes_tidy old new c response tidy takes
  left_tidy Unknown old new c tidy (inl stays) =
      subst (λ (x : AppletView A). IsTidy (applet_in a.standing x).left) (sym stays) tidy
  left_tidy Unknown old new c tidy (inr (response, takes)) =
      takes_tidy old new c response tidy takes

  abbrev Does : AppletView A → List ℕ → List ℕ → AppletView A → Option Fault → Type 0
  Does old bytes got new fault = HasDone (TakesBytes a) old bytes got new fault

  -- after one command over the line
  pub done_tidy : (o : Option Fault) (old new : AppletView A) (bytes got : List ℕ) (c : Command)
      → IsCommand c → bytes ≡ command_bytes c → IsTidy (applet_in a.standing old).left
      → Does old bytes got new o → IsTidy (applet_in a.standing new).left
  done_tidy None old new bytes got c is same tidy out =
      takes_tidy old new c got tidy (out_so old new bytes got c is same out)
  done_tidy (Some fault) old new bytes got c is same tidy left =
      left_tidy fault.outcome old new c tidy (left_by fault.outcome old new bytes c is same left)

  pub done_ok : (o : Option Fault) (old new : AppletView A) (bytes got : List ℕ) (c : Command)
      → IsCommand c → bytes ≡ command_bytes c → o ≡ None → Does old bytes got new o
      → Takes a old c got new
  done_ok o old new bytes got c is same none does =
      out_so old new bytes got c is same (subst (λ x. Does old bytes got new x) none does)

  pub done_err : (o : Option Fault) (old new : AppletView A) (bytes got : List ℕ) (c : Command)
      (fault : Fault) → IsCommand c → bytes ≡ command_bytes c → o ≡ Some fault
      → Does old bytes got new o → Leaves fault.outcome old c new
  done_err o old new bytes got c fault is same some does =
      left_by fault.outcome old new bytes c is same
      (subst (λ x. Does old bytes got new x) some does)

  -- what the link over a line returns; `inside` is what the end sees of its fields
  abbrev pub Carried : EndsOf (AppletView A) → Command → EndsOf (AppletView A)
      → Result (Unit {0}) Fault → Type 0
  Carried old c new r = MatchResult r
      (λ _. Takes a old.card.card c new.terminal.got new.card.card
      × (is_ready new.terminal.phase ≡ true))
      (λ fault. IsTrue fault.outcome (new.card.card ≡ old.card.card)
      ((bytes : List ℕ) × Takes a old.card.card c bytes new.card.card))

  pub over_ok : (inside seen new : EndsOf (AppletView A)) (bytes : List ℕ) (c : Command)
      (r : Result (Unit {0}) Fault) (x : Unit {0}) → inside ≡ seen → IsCommand c
      → bytes ≡ command_bytes c → has_stopped new.terminal.phase ≡ true
      → fault_of new.terminal ≡ None
      → Does inside.card.card bytes new.terminal.got new.card.card (fault_of new.terminal)
      → r ≡ Ok x → Carried seen c new r
  over_ok inside seen new bytes c r x same is spelled stopped none does result =
      subst (λ (e : EndsOf (AppletView A)). Carried e c new r) same
      (subst (λ (q : Result (Unit {0}) Fault). Carried inside c new q) (sym result) (
        done_ok (fault_of new.terminal) inside.card.card new.card.card bytes new.terminal.got c is
            spelled none does,
        ready_again new.terminal stopped none,
      ))

  pub over_err : (inside seen new : EndsOf (AppletView A)) (bytes : List ℕ) (c : Command)
      (r : Result (Unit {0}) Fault) (fault : Fault) → inside ≡ seen → IsCommand c
      → bytes ≡ command_bytes c → fault_of new.terminal ≡ Some fault
      → Does inside.card.card bytes new.terminal.got new.card.card (fault_of new.terminal)
      → r ≡ Err fault → Carried seen c new r
  over_err inside seen new bytes c r fault same is spelled some does result =
      subst (λ (e : EndsOf (AppletView A)). Carried e c new r) same
      (subst (λ (q : Result (Unit {0}) Fault). Carried inside c new q) (sym result)
      (done_err (fault_of new.terminal) inside.card.card new.card.card bytes new.terminal.got c
      fault is spelled some does))

  -- law of `t1_core`
  abbrev pub AreDialogues : Type 0
  AreDialogues = (past : Past (AppletView A)) (passed : List Fates) (e : EndsOf (AppletView A))
      → HasCarried (at_t1 a) past passed e → has_stopped e.terminal.phase ≡ true
      → Conversed (at_t1 a) past.settings past.first e.card.card past.commands past.answers
      (fault_of e.terminal) past.passed passed

  -- both ends are new, and so is the card
  pub starts : AreDialogues → (settings : Settings) (first : AppletView A) (passed : List Fates)
      (e : EndsOf (AppletView A)) (s : CardState a.State) → is_ready e.terminal.phase ≡ true
      → HasCarried (at_t1 a) (nothing_yet settings first passed) passed e
      → applet_in a.standing first ≡ s → applet_in a.standing e.card.card ≡ s
  starts law settings first passed e s ready has is =
      let d = law (nothing_yet settings first passed) passed e has (stops e.terminal.phase ready) in
      ap (λ (x : AppletView A). applet_in a.standing x)
      (nothing_done (TakesBytes a) d.did first e.card.card d.carried_out.0 d.does d.carried_out.1)
      ∙ is

  pub starts_tidy : (e : EndsOf (AppletView A)) (app : a.State)
      → applet_in a.standing e.card.card ≡ record { app = app; left = Nothing_left }
      → IsTidy (applet_in a.standing e.card.card).left
  starts_tidy e app is = subst (λ (s : CardState a.State). IsTidy s.left) (sym is) tt
