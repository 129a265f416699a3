-- The loop of `send`: how far a whole command is, and the calls of the application so far.
use Rattle.std.proofs.Common.{◌≡◌, ◌∙◌, ◌⊎◌, ℕ, List, [], ◌∷◌, ◌++◌, Some, None, Bool, true, false, refl, sym, ap, subst, inl, inr}
use Rattle.std.specs.Prelude.{if◌then◌else◌}
use Rattle.apdu_core.specs.CommandBytes.{Command}
use Rattle.apdu_core.specs.Shared.{get_response}
use Rattle.apdu_core.specs.StatusWord.{StatusWord}
use Rattle.exchange_core.specs.declared.wanted.Wanted.{Wanted}
use Rattle.exchange_core.specs.declared.wanted.Wanted.TheVariants.{Bytes, Everything}
use Rattle.exchange_core.specs.Gathered.{wanted_by}
use Rattle.apdu_terminal.specs.declared.stage.Stage.{Stage}
use Rattle.apdu_terminal.specs.declared.stage.Stage.TheVariants.{Going, Done, Failed}
use Rattle.apdu_terminal.specs.Apdus.{Pair, Place, asking, command_at}
use Rattle.apdu_terminal.specs.ApduSide.{ApduExchangeOf, ComesTo, to_place, to_end, to_stall, to_fault, answered_by, command_of, due_of, has_failed, is_going, place_of}
use Rattle.t1_core.specs.declared.terminal.Fault.{Fault}
use Rattle.t1_core.specs.declared.terminal.Outcome.{Outcome}
use Rattle.t1_core.specs.declared.terminal.Outcome.TheVariants.{NotCarriedOut, Unknown, InPart}
use Rattle.command_card.specs.declared.application.Application.{Ghosts}
use Rattle.command_card.specs.AtT1.{may_bring, status_bytes}
use Rattle.command_card.specs.Calls.{CallsFor, told_to}
use Rattle.command_card.specs.Carrying.{IsOwn}
use Rattle.command_card.specs.View.{AppletView, applet_in}
use Rattle.as_called.specs.AsIfCalled.{IsTidy}
use Rattle.as_called.specs.Faults.{HasCalled, IsTrue}
use Rattle.as_called.specs.Sending.{HasCalls, HasEnded, HasStopped, of_all}
use Rattle.as_called.specs.Whole.{Takes}
use Rattle.as_called.proofs.Following.{wanted_cases}
use Rattle.as_called.proofs.Responding.{Begins, Fetching, Means, Progress, begins, fetch_hands, on_to_all, on_to_part, once_so}
use Rattle.as_called.proofs.Steps.{After, due_when, going_when, is_at, one_more}

nothing : (before : List Pair) (last : Pair) → [] ≡ before ++ last ∷ [] → ⊥
nothing [] last e = absurd (cc)
nothing (p ∷ before) last e = absurd (cc)

module _ {A : Type 0} (a : Ghosts A) where
  -- the application has been called for the command
  pub record IsOnce (first : AppletView A) (c : Command) (k : AppletView A) : Type 0 where
    pub once : HasCalled a.Does (a.standing first.app) (told_to (a.takes (a.standing first.app)) c)
        (a.standing k.app)
    pub called : HasCalls a first c k

  -- after the first response
  pub record Later (first : AppletView A) (c : Command) (ex : ApduExchangeOf) (k : AppletView A)
      : Type 0 where
    pub pairs : List Pair
    pub comes : ComesTo c (wanted_by c.le) pairs ex
    pub bytes : List ℕ
    pub own : StatusWord
    pub is_own : IsOwn own
    pub means : Means a.takes a.Does (applet_in a.standing first) c bytes own
        (applet_in a.standing k)
    pub progress : Progress c bytes own ex (applet_in a.standing k) ex.stage
    pub is_once : IsOnce first c k

  -- before the first response, or after it
  abbrev pub Stands : AppletView A → Command → ApduExchangeOf → AppletView A → Bool → Type 0
  Stands first c ex k true = (k ≡ first) × ComesTo c (wanted_by c.le) [] ex
  Stands first c ex k false = Later first c ex k

  -- GET RESPONSE does not call the application
  fetch_same : (old k : AppletView A) (due : Command) (n : ℕ) (response : List ℕ)
      → due ≡ asking get_response n → Takes a old due response k → k.app ≡ old.app
  fetch_same old k due n response is takes =
      subst (λ (x : Command). CallsFor a.Called (a.takes (a.standing old.app)) old.app x k.app) is
      takes.called

  first_once : (old k : AppletView A) (c : Command) (response : List ℕ)
      → Takes a old c response k → IsOnce old c k
  first_once old k c response takes = record {
    once = once_so a.takes a.Does (applet_in a.standing old) (applet_in a.standing k) c response
        takes.responds;
    called = takes.called;
  }

  stays_once : (first old k : AppletView A) (c : Command) → k.app ≡ old.app → IsOnce first c old
      → IsOnce first c k
  stays_once first old k c same is = record {
    once = subst (λ x. HasCalled a.Does (a.standing first.app)
        (told_to (a.takes (a.standing first.app)) c) (a.standing x)) (sym same) is.once;
    called = subst (λ x. CallsFor a.Called (a.takes (a.standing first.app)) first.app c x)
        (sym same) is.called;
  }

  fetching : (first : AppletView A) (c : Command) (ex : ApduExchangeOf) (k : AppletView A)
      (l : Later first c ex k) → ex.stage ≡ Going
      → Fetching c l.bytes l.own ex (applet_in a.standing k)
  fetching first c ex k l going =
      subst (λ (s : Stage). Progress c l.bytes l.own ex (applet_in a.standing k) s) going l.progress

  first_due : (c due : Command) (ex : ApduExchangeOf) → due_of ex ≡ Some due
      → ComesTo c (wanted_by c.le) [] ex → due ≡ c
  first_due c due ex is comes =
      let going = going_when ex.stage (command_of ex) due is in
      let (place, none) = is_at c (wanted_by c.le) [] ex going comes in
      sym (due_when (is_going ex.stage) (command_of ex) due is) ∙ ap command_at place

  -- once the card has taken the next command, the application has been called
  pub once_more : (v : Bool) (first old k : AppletView A) (c due : Command) (ex : ApduExchangeOf)
      (response : List ℕ) → due_of ex ≡ Some due → Stands first c ex old v
      → Takes a old due response k → IsOnce first c k
  once_more true first old k c due ex response is (same, comes) takes =
      first_once first k c response
      (subst (λ (x : Command). Takes a first x response k) (first_due c due ex is comes)
      (subst (λ (x : AppletView A). Takes a x due response k) same takes))
  once_more false first old k c due ex response is later takes =
      let f = fetching first c ex old later (going_when ex.stage (command_of ex) due is) in
      let due_is = sym (due_when (is_going ex.stage) (command_of ex) due is) ∙ f.due_is in
      stays_once first old k c (fetch_same old k due f.n response due_is takes) later.is_once

  -- one more response
  pub next_stands : (v : Bool) (first old k : AppletView A) (c due : Command)
      (ex new : ApduExchangeOf) (content response : List ℕ) (status : StatusWord)
      → due_of ex ≡ Some due → IsTidy (applet_in a.standing old).left
      → response ≡ content ++ status_bytes status
      → ((pairs : List Pair) → ComesTo c (wanted_by c.le) pairs ex
      → ComesTo c (wanted_by c.le) (pairs ++ answered_by ex content status ∷ []) new)
      → has_failed new.stage ≡ false → Stands first c ex old v → Takes a old due response k
      → Later first c new k
  next_stands true first old k c due ex new content response status is tidy says led fine
      (same, comes) takes =
      let p : Pair = answered_by ex content status in
      let going = going_when ex.stage (command_of ex) due is in
      let (place, none) = is_at c (wanted_by c.le) [] ex going comes in
      let due_is = first_due c due ex is comes in
      let took : Takes a first c (content ++ status_bytes status) k =
      subst (λ r. Takes a first c r k) says
      (subst (λ (x : Command). Takes a first x response k) due_is
      (subst (λ (x : AppletView A). Takes a x due response k) same takes)) in
      let b : Begins a.takes a.Does (applet_in a.standing first) c p (applet_in a.standing k) =
      begins a.takes a.Does (applet_in a.standing first) (applet_in a.standing k) c p
      (subst (λ (x : AppletView A). IsTidy (applet_in a.standing x).left) same tidy)
      took.responds in
      let after : After ex p new new.stage = one_more c (wanted_by c.le) [] p ex new going comes
      (led [] comes) in
      let left = ap (λ (x : Place). x.left) place in
      record {
        pairs = p ∷ [];
        comes = led [] comes;
        bytes = b.bytes;
        own = b.own;
        is_own = b.is_own;
        means = b.means;
        progress = by p b after left none (wanted_cases c.le);
        is_once = first_once first k c (content ++ status_bytes status) took;
      }
    where
      by : (p : Pair)
          (b : Begins a.takes a.Does (applet_in a.standing first) c p (applet_in a.standing k))
          → After ex p new new.stage → (place_of ex).left ≡ wanted_by c.le
          → ex.gather.bytes ≡ []
          → (wanted_by c.le ≡ Bytes (may_bring c.le)) ⊎ (wanted_by c.le ≡ Everything)
          → Progress c b.bytes b.own new (applet_in a.standing k) new.stage
      by p b after left none (inl wants) =
          on_to_part c b.bytes b.own ex new p (applet_in a.standing k) (may_bring c.le) b.is_own
          wants (left ∙ wants) none b.hands after fine
      by p b after left none (inr wants) =
          on_to_all c b.bytes b.bytes b.own ex new p (applet_in a.standing k) (may_bring c.le)
          b.is_own wants (left ∙ wants) (ap (λ xs. xs ++ b.bytes) none) b.hands after fine
  next_stands false first old k c due ex new content response status is tidy says led fine later
      takes =
      let p : Pair = answered_by ex content status in
      let going = going_when ex.stage (command_of ex) due is in
      let f = fetching first c ex old later going in
      let due_is = sym (due_when (is_going ex.stage) (command_of ex) due is) ∙ f.due_is in
      let took = subst (λ r. Takes a old due r k) says takes in
      let (same, hands) = fetch_hands a.takes a.Does p (applet_in a.standing old)
      (applet_in a.standing k) f.n f.b f.rest later.own due due_is f.waits took.responds in
      let after : After ex p new new.stage = one_more c (wanted_by c.le) later.pairs p ex new going
      later.comes (led later.pairs later.comes) in
      record {
        pairs = later.pairs ++ p ∷ [];
        comes = led later.pairs later.comes;
        bytes = later.bytes;
        own = later.own;
        is_own = later.is_own;
        means = λ gathered said at is r. later.means gathered said at (is ∙ same) r;
        progress = on_to_all c later.bytes (f.b ∷ f.rest) later.own ex new p
            (applet_in a.standing k) f.n later.is_own f.wants f.left f.all hands after fine;
        is_once = stays_once first old k c
            (fetch_same old k due f.n (content ++ status_bytes status) due_is took) later.is_once;
      }

  -- ---- the ends

  stopped : (first k : AppletView A) (c : Command) → IsOnce first c k
      → HasStopped a first c InPart k
  stopped first k c is = record { left = is.once; called = is.called }

  pub stops_after : (v : Bool) (first old k : AppletView A) (c due : Command)
      (ex : ApduExchangeOf) (response : List ℕ) → due_of ex ≡ Some due → Stands first c ex old v
      → Takes a old due response k → HasStopped a first c InPart k
  stops_after v first old k c due ex response is stands takes =
      stopped first k c (once_more v first old k c due ex response is stands takes)

  abbrev pub Leaves : Outcome → AppletView A → Command → AppletView A → Type 0
  Leaves outcome old due k =
      IsTrue outcome (k ≡ old) ((response : List ℕ) × Takes a old due response k)

  first_stops : (outcome : Outcome) (first k : AppletView A) (c : Command)
      → Leaves outcome first c k → HasStopped a first c outcome k
  first_stops NotCarriedOut first k c same = record {
    left = ap (λ (x : AppletView A). a.standing x.app) same;
    called = ap (λ (x : AppletView A). x.app) same;
  }
  first_stops InPart first k c (response, takes) =
      stopped first k c (first_once first k c response takes)
  first_stops Unknown first k c (inl same) = record {
    left = inl (ap (λ (x : AppletView A). a.standing x.app) same);
    called = inl (ap (λ (x : AppletView A). x.app) same);
  }
  first_stops Unknown first k c (inr (response, takes)) =
      let is = first_once first k c response takes in
      record { left = inr is.once; called = inr is.called }

  later_same : (outcome : Outcome) (old k : AppletView A) (due : Command) (n : ℕ)
      → due ≡ asking get_response n → Leaves outcome old due k → k.app ≡ old.app
  later_same NotCarriedOut old k due n is same = ap (λ (x : AppletView A). x.app) same
  later_same InPart old k due n is (response, takes) = fetch_same old k due n response is takes
  later_same Unknown old k due n is (inl same) = ap (λ (x : AppletView A). x.app) same
  later_same Unknown old k due n is (inr (response, takes)) =
      fetch_same old k due n response is takes

  pub stops_at : (v : Bool) (first old k : AppletView A) (c due : Command) (ex : ApduExchangeOf)
      (fault : Fault) → due_of ex ≡ Some due → Stands first c ex old v
      → Leaves fault.outcome old due k → HasStopped a first c (of_all v fault).outcome k
  stops_at true first old k c due ex fault is (same, comes) leaves =
      first_stops fault.outcome first k c
      (subst (λ (x : Command). Leaves fault.outcome first x k) (first_due c due ex is comes)
      (subst (λ (x : AppletView A). Leaves fault.outcome x due k) same leaves))
  stops_at false first old k c due ex fault is later leaves =
      let f = fetching first c ex old later (going_when ex.stage (command_of ex) due is) in
      let due_is = sym (due_when (is_going ex.stage) (command_of ex) due is) ∙ f.due_is in
      stopped first k c
      (stays_once first old k c (later_same fault.outcome old k due f.n due_is leaves)
      later.is_once)

  none_due : (s : Stage) (c : Command) → (if is_going s then Some c else None) ≡ None
      → s ≡ Going → ⊥
  none_due s c none going =
      let e = ap (λ (x : Stage). if is_going x then Some c else None) (sym going) ∙ none in
      absurd (cc)

  first_going : (c : Command) (wanted : Wanted) (ex : ApduExchangeOf) → ComesTo c wanted [] ex
      → ex.stage ≡ Going
  first_going c wanted ex (to_place going through gathered wanted_is number) = going
  first_going c wanted ex (to_end status ends brings number) =
      absurd (nothing brings.before brings.last brings.pairs_are)
  first_going c wanted ex (to_stall fails stalls) =
      absurd (nothing stalls.before stalls.last stalls.pairs_are)
  first_going c wanted ex (to_fault fails long) =
      absurd (nothing long.before long.last long.pairs_are)

  pub ended : (v : Bool) (first k : AppletView A) (c : Command) (ex : ApduExchangeOf)
      → due_of ex ≡ None → Stands first c ex k v → HasEnded a first c ex k
  ended true first k c ex none (same, comes) =
      absurd (none_due ex.stage (command_of ex) none (first_going c (wanted_by c.le) ex comes))
  ended false first k c ex none later = by ex.stage refl later.progress where
    by : (s : Stage) → ex.stage ≡ s
        → Progress c later.bytes later.own ex (applet_in a.standing k) s
        → HasEnded a first c ex k
    by Going is progress = absurd (none_due ex.stage (command_of ex) none is)
    by Failed is progress = absurd progress
    by (Done status) is progress = record {
      status = status;
      done = is;
      as_if = later.means ex.gather.bytes status (applet_in a.standing k) refl progress;
      called = later.is_once.called;
    }
