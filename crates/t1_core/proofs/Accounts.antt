-- A terminal is in a fault exactly if there is a reason, whatever any peer sends.
use Rattle.std.proofs.Common.{◌≡◌, refl, sym, ap, subst, ◌∙◌, ℕ, zero, suc, ◌+◌, ◌≤◌, ◌<◌, Bool, true, false, List, [], ◌∷◌, ◌++◌, length, length-append, nat_lt, Some, None, cond, ◌==◌, arith}
use Rattle.t1_core.specs.declared.block.Control.{Control}
use Rattle.t1_core.specs.declared.block.Control.TheVariants.{Resynch, Ifs, Abort, Wtx}
use Rattle.t1_core.specs.declared.settings.Settings.{Settings}
use Rattle.t1_core.specs.declared.terminal.Cause.TheVariants.{TriesSpent, ExtensionsSpent, Aborted, TooLong}
use Rattle.t1_core.specs.declared.terminal.Out.{Out}
use Rattle.t1_core.specs.declared.terminal.Out.TheVariants.{Own, Asks, Grants}
use Rattle.t1_core.specs.declared.terminal.Phase.{Phase}
use Rattle.t1_core.specs.declared.terminal.Phase.TheVariants.{Opening, Sending, Receiving, Aborting, Over, GivenUp}
use Rattle.t1_core.specs.declared.pcb.BlockReason.{BlockReason}
use Rattle.t1_core.specs.declared.pcb.BlockReason.TheVariants.{Other}
use Rattle.t1_core.specs.Block.{I, R, Request, Response, Arrival, Came, Bad, other, same, is_size}
use Rattle.t1_core.specs.BlockBytes.{arrival_of}
use Rattle.t1_core.specs.History.{Event, Begins, Takes, Misses, Resets, happens, Account, nothing, stays, without_step, counted, counts, account, after, accounts, reason, cause_in, IsAccounted}
use Rattle.t1_core.specs.TerminalSide.{Terminal, fresh, begins, begins_sending, shortened, first_phase, spend, takes, gathers, acknowledged, answered, asked, extend, longest}
use Rattle.t1_core.proofs.Bits.{same_self, same_other_2}

module _ (s : Settings) where
  -- within the limits
  abbrev Within : Terminal → Type 0
  Within t =
      (t.settings ≡ s) × (t.tries ≤ s.tries) × (t.extensions ≤ s.extensions)
      × (length t.got ≤ s.limit) × (is_size t.size ≡ true)

  -- the terminal waits for a block
  abbrev Active : ℕ → Terminal → Account → Type 0
  Active aborts t a =
      (a.fruitless + t.tries ≡ s.tries) × (a.grants + t.extensions ≡ s.extensions)
      × (a.arrived ≡ length t.got) × (a.aborts ≡ aborts)

  abbrev InPhase : Phase → Terminal → Account → Type 0
  InPhase Opening t a = Active 0 t a × (t.opened ≡ false)
  InPhase Sending t a = Active 0 t a
  InPhase Receiving t a = Active 0 t a
  InPhase Aborting t a = Active 1 t a
  InPhase Over t a = reason s a ≡ None
  InPhase (GivenUp cause) t a = reason s a ≡ Some cause

  record Stands (t : Terminal) (a : Account) : Type 0 where
    within : Within t
    in_phase : InPhase t.phase t a

  no_reason : (a : Account) → a.fruitless ≤ s.tries → a.grants ≤ s.extensions → a.arrived ≤ s.limit
      → a.aborts ≤ 1 → reason s a ≡ None
  no_reason a f g l b = grind (arith, f, g, l, b)

  tries_reason : (a : Account) → s.tries < a.fruitless → reason s a ≡ Some TriesSpent
  tries_reason a f = grind (arith, f)

  extensions_reason : (a : Account) → a.fruitless ≤ s.tries → s.extensions < a.grants
      → reason s a ≡ Some ExtensionsSpent
  extensions_reason a f g = grind (arith, f, g)

  long_reason : (a : Account) → a.fruitless ≤ s.tries → a.grants ≤ s.extensions
      → s.limit < a.arrived → reason s a ≡ Some TooLong
  long_reason a f g l = grind (arith, f, g, l)

  abort_reason : (a : Account) → a.fruitless ≤ s.tries → a.grants ≤ s.extensions
      → a.arrived ≤ s.limit → 1 < a.aborts → reason s a ≡ Some Aborted
  abort_reason a f g l b = grind (arith, f, g, l, b)

  -- one reception: it counts by whether N(S) and N(R) stay the same
  abbrev Next : Arrival → (old new : Terminal) → Account → Type 0
  Next b old new a = (v : Bool) × (stays old new ≡ v) × Stands new (counted v old.phase b a)

  -- without progress, with these counts
  abbrev Stays : (old new : Terminal) → Account → Type 0
  Stays old new a = (stays old new ≡ true) × Stands new a

  abbrev Waits : Phase → (opened : Bool) → Type 0
  Waits Opening opened = opened ≡ false
  Waits Sending opened = Unit {0}
  Waits Receiving opened = Unit {0}
  Waits _ opened = ⊥

  waiting : (p : Phase) (t : Terminal) (a : Account) → Waits p t.opened → Active 0 t a
      → InPhase p t a
  waiting Opening t a w h = (h, w)
  waiting Sending t a w h = h
  waiting Receiving t a w h = h
  waiting _ t a w h = absurd w

  abbrev on : Phase → Terminal → Terminal
  on p t = record t { phase = p }

  abbrev fruitless : Account → Account
  fruitless a = record a { fruitless = a.fruitless + 1 }

  all_stay : (number due opened : Bool)
      → cond (same number number) (cond (same due due) (same opened opened) false) false ≡ true
  all_stay number due opened = rw (same_self number, same_self due, same_self opened) refl

  number_moves : (number now : Bool) → cond (same number (other number)) now false ≡ false
  number_moves number now = rw (same_other_2 number) refl

  due_moves : (number due now : Bool)
      → cond (same number number) (cond (same due (other due)) now false) false ≡ false
  due_moves number due now = rw (same_self number, same_other_2 due) refl

  opened_moves : (number due opened : Bool) → opened ≡ false
      → cond (same number number) (cond (same due due) (same opened true) false) false ≡ false
  opened_moves number due opened e = rw (same_self number, same_self due, e) refl

  -- N(S) does not matter here
  renumbered : (t : Terminal) (a : Account) (number : Bool) → Stands t a
      → Stands (record t { number = number }) a
  renumbered t a number h = record { within = h.within; in_phase = again t.phase h.in_phase } where
    again : (p : Phase) → InPhase p t a → InPhase p (record t { number = number }) a
    again Opening x = x
    again _ x = x

  requests_count : (p : Phase) (control : Control) (a : Account) (opened : Bool) → Waits p opened
      → without_step p (Came (Request control)) a
      ≡ without_step Sending (Came (Request control)) a
  requests_count Opening (Wtx multiple) a opened w = refl
  requests_count Receiving (Wtx multiple) a opened w = refl
  requests_count Aborting control a opened w = absurd w
  requests_count Over control a opened w = absurd w
  requests_count (GivenUp cause) control a opened w = absurd w
  requests_count _ control a opened w = refl

  module _ (t : Terminal) (a : Account) (within : Within t) (h : Active 0 t a) where
    -- S(IFS request) has its response, or is given up
    begins_next : (b : Arrival) → t.opened ≡ false
        → Next b (on Opening t) (begins_sending (on Opening t)) a
    begins_next b e =
        let same = ap (λ x. x.tries) within.0 in (
          false,
          opened_moves t.number t.due t.opened e,
          record {
            within = (within.0, omega (arith, same), within.2, within.3, within.4);
            in_phase = (omega (arith, same), h.1, h.2, h.3);
          },
        )

    -- a fruitless reception
    spent : (b : Arrival) (p : Phase) (out : Out) → Waits p t.opened
        → without_step p b a ≡ fruitless a → Next b (on p t) (spend t.tries (on p t) out) a
    spent b p out w is = Of p t.tries refl w is where
      given_up : (p : Phase) → t.tries ≡ 0 → without_step p b a ≡ fruitless a
          → Next b (on p t) (on (GivenUp TriesSpent) t) a
      given_up p e is =
          let x = h.0 in (
            true,
            all_stay t.number t.due t.opened,
            subst (Stands (on (GivenUp TriesSpent) t)) (sym is) (record {
              within = within;
              in_phase = tries_reason (fruitless a) (omega (arith, x, e));
            }),
          )

      Of : (p : Phase) (n : ℕ) → t.tries ≡ n → Waits p t.opened
          → without_step p b a ≡ fruitless a → Next b (on p t) (spend n (on p t) out) a
      Of Opening zero e w is = begins_next b w
      Of Sending zero e w is = given_up Sending e is
      Of Receiving zero e w is = given_up Receiving e is
      Of _ zero e w is = absurd w
      Of p (suc n) e w is =
          let x = h.0 in let y = within.1 in (
            true,
            all_stay t.number t.due t.opened,
            subst (Stands (record t { phase = p; tries = n; out = out })) (sym is) (record {
              within = (within.0, omega (arith, y, e), within.2, within.3, within.4);
              in_phase = waiting p (record t { phase = p; tries = n; out = out }) (fruitless a) w
                  (omega (arith, x, e), h.1, h.2, h.3);
            }),
          )

    either : (b : Arrival) (p : Phase) (x y : Terminal) (c : Bool) → Next b (on p t) x a
        → Next b (on p t) y a → Next b (on p t) (cond c x y) a
    either b p x y true first second = first
    either b p x y false first second = second

    -- a field of the response
    field_counts : (p : Phase) (more : Bool) (f : List ℕ)
        → (stays (on p t) (gathers more (on p t) f) ≡ false) × Stands (gathers more (on p t) f)
        (record a { fruitless = 0; arrived = a.arrived + length f })
    field_counts p more f = Of (nat_lt t.settings.limit (length t.got + length f)) more refl where
      now : Account
      now = record a { fruitless = 0; arrived = a.arrived + length f }

      grants_le : a.grants ≤ s.extensions
      grants_le = let x = h.1 in omega (arith, x)

      fits : nat_lt t.settings.limit (length t.got + length f) ≡ false
          → length (t.got ++ f) ≤ s.limit
      fits e =
          let same = ap (λ x. x.limit) within.0 in
          let n = length-append t.got f in
          grind (arith, e, same, n)

      Of : (v more : Bool) → nat_lt t.settings.limit (length t.got + length f) ≡ v
          → (stays (on p t) (gathers more (on p t) f) ≡ false)
          × Stands (gathers more (on p t) f) now
      Of true more e =
          let same = ap (λ x. x.limit) within.0 in
          let arrived = h.2 in
          rw e (
            due_moves t.number t.due _,
            record {
              within = within;
              in_phase = long_reason now (omega arith) grants_le (grind (arith, e, same, arrived));
            },
          )
      Of false true e =
          let same = ap (λ x. x.tries) within.0 in
          let arrived = h.2 in
          let n = length-append t.got f in
          let fit = fits e in
          rw e (
            due_moves t.number t.due _,
            record {
              within = (within.0, omega (arith, same), within.2, fit, within.4);
              in_phase = (omega (arith, same), h.1, omega (arith, arrived, n), h.3);
            },
          )
      Of false false e =
          let arrived = h.2 in
          let none = h.3 in
          let n = length-append t.got f in
          let fit = fits e in
          rw e (
            due_moves t.number t.due _,
            record {
              within = (within.0, within.1, within.2, fit, within.4);
              in_phase = no_reason now (omega arith) grants_le (omega (arith, fit, arrived, n))
                  (omega (arith, none));
            },
          )

    answered_next : (n more : Bool) (rest f : List ℕ)
        → Next (Came (I n more f)) (on Sending t) (answered rest (on Sending t) more f) a
    answered_next n more [] f = (
      false,
      number_moves t.number _,
      renumbered (gathers more (on Sending t) f) _ (other t.number)
          (field_counts Sending more f).1,
    )
    answered_next n more (b ∷ bytes) f = spent _ Sending (Asks Other) tt refl

    acknowledged_next : (n : Bool) (error : BlockReason) (rest : List ℕ)
        → Next (Came (R n error)) (on Sending t) (acknowledged rest (on Sending t)) a
    acknowledged_next n error [] = spent _ Sending (Asks Other) tt refl
    acknowledged_next n error (b ∷ bytes) =
        let same = ap (λ x. x.tries) within.0 in
        let arrived = h.2 in (
          false,
          number_moves t.number _,
          record {
            within = (within.0, omega (arith, same), within.2, within.3, within.4);
            in_phase = (omega (arith, same), h.1, omega (arith, arrived), h.3);
          },
        )

    -- a request of the card
    extended : (p : Phase) (size : ℕ) (control : Control) (n : ℕ) → Waits p t.opened
        → t.extensions ≡ n → is_size size ≡ true
        → Stays (on p t) (extend n (record t { phase = p; size = size }) control)
        (record a { grants = a.grants + 1 })
    extended p size control zero w e is =
        let x = h.0 in let y = h.1 in (
          all_stay t.number t.due t.opened,
          record {
            within = (within.0, within.1, within.2, within.3, is);
            in_phase = extensions_reason (record a { grants = a.grants + 1 }) (omega (arith, x))
                (omega (arith, y, e));
          },
        )
    extended p size control (suc n) w e is =
        let y = h.1 in let z = within.2 in (
          all_stay t.number t.due t.opened,
          record {
            within = (within.0, within.1, omega (arith, z, e), within.3, is);
            in_phase = waiting p
                (record t { phase = p; size = size; extensions = n; out = Grants control })
                (record a { grants = a.grants + 1 }) w (h.0, omega (arith, y, e), h.2, h.3);
          },
        )

    -- a request that is granted
    granted : (p : Phase) (control : Control) (new : Terminal) → Waits p t.opened
        → without_step Sending (Came (Request control)) a ≡ record a { grants = a.grants + 1 }
        → Stays (on p t) new (record a { grants = a.grants + 1 })
        → Next (Came (Request control)) (on p t) new a
    granted p control new w is x =
        (true, x.0, subst (Stands new) (sym (requests_count p control a t.opened w ∙ is)) x.1)

    resized : (p : Phase) (size : ℕ) (v : Bool) → Waits p t.opened → is_size size ≡ v
        → Next (Came (Request (Ifs size))) (on p t)
        (cond v (extend t.extensions (record t { phase = p; size = size }) (Ifs size))
        (spend t.tries (on p t) (Asks Other))) a
    resized p size true w e =
        granted p (Ifs size) _ w
        (ap (λ v. cond v (record a { grants = a.grants + 1 }) (fruitless a)) e)
        (extended p size (Ifs size) t.extensions w refl e)
    resized p size false w e =
        spent _ p (Asks Other) w
        (requests_count p (Ifs size) a t.opened w
        ∙ ap (λ v. cond v (record a { grants = a.grants + 1 }) (fruitless a)) e)

    asked_next : (p : Phase) (control : Control) → Waits p t.opened
        → Next (Came (Request control)) (on p t) (asked control (on p t)) a
    asked_next p (Wtx multiple) w =
        granted p (Wtx multiple) _ w refl
        (extended p t.size (Wtx multiple) t.extensions w refl within.4)
    asked_next p (Ifs size) w = resized p size (is_size size) w refl
    asked_next p Abort w =
        let x = h.3 in (
          true,
          all_stay t.number t.due t.opened,
          subst (Stands (on Aborting t)) (sym (requests_count p Abort a t.opened w)) (record {
            within = within;
            in_phase = (h.0, h.1, h.2, omega (arith, x));
          }),
        )
    asked_next p Resynch w =
        spent _ p (Asks Other) w (requests_count p Resynch a t.opened w)

    opening_next : (b : Arrival) → t.opened ≡ false
        → Next b (on Opening t) (takes (on Opening t) b) a
    opening_next (Came (Request control)) w = asked_next Opening control w
    opening_next (Came (Response (Ifs size))) w =
        either _ Opening _ _ (size == longest) (begins_next _ w)
        (spent _ Opening (Asks Other) w refl)
    opening_next (Came b) w = spent (Came b) Opening (Asks Other) w refl
    opening_next (Bad reason) w = spent (Bad reason) Opening (Asks reason) w refl

    receiving_next : (b : Arrival) → Next b (on Receiving t) (takes (on Receiving t) b) a
    receiving_next (Came (I n more f)) =
        let y = field_counts Receiving more f in
        either _ Receiving _ _ (same n t.due) (false, y.0, y.1)
        (spent _ Receiving (Asks Other) tt refl)
    receiving_next (Came (Request control)) = asked_next Receiving control tt
    receiving_next (Came b) = spent (Came b) Receiving (Asks Other) tt refl
    receiving_next (Bad reason) = spent (Bad reason) Receiving (Asks reason) tt refl

  sending_next : (t : Terminal) (a : Account) → Within t → Active 0 t a → (b : Arrival)
      → Next b (on Sending t) (takes (on Sending t) b) a
  sending_next t a within h (Came (I n more f)) =
      either t a within h _ Sending _ _ (same n t.due) (answered_next t a within h n more t.rest f)
      (spent t a within h _ Sending (Asks Other) tt refl)
  sending_next t a within h (Came (R n error)) =
      either t a within h _ Sending _ _ (same n t.number)
      (spent (shortened t) a within h (Came (R n error)) Sending Own tt refl)
      (acknowledged_next t a within h n error t.rest)
  sending_next t a within h (Came (Request control)) =
      asked_next t a within h Sending control tt
  sending_next t a within h (Came b) =
      spent t a within h (Came b) Sending (Asks Other) tt refl
  sending_next t a within h (Bad reason) =
      spent t a within h (Bad reason) Sending (Asks reason) tt refl

  aborted_next : (t : Terminal) (a : Account) (b : Arrival) → Within t → Active 1 t a
      → Next b (on Aborting t) (on (GivenUp Aborted) t) a
  aborted_next t a b within h =
      let x = h.0 in let y = h.1 in let n = h.2 in let z = h.3 in let m = within.3 in (
        true,
        all_stay t.number t.due t.opened,
        record {
          within = within;
          in_phase = abort_reason (record a { aborts = a.aborts + 1 }) (omega (arith, x))
              (omega (arith, y)) (omega (arith, n, m)) (omega (arith, z));
        },
      )

  by_next : (b : Arrival) (old new : Terminal) (a : Account) → Next b old new a
      → Stands new (counted (stays old new) old.phase b a)
  by_next b old new a n = subst (λ v. Stands new (counted v old.phase b a)) (sym n.1) n.2

  reception : (p : Phase) (t : Terminal) (a : Account) (b : Arrival) → Stands (on p t) a
      → Stands (takes (on p t) b) (counts (on p t) b a)
  reception Opening t a b h =
      by_next b (on Opening t) _ a (opening_next t a h.within h.in_phase.0 b h.in_phase.1)
  reception Sending t a b h =
      by_next b (on Sending t) _ a (sending_next t a h.within h.in_phase b)
  reception Receiving t a b h =
      by_next b (on Receiving t) _ a (receiving_next t a h.within h.in_phase b)
  reception Aborting t a b h =
      by_next b (on Aborting t) _ a (aborted_next t a b h.within h.in_phase)
  reception Over t a b h = h
  reception (GivenUp cause) t a b h = h

  is_ifsc : (n : ℕ) → 0 < n → n < 255 → is_size n ≡ true
  is_ifsc n some few = grind (arith, some, few)

  begun : (t : Terminal) (command : List ℕ) → Within t → Stands (begins command t) nothing
  begun t command h =
      let tries = ap (λ x. x.tries) h.0 in
      let extensions = ap (λ x. x.extensions) h.0 in record {
        within = (h.0, omega (arith, tries), omega (arith, extensions), omega arith, h.4);
        in_phase = of_first t.opened refl
            (omega (arith, tries), omega (arith, extensions), refl, refl);
      } where
        of_first : (v : Bool) → t.opened ≡ v → Active 0 (begins command t) nothing
            → InPhase (first_phase v) (begins command t) nothing
        of_first true e x = x
        of_first false e x = (x, e)

  reset : Stands (fresh s) nothing
  reset = record {
    within = (refl, omega arith, omega arith, omega arith, is_ifsc s.ifsc s.inside.0 s.inside.1);
    in_phase = no_reason nothing (omega arith) (omega arith) (omega arith) (omega arith);
  }

  event : (e : Event) (p : Phase) (t : Terminal) (a : Account) → Stands (on p t) a
      → Stands (happens e (on p t)) (account e (on p t) a)
  event (Begins command) Over t a h = begun (on Over t) command h.within
  event (Begins command) _ t a h = h
  event (Takes bytes) p t a h = reception p t a (arrival_of bytes) h
  event (Misses reason) p t a h = reception p t a (Bad reason) h
  event Resets p t a h = subst (λ x. Stands (fresh x) nothing) (sym h.within.0) reset

  all_stand : (events : List Event) (t : Terminal) (a : Account) → Stands t a
      → Stands (after t events) (accounts t a events)
  all_stand [] t a h = h
  all_stand (e ∷ es) t a h =
      all_stand es (happens e t) (account e t a) (event e t.phase t a h)

  none : (aborts : ℕ) (t : Terminal) (a : Account) → Within t → Active aborts t a → aborts ≤ 1
      → None ≡ reason s a
  none aborts t a w h le =
      let x = h.0 in let y = h.1 in let n = h.2 in let z = h.3 in let m = w.3 in
      sym (no_reason a (omega (arith, x)) (omega (arith, y)) (omega (arith, n, m))
      (omega (arith, z, le)))

  cause_is : (p : Phase) (t : Terminal) (a : Account) → Within t → InPhase p t a
      → cause_in p ≡ reason s a
  cause_is (GivenUp cause) t a w h = sym h
  cause_is Over t a w h = sym h
  cause_is Aborting t a w h = none 1 t a w h (omega arith)
  cause_is Opening t a w h = none 0 t a w h.0 (omega arith)
  cause_is _ t a w h = none 0 t a w h (omega arith)

pub each_fault_has_its_reason : (settings : Settings) (events : List Event)
    → IsAccounted settings (after (fresh settings) events)
    (accounts (fresh settings) nothing events)
each_fault_has_its_reason settings events =
    let h = all_stand settings events (fresh settings) nothing (reset settings) in
    let w = h.within in record {
      fault = cause_is settings _ _ _ w h.in_phase;
      settings_stay = w.0;
      tries = w.1;
      extensions = w.2;
      gathered = w.3;
      size = w.4;
    }
