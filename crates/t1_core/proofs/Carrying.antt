-- Commands one after another; each begins after the answer to the previous one.
use Rattle.std.proofs.Common.{◌≡◌, refl, sym, ap, subst, ◌∙◌, ℕ, ◌+◌, ◌<◌, ◌≤◌, Bool, true, false, List, [], ◌∷◌, ◌++◌, length, map, take, drop, get_or, Option, Some, None, append_assoc, append-nil, length-append, arith, inl, inr}
use Rattle.std.proofs.lemmas.Bool.{cases_lt}
use Rattle.std.proofs.lemmas.List.{length-map, map-append, take-append-drop, take_more}
use Rattle.std.proofs.Math.ListN.{drop_of_length-le}
use Rattle.std.proofs.Math.Nat.{mul-le-mul_right}
use Rattle.t1_core.specs.declared.applet.Applet.{Ghosts}
use Rattle.t1_core.specs.declared.line.Fates.{Fates}
use Rattle.t1_core.specs.declared.settings.Settings.{Settings}
use Rattle.t1_core.specs.declared.terminal.Cause.{Cause}
use Rattle.t1_core.specs.declared.terminal.Fault.{Fault}
use Rattle.t1_core.specs.declared.terminal.Out.{Out}
use Rattle.t1_core.specs.declared.terminal.Out.TheVariants.{Own}
use Rattle.t1_core.specs.declared.terminal.Phase.{Phase}
use Rattle.t1_core.specs.declared.terminal.Phase.TheVariants.{Opening, Sending, Receiving, Over, GivenUp}
use Rattle.t1_core.specs.Block.{Block}
use Rattle.t1_core.specs.CardSide.{Card, Did, Meaning, card_after, card_meets}
use Rattle.t1_core.specs.Carried.{EndsOf, HasCarried, Past, adds, answers_in, at_rest, more, nothing_yet, with_command, world_now}
use Rattle.t1_core.specs.Conversing.{Conversed, HasEnded}
use Rattle.t1_core.specs.Doing.{Agrees, DoesSome, IsKeeping, IsOfSome, after, commands_of, meaning_of, ran_with}
use Rattle.t1_core.specs.Passing.{AreHeard, IsHeard, Passes, PassesWith}
use Rattle.t1_core.specs.TerminalSide.{Terminal, begins, first_phase, fresh, is_ready, has_stopped, fault_in, fault_of, outcome_of, sends, sends_in, takes}
use Rattle.t1_core.specs.World.{World, IsAtMostOnce, IsFrontOf, IsRight, IsTrue, all_blocks, arrives, exchange, exchanged, most_exchanges, responses, run, settle, size_after, start}
use Rattle.t1_core.proofs.Calm.{never_given_up}
use Rattle.t1_core.proofs.Endless.{Takes, takes_spends}
use Rattle.t1_core.proofs.Holding.{at_most_once}
use Rattle.t1_core.proofs.Logs.{before_it, commands_with, does_with, log_with, own_meaning, responses_are, short_with}
use Rattle.t1_core.proofs.Measure.{stops}

-- ---- phases

pub is_over : (p : Phase) → is_ready p ≡ true → p ≡ Over
is_over Over e = refl
is_over _ e = absurd (cc)

over_by : (p : Phase) (t : Terminal) → has_stopped p ≡ true → fault_in p t ≡ None → p ≡ Over
over_by Over t stopped none = refl
over_by _ t stopped none = absurd (cc)

told_by : (p : Phase) (t : Terminal) (f : Fault) → fault_in p t ≡ Some f
    → (cause : Cause) × (p ≡ GivenUp cause) × (f.outcome ≡ outcome_of t)
told_by (GivenUp cause) t f is =
    let so : f ≡ record { cause = cause; outcome = outcome_of t } = cc in
    (cause, refl, ap (λ (g : Fault). g.outcome) so)
told_by _ t f is = absurd (cc)

no_fault : (p : Phase) (t : Terminal) → ((cause : Cause) → p ≡ GivenUp cause → ⊥)
    → fault_in p t ≡ None
no_fault (GivenUp cause) t never = absurd (never cause refl)
no_fault _ t never = refl

pub none_yet : (p : Phase) (got : List ℕ) (answers : List (List ℕ)) → is_ready p ≡ false
    → answers_in p got answers ≡ answers
none_yet Over got answers e = absurd (cc)
none_yet _ got answers e = refl

-- ---- an exchange, with further commands to send

abbrev world_with : Terminal → Card → (todo answers : List (List ℕ)) → World
world_with t c todo answers = record { terminal = t; card = c; todo = todo; answers = answers }

behind_it : (p : Phase) (t : Terminal) (c : Card) (got : List ℕ) (cs answers : List (List ℕ))
    → has_stopped p ≡ false
    → adds p cs (at_rest t c (answers_in p got answers)) ≡ world_with t c cs answers
behind_it Over t c got cs answers e = absurd (cc)
behind_it _ t c got cs answers e = refl

none_behind : (p : Phase) (t : Terminal) (c : Card) (answers : List (List ℕ))
    → adds p [] (at_rest t c answers) ≡ at_rest t c answers
none_behind Over t c answers = refl
none_behind _ t c answers = refl

settles : (p : Phase) (t : Terminal) (c : Card) (cs answers : List (List ℕ))
    → settle p (world_with t c cs answers) ≡ adds p cs (at_rest t c (answers_in p t.got answers))
settles Over t c [] answers = refl
settles Over t c (x ∷ cs) answers = refl
settles _ t c cs answers = refl

-- a terminal that has not stopped sends a block
sends_some : (p : Phase) (out : Out) (t : Terminal) → has_stopped p ≡ false
    → sends_in p out t ≡ None → ⊥
sends_some Opening Own t moving none = absurd (cc)
sends_some Sending Own t moving none = absurd (cc)
sends_some Receiving Own t moving none = absurd (cc)
sends_some _ _ t moving none = absurd (cc)

module _ (m : Meaning) (x : Fates) (t new : Terminal) (c later : Card)
    (cs answers : List (List ℕ)) where
  abbrev is_now : Terminal → Card → World
  is_now u d = adds u.phase cs (at_rest u d (answers_in u.phase u.got answers))

  passed_on : has_stopped t.phase ≡ false → PassesWith m x (sends t) t new c later
      → exchange m x (is_now t c) ≡ is_now new later
  passed_on moving p =
      ap (exchange m x) (behind_it t.phase t c t.got cs answers moving) ∙ by (sends t) refl p
    where
      by : (o : Option Block) → sends t ≡ o → PassesWith m x o t new c later
          → exchanged m x (world_with t c cs answers) o ≡ is_now new later
      by None none p = absurd (sends_some t.phase t.out t moving none)
      by (Some b) some (is, kept, filled) =
          let r = card_meets m x.down b c in
          let u : Terminal = takes t (arrives x.up r.block) in
          settles u.phase u r.card cs answers
          ∙ sym (ap (λ (v : Terminal). is_now v later) is ∙ ap (λ (d : Card). is_now u d) kept)

pub run_more : (m : Meaning) (fates : List Fates) (x : Fates) (w : World)
    → run m (fates ++ x ∷ []) w ≡ exchange m x (run m fates w)
run_more m [] x w = refl
run_more m (y ∷ ys) x w = run_more m ys x (exchange m y w)

-- ---- more commands take more exchanges

all_more : (m : Meaning) (size : ℕ) (ran commands cs : List (List ℕ))
    → all_blocks m size ran commands ≤ all_blocks m size ran (commands ++ cs)
all_more m size ran [] cs = omega arith
all_more m size ran (d ∷ commands) cs =
    let now = ran ++ d ∷ [] in
    let le = all_more m (size_after (m.asks now).size size) now commands cs in
    omega (arith, le)

pub most_more : (settings : Settings) (m : Meaning) (commands cs : List (List ℕ))
    → most_exchanges settings m [] commands ≤ most_exchanges settings m [] (commands ++ cs)
most_more settings m commands cs =
    let blocks = all_more m settings.ifsc [] commands cs in
    let le = mul-le-mul_right (settings.tries + 1)
    (let n : 1 + all_blocks m settings.ifsc [] commands
    ≤ 1 + all_blocks m settings.ifsc [] (commands ++ cs) = omega (arith, blocks) in n) in
    let e = length-append commands cs in
    let n = mul-le-mul_right settings.extensions
    (let n : length commands ≤ length (commands ++ cs) = omega (arith, e) in n) in
    omega (arith, le, n)

module _ {C : Type 0} (a : Ghosts C) where
  one_more_heard : (xs ys : List Fates) (x y : Fates) → AreHeard a xs ys → IsHeard a x y
      → AreHeard a (xs ++ x ∷ []) (ys ++ y ∷ [])
  one_more_heard [] [] x y all one = (one, tt)
  one_more_heard (u ∷ us) (v ∷ vs) x y (this, all) one =
      (this, one_more_heard us vs x y all one)
  one_more_heard _ _ x y all one = absurd all

  pub heard_as_it_is : (line heard : List Fates)
      → ((s : a.State) (command : List ℕ) → a.Refuses s command → ⊥)
      → AreHeard a line heard → heard ≡ line
  heard_as_it_is [] [] never all = refl
  heard_as_it_is (x ∷ xs) (y ∷ ys) never (inl is, all) =
      ap (λ z. z ∷ ys) is ∙ ap (λ zs. x ∷ zs) (heard_as_it_is xs ys never all)
  heard_as_it_is (x ∷ xs) (y ∷ ys) never (inr (down, is, s, command, refused), all) =
      absurd (never s command refused)
  heard_as_it_is [] (y ∷ ys) never all = absurd all
  heard_as_it_is (x ∷ xs) [] never all = absurd all

  -- ---- one step of the history

  pub carried_at_first : (settings : Settings) (card : C) (passed : List Fates) (e : EndsOf C)
      → e ≡ record {
        terminal = fresh settings;
        card = record { card = card; at = card_after []; over = false };
      }
      → HasCarried a (nothing_yet settings (a.standing card) passed) passed e
  carried_at_first settings card passed e is =
      let P : EndsOf C → Type 0 =
      λ x. HasCarried a (nothing_yet settings (a.standing card) passed) passed x in
      subst P (sym is) (record {
        did = [];
        does = refl;
        short = tt;
        sent = [];
        keeping = omega arith;
        line = [];
        passed = sym (append-nil passed);
        fates = [];
        heard = tt;
        sized = settings.inside.0;
        leads = λ m h commands. refl;
        few = λ m h. omega arith;
      })

  -- the commands so far led to both ends
  here : (past : Past a.State) (now : List Fates) (e : EndsOf C) (h : HasCarried a past now e)
      (m : Meaning) → Agrees m [] h.did
      → run m h.fates (start past.settings [] past.commands) ≡ world_now e h.did h.sent past.answers
  here past now e h m g =
      ap (λ cs. run m h.fates (start past.settings [] cs)) (sym (append-nil past.commands))
      ∙ h.leads m g []
      ∙ none_behind e.terminal.phase e.terminal (after e.card (commands_of h.did) h.sent)
      past.answers

  -- the next command begins, while none is in progress
  pub carried_begins : (past : Past a.State) (now : List Fates) (e f : EndsOf C) (c : List ℕ)
      (h : HasCarried a past now e) → is_ready e.terminal.phase ≡ true
      → f ≡ record { terminal = begins c e.terminal; card = e.card }
      → (then_is : HasCarried a (with_command past c f.terminal) now f) × (then_is.did ≡ h.did)
  carried_begins past now e f c h ready is =
      let P : EndsOf C → Type 0 = λ x.
      (then_is : HasCarried a (with_command past c x.terminal) now x)
      × (then_is.did ≡ h.did) in
      subst P (sym is) (
        (record {
          did = h.did;
          does = h.does;
          short = h.short;
          sent = h.sent;
          keeping = h.keeping;
          line = h.line;
          passed = h.passed;
          fates = h.fates;
          heard = h.heard;
          sized = h.sized;
          leads = λ m g cs.
              ap (λ all. run m h.fates (start past.settings [] all))
              (append_assoc past.commands (c ∷ []) cs)
              ∙ h.leads m g (c ∷ cs)
              ∙ ap (λ p. adds p (c ∷ cs) (world_now e h.did h.sent past.answers))
              (is_over e.terminal.phase ready)
              ∙ sym (behind_it (first_phase e.terminal.opened) (begins c e.terminal)
              (after e.card (commands_of h.did) h.sent) [] cs past.answers
              (first_moves e.terminal.opened));
          few = λ m g.
              let le = h.few m g in
              let most = most_more past.settings m past.commands (c ∷ []) in
              omega (arith, le, most);
        }),
        refl,
      )
    where
      first_moves : (opened : Bool) → has_stopped (first_phase opened) ≡ false
      first_moves true = refl
      first_moves false = refl

  -- the terminal takes the block of an exchange
  pub received : (x : Fates) (e f : EndsOf C) (sent : List ℕ) → IsKeeping a.LIMIT e.card sent
      → has_stopped e.terminal.phase ≡ false
      → 0 < e.terminal.size → Passes a x e.terminal f.terminal e.card f.card
      → Takes e.terminal f.terminal
  received x e f sent keeping moving sized p =
      let (did, later, keeps, goes, step) = p sent keeping in
      by did later (sends e.terminal) refl (step (meaning_of (log_with [] did)) [] (own did))
    where
      own : (did : Option Did) → IsOfSome (meaning_of (log_with [] did)) [] did
      own None = tt
      own (Some d) = (refl, refl)

      by : (did : Option Did) (later : List ℕ) (o : Option Block) → sends e.terminal ≡ o
          → PassesWith (meaning_of (log_with [] did)) x o e.terminal f.terminal
          (after e.card [] sent) (after f.card (ran_with [] did) later)
          → Takes e.terminal f.terminal
      by did later None none q =
          absurd (sends_some e.terminal.phase e.terminal.out e.terminal moving none)
      by did later (Some b) some (is, kept, filled) =
          subst (λ u. Takes e.terminal u) (sym is)
          (takes_spends e.terminal sized _ e.terminal.phase filled refl)

  module _ (past : Past a.State) (command : List ℕ) (now next : List Fates) (y x : Fates)
      (e f : EndsOf C) (h : HasCarried a (with_command past command e.terminal) now e)
      (moving : has_stopped e.terminal.phase ≡ false) where
    abbrev so_far : Past a.State
    so_far = with_command past command e.terminal

    -- while the terminal has not stopped, exchanges are left
    fewer : (m : Meaning) → Agrees m [] h.did
        → length h.fates < most_exchanges past.settings m [] so_far.commands
    fewer m g =
        elim (cases_lt (length h.fates) (most_exchanges past.settings m [] so_far.commands)) [
          | inl lt ↦ lt
          | inr le ↦ absurd (let no = sym moving
              ∙ ap (λ v. has_stopped v.terminal.phase) (sym (here so_far now e h m g))
              ∙ stops m past.settings [] so_far.commands h.fates le in cc)
        ]

    pub carried_next : next ≡ now ++ y ∷ [] → IsHeard a y x
        → Passes a x e.terminal f.terminal e.card f.card
        → (did : Option Did) × DoesSome a.Does (a.standing e.card.card) did (a.standing f.card.card)
        × (then_is : HasCarried a (with_command past command f.terminal) next f)
        × (then_is.did ≡ log_with h.did did)
    carried_next one_more heard p =
        let (did, later, keeps, goes, step) = p h.sent h.keeping in (
          did,
          goes,
          record {
            did = log_with h.did did;
            does = does_with a.Does past.first (a.standing e.card.card) (a.standing f.card.card)
                h.did
                did h.does goes;
            short = short_with a.Does (a.standing e.card.card) (a.standing f.card.card) h.did did
                h.short goes;
            sent = later;
            keeping = keeps;
            line = h.line ++ y ∷ [];
            passed = one_more ∙ ap (λ l. l ++ y ∷ []) h.passed
                ∙ append_assoc past.passed h.line (y ∷ []);
            fates = h.fates ++ x ∷ [];
            heard = one_more_heard h.line h.fates y x h.heard heard;
            sized = (received x e f h.sent h.keeping moving h.sized p).0.1;
            leads = λ m g cs.
                let b = before_it m h.did did g in
                let ran = commands_of h.did in
                run_more m h.fates x (start past.settings [] (so_far.commands ++ cs))
                ∙ ap (exchange m x) (h.leads m b.0 cs)
                ∙ passed_on m x e.terminal f.terminal (after e.card ran h.sent)
                (after f.card (ran_with ran did) later) cs past.answers moving (step m ran b.1)
                ∙ ap (λ r. more cs (at_rest f.terminal (after f.card r later)
                (answers_in f.terminal.phase f.terminal.got past.answers)))
                (sym (commands_with h.did did));
            few = λ m g.
                let lt = fewer m (before_it m h.did did g).0 in
                let n = length-append h.fates (x ∷ []) in
                omega (arith, lt, n);
          },
          refl,
        )

  -- ---- the history is a dialogue; after a fault also of any further commands

  module _ (past : Past a.State) (now : List Fates) (e : EndsOf C) (all rest : List (List ℕ))
      (h : HasCarried a past now e) (stop : has_stopped e.terminal.phase ≡ true)
      (whole : past.commands ++ rest ≡ all) (ends : is_ready e.terminal.phase ≡ true → rest ≡ [])
    where
      abbrev own : Meaning
      own = meaning_of h.did

      agrees : Agrees own [] h.did
      agrees = own_meaning [] h.did

      abbrev end : World
      end = world_with e.terminal (after e.card (commands_of h.did) h.sent) rest past.answers

      end_is : run own h.fates (start past.settings [] all) ≡ end
      end_is = ap (λ cs. run own h.fates (start past.settings [] cs)) (sym whole)
          ∙ h.leads own agrees rest ∙ by e.terminal.phase ends
        where
          by : (p : Phase) → (is_ready p ≡ true → rest ≡ [])
              → adds p rest
              (at_rest e.terminal (after e.card (commands_of h.did) h.sent) past.answers)
              ≡ end
          by Over none = rw (none refl) refl
          by _ none = refl

      abbrev pub Dialogue : Type 0
      Dialogue = Conversed a past.settings past.first (a.standing e.card.card) all past.answers
          (fault_of e.terminal) past.passed now

      pub conversed_by : (d : Dialogue) × (d.did ≡ h.did)
      conversed_by =
          let t = e.terminal in
          let ran = commands_of h.did in
          let once : IsAtMostOnce own [] all end = subst (λ v. IsAtMostOnce own [] all v) end_is
          (at_most_once own past.settings [] all h.fates) in
          let same : ran ≡ once.ran = once.ran_is in
          let right : IsRight own.does [] all ran past.answers =
          subst (λ r. IsRight own.does [] all r past.answers) (sym same) once.right in
          let responses_so = responses_are own [] h.did agrees in (
            record {
              did = h.did;
              does = h.does;
              line = h.line;
              passed = h.passed;
              fates = h.fates;
              heard = h.heard;
              by_blocks = subst (λ v. HasEnded v ran past.answers (fault_of t)) (sym end_is)
                  (record {
                    stopped = stop;
                    ran_is = refl;
                    answers_are = refl;
                    fault_is = refl;
                  });
              carried_out = right.carried_out;
              answered = subst (λ rs. IsFrontOf past.answers rs) responses_so right.answered;
              all_but_one =
                  let n = length-map h.did (λ (d : Did). d.command) in
                  let le = right.all_but_one in
                  omega (arith, n, le);
              told = λ f is.
                  let (cause, given, outcome) = told_by t.phase t f is in
                  subst (λ o. IsTrue o ran past.answers) (sym outcome)
                  (subst (λ r. IsTrue (outcome_of t) r past.answers) (sym same)
                  (once.told cause given));
              finished = λ is.
                  let done = once.finished (over_by t.phase t stop is) in
                  (same ∙ done.0, done.1 ∙ ap (responses own.does []) (sym same) ∙ responses_so);
              few =
                  let le = h.few own agrees in
                  let most = most_more past.settings own past.commands rest in
                  subst (λ cs. length h.fates ≤ most_exchanges past.settings own [] cs) whole
                  (omega (arith, le, most));
              survived = λ f enough mild.
                  no_fault t.phase t (λ cause given.
                  never_given_up own f past.settings [] all h.fates cause enough mild
                  (ap (λ v. v.terminal.phase) end_is ∙ given));
            },
            refl,
          )

      pub conversed : Dialogue
      conversed = conversed_by.0

  -- ---- a list of commands

  module _ {V : Type 0} (items : V → List ℕ) (settings : Settings) (first : a.State)
      (passed : List Fates) (vs : List V) where
    -- both ends have carried the first `n` commands, with these answers
    abbrev pub first_of : ℕ → List V → Past a.State
    first_of n answers = record {
      settings = settings;
      first = first;
      commands = map items (take n vs);
      answers = map items answers;
      passed = passed;
    }

    pub one_more_carried : (n : ℕ) (v : V) (answers new : List V) (c : List ℕ) (now : List Fates)
        (e : EndsOf C)
        → HasCarried a (with_command (first_of n answers) c e.terminal) now e
        → n < length vs → v ≡ get_or vs n v → c ≡ items v
        → answers_in e.terminal.phase e.terminal.got (map items answers) ≡ map items new
        → HasCarried a (first_of (n + 1) new) now e
    one_more_carried n v answers new c now e h lt is same told =
        let P : List (List ℕ) → List (List ℕ) → Type 0 = λ commands answers. HasCarried a (record {
          settings = settings;
          first = first;
          commands = commands;
          answers = answers;
          passed = passed;
        }) now e in
        let so : map items (take n vs) ++ c ∷ [] ≡ map items (take (n + 1) vs) =
        ap (λ x. map items (take n vs) ++ x ∷ []) (same ∙ ap items is)
        ∙ sym (ap (λ l. map items l) (take_more vs n v lt)
        ∙ map-append items (take n vs) (get_or vs n v ∷ [])) in
        subst (λ cs. P cs (map items new)) so
        (subst (λ rs. P (map items (take n vs) ++ c ∷ []) rs) told h)

    pub list_conversed : (n : ℕ) (answers : List V) (now : List Fates) (e : EndsOf C)
        → HasCarried a (first_of n answers) now e → has_stopped e.terminal.phase ≡ true
        → (is_ready e.terminal.phase ≡ true → length vs ≤ n)
        → Conversed a settings first (a.standing e.card.card) (map items vs) (map items answers)
        (fault_of e.terminal) passed now
    list_conversed n answers now e h stop all =
        conversed (first_of n answers) now e (map items vs) (map items (drop n vs)) h stop
        (sym (map-append items (take n vs) (drop n vs)) ∙ ap (λ l. map items l)
        (take-append-drop n vs))
        (λ ready. ap (λ l. map items l) (drop_of_length-le vs (all ready)))

    -- the first commands were carried, with answers to each
    abbrev pub SomeConversed : List Fates → Type 0
    SomeConversed now = (count : ℕ) × (count ≤ length vs) × (last : a.State)
        × (answers : List (List ℕ))
        × Conversed a settings first last (map items (take count vs)) answers None passed now

    none_at : (p : Phase) (t : Terminal) → is_ready p ≡ true → fault_in p t ≡ None
    none_at Over t ready = refl
    none_at _ t ready = absurd (cc)

    stopped_at : (p : Phase) → is_ready p ≡ true → has_stopped p ≡ true
    stopped_at Over ready = refl
    stopped_at _ ready = absurd (cc)

    some_at : (past : Past a.State) (count : ℕ) (now : List Fates) (e : EndsOf C)
        → HasCarried a past now e → past.settings ≡ settings → past.first ≡ first
        → past.passed ≡ passed → past.commands ≡ map items (take count vs) → count ≤ length vs
        → is_ready e.terminal.phase ≡ true → SomeConversed now
    some_at past count now e h is_settings is_first is_passed is_commands le ready =
        let t = e.terminal in
        let it = conversed past now e past.commands [] h (stopped_at t.phase ready)
        (append-nil past.commands) (λ r. refl) in (
          count,
          le,
          a.standing e.card.card,
          past.answers,
          subst (λ s. Conversed a s first (a.standing e.card.card) (map items (take count vs))
              past.answers None passed now) is_settings
              (subst (λ s. Conversed a past.settings s (a.standing e.card.card)
              (map items (take count vs)) past.answers None passed now) is_first
              (subst (λ s. Conversed a past.settings past.first (a.standing e.card.card)
              (map items (take count vs)) past.answers None s now) is_passed
              (subst (λ cs. Conversed a past.settings past.first (a.standing e.card.card) cs
              past.answers None past.passed now) is_commands
              (subst (λ f. Conversed a past.settings past.first (a.standing e.card.card)
              past.commands past.answers f past.passed now) (none_at t.phase t ready) it)))),
        )

    pub some_conversed : (n : ℕ) (answers : List V) (now : List Fates) (e : EndsOf C)
        → HasCarried a (first_of n answers) now e → n ≤ length vs
        → is_ready e.terminal.phase ≡ true → SomeConversed now
    some_conversed n answers now e h le ready =
        some_at (first_of n answers) n now e h refl refl refl refl le ready

    pub one_more_conversed : (n : ℕ) (v : V) (answers : List V) (c : List ℕ) (now : List Fates)
        (e : EndsOf C)
        → HasCarried a (with_command (first_of n answers) c e.terminal) now e
        → n < length vs → v ≡ get_or vs n v → c ≡ items v
        → is_ready e.terminal.phase ≡ true → SomeConversed now
    one_more_conversed n v answers c now e h lt is same ready =
        let so : map items (take n vs) ++ c ∷ [] ≡ map items (take (n + 1) vs) =
        ap (λ x. map items (take n vs) ++ x ∷ []) (same ∙ ap items is)
        ∙ sym (ap (λ l. map items l) (take_more vs n v lt)
        ∙ map-append items (take n vs) (get_or vs n v ∷ [])) in
        some_at (with_command (first_of n answers) c e.terminal) (n + 1) now e h refl refl refl so
        (omega (arith, lt)) ready

  pub none_conversed : {V : Type 0} (items : V → List ℕ) (settings : Settings) (card : C)
      (passed : List Fates) (vs : List V)
      → SomeConversed items settings (a.standing card) passed vs passed
  none_conversed items settings card passed vs =
      some_conversed items settings (a.standing card) passed vs 0 [] passed (record {
        terminal = fresh settings;
        card = record { card = card; at = card_after []; over = false };
      }) (carried_at_first settings card passed _ refl) (omega arith) refl
