-- An invariant of every place: the commands done, in progress and to do are all commands.
use Rattle.std.proofs.Common.{◌≡◌, refl, sym, ap, subst, ◌∙◌, ℕ, zero, suc, ◌+◌, ◌≤◌, Bool, true, false, List, [], ◌∷◌, ◌++◌, length, take, drop, Option, Some, append_assoc, append-nil, length-append, arith}
use Rattle.std.proofs.lemmas.List.{take-append-drop}
use Rattle.t1_core.specs.declared.line.Fate.{Fate}
use Rattle.t1_core.specs.declared.line.Fate.TheVariants.{Delivers, Damages, Loses}
use Rattle.t1_core.specs.declared.line.Fates.{Fates}
use Rattle.t1_core.specs.declared.pcb.BlockReason.{BlockReason}
use Rattle.t1_core.specs.declared.pcb.BlockReason.TheVariants.{NoError, Edc, Other}
use Rattle.t1_core.specs.declared.settings.Settings.{Settings}
use Rattle.t1_core.specs.declared.terminal.Cause.{Cause}
use Rattle.t1_core.specs.declared.terminal.Cause.TheVariants.{TriesSpent, ExtensionsSpent, TooLong}
use Rattle.t1_core.specs.declared.terminal.Out.{Out}
use Rattle.t1_core.specs.declared.terminal.Phase.TheVariants.{Over, GivenUp}
use Rattle.t1_core.specs.Block.{is_size, other}
use Rattle.t1_core.specs.CardSide.{Card, Meaning, first_ifsd, card_after}
use Rattle.t1_core.specs.TerminalSide.{Terminal, has_stopped, outcome_with, outcome_of, fresh}
use Rattle.t1_core.specs.World.{World, responses, IsRight, IsTrue, IsAtMostOnce, next_command, run, start}
use Rattle.t1_core.proofs.Places.{Kept, Spot, Place, Going, Opens, Behind, Taken, Waits, Grows, Between, Sent, Given_up, Finished, asking, terminal_in, terminal_at, card_at, response_in, uses, cut_again, proceeds, starts, out_at, with_phase, world, world_at, world_of, runs, heard, misses, comes, comes_next, numbered, is_long, IsHeard, is_heard, grows, garbled_by, shorter, and_rest, begins, step, is_step}

pub moves : (s : Spot) → has_stopped (terminal_in s).3 ≡ false
moves (Sent true got rest) = refl
moves _ = refl

module _ (m : Meaning) (before commands : List (List ℕ)) where
  abbrev answers_of : List (List ℕ) → List (List ℕ)
  answers_of done = responses m.does before done

  -- `sends` is the command in progress, `responds` the response to the newest of `done`
  pub record AddsUp (done todo answers sends responds : List (List ℕ)) : Type 0 where
    pub whole : done ++ (sends ++ todo) ≡ commands
    pub answers_are : answers ++ responds ≡ answers_of done

  abbrev pub sending : Kept → Spot → List (List ℕ)
  sending k (Opens rest asks) = (k.field ++ rest) ∷ []
  sending k (Behind asks collected rest answering) = (collected ++ (k.field ++ rest)) ∷ []
  sending k (Taken collected b bytes) = (collected ++ (b ∷ bytes)) ∷ []
  sending k _ = []

  abbrev pub responding : Kept → Spot → List (List ℕ)
  responding k (Opens rest asks) = []
  responding k (Behind asks collected rest answering) = []
  responding k (Taken collected b bytes) = []
  responding k s = response_in k s ∷ []

  -- A field has at most IFSC bytes, and the terminal has the IFSC that it has granted.
  abbrev pub HasSize : Kept → Spot → Type 0
  HasSize k (Behind asks collected rest answering) = length k.field ≤ k.size
  HasSize k (Grows rest size true) = k.size ≡ size
  HasSize k _ = Unit {0}

  -- A field of the response has at most IFSD bytes.
  abbrev pub IsCut : Kept → Spot → Type 0
  IsCut k (Waits rest n size granted) = length k.last ≤ k.ifsd
  IsCut k (Grows rest size granted) = length k.last ≤ k.ifsd
  IsCut k (Sent first got rest) = length k.last ≤ k.ifsd
  IsCut k _ = Unit {0}

  abbrev pub Holds : Kept → Spot → Type 0
  Holds k s = AddsUp k.done k.todo k.answers (sending k s) (responding k s) × (1 ≤ k.size)
      × (first_ifsd ≤ k.ifsd) × HasSize k s × IsCut k s

  abbrev pub HoldsAt : Place → Type 0
  HoldsAt (Going k s why tries extensions) = Holds k s
  HoldsAt (Given_up w cause) = IsAtMostOnce m before commands (with_phase (GivenUp cause) w)
  HoldsAt (Finished w) = IsAtMostOnce m before commands (with_phase Over w)

  -- answers and commands

  responses_last : (does : List (List ℕ) → List ℕ) (past cs : List (List ℕ)) (c : List ℕ)
      → responses does past (cs ++ c ∷ []) ≡ responses does past cs ++ does
      (past ++ (cs ++ c ∷ [])) ∷ []
  responses_last does past [] c = refl
  responses_last does past (d ∷ cs) c =
      ap (λ rs. does (past ++ d ∷ []) ∷ rs)
      (responses_last does (past ++ d ∷ []) cs c
      ∙ ap (λ h. responses does (past ++ d ∷ []) cs ++ does h ∷ [])
      (append_assoc past (d ∷ []) (cs ++ c ∷ [])))

  responses_many : (does : List (List ℕ) → List ℕ) (past cs : List (List ℕ)) → length
      (responses does past cs) ≡ length cs
  responses_many does past [] = refl
  responses_many does past (c ∷ cs) = ap suc (responses_many does (past ++ c ∷ []) cs)

  pub many : {done todo answers sends responds : List (List ℕ)}
      → AddsUp done todo answers sends responds
      → length answers + length responds ≡ length done
  many {done} {todo} {answers} {sends} {responds} h =
      sym (length-append answers responds) ∙ ap length h.answers_are
      ∙ responses_many m.does before done

  right : {done todo answers sends responds : List (List ℕ)}
      → AddsUp done todo answers sends responds → length responds ≤ 1
      → IsRight m.does before commands done answers
  right {done} {todo} {answers} {sends} {responds} h few = record {
    carried_out = (sends ++ todo, h.whole);
    answered = (responds, h.answers_are);
    all_but_one = let n = many h in omega (arith, n, few);
  }

  one_response : (k : Kept) (s : Spot) → length (responding k s) ≤ 1
  one_response k (Opens rest asks) = omega arith
  one_response k _ = omega arith

  -- the outcome in a fault is true
  told : (k : Kept) (s : Spot) → length k.answers + length (responding k s) ≡ length k.done
      → IsTrue (outcome_with (terminal_in s).2 (terminal_in s).0 (terminal_in s).1) k.done k.answers
  told k (Behind asks collected [] answering) e = tt
  told k (Waits rest n size granted) e = tt
  told k (Grows rest size granted) e = tt
  told k (Between [] b bytes) e = tt
  told k (Sent first [] rest) e = tt
  told k _ e = omega (arith, e)

  gives_up : (cause : Cause) (k : Kept) (s : Spot) (t : Terminal) (c : Card)
      → AddsUp k.done k.todo k.answers (sending k s) (responding k s)
      → outcome_of t ≡ outcome_with (terminal_in s).2 (terminal_in s).0 (terminal_in s).1
      → c.ran ≡ before ++ k.done
      → IsAtMostOnce m before commands (with_phase (GivenUp cause) (world m before k t c))
  gives_up cause k s t c h is ran = record {
    ran = k.done;
    ran_is = ran;
    right = right h (one_response k s);
    told = λ other e. subst (λ o. IsTrue o k.done k.answers) (sym is) (told k s (many h));
    finished = λ e. absurd (cc);
  }

  -- one step

  uses_hold : (cause : Cause) (n : ℕ) (out : Out) (k : Kept) (s : Spot) (tries extensions : ℕ)
      (again : ℕ → Place) → AddsUp k.done k.todo k.answers (sending k s) (responding k s)
      → ((i : ℕ) → HoldsAt (again i))
      → HoldsAt (uses cause n (world_at m before out k s tries extensions) again)
  uses_hold cause zero out k s tries extensions again e h =
      gives_up cause k s (terminal_at out k s tries extensions) (card_at m before k s) e refl refl
  uses_hold cause (suc n) out k s tries extensions again e h = h n

  few_taken : (size : ℕ) (bytes : List ℕ) → length (take size bytes) ≤ size
  few_taken zero bytes = omega arith
  few_taken (suc n) [] = omega arith
  few_taken (suc n) (b ∷ bytes) = let le = few_taken n bytes in omega (arith, le)

  starts_hold : (k : Kept) (rest : List ℕ) (n : ℕ) (size : Option ℕ)
      → AddsUp k.done k.todo k.answers [] ((k.last ++ rest) ∷ []) → 1 ≤ k.size
      → first_ifsd ≤ k.ifsd → length k.last ≤ k.ifsd → Holds k (starts rest n size)
  starts_hold k rest zero (Some size) h some ifsd cut = (h, some, ifsd, tt, cut)
  starts_hold k rest _ _ h some ifsd cut = (h, some, ifsd, tt, cut)

  pub heard_holds : (k : Kept) (s : Spot) → Holds k s
      → Holds (heard m before k s).0 (heard m before k s).1
  heard_holds k (Opens rest asks) h = (h.0, h.1, omega arith, tt, tt)
  heard_holds k (Behind false collected [] answering) h =
      let done : List (List ℕ) = k.done ++ (collected ++ k.field) ∷ [] in
      starts_hold (runs m before k done) (drop k.ifsd (m.does (before ++ done)))
      (m.asks (before ++ done)).extensions (m.asks (before ++ done)).size (record {
        whole =
            append_assoc k.done ((collected ++ k.field) ∷ []) k.todo
            ∙ ap (λ f. k.done ++ (collected ++ f) ∷ k.todo) (sym (append-nil k.field))
            ∙ h.0.whole;
        answers_are =
            ap (λ r. k.answers ++ r ∷ []) (take-append-drop k.ifsd (m.does (before ++ done)))
            ∙ ap (λ a. a ++ m.does (before ++ done) ∷ [])
            (sym (append-nil k.answers) ∙ h.0.answers_are)
            ∙ sym (responses_last m.does before k.done (collected ++ k.field));
      }) h.1 h.2 (few_taken k.ifsd (m.does (before ++ done)))
  heard_holds k (Behind false collected (b ∷ bytes) answering) h = (
    record {
      whole = ap (λ c. k.done ++ c ∷ k.todo) (append_assoc collected k.field (b ∷ bytes))
          ∙ h.0.whole;
      answers_are = h.0.answers_are;
    },
    h.1,
    h.2,
    tt,
    tt,
  )
  heard_holds k (Waits rest n size true) h = starts_hold k rest n size h.0 h.1 h.2 h.4
  heard_holds k (Grows rest size true) h = (h.0, h.1, h.2, tt, h.4)
  heard_holds k (Between got b bytes) h = (
    record {
      whole = h.0.whole;
      answers_are = ap (λ r. k.answers ++ (got ++ r) ∷ []) (take-append-drop k.ifsd (b ∷ bytes))
          ∙ h.0.answers_are;
    },
    h.1,
    h.2,
    tt,
    few_taken k.ifsd (b ∷ bytes),
  )
  heard_holds k (Sent first got rest) h = (
    record {
      whole = h.0.whole;
      answers_are = ap (λ r. k.answers ++ (got ++ r) ∷ []) (cut_again k.ifsd k.last rest)
          ∙ h.0.answers_are;
    },
    h.1,
    h.2,
    tt,
    few_taken k.ifsd k.last,
  )
  heard_holds k _ h = h

  asking_holds : (k : Kept) (s : Spot) → Holds k s → Holds k (asking s)
  asking_holds k (Grows rest size granted) h = (h.0, h.1, h.2, tt, h.4)
  asking_holds k _ h = h

  -- the terminal begins to send a command
  begins_hold : (k : Kept) (rest : List ℕ) (asks : Bool) (extensions : ℕ)
      → Holds k (Opens rest asks) → HoldsAt (begins k rest extensions)
  begins_hold k rest asks extensions h = (
    record {
      whole = ap (λ c. k.done ++ c ∷ k.todo) (take-append-drop k.size (k.field ++ rest))
          ∙ h.0.whole;
      answers_are = h.0.answers_are;
    },
    h.1,
    h.2,
    few_taken k.size (k.field ++ rest),
    tt,
  )

  misses_hold : (why : BlockReason) (out : Out) (k : Kept) (s : Spot) (tries extensions : ℕ)
      → Holds k s → HoldsAt (misses m before why out k s tries extensions)
  misses_hold why out k (Opens rest asks) zero extensions h = begins_hold k rest asks extensions h
  misses_hold why out k (Opens rest asks) (suc n) extensions h = h
  misses_hold why out k (Sent first got rest) tries extensions h =
      uses_hold TriesSpent tries out k (Sent first got rest) tries extensions _ h.0 (λ i. h)
  misses_hold why out k s tries extensions h =
      uses_hold TriesSpent tries out k s tries extensions _ h.0 (λ i. asking_holds k s h)

  some_size : (size : ℕ) → is_size size ≡ true → 1 ≤ size
  some_size zero e = absurd (cc)
  some_size (suc n) e = omega arith

  grows_hold : (v : Bool) (out : Out) (k : Kept) (rest : List ℕ) (size : ℕ) (granted : Bool)
      (tries extensions : ℕ) → is_size size ≡ v → Holds k (Grows rest size granted)
      → HoldsAt (grows m before v out k rest size granted tries extensions)
  grows_hold true out k rest size granted tries extensions e h =
      uses_hold ExtensionsSpent extensions out (record k { size = size }) (Grows rest size granted)
      tries extensions _ h.0 (λ i. (h.0, some_size size e, h.2, refl, h.4))
  grows_hold false out k rest size granted tries extensions e h =
      misses_hold Other out k (Grows rest size granted) tries extensions h

  -- the next command, after an answer
  proceeds_hold : (k : Kept) (todo : List (List ℕ)) (w : World)
      → AddsUp k.done todo k.answers [] [] → 1 ≤ k.size → first_ifsd ≤ k.ifsd
      → w.card.ran ≡ before ++ k.done → w.answers ≡ k.answers → HoldsAt (proceeds k todo w)
  proceeds_hold k [] w h some ifsd ran same = record {
    ran = k.done;
    ran_is = ran;
    right = subst (λ a. IsRight m.does before commands k.done a) (sym same) (right h (omega arith));
    told = λ cause e. absurd (cc);
    finished = λ e. (
      sym (append-nil k.done) ∙ h.whole,
      same ∙ sym (append-nil k.answers) ∙ h.answers_are,
    );
  }
  proceeds_hold k (c ∷ cs) w h some ifsd ran same = (
    record {
      whole = ap (λ x. k.done ++ x ∷ cs) (take-append-drop k.size c) ∙ h.whole;
      answers_are = h.answers_are;
    },
    some,
    ifsd,
    few_taken k.size c,
    tt,
  )

  next_hold : (v : Bool) (out : Out) (k : Kept) (got rest : List ℕ) (tries extensions : ℕ)
      → Holds k (Sent false got rest)
      → HoldsAt (comes_next m before v out k got rest tries extensions)
  next_hold true out k got rest tries extensions h =
      gives_up TooLong k (Sent false got rest)
      (terminal_at out (record k { due = other k.due }) (Sent false got rest) tries extensions)
      (card_at m before k (Sent false [] rest)) h.0 refl refl
  next_hold false out k got [] tries extensions h =
      proceeds_hold (record k { due = other k.due; answers = k.answers ++ (got ++ k.last) ∷ [] })
      k.todo _ (record {
        whole = h.0.whole;
        answers_are = append-nil (k.answers ++ (got ++ k.last) ∷ [])
            ∙ ap (λ r. k.answers ++ (got ++ r) ∷ []) (sym (append-nil k.last))
            ∙ h.0.answers_are;
      }) h.1 h.2 refl refl
  next_hold false out k got (b ∷ bytes) tries extensions h = (
    record {
      whole = h.0.whole;
      answers_are = ap (λ r. k.answers ++ r ∷ []) (append_assoc got k.last (b ∷ bytes))
          ∙ h.0.answers_are;
    },
    h.1,
    h.2,
    tt,
    tt,
  )

  comes_hold : (out : Out) (k : Kept) (s : Spot) (tries extensions : ℕ) → IsHeard k s
      → Holds k s → HoldsAt (comes m before out k s tries extensions)
  comes_hold out k (Opens rest asks) tries extensions a h = begins_hold k rest asks extensions h
  comes_hold out k (Behind asks collected rest answering) tries extensions a h =
      let now : AddsUp k.done k.todo k.answers
      (sending (shorter k) (Behind asks collected (and_rest k rest) answering)) [] = record {
        whole = ap (λ c. k.done ++ (collected ++ c) ∷ k.todo)
            (sym (append_assoc (take k.size k.field) (drop k.size k.field) rest)
            ∙ ap (λ c. c ++ rest) (take-append-drop k.size k.field))
            ∙ h.0.whole;
        answers_are = h.0.answers_are;
      } in
      uses_hold TriesSpent tries out (shorter k)
      (Behind asks collected (and_rest k rest) answering) tries extensions _ now
      (λ i. (now, h.1, h.2, few_taken k.size k.field, tt))
  comes_hold out k (Taken collected b bytes) tries extensions a h = (
    record {
      whole = ap (λ c. k.done ++ (collected ++ c) ∷ k.todo) (take-append-drop k.size (b ∷ bytes))
          ∙ h.0.whole;
      answers_are = h.0.answers_are;
    },
    h.1,
    h.2,
    few_taken k.size (b ∷ bytes),
    tt,
  )
  comes_hold out k (Waits rest n size granted) tries extensions a h =
      uses_hold ExtensionsSpent extensions out k (Waits rest n size granted) tries extensions _ h.0
      (λ i. h)
  comes_hold out k (Grows rest size granted) tries extensions a h =
      grows_hold (is_size size) out k rest size granted tries extensions refl h
  comes_hold out k (Between got b bytes) tries extensions a h = absurd a
  comes_hold out k (Sent first got rest) tries extensions a h =
      next_hold (is_long k got) out (numbered first k) got rest tries extensions h

  pub step_holds : (down up : Fate) (p : Place) → HoldsAt p → HoldsAt (step m before down up p)
  step_holds down up (Given_up w cause) h = h
  step_holds down up (Finished w) h = h
  step_holds Delivers Delivers (Going k s why tries extensions) h =
      comes_hold (out_at k s why) _ _ tries extensions (is_heard m before k s) (heard_holds k s h)
  step_holds Delivers Damages (Going k s why tries extensions) h =
      misses_hold Edc (out_at k s why) _ _ tries extensions (heard_holds k s h)
  step_holds Delivers Loses (Going k s why tries extensions) h =
      misses_hold Other (out_at k s why) _ _ tries extensions (heard_holds k s h)
  step_holds Damages up (Going k s why tries extensions) h =
      garbled_by m before HoldsAt up k s why tries extensions
      (λ now. misses_hold now (out_at k s why) k s tries extensions h)
      (λ a. comes_hold (out_at k s why) k s tries extensions a h)
  step_holds Loses up (Going k s why tries extensions) h =
      misses_hold Other (out_at k s why) k s tries extensions h

  -- all worlds

  once_at : (p : Place) → HoldsAt p → IsAtMostOnce m before commands (world_of m before p)
  once_at (Given_up w cause) h = h
  once_at (Finished w) h = h
  once_at (Going k s why tries extensions) h = record {
    ran = k.done;
    ran_is = refl;
    right = right h.0 (one_response k s);
    told = λ cause e. absurd (let no = sym (moves s) ∙ ap has_stopped e in cc);
    finished = λ e. absurd (let no = sym (moves s) ∙ ap has_stopped e in cc);
  }

  runs_once : (fates : List Fates) (p : Place) → HoldsAt p
      → IsAtMostOnce m before commands (run m fates (world_of m before p))
  runs_once [] p h = once_at p h
  runs_once (x ∷ xs) p h =
      subst (λ w. IsAtMostOnce m before commands (run m xs w))
      (sym (is_step m before x.down x.up p))
      (runs_once xs (step m before x.down x.up p) (step_holds x.down x.up p h))

-- both ends after a reset: S(IFS request) precedes the first command
abbrev pub first : (before : List (List ℕ)) → Settings → List (List ℕ) → Place
first before settings [] =
    Finished (record {
      terminal = fresh settings;
      card = card_after before;
      todo = [];
      answers = [];
    })
first before settings (c ∷ cs) =
    Going (record {
      settings = settings;
      todo = cs;
      answers = [];
      done = [];
      field = take settings.ifsc c;
      size = settings.ifsc;
      number = false;
      due = false;
      last = [];
      ifsd = first_ifsd;
      multiple = 0;
    }) (Opens (drop settings.ifsc c) false) NoError settings.tries settings.extensions

pub first_is : (m : Meaning) (before : List (List ℕ)) (settings : Settings)
    (commands : List (List ℕ))
    → start settings before commands ≡ world_of m before (first before settings commands)
first_is m before settings [] = refl
first_is m before settings (c ∷ cs) =
    ap (λ ran. next_command (c ∷ cs) (record {
      terminal = fresh settings;
      card = card_after ran;
      todo = [];
      answers = [];
    })) (sym (append-nil before))

pub first_holds : (m : Meaning) (before : List (List ℕ)) (settings : Settings)
    (commands : List (List ℕ)) → HoldsAt m before commands (first before settings commands)
first_holds m before settings [] = record {
  ran = [];
  ran_is = sym (append-nil before);
  right = record { carried_out = ([], refl); answered = ([], refl); all_but_one = omega arith };
  told = λ cause e. absurd (cc);
  finished = λ e. (refl, refl);
}
first_holds m before settings (c ∷ cs) = (
  record {
    whole = ap (λ x. x ∷ cs) (take-append-drop settings.ifsc c);
    answers_are = refl;
  },
  (let some = settings.inside.0 in omega (arith, some)),
  omega arith,
  tt,
  tt,
)

pub at_most_once : (m : Meaning) (settings : Settings) (before commands : List (List ℕ))
    (fates : List Fates)
    → IsAtMostOnce m before commands (run m fates (start settings before commands))
at_most_once m settings before commands fates =
    subst (λ w. IsAtMostOnce m before commands (run m fates w))
    (sym (first_is m before settings commands))
    (runs_once m before commands fates (first before settings commands)
    (first_holds m before settings commands))
