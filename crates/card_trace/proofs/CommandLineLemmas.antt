-- Words that the parser accepts name a subcommand of the program.
use Rattle.std.proofs.Common.{◌≡◌, ◌≢◌, ◌⊎◌, inl, inr, ℕ, List, [], ◌∷◌, ◌++◌, refl, sym, ap, ap₂, ◌∙◌, subst, Bool, true, false, Option, Some, None, Result, Ok, Err, OnOk, IfErr}
use Rattle.std.specs.Prelude.{fold, codes, is_some, option_map, unwrap_or}
use Rattle.std.specs.Borrow.{Bor}
use Rattle.std.proofs.lemmas.Slice.Eq.{bytes_eq-Decides}
use Rattle.std.specs.Str.{bytes_eq}
use Rattle.clap.specs.Walk.{Text, Row, Rule, Names, Held, Walk, Waiting, Step, Outcome, walked, walked_from, walk, walk_from, settled, finished, nothing_held, word_met, after_step, to_positional, arg_by_index, subcommand_met, subcommand_or_other, long_or_other, short_or_plain, after_flag, plain_word, long_met, arg_by_long, bundle}
use Rattle.clap.specs.Walk.{idle, option, positional, next, trailing, subcommand, value, done, waits, plain, refused}
use Rattle.clap.specs.Walk.{rows_of, first_of}
use Rattle.clap.specs.Matches.{found_of, subcommand_name_of}
use Rattle.std.specs.Box.{box_value}
use Rattle.clap.specs.Lexer.{long_of, short_of}
use Rattle.clap.specs.Simple.{Shape, App, built, names_of, entered, argument_words, subcommand_of, subcommand_rows_of, subcommand_rows, is_simple, HasMatchesOf}
use Rattle.clap.specs.declared.parser.matches.ArgMatches.{ArgMatches}
use Rattle.clap.specs.declared.parser.matches.ArgMatches.TheViews.{out-ArgMatches, out-SubCommand}
use Rattle.clap.proofs.OnLiterals.{clap_on_literals}
use Rattle.clap.specs.Kinds.{Kinds, IsAmong, or_else}
use Rattle.clap.specs.Faults.{walk_fault, turn_fault, word_fault, other_fault, settle_fault, defaults_fault, check_fault, entered_fault, level_fault, fault_of, is_simple_and_free}
use Rattle.clap.specs.declared.error.kind.ErrorKind.{ErrorKind}
use Rattle.clap.specs.declared.error.kind.ErrorKind.TheVariants.{OutOfMemory}
use Rattle.card_trace.specs.declared.program_fault.ProgramFault.{ProgramFault}
use Rattle.card_trace.specs.declared.program_fault.ProgramFault.TheVariants as fault
use Rattle.card_trace.specs.CommandLine.{program, request_named, request_in, Asked, Play, Card, Objects, Stops, StopsAt, IsCall, AreRefused}

-- both are empty
or_else-nil : (a b : Kinds) → or_else a b ≡ [] → (a ≡ []) × (b ≡ [])
or_else-nil [] b h = (refl, h)
or_else-nil (k ∷ ks) b h = absurd (cc)

-- the word enters no subcommand
abbrev IsQuiet : Step → Type 0
IsQuiet (subcommand name) = ⊥
IsQuiet (next waiting) = Unit {0}
IsQuiet (trailing position) = Unit {0}
IsQuiet value = Unit {0}

quiet-plain : (c : List Rule) (waiting : Waiting) (word : Text) (h : Held)
    → IsQuiet (plain_word c waiting word h).1
quiet-plain c (option id) word h = tt
quiet-plain c idle word h = tt
quiet-plain c positional word h = tt

quiet-flag : (c : List Rule) (waiting : Waiting) (word : Text) (h : Held) (o : Outcome)
    → IsQuiet (after_flag c waiting word h o).1
quiet-flag c waiting word h done = tt
quiet-flag c waiting word h (waits id) = tt
quiet-flag c waiting word h plain = quiet-plain c waiting word h
quiet-flag c waiting word h refused = quiet-plain c waiting word h

quiet-short : (c : List Rule) (waiting : Waiting) (word : Text) (flags : Option Text) (h : Held)
    → IsQuiet (short_or_plain c waiting word flags h).1
quiet-short c waiting word (Some flags) h = quiet-flag c waiting word (bundle c flags h).0
    (bundle c flags h).1
quiet-short c waiting word None h = quiet-plain c waiting word h

quiet-long : (c : List Rule) (waiting : Waiting) (word : Text) (name : Option (Text × Option Text))
    (h : Held)
    → IsQuiet (long_or_other c waiting word name h).1
quiet-long c waiting word (Some p) h =
    quiet-flag c waiting word (long_met c (arg_by_long c p.0) p.1 h).0
    (long_met c (arg_by_long c p.0) p.1 h).1
quiet-long c waiting word None h = quiet-short c waiting word (short_of word) h

quiet-other : (c : List Rule) (waiting : Waiting) (position : ℕ) (word : Text) (h : Held)
    → IsQuiet (subcommand_or_other c None waiting position word h).1
quiet-other c waiting position word h = split (bytes_eq word (45 ∷ 45 ∷ [])) refl
  where
    split : (v : Bool) → bytes_eq word (45 ∷ 45 ∷ []) ≡ v
        → IsQuiet (subcommand_or_other c None waiting position word h).1
    split true e = rw e tt
    split false e = rw e (quiet-long c waiting word (long_of word) h)

positional-continues : (c : List Rule) (a : Option Rule) (word : Text) (w : Walk) (h : Held)
    → w.stopped ≡ None → (to_positional c a word w h).stopped ≡ None
positional-continues c None word w h e = e
positional-continues c (Some a) word w h e = refl

quiet-continues : (c : List Rule) (word : Text) (w : Walk) (h : Held) (s : Step) → IsQuiet s
    → w.stopped ≡ None → (after_step c word w h s).stopped ≡ None
quiet-continues c word w h (next waiting) q e = e
quiet-continues c word w h (trailing position) q e = e
quiet-continues c word w h (subcommand name) q e = absurd q
quiet-continues c word w h value q e = positional-continues c (arg_by_index c w.position) word w h e

-- Where the walk is after a word without a fault: at the top, or in a subcommand other than `help`.
abbrev IsPlaced : Option (Text × List Text) → Type 0
IsPlaced None = Unit {0}
IsPlaced (Some p) = bytes_eq p.0 (codes "help") ≡ false

abbrev top : Shape
top = (built program).top

abbrev names : Names
names = names_of (built program)

no_help : (name : Text) → other_fault top (Some name) [] nothing_held ≡ []
    → bytes_eq name (codes "help") ≡ false
no_help name h = split (bytes_eq name (codes "help")) refl
  where
    split : (v : Bool) → bytes_eq name (codes "help") ≡ v → bytes_eq name (codes "help") ≡ false
    split false e = e
    split true e = let bad = rw e at h in absurd (cc)

met_stands : (w : Walk) (word : Text) (met : Option Text) → w.stopped ≡ None
    → other_fault top met word w.held ≡ []
    → let m = subcommand_or_other top.rules met w.waiting w.position word w.held in
    IsPlaced (after_step top.rules word w m.0 m.1).stopped
met_stands w word (Some name) e h = no_help name h
met_stands w word None e h =
    let m = subcommand_or_other top.rules None w.waiting w.position word w.held in
    let P : Option (Text × List Text) → Type 0 = λ s. IsPlaced s in
    subst P (sym (quiet-continues top.rules word w m.0 m.1
    (quiet-other top.rules w.waiting w.position word w.held) e)) tt

word_stands : (w : Walk) (word : Text) (trails : Bool) → w.stopped ≡ None
    → word_fault top names trails w.waiting word w.held ≡ []
    → let m = word_met top.rules names trails w.waiting w.position word w.held in
    IsPlaced (after_step top.rules word w m.0 m.1).stopped
word_stands w word true e h =
    let P : Option (Text × List Text) → Type 0 = λ s. IsPlaced s in
    let given = arg_by_index top.rules w.position in
    subst P (sym (positional-continues top.rules given word w w.held e)) tt
word_stands w word false e h = met_stands w word (subcommand_met names w.waiting word) e h

-- once the walk is in a subcommand, the name stays
name_stays : (words : List Text) (w : Walk) (p : Text × List Text) → w.stopped ≡ Some p
    → IsPlaced (Some p)
    → IsPlaced (fold (walked top.rules names) w words).stopped
unfolding walked
name_stays [] w p e h = let P : Option (Text × List Text) → Type 0 = λ s. IsPlaced s in
    subst P (sym e) h
name_stays (word ∷ rest) w p e h = name_stays rest (walked top.rules names w word)
    (p.0, p.1 ++ word ∷ [])
    (ap (λ (s : Option (Text × List Text)). (walked_from top.rules names s w word).stopped) e) h

one_word : (w : Walk) (word : Text) → w.stopped ≡ None → turn_fault top names w word ≡ []
    → IsPlaced (walked top.rules names w word).stopped
unfolding walked
one_word w word e h =
    let fault = or_else-nil _ _ (rw e at h) in
    let P : Option (Text × List Text) → Type 0 =
    λ s. IsPlaced (walked_from top.rules names s w word).stopped in
    subst P (sym e) (word_stands w word w.is_trailing e fault.0)

walk_stands : (words : List Text) (w : Walk) → w.stopped ≡ None → walk_fault top names w words ≡ []
    → IsPlaced (fold (walked top.rules names) w words).stopped
unfolding walk_fault
walk_stands [] w e h = let P : Option (Text × List Text) → Type 0 = λ s. IsPlaced s in
    subst P (sym e) tt
walk_stands (word ∷ rest) w e h =
    let faults = or_else-nil (turn_fault top names w word)
    (walk_fault top names (walked top.rules names w word) rest) h in
    split (walked top.rules names w word).stopped refl (one_word w word e faults.0)
    (λ none. walk_stands rest (walked top.rules names w word) none faults.1)
  where
    split : (s : Option (Text × List Text)) → (walked top.rules names w word).stopped ≡ s
        → IsPlaced (walked top.rules names w word).stopped
        → ((walked top.rules names w word).stopped ≡ None
        → IsPlaced (fold (walked top.rules names) (walked top.rules names w word) rest).stopped)
        → IsPlaced (fold (walked top.rules names) (walked top.rules names w word) rest).stopped
    split None is stands continues = continues is
    split (Some p) is stands continues =
        let P : Option (Text × List Text) → Type 0 = λ s. IsPlaced s in
        name_stays rest (walked top.rules names w word) p is (subst P is stands)

-- the words have a subcommand, since one is required
required_met : (rows : List Row) (has : Bool) → check_fault top rows has ≡ [] → has ≡ true
required_met rows true h = refl
required_met rows false h = absurd (cc)

-- the parts of a level without a fault
level_parts : (s : Shape) (ns : Names) (h : Held) (words : List Text) (has : Bool) (below : Kinds)
    → level_fault s ns h words has below ≡ []
    → (walk_fault s ns (walk_from h) words ≡ [])
    × (check_fault s (finished s.rules (walk s.rules ns h words).held) has ≡ [])
level_parts s ns h words has below none =
    let end = (walk s.rules ns h words).held in
    let last = check_fault s (finished s.rules end) has in
    let defaults = defaults_fault (settled s.rules end).rows s.rules in
    let settling = settle_fault s.rules s.args_override_self end in
    let first = or_else-nil (walk_fault s ns (walk_from h) words)
    (or_else below (or_else settling (or_else defaults last))) none in
    let second = or_else-nil below (or_else settling (or_else defaults last)) first.1 in
    let third = or_else-nil settling (or_else defaults last) second.1 in
    (first.0, (or_else-nil defaults last third.1).1)

-- the subcommand is one of the program's
abbrev pub IsNamed : Option (Text × List Row) → Type 0
IsNamed None = ⊥
IsNamed (Some p) = (p.0 ≡ codes "play") ⊎ ((p.0 ≡ codes "card") ⊎ (p.0 ≡ codes "objects"))

entered_named : (stop : Option (Text × List Text)) → IsPlaced stop
    → is_some (entered (built program) stop) ≡ true → IsNamed (entered (built program) stop)
entered_named None stands met = absurd (cc)
entered_named (Some p) stands met = by_play (bytes_eq (codes "play") p.0) refl
  where
    by_help : (v : Bool) → bytes_eq (codes "help") p.0 ≡ v → bytes_eq (codes "play") p.0 ≡ false
        → bytes_eq (codes "card") p.0 ≡ false
        → bytes_eq (codes "objects") p.0 ≡ false → IsNamed (entered (built program) (Some p))
    by_help true e a b d =
        let is_help = (bytes_eq-Decides (codes "help") p.0).0 e in
        let P : Text → Type 0 = λ t. bytes_eq t (codes "help") ≡ false in
        let bad = subst P (sym is_help) stands in absurd (cc)
    by_help false e a b d = absurd (let none = rw (a, b, d, e) at met in cc)

    by_objects : (v : Bool) → bytes_eq (codes "objects") p.0 ≡ v → bytes_eq (codes "play") p.0
        ≡ false → bytes_eq (codes "card") p.0 ≡ false
        → IsNamed (entered (built program) (Some p))
    by_objects true e a b = rw (a, b, e) (inr (inr refl))
    by_objects false e a b = by_help (bytes_eq (codes "help") p.0) refl a b e

    by_card : (v : Bool) → bytes_eq (codes "card") p.0 ≡ v → bytes_eq (codes "play") p.0 ≡ false
        → IsNamed (entered (built program) (Some p))
    by_card true e a = rw (a, e) (inr (inl refl))
    by_card false e a = by_objects (bytes_eq (codes "objects") p.0) refl a e

    by_play : (v : Bool) → bytes_eq (codes "play") p.0 ≡ v
        → IsNamed (entered (built program) (Some p))
    by_play true e = rw e (inl refl)
    by_play false e = by_card (bytes_eq (codes "card") p.0) refl e

-- words that the parser accepts name a subcommand
taken : (words : List Text) → fault_of program words ≡ [] → IsNamed (subcommand_of program words)
taken words none =
    let given = argument_words program words in
    let stop = (walk top.rules names nothing_held given).stopped in
    let parts = level_parts top names nothing_held given (is_some (entered (built program) stop))
    (entered_fault (built program) stop) none in
    entered_named stop (walk_stands given (walk_from nothing_held) refl parts.0)
    (required_met (finished top.rules (walk top.rules names nothing_held given).held)
    (is_some (entered (built program) stop)) parts.1)

simple_and_free : is_simple_and_free program ≡ true
unfolding clap_on_literals
simple_and_free = refl

simple : is_simple program ≡ true
unfolding clap_on_literals
simple = refl

-- what holds of matches
pub record Met (words : List Text) (m : ArgMatches) : Type 0 where
  pub no_fault : fault_of program words ≡ []
  pub rows : subcommand_rows_of m ≡ subcommand_of program words
  pub named : IsNamed (subcommand_rows_of m)

pub met : (app : App) (words : List Text) (m : ArgMatches) → app ≡ program
    → (is_simple_and_free app ≡ true → fault_of app words ≡ [])
    → HasMatchesOf app words m → Met words m
met app words m is kinds matches =
    let Kinds_at : App → Type 0 = λ a. is_simple_and_free a ≡ true → fault_of a words ≡ [] in
    let Matches_at : App → Type 0 = λ a. HasMatchesOf a words m in
    let none = subst Kinds_at is kinds simple_and_free in
    let rows = (subst Matches_at is matches simple).1 in
    record { no_fault = none; rows = rows; named = subst IsNamed (sym rows) (taken words none) }

pub found_whole : {B : Type 0} (n : B → Text) (r : B → List Row) (s : Option B) (name : Text)
    (rows : List Row) → option_map n s ≡ Some name
    → option_map (λ (p : Text × List Row). p.1)
    (option_map {U = Text × List Row} (λ b. (n b, r b)) s) ≡ Some rows
    → option_map {U = Text × List Row} (λ b. (n b, r b)) s ≡ Some (name, rows)
found_whole n r None name rows a b = absurd (cc)
found_whole n r (Some x) name rows a b =
    let name_is : n x ≡ name = cc in let rows_is : r x ≡ rows = cc in
    let pair : Text → List Row → Option (Text × List Row) = λ k l. Some (k, l) in
    ap₂ pair name_is rows_is

-- a name of the program's asks for something
pub named_asks : (name digits : Text) (rows : List Row) → IsNamed (Some (name, rows))
    → is_some (request_named name digits) ≡ true
named_asks name digits rows (inl e) = rw e refl
named_asks name digits rows (inr (inl e)) = rw e refl
named_asks name digits rows (inr (inr e)) = rw e refl

-- the digits that the program reads
pub digits_read : (r : Option (Bor Text)) (e : Bor Text) (given : Option Text)
    → option_map (λ s. s.now) r ≡ given → e.now ≡ []
    → (unwrap_or r e).now ≡ unwrap_or given []
digits_read None e given is empty = let P : Option Text → Type 0 = λ o. e.now ≡ unwrap_or o [] in
    subst P is empty
digits_read (Some s) e given is empty = let P : Option Text → Type 0 =
    λ o. s.now ≡ unwrap_or o [] in subst P is refl

-- the name and the matches that `subcommand` returns are those of the parse
pub whole : (m : ArgMatches) (given : Option (Bor Text × Bor ArgMatches))
    (p : Bor Text × Bor ArgMatches) → given ≡ Some p
    → option_map (λ (q : Bor Text × Bor ArgMatches). q.0.now) given ≡ subcommand_name_of m
    → option_map (λ (q : Bor Text × Bor ArgMatches). rows_of (found_of q.1.now)) given
    ≡ option_map (λ (q : Text × List Row). q.1) (subcommand_rows (out-ArgMatches m).subcommand)
    → subcommand_rows_of m ≡ Some (p.0.now, rows_of (found_of p.1.now))
whole m given p is names_are rows_are =
    found_whole (λ b. (out-SubCommand (box_value b)).name.now)
    (λ b. rows_of (found_of (out-SubCommand (box_value b)).matches))
    (out-ArgMatches m).subcommand
    p.0.now (rows_of (found_of p.1.now))
    (sym names_are ∙ ap (option_map (λ (q : Bor Text × Bor ArgMatches). q.0.now)) is)
    (sym rows_are ∙ ap (option_map (λ (q : Bor Text × Bor ArgMatches). rows_of (found_of q.1.now)))
    is)

pub some_of_map : {A B : Type 0} (f : A → B) (o : Option A) (q : Option B) → option_map f o ≡ q
    → is_some q ≡ true → is_some o ≡ true
some_of_map f None q is some = absurd (let bad = rw (← is) at some in cc)
some_of_map f (Some a) q is some = refl

-- an error that is neither a call for help nor that memory ran out is a mistake in the words
pub refused_for : (kinds : Kinds) (k : ErrorKind) → (k ≡ OutOfMemory) ⊎ IsAmong k kinds → ¬ IsCall k
    → k ≢ OutOfMemory → AreRefused kinds
refused_for kinds k (inl memory) call no_memory = absurd (no_memory memory)
refused_for kinds k (inr among) call no_memory = (k, among, call, no_memory)

-- after status 1 there is a fault, and it is printed
pub has_fault : {T E : Type 0} (r : Result T E) (status : ℕ) (P IsPrinted : E → Type 0)
    → OnOk r (status ≡ 0) → status ≡ 1 → IfErr r P → IfErr r IsPrinted → (e : E) × P e × IsPrinted e
has_fault (Ok x) status P IsPrinted well one stops printed = absurd (cc)
has_fault (Err e) status P IsPrinted well one stops printed = (e, stops, printed)

-- a subcommand of the program's asks for something
asks : (found : Option (Text × List Row)) → IsNamed found
    → (asked : Asked) × (request_in found ≡ Some asked)
asks None named = absurd named
asks (Some p) (inl e) = (Play, rw e refl)
asks (Some p) (inr (inl e)) = (Card, rw e refl)
asks (Some p) (inr (inr e)) = (Objects (unwrap_or (first_of (codes "HEX") p.1) []), rw e refl)

stops_unchanged : (asked : Asked) (script old new : Option (List ℕ)) → new ≡ old
    → Stops asked script old new fault.OutOfMemory
stops_unchanged Play script old new same = same
stops_unchanged Card script old new same = same
stops_unchanged (Objects digits) script old new same = same

-- for words without a fault the only error is that memory ran out
pub stops_unread : (words : List Text) (k : ErrorKind) (script old new : Option (List ℕ))
    (IsPrinted : ProgramFault → Type 0) → (k ≡ OutOfMemory) ⊎ IsAmong k (fault_of program words)
    → (k ≡ OutOfMemory → (new ≡ old) × IsPrinted fault.OutOfMemory)
    → fault_of program words ≡ [] → StopsAt (subcommand_of program words) script old new IsPrinted
stops_unread words k script old new IsPrinted (inl memory) same none =
    let asked = asks (subcommand_of program words) (taken words none) in (
      asked.0,
      asked.1,
      fault.OutOfMemory,
      stops_unchanged asked.0 script old new (same memory).0,
      (same memory).1,
    )
stops_unread words k script old new IsPrinted (inr among) same none =
    let Among : Kinds → Type 0 = λ kinds. IsAmong k kinds in absurd (subst Among none among)
