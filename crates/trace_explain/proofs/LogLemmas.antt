-- What the lines of a log add, one step further.
use Rattle.std.proofs.Common.{◌≡◌, ◌≢◌, ◌≤◌, ℕ, List, [], ◌∷◌, ◌++◌, take, drop, length, map, ap, subst, ◌∙◌, append_assoc, slice_index, Some, true, false}
use Rattle.std.proofs.lemmas.Bool.{le-ltb, ne_eqb}
use Rattle.std.proofs.lemmas.List.{map-append}
use Rattle.t0_core.specs.declared.end.End.{End}
use Rattle.trace_explain.specs.declared.read.log.Log.{Log}
use Rattle.trace_explain.specs.declared.read.entry.Entry.{Entry}
use Rattle.trace_explain.specs.Logs.{LogAt, Note, Pair, Step, TakesFirst, Took, with_line, begun, behind, both, closed, command_len, entry_of, log_at, noted, paired, resets}
use Rattle.trace_explain.specs.Pairs.{Command, command_in, with_p3}
use Rattle.trace_explain.specs.declared.read.form_row.Rows.{Rows}

pub entries_more : (before after : List Entry) (one : Entry) → after ≡ before ++ one ∷ []
    → map entry_of after ≡ map entry_of before ++ entry_of one ∷ []
entries_more before after one is = ap (map entry_of) is ∙ map-append entry_of before (one ∷ [])

-- A command of five bytes or more.
pub command_by : (command header rest : List ℕ) (x : Command) → 4 ≤ length command
    → length command ≢ 4 → header ≡ take 4 command → rest ≡ drop 5 command
    → with_p3 header (slice_index command 4) rest ≡ Some x → command_in command ≡ Some x
command_by command header rest x long other front back is =
    let H : List ℕ → Type 0 = λ h. with_p3 h (slice_index command 4) (drop 5 command) ≡ Some x in
    let R : List ℕ → Type 0 = λ r. with_p3 header (slice_index command 4) r ≡ Some x in
    rw (le-ltb (length command) 4 long, ne_eqb (length command) 4 other)
    (subst H front (subst R back is))

-- A command begins, and its answer is behind it.
pub pair_took : (at : LogAt) (command answer : List ℕ) (a b c : List Entry) (mid new : Log)
    → Took (begun at) a b mid → map entry_of c ≡ map entry_of b ++ Pair command answer ∷ []
    → log_at new ≡ with_line true (log_at mid) → Took (paired at command answer) a c new
pair_took at command answer a b c mid new first pushed new_is = record {
  gives_is = pushed ∙ ap (λ cs. cs ++ Pair command answer ∷ []) first.gives_is
      ∙ append_assoc (map entry_of a) (begun at).gives (Pair command answer ∷ []);
  at_is = new_is ∙ ap (λ (x : LogAt). with_line true x) first.at_is;
}

-- The command ends where the bytes of a line with both say.
pub both_are : (at : LogAt) (bytes x y : List ℕ) (a c : List Entry) (new : Log)
    → Took (paired at x y) a c new → x ≡ take (command_len bytes) bytes
    → y ≡ drop (command_len bytes) bytes → Took (both at bytes) a c new
both_are at bytes x y a c new took x_is y_is = record {
  gives_is = took.gives_is
      ∙ ap (λ z. map entry_of a ++ ((begun at).gives ++ Pair z y ∷ [])) x_is
      ∙ ap (λ z.
      map entry_of a ++ ((begun at).gives ++ Pair (take (command_len bytes) bytes) z ∷ [])) y_is;
  at_is = took.at_is;
}

-- A reset, and then a note.
pub noted_took : (at : LogAt) (a b c : List Entry) (mid new : Log) → Took (resets at) a b mid
    → Took (noted (log_at mid)) b c new
    → Took (behind (resets at).gives (noted (resets at).at)) a c new
noted_took at a b c mid new first then_took = record {
  gives_is = then_took.gives_is ∙ ap (λ cs. cs ++ Note ∷ []) first.gives_is
      ∙ append_assoc (map entry_of a) (resets at).gives (Note ∷ []);
  at_is = then_took.at_is ∙ ap (λ (x : LogAt). with_line false x) first.at_is;
}

-- What is pending ends, and then a line adds something.
pub both_took : (rows : Rows) (line : List ℕ) (at : LogAt) (from : End) (next : Step)
    (a b c : List Entry) (mid new : Log) → Took (closed at from) a b mid
    → TakesFirst rows (log_at mid) line next → Took next b c new
    → TakesFirst rows (closed at from).at line next
    × Took (behind (closed at from).gives next) a c new
both_took rows line at from next a b c mid new first takes then_took =
    let P : LogAt → Type 0 = λ x. TakesFirst rows x line next in (
      subst P first.at_is takes,
      record {
        gives_is = then_took.gives_is ∙ ap (λ cs. cs ++ next.gives) first.gives_is
            ∙ append_assoc (map entry_of a) (closed at from).gives next.gives;
        at_is = then_took.at_is;
      },
    )
