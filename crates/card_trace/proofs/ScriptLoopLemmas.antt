-- The loop over the lines of a script, for any kind of script.
use Rattle.std.proofs.Common.{◌≡◌, ◌<◌, ◌+◌, ◌-◌, ◌^◌, min, ℕ, List, [], ◌∷◌, ◌++◌, length, Option, IfSome, refl, sym, ap, subst, ◌∙◌, append-nil}
use Rattle.std.specs.Str.Lines.{lines}
use Rattle.std.specs.Io.KnownBytes.{Appends}
use Rattle.std.proofs.KnownBytes.{Appends-nil, Appends-trans}
use Rattle.std.proofs.lemmas.List.{length-append}
use Rattle.card_trace.specs.declared.play_fault.PlayFault.{PlayFault}
use Rattle.card_trace.specs.declared.play_fault.PlayFault.TheVariants.{Script as Refused, Write, OutOfMemory}
use Rattle.card_trace.specs.Script.{Script, State, Building, DoesLine, DoesAll, RefusesLine, ScriptWrites}
use Rattle.card_trace.specs.ScriptFaults.{IsRefusedAt, IsLeftAfter, ScriptStops}
use Rattle.card_trace.specs.LineFaults.{IsFaultOfLine}
use Rattle.card_trace.proofs.ScriptLineLemmas.{done_both, done_one}
use Rattle.card_trace.proofs.ScriptFaultLemmas.{of_script, next_number, cut_after}

-- The first `number` lines are carried out, and `left` are the others.
pub record AreCarriedOut (s : Script) (all : List (List ℕ)) (old new : Option (List ℕ))
    (state : State s) (left : List (List ℕ)) (number : ℕ) : Type 0 where
  pub before : List (List ℕ)
  pub text : List ℕ
  pub is_cut : all ≡ before ++ left
  pub is_number : number ≡ length before
  pub appends : Appends old new text
  pub does : DoesAll s (Building s.empty) before text state

pub none_yet : (s : Script) (all left : List (List ℕ)) (old : Option (List ℕ)) (number : ℕ)
    → left ≡ all → number ≡ 0 → AreCarriedOut s all old old (Building s.empty) left number
none_yet s all left old number same zero_is = record {
  before = [];
  text = [];
  is_cut = sym same;
  is_number = zero_is;
  appends = Appends-nil old;
  does = (refl, refl);
}

pub one_more : (s : Script) (state next : State s) (all left others : List (List ℕ))
    (line more : List ℕ) (old mid new : Option (List ℕ)) (m number : ℕ)
    → AreCarriedOut s all old mid state left m → left ≡ line ∷ others
    → length all < 2 ^ 63 → number ≡ min (m + 1) (2 ^ 64 - 1) → Appends mid new more
    → DoesLine s state line more next → AreCarriedOut s all old new next others number
one_more s state next all left others line more old mid new m number so_far is few saturated adds
    does =
    let cut : all ≡ so_far.before ++ line ∷ others =
    so_far.is_cut ∙ ap (λ l. so_far.before ++ l) is in
    let counted = next_number all so_far.before others line m number cut so_far.is_number few
    saturated in
    let both = length-append so_far.before (line ∷ []) in record {
      before = so_far.before ++ line ∷ [];
      text = so_far.text ++ more;
      is_cut = cut_after all so_far.before others line cut;
      is_number = counted ∙ sym both;
      appends = Appends-trans old mid new so_far.text more so_far.appends adds;
      does = done_both s (Building s.empty) state next so_far.before (line ∷ []) so_far.text more
          so_far.does (done_one s state next line more does);
    }

-- at the end all lines are carried out
pub all_done : (s : Script) (state : State s) (all left : List (List ℕ)) (old new : Option (List ℕ))
    (number : ℕ) (script : Option (List ℕ)) (items : List ℕ)
    → IfSome script (λ bytes. items ≡ bytes) → all ≡ lines items → left ≡ []
    → AreCarriedOut s all old new state left number → ScriptWrites s script old new
all_done s state all left old new number script items read is none so_far =
    let whole : lines items ≡ so_far.before =
    sym is ∙ so_far.is_cut ∙ ap (λ l. so_far.before ++ l) none ∙ append-nil so_far.before in
    let start : State s = Building s.empty in (
      so_far.text,
      so_far.appends,
      of_script script items
          (λ bytes. (end : State s) × DoesAll s start (lines bytes) so_far.text end)
          read
          (state, subst (λ ls. DoesAll s start ls so_far.text state) (sym whole) so_far.does),
    )

-- if a line is not carried out, those before it are
pub stops_at : (s : Script) (state : State s) (all left others : List (List ℕ)) (line : List ℕ)
    (old mid new : Option (List ℕ)) (m number : ℕ) (script : Option (List ℕ)) (items : List ℕ)
    (fault : PlayFault) → IfSome script (λ bytes. items ≡ bytes) → all ≡ lines items
    → AreCarriedOut s all old mid state left m → left ≡ line ∷ others
    → length all < 2 ^ 63 → number ≡ min (m + 1) (2 ^ 64 - 1)
    → IsFaultOfLine (RefusesLine s state line) number mid new fault
    → ScriptStops s script old new fault
stops_at s state all left others line old mid new m number script items (Refused n reason) read is
    so_far at_line few saturated (same, refuses, unwritten) =
    let cut : all ≡ so_far.before ++ line ∷ others =
    so_far.is_cut ∙ ap (λ l. so_far.before ++ l) at_line in (
      so_far.text,
      subst (λ w. Appends old w so_far.text) (sym unwritten) so_far.appends,
      of_script script items (λ bytes. IsRefusedAt s (lines bytes) so_far.text n reason) read
          (record {
            before = so_far.before;
            line = line;
            others = others;
            is_cut = sym is ∙ cut;
            is_number = same ∙ next_number all so_far.before others line m number cut
                so_far.is_number few saturated;
            state = state;
            does = so_far.does;
            refuses = refuses;
          }),
    )
stops_at s state all left others line old mid new m number script items OutOfMemory read is so_far
    at_line few saturated unwritten = (
      so_far.text,
      subst (λ w. Appends old w so_far.text) (sym unwritten) so_far.appends,
      of_script script items (λ bytes. IsLeftAfter s (lines bytes) so_far.text) read
          (record {
            before = so_far.before;
            others = left;
            is_cut = sym is ∙ so_far.is_cut;
            state = state;
            does = so_far.does;
          }),
    )
stops_at _ _ _ _ _ _ _ _ _ _ _ _ _ Write _ _ _ _ _ _ unknown = tt
stops_at _ _ _ _ _ _ _ _ _ _ _ _ _ _ _ _ _ _ _ _ never = absurd never
