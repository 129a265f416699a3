-- The pairs of an exchange settle its next command, and whether it has ended. Their number.
use Rattle.std.proofs.Common.{◌≡◌, ℕ, ◌+◌, ◌-◌, ◌*◌, ◌≤◌, List, [], ◌∷◌, ◌++◌, length, refl, sym, ◌∙◌, ap, arith, Bool, true, false, not, ◌&&◌, ◌==◌, Some, length-append, append-nil, append_assoc, ◌⊎◌, inl, inr}
use Rattle.std.proofs.lemmas.Bool.{eqb-false}
use Rattle.std.proofs.lemmas.Grind.{flat_map-append}
use Rattle.apdu_core.specs.StatusWord.{StatusWord}
use Rattle.apdu_core.specs.CommandBytes.{Command}
use Rattle.exchange_core.specs.declared.wanted.Wanted.{Wanted}
use Rattle.apdu_terminal.specs.declared.stage.Stage.TheVariants.{Done, Failed}
use Rattle.apdu_terminal.specs.Apdus.{Pair, Place, first_place, Goes, Stalls, Ends, follow, Suits, GoesThrough, all_content, Brings, StallsAt, IsTooLong}
use Rattle.apdu_terminal.proofs.PlaceLemmas.{Whole, at_end, further, brings_whole, Comes, again, fetch, comes}
use Rattle.apdu_terminal.specs.ApduSide.{ApduExchangeOf, due_of, place_of, ComesTo, to_place, to_end, to_stall, to_fault}

-- what follows a pair is one thing
ends_or_goes : (at next : Place) (p q : Pair) → q ≡ p
    → follow at (length q.content) q.status ≡ Ends
    → follow at (length p.content) p.status ≡ Goes next → ⊥
ends_or_goes at next p q same ends goes =
    let both : Goes next ≡ Ends = sym goes ∙ (rw same at ends) in absurd (cc)

one_next : (at a b : Place) (p q : Pair) → q ≡ p
    → follow at (length q.content) q.status ≡ Goes a
    → follow at (length p.content) p.status ≡ Goes b → a ≡ b
one_next at a b p q same one other =
    let both : Goes b ≡ Goes a = sym other ∙ (rw same at one) in cc

-- two whole exchanges that begin one list of pairs are the same
pub record AreOne (xs ys a b : List Pair) (s t : StatusWord) : Type 0 where
  pub pairs : xs ≡ ys
  pub rest : a ≡ b
  pub status : s ≡ t

one_course : (at : Place) (xs ys a b : List Pair) (s t : StatusWord) → Whole at xs s
    → Whole at ys t → xs ++ a ≡ ys ++ b → AreOne xs ys a b s t
one_course at _ _ a b _ _ (at_end here p suits ends) (at_end there q suits_q ends_q) e =
    let same : p ≡ q = cc in
    record {
      pairs = ap (λ x. x ∷ []) same;
      rest = cc;
      status = ap (λ (x : Pair). x.status) same;
    }
one_course at _ _ a b _ _ (at_end here p suits ends)
    (further there next q others t suits_q goes course) e =
    let same : p ≡ q = cc in absurd (ends_or_goes at next q p same ends goes)
one_course at _ _ a b _ _ (further here next p pairs s suits goes course)
    (at_end there q suits_q ends) e =
    let same : q ≡ p = cc in absurd (ends_or_goes at next p q same ends goes)
one_course at _ _ a b _ _ (further here next p pairs s suits goes course)
    (further there other q others t suits_q goes_q course_q) e =
    let same : q ≡ p = cc in
    let more : pairs ++ a ≡ others ++ b = cc in
    let is = one_course next pairs others a b s t course
    (rw (one_next at other next p q same goes_q goes) at course_q) more in
    record {
      pairs = ap (λ x. x ∷ pairs) (sym same) ∙ ap (λ ps. q ∷ ps) is.pairs;
      rest = is.rest;
      status = is.status;
    }

pub one_exchange : (c : Command) (wanted : Wanted) (xs ys a b : List Pair) (bx by : List ℕ)
    (s t : StatusWord) → Brings c wanted xs bx s → Brings c wanted ys by t → xs ++ a ≡ ys ++ b
    → AreOne xs ys a b s t
one_exchange c wanted xs ys a b bx by s t one other e =
    one_course (first_place c wanted) xs ys a b s t (brings_whole c wanted xs bx s one)
    (brings_whole c wanted ys by t other) e

-- a list that leads to a place, and begins with a whole exchange, continues with its next pair
pub record HasMore (mid : Place) (came u t rest : List Pair) (s : StatusWord) : Type 0 where
  pub p : Pair
  pub more : List Pair
  pub whole : u ≡ came ++ p ∷ more
  pub rest_is : rest ≡ p ∷ (more ++ t)
  pub suits : Suits mid p
  pub never : (follow mid (length p.content) p.status ≡ Stalls) → ⊥

more_from : (at : Place) (came : List Pair) (mid : Place) (u t rest : List Pair) (s : StatusWord)
    → Whole at u s → GoesThrough at came mid → u ++ t ≡ came ++ rest
    → HasMore mid came u t rest s
more_from at [] mid u t rest s whole through e =
    by u s (rw (sym through) at whole) e
  where
    by : (u : List Pair) (s : StatusWord) → Whole mid u s → u ++ t ≡ rest
        → HasMore mid [] u t rest s
    by _ _ (at_end here p suits ends) e = record {
      p = p;
      more = [];
      whole = refl;
      rest_is = sym e;
      suits = suits;
      never = λ stalls. let no : Ends ≡ Stalls = sym ends ∙ stalls in absurd (cc);
    }
    by _ _ (further here next p pairs s suits goes course) e = record {
      p = p;
      more = pairs;
      whole = refl;
      rest_is = sym e;
      suits = suits;
      never = λ stalls. let no : Goes next ≡ Stalls = sym goes ∙ stalls in absurd (cc);
    }
more_from at (q ∷ came) mid _ t rest _ (at_end here p suits ends) (next, suits_q, goes, through)
    e =
    let same : p ≡ q = cc in absurd (ends_or_goes at next q p same ends goes)
more_from at (q ∷ came) mid _ t rest _ (further here other p pairs s suits goes course)
    (next, suits_q, goes_q, through) e =
    let same : p ≡ q = cc in
    let others : pairs ++ t ≡ came ++ rest = cc in
    let is = more_from next came mid pairs t rest s
    (rw (one_next at other next q p same goes goes_q) at course) through others in
    record {
      p = is.p;
      more = is.more;
      whole = ap (λ x. x ∷ pairs) same ∙ ap (λ ps. q ∷ ps) is.whole;
      rest_is = is.rest_is;
      suits = is.suits;
      never = is.never;
    }

-- the pairs of a failed exchange are not those of a whole one
fails_within : (c : Command) (wanted : Wanted) (here u t rest before : List Pair) (last : Pair)
    (at : Place) (bytes : List ℕ) (s : StatusWord) → Brings c wanted u bytes s
    → u ++ t ≡ here ++ rest → here ≡ before ++ last ∷ []
    → GoesThrough (first_place c wanted) before at
    → (follow at (length last.content) last.status ≡ Stalls → ⊥)
    × ((more : List Pair) × (u ≡ here ++ more))
fails_within c wanted here u t rest before last at bytes s b e are through =
    let more = more_from (first_place c wanted) before at u t (last ∷ rest) s
    (brings_whole c wanted u bytes s b) through
    (e ∙ ap (λ ps. ps ++ rest) are ∙ append_assoc before (last ∷ []) rest) in
    let rest_is : last ∷ rest ≡ more.p ∷ (more.more ++ t) = more.rest_is in
    let same : last ≡ more.p = cc in (
      λ stalls. more.never (rw same at stalls),
      (
        more.more,
        more.whole ∙ ap (λ x. before ++ x ∷ more.more) (sym same)
            ∙ sym (append_assoc before (last ∷ []) more.more)
            ∙ ap (λ ps. ps ++ more.more) (sym are),
      ),
    )

-- before the next pair of the rest, or at the end of a whole exchange that `t` follows
abbrev pub IsWithin : ApduExchangeOf → List Pair → List Pair → StatusWord → List ℕ → Type 0
IsWithin ex rest t status bytes =
    ((p : Pair) × (more : List Pair) × (rest ≡ p ∷ more) × (due_of ex ≡ Some p.command))
    ⊎ ((rest ≡ t) × (ex.stage ≡ Done status) × (ex.gather.bytes ≡ bytes))

pub due_within : (ex : ApduExchangeOf) (p : Pair) (rest : List Pair) (status : StatusWord)
    (bytes : List ℕ) → IsWithin ex (p ∷ rest) [] status bytes → due_of ex ≡ Some p.command
due_within ex p rest status bytes (inl (q, more, is, due)) = let same : q ≡ p = cc in
    due ∙ ap (λ (x : Pair). Some x.command) same
due_within ex p rest status bytes (inr (is, done, gathered)) = absurd (cc)

pub over_within : (ex : ApduExchangeOf) (status : StatusWord) (bytes : List ℕ)
    → IsWithin ex [] [] status bytes → (ex.stage ≡ Done status) × (ex.gather.bytes ≡ bytes)
over_within ex status bytes (inl (q, more, is, due)) = absurd (cc)
over_within ex status bytes (inr (is, done, gathered)) = (done, gathered)

-- If the pairs so far begin a list with a whole exchange, and there is room for its data, the
-- exchange is before a pair of the whole one, or at its end.
pub within : (c : Command) (wanted : Wanted) (here : List Pair) (ex : ApduExchangeOf)
    (u t rest : List Pair) (bytes : List ℕ) (s : StatusWord) → ComesTo c wanted here ex
    → Brings c wanted u bytes s → length (all_content u) ≤ ex.gather.limit
    → u ++ t ≡ here ++ rest → IsWithin ex rest t s bytes
within c wanted here ex u t rest bytes s (to_place going through gathered is number) b room e =
    let at = more_from (first_place c wanted) here (place_of ex) u t rest s
    (brings_whole c wanted u bytes s b) through e in
    inl (at.p, at.more ++ t, at.rest_is, rw going (ap Some (sym at.suits.is_due)))
within c wanted here ex u t rest bytes s (to_end status done brings number) b room e =
    let one = one_exchange c wanted u here t rest bytes ex.gather.bytes s status b brings e in
    inr (
      sym one.rest,
      done ∙ ap (λ x. Done x) (sym one.status),
      brings.gathered_is ∙ ap (λ ps. all_content ps) (sym one.pairs) ∙ sym b.gathered_is,
    )
within c wanted here ex u t rest bytes s (to_stall failed st) b room e =
    absurd ((fails_within c wanted here u t rest st.before st.last st.at bytes s b e st.pairs_are
    st.through).0 st.stalls)
within c wanted here ex u t rest bytes s (to_fault failed long) b room e =
    let (more, whole) = (fails_within c wanted here u t rest long.before long.last long.at bytes s b
    e long.pairs_are long.through).1 in
    absurd (omega (
      arith,
      long.long,
      room,
      ap (λ ps. length (all_content ps)) whole,
      ap length (flat_map-append (λ (q : Pair). q.content) here more),
      length-append (all_content here) (all_content more),
    ))

-- the next command is that of the whole exchange
pub next_due : (c : Command) (wanted : Wanted) (came rest : List Pair) (p : Pair)
    (ex : ApduExchangeOf) (gathered : List ℕ) (status : StatusWord) → ComesTo c wanted came ex
    → Brings c wanted (came ++ p ∷ rest) gathered status → length gathered ≤ ex.gather.limit
    → due_of ex ≡ Some p.command
next_due c wanted came rest p ex gathered status led b room =
    due_within ex p rest status gathered (within c wanted came ex (came ++ p ∷ rest) [] (p ∷ rest)
    gathered status led b (omega (arith, room, ap length b.gathered_is))
    (append-nil (came ++ p ∷ rest)))

-- after all pairs of a whole one it has ended
pub over_at_end : (c : Command) (wanted : Wanted) (pairs : List Pair)
    (ex : ApduExchangeOf) (gathered : List ℕ) (status : StatusWord) → ComesTo c wanted pairs ex
    → Brings c wanted pairs gathered status → length gathered ≤ ex.gather.limit
    → (ex.stage ≡ Done status) × (ex.gather.bytes ≡ gathered)
over_at_end c wanted pairs ex gathered status led b room =
    over_within ex status gathered (within c wanted pairs ex pairs [] [] gathered status led b
    (omega (arith, room, ap length b.gathered_is)) refl)

-- ---- how many pairs there are

-- the most pairs from a place that bring `left` bytes, after `brought` by what is repeated
abbrev most_from : Bool → Bool → ℕ → ℕ → ℕ
most_from true false brought left = 2 * (brought + left) + 2
most_from true true brought left = 2 * (brought + left) + 1
most_from false false brought left = 2 * left + 4
most_from false true brought left = 2 * left + 3

abbrev most_at : Place → ℕ → ℕ
most_at at left =
    most_from at.attempt.fetches at.attempt.repeats (at.gathered - at.attempt.before) left

one_at_least : (fetches repeats : Bool) (brought left : ℕ)
    → 1 ≤ most_from fetches repeats brought left
one_at_least true false brought left = omega arith
one_at_least true true brought left = omega arith
one_at_least false false brought left = omega arith
one_at_least false true brought left = omega arith

-- a fetch has brought something
some_came : (fetches : Bool) (k before : ℕ) → (fetches && (k == before)) ≡ false → before ≤ k
    → fetches ≡ true → 1 ≤ k - before
some_came true k before e le is = omega (arith, eqb-false k before e, le)
some_came false k before e le is = absurd (cc)

once : (may repeats : Bool) → (may && not repeats) ≡ true → repeats ≡ false
once true false e = refl
once true true e = absurd (cc)
once false repeats e = absurd (cc)

more_again : (fetches : Bool) (before gathered came rest : ℕ) → before ≤ gathered
    → 1 + most_from fetches true ((gathered + came) - before) rest
    ≤ most_from fetches false (gathered - before) (came + rest)
more_again true before gathered came rest le = omega (arith, le)
more_again false before gathered came rest le = omega arith

more_fetched : (fetches repeats : Bool) (before gathered came rest : ℕ) → before ≤ gathered
    → (fetches ≡ true → 1 ≤ (gathered + came) - before)
    → 1 + most_from true false ((gathered + came) - (gathered + came)) rest
    ≤ most_from fetches repeats (gathered - before) (came + rest)
more_fetched true true before gathered came rest le some = omega (arith, some refl, le)
more_fetched true false before gathered came rest le some = omega (arith, some refl, le)
more_fetched false true before gathered came rest le some = omega arith
more_fetched false false before gathered came rest le some = omega arith

begun_on : (at next : Place) (came : ℕ) (status : StatusWord) → Comes at came status next
    → at.attempt.before ≤ at.gathered → next.attempt.before ≤ next.gathered
begun_on at next came status (again n may wants told is) begun = rw is (omega (arith, begun))
begun_on at next came status (fetch n told some is) begun = rw is (omega arith)

one_less : (at next : Place) (came rest : ℕ) (status : StatusWord) → Comes at came status next
    → at.attempt.before ≤ at.gathered → 1 + most_at next rest ≤ most_at at (came + rest)
one_less at next came rest status (again n may wants told is) begun =
    rw (is, once at.attempt.asks at.attempt.repeats may)
    (more_again at.attempt.fetches at.attempt.before at.gathered came rest begun)
one_less at next came rest status (fetch n told some is) begun =
    rw is (more_fetched at.attempt.fetches at.attempt.repeats at.attempt.before at.gathered came
    rest begun (some_came at.attempt.fetches (at.gathered + came) at.attempt.before some
    (omega (arith, begun))))

few_from : (at : Place) (pairs : List Pair) (status : StatusWord) → Whole at pairs status
    → at.attempt.before ≤ at.gathered → length pairs ≤ most_at at (length (all_content pairs))
few_from at pairs status (at_end here p suits ends) begun =
    omega (
      arith,
      one_at_least at.attempt.fetches at.attempt.repeats (at.gathered - at.attempt.before)
          (length (all_content (p ∷ []))),
    )
few_from at pairs status (further here next p others last suits goes course) begun =
    let c = comes at next (length p.content) p.status goes in
    let step = one_less at next (length p.content) (length (all_content others)) p.status c begun in
    let same : length (all_content (p ∷ others))
    ≡ length p.content + length (all_content others) =
    length-append p.content (all_content others) in
    let rest = few_from next others status course
    (begun_on at next (length p.content) p.status c begun) in
    rw same (omega (arith, rest, step))

-- An exchange that brings r bytes has at most 2(r + 2) pairs.
pub few_commands : (c : Command) (wanted : Wanted) (pairs : List Pair) (gathered : List ℕ)
    (status : StatusWord) → Brings c wanted pairs gathered status
    → length pairs ≤ 2 * (length gathered + 2)
few_commands c wanted pairs gathered status b =
    omega (
      arith,
      few_from (first_place c wanted) pairs status
          (brings_whole c wanted pairs gathered status b) (omega arith),
      ap length b.gathered_is,
    )

-- An exchange holds the received data, or has failed for one of two reasons.
pub holds_what_came : (c : Command) (wanted : Wanted) (pairs : List Pair) (ex : ApduExchangeOf)
    → ComesTo c wanted pairs ex → (ex.gather.bytes ≡ all_content pairs)
    ⊎ ((ex.stage ≡ Failed)
    × (StallsAt c wanted pairs ⊎ IsTooLong c wanted pairs ex.gather.limit))
holds_what_came c wanted pairs ex (to_place going through bytes is number) = inl bytes
holds_what_came c wanted pairs ex (to_end status done brings number) = inl brings.gathered_is
holds_what_came c wanted pairs ex (to_stall failed stalls) = inr (failed, inl stalls)
holds_what_came c wanted pairs ex (to_fault failed long) = inr (failed, inr long)
