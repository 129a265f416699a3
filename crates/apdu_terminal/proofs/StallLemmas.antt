-- No exchange of whole commands with a card of data objects fails: each GET RESPONSE brings data,
-- and all data fit.
use Rattle.std.proofs.Common.{◌≡◌, ℕ, ◌+◌, ◌<◌, ◌≤◌, List, [], ◌∷◌, ◌++◌, length, refl, sym, ◌∙◌, ap, arith, Bool, true, false, ◌&&◌, ◌==◌, if◌then◌else◌, Option, Some, None, length-append, append-nil}
use Rattle.std.proofs.lemmas.Bool.{eqb-true, true≢false}
use Rattle.apdu_core.specs.StatusWord.{StatusWord, announces, corrects}
use Rattle.apdu_core.specs.CommandBytes.{Command}
use Rattle.object_card.specs.declared.limits.TheConstants.{VALUE_LIMIT, HEAD_LIMIT}
use Rattle.object_card.specs.State.{CardState, IsCardState, waiting}
use Rattle.object_card.specs.StateLaws.{stays_sound}
use Rattle.object_card.specs.CardMeaning.{Does}
use Rattle.apdu_core.specs.Shared.{get_response}
use Rattle.object_card.specs.ResponseLaws.{what_is_announced_waits, corrected_brings_none, brings_within}
use Rattle.exchange_core.specs.declared.wanted.Wanted.{Wanted}
use Rattle.exchange_core.specs.ExchangeSide.{response_limit}
use Rattle.exchange_core.specs.declared.attempt.Next.TheVariants as next_is
use Rattle.exchange_core.specs.Attempts.{next_by}
use Rattle.exchange_core.specs.Attempts as attempts
use Rattle.exchange_core.specs.Gathered.{less}
use Rattle.apdu_terminal.specs.Apdus.{Pair, Place, command_at, first_place, asking, leads, Goes, Stalls, follow, Suits, GoesThrough, all_content, StallsAt, IsTooLong}
use Rattle.apdu_terminal.specs.CardApdu.{le_of, tpdu_command, InTurn, GoesAs, GoesBy, Responds, RespondsToAll}
use Rattle.apdu_terminal.proofs.PlaceLemmas.{Comes, again, fetch, comes}
use Rattle.apdu_terminal.proofs.RestLemmas.{Reading, in_range, one_read, one_response, told_by, told_none}

-- The state after pairs that have brought `brought` bytes. What the status announces waits. After a
-- 6CXX they have brought none. If the card was sound, they are with what waits at most a response.
record Leaves (Sound : Type 0) (brought : ℕ) (status : StatusWord) (s : CardState) : Type 0 where
  announced : (n : ℕ) → announces status ≡ Some n
      → (1 ≤ n) × (n ≤ length (waiting s.pending))
  corrected : (n : ℕ) → corrects status ≡ Some n → brought ≡ 0
  sound : Sound → IsCardState s
  within : Sound → brought + length (waiting s.pending) ≤ VALUE_LIMIT + HEAD_LIMIT

-- how a card of data objects takes a pair
abbrev Takes : Type 0 → (CardState → Pair → CardState → Type 0) → Type 0
Takes Sound One = Reading One × ((p : Pair) (s new : CardState) → (Sound → IsCardState s)
    → One s p new → Leaves Sound (length p.content) p.status new)

tpdus : (Sound : Type 0) → Takes Sound (GoesAs Does)
tpdus Sound = (
  one_read,
  λ p s new sound (t, is, does). record {
    announced = λ n told.
        what_is_announced_waits s new 256 n t does in_range (ap announces is.status_is ∙ told);
    corrected = λ n told. ap length (sym is.received_is
        ∙ corrected_brings_none s new 256 n t does (ap corrects is.status_is ∙ told));
    sound = λ z. stays_sound s new 256 t does (sound z);
    within = λ z.
        omega (arith, ap length is.received_is, brings_within s new 256 t does (sound z));
  },
)

-- The state before a command of an exchange, after `total` bytes of data. A fetch is of what waits;
-- before the first fetch there are no data.
record Sits (Sound : Type 0) (total : ℕ) (at : Place) (s : CardState) : Type 0 where
  sound : Sound → IsCardState s
  begun : at.attempt.before ≤ at.gathered
  first : at.attempt.fetches ≡ false → total ≡ 0
  of_fetch : at.attempt.fetches ≡ true → (n : ℕ) × (command_at at ≡ asking get_response n) × (1 ≤ n)
      × (n ≤ length (waiting s.pending))
      × (Sound → total + length (waiting s.pending) ≤ VALUE_LIMIT + HEAD_LIMIT)

-- a fetch brings data, and its status is not 6CXX
abbrev FetchesSome : Place → List ℕ → StatusWord → Type 0
FetchesSome at content status =
    at.attempt.fetches ≡ true → (at.attempt.before < at.gathered + length content)
    × (corrects status ≡ None)

no_count : (status : StatusWord) (n : ℕ) → corrects status ≡ None → corrects status ≡ Some n → ⊥
no_count status n none some = let e : None ≡ Some n = sym none ∙ some in absurd (cc)

after_pair : (Sound : Type 0) (One : CardState → Pair → CardState → Type 0) → Takes Sound One
    → (total : ℕ) (at : Place) (p : Pair) (s new : CardState) → Sits Sound total at s → Suits at p
    → One s p new
    → Leaves Sound (total + length p.content) p.status new × FetchesSome at p.content p.status
after_pair Sound One takes total at p s new sits suits is = by at.attempt.fetches refl
  where
    l : Leaves Sound (length p.content) p.status new
    l = takes.1 p s new sits.sound is

    by : (v : Bool) → at.attempt.fetches ≡ v → Leaves Sound (total + length p.content) p.status new
        × FetchesSome at p.content p.status
    by false e = (
      record {
        announced = l.announced;
        corrected = λ n told. omega (arith, sits.first e, l.corrected n told);
        sound = l.sound;
        within = λ z. omega (arith, sits.first e, l.within z);
      },
      λ t. absurd (true≢false (sym t ∙ e)),
    )
    by true e =
        let (n, is_due, low, few, sum) = sits.of_fetch e in
        let r = takes.0 n p s new low few (suits.is_due ∙ is_due) is in
        let none = told_none s new p.content p.status r in (
          record {
            announced = l.announced;
            corrected = λ k told. absurd (no_count p.status k none told);
            sound = l.sound;
            within = λ z. omega (
              arith,
              sum z,
              ap length r.whole,
              length-append p.content (waiting new.pending),
            );
          },
          λ t. (omega (arith, sits.begun, r.some), none),
        )

-- the state before the next command
next_sits : (Sound : Type 0) (total : ℕ) (at next : Place) (content : List ℕ)
    (status : StatusWord) (new : CardState) → Leaves Sound (total + length content) status new
    → FetchesSome at content status → at.attempt.before ≤ at.gathered
    → follow at (length content) status ≡ Goes next → Sits Sound (total + length content) next new
next_sits Sound total at next content status new l some begun goes =
    by (comes at next (length content) status goes)
  where
    by : Comes at (length content) status next → Sits Sound (total + length content) next new
    by (again n may wants told is) = record {
      sound = l.sound;
      begun = rw is (omega (arith, begun));
      first = λ e. l.corrected n told;
      of_fetch = λ e.
          let none = (some (sym (ap (λ (x : Place). x.attempt.fetches) is) ∙ e)).1 in
          absurd (no_count status n none told);
    }
    by (fetch n told brings is) =
        let (m, announced, few, low) = told_by (less at.left (length content)) status n told in
        let waits = l.announced m announced in
        record {
          sound = l.sound;
          begun = rw is (omega arith);
          first = λ e. absurd (true≢false (sym (ap (λ (x : Place). x.attempt.fetches) is) ∙ e));
          of_fetch = λ e. (
            n,
            ap (λ (x : Place). command_at x) is,
            low waits.0,
            omega (arith, few, waits.1),
            l.within,
          );
        }

-- all pairs, to the last
last_after : (Sound : Type 0) (One : CardState → Pair → CardState → Type 0) → Takes Sound One
    → (total : ℕ) (at mid : Place) (before : List Pair) (last : Pair) (s new : CardState)
    → Sits Sound total at s → GoesThrough at before mid → Suits mid last
    → InTurn One s (before ++ last ∷ []) new
    → Leaves Sound (total + length (all_content (before ++ last ∷ []))) last.status new
    × FetchesSome mid last.content last.status
last_after Sound One takes total at mid [] last s new sits is suits (next, goes, stays) =
    let (l, some) = after_pair Sound One takes total at last s next sits (rw is at suits) goes in
    (rw (append-nil last.content, stays) l, rw is some)
last_after Sound One takes total at mid (p ∷ before) last s new sits (next, suits_p, goes, rest)
    suits (then_so, is, others) =
    let (l, some) = after_pair Sound One takes total at p s then_so sits suits_p is in
    let (all, last_some) = last_after Sound One takes (total + length p.content) next mid before
    last then_so new
    (next_sits Sound total at next p.content p.status then_so l some sits.begun goes) rest suits
    others in
    let sum : (total + length p.content) + length (all_content (before ++ last ∷ []))
    ≡ total + length (all_content (p ∷ (before ++ last ∷ []))) =
    omega (arith, length-append p.content (all_content (before ++ last ∷ []))) in
    (rw sum at all, last_some)

begins : (Sound : Type 0) (c : Command) (wanted : Wanted) (s : CardState)
    → (Sound → IsCardState s) → Sits Sound 0 (first_place c wanted) s
begins Sound c wanted s sound = record {
  sound = sound;
  begun = omega arith;
  first = λ e. refl;
  of_fetch = λ e. absurd (true≢false (sym e));
}

commands : (Sound : Type 0) → Takes Sound (Responds Does)
commands Sound = (one_response, leaves)
  where
    leaves : (p : Pair) (s new : CardState) → (Sound → IsCardState s) → Responds Does s p new
        → Leaves Sound (length p.content) p.status new
    leaves p s new sound (inner, b, goes) =
        let (l, some) = last_after Sound (GoesAs Does) (tpdus Sound) 0
        (first_place (tpdu_command p.command) (le_of p.command)) b.at b.before b.last s new
        (begins Sound _ _ s sound) b.through b.suits (rw b.pairs_are at goes) in
        let all : 0 + length (all_content (b.before ++ b.last ∷ [])) ≡ length p.content =
        omega (arith, ap length (b.gathered_is ∙ ap all_content b.pairs_are)) in
        rw (sym all, b.status_is) l

stalls_when : (at : Place) (came : ℕ) (again announced : Option ℕ)
    → leads at came (next_by at.attempt (at.gathered + came) again announced) ≡ Stalls
    → (at.attempt.fetches ≡ true) × (at.gathered + came ≡ at.attempt.before)
stalls_when at came (Some n) announced is = absurd (cc)
stalls_when at came None None is = absurd (cc)
stalls_when at came None (Some n) is =
    by at.attempt.fetches (at.gathered + came == at.attempt.before) refl is
  where
    by : (fetches v : Bool) → (at.gathered + came == at.attempt.before) ≡ v
        → leads at came (if fetches && v then next_is.Stalls
        else next_is.Asks (attempts.fetch at.attempt (at.gathered + came)) n) ≡ Stalls
        → (fetches ≡ true) × (at.gathered + came ≡ at.attempt.before)
    by true true e is = (refl, eqb-true (at.gathered + came) at.attempt.before e)
    by true false e is = absurd (cc)
    by false v e is = absurd (cc)

stalls_never : (One : CardState → Pair → CardState → Type 0) → Takes ⊥ One → (c : Command)
    (wanted : Wanted) (pairs : List Pair) (old new : CardState) → StallsAt c wanted pairs
    → InTurn One old pairs new → ⊥
stalls_never One takes c wanted pairs old new st goes =
    let (l, some) = last_after ⊥ One takes 0 (first_place c wanted) st.at st.before st.last old new
    (begins ⊥ c wanted old (λ z. absurd z)) st.through st.suits (rw st.pairs_are at goes) in
    let (fetches, none) = stalls_when st.at (length st.last.content) _ _ st.stalls in
    omega (arith, none, (some fetches).0)

-- at the card
pub card_never_stalls : (c : Command) (wanted : Wanted) (pairs : List Pair) (old new : CardState)
    → StallsAt c wanted pairs → GoesBy Does old pairs new → ⊥
card_never_stalls = stalls_never (GoesAs Does) (tpdus ⊥)

-- at the terminal
pub never_stalls : (c : Command) (wanted : Wanted) (pairs : List Pair) (old new : CardState)
    → StallsAt c wanted pairs → RespondsToAll Does old pairs new → ⊥
never_stalls = stalls_never (Responds Does) (commands ⊥)

pub never_overflows : (c : Command) (wanted : Wanted) (pairs : List Pair) (old new : CardState)
    (limit : ℕ) → limit ≡ response_limit → IsCardState old → IsTooLong c wanted pairs limit
    → RespondsToAll Does old pairs new → ⊥
never_overflows c wanted pairs old new limit is sound long goes =
    let (l, some) = last_after (IsCardState old) (Responds Does) (commands (IsCardState old)) 0
    (first_place c wanted) long.at long.before long.last old new
    (begins (IsCardState old) c wanted old (λ z. z)) long.through long.suits
    (rw long.pairs_are at goes) in
    omega (
      arith,
      long.long,
      is,
      ap (λ ps. length (all_content ps)) long.pairs_are,
      l.within sound,
    )

-- a sound card stays sound
pub sound_after : (old new : CardState) (pairs : List Pair) → IsCardState old
    → RespondsToAll Does old pairs new → IsCardState new
sound_after old new [] sound goes = rw goes sound
sound_after old new (p ∷ pairs) sound (mid, is, rest) =
    sound_after mid new pairs
    (((commands (IsCardState old)).1 p old mid (λ z. z) is).sound sound) rest
