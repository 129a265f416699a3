-- With a response the pairs that led to an exchange lead on.
use Rattle.std.proofs.Common.{◌≡◌, ℕ, ◌+◌, ◌≤◌, List, length, refl, sym, ◌∙◌, ap, arith, true, false, ◌&&◌, ◌==◌, Bool, Option, Some, None, if◌then◌else◌, inl, inr, [], ◌∷◌, ◌++◌, subst, ◌⊎◌, length-append}
use Rattle.std.proofs.lemmas.Bool.{ltb-false, leb-true}
use Rattle.apdu_core.specs.StatusWord.{StatusWord}
use Rattle.exchange_core.specs.declared.wanted.Wanted.{Wanted}
use Rattle.exchange_core.specs.declared.wanted.Wanted.TheVariants.{Bytes, Everything}
use Rattle.exchange_core.specs.declared.attempt.Attempt.{Attempt}
use Rattle.exchange_core.specs.declared.attempt.Next.{Next}
use Rattle.exchange_core.specs.declared.attempt.Next.TheVariants as next
use Rattle.exchange_core.specs.Gathered.{less}
use Rattle.exchange_core.specs.Attempts.{next_by, following, fetch, repetition}
use Rattle.apdu_terminal.specs.Apdus.{Place, asked, leads, Goes, follow, Pair, first_place, may_bring, Suits, GoesThrough, all_content, Brings, StallsAt, IsTooLong}
use Rattle.apdu_terminal.specs.ApduSide.{ApduExchangeOf, place_of, is_going, ComesTo, to_place, to_end, to_stall, to_fault, excess, response_fault, answered_by}
use Rattle.std.specs.Prelude.{nat_lt, nat_le}
use Rattle.apdu_core.specs.CommandBytes.{Command}
use Rattle.t0_core.specs.DialogueLaws.{flat_map_last}
use Rattle.t0_core.specs.Room.{Room}
use Rattle.t0_core.specs.declared.answer_fault.AnswerFault.{AnswerFault}
use Rattle.t0_core.specs.declared.answer_fault.AnswerFault.TheVariants as fault
use Rattle.apdu_terminal.specs.declared.stage.Stage.{Stage}
use Rattle.apdu_terminal.specs.declared.stage.Stage.TheVariants.{Going, Done, Failed}

less_less : (w : Wanted) (a b : ℕ) → less (less w a) b ≡ less w (a + b)
less_less (Bytes n) a b = ap Bytes (omega arith)
less_less Everything a b = refl

-- what follows by its attempt
abbrev pub next_of : ApduExchangeOf → ℕ → StatusWord → Next
next_of ex gathered status = following ex.attempt gathered (less ex.wanted gathered) status

follows_as : (ex : ApduExchangeOf) (came : ℕ) (status : StatusWord)
    → follow (place_of ex) came status
    ≡ leads (place_of ex) came (next_of ex (length ex.gather.bytes + came) status)
follows_as ex came status =
    ap (λ w. leads (place_of ex) came
    (following ex.attempt (length ex.gather.bytes + came) w status))
    (less_less ex.wanted (length ex.gather.bytes) came)

-- ---- pairs

-- one more pair
pub goes_last : (at : Place) (pairs : List Pair) (mid : Place) (p : Pair) (next : Place)
    → GoesThrough at pairs mid → Suits mid p
    → follow mid (length p.content) p.status ≡ Goes next
    → GoesThrough at (pairs ++ p ∷ []) next
goes_last at [] mid p next through suits goes =
    (next, rw through at suits, rw through at goes, refl)
goes_last at (q ∷ pairs) mid p next (n, is, follows, rest) suits goes =
    (n, is, follows, goes_last n pairs mid p next rest suits goes)

pub one_more_content : (pairs : List Pair) (p : Pair)
    → all_content (pairs ++ p ∷ []) ≡ all_content pairs ++ p.content
one_more_content pairs p = flat_map_last (λ (q : Pair). q.content) pairs p

one_more_pair : (pairs : List Pair) (p : Pair) → length (pairs ++ p ∷ []) ≡ length pairs + 1
one_more_pair pairs p = omega (arith, length-append pairs (p ∷ []))

-- one more command
asked_when : (v : Bool) (a : Attempt) (gathered n m : ℕ) (b : Attempt)
    → (if v then next.Stalls else next.Asks (fetch a gathered) n) ≡ next.Asks b m
    → b.number ≡ a.number + 1
asked_when true a gathered n m b e = absurd (cc)
asked_when false a gathered n m b e =
    let same : fetch a gathered ≡ b = cc in sym (ap (λ (x : Attempt). x.number) same)

pub asked_number : (a : Attempt) (gathered : ℕ) (again announced : Option ℕ) (b : Attempt) (n : ℕ)
    → next_by a gathered again announced ≡ next.Asks b n → b.number ≡ a.number + 1
asked_number a gathered (Some m) announced b n e =
    let same : repetition a ≡ b = cc in sym (ap (λ (x : Attempt). x.number) same)
asked_number a gathered None None b n e = absurd (cc)
asked_number a gathered None (Some m) b n e =
    asked_when (a.fetches && gathered == a.before) a gathered m n b e

-- what is known of a response that is no fault
pub record IsTaken (ex : ApduExchangeOf) (came : ℕ) : Type 0 where
  pub going : ex.stage ≡ Going
  pub asked_for : came ≤ may_bring ex.le
  pub fits : length ex.gather.bytes + came ≤ ex.gather.limit

pub is_going_true : (s : Stage) → is_going s ≡ true → s ≡ Going
is_going_true Going e = refl
is_going_true (Done status) e = absurd (cc)
is_going_true Failed e = absurd (cc)

parts : (v more fits : Bool) (excess : AnswerFault)
    → (if v then (if more then Some excess else (if fits then None else Some fault.TooLong))
    else Some fault.NotDue) ≡ None → (v ≡ true) × (more ≡ false) × (fits ≡ true)
parts true false true excess e = (refl, refl, refl)
parts true false false excess e = absurd (cc)
parts true true fits excess e = absurd (cc)
parts false more fits excess e = absurd (cc)

pub is_taken : (ex : ApduExchangeOf) (came : ℕ) → response_fault ex came ≡ None
    → IsTaken ex came
is_taken ex came none =
    let is = parts (is_going ex.stage) (nat_lt (may_bring ex.le) came)
    (nat_le (length ex.gather.bytes + came) ex.gather.limit) (excess ex.le) none in
    record {
      going = is_going_true ex.stage is.0;
      asked_for = ltb-false (may_bring ex.le) came is.1;
      fits = leb-true (length ex.gather.bytes + came) ex.gather.limit is.2;
    }

-- the exchange continues
pub record IsAt (c : Command) (wanted : Wanted) (pairs : List Pair) (ex : ApduExchangeOf)
    : Type 0 where
  pub through : GoesThrough (first_place c wanted) pairs (place_of ex)
  pub gathered : ex.gather.bytes ≡ all_content pairs
  pub wanted_is : ex.wanted ≡ wanted
  pub number : ex.attempt.number ≡ length pairs + 1

-- what the pairs that led to an exchange are, by its stage
abbrev pub Means : Command → Wanted → List Pair → ApduExchangeOf → Stage → Type 0
Means c wanted pairs ex Going = IsAt c wanted pairs ex
Means c wanted pairs ex (Done status) = Brings c wanted pairs ex.gather.bytes status
Means c wanted pairs ex Failed =
    StallsAt c wanted pairs ⊎ IsTooLong c wanted pairs ex.gather.limit

pub at_stage : (c : Command) (wanted : Wanted) (pairs : List Pair) (ex : ApduExchangeOf)
    (s : Stage) → ex.stage ≡ s → ComesTo c wanted pairs ex → Means c wanted pairs ex s
at_stage c wanted pairs ex s at led = subst (Means c wanted pairs ex) at (by led)
  where
    by : ComesTo c wanted pairs ex → Means c wanted pairs ex ex.stage
    by (to_place is through gathered wanted_is number) =
        rw is (record {
          through = through;
          gathered = gathered;
          wanted_is = wanted_is;
          number = number;
        })
    by (to_end status is brings number) = rw is brings
    by (to_stall is stalls) = rw is (inl stalls)
    by (to_fault is long) = rw is (inr long)

-- the exchange with more gathered
abbrev pub more_room : Room → List ℕ → Room
more_room room content = record { bytes = room.bytes ++ content; limit = room.limit }

abbrev pub asks_with : ApduExchangeOf → Room → Attempt → ℕ → ApduExchangeOf
asks_with ex gather a n = record {
  content = [];
  le = Some n;
  gather = gather;
  attempt = a;
  wanted = ex.wanted;
  stage = ex.stage;
}

abbrev pub ended_as : ApduExchangeOf → Room → Stage → ApduExchangeOf
ended_as ex gather stage = record {
  content = ex.content;
  le = ex.le;
  gather = gather;
  attempt = ex.attempt;
  wanted = ex.wanted;
  stage = stage;
}

-- the exchange after a response, by what follows it
abbrev pub after_of : ApduExchangeOf → Room → StatusWord → Next → ApduExchangeOf
after_of ex gather status (next.Asks a n) = asks_with ex gather a n
after_of ex gather status next.Stalls = ended_as ex gather Failed
after_of ex gather status next.Ends = ended_as ex gather (Done status)

-- the place of the next command
asked_as : (ex : ApduExchangeOf) (gather : Room) (came : ℕ) (a : Attempt) (n : ℕ)
    → length gather.bytes ≡ length ex.gather.bytes + came
    → asked (place_of ex) came a n ≡ place_of (asks_with ex gather a n)
asked_as ex gather came a n many =
    rw (less_less ex.wanted (length ex.gather.bytes) came, many) refl

pub seen_led : (c : Command) (wanted : Wanted) (pairs : List Pair) (inside seen : ApduExchangeOf)
    (content : List ℕ) (status : StatusWord) (gather : Room) (gathered : ℕ) (left : Wanted)
    (v : Next) → inside ≡ seen → response_fault seen (length content) ≡ None
    → gather ≡ more_room inside.gather content → gathered ≡ length gather.bytes
    → left ≡ less inside.wanted gathered → v ≡ following inside.attempt gathered left status
    → ComesTo c wanted pairs seen
    → ComesTo c wanted (pairs ++ answered_by seen content status ∷ [])
    (after_of inside gather status v)
seen_led c wanted pairs inside seen content status gather gathered left v same none room many
    left_is is led =
    rw (sym same) (by v next_is (follows_as inside (length content) status
    ∙ ap (leads (place_of inside) (length content))
    (ap (λ k. next_of inside k status) (sym so_many) ∙ sym next_is)))
  where
    next_is : v ≡ next_of inside gathered status
    next_is = is ∙ ap (λ w. following inside.attempt gathered w status) left_is

    taken : IsTaken inside (length content)
    taken =
        is_taken inside (length content) (ap (λ x. response_fault x (length content)) same ∙ none)

    so_many : gathered ≡ length inside.gather.bytes + length content
    so_many = omega (
      arith,
      many,
      ap (λ (r : Room). length r.bytes) room,
      length-append inside.gather.bytes content,
    )

    at : IsAt c wanted pairs inside
    at = at_stage c wanted pairs inside Going taken.going (rw same led)

    p : Pair
    p = answered_by inside content status

    suits : Suits (place_of inside) p
    suits = record { is_due = refl; asked_for = taken.asked_for }

    bytes : gather.bytes ≡ all_content (pairs ++ p ∷ [])
    bytes = ap (λ (r : Room). r.bytes) room ∙ ap (λ bs. bs ++ content) at.gathered
        ∙ sym (one_more_content pairs p)

    by : (v : Next) → v ≡ next_of inside gathered status
        → follow (place_of inside) (length content) status
        ≡ leads (place_of inside) (length content) v
        → ComesTo c wanted (pairs ++ p ∷ []) (after_of inside gather status v)
    by (next.Asks a n) is follows = to_place taken.going
        (goes_last (first_place c wanted) pairs (place_of inside) p
        (place_of (asks_with inside gather a n)) at.through suits
        (follows ∙ ap (λ x. Goes x)
        (asked_as inside gather (length content) a n (sym many ∙ so_many)))) bytes
        at.wanted_is
        (omega (
          arith,
          asked_number inside.attempt gathered _ _ a n (sym is),
          at.number,
          one_more_pair pairs p,
        ))
    by next.Stalls is follows = to_stall refl (record {
      before = pairs;
      last = p;
      at = place_of inside;
      pairs_are = refl;
      through = at.through;
      suits = suits;
      stalls = follows;
    })
    by next.Ends is follows = to_end status refl
        (record {
          before = pairs;
          last = p;
          at = place_of inside;
          pairs_are = refl;
          through = at.through;
          suits = suits;
          ends = follows;
          status_is = refl;
          gathered_is = bytes;
        })
        (omega (arith, at.number, one_more_pair pairs p))
