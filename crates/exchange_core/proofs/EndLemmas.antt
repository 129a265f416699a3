-- What follows a dialogue of an exchange: it is repeated, or more is fetched, or the exchange has
-- ended or stalled.
use Rattle.std.proofs.Common.{◌≡◌, ℕ, ◌+◌, List, [], ◌∷◌, ◌++◌, length, take, refl, sym, ◌∙◌, ap, arith, inl, inr, ◌⊎◌, true, false, not, ◌&&◌, ◌==◌, Bool, Option, Some, None, is_some, append-nil, length-append, lit<, if◌then◌else◌, eq-eqb}
use Rattle.std.specs.List.{flat_map}
use Rattle.std.proofs.lemmas.Bool.{eqb-true, and_parts}
use Rattle.apdu_core.specs.StatusWord.{StatusWord, count, corrects}
use Rattle.apdu_core.specs.CommandBytes.{Command}
use Rattle.t0_core.specs.declared.end.End.TheVariants.{Card}
use Rattle.t0_core.specs.declared.host_end.HostTurn.TheVariants.{Done}
use Rattle.t0_core.specs.declared.direction.Direction.{Direction}
use Rattle.t0_core.specs.declared.direction.Direction.TheVariants.{ToCard, FromCard}
use Rattle.t0_core.specs.Dialogue.{Dialogue, IsDialogue}
use Rattle.t0_core.specs.Meaning.{received}
use Rattle.t0_core.specs.Front.{Front, In_header, In_body, After_first, Ends, IsFront, brought, fresh}
use Rattle.t0_core.specs.DialogueLaws.{flat_map_last, all_more}
use Rattle.t0_core.specs.Room.{Room}
use Rattle.t0_core.specs.HostSide.{Hosting, IsOpenedBy, HostStandsAt, turn_of, data_sent, IsRequest}
use Rattle.t0_core.specs.HostLaws.{opened}
use Rattle.exchange_core.specs.declared.wanted.Wanted.{Wanted}
use Rattle.exchange_core.specs.declared.attempt.Attempt.{Attempt}
use Rattle.exchange_core.specs.declared.attempt.Next.{Next}
use Rattle.exchange_core.specs.declared.attempt.Next.TheVariants as next
use Rattle.apdu_core.specs.Shared.{get_response}
use Rattle.t0_core.specs.declared.data_sent.DataSent.{DataSent}
use Rattle.t0_core.specs.DataSent.{both, sent_in_all, Tells}
use Rattle.t0_core.specs.DataSentLaws.{tells_both, sent_in-last, told_at_end}
use Rattle.exchange_core.specs.Gathered.{Asks, wanted_by, less, wants_at_least, correction_of, repeated_with, after_dialogue, after_unit, fetched_after, Opening, By_command, By_fetch, UnitOf, Single, last_of, unit_data, BringsSome, IsOpenExchange}
use Rattle.exchange_core.specs.Attempts.{with_sent, again_with, next_by, following, repetition, fetch}
use Rattle.exchange_core.specs.ExchangeSide.{ExchangeOf, HostAsks, UnderWay, Stall, Continues, so_far, begun_with, ended_with, asks_card, is_fetch}
use Rattle.exchange_core.proofs.UnitLemmas.{ended_data, followed_left, less_less, one_more, received_of}
use Rattle.exchange_core.specs.EndLaws.{AtEnd, again_of, next_exchange, repeats, taken_on, unit_is, unit_opens}
use Rattle.exchange_core.specs.UnitLaws.{gathered_parts, unit_data_received, unit_dialogues, unit_ends}

-- ---- the dialogue that has ended

-- the end opened it, and it brought the data of the front
abbrev pub IsEnded : Hosting → Front → Dialogue → Type 0
IsEnded host front d = IsOpenedBy host d.body × IsDialogue d × (received d ≡ brought front)

pub ended_at : (host : Hosting) (front : Front) (byte : ℕ) (d : Dialogue)
    → HostStandsAt host front → IsFront front → Ends front (Card, byte) d → IsEnded host front d
ended_at host (In_header bytes) byte d stands is ends = absurd ends
ended_at host (In_body b) byte d stands is ends = absurd ends
ended_at host (After_first b sw1) byte d stands is ends =
    rw ends.2 (
      opened host (After_first b sw1) stands,
      record {
        moved_by_segments = is.1;
        is_status = (is.2.0, ends.1);
        only_nulls = is.0.only_nulls;
      },
      received_of b (sw1, byte),
    )

-- ---- the gathered data, and what is still wanted

pub all_gathered : (c : Command) (ex : ExchangeOf) (units : List UnitOf)
    (first : Option Dialogue) (front : Front) (d : Dialogue) → UnderWay c ex units first front
    → received d ≡ brought front
    → ex.gather.bytes ≡ flat_map received (so_far units first ++ d ∷ [])
all_gathered c ex units first front d under is =
    under.gathered ∙ ap (λ ds. flat_map received (so_far units first) ++ ds) (sym is)
    ∙ sym (flat_map_last received (so_far units first) d)

unit_gathered : (c : Command) (ex : ExchangeOf) (units : List UnitOf) (first : Option Dialogue)
    (front : Front) (d : Dialogue) → UnderWay c ex units first front → received d ≡ brought front
    → length ex.gather.bytes
    ≡ length (flat_map unit_data units) + length (unit_data (ended_with first d))
unit_gathered c ex units first front d under is =
    ap length (under.gathered ∙ ap (λ ds. flat_map received (so_far units first) ++ ds) (sym is)
    ∙ gathered_parts units first (received d))
    ∙ length-append (flat_map unit_data units) (flat_map received (begun_with first) ++ received d)
    ∙ ap (λ ds. length (flat_map unit_data units) + length ds) (sym (ended_data first d))

pub still_wanted : (c : Command) (ex : ExchangeOf) (units : List UnitOf)
    (first : Option Dialogue) (front : Front) (d : Dialogue)
    (under : UnderWay c ex units first front) → received d ≡ brought front
    → less ex.wanted (length ex.gather.bytes) ≡ after_unit under.left (ended_with first d)
still_wanted c ex units first front d under is =
    ap (λ w. less w (length ex.gather.bytes)) under.wanted_is
    ∙ ap (less (wanted_by c.le)) (unit_gathered c ex units first front d under is)
    ∙ sym (less_less (wanted_by c.le) (length (flat_map unit_data units))
    (length (unit_data (ended_with first d))))
    ∙ ap (λ w. after_unit w (ended_with first d))
    (sym (followed_left (By_command c)
    (wanted_by c.le) units under.opening under.left under.followed))

-- ---- whether it is repeated

never_again : (asks w : Bool) → (asks && not true && w) ≡ false
never_again true w = refl
never_again false w = refl

again_as : (a : Attempt) (direction : Direction) (left : Wanted) (corrected : Option ℕ)
    → a.asks ≡ asks_card direction → a.repeats ≡ false
    → again_with a left corrected ≡ correction_of direction left corrected
again_as a ToCard left None asks once = refl
again_as a ToCard left (Some n) asks once = rw asks refl
again_as a FromCard left None asks once = refl
again_as a FromCard left (Some n) asks once = rw (asks, once) refl

again_once : (a : Attempt) (left : Wanted) (corrected : Option ℕ) → a.repeats ≡ true
    → again_with a left corrected ≡ None
again_once a left None again = refl
again_once a left (Some n) again = rw (again, never_again a.asks (wants_at_least n left)) refl

same_left : (left : Wanted) (d : Dialogue) → after_unit left (Single d) ≡ after_dialogue left d
same_left left d = ap (λ ds. less left (length ds)) (append-nil (received d))

again_is : (a : Attempt) (left now : Wanted) (first : Option Dialogue) (d : Dialogue)
    → now ≡ after_unit left (ended_with first d) → a.asks ≡ asks_card d.body.direction
    → a.repeats ≡ is_some first
    → again_with a now (corrects d.status) ≡ again_of first (repeated_with left d)
again_is a left now None d is asks once =
    again_as a d.body.direction now (corrects d.status) asks once
    ∙ ap (λ w. correction_of d.body.direction w (corrects d.status)) (is ∙ same_left left d)
again_is a left now (Some e) d is asks again = again_once a now (corrects d.status) again

last_is : (first : Option Dialogue) (d : Dialogue) → last_of (ended_with first d) ≡ d
last_is None d = refl
last_is (Some e) d = refl

-- ---- what holds at the end of a dialogue

pub at_end : (c : Command) (ex : ExchangeOf) (units : List UnitOf) (first : Option Dialogue)
    (front : Front) (byte : ℕ) (d : Dialogue) (under : UnderWay c ex units first front)
    → Ends front (Card, byte) d → AtEnd c ex units first front d under
at_end c ex units first front byte d under ends =
    let ended = ended_at ex.host front byte d under.stands under.is_front ends in
    let left = still_wanted c ex units first front d under ended.2 in
    record {
      by = ended.0;
      are_dialogues = all_more IsDialogue (so_far units first) d under.are_dialogues ended.1;
      opens = unit_opens under.opening under.left first ex.host d under.opened_as ended.0;
      gathered = all_gathered c ex units first front d under ended.2;
      number = unit_gathered c ex units first front d under ended.2;
      left = left;
      again = again_is ex.attempt under.left (less ex.wanted (length ex.gather.bytes)) first d
          left (under.place.asks_is ∙ ap asks_card (sym ended.0.2)) under.place.repeats_is;
      fetched = ap (λ w. fetched_after w d.status) left
          ∙ ap (λ e. fetched_after (after_unit under.left (ended_with first d)) e.status)
          (sym (last_is first d));
    }

-- ---- what follows by the attempt

-- a repetition, or a fetch
abbrev pub IsAsked : Attempt → ℕ → Option ℕ → Option ℕ → Attempt → ℕ → Type 0
IsAsked a gathered again fetched attempt n =
    ((again ≡ Some n) × (attempt ≡ repetition a))
    ⊎ ((again ≡ None) × (fetched ≡ Some n) × (attempt ≡ fetch a gathered)
    × ((a.fetches && gathered == a.before) ≡ false))

fetch_asked : (v : Bool) (a : Attempt) (gathered n : ℕ) (attempt : Attempt) (m : ℕ)
    → (if v then next.Stalls else next.Asks (fetch a gathered) n) ≡ next.Asks attempt m
    → (v ≡ false) × (n ≡ m) × (attempt ≡ fetch a gathered)
fetch_asked true a gathered n attempt m e = absurd (cc)
fetch_asked false a gathered n attempt m e = (refl, cc, cc)

pub asked_is : (a : Attempt) (gathered : ℕ) (again fetched : Option ℕ) (attempt : Attempt)
    (n : ℕ) → next_by a gathered again fetched ≡ next.Asks attempt n
    → IsAsked a gathered again fetched attempt n
asked_is a gathered (Some m) fetched attempt n e = inl (cc, cc)
asked_is a gathered None None attempt n e = absurd (cc)
asked_is a gathered None (Some m) attempt n e =
    let asked = fetch_asked (a.fetches && gathered == a.before) a gathered m attempt n e in
    inr (refl, ap Some asked.1, asked.2, asked.0)

-- the next TPDU has the same before it
next_keeps : (a : Attempt) (gathered : ℕ) (again fetched : Option ℕ) (attempt : Attempt)
    (n : ℕ) → next.Asks attempt n ≡ next_by a gathered again fetched → attempt.sent ≡ a.sent
next_keeps a gathered again fetched attempt n is =
    elim (asked_is a gathered again fetched attempt n (sym is)) [
      | inl (repeated, same) ↦ ap (λ (x : Attempt). x.sent) same
      | inr (none, told, same, brings) ↦ ap (λ (x : Attempt). x.sent) same
    ]

pub following_keeps : (a : Attempt) (gathered : ℕ) (left : Wanted) (status : StatusWord)
    (attempt : Attempt) (n : ℕ) → next.Asks attempt n ≡ following a gathered left status
    → attempt.sent ≡ a.sent
following_keeps a gathered left status attempt n is =
    next_keeps a gathered (again_with a left (corrects status)) (fetched_after left status) attempt
    n is

stall_is_when : (v : Bool) (attempt : Attempt) (n : ℕ)
    → (if v then next.Stalls else next.Asks attempt n) ≡ next.Stalls → v ≡ true
stall_is_when true attempt n e = refl
stall_is_when false attempt n e = absurd (cc)

pub stall_is : (a : Attempt) (gathered : ℕ) (again fetched : Option ℕ)
    → next_by a gathered again fetched ≡ next.Stalls
    → (again ≡ None) × ((a.fetches && gathered == a.before) ≡ true) × (n : ℕ) × (fetched ≡ Some n)
stall_is a gathered (Some m) fetched e = absurd (cc)
stall_is a gathered None None e = absurd (cc)
stall_is a gathered None (Some m) e =
    (refl, stall_is_when (a.fetches && gathered == a.before) (fetch a gathered) m e, m, refl)

end_is_when : (v : Bool) (attempt : Attempt) (n : ℕ)
    → (if v then next.Stalls else next.Asks attempt n) ≡ next.Ends → ⊥
end_is_when true attempt n e = absurd (cc)
end_is_when false attempt n e = absurd (cc)

pub end_is : (a : Attempt) (gathered : ℕ) (again fetched : Option ℕ)
    → next_by a gathered again fetched ≡ next.Ends → (again ≡ None) × (fetched ≡ None)
end_is a gathered (Some m) fetched e = absurd (cc)
end_is a gathered None None e = (refl, refl)
end_is a gathered None (Some m) e =
    absurd (end_is_when (a.fetches && gathered == a.before) (fetch a gathered) m e)

-- ---- the exchange after it

-- two equal statuses in `Some`
pub same_status : (a b : StatusWord) → Some a ≡ Some b → a ≡ b
same_status a b e = cc

-- what the TPDUs of the exchange have sent by the end of this dialogue
pub sent_by_end : (c : Command) (ex : ExchangeOf) (units : List UnitOf) (first : Option Dialogue)
    (front : Front) (byte : ℕ) (d : Dialogue) (sent : DataSent) → UnderWay c ex units first front
    → Ends front (Card, byte) d → sent ≡ data_sent ex.host
    → Tells (both ex.attempt.sent sent) (sent_in_all (so_far units first ++ d ∷ []))
sent_by_end c ex units first front byte d sent under ends is =
    rw (is, sent_in-last (so_far units first) d) (tells_both ex.attempt.sent (data_sent ex.host) _ _
    under.place.sent_is (told_at_end ex.host front byte d under.stands ends))

again_same : (a : Attempt) (sent : DataSent) (left : Wanted) (corrected : Option ℕ)
    → again_with (with_sent a sent) left corrected ≡ again_with a left corrected
again_same a sent left None = refl
again_same a sent left (Some n) = refl

-- more is fetched
some_brought : (opening : Opening) (u : UnitOf) (a : Attempt) (gathered before : ℕ)
    → a.fetches ≡ is_fetch opening → a.before ≡ before → gathered ≡ before + length (unit_data u)
    → (a.fetches && gathered == a.before) ≡ false → BringsSome opening u
some_brought (By_command c) u a gathered before fetches begun number not_stalled = tt
some_brought (By_fetch n) u a gathered before fetches begun number not_stalled = λ none.
    let same : gathered ≡ a.before = omega (arith, number, begun, ap length none) in
    let both : (a.fetches && gathered == a.before) ≡ true =
    rw (fetches, eq-eqb gathered a.before same) refl in
    absurd (cc)

-- a fetch alone stalls
no_command_stalls : (opening : Opening) (a : Attempt) (v : Bool) → a.fetches ≡ is_fetch opening
    → (a.fetches && v) ≡ true → (n : ℕ) × (opening ≡ By_fetch n)
no_command_stalls (By_command c) a v fetches both = let first = (and_parts a.fetches v both).0 in
    let no : false ≡ true = sym fetches ∙ first in absurd (cc)
no_command_stalls (By_fetch n) a v fetches both = (n, refl)

none_when_short : (bytes : List ℕ) → length bytes ≡ 0 → bytes ≡ []
none_when_short [] e = refl
none_when_short (b ∷ bytes) e = absurd (omega (arith, e))

module _ {c : Command} {ex : ExchangeOf} {units : List UnitOf} {first : Option Dialogue}
    {front : Front} {d : Dialogue} {under : UnderWay c ex units first front}
    (end : AtEnd c ex units first front d under) where
  abbrev u : UnitOf
  u = ended_with first d

  -- the count of a repetition, and of a fetch
  abbrev again_after : Option ℕ
  again_after = again_of first (repeated_with under.left d)

  abbrev fetched_after_it : Option ℕ
  fetched_after_it = fetched_after (after_unit under.left u) (last_of u).status

  fetches : (host : Hosting) (n : ℕ) (sent : DataSent)
      → Tells sent (sent_in_all (so_far units first ++ d ∷ [])) → again_after ≡ None
      → fetched_after_it ≡ Some n
      → (ex.attempt.fetches && length ex.gather.bytes == ex.attempt.before) ≡ false
      → HostAsks get_response n host → HostStandsAt host fresh → IsRequest host
      → UnderWay c
      (next_exchange ex host (fetch (with_sent ex.attempt sent) (length ex.gather.bytes)))
      (units ++ u ∷ []) None fresh
  fetches host n sent told none fetched not_stalled asks stands request =
      let more = unit_ends units first d in
      record {
        opening = By_fetch n;
        left = after_unit under.left u;
        followed = one_more (By_command c) (wanted_by c.le) units under.opening under.left u n
            under.followed (record {
              opens = end.opens;
              is_unit = unit_is under.opening under.left first ex.host d under.opened_as end.by
                  none;
              brings = some_brought under.opening u ex.attempt (length ex.gather.bytes)
                  (length (flat_map unit_data units)) under.place.fetches_is under.place.before_is
                  end.number not_stalled;
              fetched = fetched;
            });
        are_dialogues = rw more end.are_dialogues;
        opened_as = asks;
        place = record {
          header_is = sym asks.header_is;
          asks_is = ap asks_card (sym asks.from_card);
          fetches_is = refl;
          repeats_is = refl;
          before_is = end.number ∙ sym (length-append (flat_map unit_data units) (unit_data u))
              ∙ ap length (sym (flat_map_last unit_data units u));
          number_is = ap (λ k. k + 1)
              (under.place.number_is ∙ sym (length-append (so_far units first) (d ∷ []))
              ∙ ap length (sym more));
          sent_is = rw more told;
        };
        stands = stands;
        request = request;
        is_front = lit< tt;
        gathered = end.gathered ∙ ap (flat_map received) (sym more)
            ∙ sym (append-nil (flat_map received (so_far (units ++ u ∷ []) None)));
        wanted_is = under.wanted_is;
        going = under.going;
      }

  -- the units are those of an open exchange
  abbrev is_open : again_after ≡ None → IsOpenExchange c (units ++ u ∷ [])
  is_open none = record {
    before = units;
    last = u;
    opening = under.opening;
    left = under.left;
    units_are = refl;
    followed = under.followed;
    opens = end.opens;
    is_unit = unit_is under.opening under.left first ex.host d under.opened_as end.by none;
  }

  -- ---- in the terms of the code

  pub follows_as : (bytes : List ℕ) (gather : Room) (left : Wanted) (status : StatusWord)
      (after : Next) (sent : DataSent)
      → after ≡ following (with_sent ex.attempt sent) (length bytes) left status
      → bytes ≡ gather.bytes → gather ≡ ex.gather → left ≡ less ex.wanted (length bytes)
      → Some status ≡ Some d.status
      → after ≡ next_by (with_sent ex.attempt sent) (length ex.gather.bytes) again_after
      fetched_after_it
  follows_as bytes gather left status after sent is bytes_are room left_is status_is =
      let a = with_sent ex.attempt sent in
      let n = length ex.gather.bytes in
      let w = less ex.wanted n in
      let number : length bytes ≡ n = ap length bytes_are ∙ ap (λ (r : Room). length r.bytes) room
      in
      is ∙ ap (λ k. following a k left status) number
      ∙ ap (λ v. following a n v status) (left_is ∙ ap (less ex.wanted) number)
      ∙ ap (following a n w) (same_status status d.status status_is)
      ∙ ap (λ r. next_by a n r (fetched_after w d.status))
      (again_same ex.attempt sent w (corrects d.status) ∙ end.again)
      ∙ ap (next_by a n again_after) end.fetched

  pub asks_next : (host : Hosting) (gather : Room) (attempt : Attempt) (n : ℕ) (sent : DataSent)
      → Tells sent (sent_in_all (so_far units first ++ d ∷ []))
      → gather ≡ ex.gather → next.Asks attempt n
      ≡ next_by (with_sent ex.attempt sent) (length ex.gather.bytes) again_after fetched_after_it
      → HostAsks attempt.header n host → HostStandsAt host fresh → IsRequest host
      → Continues c (taken_on ex host gather attempt) units first d
  asks_next host gather attempt n sent told room is asks stands request =
      elim (asked_is (with_sent ex.attempt sent) (length ex.gather.bytes) _ _ attempt n (sym is)) [
        | inl (again, same) ↦
            let next = repeats first host n sent end told again (rw same at asks) stands request in
            inl (next.0, rw (room, same) next.1)
        | inr (none, fetched, same, not_stalled) ↦
            inr (inl (rw (room, same) (fetches host n sent told none fetched not_stalled
            (rw same at asks) stands request)))
      ]

  pub ends_over : (host : Hosting) (gather : Room) (sent : DataSent)
      → Tells (both ex.attempt.sent (data_sent host))
      (sent_in_all (so_far units first ++ d ∷ []))
      → gather ≡ ex.gather
      → next.Ends ≡ next_by (with_sent ex.attempt sent) (length ex.gather.bytes) again_after
      fetched_after_it
      → turn_of host ≡ Done d.status
      → Continues c (taken_on ex host gather ex.attempt) units first d
  ends_over host gather sent told room is done =
      let over = end_is (with_sent ex.attempt sent) (length ex.gather.bytes) _ _ (sym is) in
      inr (inr (record {
        gathers = record {
          is_open = is_open over.0;
          ends = over.1;
          status_is = ap (λ (e : Dialogue). e.status) (sym (last_is first d));
          gathered_is = ap (λ (r : Room). r.bytes) room ∙ end.gathered
              ∙ ap (flat_map received) (sym (unit_dialogues units first d))
              ∙ sym (unit_data_received (units ++ u ∷ []));
        };
        are_dialogues = rw (unit_dialogues units first d) end.are_dialogues;
        done = done;
        sent_is = rw (unit_dialogues units first d) told;
        going = under.going;
      }))

  pub ends_stalled : (sent : DataSent)
      → next.Stalls ≡ next_by (with_sent ex.attempt sent) (length ex.gather.bytes) again_after
      fetched_after_it
      → Stall c (units ++ u ∷ [])
  ends_stalled sent is =
      let (none, stalled, n, fetched) = stall_is (with_sent ex.attempt sent)
      (length ex.gather.bytes) _ _ (sym is) in
      let (asked, is_fetch) = no_command_stalls under.opening ex.attempt
      (length ex.gather.bytes == ex.attempt.before) under.place.fetches_is stalled in
      let same = eqb-true (length ex.gather.bytes) ex.attempt.before
      (and_parts ex.attempt.fetches (length ex.gather.bytes == ex.attempt.before) stalled).1 in
      record {
        is_open = is_open none;
        asked = asked;
        more = n;
        is_fetch = is_fetch;
        brought_none = none_when_short (unit_data u)
            (omega (arith, end.number, same, under.place.before_is));
        announces = fetched;
      }
