-- If the characters that led to an exchange continue to those of a whole one, both have one
-- division into units, and the next character is settled.
use Rattle.std.proofs.Common.{◌≡◌, ◌≤◌, ◌<◌, ℕ, zero, suc, ◌+◌, List, [], ◌∷◌, ◌++◌, length, take, refl, sym, ◌∙◌, ap, arith, lit<, inl, inr, ◌⊎◌, true, false, Bool, Option, Some, None, if◌then◌else◌, append-nil, append_assoc, length-append}
use Rattle.std.specs.List.{AllByRecursion, flat_map}
use Rattle.std.proofs.lemmas.Grind.{flat_map-append}
use Rattle.std.proofs.lemmas.List.{take-append-le, take_all, append_cancel_left}
use Rattle.apdu_core.specs.declared.header.Header.{Header}
use Rattle.apdu_core.specs.StatusWord.{StatusWord, count}
use Rattle.apdu_core.specs.CommandBytes.{Command}
use Rattle.t0_core.specs.declared.end.End.{End}
use Rattle.t0_core.specs.declared.end.End.TheVariants.{Terminal, Card}
use Rattle.t0_core.specs.declared.direction.Direction.{Direction}
use Rattle.t0_core.specs.declared.direction.Direction.TheVariants.{ToCard, FromCard}
use Rattle.t0_core.specs.declared.host_end.HostTurn.{HostTurn}
use Rattle.t0_core.specs.declared.host_end.HostTurn.TheVariants.{Sends, Listens, Done, Failed}
use Rattle.t0_core.specs.declared.line_fault.LineFault.{LineFault}
use Rattle.t0_core.specs.declared.line_fault.LineFault.TheVariants.{AfterEnd}
use Rattle.t0_core.specs.Character.{Character}
use Rattle.t0_core.specs.Dialogue.{Dialogue, IsDialogue, characters}
use Rattle.t0_core.specs.Meaning.{received}
use Rattle.t0_core.specs.Front.{Front, front_characters, brought}
use Rattle.t0_core.specs.HostSide.{Hosting, HasRoom, IsOpenedBy, fault_of, turn_of}
use Rattle.t0_core.specs.HostLaws.{after_done}
use Rattle.t0_core.specs.CuttingLaws.{same_dialogue, next_of, at_next, Suits}
use Rattle.exchange_core.specs.declared.wanted.Wanted.{Wanted}
use Rattle.apdu_core.specs.Shared.{get_response}
use Rattle.exchange_core.specs.Gathered.{Asks, SendsFrom, Opens, BeginsWith, wanted_by, repeated_with, after_unit, fetched_after, Opening, By_command, By_fetch, OpensWith, UnitOf, Single, Repeated, first_of, last_of, dialogues_of, unit_data, IsUnit, BringsSome, AreFollowed, IsOpenExchange, Gathers}
use Rattle.exchange_core.specs.ExchangeSide.{ExchangeOf, HostAsks, HostSends, HostOpens, HostOpensBy, IsOpenedAs, UnderWay, begun_with, exchange_turn}
use Rattle.exchange_core.specs.ExchangeHistory.{unit_characters, characters_to, Expects, BeginsExchange, ComesTo, to_front, to_end, to_stall, to_fault}
use Rattle.std.proofs.lemmas.Bool.{ne_eqb}
use Rattle.exchange_core.specs.UnitLaws.{none_or_some, gathered_parts}
use Rattle.exchange_core.specs.ComesToLaws.{final_is_no_end, some_fault}
use Rattle.exchange_core.specs.PrefixLaws.{led_begins}

count_of_some : (n : ℕ) → 1 ≤ n → count n ≡ n
count_of_some n some = rw (ne_eqb n 0 (λ e. omega (arith, e, some))) refl

-- ---- an opening determines the header and the direction of the data

abbrev header_of : Opening → Header
header_of (By_command c) = c.header
header_of (By_fetch n) = get_response

abbrev direction_by : List ℕ → Option ℕ → Direction
direction_by [] None = ToCard
direction_by [] (Some n) = FromCard
direction_by (b ∷ bs) le = ToCard

abbrev direction_of : Opening → Direction
direction_of (By_command c) = direction_by c.content c.le
direction_of (By_fetch n) = FromCard

abbrev IsSmall : Opening → Type 0
IsSmall opening = (header_of opening).ins < 256

determined : (opening : Opening) (d : Dialogue) → OpensWith opening d
    → (d.body.header ≡ header_of opening) × (d.body.direction ≡ direction_of opening)
determined (By_command c) d opens = by c.content c.le opens
  where
    by : (content : List ℕ) (le : Option ℕ)
        → Opens (record { header = c.header; content = content; le = le }) d
        → (d.body.header ≡ c.header) × (d.body.direction ≡ direction_by content le)
    by [] None opens = (opens.header_is, opens.to_card)
    by [] (Some n) opens = (opens.header_is, opens.from_card)
    by (b ∷ bs) le opens = (opens.header_is, opens.to_card)
determined (By_fetch n) d opens = (opens.header_is, opens.from_card)

count_tells : (a b : ℕ) → a < 256 → b < 256 → count a ≡ count b → a ≡ b
count_tells zero zero la lb e = refl
count_tells zero (suc b) la lb e =
    let same : 256 ≡ suc b = e ∙ count_of_some (suc b) (omega arith) in absurd (omega
    (arith, same, lb))
count_tells (suc a) zero la lb e =
    let same : suc a ≡ 256 = sym (count_of_some (suc a) (omega arith)) ∙ e in absurd (omega
    (arith, same, la))
count_tells (suc a) (suc b) la lb e =
    sym (count_of_some (suc a) (omega arith)) ∙ e ∙ count_of_some (suc b) (omega arith)

-- ---- characters have one division into units

same_opened : (opening : Opening) (d e : Dialogue) (r s : List Character) → IsSmall opening
    → OpensWith opening d → OpensWith opening e → IsDialogue d → IsDialogue e
    → characters d ++ r ≡ characters e ++ s → (d ≡ e) × (r ≡ s)
same_opened opening d e r s small od oe is also equal =
    let one = determined opening d od in
    same_dialogue d e r s (rw one.0 small) is also (one.1 ∙ sym (determined opening e oe).1) equal

-- the characters of a unit, and others after them
abbrev unit_on : UnitOf → List Character → List Character
unit_on (Single d) r = characters d ++ r
unit_on (Repeated d e) r = characters d ++ (characters e ++ r)

units_on : (u : UnitOf) (us : List UnitOf) (r : List Character)
    → unit_characters (u ∷ us) ++ r ≡ unit_on u (unit_characters us ++ r)
units_on (Single d) us r = append_assoc (characters d) (unit_characters us) r
units_on (Repeated d e) us r =
    append_assoc (characters d) (characters e ++ unit_characters us) r
    ∙ ap (λ z. characters d ++ z) (append_assoc (characters e) (unit_characters us) r)

abbrev pub AreAll : List Dialogue → Type 0
AreAll ds = AllByRecursion IsDialogue ds

pub split_all : (ds es : List Dialogue) → AreAll (ds ++ es) → AreAll ds × AreAll es
split_all [] es are = (tt, are)
split_all (d ∷ ds) es are = let rest = split_all ds es are.1 in ((are.0, rest.0), rest.1)

same_unit : (opening : Opening) (w : Wanted) (u v : UnitOf) (r s : List Character)
    → IsSmall opening → OpensWith opening (first_of u) → OpensWith opening (first_of v)
    → IsUnit w u → IsUnit w v → AreAll (dialogues_of u) → AreAll (dialogues_of v)
    → unit_on u r ≡ unit_on v s → (u ≡ v) × (r ≡ s)
same_unit opening w (Single d) (Single e) r s small od oe is also are others equal =
    let both = same_opened opening d e r s small od oe are.0 others.0 equal in
    (ap Single both.0, both.1)
same_unit opening w (Single d) (Repeated e f) r s small od oe is also are others equal =
    let both = same_opened opening d e r (characters f ++ s) small od oe are.0 others.0 equal in
    absurd (none_or_some (repeated_with w e) also.0
    (ap (repeated_with w) (sym both.0) ∙ is) also.1)
same_unit opening w (Repeated d f) (Single e) r s small od oe is also are others equal =
    let both = same_opened opening d e (characters f ++ r) s small od oe are.0 others.0 equal in
    absurd (none_or_some (repeated_with w e) is.0 also
    (ap (repeated_with w) (sym both.0) ∙ is.1))
same_unit opening w (Repeated d f) (Repeated e g) r s small od oe (n, told, asks)
    (m, again, also) are others equal =
    let both = same_opened opening d e (characters f ++ r) (characters g ++ s) small od oe are.0
    others.0 equal in
    let second = same_dialogue f g r s (rw (asks.header_is, (determined opening d od).0) small)
    are.1.0 others.1.0 (asks.from_card ∙ sym also.from_card) both.1 in
    (ap (λ x. Repeated x f) both.0 ∙ ap (Repeated e) second.0, second.1)

-- the units of a whole exchange, from `opening` with `w` still wanted, and its status
abbrev WholeFrom : StatusWord → Opening → Wanted → List UnitOf → Type 0
WholeFrom s opening w [] = ⊥
WholeFrom s opening w (u ∷ us) =
    OpensWith opening (first_of u) × IsUnit w u × AreAll (dialogues_of u)
    × (((us ≡ []) × (fetched_after (after_unit w u) (last_of u).status ≡ None)
    × (s ≡ (last_of u).status))
    ⊎ ((n : ℕ) × BringsSome opening u × (fetched_after (after_unit w u) (last_of u).status ≡ Some n)
    × WholeFrom s (By_fetch n) (after_unit w u) us))

whole_from : (s : StatusWord) (opening : Opening) (w : Wanted) (before : List UnitOf)
    (last : UnitOf)
    (next : Opening) (left : Wanted) → AreFollowed opening w before next left
    → OpensWith next (first_of last) → IsUnit left last
    → fetched_after (after_unit left last) (last_of last).status ≡ None
    → s ≡ (last_of last).status → AreAll (flat_map dialogues_of (before ++ last ∷ []))
    → WholeFrom s opening w (before ++ last ∷ [])
whole_from s opening w [] last next left followed opens is none status are =
    rw (sym followed.0, sym followed.1)
    (opens, is, (split_all (dialogues_of last) [] are).0, inl (refl, none, status))
whole_from s opening w (u ∷ before) last next left (n, here, followed) opens is none status are =
    let parts = split_all (dialogues_of u) (flat_map dialogues_of (before ++ last ∷ [])) are in
    let rest = whole_from s (By_fetch n) (after_unit w u) before last next left followed opens is
    none status parts.1 in
    (here.opens, here.is_unit, parts.0, inr (n, here.brings, here.fetched, rest))

-- units that have ended are the first of the whole list, and the others and `x` follow them
record IsRest (s : StatusWord) (x : List Character) (next : Opening) (left : Wanted)
    (gone units : List UnitOf) (tail : List Character) : Type 0 where
  small : IsSmall next
  rest : List UnitOf
  units_are : units ≡ gone ++ rest
  whole : WholeFrom s next left rest
  characters_are : unit_characters rest ++ x ≡ tail

rest_of : (s : StatusWord) (x : List Character) (opening : Opening) (w : Wanted)
    (gone : List UnitOf) (next : Opening) (left : Wanted) (units : List UnitOf)
    (tail : List Character) → IsSmall opening → AreFollowed opening w gone next left
    → AreAll (flat_map dialogues_of gone) → WholeFrom s opening w units
    → unit_characters units ++ x ≡ unit_characters gone ++ tail
    → IsRest s x next left gone units tail
rest_of s x opening w [] next left units tail small followed are whole e =
    rw (followed.0, followed.1) (record {
      small = small;
      rest = units;
      units_are = refl;
      whole = whole;
      characters_are = e;
    })
rest_of s x opening w (u ∷ gone) next left [] tail small followed are whole e = absurd whole
rest_of s x opening w (u ∷ gone) next left (v ∷ us) tail small (n, here, followed) are
    (opens, is_unit, are_here, after) e =
    let parts = split_all (dialogues_of u) (flat_map dialogues_of gone) are in
    let both = same_unit opening w v u (unit_characters us ++ x) (unit_characters gone ++ tail)
    small opens here.opens is_unit here.is_unit are_here parts.0
    (sym (units_on v us x) ∙ e ∙ units_on u gone tail) in
    let goes = rw both.0 at after in
    elim goes [
      | inl (none, done, told) ↦ absurd (none_or_some _ n done here.fetched)
      | inr (m, brings, fetched, more) ↦
          let same : m ≡ n = cc (fetched, here.fetched) in
          let later = rest_of s x (By_fetch n) (after_unit w u) gone next left us tail (lit< tt)
          followed parts.1 (rw same at more) both.1 in
          record {
            small = later.small;
            rest = later.rest;
            units_are = ap (λ y. y ∷ us) both.0 ∙ ap (λ ys. u ∷ ys) later.units_are;
            whole = later.whole;
            characters_are = later.characters_are;
          }
    ]

-- ---- the current dialogue

-- the dialogue of the whole exchange that this end has opened
record IsDue (host : Hosting) (first : Option Dialogue) (u : UnitOf) (tail : List Character)
    : Type 0 where
  due : Dialogue
  after : List Character
  is : IsDialogue due
  opened : IsOpenedBy host due.body
  characters_are : characters due ++ after ≡ tail
  brings : length (flat_map received (begun_with first)) + length (received due)
      ≤ length (unit_data u)

own_of : (content moved : List ℕ) → BeginsWith content moved → moved ≡ take (length moved) content
own_of content moved (rest, is) =
    sym (take_all (length moved) moved (omega arith))
    ∙ sym (take-append-le (length moved) moved rest (omega arith))
    ∙ ap (take (length moved)) (sym is)

opened_asking : (h : Header) (n : ℕ) (host : Hosting) (d : Dialogue) → HostAsks h n host
    → Asks h n d → IsOpenedBy host d.body
opened_asking h n host d asks is = (
  is.header_is ∙ sym asks.header_is,
  count_tells d.body.p3 host.p3 is.is_byte asks.is_byte (is.counts ∙ sym asks.counts),
  is.from_card ∙ sym asks.from_card,
  rw asks.from_card tt,
)

opened_sending : (h : Header) (content : List ℕ) (host : Hosting) (d : Dialogue)
    → HostSends h content host → SendsFrom h content d → IsOpenedBy host d.body
opened_sending h content host d sends is = (
  is.header_is ∙ sym sends.header_is,
  is.counts ∙ sym sends.counts,
  is.to_card ∙ sym sends.to_card,
  rw (sends.to_card, sends.has) (own_of content d.body.moved is.sends),
)

opened_as : (opening : Opening) (host : Hosting) (d : Dialogue) → HostOpens opening host
    → OpensWith opening d → IsOpenedBy host d.body
opened_as (By_command c) host d opens is = by c.content c.le opens is
  where
    by : (content : List ℕ) (le : Option ℕ) → HostOpensBy c.header content le host
        → Opens (record { header = c.header; content = content; le = le }) d
        → IsOpenedBy host d.body
    by [] None opens is = opened_sending c.header [] host d opens is
    by [] (Some n) opens is = opened_asking c.header n host d opens is
    by (b ∷ bs) le opens is = opened_sending c.header (b ∷ bs) host d opens is
opened_as (By_fetch n) host d opens is = opened_asking get_response n host d opens is

due_of : (opening : Opening) (w : Wanted) (host : Hosting) (first : Option Dialogue) (u : UnitOf)
    (more tail : List Character) → IsSmall opening → IsOpenedAs opening w first host
    → AreAll (begun_with first) → OpensWith opening (first_of u) → IsUnit w u
    → AreAll (dialogues_of u) → unit_on u more ≡ flat_map characters (begun_with first) ++ tail
    → IsDue host first u tail
due_of opening w host None (Single d) more tail small opened begun opens is are e = record {
  due = d;
  after = more;
  is = are.0;
  opened = opened_as opening host d opened opens;
  characters_are = e;
  brings = omega (arith, length-append (received d) []);
}
due_of opening w host None (Repeated d f) more tail small opened begun opens is are e = record {
  due = d;
  after = characters f ++ more;
  is = are.0;
  opened = opened_as opening host d opened opens;
  characters_are = e;
  brings = omega (arith, length-append (received d) (received f ++ []));
}
due_of opening w host (Some d) (Single e) more tail small (od, n, told, asks) begun oe is are
    equal =
    let both = same_opened opening e d more tail small oe od are.0 begun.0
    (equal ∙ ap (λ z. z ++ tail) (append-nil (characters d))) in
    absurd (none_or_some (repeated_with w d) n (ap (repeated_with w) (sym both.0) ∙ is) told)
due_of opening w host (Some d) (Repeated e f) more tail small (od, n, told, asks) begun oe
    (m, again, also) are equal =
    let both = same_opened opening e d (characters f ++ more) tail small oe od are.0 begun.0
    (equal ∙ ap (λ z. z ++ tail) (append-nil (characters d))) in
    let same : Some m ≡ Some n = sym again ∙ ap (repeated_with w) both.0 ∙ told in
    let counts : m ≡ n = cc in
    record {
      due = f;
      after = more;
      is = are.1.0;
      opened = opened_asking d.body.header n host f asks (rw (both.0, counts) at also);
      characters_are = both.1;
      brings = omega (
        arith,
        length-append (received e) (received f ++ []),
        length-append (received f) [],
        length-append (received d) [],
        ap (λ x. length (received x)) both.0,
      );
    }

-- ---- if a dialogue is in progress

-- the next character of a whole exchange that brings `n` bytes, and what the end does with it
record IsNext (ex : ExchangeOf) (front : Front) (rest : List Character) (n : ℕ) : Type 0 where
  due : Dialogue
  next : Character
  after : List Character
  rest_is : rest ≡ next ∷ after
  suits : Suits ex.host front due next after
  room : n ≤ ex.gather.limit → HasRoom ex.gather front due

-- what the end does is what the exchange does
exchange_does : (ex : ExchangeOf) (turn : HostTurn) → ex.stalled ≡ false → turn_of ex.host ≡ turn
    → exchange_turn ex ≡ turn
exchange_does ex turn going is = ap (λ b. if b then Failed else turn_of ex.host) going ∙ is

expects : (ex : ExchangeOf) (front : Front) (d : Dialogue) (from : End) (byte : ℕ)
    (after : List Character) → ex.stalled ≡ false → HasRoom ex.gather front d
    → Suits ex.host front d (from, byte) after → Expects ex (from, byte)
expects ex front d Terminal byte after going room (inl sends) =
    exchange_does ex (Sends byte) going sends.1
expects ex front d Terminal byte after going room (inr takes) =
    let e : Terminal ≡ Card = takes.0 in absurd (cc)
expects ex front d Card byte after going room (inl sends) =
    let e : Card ≡ Terminal = sends.0 in absurd (cc)
expects ex front d Card byte after going room (inr takes) =
    (exchange_does ex Listens going takes.1, takes.2 ex.gather (inl room))

-- the expected character is no fault
no_fault : (ex : ExchangeOf) (front : Front) (d : Dialogue) (byte : ℕ) (after : List Character)
    (fault : LineFault) → HasRoom ex.gather front d ⊎ (after ≡ [])
    → Suits ex.host front d (Card, byte) after
    → fault_of ex.host ex.gather byte ≡ Some fault → ⊥
no_fault ex front d byte after fault room (inl sends) why =
    let e : Card ≡ Terminal = sends.0 in absurd (cc)
no_fault ex front d byte after fault room (inr takes) why =
    let e : None ≡ Some fault = sym (takes.2 ex.gather room) ∙ why in absurd (cc)

-- ---- what an exchange does on the way to the end of a whole one

-- it has ended with the status and data of the whole one; or the next character is expected, if
-- there is room
pub data Comes (Room : Type 0) (ex : ExchangeOf) (rest : List Character) (gathered : List ℕ)
    (status : StatusWord) : Type 0 where
  ends : rest ≡ [] → exchange_turn ex ≡ Done status → ex.gather.bytes ≡ gathered
      → Comes Room ex rest gathered status
  continues : (ch : Character) (after : List Character) → rest ≡ ch ∷ after
      → (Room → Expects ex ch) → Comes Room ex rest gathered status

pub if_room : {A B : Type 0} {ex : ExchangeOf} {rest : List Character} {gathered : List ℕ}
    {status : StatusWord} → Comes B ex rest gathered status → (A → B)
    → Comes A ex rest gathered status
if_room (ends none done all) so = ends none done all
if_room (continues ch after is due) so = continues ch after is (λ room. due (so room))

pub at_end : {Room : Type 0} {ex : ExchangeOf} {gathered : List ℕ} {status : StatusWord}
    → Comes Room ex [] gathered status
    → (exchange_turn ex ≡ Done status) × (ex.gather.bytes ≡ gathered)
at_end (ends none done all) = (done, all)
at_end (continues ch after is due) = absurd (cc)

pub at_character : {Room : Type 0} {ex : ExchangeOf} {ch : Character} {rest : List Character}
    {gathered : List ℕ} {status : StatusWord} → Comes Room ex (ch ∷ rest) gathered status → Room
    → Expects ex ch
at_character (ends none done all) room = absurd (cc)
at_character {ch = ch} (continues other after is due) room =
    let same : other ≡ ch = cc in rw same at (due room)

pub not_failed : {Room : Type 0} {ex : ExchangeOf} {rest : List Character} {gathered : List ℕ}
    {status : StatusWord} → Comes Room ex rest gathered status → Room
    → exchange_turn ex ≡ Failed → ⊥
not_failed (ends none done all) room failed = absurd (cc)
not_failed (continues (Terminal, byte) after is due) room failed =
    let sends = due room in absurd (cc)
not_failed (continues (Card, byte) after is due) room failed =
    let takes = due room in absurd (cc)

-- the last of the units that have ended, among those of the whole exchange
record IsAtLast (s : StatusWord) (x : List Character) (opening : Opening) (left : Wanted)
    (last : UnitOf) (gone units : List UnitOf) (tail : List Character) : Type 0 where
  more : List UnitOf
  units_are : units ≡ gone ++ more
  characters_are : unit_characters more ++ x ≡ tail
  goes : ((more ≡ []) × (fetched_after (after_unit left last) (last_of last).status ≡ None)
      × (s ≡ (last_of last).status))
      ⊎ ((n : ℕ) × BringsSome opening last
      × (fetched_after (after_unit left last) (last_of last).status ≡ Some n))

units_append : (gone : List UnitOf) (u : UnitOf) (tail : List Character)
    → unit_characters (gone ++ u ∷ []) ++ tail ≡ unit_characters gone ++ unit_on u tail
units_append [] u tail = units_on u [] tail
units_append (v ∷ gone) u tail =
    units_on v (gone ++ u ∷ []) tail ∙ ap (unit_on v) (units_append gone u tail)
    ∙ sym (units_on v gone (unit_on u tail))

pub none_before : (a b : List Character) → a ++ b ≡ [] → a ≡ []
none_before [] b is = refl
none_before (x ∷ a) b is = absurd (cc)

none_after : (a b : List Character) → a ++ b ≡ [] → b ≡ []
none_after [] b e = e
none_after (x ∷ a) b e = absurd (cc)

-- one list before another in two ways
before_both : {A : Type 0} (a b x y : List A) → a ++ x ≡ b ++ y
    → ((t : List A) × (a ≡ b ++ t)) ⊎ ((t : List A) × (b ≡ a ++ t))
before_both [] b x y e = inr (b, refl)
before_both (c ∷ a) [] x y e = inl (c ∷ a, refl)
before_both (c ∷ a) (d ∷ b) x y e =
    let head : c ≡ d = cc in
    let tail : a ++ x ≡ b ++ y = cc in
    elim (before_both a b x y tail) [
      | inl (t, is) ↦ inl (t, ap (λ z. z ∷ a) head ∙ ap (λ z. d ∷ z) is)
      | inr (t, is) ↦ inr (t, ap (λ z. z ∷ b) (sym head) ∙ ap (λ z. c ∷ z) is)
    ]

-- the last of a list that is longer than another
last_within : (before : List Character) (ch : Character) (whole rest : List Character)
    → before ++ ch ∷ [] ≡ whole ++ rest
    → (rest ≡ []) ⊎ ((more : List Character) × (before ≡ whole ++ more))
last_within before ch whole rest e = elim (before_both before whole (ch ∷ []) rest e) [
  | inl longer ↦ inr longer
  | inr (t, is) ↦
      by t is (append_cancel_left before (ch ∷ []) (t ++ rest)
      (e ∙ ap (λ z. z ++ rest) is ∙ append_assoc before t rest))
]
  where
    by : (t : List Character) → whole ≡ before ++ t → ch ∷ [] ≡ t ++ rest
        → (rest ≡ []) ⊎ ((more : List Character) × (before ≡ whole ++ more))
    by [] is same = inr ([], sym (append-nil before) ∙ sym is ∙ sym (append-nil whole))
    by (x ∷ t) is same =
        let tail : [] ≡ t ++ rest = cc in inl (none_after t rest (sym tail))

-- a character after an exchange has ended is `AfterEnd`
over_fault : (ex : ExchangeOf) (status : StatusWord) (byte : ℕ) → exchange_turn ex ≡ Done status
    → fault_of ex.host ex.gather byte ≡ Some AfterEnd
over_fault ex status byte done = by ex.stalled refl
  where
    by : (v : Bool) → ex.stalled ≡ v → fault_of ex.host ex.gather byte ≡ Some AfterEnd
    by true stalled = let e : Failed ≡ Done status =
        ap (λ b. if b then Failed else turn_of ex.host) (sym stalled) ∙ done in absurd (cc)
    by false going = after_done ex.host ex.gather byte status
        (ap (λ b. if b then Failed else turn_of ex.host) (sym going) ∙ done)

-- a whole exchange of a command whose INS is a byte
pub record IsWhole (c : Command) (units : List UnitOf) (gathered : List ℕ) (status : StatusWord)
    : Type 0 where
  pub small : c.header.ins < 256
  pub gathers : Gathers c units gathered status
  pub are : AreAll (flat_map dialogues_of units)

pub is_whole : {c : Command} {units : List UnitOf} {gathered : List ℕ} {status : StatusWord}
    → c.header.ins < 256 → Gathers c units gathered status → AreAll (flat_map dialogues_of units)
    → IsWhole c units gathered status
is_whole small gathers are = record { small = small; gathers = gathers; are = are }

module _ {c : Command} {units : List UnitOf} {gathered : List ℕ} {status : StatusWord}
    (whole : IsWhole c units gathered status) where
  from_first : WholeFrom status (By_command c) (wanted_by c.le) units
  from_first =
      let o = whole.gathers.is_open in
      rw o.units_are (whole_from status (By_command c) (wanted_by c.le) o.before o.last o.opening
      o.left o.followed o.opens o.is_unit whole.gathers.ends whole.gathers.status_is
      (rw o.units_are at whole.are))

  next_under : (ex : ExchangeOf) (gone : List UnitOf) (first : Option Dialogue) (front : Front)
      (rest : List Character) → UnderWay c ex gone first front
      → unit_characters units ≡ characters_to gone first front ++ rest
      → IsNext ex front rest (length gathered)
  next_under ex gone first front rest under e =
      on later.rest later.whole later.characters_are later.units_are
    where
      tail : List Character
      tail = front_characters front ++ rest

      begun : List Character
      begun = flat_map characters (begun_with first)

      parts : AreAll (flat_map dialogues_of gone) × AreAll (begun_with first)
      parts = split_all (flat_map dialogues_of gone) (begun_with first) under.are_dialogues

      later : IsRest status [] under.opening under.left gone units (begun ++ tail)
      later = rest_of status [] (By_command c) (wanted_by c.le) gone under.opening under.left
          units (begun ++ tail) whole.small under.followed parts.0 from_first
          (append-nil (unit_characters units) ∙ e
          ∙ ap (λ z. (z ++ front_characters front) ++ rest)
          (flat_map-append characters (flat_map dialogues_of gone) (begun_with first))
          ∙ append_assoc (unit_characters gone ++ begun) (front_characters front) rest
          ∙ append_assoc (unit_characters gone) begun tail)

      on : (us : List UnitOf) → WholeFrom status under.opening under.left us
          → unit_characters us ++ [] ≡ begun ++ tail → units ≡ gone ++ us
          → IsNext ex front rest (length gathered)
      on [] from is units_are = absurd from
      on (u ∷ us) (opens, is_unit, are, after) is units_are =
          let due = due_of under.opening under.left ex.host first u (unit_characters us ++ []) tail
          later.small under.opened_as parts.1 opens is_unit are (sym (units_on u us []) ∙ is) in
          let next = next_of ex.host front due.due due.after rest under.request under.stands
          under.is_front due.is due.opened due.characters_are in
          record {
            due = due.due;
            next = next.0;
            after = next.1;
            rest_is = next.2;
            suits = next.3;
            room = λ fits still all. omega (
              arith,
              fits,
              all,
              due.brings,
              ap length (under.gathered ∙ gathered_parts gone first (brought front)),
              length-append (flat_map unit_data gone)
                  (flat_map received (begun_with first) ++ brought front),
              length-append (flat_map received (begun_with first)) (brought front),
              ap length whole.gathers.gathered_is,
              ap (λ vs. length (flat_map unit_data vs)) units_are,
              ap length (flat_map-append unit_data gone (u ∷ us)),
              length-append (flat_map unit_data gone) (unit_data u ++ flat_map unit_data us),
              length-append (unit_data u) (flat_map unit_data us),
            );
          }

  at_last : (gone : List UnitOf) (o : IsOpenExchange c gone) (x tail : List Character)
      → AreAll (flat_map dialogues_of gone)
      → unit_characters units ++ x ≡ unit_characters gone ++ tail
      → IsAtLast status x o.opening o.left o.last gone units tail
  at_last gone o x tail are e = on later.rest later.whole later.characters_are later.units_are
    where
      parts : AreAll (flat_map dialogues_of o.before) × AreAll (flat_map dialogues_of (o.last ∷ []))
      parts = split_all (flat_map dialogues_of o.before) (flat_map dialogues_of (o.last ∷ []))
          (rw (o.units_are, flat_map-append dialogues_of o.before (o.last ∷ [])) at are)

      later : IsRest status x o.opening o.left o.before units (unit_on o.last tail)
      later = rest_of status x (By_command c) (wanted_by c.le) o.before o.opening o.left units
          (unit_on o.last tail) whole.small o.followed parts.0 from_first
          (e ∙ ap (λ us. unit_characters us ++ tail) o.units_are
          ∙ units_append o.before o.last tail)

      on : (us : List UnitOf) → WholeFrom status o.opening o.left us
          → unit_characters us ++ x ≡ unit_on o.last tail → units ≡ o.before ++ us
          → IsAtLast status x o.opening o.left o.last gone units tail
      on [] from is units_are = absurd from
      on (u ∷ us) (opens, is_unit, are_here, after) is units_are =
          let both = same_unit o.opening o.left u o.last (unit_characters us ++ x) tail
          later.small opens o.opens is_unit o.is_unit are_here
          (split_all (dialogues_of o.last) [] parts.1).0 (sym (units_on u us x) ∙ is) in
          let here = rw both.0 at after in
          record {
            more = us;
            units_are = units_are ∙ ap (λ y. o.before ++ y ∷ us) both.0
                ∙ sym (append_assoc o.before (o.last ∷ []) us)
                ∙ ap (λ ys. ys ++ us) (sym o.units_are);
            characters_are = both.1;
            goes = elim here [
              | inl last ↦ inl last
              | inr (n, brings, fetched, more) ↦ inr (n, brings, fetched)
            ];
          }

  -- the characters that led here continue to those of the whole exchange
  pub comes : (came : List Character) (ex : ExchangeOf) (rest : List Character)
      → ComesTo c came ex → (rest ≡ []) ⊎ (length gathered ≤ ex.gather.limit)
      → unit_characters units ≡ came ++ rest
      → Comes (length gathered ≤ ex.gather.limit) ex rest gathered status
  comes came ex rest (to_front gone first front under is) fits e =
      let next = next_under ex gone first front rest under (e ∙ ap (λ cs. cs ++ rest) is) in
      continues next.next next.after next.rest_is (λ room.
      expects ex front next.due next.next.0 next.next.1 next.after under.going (next.room room)
      next.suits)
  comes came ex rest (to_end gone other over is) fits e =
      let last = at_last gone over.gathers.is_open [] rest over.are_dialogues
      (append-nil (unit_characters units) ∙ e ∙ ap (λ cs. cs ++ rest) is) in
      elim last.goes [
        | inl (none, done, told) ↦ ends
            (sym last.characters_are ∙ ap (λ us. unit_characters us ++ []) none)
            (exchange_does ex (Done status) over.going
            (over.done ∙ ap Done (over.gathers.status_is ∙ sym told)))
            (over.gathers.gathered_is ∙ ap (flat_map unit_data) (sym (last.units_are
            ∙ ap (λ us. gone ++ us) none ∙ append-nil gone)) ∙ sym whole.gathers.gathered_is)
        | inr (n, brings, fetched) ↦ absurd (none_or_some _ n over.gathers.ends fetched)
      ]
  comes came ex rest (to_stall gone stall are failed is) fits e =
      let last = at_last gone stall.is_open [] rest are
      (append-nil (unit_characters units) ∙ e ∙ ap (λ cs. cs ++ rest) is) in
      elim last.goes [
        | inl (none, done, told) ↦ absurd (none_or_some _ stall.more done stall.announces)
        | inr (n, brings, fetched) ↦
            let some = rw stall.is_fetch at brings in absurd (some stall.brought_none)
      ]
  comes came ex rest
      (to_fault gone first front prior byte fault under why final failed same is) fits e =
      let next = next_under prior gone first front ((Card, byte) ∷ rest) under
      (e ∙ ap (λ cs. cs ++ rest) is
      ∙ append_assoc (characters_to gone first front) ((Card, byte) ∷ []) rest) in
      absurd (no_fault prior front next.due byte rest fault (elim fits [
        | inl last ↦ inr last
        | inr few ↦ inl (next.room (omega (arith, few, same)))
      ]) (at_next prior.host front next.due (Card, byte) next.next rest next.after next.rest_is
      next.suits) why)

  -- ---- nothing follows a whole exchange, and characters have one division into two of them

  none_begins_longer : (came rest : List Character) → BeginsExchange c came
      → came ≡ unit_characters units ++ rest → rest ≡ []
  none_begins_longer came rest begins e =
      let last = at_last begins.units begins.is_open (rest ++ begins.rest) [] begins.are_dialogues
      (sym (append_assoc (unit_characters units) rest begins.rest)
      ∙ ap (λ z. z ++ begins.rest) (sym e) ∙ sym begins.whole
      ∙ sym (append-nil (unit_characters begins.units))) in
      none_before rest begins.rest
      (none_after (unit_characters last.more) (rest ++ begins.rest) last.characters_are)

  -- the characters that led to an exchange are at most those of a whole one of its command
  none_led_longer : (came : List Character) (ex : ExchangeOf) (rest : List Character)
      → ComesTo c came ex → came ≡ unit_characters units ++ rest → rest ≡ []
  none_led_longer came ex rest leads e =
      elim (led_begins c came ex leads) [
        | inl begins ↦ none_begins_longer came rest begins e
        | inr last ↦ elim (last_within last.before (Card, last.byte) (unit_characters units) rest
            (sym last.came_is ∙ e)) [
              | inl none ↦ none
              | inr (more, is) ↦
                  let none = none_begins_longer last.before more last.begins is in
                  let over = at_end (comes last.before last.prior [] last.led (inl refl)
                  (sym (append-nil (unit_characters units))
                  ∙ ap (λ z. unit_characters units ++ z) (sym none) ∙ sym is
                  ∙ sym (append-nil last.before))) in
                  absurd (final_is_no_end last.fault last.is_final (some_fault last.fault AfterEnd
                  (sym last.is_fault ∙ over_fault last.prior status last.byte over.0)))
            ]
      ]

  -- so the whole one continues them, if it does so with other characters
  pub led_within : (came : List Character) (ex : ExchangeOf) (later rest : List Character)
      → ComesTo c came ex → unit_characters units ++ later ≡ came ++ rest
      → (t : List Character) × (unit_characters units ≡ came ++ t) × (t ++ later ≡ rest)
  led_within came ex later rest leads e =
      elim (before_both (unit_characters units) came later rest e) [
        | inl (t, is) ↦ (t, is, after t is)
        | inr (t, is) ↦
            let same : unit_characters units ≡ came ++ [] =
            sym (append-nil (unit_characters units))
            ∙ ap (λ z. unit_characters units ++ z) (sym (none_led_longer came ex t leads is))
            ∙ sym is ∙ sym (append-nil came) in
            ([], same, after [] same)
      ]
    where
      after : (t : List Character) → unit_characters units ≡ came ++ t → t ++ later ≡ rest
      after t is = append_cancel_left came (t ++ later) rest
          (sym (append_assoc came t later) ∙ ap (λ z. z ++ later) (sym is) ∙ e)

  -- two whole exchanges of a command that begin the same characters are the same
  pub same_whole : (gone : List UnitOf) (come : List ℕ) (other : StatusWord)
      (x y : List Character) → Gathers c gone come other → AreAll (flat_map dialogues_of gone)
      → unit_characters units ++ x ≡ unit_characters gone ++ y → (x ≡ y) × (status ≡ other)
  same_whole gone come other x y first are e =
      let last = at_last gone first.is_open x y are e in
      elim last.goes [
        | inl (none, done, told) ↦ (
          ap (λ us. unit_characters us ++ x) (sym none) ∙ last.characters_are,
          told ∙ sym first.status_is,
        )
        | inr (n, brings, fetched) ↦ absurd (none_or_some _ n first.ends fetched)
      ]
