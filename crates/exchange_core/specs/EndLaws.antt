-- A card whose data are gathered has been asked for them.
use Rattle.std.proofs.Common.{◌≡◌, ℕ, ◌+◌, List, [], ◌∷◌, ◌++◌, length, take, drop, refl, sym, ◌∙◌, ap, inl, inr, ◌⊎◌, not, Option, Some, None, append-nil, length-append, lit<}
use Rattle.std.specs.List.{AllByRecursion, flat_map}
use Rattle.std.proofs.lemmas.List.{take-append-drop}
use Rattle.apdu_core.specs.declared.header.Header.{Header}
use Rattle.apdu_core.specs.StatusWord.{count, corrects}
use Rattle.apdu_core.specs.CommandBytes.{Command}
use Rattle.t0_core.specs.declared.end.End.TheVariants.{Card}
use Rattle.t0_core.specs.declared.direction.Direction.{Direction}
use Rattle.t0_core.specs.declared.direction.Direction.TheVariants.{ToCard, FromCard}
use Rattle.t0_core.specs.Dialogue.{Dialogue, IsDialogue}
use Rattle.t0_core.specs.Meaning.{received}
use Rattle.t0_core.specs.Front.{Front, fresh}
use Rattle.t0_core.specs.Room.{Room}
use Rattle.t0_core.specs.HostSide.{Hosting, IsOpenedBy, HostStandsAt, IsRequest}
use Rattle.t0_core.specs.HostLaws.{opened}
use Rattle.exchange_core.specs.declared.wanted.Wanted.{Wanted}
use Rattle.exchange_core.specs.declared.attempt.Attempt.{Attempt}
use Rattle.apdu_core.specs.Shared.{get_response}
use Rattle.t0_core.specs.declared.data_sent.DataSent.{DataSent}
use Rattle.t0_core.specs.DataSent.{sent_in_all, Tells}
use Rattle.exchange_core.specs.Gathered.{Asks, SendsFrom, Opens, less, correction_of, repeated_with, after_dialogue, after_unit, fetched_after, Opening, By_command, By_fetch, OpensWith, UnitOf, first_of, last_of, unit_data, IsUnit}
use Rattle.exchange_core.specs.Attempts.{with_sent, again_with, repetition, fetch}
use Rattle.exchange_core.specs.ExchangeSide.{ExchangeOf, HostAsks, HostSends, HostOpens, HostOpensBy, IsOpenedAs, UnderWay, so_far, ended_with, asks_card}
use Rattle.exchange_core.specs.UnitLaws.{unit_goes_on}

-- it is a dialogue of the TPDU that the end opened
asks_as : (h : Header) (n : ℕ) (host : Hosting) (d : Dialogue) → HostAsks h n host
    → IsOpenedBy host d.body → Asks h n d
asks_as h n host d asks by = record {
  header_is = by.0 ∙ asks.header_is;
  from_card = by.2 ∙ asks.from_card;
  counts = ap count by.1 ∙ asks.counts;
  is_byte = rw by.1 asks.is_byte;
}

sends_as : (h : Header) (content : List ℕ) (host : Hosting) (d : Dialogue)
    → HostSends h content host → IsOpenedBy host d.body → SendsFrom h content d
sends_as h content host d sends by =
    let moved = d.body.moved in
    let own : moved ≡ take (length moved) host.content = rw sends.to_card at by.3 in
    record {
      header_is = by.0 ∙ sends.header_is;
      to_card = by.2 ∙ sends.to_card;
      counts = by.1 ∙ sends.counts;
      sends = (
        drop (length moved) host.content,
        sym sends.has ∙ sym (take-append-drop (length moved) host.content)
            ∙ ap (λ bs. bs ++ drop (length moved) host.content) (sym own),
      );
    }

opens_as : (opening : Opening) (host : Hosting) (d : Dialogue) → HostOpens opening host
    → IsOpenedBy host d.body → OpensWith opening d
opens_as (By_command c) host d opens by = so c.content c.le opens
  where
    so : (content : List ℕ) (le : Option ℕ) → HostOpensBy c.header content le host
        → Opens (record { header = c.header; content = content; le = le }) d
    so [] None opens = sends_as c.header [] host d opens by
    so [] (Some n) opens = asks_as c.header n host d opens by
    so (b ∷ bs) le opens = sends_as c.header (b ∷ bs) host d opens by
opens_as (By_fetch n) host d opens by = asks_as get_response n host d opens by

pub unit_opens : (opening : Opening) (left : Wanted) (first : Option Dialogue) (host : Hosting)
    (d : Dialogue) → IsOpenedAs opening left first host → IsOpenedBy host d.body
    → OpensWith opening (first_of (ended_with first d))
unit_opens opening left None host d opens by = opens_as opening host d opens by
unit_opens opening left (Some e) host d opens by = opens.0

-- the count of a repetition; nothing repeats a repetition
abbrev pub again_of : Option Dialogue → Option ℕ → Option ℕ
again_of None corrected = corrected
again_of (Some e) corrected = None

-- if it is not repeated, the unit is whole
pub unit_is : (opening : Opening) (left : Wanted) (first : Option Dialogue) (host : Hosting)
    (d : Dialogue) → IsOpenedAs opening left first host → IsOpenedBy host d.body
    → again_of first (repeated_with left d) ≡ None → IsUnit left (ended_with first d)
unit_is opening left None host d opens by none = none
unit_is opening left (Some e) host d opens by none =
    (opens.1, opens.2, asks_as e.body.header opens.1 host d opens.3 by)

pub record AtEnd (c : Command) (ex : ExchangeOf) (units : List UnitOf) (first : Option Dialogue)
    (front : Front) (d : Dialogue) (under : UnderWay c ex units first front) : Type 0 where
  pub by : IsOpenedBy ex.host d.body
  pub are_dialogues : AllByRecursion IsDialogue (so_far units first ++ d ∷ [])
  pub opens : OpensWith under.opening (first_of (ended_with first d))
  pub gathered : ex.gather.bytes ≡ flat_map received (so_far units first ++ d ∷ [])
  pub number : length ex.gather.bytes
      ≡ length (flat_map unit_data units) + length (unit_data (ended_with first d))
  pub left : less ex.wanted (length ex.gather.bytes) ≡ after_unit under.left (ended_with first d)
  pub again : again_with ex.attempt (less ex.wanted (length ex.gather.bytes))
      (corrects d.status) ≡ again_of first (repeated_with under.left d)
  pub fetched : fetched_after (less ex.wanted (length ex.gather.bytes)) d.status
      ≡ fetched_after (after_unit under.left (ended_with first d))
      (last_of (ended_with first d)).status

pub some_or_none : {A : Type 0} (o : Option A) → (o ≡ None) ⊎ ((x : A) × (o ≡ Some x))
some_or_none None = inl refl
some_or_none (Some x) = inr (x, refl)

abbrev pub taken_on : ExchangeOf → Hosting → Room → Attempt → ExchangeOf
taken_on ex host gather attempt =
    record ex { host = host; gather = gather; attempt = attempt }

abbrev pub next_exchange : ExchangeOf → Hosting → Attempt → ExchangeOf
next_exchange ex host attempt = taken_on ex host ex.gather attempt

-- a dialogue is repeated only if it asks for data
pub asked_card : (direction : Direction) (left : Wanted) (corrected : Option ℕ) (n : ℕ)
    → correction_of direction left corrected ≡ Some n → direction ≡ FromCard
asked_card ToCard left corrected n e = absurd (cc)
asked_card FromCard left corrected n e = refl

pub repeats : {c : Command} {ex : ExchangeOf} {units : List UnitOf} (first : Option Dialogue)
    {front : Front} {d : Dialogue} {under : UnderWay c ex units first front} (host : Hosting)
    (n : ℕ) (sent : DataSent) → AtEnd c ex units first front d under
    → Tells sent (sent_in_all (so_far units first ++ d ∷ []))
    → again_of first (repeated_with under.left d) ≡ Some n → HostAsks ex.attempt.header n host
    → HostStandsAt host fresh → IsRequest host
    → (first ≡ None) × UnderWay c
    (next_exchange ex host (repetition (with_sent ex.attempt sent))) units (Some d) fresh
repeats {units = units} None {d = d} {under = under} host n s end told again asks stands request =
    let more = unit_goes_on units d in (
      refl,
      record {
        opening = under.opening;
        left = under.left;
        followed = under.followed;
        are_dialogues = rw more end.are_dialogues;
        opened_as = (end.opens, n, again, rw (under.place.header_is ∙ sym end.by.0) at asks);
        place = record {
          header_is = sym asks.header_is;
          asks_is = under.place.asks_is ∙ ap asks_card (sym end.by.2
              ∙ asked_card d.body.direction (after_dialogue under.left d) (corrects d.status) n
              again ∙ sym asks.from_card);
          fetches_is = under.place.fetches_is;
          repeats_is = refl;
          before_is = under.place.before_is;
          number_is = ap (λ k. k + 1)
              (under.place.number_is ∙ sym (length-append (so_far units None) (d ∷ []))
              ∙ ap length (sym more));
          sent_is = rw more told;
        };
        stands = stands;
        request = request;
        is_front = lit< tt;
        gathered = end.gathered ∙ ap (flat_map received) (sym more)
            ∙ sym (append-nil (flat_map received (so_far units (Some d))));
        wanted_is = under.wanted_is;
        going = under.going;
      },
    )
repeats (Some e) host n s end told again asks stands request = absurd (cc)
