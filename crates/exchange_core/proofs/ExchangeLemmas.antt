-- An exchange takes the dialogues of its units one character further.
use Rattle.std.proofs.Common.{◌≡◌, ℕ, List, [], ◌∷◌, ◌++◌, refl, sym, ◌∙◌, ap, inl, inr, Option, Some, None, Bool, true, false, if◌then◌else◌}
use Rattle.std.specs.List.{flat_map}
use Rattle.apdu_core.specs.declared.header.Header.{Header}
use Rattle.apdu_core.specs.StatusWord.{count}
use Rattle.apdu_core.specs.CommandBytes.{Command}
use Rattle.t0_core.specs.declared.end.End.{End}
use Rattle.t0_core.specs.declared.end.End.TheVariants.{Terminal, Card}
use Rattle.t0_core.specs.declared.direction.Direction.{Direction}
use Rattle.t0_core.specs.declared.direction.Direction.TheVariants.{ToCard, FromCard}
use Rattle.t0_core.specs.declared.host_end.HostTurn.{HostTurn}
use Rattle.t0_core.specs.declared.host_end.HostTurn.TheVariants.{Sends, Done, Failed}
use Rattle.t0_core.specs.Dialogue.{Dialogue, data_sender}
use Rattle.t0_core.specs.Meaning.{received}
use Rattle.t0_core.specs.Front.{Front, In_header, In_body, After_first, GoesOn, brought, from_card}
use Rattle.t0_core.specs.FrontLaws.{goes_on}
use Rattle.t0_core.specs.Room.{Room}
use Rattle.t0_core.specs.HostSide.{Hosting, HostStandsAt, at_stage, after_turn, turn_of, IsRequest}
use Rattle.exchange_core.specs.declared.wanted.Wanted.{Wanted}
use Rattle.exchange_core.specs.declared.attempt.Attempt.{Attempt}
use Rattle.apdu_core.specs.Shared.{get_response}
use Rattle.exchange_core.specs.Gathered.{Opening, By_command, By_fetch, UnitOf}
use Rattle.exchange_core.specs.ExchangeSide.{ExchangeOf, HostAsks, HostSends, HostOpens, HostOpensBy, IsOpenedAs, IsPlaceOf, IsKept, UnderWay, so_far, asks_card, exchange_turn}

-- the header, P3, direction and data of an end stay the same
pub record IsSameRequest (old new : Hosting) : Type 0 where
  pub header : new.header ≡ old.header
  pub p3 : new.p3 ≡ old.p3
  pub direction : new.direction ≡ old.direction
  pub content : new.content ≡ old.content

same_asks : (h : Header) (n : ℕ) (old new : Hosting) → IsSameRequest old new → HostAsks h n old
    → HostAsks h n new
same_asks h n old new same asks = record {
  header_is = same.header ∙ asks.header_is;
  from_card = same.direction ∙ asks.from_card;
  counts = ap count same.p3 ∙ asks.counts;
  is_byte = rw same.p3 asks.is_byte;
}

same_sends : (h : Header) (content : List ℕ) (old new : Hosting) → IsSameRequest old new
    → HostSends h content old → HostSends h content new
same_sends h content old new same sends = record {
  header_is = same.header ∙ sends.header_is;
  to_card = same.direction ∙ sends.to_card;
  counts = same.p3 ∙ sends.counts;
  has = same.content ∙ sends.has;
}

same_opens : (h : Header) (content : List ℕ) (le : Option ℕ) (old new : Hosting)
    → IsSameRequest old new → HostOpensBy h content le old → HostOpensBy h content le new
same_opens h [] None old new same opens = same_sends h [] old new same opens
same_opens h [] (Some n) old new same opens = same_asks h n old new same opens
same_opens h (b ∷ bs) le old new same opens = same_sends h (b ∷ bs) old new same opens

same_opening : (opening : Opening) (old new : Hosting) → IsSameRequest old new
    → HostOpens opening old → HostOpens opening new
same_opening (By_command c) old new same opens =
    same_opens c.header c.content c.le old new same opens
same_opening (By_fetch n) old new same opens = same_asks get_response n old new same opens

pub opened_too : (opening : Opening) (left : Wanted) (first : Option Dialogue)
    (old new : Hosting) → IsSameRequest old new → IsOpenedAs opening left first old
    → IsOpenedAs opening left first new
opened_too opening left None old new same opens = same_opening opening old new same opens
opened_too opening left (Some d) old new same opens =
    (opens.0, opens.1, opens.2, same_asks d.body.header opens.1 old new same opens.3)

pub place_too : (a : Attempt) (opening : Opening) (units : List UnitOf) (first : Option Dialogue)
    (old new : Hosting) → IsSameRequest old new → IsPlaceOf a opening units first old
    → IsPlaceOf a opening units first new
place_too a opening units first old new same place = record {
  header_is = place.header_is ∙ sym same.header;
  asks_is = place.asks_is ∙ ap asks_card (sym same.direction);
  fetches_is = place.fetches_is;
  repeats_is = place.repeats_is;
  before_is = place.before_is;
  number_is = place.number_is;
  sent_is = place.sent_is;
}

-- the terminal's characters bring no data
terminal_is_no_card : Terminal ≡ Card → ⊥
terminal_is_no_card e = absurd (cc)

header_brings_nothing : (direction : Direction) → from_card direction [] ≡ []
header_brings_nothing ToCard = refl
header_brings_nothing FromCard = refl

sent_brings_nothing : (direction : Direction) (moved : List ℕ) (byte : ℕ)
    → Terminal ≡ data_sender direction
    → from_card direction (moved ++ byte ∷ []) ≡ from_card direction moved
sent_brings_nothing ToCard moved byte sender = refl
sent_brings_nothing FromCard moved byte sender = absurd (terminal_is_no_card sender)

pub terminal_brings_nothing : (front new : Front) (byte : ℕ) → GoesOn front (Terminal, byte) new
    → brought new ≡ brought front
terminal_brings_nothing (In_header bytes) new byte (from, inl (short, new_is)) = rw new_is refl
terminal_brings_nothing (In_header bytes) new byte (from, inr (h, direction, bytes_is, new_is)) =
    rw new_is (header_brings_nothing direction)
terminal_brings_nothing (In_body b) new byte (inl (lt, sender, new_is)) =
    rw new_is (sent_brings_nothing b.direction b.moved byte sender)
terminal_brings_nothing (In_body b) new byte (inr (inl (between, sender, begins))) =
    absurd (terminal_is_no_card sender)
terminal_brings_nothing (In_body b) new byte (inr (inr (between, sender, status, new_is))) =
    absurd (terminal_is_no_card sender)
terminal_brings_nothing (After_first b sw1) new byte goes = absurd goes

abbrev pub with_host : ExchangeOf → Hosting → Room → ExchangeOf
with_host ex host gather = record ex { host = host; gather = gather }

-- a character continues the current dialogue
pub goes_further : (c : Command) (ex : ExchangeOf) (host : Hosting) (gather : Room)
    (units : List UnitOf) (first : Option Dialogue) (front new : Front) (ch : End × ℕ)
    → IsSameRequest ex.host host → IsRequest host
    → UnderWay c ex units first front → GoesOn front ch new → HostStandsAt host new
    → gather.bytes ≡ flat_map received (so_far units first) ++ brought new
    → UnderWay c (with_host ex host gather) units first new
goes_further c ex host gather units first front new ch same request under goes stands
    gathered = record {
      opening = under.opening;
      left = under.left;
      followed = under.followed;
      are_dialogues = under.are_dialogues;
      opened_as = opened_too under.opening under.left first ex.host host same under.opened_as;
      place = place_too ex.attempt under.opening units first ex.host host same under.place;
      stands = stands;
      request = request;
      is_front = (goes_on front new ch under.is_front goes).0;
      gathered = gathered;
      wanted_is = under.wanted_is;
      going = under.going;
    }

-- for the exchange as contracts see it
pub seen_under_way : (c : Command) (ex seen : ExchangeOf) (units : List UnitOf)
    (first : Option Dialogue) (front : Front) → ex ≡ seen → UnderWay c seen units first front
    → UnderWay c ex units first front
seen_under_way c ex seen units first front is under = rw is under

-- an exchange that has not stalled does what its end does
pub told : (ex seen : ExchangeOf) (turn : HostTurn) → ex ≡ seen → ex.stalled ≡ false
    → exchange_turn seen ≡ turn → turn_of ex.host ≡ turn
told ex seen turn is going does =
    ap (λ b. if b then Failed else turn_of ex.host) (sym going) ∙ (rw (sym is) at does)

pub tells : (ex seen : ExchangeOf) (turn : HostTurn) → ex ≡ seen → ex.stalled ≡ false
    → turn_of ex.host ≡ turn → exchange_turn seen ≡ turn
tells ex seen turn is going does =
    rw (sym is) (ap (λ b. if b then Failed else turn_of ex.host) going ∙ does)

-- a character that its end sends continues the current dialogue
pub sends_further : (c : Command) (ex : ExchangeOf) (host : Hosting) (units : List UnitOf)
    (first : Option Dialogue) (front : Front) (byte : ℕ) → UnderWay c ex units first front
    → host ≡ at_stage ex.host (after_turn ex.host) → IsRequest host
    → (new : Front) × GoesOn front (Terminal, byte) new × HostStandsAt host new
    → (new : Front) × GoesOn front (Terminal, byte) new
    × UnderWay c (with_host ex host ex.gather) units first new
sends_further c ex host units first front byte under after request (new, goes, stands) = (
  new,
  goes,
  goes_further c ex host ex.gather units first front new (Terminal, byte)
      (record {
        header = ap (λ (h : Hosting). h.header) after;
        p3 = ap (λ (h : Hosting). h.p3) after;
        direction = ap (λ (h : Hosting). h.direction) after;
        content = ap (λ (h : Hosting). h.content) after;
      }) request under goes stands
      (under.gathered ∙ ap (λ ds. flat_map received (so_far units first) ++ ds)
      (sym (terminal_brings_nothing front new byte goes))),
)

-- an exchange that has stalled has nothing to send
pub sending_is_going : (ex : ExchangeOf) (byte : ℕ) → IsKept ex → turn_of ex.host ≡ Sends byte
    → ex.stalled ≡ false
sending_is_going ex byte kept sends = by ex.stalled refl where
  by : (v : Bool) → ex.stalled ≡ v → ex.stalled ≡ false
  by true stalled =
      let done = kept.stalled_at_end stalled in
      let e : Sends byte ≡ Done done.0 = sym sends ∙ done.1 in absurd (cc)
  by false going = going
