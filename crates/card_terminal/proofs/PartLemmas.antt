-- The data of a command are a slice of those of its operation.
use Rattle.std.proofs.Common.{◌≡◌, ◌≤◌, ◌+◌, arith, true, false, Bool, ℕ, List, [], ◌∷◌, ◌++◌, length, drop, refl, sym, subst, ◌∙◌, ap, Option, None, Some, if◌then◌else◌, append-nil}
use Rattle.std.specs.List.{slice_range}
use Rattle.std.proofs.Math.Seq.{drop-append_seam}
use Rattle.std.proofs.lemmas.List.{drop-drop, length-drop}
use Rattle.apdu_core.specs.declared.header.Header.{Header}
use Rattle.apdu_core.specs.StatusWord.{ok}
use Rattle.apdu_core.specs.CommandBytes.{Command}
use Rattle.apdu_core.specs.Chaining.{IsPieces, link, with_more, chain_commands}
use Rattle.tlv_core.specs.Address.{NamesTag}
use Rattle.t0_core.specs.declared.host_end.HostTurn.TheVariants.{Sends, Done, Failed}
use Rattle.t0_core.specs.declared.data_sent.DataSent.{DataSent}
use Rattle.t0_core.specs.declared.data_sent.DataSent.TheVariants.{All}
use Rattle.t0_core.specs.Front.{fresh}
use Rattle.t0_core.specs.HostSide.{turn_of}
use Rattle.object_card.specs.CarryingOut.{put_header}
use Rattle.object_card.specs.OneStep.{Put}
use Rattle.card_terminal.specs.Talk.{AreCommandsOf}
use Rattle.exchange_core.specs.ExchangeSide.{ExchangeOf, UnderWay, GoesByCharacters, exchange_turn}
use Rattle.exchange_core.specs.ExchangeHistory.{ComesTo}
use Rattle.exchange_core.specs.OwnedExchange.{ExchangeMarkOf, over_data, IsSound}
use Rattle.card_terminal.specs.OperationRoom.{IsPart, BeginsWith}
use Rattle.card_terminal.specs.TerminalSide.{OperationOf, AreLeft, LeadsTo, GoesToNext, GoByCharacters, operation_sent}
use Rattle.card_terminal.specs.PieceLaws.{IsFrontOf, left_is, left_after, chain_of, opening_front, next_front, rest_seen}
use Rattle.exchange_core.specs.OwnedLaws.{bounded}
use Rattle.exchange_core.specs.TurnLaws.{opening_turn}
use Rattle.card_terminal.proofs.TerminalLemmas.{one_begins, first_begins}

pub part_of : (items content : List ℕ) (from until : ℕ) (ex : ExchangeMarkOf)
    → IsFrontOf items from until content → IsSound (over_data ex content)
    → IsPart items from until (over_data ex (slice_range items from until))
part_of items content from until ex front sound = record {
  begin = front.begin;
  within = front.within;
  sound = rw front.slice sound;
}

-- ---- an operation begins

begins_by_sending : (c : Command) (ex : ExchangeOf) → UnderWay c ex [] None fresh
    → (byte : ℕ) × (exchange_turn ex ≡ Sends byte)
begins_by_sending c ex under = let (byte, is) = opening_turn ex.host under.stands in
    (byte, ap (λ v. if v then Failed else turn_of ex.host) under.going ∙ is)

pub begins_with : (first : Command) (value items : List ℕ) (ex : ExchangeMarkOf) (until p1 p2 : ℕ)
    → items ≡ value → (more : List ℕ) × (value ≡ first.content ++ more)
    → until ≡ length first.content → p1 ≡ first.header.p1 → p2 ≡ first.header.p2
    → UnderWay first (over_data ex first.content) [] None fresh
    → ComesTo first [] (over_data ex first.content)
    → GoesByCharacters (over_data ex first.content) → BeginsWith first value (record {
      exchange = over_data ex (slice_range items 0 until);
      p1 = p1;
      p2 = p2;
      rest = drop until items;
      first = true;
      sent = All;
    })
begins_with first value items ex until p1 p2 copied some is p1_is p2_is under led by_characters =
    let front = opening_front value items until first.content copied some is in
    let (byte, sends) = begins_by_sending first (over_data ex first.content) under in
    let turn : exchange_turn (over_data ex (slice_range items 0 until)) ≡ Sends byte =
    ap (λ (bs : List ℕ). exchange_turn (over_data ex bs)) front.slice ∙ sends in
    record {
      led = rw front.slice led;
      p1_is = p1_is;
      p2_is = p2_is;
      rest_is = ap (λ n. drop n items) is ∙ ap (λ z. drop (length first.content) z) copied;
      settled = λ done. absurd (cc);
      is_first = refl;
      sent_is = refl;
      by_characters = rw front.slice by_characters;
    }

-- all of it goes character by character so far
pub begins_by_characters : {first : Command} {content : List ℕ} (o : OperationOf)
    (new : Option OperationOf) → new ≡ Some o → BeginsWith first content o → GoByCharacters new
begins_by_characters o new is begins = rw (is, begins.sent_is) (tt, begins.by_characters)

pub command_begins : (c : Command) (content : List ℕ) (o : OperationOf)
    (new : Option OperationOf) → content ≡ c.content → new ≡ Some o → BeginsWith c content o
    → LeadsTo (c ∷ []) [] new
command_begins c content o new whole is begins =
    let none : drop (length c.content) content ≡ [] =
    ap (λ z. drop (length c.content) z) (whole ∙ sym (append-nil c.content))
    ∙ drop-append_seam c.content [] in
    rw is (one_begins c o (begins.rest_is ∙ none) begins.led begins.sent_is, begins.settled)

-- ---- a put

-- the commands of a chain have its P1-P2
first_names : (h : Header) (pieces : List (List ℕ)) (c : Command) (others : List Command)
    → chain_commands h pieces ≡ c ∷ others → (c.header.p1 ≡ h.p1) × (c.header.p2 ≡ h.p2)
first_names h [] c others e = absurd (cc)
first_names h (a ∷ []) c others e = let head : link h a ≡ c = cc in
    (ap (λ (d : Command). d.header.p1) (sym head), ap (λ (d : Command). d.header.p2) (sym head))
first_names h (a ∷ next ∷ pieces) c others e = let head : link (with_more h) a ≡ c = cc in
    (ap (λ (d : Command). d.header.p1) (sym head), ap (λ (d : Command). d.header.p2) (sym head))

pub put_begins : (tag value : List ℕ) (p1 p2 : ℕ) (header : Header) (pieces : List (List ℕ))
    (list others : List Command) (c : Command) (o : OperationOf) (new : Option OperationOf)
    → header ≡ put_header p1 p2 → NamesTag tag p1 p2 → IsPieces value pieces
    → list ≡ chain_commands header pieces → list ≡ c ∷ others → new ≡ Some o
    → BeginsWith c value o
    → (commands : List Command) × AreCommandsOf (Put tag value) commands × LeadsTo commands [] new
put_begins tag value p1 p2 header pieces list others c o new header_is names are same steps is
    begins =
    let chain = chain_of header p1 p2 pieces list others c header_is same steps in
    let (p1_is, p2_is) = first_names (put_header p1 p2) pieces c others chain in
    let left : AreLeft o.p1 o.p2 o.rest others =
    rw (begins.p1_is ∙ p1_is, begins.p2_is ∙ p2_is, begins.rest_is)
    (left_after p1 p2 value pieces c others are chain) in (
      c ∷ others,
      (p1, p2, pieces, names, are, sym chain),
      rw is (first_begins c others o left begins.led begins.sent_is, begins.settled),
    )

-- ---- the next piece

pub next_begins : (old : OperationOf) (ex : ExchangeOf) (new : ExchangeMarkOf)
    (items seen : List ℕ) (until p1 p2 size : ℕ) (first : Bool)
    (before sent : DataSent) (header : Header)
    (pieces : List (List ℕ)) (list others : List Command) (c : Command)
    → record {
      exchange = ex;
      p1 = p1;
      p2 = p2;
      rest = drop until items;
      first = first;
      sent = before;
    } ≡ old → sent ≡ operation_sent old
    → exchange_turn old.exchange ≡ Done ok → (old.rest ≡ [] → ⊥) → seen ≡ items
    → header ≡ put_header p1 p2 → IsPieces (slice_range seen until (length seen)) pieces
    → list ≡ chain_commands header pieces → list ≡ c ∷ others → until ≤ length items
    → size ≡ length c.content → UnderWay c (over_data new c.content) [] None fresh
    → ComesTo c [] (over_data new c.content) → IsSound (over_data new c.content)
    → GoesByCharacters (over_data new c.content) → new.gather.limit ≡ ex.gather.limit
    → GoesToNext old (record {
      exchange = over_data new (slice_range items until (until + size));
      p1 = p1;
      p2 = p2;
      rest = drop (until + size) items;
      first = false;
      sent = sent;
    })
next_begins old ex new items seen until p1 p2 size first before sent header pieces list others c
    view sent_is done more
    same_items header_is are same steps few is under led sound by_characters kept =
    let rest_is = rest_seen items seen until same_items in
    let are_now : IsPieces (drop until items) pieces = rw rest_is at are in
    let chain = chain_of header p1 p2 pieces list others c header_is same steps in
    let front = next_front items seen until size header pieces list others c same_items are same
    steps few is in
    let after_is : drop (length c.content) (drop until items) ≡ drop (until + size) items =
    drop-drop (length c.content) until items ∙ ap (λ n. drop (until + n) items) (sym is) in
    record {
      done = done;
      more = more;
      next = λ left are_left. (
        c,
        others,
        left_is p1 p2 (drop until items) pieces left
            (λ e. more (ap (λ (o : OperationOf). o.rest) (sym view) ∙ e)) are_now
            (subst (λ (o : OperationOf). AreLeft o.p1 o.p2 o.rest left) (sym view) are_left)
            ∙ chain,
        rw front.slice led,
        rw after_is at (left_after p1 p2 (drop until items) pieces c others are_now chain),
      );
      later = refl;
      sent = sent_is;
      by_characters = rw front.slice by_characters;
      bounds = rw front.slice (bounded (over_data new c.content) sound.1);
      limit = kept ∙ ap (λ (o : OperationOf). o.exchange.gather.limit) view;
      sends = let (byte, turn) = begins_by_sending c (over_data new c.content) under in
          (byte, ap (λ (bs : List ℕ). exchange_turn (over_data new bs)) front.slice ∙ turn);
    }

-- ---- if there is one

pub some_rest : (items : List ℕ) (until size : ℕ) → until ≤ length items → size ≡ length items
    → (until ≡ size → ⊥) → drop until items ≡ [] → ⊥
some_rest items until size within is apart none = apart
    (omega (arith, within, is, sym (length-drop until items) ∙ ap length none))
