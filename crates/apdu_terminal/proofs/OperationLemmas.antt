-- With each response the pairs that led to an operation at a terminal lead on.
use Rattle.std.proofs.Common.{◌≡◌, ◌≢◌, ◌≤◌, ◌+◌, ◌==◌, ℕ, List, [], ◌∷◌, ◌++◌, length, drop, ◌⊎◌, inl, inr, refl, sym, subst, ◌∙◌, ap, append-nil, append_assoc, length-append, arith, Option, Some, None, true, false, Bool}
use Rattle.std.specs.Prelude.{not, Result, Ok, Err, IfSome}
use Rattle.std.specs.List.{AllByRecursion, slice_range}
use Rattle.std.proofs.Math.Seq.{drop-append_seam}
use Rattle.std.proofs.lemmas.Bool.{eqb-true}
use Rattle.std.proofs.lemmas.List.{drop-drop, length-drop}
use Rattle.apdu_core.specs.declared.header.Header.{Header}
use Rattle.apdu_core.specs.StatusWord.{StatusWord, ok}
use Rattle.apdu_core.specs.CommandBytes.{Command, IsCommand}
use Rattle.apdu_core.specs.Chaining.{HavePieceSizes, IsPieces, chain_commands, link, with_more}
use Rattle.tlv_core.specs.Address.{NamesTag}
use Rattle.t0_core.specs.declared.answer_fault.AnswerFault.{AnswerFault}
use Rattle.t0_core.specs.declared.answer_fault.AnswerFault.TheVariants.{NotDue}
use Rattle.t0_core.specs.Character.{Character}
use Rattle.t0_core.specs.DialogueLaws.{flat_map_last}
use Rattle.object_card.specs.CarryingOut.{put_header}
use Rattle.apdu_core.specs.Shared.{Reply}
use Rattle.object_card.specs.OneStep.{Put}
use Rattle.exchange_core.specs.Gathered.{wanted_by}
use Rattle.card_terminal.specs.PieceLaws.{IsFrontOf, left_is, left_after, chain_of, opening_front, rest_seen}
use Rattle.card_terminal.specs.Talk.{AreCommandsOf}
use Rattle.card_terminal.specs.TalkLaws.{is_ok_or_not}
use Rattle.card_terminal.specs.declared.unsent.Unsent.{Unsent}
use Rattle.card_terminal.specs.Unsent.{IsUnsent}
use Rattle.card_terminal.specs.TerminalSide.{AreLeft, OperationOf}
use Rattle.card_terminal.specs.TerminalSide as tpdus
use Rattle.t0_core.specs.Room.{Room}
use Rattle.apdu_terminal.specs.declared.exchange.apdu_mark.ApduMark.{ApduMark}
use Rattle.apdu_terminal.specs.declared.stage.Stage.{Stage}
use Rattle.apdu_terminal.specs.declared.stage.Stage.TheVariants.{Going, Done, Failed}
use Rattle.apdu_terminal.specs.Apdus.{Pair, GathersApdus}
use Rattle.apdu_terminal.specs.ApduTalk.{AreApdusOf, talk_pairs}
use Rattle.apdu_terminal.specs.ApduSide.{ApduExchangeOf, ComesTo, HasFew, IsResponding, IsSound, KeepsData, kept_data, answer_at, answer_of, answered_by, of_mark}
use Rattle.apdu_terminal.proofs.LedLemmas.{at_stage}
use Rattle.apdu_terminal.specs.ApduOperations.{ApduOperationOf, AreApdusUpTo, Begins, BeginsWith, GoesOver, GoesToNext, IsOperationAnswer, IsPart, IsSettled, IsTakingResponse, LeadsThrough, LeadsTo, has_failed_at, with_exchange}

-- whether more is to be put
pub some_rest : (items : List ℕ) (until size : ℕ) → until ≤ length items → size ≡ length items
    → (until ≡ size → ⊥) → drop until items ≡ [] → ⊥
some_rest items until size fits is apart none = apart
    (omega (arith, fits, is, sym (length-drop until items) ∙ ap length none))

pub is_within : (value content more : List ℕ) (n : ℕ) → value ≡ content ++ more
    → n ≡ length content → n ≤ length value
is_within value content more n is size =
    omega (arith, size, ap length is, length-append content more)

-- ---- an operation begins

not_done : (s : Stage) (status : StatusWord) → s ≡ Going → s ≡ Done status → ⊥
not_done s status going done = let e : Going ≡ Done status = sym going ∙ done in absurd (cc)

pub first_begins : (c : Command) (left : List Command) (p1 p2 : ℕ) (rest : List ℕ)
    (o : ApduOperationOf) → BeginsWith c p1 p2 rest o → AreLeft p1 p2 rest left
    → LeadsTo (c ∷ left) [] (Some o)
first_begins c left p1 p2 rest o begins are_left = (
  record {
    gone = [];
    current = c;
    left = left;
    taken = refl;
    are_left = rw (begins.p1_is, begins.p2_is, begins.rest_is) are_left;
    here = [];
    led = begins.led;
    pairs_are = refl;
  },
  λ done. absurd (not_done o.exchange.stage ok begins.going done),
)

-- of one command
pub one_begins : (c : Command) (p1 p2 : ℕ) (rest : List ℕ) (o : ApduOperationOf)
    (new : Option ApduOperationOf) → rest ≡ [] → new ≡ Some o → BeginsWith c p1 p2 rest o
    → LeadsTo (c ∷ []) [] new
one_begins c p1 p2 rest o new none is begins =
    rw is (first_begins c [] p1 p2 rest o begins (rw none refl))

-- of a put
pub put_begins : (tag value rest : List ℕ) (p1 p2 : ℕ) (header : Header)
    (pieces : List (List ℕ)) (list others : List Command) (c : Command) (o : ApduOperationOf)
    (new : Option ApduOperationOf) → header ≡ put_header p1 p2 → NamesTag tag p1 p2
    → IsPieces value pieces → list ≡ chain_commands header pieces → list ≡ c ∷ others
    → rest ≡ drop (length c.content) value → new ≡ Some o → BeginsWith c p1 p2 rest o
    → (commands : List Command) × AreCommandsOf (Put tag value) commands × LeadsTo commands [] new
put_begins tag value rest p1 p2 header pieces list others c o new header_is names are same steps
    rest_is is begins =
    let chain = chain_of header p1 p2 pieces list others c header_is same steps in
    let left : AreLeft p1 p2 rest others =
    rw rest_is (left_after p1 p2 value pieces c others are chain) in (
      c ∷ others,
      (p1, p2, pieces, names, are, sym chain),
      rw is (first_begins c others p1 p2 rest o begins left),
    )

-- of an unsent operation at a terminal of TPDUs
pub unsent_begins : (t : Option OperationOf) (u : Unsent) (o : ApduOperationOf)
    (commands : List Command) (came : List Character) → IsUnsent t (Some u) → Begins u o
    → AllByRecursion IsCommand commands → tpdus.LeadsTo commands came t
    → LeadsTo commands [] (Some o)
unsent_begins t u o commands came unsent begins are leads =
    let (left, is, are_left) = unsent.led commands came are leads unsent.known in
    rw is (first_begins u.first left u.p1 u.p2 u.rest.now o begins are_left)

-- ---- a command has ended

taken_more : (commands : List Command) (gone : List (List Pair)) (c : Command)
    (left : List Command) (pairs : List Pair) (brought : List ℕ)
    → AreApdusUpTo commands gone (c ∷ left) → GathersApdus c pairs brought ok
    → AreApdusUpTo commands (gone ++ pairs ∷ []) left
taken_more commands [] c left pairs brought taken gathers =
    subst (λ cs. AreApdusUpTo cs (pairs ∷ []) left) taken (brought, gathers, refl)
taken_more [] (first ∷ gone) c left pairs brought taken gathers = absurd taken
taken_more (d ∷ commands) (first ∷ gone) c left pairs brought taken gathers =
    (taken.0, taken.1, taken_more commands gone c left pairs brought taken.2 gathers)

pub taken_to_end : (commands : List Command) (gone : List (List Pair)) (c : Command)
    (left : List Command) (pairs : List Pair) (answer : Reply)
    → AreApdusUpTo commands gone (c ∷ left) → GathersApdus c pairs answer.content answer.status
    → (left ≡ []) ⊎ (answer.status ≢ ok) → AreApdusOf commands (gone ++ pairs ∷ []) answer
taken_to_end commands [] c left pairs answer taken gathers ends =
    subst (λ cs. AreApdusOf cs (pairs ∷ []) answer) taken (gathers, ends)
taken_to_end [] (first ∷ gone) c left pairs answer taken gathers ends = absurd taken
taken_to_end (d ∷ commands) (first ∷ []) c left pairs answer taken gathers ends =
    (taken.0, taken.1, taken_to_end commands [] c left pairs answer taken.2 gathers ends)
taken_to_end (d ∷ commands) (first ∷ second ∷ gone) c left pairs answer taken gathers ends = (
  taken.0,
  taken.1,
  taken_to_end commands (second ∷ gone) c left pairs answer taken.2 gathers ends,
)

pub one_more_exchange : (gone : List (List Pair)) (pairs : List Pair)
    → talk_pairs (gone ++ pairs ∷ []) ≡ talk_pairs gone ++ pairs
one_more_exchange gone pairs = flat_map_last (λ ps. ps) gone pairs

-- with 9000, and the next begins
to_next : (commands : List Command) (pairs : List Pair) (o new : ApduOperationOf)
    → GoesToNext o new → LeadsThrough commands pairs o → LeadsThrough commands pairs new
to_next commands pairs o new next l =
    let gathers = at_stage l.current (wanted_by l.current.le) l.here o.exchange (Done ok) next.done
    l.led in
    let (c, after, left_is, led, are_left) = next.next l.left l.are_left in
    let taken : AreApdusUpTo commands l.gone (l.current ∷ c ∷ after) =
    rw left_is at l.taken in
    record {
      gone = l.gone ++ l.here ∷ [];
      current = c;
      left = after;
      taken = taken_more commands l.gone l.current (c ∷ after) l.here o.exchange.gather.bytes taken
          gathers;
      are_left = are_left;
      here = [];
      led = led;
      pairs_are = l.pairs_are ∙ sym (one_more_exchange l.gone l.here)
          ∙ sym (append-nil (talk_pairs (l.gone ++ l.here ∷ [])));
    }

goes_over : (commands : List Command) (pairs : List Pair) (o new : ApduOperationOf)
    → GoesOver o new → LeadsThrough commands pairs o → LeadsThrough commands pairs new
goes_over commands pairs o new (inl same) l =
    rw same.1 l
goes_over commands pairs o new (inr next) l = to_next commands pairs o new next l

pub none_left : (p1 p2 : ℕ) (rest : List ℕ) (left : List Command) → rest ≡ []
    → AreLeft p1 p2 rest left → left ≡ []
none_left p1 p2 [] left none are = are
none_left p1 p2 (b ∷ bs) left none are = absurd (cc)

-- if nothing more is to be put, no command follows
nothing_next : (o new : ApduOperationOf) → GoesToNext o new → o.rest ≡ [] → ⊥
nothing_next o new next none =
    let are : AreLeft o.p1 o.p2 o.rest [] =
    rw none refl in
    let (c, after, is, led, left) = next.next [] are in absurd (cc)

-- ---- a response

stays : (o new : ApduOperationOf) (ex : ApduExchangeOf) → IsSettled o
    → GoesOver (with_exchange o ex) new → ex ≡ o.exchange → new ≡ o
stays o new ex settled (inl same) is = same.1 ∙ ap (λ x. with_exchange o x) is
stays o new ex settled (inr next) is =
    absurd (nothing_next (with_exchange o ex) new next
    (settled (ap (λ (x : ApduExchangeOf). x.stage) (sym is) ∙ next.done)))

pub settles : (o new : ApduOperationOf) → GoesOver o new → IsSettled new
settles o new (inl same) = rw same.1 same.0
settles o new (inr next) = λ done. absurd (not_done new.exchange.stage ok next.going done)

fails : (o new : ApduOperationOf) (ex : ApduExchangeOf) → GoesOver (with_exchange o ex) new
    → ex.stage ≡ Failed → has_failed_at (Some new)
fails o new ex (inl same) failed =
    ap (λ (x : ApduOperationOf). x.exchange.stage) same.1 ∙ failed
fails o new ex (inr next) failed =
    let e : Done ok ≡ Failed = sym next.done ∙ failed in absurd (cc)

few_over : (o new : ApduOperationOf) (ex : ApduExchangeOf) → HasFew ex
    → GoesOver (with_exchange o ex) new → HasFew new.exchange
few_over o new ex few (inl same) =
    rw same.1 few
few_over o new ex few (inr next) = next.few

-- the next command, with this response
abbrev pub took : ApduOperationOf → List ℕ → StatusWord → List Pair
took o content status = answered_by o.exchange content status ∷ []

went : (o new : ApduOperationOf) (ex : ApduExchangeOf) (content : List ℕ) (status : StatusWord)
    (commands : List Command) (pairs : List Pair) → GoesOver (with_exchange o ex) new
    → (l : LeadsThrough commands pairs o)
    → ComesTo l.current (wanted_by l.current.le) (l.here ++ took o content status) ex
    → LeadsTo commands (pairs ++ took o content status) (Some new)
went o new ex content status commands pairs over l led = (
  goes_over commands (pairs ++ took o content status) (with_exchange o ex) new over
      (record {
        gone = l.gone;
        current = l.current;
        left = l.left;
        taken = l.taken;
        are_left = l.are_left;
        here = l.here ++ took o content status;
        led = led;
        pairs_are = ap (λ z. z ++ took o content status) l.pairs_are
            ∙ append_assoc (talk_pairs l.gone) l.here (took o content status);
      }),
  settles (with_exchange o ex) new over,
)

pub responds : (o new : ApduOperationOf) (content : List ℕ) (status : StatusWord)
    (result : Result (Unit {0}) AnswerFault) (ex : ApduExchangeOf) → IsSettled o
    → IsResponding o.exchange content status result ex → GoesOver (with_exchange o ex) new
    → IsTakingResponse (Some o) content status result (Some new)
responds o new content status (Ok u) ex settled step over = record {
  fault = step.fault;
  few = few_over o new ex step.few over;
  unchanged = tt;
  failed = tt;
  led = λ commands pairs l. went o new ex content status commands pairs over l.0
      (step.led l.0.current (wanted_by l.0.current.le) l.0.here l.0.led);
}
responds o new content status (Err f) ex settled step over = record {
  fault = step.fault;
  few = few_over o new ex step.few over;
  unchanged = λ not_final.
      ap (λ x. Some x) (stays o new ex settled over (step.unchanged not_final));
  failed = λ final. fails o new ex over (step.failed final);
  led = λ commands pairs l final. went o new ex content status commands pairs over l.0
      (step.led l.0.current (wanted_by l.0.current.le) l.0.here l.0.led final);
}

pub idle_responds : (content : List ℕ) (status : StatusWord)
    → IsTakingResponse None content status (Err NotDue) None
idle_responds content status = record {
  fault = inl refl;
  few = tt;
  unchanged = λ not_final. refl;
  failed = λ final. absurd (never final);
  led = λ commands pairs l. absurd l;
}
  where
    never : false ≡ true → ⊥
    never e = cc

-- the same by the call's views
pub responding_as : (seen old now new : Option ApduOperationOf) (content : List ℕ)
    (status : StatusWord) (r result : Result (Unit {0}) AnswerFault) → old ≡ seen
    → result ≡ r → now ≡ new → IsTakingResponse old content status r new
    → IsTakingResponse seen content status result now
responding_as seen old now new content status r result was is after step =
    rw (sym was, is, after) step

-- a response to an exchange that is kept without its data
pub responds_over : (gather room : Room) (mark place : ApduMark) (content bytes : List ℕ)
    (status : StatusWord) (result : Result (Unit {0}) AnswerFault) (old new : ApduExchangeOf)
    (empty : Bool) → old ≡ of_mark content gather mark → of_mark new.content room place ≡ new
    → KeepsData old new → empty ≡ (length new.content == 0)
    → IsResponding old bytes status result new
    → IsResponding (of_mark content gather mark) bytes status result
    (of_mark (kept_data (not empty) content) room place)
responds_over gather room mark place content bytes status result old new empty was same keeps none
    step =
    subst (λ x. IsResponding x bytes status result (of_mark (kept_data (not empty) content) room
    place)) was (rw is step)
  where
    data_are : (bs : List ℕ) → new.content ≡ bs → (e : Bool) → e ≡ (length bs == 0)
        → kept_data (not e) content ≡ new.content
    data_are [] at true is = sym at
    data_are [] at false is = absurd (cc)
    data_are (b ∷ bs) at true is =
        absurd (omega (arith, eqb-true (length (b ∷ bs)) 0 (sym is)))
    data_are (b ∷ bs) at false is = elim keeps [
      | inl gone ↦ let no : b ∷ bs ≡ [] = sym at ∙ gone in absurd (cc)
      | inr stay ↦ ap (λ (x : ApduExchangeOf). x.content) (sym was) ∙ sym stay.0
    ]

    is : of_mark (kept_data (not empty) content) room place ≡ new
    is = ap (λ bs. of_mark bs room place) (data_are new.content refl empty none) ∙ same

-- ---- the answer

-- these are exchanges of the commands, with this answer
abbrev pub IsTalk : List Command → List Pair → StatusWord × List ℕ → Type 0
IsTalk commands pairs a = (exchanges : List (List Pair))
    × AreApdusOf commands exchanges (record { status = a.0; content = a.1 })
    × (pairs ≡ talk_pairs exchanges)

pub answers : (o : ApduOperationOf) (answer : Option (StatusWord × List ℕ)) → IsSettled o
    → answer ≡ answer_of o.exchange → IsOperationAnswer (Some o) answer
answers o answer settled is = record {
  is = is;
  led = λ commands pairs l.
      let at : IfSome (answer_of o.exchange) (λ a. IsTalk commands pairs a) =
      by commands pairs l.0 o.exchange.stage refl in
      rw is at;
}
  where
    ends : (left : List Command) (status : StatusWord) → AreLeft o.p1 o.p2 o.rest left
        → o.exchange.stage ≡ Done status → (status ≡ ok) ⊎ (status ≢ ok)
        → (left ≡ []) ⊎ (status ≢ ok)
    ends left status are done (inl fine) =
        inl (none_left o.p1 o.p2 o.rest left (settled (done ∙ ap (λ s. Done s) fine)) are)
    ends left status are done (inr other) = inr other

    by : (commands : List Command) (pairs : List Pair) → LeadsThrough commands pairs o
        → (s : Stage) → o.exchange.stage ≡ s
        → IfSome (answer_at s o.exchange.gather.bytes) (λ a. IsTalk commands pairs a)
    by commands pairs l Going is = tt
    by commands pairs l Failed is = tt
    by commands pairs l (Done status) is =
        let gathers = at_stage l.current (wanted_by l.current.le) l.here o.exchange (Done status) is
        l.led in (
          l.gone ++ l.here ∷ [],
          taken_to_end commands l.gone l.current l.left l.here
              (record { status = status; content = o.exchange.gather.bytes }) l.taken gathers
              (ends l.left status l.are_left is (is_ok_or_not status)),
          l.pairs_are ∙ sym (one_more_exchange l.gone l.here),
        )

pub answer_as : (old seen : Option ApduOperationOf) (answer : Option (StatusWord × List ℕ))
    → old ≡ seen → IsOperationAnswer old answer → IsOperationAnswer seen answer
answer_as old seen answer same is = rw same at is

-- ---- the data within those of the operation

pub settled_at : (old : Option ApduOperationOf) (o : ApduOperationOf)
    → IfSome old (λ x. IsSettled x) → old ≡ Some o → IsSettled o
settled_at old o settled is =
    rw is at settled

pub part_of : (items content : List ℕ) (from until : ℕ) (gather : Room) (mark : ApduMark)
    → IsFrontOf items from until content → IsSound (of_mark content gather mark)
    → IsPart items from until (of_mark (slice_range items from until) gather mark)
part_of items content from until gather mark front sound = record {
  begin = front.begin;
  within = front.within;
  sound = rw front.slice sound;
}

pub part_first : (first : Command) (rest items : List ℕ) (gather : Room) (mark : ApduMark)
    (until : ℕ) → items ≡ first.content ++ rest → until ≡ length first.content
    → IsSound (of_mark first.content gather mark)
    → IsPart items 0 until (of_mark (slice_range items 0 until) gather mark)
part_first first rest items gather mark until whole is sound =
    part_of items first.content 0 until gather mark
    (opening_front (first.content ++ rest) items until first.content whole (rest, refl) is) sound

pub begins_with : (first : Command) (rest items : List ℕ) (gather : Room) (mark : ApduMark)
    (until p1 p2 : ℕ) → items ≡ first.content ++ rest → until ≡ length first.content
    → mark.stage ≡ Going
    → ComesTo first (wanted_by first.le) [] (of_mark first.content gather mark)
    → BeginsWith first p1 p2 rest (record {
      exchange = of_mark (slice_range items 0 until) gather mark;
      p1 = p1;
      p2 = p2;
      rest = drop until items;
    })
begins_with first rest items gather mark until p1 p2 whole is going led =
    let front =
    opening_front (first.content ++ rest) items until first.content whole (rest, refl) is in
    record {
      led = rw front.slice led;
      going = going;
      p1_is = refl;
      p2_is = refl;
      rest_is = ap (λ n. drop n items) is ∙ ap (λ z. drop (length first.content) z) whole
          ∙ drop-append_seam first.content rest;
    }

few_first : (ex : ApduExchangeOf) (c : Command) → ex.stage ≡ Going
    → ComesTo c (wanted_by c.le) [] ex → HasFew ex
few_first ex c going led =
    let at = at_stage c (wanted_by c.le) [] ex Going going led in omega (arith, at.number)

some_first : (h : Header) (pieces : List (List ℕ)) (c : Command) (others : List Command)
    → HavePieceSizes pieces → chain_commands h pieces ≡ c ∷ others → 1 ≤ length c.content
some_first h [] c others sizes e = absurd sizes
some_first h (a ∷ []) c others sizes e =
    let head : link h a ≡ c = cc in
    omega (arith, sizes.0, ap (λ (d : Command). length d.content) head)
some_first h (a ∷ next ∷ pieces) c others sizes e =
    let head : link (with_more h) a ≡ c = cc in
    omega (arith, sizes.0, ap (λ (d : Command). length d.content) head)

some_goes : (rest : List ℕ) (h : Header) (pieces : List (List ℕ)) (c : Command)
    (others : List Command) → (rest ≡ [] → ⊥) → IsPieces rest pieces
    → chain_commands h pieces ≡ c ∷ others → 1 ≤ length c.content
some_goes [] h pieces c others some are e = absurd (some refl)
some_goes (b ∷ bs) h pieces c others some are e = some_first h pieces c others are.1 e

pub next_begins : (old : ApduOperationOf) (ex : ApduExchangeOf) (gather : Room) (mark : ApduMark)
    (items seen : List ℕ) (until p1 p2 size : ℕ) (header : Header) (pieces : List (List ℕ))
    (list others : List Command) (c : Command)
    → record { exchange = ex; p1 = p1; p2 = p2; rest = drop until items } ≡ old
    → old.exchange.stage ≡ Done ok → (old.rest ≡ [] → ⊥) → seen ≡ items
    → header ≡ put_header p1 p2 → IsPieces (slice_range seen until (length seen)) pieces
    → list ≡ chain_commands header pieces → list ≡ c ∷ others
    → IsFrontOf items until (until + size) c.content → size ≡ length c.content
    → mark.stage ≡ Going → ComesTo c (wanted_by c.le) [] (of_mark c.content gather mark)
    → gather.limit ≡ ex.gather.limit → GoesToNext old (record {
      exchange = of_mark (slice_range items until (until + size)) gather mark;
      p1 = p1;
      p2 = p2;
      rest = drop (until + size) items;
    })
next_begins old ex gather mark items seen until p1 p2 size header pieces list others c view done
    more same_items header_is are same steps front is going led kept =
    let are_now : IsPieces (drop until items) pieces =
    rw (rest_seen items seen until same_items) at are in
    let chain = chain_of header p1 p2 pieces list others c header_is same steps in
    let after_is : drop (length c.content) (drop until items) ≡ drop (until + size) items =
    drop-drop (length c.content) until items ∙ ap (λ n. drop (until + n) items) (sym is) in
    let led_now : ComesTo c (wanted_by c.le) []
    (of_mark (slice_range items until (until + size)) gather mark) = rw front.slice led in
    record {
      done = done;
      next = λ left are_left. (
        c,
        others,
        left_is p1 p2 (drop until items) pieces left
            (λ e. more (ap (λ (o : ApduOperationOf). o.rest) (sym view) ∙ e)) are_now
            (subst (λ (o : ApduOperationOf). AreLeft o.p1 o.p2 o.rest left) (sym view) are_left)
            ∙ chain,
        led_now,
        rw after_is at (left_after p1 p2 (drop until items) pieces c others are_now chain),
      );
      shrinks = omega (
        arith,
        some_goes (drop until items) (put_header p1 p2) pieces c others
            (λ e. more (ap (λ (o : ApduOperationOf). o.rest) (sym view) ∙ e)) are_now chain,
        is,
        front.within,
        length-drop until items,
        length-drop (until + size) items,
        ap (λ (o : ApduOperationOf). length o.rest) view,
      );
      going = going;
      few = few_first _ c going led_now;
      limit = kept ∙ ap (λ (o : ApduOperationOf). o.exchange.gather.limit) view;
    }
