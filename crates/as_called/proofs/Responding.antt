-- What a card of an application responds to the commands of one exchange.
use Rattle.std.proofs.Common.{◌≡◌, ◌∙◌, ℕ, suc, ◌-◌, ◌≤◌, min, ◌%◌, List, [], ◌∷◌, ◌++◌, length, take, drop, Option, Some, None, Bool, true, false, refl, sym, ap, subst, arith, length-append, length-take, length-drop, append-nil, append_assoc}
use Rattle.std.specs.Prelude.{if◌then◌else◌}
use Rattle.std.proofs.lemmas.List.{take_all, drop_all, take-append-drop}
use Rattle.apdu_core.specs.declared.header.Header.{Header}
use Rattle.apdu_core.specs.CommandBytes.{Command}
use Rattle.apdu_core.specs.Shared.{get_response}
use Rattle.apdu_core.specs.StatusWord.{StatusWord, count}
use Rattle.exchange_core.specs.declared.wanted.Wanted.{Wanted}
use Rattle.exchange_core.specs.declared.wanted.Wanted.TheVariants.{Bytes, Everything}
use Rattle.exchange_core.specs.Gathered.{less, wanted_by}
use Rattle.apdu_terminal.specs.declared.stage.Stage.{Stage}
use Rattle.apdu_terminal.specs.declared.stage.Stage.TheVariants.{Going, Done, Failed}
use Rattle.apdu_terminal.specs.Apdus.{Pair, Place, Ends, asking, follow}
use Rattle.apdu_terminal.specs.ApduSide.{ApduExchangeOf, command_of, has_failed, place_of}
use Rattle.command_card.specs.declared.application.TheConstants.{OWN_RESPONSE_LIMIT}
use Rattle.command_card.specs.AtT1.{CarriesTold, Fetches, HandsOut, Refuses, Responds, RespondsBy, may_bring, shown, status_bytes}
use Rattle.command_card.specs.Calls.{told_to}
use Rattle.command_card.specs.Carrying.{Did, IsOwn, Makes}
use Rattle.command_card.specs.State.{CardState, Left, Nothing_left, For_fetch, For_repeat, announcing, fetch_left, is_fetch}
use Rattle.command_card.specs.Told.{unwanted_part, wanted_part}
use Rattle.as_called.specs.AsIfCalled.{AsIfBy, AsIfCalled, By_whole, IsCalledWith, IsFetched, IsRefused, IsTidy, Reports}
use Rattle.as_called.specs.Faults.{HasCalled}
use Rattle.as_called.proofs.Following.{ends_full, ends_own, fetch_next, never_ends, not_both}
use Rattle.as_called.proofs.Steps.{After}
use Rattle.as_called.proofs.Tidy.{own_made, shorter, tidy_rest}

tail_same : (xs ys : List ℕ) (v w : StatusWord) → xs ++ status_bytes v ≡ ys ++ status_bytes w
    → (xs ≡ ys) × (v ≡ w)
tail_same [] [] v w e =
    let first : v.0 ≡ w.0 = cc in
    let second : v.1 ≡ w.1 = cc in
    (refl, ap (λ (n : ℕ). (n, v.1)) first ∙ ap (λ (n : ℕ). (w.0, n)) second)
tail_same [] (y ∷ ys) v w e =
    absurd (omega (arith, ap length e, length-append ys (status_bytes w)))
tail_same (x ∷ xs) [] v w e =
    absurd (omega (arith, ap length e, length-append xs (status_bytes v)))
tail_same (x ∷ xs) (y ∷ ys) v w e =
    let head : x ≡ y = cc in
    let others : xs ++ status_bytes v ≡ ys ++ status_bytes w = cc in
    let (same, words) = tail_same xs ys v w others in
    (ap (λ (n : ℕ). n ∷ xs) head ∙ ap (λ zs. y ∷ zs) same, words)

-- SW2 of the announcement of one byte and these
abbrev sw2_of : List ℕ → ℕ
sw2_of rest = min (suc (length rest)) 256 % 256

-- ---- bytes that are handed over

-- the response hands over at most `n` of these bytes
pub record Hands {S : Type 0} (p : Pair) (k : CardState S) (n : ℕ) (bytes : List ℕ)
    (own : StatusWord) : Type 0 where
  pub content_is : p.content ≡ take n bytes
  pub status_is : p.status ≡ announcing (drop n bytes) own 256
  pub left_is : k.left ≡ fetch_left (drop n bytes) own

hands_of : {S : Type 0} (p : Pair) (k : CardState S) (n : ℕ) (bytes : List ℕ) (own : StatusWord)
    → HandsOut bytes own n (p.content ++ status_bytes p.status) k.left → Hands p k n bytes own
hands_of p k n bytes own hands =
    let (content, status) = tail_same p.content (take n bytes) p.status
    (announcing (drop n bytes) own 256) hands.response_is in
    record { content_is = content; status_is = status; left_is = hands.left_is }

refuses_of : {S : Type 0} (p : Pair) (old k : CardState S) (n : ℕ) (sw : StatusWord)
    → Refuses sw old (p.content ++ status_bytes p.status) k → Hands p k n [] sw
refuses_of p old k n sw refuses =
    let (content, status) = tail_same p.content [] p.status sw refuses.response_is in
    let few : length {A = ℕ} [] ≤ n = omega arith in
    let none : drop n [] ≡ [] = drop_all n [] few in
    record {
      content_is = content ∙ sym (take_all n [] few);
      status_is = status ∙ ap (λ xs. announcing xs sw 256) (sym none);
      left_is = refuses.none_left ∙ ap (λ xs. fetch_left xs sw) (sym none);
    }

-- ---- the exchange after such a response

-- the next command fetches, and the rest of the bytes waits
pub record Fetching {S : Type 0} (c : Command) (bytes : List ℕ) (own : StatusWord)
    (ex : ApduExchangeOf) (k : CardState S) : Type 0 where
  pub wants : wanted_by c.le ≡ Everything
  pub n : ℕ
  pub due_is : command_of ex ≡ asking get_response n
  pub left : (place_of ex).left ≡ Everything
  pub b : ℕ
  pub rest : List ℕ
  pub waits : k.left ≡ For_fetch (b ∷ rest) own
  pub all : ex.gather.bytes ++ (b ∷ rest) ≡ bytes

-- how far the exchange is, of a response with these bytes and this status
abbrev pub Progress : {S : Type 0} → Command → List ℕ → StatusWord → ApduExchangeOf → CardState S
    → Stage → Type 0
Progress c bytes own ex k Going = Fetching c bytes own ex k
Progress c bytes own ex k (Done status) =
    Reports By_whole c bytes own ex.gather.bytes status k.left
Progress c bytes own ex k Failed = ⊥

reports_all : (c : Command) (bytes gathered : List ℕ) (own status : StatusWord) (left : Left)
    → wanted_by c.le ≡ Everything → gathered ≡ bytes → status ≡ own → left ≡ Nothing_left
    → Reports By_whole c bytes own gathered status left
reports_all c bytes gathered own status left wants all is none = record {
  gathered_is = all ∙ ap (λ (w : Wanted). wanted_part w bytes) (sym wants);
  most = 256;
  is_most = refl;
  status_is = is ∙ ap (λ (w : Wanted). announcing (unwanted_part w bytes) own 256) (sym wants);
  left_is = none ∙ ap (λ (w : Wanted). fetch_left (unwanted_part w bytes) own) (sym wants);
}

reports_part : (c : Command) (n : ℕ) (bytes gathered : List ℕ) (own status : StatusWord)
    (left : Left) → wanted_by c.le ≡ Bytes n → gathered ≡ take n bytes
    → status ≡ announcing (drop n bytes) own 256 → left ≡ fetch_left (drop n bytes) own
    → Reports By_whole c bytes own gathered status left
reports_part c n bytes gathered own status left wants front is rest = record {
  gathered_is = front ∙ ap (λ (w : Wanted). wanted_part w bytes) (sym wants);
  most = 256;
  is_most = refl;
  status_is = is ∙ ap (λ (w : Wanted). announcing (unwanted_part w bytes) own 256) (sym wants);
  left_is = rest ∙ ap (λ (w : Wanted). fetch_left (unwanted_part w bytes) own) (sym wants);
}

-- everything is wanted: `rest` is what was left of the bytes before this response
pub on_to_all : {S : Type 0} (c : Command) (bytes rest : List ℕ) (own : StatusWord)
    (old new : ApduExchangeOf) (p : Pair) (k : CardState S) (n : ℕ) → IsOwn own
    → wanted_by c.le ≡ Everything → (place_of old).left ≡ Everything
    → old.gather.bytes ++ rest ≡ bytes → Hands p k n rest own → After old p new new.stage
    → has_failed new.stage ≡ false → Progress c bytes own new k new.stage
on_to_all {S = S} c bytes rest own old new p k n is wants left all h after fine =
    by new.stage (drop n rest) refl after fine
  where
    at : Place
    at = place_of old

    by : (s : Stage) (beyond : List ℕ) → drop n rest ≡ beyond → After old p new s
        → has_failed s ≡ false → Progress c bytes own new k s
    by Failed beyond more after fine = absurd (cc)
    by Going [] none (goes, gathered) fine =
        let sw = h.status_is ∙ ap (λ xs. announcing xs own 256) none in
        absurd (not_both (ends_own (place_of old) (length p.content) own is)
        (ap (λ (w : StatusWord). follow (place_of old) (length p.content) w) (sym sw) ∙ goes))
    by (Done status) [] none (ends, status_is, gathered) fine =
        let front : take n rest ≡ rest = sym (append-nil (take n rest))
        ∙ ap (λ xs. take n rest ++ xs) (sym none) ∙ take-append-drop n rest in
        reports_all c bytes new.gather.bytes own status k.left wants
        (gathered ∙ ap (λ xs. old.gather.bytes ++ xs) (h.content_is ∙ front) ∙ all)
        (status_is ∙ h.status_is ∙ ap (λ xs. announcing xs own 256) none)
        (h.left_is ∙ ap (λ xs. fetch_left xs own) none)
    by (Done status) (b ∷ beyond) more (ends, status_is, gathered) fine =
        let sw = h.status_is ∙ ap (λ xs. announcing xs own 256) more in
        absurd (never_ends (place_of old) (length p.content) (sw2_of beyond) left
        (ap (λ (w : StatusWord). follow (place_of old) (length p.content) w) (sym sw) ∙ ends))
    by Going (b ∷ beyond) more (goes, gathered) fine =
        let sw = h.status_is ∙ ap (λ xs. announcing xs own 256) more in
        let (due, still) = fetch_next (place_of old) (place_of new) (length p.content)
        (sw2_of beyond) left
        (ap (λ (w : StatusWord). follow (place_of old) (length p.content) w) (sym sw) ∙ goes) in
        record {
          wants = wants;
          n = count (sw2_of beyond);
          due_is = due;
          left = still;
          b = b;
          rest = beyond;
          waits = h.left_is ∙ ap (λ xs. fetch_left xs own) more;
          all = ap (λ xs. xs ++ (b ∷ beyond))
              (gathered ∙ ap (λ xs. old.gather.bytes ++ xs) h.content_is)
              ∙ append_assoc old.gather.bytes (take n rest) (b ∷ beyond)
              ∙ ap (λ xs. old.gather.bytes ++ (take n rest ++ xs)) (sym more)
              ∙ ap (λ xs. old.gather.bytes ++ xs) (take-append-drop n rest) ∙ all;
        }

-- `n` bytes are wanted: the first response is the only one
pub on_to_part : {S : Type 0} (c : Command) (bytes : List ℕ) (own : StatusWord)
    (old new : ApduExchangeOf) (p : Pair) (k : CardState S) (n : ℕ) → IsOwn own
    → wanted_by c.le ≡ Bytes n → (place_of old).left ≡ Bytes n → old.gather.bytes ≡ []
    → Hands p k n bytes own → After old p new new.stage → has_failed new.stage ≡ false
    → Progress c bytes own new k new.stage
on_to_part c bytes own old new p k n is wants left none h after fine =
    by new.stage after fine
  where
    ends_so : (beyond : List ℕ) → drop n bytes ≡ beyond
        → follow (place_of old) (length p.content) p.status ≡ Ends
    ends_so [] none =
        let sw = h.status_is ∙ ap (λ xs. announcing xs own 256) none in
        ap (λ (w : StatusWord). follow (place_of old) (length p.content) w) sw
        ∙ ends_own (place_of old) (length p.content) own is
    ends_so (r ∷ beyond) more =
        let sw = h.status_is ∙ ap (λ xs. announcing xs own 256) more in
        let long : n ≤ length p.content = omega (
          arith,
          ap length h.content_is,
          length-take n bytes,
          ap length more,
          length-drop n bytes,
        ) in
        let zero : n - length p.content ≡ 0 = omega (arith, long) in
        ap (λ (w : StatusWord). follow (place_of old) (length p.content) w) sw
        ∙ ends_full (place_of old) (length p.content) (sw2_of beyond)
        (ap (λ (w : Wanted). less w (length p.content)) left ∙ ap (λ k. Bytes k) zero)

    by : (s : Stage) → After old p new s → has_failed s ≡ false → Progress c bytes own new k s
    by Failed after fine = absurd (cc)
    by Going (goes, gathered) fine = absurd (not_both (ends_so (drop n bytes) refl) goes)
    by (Done status) (ends, status_is, gathered) fine =
        reports_part c n bytes new.gather.bytes own status k.left wants
        (gathered ∙ ap (λ xs. xs ++ p.content) none ∙ h.content_is)
        (status_is ∙ h.status_is) h.left_is

-- ---- the first response, and what it means

module _ {S : Type 0} (takes : S → Header → Bool) (Act : S → Did → S → Type 0) where
  -- a report of this response is as if the application had been called
  abbrev pub Means : CardState S → Command → List ℕ → StatusWord → CardState S → Type 0
  Means first c bytes own k = (gathered : List ℕ) (status : StatusWord) (new : CardState S)
      → new.app ≡ k.app → Reports By_whole c bytes own gathered status new.left
      → AsIfCalled takes Act By_whole first c gathered status new

  refused_so : (c : Command) (sw : StatusWord) (first new : CardState S) (gathered : List ℕ)
      (status : StatusWord) → new.app ≡ first.app
      → Reports By_whole c [] sw gathered status new.left
      → IsRefused sw first gathered status new
  refused_so c sw first new gathered status same r = by (wanted_by c.le) r.gathered_is r.status_is
      r.left_is
    where
      by : (w : Wanted) → gathered ≡ wanted_part w []
          → status ≡ announcing (unwanted_part w []) sw r.most
          → new.left ≡ fetch_left (unwanted_part w []) sw → IsRefused sw first gathered status new
      by Everything g s l = record { same = same; none = g; status_is = s; none_left = l }
      by (Bytes n) g s l =
          let few : length {A = ℕ} [] ≤ n = omega arith in
          let none : drop n [] ≡ [] = drop_all n [] few in
          record {
            same = same;
            none = g ∙ take_all n [] few;
            status_is = s ∙ ap (λ xs. announcing xs sw r.most) none;
            none_left = l ∙ ap (λ xs. fetch_left xs sw) none;
          }

  -- the first response hands over these bytes, of a response with this meaning
  pub record Begins (first : CardState S) (c : Command) (p : Pair) (k : CardState S) : Type 0 where
    pub bytes : List ℕ
    pub own : StatusWord
    pub is_own : IsOwn own
    pub hands : Hands p k (may_bring c.le) bytes own
    pub means : Means first c bytes own k

  fetched : (first k : CardState S) (c : Command) (p : Pair) (left : Left) → IsTidy left
      → is_fetch c.header ≡ true → first.left ≡ left
      → Fetches first (may_bring c.le) (p.content ++ status_bytes p.status) k left
      → Begins first c p k
  fetched first k c p Nothing_left tidy is waits goes = record {
    bytes = [];
    own = (0x69, 0x85);
    is_own = (refl, refl);
    hands = refuses_of p first k (may_bring c.le) (0x69, 0x85) goes;
    means = λ gathered status new same r.
        subst (λ v. AsIfBy takes Act By_whole first c gathered status new v) (sym is)
        (subst (λ l. IsFetched By_whole first c gathered status new l) (sym waits)
        (refused_so c (0x69, 0x85) first new gathered status (same ∙ goes.same) r));
  }
  fetched first k c p (For_fetch bytes own) tidy is waits goes = record {
    bytes = bytes;
    own = own;
    is_own = tidy.1;
    hands = hands_of p k (may_bring c.le) bytes own goes.1;
    means = λ gathered status new same r.
        subst (λ v. AsIfBy takes Act By_whole first c gathered status new v) (sym is)
        (subst (λ l. IsFetched By_whole first c gathered status new l) (sym waits)
        (same ∙ goes.0, r));
  }
  fetched first k c p (For_repeat h bytes own) tidy is waits goes = absurd tidy

  called_so : (first k : CardState S) (c : Command) (p : Pair) (o : Option Command)
      → is_fetch c.header ≡ false
      → shown (takes first.app c.header) c.header c.content c.le ≡ o
      → CarriesTold Act first c (p.content ++ status_bytes p.status) k o → Begins first c p k
  called_so first k c p None is shows goes = record {
    bytes = [];
    own = (0x67, 0x00);
    is_own = (refl, refl);
    hands = refuses_of p first k (may_bring c.le) (0x67, 0x00) goes;
    means = λ gathered status new same r.
        subst (λ v. AsIfBy takes Act By_whole first c gathered status new v) (sym is)
        (subst (λ o. IsCalledWith Act By_whole first c gathered status new o) (sym shows)
        (refused_so c (0x67, 0x00) first new gathered status (same ∙ goes.same) r));
  }
  called_so first k c p (Some called) is shows goes = record {
    bytes = goes.bytes;
    own = goes.status;
    is_own = (own_made Act first.app k.app called goes.bytes goes.status goes.makes).0;
    hands = hands_of p k (may_bring c.le) goes.bytes goes.status goes.hands;
    means = λ gathered status new same r.
        subst (λ v. AsIfBy takes Act By_whole first c gathered status new v) (sym is)
        (subst (λ o. IsCalledWith Act By_whole first c gathered status new o) (sym shows)
        (record {
          response = goes.bytes;
          own = goes.status;
          makes = subst (λ a. Makes Act first.app called goes.bytes goes.status a) (sym same)
              goes.makes;
          reports = r;
        }));
  }

  pub begins : (first k : CardState S) (c : Command) (p : Pair) → IsTidy first.left
      → Responds takes Act first c (p.content ++ status_bytes p.status) k → Begins first c p k
  begins first k c p tidy goes = by (is_fetch c.header) refl goes where
    by : (v : Bool) → is_fetch c.header ≡ v
        → RespondsBy takes Act first c (p.content ++ status_bytes p.status) k v
        → Begins first c p k
    by true is goes = fetched first k c p first.left tidy is refl goes
    by false is goes =
        called_so first k c p (shown (takes first.app c.header) c.header c.content c.le) is refl
        goes

  -- a later response of the exchange's own GET RESPONSE
  pub fetch_hands : (p : Pair) (old k : CardState S) (n b : ℕ) (bytes : List ℕ)
      (own : StatusWord) (due : Command) → due ≡ asking get_response n
      → old.left ≡ For_fetch (b ∷ bytes) own
      → Responds takes Act old due (p.content ++ status_bytes p.status) k
      → (k.app ≡ old.app) × Hands p k n (b ∷ bytes) own
  fetch_hands p old k n b bytes own due is waits responds =
      let response : List ℕ = p.content ++ status_bytes p.status in
      let goes : Fetches old n response k old.left =
      subst (λ (x : Command). Responds takes Act old x response k) is responds in
      let (same, hands) : (k.app ≡ old.app) × HandsOut (b ∷ bytes) own n response k.left =
      subst (λ l. Fetches old n response k l) waits goes in
      (same, hands_of p k n (b ∷ bytes) own hands)

  -- ---- one call at most, and nothing but the rest of a response waits

  fetch_keeps : (left : Left) (old k : CardState S) (n : ℕ) (response : List ℕ)
      → Fetches old n response k left → k.app ≡ old.app
  fetch_keeps Nothing_left old k n response goes = goes.same
  fetch_keeps (For_fetch bytes own) old k n response goes = goes.0
  fetch_keeps (For_repeat h bytes own) old k n response goes = goes.same

  told_so : (o : Option Command) (old k : CardState S) (c : Command) (response : List ℕ)
      → CarriesTold Act old c response k o → HasCalled Act old.app o k.app
  told_so None old k c response goes = goes.same
  told_so (Some called) old k c response goes = (goes.bytes, goes.status, goes.makes)

  pub once_so : (old k : CardState S) (c : Command) (response : List ℕ)
      → Responds takes Act old c response k
      → HasCalled Act old.app (told_to (takes old.app) c) k.app
  once_so old k c response goes = by (is_fetch c.header) goes where
    by : (v : Bool) → RespondsBy takes Act old c response k v
        → HasCalled Act old.app
        (if v then None else shown (takes old.app c.header) c.header c.content c.le) k.app
    by true goes = fetch_keeps old.left old k (may_bring c.le) response goes
    by false goes =
        told_so (shown (takes old.app c.header) c.header c.content c.le) old k c response goes

  hand_tidy : (n : ℕ) (bytes response : List ℕ) (own : StatusWord) (left : Left) → IsOwn own
      → length bytes ≤ OWN_RESPONSE_LIMIT → HandsOut bytes own n response left → IsTidy left
  hand_tidy n bytes response own left is short hands =
      subst IsTidy (sym hands.left_is) (tidy_rest (drop n bytes) own is (shorter n bytes short))

  pub responds_tidy : (old k : CardState S) (c : Command) (response : List ℕ) → IsTidy old.left
      → Responds takes Act old c response k → IsTidy k.left
  responds_tidy old k c response tidy goes = by (is_fetch c.header) goes where
    fetches : (left : Left) → IsTidy left → Fetches old (may_bring c.le) response k left
        → IsTidy k.left
    fetches Nothing_left tidy goes = subst IsTidy (sym goes.none_left) tt
    fetches (For_fetch bytes own) tidy goes =
        hand_tidy (may_bring c.le) bytes response own k.left tidy.1 tidy.2 goes.1
    fetches (For_repeat h bytes own) tidy goes = absurd tidy

    carries : (o : Option Command) → CarriesTold Act old c response k o → IsTidy k.left
    carries None goes = subst IsTidy (sym goes.none_left) tt
    carries (Some called) goes =
        let own = own_made Act old.app k.app called goes.bytes goes.status goes.makes in
        hand_tidy (may_bring c.le) goes.bytes response goes.status k.left own.0 own.1 goes.hands

    by : (v : Bool) → RespondsBy takes Act old c response k v → IsTidy k.left
    by true goes = fetches old.left tidy goes
    by false goes = carries (shown (takes old.app c.header) c.header c.content c.le) goes
