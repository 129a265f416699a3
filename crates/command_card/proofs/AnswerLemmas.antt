-- What an answer that is prepared does.
use Rattle.std.proofs.Common.{◌≡◌, ◌∙◌, ◌+◌, ◌-◌, ◌<◌, ◌≤◌, min, ◌⊎◌, inl, inr, ℕ, List, [], length, take, drop, Option, Some, None, Bool, true, false, refl, sym, ap, subst, arith, eq-eqb, length-take, length-drop}
use Rattle.std.proofs.lemmas.Bool.{and_from, eqb-true}
use Rattle.std.proofs.lemmas.List.{drop-drop, drop-take, take-take, take_rest}
use Rattle.std.specs.Prelude.{if◌then◌else◌, ◌==◌, ◌&&◌, SomeIff}
use Rattle.apdu_core.specs.declared.header.Header.{Header}
use Rattle.apdu_core.specs.StatusWord.{StatusWord, count}
use Rattle.t0_core.specs.Meaning.{Ask, Tpdu, Decides, refused, taken_with, answered_with}
use Rattle.t0_core.specs.CardContract.{Judges, IsRefusal, Permits}
use Rattle.t0_core.specs.DataRun.{IsRunAt}
use Rattle.t0_core.specs.declared.tpdu_card.Verdict.{Verdict}
use Rattle.t0_core.specs.declared.tpdu_card.Verdict.TheVariants.{Refuse, Receive, Send}
use Rattle.command_card.specs.declared.ready.Waiting.{Waiting}
use Rattle.command_card.specs.declared.ready.Waiting.TheVariants as waiting
use Rattle.command_card.specs.declared.ready.Ending.{Ending}
use Rattle.command_card.specs.declared.ready.Ready.{Ready}
use Rattle.command_card.specs.declared.ready.Ready.TheVariants as ready
use Rattle.command_card.specs.Carrying.{Did, Makes, asking, taking}
use Rattle.command_card.specs.State.{CardState, Hand, For_repeat, Outcome, announcing, fetch_left, handed, is_fetch, pending_for, refusing, same_header}
use Rattle.command_card.specs.Meaning.{Answers, Brings, CarriesAsked, CarriesTaken, Does, DoesBy, Kind, kind_in, kind_of, Takes, Asks, Hands}
use Rattle.command_card.specs.View.{left_of, state_of, state_after, buffer_of, ask_of, prepared_of, IsReady, Prepares, MayReceive, MaySend, WaitsFor}
use Rattle.command_card.proofs.HandLemmas.{count_some}

pub kind_by : (v w : Bool) (p q : Option Hand) (f g t u : Bool) → v ≡ w → p ≡ q → f ≡ g → t ≡ u
    → kind_of v p f t ≡ kind_of w q g u
kind_by v w p q f g t u a b c d = cc

-- the command that was made
pub made_is : {T : Type 0} (o : Option T) (P : Type 0) (parts value : T) → SomeIff o P parts
    → o ≡ Some value → value ≡ parts
made_is o P parts value made is =
    let Q = λ (x : Option _). SomeIff x P parts in (subst Q is made).1

pub refusal_is : (v : Verdict) (status : StatusWord) → v ≡ Refuse status → IsRefusal v
refusal_is v status is = subst IsRefusal (sym is) tt

-- the bytes from an index on, in the buffer that contains them from `from` on
pub run_is : (xs buffer : List ℕ) (from n k at m : ℕ) → xs ≡ buffer → k ≡ n
    → at < length (take n (drop from buffer))
    → m ≡ min (k - at) (length (take (length xs - (from + at)) (drop (from + at) xs)))
    → IsRunAt (take n (drop from buffer)) at
    (take m (take (length xs - (from + at)) (drop (from + at) xs)))
run_is xs buffer from n k at m same counts within m_is =
    let all : List ℕ = take n (drop from buffer) in
    let rest : List ℕ = drop (from + at) buffer in
    let is : take (length xs - (from + at)) (drop (from + at) xs) ≡ rest =
    take_rest xs (from + at) ∙ ap (λ ys. drop (from + at) ys) same in
    let m_small : m ≡ min (n - at) (length rest) =
    m_is ∙ ap (λ ys. min (k - at) (length ys)) is ∙ ap (λ j. min (j - at) (length rest)) counts in
    let n_is : n ≡ at + (n - at) = omega (arith, within, length-take n (drop from buffer)) in
    let left : drop at all ≡ take (n - at) rest =
    ap (λ j. drop at (take j (drop from buffer))) n_is ∙ drop-take at (n - at) (drop from buffer)
    ∙ ap (λ ys. take (n - at) ys) (drop-drop at from buffer) in
    let long : length (take m rest) ≡ m = omega (arith, length-take m rest, m_small) in
    subst (λ run. IsRunAt all at run) (ap (λ ys. take m ys) (sym is)) (
      omega (
        arith,
        within,
        long,
        m_small,
        length-take n (drop from buffer),
        length-drop from buffer,
        length-drop (from + at) buffer,
      ),
      sym (ap (λ j. take j (drop at all)) long ∙ ap (λ ys. take m ys) left
          ∙ take-take m (n - at) rest (omega (arith, m_small))),
    )

module _ {S : Type 0} (takes : S → Header → Bool) (Act : S → Did → S → Type 0) where
  -- data that were taken are an answer
  pub took_does : (app now next : S) (kept fresh : List ℕ) (w : Waiting) (h : Header) (p3 cut : ℕ)
      (content : List ℕ) (status answer : StatusWord) (settles : Bool) (left : Waiting)
      → now ≡ app → kind_in takes (state_of app kept w) h p3 ≡ Takes → length content ≡ p3
      → Makes Act app (taking h content) fresh status (if settles then next else app)
      → answer ≡ announcing fresh status cut → left_of fresh left ≡ fetch_left fresh status
      → Decides (Does takes Act) (state_of app kept w) cut
      (taken_with (ask_of h p3 cut) content answer)
      (prepared_of now next kept fresh
      (ready.Leaves (record { settles = settles; fresh = true; left = left })))
  took_does app now next kept fresh w h p3 cut content status answer settles left same kind counts
      makes answer_is left_is =
      let ending : Ending = record { settles = settles; fresh = true; left = left } in
      let tpdu : Tpdu = taken_with (ask_of h p3 cut) content answer in
      let new : CardState S = state_after app next kept fresh ending in
      let P : S → Type 0 = λ s. Decides (Does takes Act) (state_of app kept w) cut tpdu
      (prepared_of s next kept fresh (ready.Leaves ending)) in
      let K : Kind → Type 0 = λ k. DoesBy Act (state_of app kept w) cut tpdu new k in
      let carries : CarriesTaken Act (state_of app kept w) cut tpdu new = record {
        response = fresh;
        status = status;
        makes = makes;
        counts = sym counts;
        brings = record { received_is = refl; status_is = answer_is; left_is = left_is };
      } in
      subst P (sym same) (new, refl, subst K (sym kind) carries)

  -- TPDUs of this header without data that bring this outcome are answers
  abbrev pub Allows : CardState S → Header → ℕ → ℕ → Outcome → S → Type 0
  Allows old h p3 cut o app = (t : Tpdu) (new : CardState S) → t.header ≡ h → t.p3 ≡ p3
      → t.sent ≡ [] → Brings t new.left o → new.app ≡ app → Does takes Act old cut t new

  pub refusal_allowed : (old : CardState S) (h : Header) (p3 cut : ℕ) (status : StatusWord)
      (k : Kind) → kind_in takes old h p3 ≡ k
      → ((t : Tpdu) (new : CardState S) → Answers old t new (refusing status)
      → DoesBy Act old cut t new k)
      → Allows old h p3 cut (refusing status) old.app
  refusal_allowed old h p3 cut status k kind does t new h_is p3_is sent brings same =
      let K : Kind → Type 0 = λ k. DoesBy Act old cut t new k in
      let e : kind_in takes old t.header t.p3 ≡ k =
      ap (λ x. kind_in takes old x t.p3) h_is ∙ ap (λ n. kind_in takes old h n) p3_is ∙ kind in
      subst K (sym e) (does t new (record { same = same; none_sent = sent; brings = brings }))

  pub hand_allowed : (old : CardState S) (h : Header) (p3 cut : ℕ) (hand : Hand)
      → kind_in takes old h p3 ≡ Hands hand
      → Allows old h p3 cut (handed old.left hand.bytes hand.status (count p3) cut) old.app
  hand_allowed old h p3 cut hand kind t new h_is p3_is sent brings same =
      let K : Kind → Type 0 = λ k. DoesBy Act old cut t new k in
      let B : ℕ → Type 0 = λ n. Brings t new.left
      (handed old.left hand.bytes hand.status (count n) cut) in
      let e : kind_in takes old t.header t.p3 ≡ Hands hand =
      ap (λ x. kind_in takes old x t.p3) h_is ∙ ap (λ n. kind_in takes old h n) p3_is ∙ kind in
      subst K (sym e)
      (record { same = same; none_sent = sent; brings = subst B (sym p3_is) brings })

  pub asked_allowed : (old : CardState S) (h : Header) (p3 cut : ℕ) (response : List ℕ)
      (status : StatusWord) (app : S) → kind_in takes old h p3 ≡ Asks
      → Makes Act old.app (asking h (count p3)) response status app
      → Allows old h p3 cut
      (handed (For_repeat h response status) response status (count p3) cut) app
  asked_allowed old h p3 cut response status app kind makes t new h_is p3_is sent brings same =
      let K : Kind → Type 0 = λ k. DoesBy Act old cut t new k in
      let B : ℕ → Header → Type 0 = λ n x. Brings t new.left
      (handed (For_repeat x response status) response status (count n) cut) in
      let M : ℕ → Header → S → Type 0 = λ n x s. Makes Act old.app (asking x (count n))
      response status s in
      let e : kind_in takes old t.header t.p3 ≡ Asks =
      ap (λ x. kind_in takes old x t.p3) h_is ∙ ap (λ n. kind_in takes old h n) p3_is ∙ kind in
      let carries : CarriesAsked Act old cut t new = record {
        response = response;
        status = status;
        makes = subst (λ s. M t.p3 t.header s) (sym same) (subst (λ x. M t.p3 x app) (sym h_is)
            (subst (λ n. M n h app) (sym p3_is) makes));
        none_sent = sent;
        brings = subst (λ x. B t.p3 x) (sym h_is) (subst (λ n. B n h) (sym p3_is) brings);
      } in
      subst K (sym e) carries

  -- what is prepared by a verdict is an answer
  pub judges : (app now next : S) (kept fresh : List ℕ) (w : Waiting) (h : Header) (p3 cut : ℕ)
      (o : Outcome) (settles is_fresh : Bool) (v : Verdict) (r : Ready) → now ≡ app
      → Allows (state_of app kept w) h p3 cut o (if settles then next else app)
      → Prepares (buffer_of is_fresh kept fresh) (ask_of h p3 cut) o settles is_fresh v r
      → Judges (Does takes Act) (state_of app kept w) (ask_of h p3 cut) v
      (prepared_of now next kept fresh r)
      × IsReady takes Act now next kept fresh w r
  judges app now next kept fresh w h p3 cut o settles is_fresh v r same allows prepares =
      let P : S → Type 0 = λ s. Judges (Does takes Act) (state_of app kept w) (ask_of h p3 cut) v
      (prepared_of s next kept fresh r) × IsReady takes Act s next kept fresh w r in
      subst P (sym same) (each v prepares)
    where
      each : (v : Verdict)
          → Prepares (buffer_of is_fresh kept fresh) (ask_of h p3 cut) o settles is_fresh v r
          → Judges (Does takes Act) (state_of app kept w) (ask_of h p3 cut) v
          (prepared_of app next kept fresh r)
          × IsReady takes Act app next kept fresh w r
      each (Refuse status) (left, r_is, none, status_is, left_is) =
          let ending : Ending = record { settles = settles; fresh = is_fresh; left = left } in
          let new : CardState S = state_after app next kept fresh ending in
          let R : Ready → Type 0 = λ x. Judges (Does takes Act) (state_of app kept w)
          (ask_of h p3 cut) (Refuse status) (prepared_of app next kept fresh x)
          × IsReady takes Act app next kept fresh w x in
          subst R (sym r_is) (
            (
              new,
              refl,
              allows (refused (ask_of h p3 cut) status) new refl refl refl
                  (record {
                    received_is = sym none;
                    status_is = sym status_is;
                    left_is = left_is;
                  }) refl,
            ),
            tt,
          )
      each Receive never = absurd never
      each Send (from, status, left, r_is, received, long, status_is, left_is) =
          let ending : Ending = record { settles = settles; fresh = is_fresh; left = left } in
          let new : CardState S = state_after app next kept fresh ending in
          let R : Ready → Type 0 = λ x. Judges (Does takes Act) (state_of app kept w)
          (ask_of h p3 cut) Send (prepared_of app next kept fresh x)
          × IsReady takes Act app next kept fresh w x in
          subst R (sym r_is) (
            (refl, long),
            allows (answered_with (ask_of h p3 cut)
                (take (count p3) (drop from (buffer_of is_fresh kept fresh))) status) new
                refl refl refl (record {
                  received_is = sym received;
                  status_is = sym status_is;
                  left_is = left_is;
                }) refl,
          )

-- ---- data move only under headers for which they may

-- the header of a command that takes data
takes_kind : (v : Bool) (p : Option Hand) (fetches takes : Bool)
    → kind_of v p fetches takes ≡ Takes → (fetches ≡ false) × (takes ≡ true)
takes_kind true None false true e = (refl, refl)
takes_kind v p f t e = absurd (cc)

asks_kind : (v : Bool) (p : Option Hand) (fetches takes : Bool)
    → kind_of v p fetches takes ≡ Asks → takes ≡ false
asks_kind true None false false e = refl
asks_kind v p f t e = absurd (cc)

hands_kind : (v : Bool) (p : Option Hand) (fetches takes : Bool) (hand : Hand)
    → kind_of v p fetches takes ≡ Hands hand → p ≡ Some hand
hands_kind true (Some other) f t hand e = cc
hands_kind false p f t hand e = absurd (cc)
hands_kind true None true t hand e = absurd (cc)
hands_kind true None false true hand e = absurd (cc)
hands_kind true None false false hand e = absurd (cc)

pub both_true : (a b : Bool) → (a && b) ≡ true → (a ≡ true) × (b ≡ true)
both_true true true e = (refl, refl)
both_true a b e = absurd (cc)

pub headers_same : (g h : Header) → same_header g h ≡ true → g ≡ h
headers_same g h e =
    let (abc, d) = both_true _ _ e in
    let (ab, c) = both_true _ _ abc in
    let (a, b) = both_true _ _ ab in
    let cla = eqb-true g.cla h.cla a in
    let ins = eqb-true g.ins h.ins b in
    let p1 = eqb-true g.p1 h.p1 c in
    let p2 = eqb-true g.p2 h.p2 d in
    ap (λ x. record { cla = x; ins = g.ins; p1 = g.p1; p2 = g.p2 }) cla
    ∙ ap (λ x. record { cla = h.cla; ins = x; p1 = g.p1; p2 = g.p2 }) ins
    ∙ ap (λ x. record { cla = h.cla; ins = h.ins; p1 = x; p2 = g.p2 }) p1
    ∙ ap (λ x. record { cla = h.cla; ins = h.ins; p1 = h.p1; p2 = x }) p2

pub same_as_itself : (h : Header) → same_header h h ≡ true
same_as_itself h =
    and_from _ _ (and_from _ _ (and_from _ _ (eq-eqb h.cla h.cla refl) (eq-eqb h.ins h.ins refl))
    (eq-eqb h.p1 h.p1 refl)) (eq-eqb h.p2 h.p2 refl)

-- a header that asks for the pending response fetches it, or is the one that waits again
pending_header : (bytes : List ℕ) (w : Waiting) (h : Header) (p3 : ℕ) (hand : Hand)
    → pending_for (left_of bytes w) h p3 ≡ Some hand → (is_fetch h ≡ true) ⊎ WaitsFor w h
pending_header bytes waiting.Nothing h p3 hand e = absurd (cc)
pending_header bytes (waiting.Fetch from status) h p3 hand e = split (is_fetch h) refl e
  where
    split : (v : Bool) → is_fetch h ≡ v
        → (if v then Some (record { bytes = drop from bytes; status = status }) else None)
        ≡ Some hand → (is_fetch h ≡ true) ⊎ ⊥
    split true is e = inl is
    split false is e = absurd (cc)
pending_header bytes (waiting.Repeat g status) h p3 hand e =
    split (same_header g h) (length bytes == p3) refl e
  where
    split : (v counts : Bool) → same_header g h ≡ v
        → (if v && counts then Some (record { bytes = bytes; status = status }) else None)
        ≡ Some hand → (is_fetch h ≡ true) ⊎ (h ≡ g)
    split true counts is e = inr (sym (headers_same g h is))
    split false counts is e = absurd (cc)

module _ {S : Type 0} (takes : S → Header → Bool) (Act : S → Did → S → Type 0) where
  -- only a command that asks for data, or a response that is handed over, sends some
  may_send : (old new : CardState S) (cut : ℕ) (t : Tpdu) (k : Kind)
      → kind_in takes old t.header t.p3 ≡ k → DoesBy Act old cut t new k
      → 1 ≤ length t.received
      → ((hand : Hand) → pending_for old.left t.header t.p3 ≡ Some hand
      → MaySend takes t.header)
      → MaySend takes t.header
  may_send old new cut t Asks kind does some waits = inr (old.app, asks_kind _ _ _ _ kind)
  may_send old new cut t (Hands hand) kind does some waits =
      waits hand (hands_kind _ _ _ _ hand kind)
  may_send old new cut t other kind does some waits =
      absurd (omega (arith, some, ap length does.brings.received_is))

  pub permits : (app next : S) (kept fresh : List ℕ) (w : Waiting) (h : Header) (p3 cut : ℕ)
      (v : Verdict) (r : Ready) → ((again : Header) → WaitsFor w again → MaySend takes again)
      → Judges (Does takes Act) (state_of app kept w) (ask_of h p3 cut) v
      (prepared_of app next kept fresh r)
      → IsReady takes Act app next kept fresh w r
      → Permits (MayReceive takes) (MaySend takes) h v
  permits app next kept fresh w h p3 cut (Refuse status) r waits judges fits = tt
  permits app next kept fresh w h p3 cut Receive (ready.Receives g q c) waits is fits =
      let kind = takes_kind _ _ _ _ fits.0 in
      subst (MayReceive takes) (ap (λ (a : Ask). a.header) is) (kind.0, app, kind.1)
  permits app next kept fresh w h p3 cut Send (ready.Sends g q c from status ending) waits
      (is, long) fits =
      let t : Tpdu = answered_with (ask_of g q c)
      (take (count q) (drop from (buffer_of ending.fresh kept fresh))) status in
      let hands : (hand : Hand) → pending_for (left_of kept w) g q ≡ Some hand
      → MaySend takes g = λ hand pending.
      elim (pending_header kept w g q hand pending) [
        | inl fetches ↦ inl fetches
        | inr again ↦ waits g again
      ] in
      subst (MaySend takes) (ap (λ (a : Ask). a.header) is)
      (may_send (state_of app kept w) (state_after app next kept fresh ending) c t
      (kind_in takes (state_of app kept w) g q) refl fits
      (omega (arith, long, count_some p3)) hands)
  permits _ _ _ _ _ _ _ _ _ _ _ never _ = absurd never
