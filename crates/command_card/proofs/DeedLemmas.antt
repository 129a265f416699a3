-- What an application has been through, by what happened on the line.
use Rattle.std.proofs.Common.{◌≡◌, ◌∙◌, ℕ, ◌<◌, ◌≤◌, List, [], ◌∷◌, length, drop, Option, Some, None, Bool, true, false, inl, inr, refl, sym, ap, subst, arith, eq-eqb}
use Rattle.std.specs.Prelude.{if◌then◌else◌, ◌==◌, ◌&&◌, nat_lt}
use Rattle.std.proofs.lemmas.Bool.{and_from, eqb-true, ltb-true, ltb-false, true≢false}
use Rattle.command_card.proofs.AnswerLemmas.{both_true, headers_same, same_as_itself}
use Rattle.apdu_core.specs.declared.header.Header.{Header}
use Rattle.apdu_core.specs.HeaderBytes.{ins_is_valid}
use Rattle.apdu_core.specs.StatusWord.{StatusWord, corrects, count}
use Rattle.t0_core.specs.CardHistory.{Leads}
use Rattle.t0_core.specs.CardSide.{Stage}
use Rattle.t0_core.specs.Front.{front_characters}
use Rattle.t0_core.specs.HistoryLaws.{leads_are_cut}
use Rattle.t0_core.specs.History.{Event, Item, Whole, Cut_off, RunsOver}
use Rattle.t0_core.specs.Meaning.{Prepared, Tpdu, tpdu_of}
use Rattle.t0_core.specs.Plan.{IsCut}
use Rattle.command_card.specs.Carrying.{Did}
use Rattle.command_card.specs.State.{CardState, For_fetch, For_repeat, Hand, Left, Nothing_left, Outcome, announcing, fetch_left, handed, is_fetch, pending_for, refusing, same_header}
use Rattle.command_card.specs.Meaning.{Answers, Does, DoesBy, kind_of}
use Rattle.command_card.proofs.HandLemmas.{handed_enough, handed_fewer}
use Rattle.command_card.proofs.WholeLemmas.{count_of_byte, own_status}
use Rattle.command_card.specs.View.{after_reset}
use Rattle.command_card.specs.Deeds.{GoesThrough, IsCarriedOut, IsThrough, IsWithout, Repeats, StepsBy}

-- the TPDU before got no 6CXX, unless it was a GET RESPONSE
abbrev pub NotSaid : Option Tpdu → Type 0
NotSaid None = Unit {0}
NotSaid (Some u) = is_fetch u.header ≡ false → corrects u.status ≡ None

-- a response waits for its header again exactly if the TPDU before said so by 6CXX
abbrev pub IsSaid : Left → Option Tpdu → Type 0
IsSaid Nothing_left before = NotSaid before
IsSaid (For_fetch bytes status) before = NotSaid before × (corrects status ≡ None)
IsSaid (For_repeat header bytes status) before = ((u : Tpdu) × (before ≡ Some u)
    × (u.header ≡ header) × (corrects u.status ≡ Some (length bytes)))
    × (corrects status ≡ None)

fetched_said : (bytes : List ℕ) (status : StatusWord) (cut : ℕ) (t : Tpdu)
    → corrects status ≡ None → t.status ≡ announcing bytes status cut
    → IsSaid (fetch_left bytes status) (Some t)
fetched_said [] status cut t own is =
    λ other. subst (λ (s : StatusWord). corrects s ≡ None) (sym is) own
fetched_said (b ∷ bytes) status cut t own is =
    (λ other. subst (λ (s : StatusWord). corrects s ≡ None) (sym is) refl, own)

-- after 6CXX the same header with that P3 finds the response
pub never_repeats : (left : Left) (before : Option Tpdu) (t : Tpdu) → IsSaid left before
    → pending_for left t.header t.p3 ≡ None → is_fetch t.header ≡ false → Repeats before t → ⊥
never_repeats left None t said none fetch repeats = repeats
never_repeats Nothing_left (Some u) t said none fetch (header_is, corrected) =
    let no : None ≡ Some t.p3 = sym (said (ap is_fetch header_is ∙ fetch)) ∙ corrected in
    absurd (cc)
never_repeats (For_fetch bytes status) (Some u) t said none fetch (header_is, corrected) =
    let no : None ≡ Some t.p3 = sym (said.0 (ap is_fetch header_is ∙ fetch)) ∙ corrected in
    absurd (cc)
never_repeats (For_repeat g bytes status) (Some u) t ((v, v_is, g_is, counts), own) none fetch
    (header_is, corrected) =
    let same : u ≡ v = cc in
    let header_same : t.header ≡ g =
    sym header_is ∙ ap (λ (x : Tpdu). x.header) same ∙ g_is in
    let long : Some (length bytes) ≡ Some t.p3 =
    sym counts ∙ sym (ap (λ (x : Tpdu). corrects x.status) same) ∙ corrected in
    let p3_is : length bytes ≡ t.p3 = cc in
    let it : Option Hand = Some (record { bytes = bytes; status = status }) in
    let finds : (same_header g t.header && (length bytes == t.p3)) ≡ true =
    and_from _ _ (subst (λ h. same_header g h ≡ true) (sym header_same) (same_as_itself g))
    (eq-eqb (length bytes) t.p3 p3_is) in
    let no : None ≡ it =
    sym none ∙ ap (λ (w : Bool). if w then it else None) finds in
    absurd (cc)

-- what is handed over keeps `kept` only if there is less than was asked for
handed_said : (kept : Left) (bytes : List ℕ) (status : StatusWord) (n cut : ℕ) (t : Tpdu)
    → corrects status ≡ None → t.status ≡ (handed kept bytes status n cut).status
    → (1 ≤ length bytes → length bytes < n → t.status ≡ (0x6C, length bytes)
    → IsSaid kept (Some t))
    → IsSaid (handed kept bytes status n cut).left (Some t)
handed_said kept [] status n cut t own is said =
    λ other. subst (λ (s : StatusWord). corrects s ≡ None) (sym is) own
handed_said kept (b ∷ bytes) status n cut t own is said =
    split (nat_lt (length (b ∷ bytes)) n) refl
  where
    split : (v : Bool) → nat_lt (length (b ∷ bytes)) n ≡ v
        → IsSaid (handed kept (b ∷ bytes) status n cut).left (Some t)
    split true e =
        let few = ltb-true (length (b ∷ bytes)) n e in
        let it = handed_fewer kept (b ∷ bytes) status n cut (omega arith) few in
        subst (λ (o : Outcome). IsSaid o.left (Some t)) (sym it)
        (said (omega arith) few (is ∙ ap (λ (o : Outcome). o.status) it))
    split false e =
        let many = ltb-false (length (b ∷ bytes)) n e in
        let it = handed_enough kept (b ∷ bytes) status n cut (omega arith) many in
        subst (λ (o : Outcome). IsSaid o.left (Some t)) (sym it)
        (fetched_said (drop n (b ∷ bytes)) status cut t own
        (is ∙ ap (λ (o : Outcome). o.status) it))

-- the response that was looked for
found : (v : Bool) (it hand : Hand) → (if v then Some it else None) ≡ Some hand
    → (v ≡ true) × (it ≡ hand)
found true it hand e = (refl, cc)
found false it hand e = absurd (cc)

-- a header of the application's own is a command
pub is_command : (before : Option Tpdu) (t : Tpdu) → ins_is_valid t.header.ins ≡ true
    → is_fetch t.header ≡ false → (Repeats before t → ⊥) → IsWithout before t → ⊥
is_command before t valid fetch once (inl invalid) = absurd (true≢false (sym valid ∙ invalid))
is_command before t valid fetch once (inr (inl fetches)) =
    absurd (true≢false (sym fetches ∙ fetch))
is_command before t valid fetch once (inr (inr repeats)) = once repeats

module _ {S : Type 0} (takes : S → Header → Bool) (Act : S → Did → S → Type 0) (reset : S → S) where
  -- what one TPDU does, by what the line tells
  pub record Tells (old : CardState S) (before : Option Tpdu) (t : Tpdu) (new : CardState S)
      : Type 0 where
    pub steps : StepsBy takes Act before old.app t new.app
    pub said : IsSaid new.left (Some t)

  refused_tells : (old new : CardState S) (before : Option Tpdu) (t : Tpdu) (status : StatusWord)
      → corrects status ≡ None → Answers old t new (refusing status) → IsWithout before t
      → Tells old before t new
  refused_tells old new before t status own is without = record {
    steps = inl (without, is.same);
    said = subst (λ l. IsSaid l (Some t)) (sym is.brings.left_is)
        (λ other. subst (λ (s : StatusWord). corrects s ≡ None) (sym is.brings.status_is) own);
  }

  -- a pending response that is handed over
  hand_tells : (left : Left) (old new : CardState S) (before : Option Tpdu) (cut : ℕ) (t : Tpdu)
      (hand : Hand) → IsSaid left before → pending_for left t.header t.p3 ≡ Some hand
      → Answers old t new (handed left hand.bytes hand.status (count t.p3) cut)
      → Tells old before t new
  hand_tells Nothing_left old new before cut t hand said pending is = absurd (cc)
  hand_tells (For_fetch bytes status) old new before cut t hand said pending is =
      let (fetches, hand_is) = found (is_fetch t.header)
      (record { bytes = bytes; status = status }) hand pending in
      let own : corrects hand.status ≡ None =
      subst (λ (h : Hand). corrects h.status ≡ None) hand_is said.1 in
      record {
        steps = inl (inr (inl fetches), is.same);
        said = subst (λ l. IsSaid l (Some t)) (sym is.brings.left_is)
            (handed_said (For_fetch bytes status) hand.bytes hand.status (count t.p3) cut t own
            is.brings.status_is (λ some few six. (
              λ other. absurd (true≢false (sym fetches ∙ other)),
              said.1,
            )));
      }
  hand_tells (For_repeat g bytes status) old new before cut t hand said pending is =
      let (finds, hand_is) = found (same_header g t.header && (length bytes == t.p3))
      (record { bytes = bytes; status = status }) hand pending in
      let (header_is, p3_is) = both_true _ _ finds in
      let long = eqb-true (length bytes) t.p3 p3_is in
      let own : corrects hand.status ≡ None =
      subst (λ (h : Hand). corrects h.status ≡ None) hand_is said.1 in
      let (u, before_is, u_header, u_told) = said.0 in
      let repeats : Repeats before t =
      subst (λ b. Repeats b t) (sym before_is)
      (u_header ∙ headers_same g t.header header_is, u_told ∙ ap (λ n. Some n) long) in
      let same : length bytes ≡ length hand.bytes =
      ap (λ (h : Hand). length h.bytes) hand_is in
      record {
        steps = inl (inr (inr repeats), is.same);
        said = subst (λ l. IsSaid l (Some t)) (sym is.brings.left_is)
            (handed_said (For_repeat g bytes status) hand.bytes hand.status (count t.p3) cut t own
            is.brings.status_is
            (λ some few six. absurd (omega (
              arith,
              some,
              few,
              same,
              long,
              count_of_byte t.p3 (omega (arith, some, same, long)),
            ))));
      }

  pub tells : (old new : CardState S) (before : Option Tpdu) (cut : ℕ) (t : Tpdu) → IsCut cut
      → IsSaid old.left before → Does takes Act old cut t new → Tells old before t new
  tells old new before cut t is_cut said does =
      by (ins_is_valid t.header.ins) (pending_for old.left t.header t.p3) (is_fetch t.header)
      (takes old.app t.header) refl refl refl refl does
    where
      by : (v : Bool) (p : Option Hand) (f k : Bool) → ins_is_valid t.header.ins ≡ v
          → pending_for old.left t.header t.p3 ≡ p → is_fetch t.header ≡ f
          → takes old.app t.header ≡ k → DoesBy Act old cut t new (kind_of v p f k)
          → Tells old before t new
      by false p f k valid pending fetch takes_is is =
          refused_tells old new before t (0x6D, 0x00) refl is (inl valid)
      by true (Some hand) f k valid pending fetch takes_is is =
          hand_tells old.left old new before cut t hand said pending is
      by true None true k valid pending fetch takes_is is =
          refused_tells old new before t (0x69, 0x85) refl is (inr (inl fetch))
      by true None false true valid pending fetch takes_is is = record {
        steps = inr (
          is_command before t valid fetch (never_repeats old.left before t said pending fetch),
          subst (λ k. IsCarriedOut Act k old.app t new.app) (sym takes_is) (record {
            response = is.response;
            status = is.status;
            cut = cut;
            is_cut = is_cut;
            has_data = is.counts;
            makes = is.makes;
            received_is = is.brings.received_is;
            status_is = is.brings.status_is;
          }),
        );
        said = subst (λ l. IsSaid l (Some t)) (sym is.brings.left_is)
            (fetched_said is.response is.status cut t
            (own_status Act old.app _ is.response is.status new.app is.makes).1
            is.brings.status_is);
      }
      by true None false false valid pending fetch takes_is is =
          let kept : Left = For_repeat t.header is.response is.status in
          let own = (own_status Act old.app _ is.response is.status new.app is.makes).1 in record {
            steps = inr (
              is_command before t valid fetch (never_repeats old.left before t said pending fetch),
              subst (λ k. IsCarriedOut Act k old.app t new.app) (sym takes_is) (record {
                response = is.response;
                status = is.status;
                cut = cut;
                is_cut = is_cut;
                has_data = is.none_sent;
                makes = is.makes;
                received_is = is.brings.received_is;
                status_is = is.brings.status_is;
              }),
            );
            said = subst (λ l. IsSaid l (Some t)) (sym is.brings.left_is)
                (handed_said kept is.response is.status (count t.p3) cut t own is.brings.status_is
                (λ some few six. (
                  (
                    t,
                    refl,
                    refl,
                    ap (λ s. corrects s) six
                        ∙ ap (λ n. Some n) (count_of_byte (length is.response) some),
                  ),
                  own,
                )));
          }

  pub goes_through : (items : List Item) (first last : CardState S) (before : Option Tpdu)
      → IsSaid first.left before
      → RunsOver (Does takes Act) (after_reset reset) first items last
      → GoesThrough takes Act reset before first.app items last.app
  goes_through [] first last before said runs = ap (λ (s : CardState S). s.app) runs
  goes_through (Whole d ∷ items) first last before said (plan, mid, under, does, runs) =
      let t = tells first mid before plan.cut (tpdu_of d) under.in_range said does in
      (mid.app, t.steps, goes_through items mid last (Some (tpdu_of d)) t.said runs)
  goes_through (Cut_off part ∷ items) first last before said (is_part, runs) =
      goes_through items (after_reset reset first) last None tt runs

  pub through : (first last : CardState S) (events : List Event)
      (prepared : Prepared (CardState S)) (stage : Stage) → first.left ≡ Nothing_left
      → Leads (Does takes Act) (after_reset reset) first events last prepared stage
      → IsThrough takes Act reset first.app events last.app
  through first last events prepared stage none leads = record {
    items = leads.items;
    part = front_characters leads.front;
    are_cut = leads_are_cut (Does takes Act) (after_reset reset) first events last prepared stage
        leads;
    goes = goes_through leads.items first last None
        (subst (λ l. IsSaid l None) (sym none) tt) leads.runs;
  }
