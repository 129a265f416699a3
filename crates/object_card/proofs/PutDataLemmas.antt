-- A PUT DATA that is not refused: what it finds, its status, and the state after it.
use Rattle.std.proofs.Common.{◌≡◌, ◌≢◌, ◌∙◌, ℕ, zero, suc, ◌+◌, ◌<◌, ◌≤◌, List, [], ◌∷◌, ◌++◌, length, take, Option, Some, None, Bool, true, false, inl, inr, refl, sym, ap, subst, arith, length-append}
use Rattle.std.specs.Prelude.{slice_get, slice_set, unwrap_or, option_map, is_some, IfSome, IfNone, IsSome, if◌then◌else◌, ◌==◌, ◌&&◌, ◌||◌, bit_and}
use Rattle.std.proofs.lemmas.Bool.{eqb-true, ne_eqb, not-false}
use Rattle.std.proofs.lemmas.List.{take_at}
use Rattle.std.proofs.lemmas.Option.{slice_get_within}
use Rattle.apdu_core.specs.declared.header.Header.{Header}
use Rattle.apdu_core.specs.Chaining.{ChainState, IsChain, Accepts, added, as_last, idle}
use Rattle.apdu_core.specs.StatusWord.{StatusWord, ok}
use Rattle.t0_core.specs.Meaning.{taken_with}
use Rattle.object_card.specs.declared.limits.TheConstants.{VALUE_LIMIT}
use Rattle.object_card.specs.declared.response.Response.{Response}
use Rattle.object_card.specs.Tables.{is_locked}
use Rattle.object_card.specs.State.{CardState, IsCardState, NothingPending, ChainPending, chained, with_pending, selected_entries}
use Rattle.apdu_core.specs.Shared.{reply}
use Rattle.object_card.specs.OneStep.{Put, Answers, PutStatus, stores, does_not_store, wants_memory, with_put}
use Rattle.object_card.specs.Refusals.{is_select, is_put, named_tag, class_is_known, is_locked_among, OtherThanItsChain, UnknownClass, WrongParameters, LockedEntry}
use Rattle.object_card.specs.CardMeaning.{Does, chains, puts_value}
use Rattle.object_card.specs.CardFields.{ApplicationView, IsResponse, applications_of, held_at, aid_at, entries_at, pending_in, state_of}
use Rattle.object_card.specs.CardView.{NewValue, IsStanding, IsAsked, chain_before, length_before}
use Rattle.object_card.specs.PutData.{CanPut, DoesNotStore, IsPut, TakesPut}
use Rattle.object_card.specs.declared.ready.Ready.{Ready}
use Rattle.object_card.specs.declared.ready.Ready.TheVariants as ready
use Rattle.object_card.specs.StateLaws.{stays_sound, none_holds, keeps_to_limit, put_is_selected, stored_why}
use Rattle.object_card.proofs.TagLemmas.{names}
use Rattle.object_card.proofs.CardFieldLemmas.{entries-here, entries-known, selected-known, chained-bytes}
use Rattle.object_card.proofs.HeaderRefusalLemmas.{accepts}
use Rattle.object_card.proofs.VerdictLemmas.{leaves_standing}

-- a command that takes data and is not a SELECT is a PUT DATA
pub not_select : (h : Header) → (is_select h || is_put h) ≡ true → h.ins ≢ 0xA4 → is_put h ≡ true
not_select h toward other = subst (λ v. v ≡ true) (rw (ne_eqb h.ins 0xA4 other) refl) toward

-- a piece that joined the chain is removed again
undone : (chain : ChainState) (h : Header) (content : List ℕ) → IsChain chain → Accepts chain h
    → chain_before (added chain h content) (length_before chain) ≡ chain
undone chain h content is accepted = split chain.pending refl
  where
    split : (v : Option Header) → chain.pending ≡ v
        → chain_before (added chain h content) (option_map (λ first. length chain.bytes) v) ≡ chain
    split None e =
        let bytes : [] ≡ chain.bytes = sym (subst (λ v. IfNone v (chain.bytes ≡ [])) e is.empty) in
        λ i. record { bytes = bytes i; limit = chain.limit; pending = sym e i }
    split (Some first) e =
        let same : as_last h ≡ first = subst (λ v. IfSome v (λ first. as_last h ≡ first)) e
        accepted in
        let bytes : take (length chain.bytes) (chain.bytes ++ content) ≡ chain.bytes =
        take_at chain.bytes content (length chain.bytes) refl in
        let pending : Some (as_last h) ≡ chain.pending = ap Some same ∙ sym e in
        λ i. record { bytes = bytes i; limit = chain.limit; pending = pending i }

pub before_fits : (chain : ChainState) (content : List ℕ)
    → IfSome (length_before chain) (λ len. len ≤ length (chain.bytes ++ content))
before_fits chain content = split chain.pending
  where
    split : (v : Option Header) → IfSome (option_map (λ first. length chain.bytes) v)
        (λ len. len ≤ length (chain.bytes ++ content))
    split None = tt
    split (Some first) = omega (arith, length-append chain.bytes content)

there : (held : List ApplicationView) (i : ℕ) → i < length held → (a : ApplicationView)
    × (slice_get held i ≡ Some a)
there [] i within = absurd (omega (arith, within))
there (h ∷ held) zero within = (h, refl)
there (h ∷ held) (suc i) within = there held i (omega (arith, within))

-- more allocated places change no application
same_applications : (held : List ApplicationView) (i : ℕ) (a b : ApplicationView) → slice_get held i
    ≡ Some a → b.aid ≡ a.aid → b.entries ≡ a.entries
    → applications_of (slice_set held i b) ≡ applications_of held
same_applications [] i a b at_place aid entries = refl
same_applications (h ∷ held) zero a b at_place aid entries =
    let e : h ≡ a = cc in
    let x : b.aid ≡ h.aid = aid ∙ ap (λ a. a.aid) (sym e) in
    let y : b.entries ≡ h.entries = entries ∙ ap (λ a. a.entries) (sym e) in
    λ j. record { aid = x j; entries = y j } ∷ applications_of held
same_applications (h ∷ held) (suc i) a b at_place aid entries =
    ap (λ xs. record { aid = h.aid; entries = h.entries } ∷ xs)
    (same_applications held i a b at_place aid entries)

-- nor a state
module _ (held new : List ApplicationView) (selected : Option ℕ) (a b : ApplicationView)
    (applications : applications_of new ≡ applications_of held)
    (before : held_at held selected ≡ Some a) (after : held_at new selected ≡ Some b)
    (aid : b.aid ≡ a.aid) (entries : b.entries ≡ a.entries) where
  same_entries : entries_at new selected ≡ entries_at held selected
  same_entries = entries-known new selected b after ∙ entries
      ∙ sym (entries-known held selected a before)

  same_state : (chain : ChainState) (response : Option Response)
      → state_of new selected chain response ≡ state_of held selected chain response
  same_state chain response =
      let chosen : aid_at new selected ≡ aid_at held selected = ap (option_map (λ a. a.aid)) after
      ∙ ap Some aid ∙ sym (ap (option_map (λ a. a.aid)) before) in
      λ j. record {
        applications = applications j;
        selected = chosen j;
        pending = pending_in (same_entries j) chain response;
      }

  same_standing : (chain : ChainState) (response : Option Response)
      → IfSome selected (λ place. place < length new)
      → IsStanding held selected chain response → IsStanding new selected chain response
  same_standing chain response within standing = record {
    sound = subst IsCardState (sym (same_state chain response)) standing.sound;
    selected_is = within;
    limit_is = standing.limit_is;
    of_puts = standing.of_puts;
    response_is = subst (λ es. IfSome response (IsResponse es)) (sym same_entries)
        standing.response_is;
    alone = standing.alone;
  }

abbrev state_put : CardState → List ℕ → List ℕ → CardState
state_put s tag value = with_pending (with_put s (unwrap_or s.selected []) tag value) NothingPending

-- a PUT DATA that is not refused, on sound fields
module _ (held : List ApplicationView) (selected : Option ℕ) (chain : ChainState)
    (response : Option Response) (h : Header) (cut : ℕ) (content : List ℕ)
    (standing : IsStanding held selected chain response) (is : IsChain chain)
    (asked : IsAsked (state_of held selected chain response) h (length content) cut)
    (put : is_put h ≡ true) where
  abbrev state : CardState
  state = state_of held selected chain response

  abbrev value : List ℕ
  value = chain.bytes ++ content

  -- its data get this status, and the card is then in this state
  abbrev Leads : StatusWord → CardState → Type 0
  Leads status new = Does state cut
      (taken_with (record { header = h; p3 = length content; cut = cut }) content status) new

  pub accepts_put : Accepts chain h
  accepts_put = accepts (entries_at held selected) chain response h standing.alone standing.of_puts
      (none_holds state h (length content) OtherThanItsChain asked.taken)

  pub undone_put : chain_before (added chain h content) (length_before chain) ≡ chain
  undone_put = undone chain h content is accepts_put

  bytes_are : chained state.pending ≡ chain.bytes
  bytes_are = chained-bytes (entries_at held selected) chain response is standing.alone

  -- the chain keeps to the limit
  pub joins_room : length chain.bytes + length content ≤ VALUE_LIMIT
  joins_room = omega (
    arith,
    keeps_to_limit state h (length content) asked.taken put,
    ap length bytes_are,
  )

  joins_does : h.cla ≡ 0x10 → Leads ok (state_of held selected (added chain h content) None)
  joins_does cla =
      subst (λ bytes. Leads ok (with_pending state (ChainPending h.p1 h.p2 (bytes ++ content))))
      bytes_are (chains h content asked.taken put cla)

  joins_standing : h.cla ≡ 0x10 → IsStanding held selected (added chain h content) None
  joins_standing cla = record {
    sound = stays_sound _ _ cut _ (joins_does cla) standing.sound;
    selected_is = standing.selected_is;
    limit_is = standing.limit_is;
    of_puts = (ap (λ c. bit_and c 0xEF) cla, eqb-true h.ins 0xDA put);
    response_is = tt;
    alone = λ some. absurd (cc);
  }

  -- a piece joins the chain, and is removed again if SW2 is not sent
  pub piece_is_taken : (status : StatusWord) → h.cla ≡ 0x10 → status ≡ ok
      → TakesPut held held selected chain (added chain h content) response h cut content status
      (ready.Joins (length_before chain)) None
  piece_is_taken status cla status_is =
      let joined = state_of held selected (added chain h content) None in
      record {
        decided = (joined, refl, subst (λ w. Leads w joined) (sym status_is) (joins_does cla));
        fits = record {
          standing = subst (λ x. IsStanding held selected x response) (sym undone_put) standing;
          fits = (joins_standing cla, before_fits chain content, refl);
        };
        keeps = ap (λ x. state_of held selected x response) undone_put;
      }

  -- CLA of the last piece, or of the only one
  last_class : h.cla ≢ 0x10 → h.cla ≡ 0x00
  last_class other =
      let known : class_is_known h ≡ true =
      not-false _ (none_holds state h (length content) UnknownClass asked.taken) in
      let Known : ℕ → Type 0 =
      λ ins. ((h.cla == 0x00) || (h.cla == 0x10) || ((h.cla == 0x80) && (ins == 0xCA))) ≡ true in
      let known_put = subst Known (eqb-true h.ins 0xDA put) known in
      eqb-true h.cla 0x00
      (subst (λ v. v ≡ true) (rw (ne_eqb h.cla 0x10 other)
      (split (h.cla == 0x00) (h.cla == 0x80))) known_put)
    where
      split : (v w : Bool) → ((v || false) || (w && false)) ≡ v
      split true w = refl
      split false true = refl
      split false false = refl

  -- an application is selected
  pub selected_there : IsSome selected
  selected_there = chosen selected (put_is_selected state h (length content) asked.taken put)
    where
      chosen : (v : Option ℕ) → IsSome (aid_at held v) → IsSome v
      chosen None some = some
      chosen (Some i) some = refl

  -- the value can be put there
  pub can_put : (i : ℕ) → selected ≡ Some i → CanPut held i h value
  can_put i here =
      let (a, at_place) = there held i
      (subst (λ v. IfSome v (λ place. place < length held)) here standing.selected_is) in
      let Fits : ℕ → Type 0 = λ ins. (if ins == 0xA4 then (h.p1 == 0x04)
      && (h.p2 == 0x00) else if ins == 0xC0 then (h.p1 == 0x00)
      && (h.p2 == 0x00) else is_some (named_tag h.p1 h.p2)) ≡ true in
      let named : is_some (named_tag h.p1 h.p2) ≡ true =
      subst Fits (eqb-true h.ins 0xDA put)
      (not-false _ (none_holds state h (length content) WrongParameters asked.taken)) in
      let chosen = selected-known held selected chain response a standing.sound
      (ap (held_at held) here ∙ at_place) in
      let free : is_locked_among (named_tag h.p1 h.p2) (selected_entries state) ≡ false =
      subst (λ b. (b && is_locked_among (named_tag h.p1 h.p2) (selected_entries state)) ≡ false) put
      (none_holds state h (length content) LockedEntry asked.taken) in
      split a at_place (named_tag h.p1 h.p2) refl named
      (subst (λ es. is_locked_among (named_tag h.p1 h.p2) es ≡ false) chosen free)
    where
      split : (a : ApplicationView) → slice_get held i ≡ Some a → (v : Option (List ℕ))
          → named_tag h.p1 h.p2 ≡ v → is_some v ≡ true → is_locked_among v (Some a.entries) ≡ false
          → CanPut held i h value
      split a at_place None e some free = absurd (cc)
      split a at_place (Some tag) e some free =
          (a, tag, at_place, e, free, omega (arith, length-append chain.bytes content, joins_room))

  -- the value, and its status
  put_answered : (tag : List ℕ) (status : StatusWord) (new : CardState) → h.cla ≡ 0x00
      → named_tag h.p1 h.p2 ≡ Some tag → Answers state (Put tag value) (reply status) new
      → Leads status (with_pending new NothingPending)
  put_answered tag status new cla named answers =
      puts_value h content tag (reply status) new asked.taken put cla (names tag h.p1 h.p2 named)
      (subst (λ bytes. Answers state (Put tag (bytes ++ content)) (reply status) new)
      (sym bytes_are) answers)

  stores_does : (a : ApplicationView) (tag : List ℕ) (status : StatusWord) → h.cla ≡ 0x00
      → named_tag h.p1 h.p2 ≡ Some tag → held_at held selected ≡ Some a
      → PutStatus a.entries tag value ok → status ≡ ok → Leads status (state_put state tag value)
  stores_does a tag status cla named at_place fits status_is =
      let chosen : state.selected ≡ Some a.aid = ap (option_map (λ a. a.aid)) at_place in
      let found = entries-here held selected a standing.sound.are_applications.distinct_aids
      at_place in
      subst (λ aid. Leads status (with_pending (with_put state aid tag value) NothingPending))
      (sym (ap (λ v. unwrap_or v []) chosen))
      (put_answered tag status (with_put state a.aid tag value) cla named
      (subst (λ w. Answers state (Put tag value) (reply w) (with_put state a.aid tag value))
      (sym status_is) (stores tag value a.aid a.entries chosen found fits)))

  does_not_does : (a : ApplicationView) (tag : List ℕ) (status : StatusWord) → h.cla ≡ 0x00
      → named_tag h.p1 h.p2 ≡ Some tag → held_at held selected ≡ Some a
      → DoesNotStore a.entries tag value status
      → Leads status (state_of held selected (idle chain.limit) None)
  does_not_does a tag status cla named at_place does_not =
      let chosen = selected-known held selected chain response a standing.sound at_place in
      put_answered tag status state cla named (elim does_not [
        | inl refused ↦ does_not_store tag value a.entries status chosen refused.0 refused.1
        | inr wants ↦ subst (λ w. Answers state (Put tag value) (reply w) state) (sym wants.0)
            (wants_memory tag value a.entries chosen wants.1)
      ])

  -- the last piece, or the only one, completes the value to put
  pub last_is_taken : (i : ℕ) (new : List ApplicationView) (status : StatusWord) (next : Ready)
      (new_value : Option NewValue) → selected ≡ Some i → h.cla ≢ 0x10
      → IsPut held i h value new status next new_value
      → TakesPut held new selected chain chain response h cut content status next new_value
  last_is_taken i new status next new_value here other
      (a, b, tag, before, named, after, aid, entries, new_is, outcome) =
      let was : held_at held selected ≡ Some a = ap (held_at held) here ∙ before in
      let now : held_at new selected ≡ Some b = ap (held_at new) here ∙ after in
      let applications = ap applications_of new_is
      ∙ same_applications held i a b before aid entries in
      let same = same_state held new selected a b applications was now aid entries chain response in
      let stands = same_standing held new selected a b applications was now aid entries chain
      response (subst (λ v. IfSome v (λ place. place < length new)) (sym here)
      (slice_get_within new i b after)) standing in
      let cla = last_class other in
      let Goal : Ready → Option NewValue → Type 0 =
      λ n p. TakesPut held new selected chain chain response h cut content status n p in
      elim outcome [
        | inl put_there ↦
            let leads : Leads status (state_put (state_of new selected chain response) tag value) =
            subst (λ x. Leads status (state_put x tag value)) (sym same)
            (stores_does a tag status cla named was put_there.4 put_there.2) in
            let free : is_locked tag b.entries ≡ false = ap (is_locked tag) entries
            ∙ (stored_why a.entries tag value put_there.4).0 in
            let here : Goal ready.Stores (Some (tag, value)) = record {
              decided = (state_put (state_of new selected chain response) tag value, refl, leads);
              fits = record {
                standing = stands;
                fits = (
                  b,
                  tag,
                  value,
                  now,
                  refl,
                  put_there.3,
                  free,
                  stays_sound state _ cut _ leads standing.sound,
                );
              };
              keeps = same;
            } in
            subst (λ p. Goal next p) (sym put_there.1)
            (subst (λ n. Goal n (Some (tag, value))) (sym put_there.0) here)
        | inr does_not ↦
            let leads : Leads status (state_of new selected (idle chain.limit) None) =
            subst (λ x. Leads status x)
            (sym (same_state held new selected a b applications was now aid entries
            (idle chain.limit) None))
            (does_not_does a tag status cla named was does_not.2) in
            let here : Goal (ready.Leaves None) None = record {
              decided = (state_of new selected (idle chain.limit) None, refl, leads);
              fits = record {
                standing = stands;
                fits = (
                  leaves_standing new selected chain response None stands tt
                      (stays_sound state _ cut _ leads standing.sound),
                  refl,
                );
              };
              keeps = same;
            } in
            subst (λ p. Goal next p) (sym does_not.1)
            (subst (λ n. Goal n None) (sym does_not.0) here)
      ]
