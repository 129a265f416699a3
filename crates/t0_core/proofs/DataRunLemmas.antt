-- A terminal's end sends a run of its data, which is one turn for each.
use Rattle.std.proofs.Common.{◌≡◌, ℕ, zero, suc, add-zero, ◌+◌, ◌-◌, ◌<◌, ◌≤◌, List, ◌++◌, length, take, drop, refl, sym, subst, ap, ◌∙◌, arith, slice_index}
use Rattle.std.proofs.lemmas.List.{drop_more, take_at, drop_at, length-take-le, length-drop}
use Rattle.std.proofs.lemmas.Bool.{lt-ltb}
use Rattle.apdu_core.specs.declared.header.Header.{Header}
use Rattle.t0_core.specs.declared.host_end.HostStage.{HostStage}
use Rattle.t0_core.specs.declared.host_end.HostStage.TheVariants.{Moving}
use Rattle.t0_core.specs.declared.direction.Direction.{Direction}
use Rattle.t0_core.specs.declared.direction.Direction.TheVariants.{ToCard}
use Rattle.t0_core.specs.Dialogue.{foreseen}
use Rattle.t0_core.specs.HostSide.{Hosting, IsInRange, IsRequest, moving}
use Rattle.t0_core.specs.Buffers.{Steps, HandsOut, IsDataTurn}
use Rattle.t0_core.proofs.HostLemmas.{host_at, host_sends}

-- data move until all have moved
still_moving : (m u : ℕ) → m < u → moving m u ≡ Moving m u
still_moving m u below = rw (lt-ltb m u below) refl

module _ (h : Header) (p3 : ℕ) (content : List ℕ) (u : ℕ) where
  one_turn : (m : ℕ) → IsInRange (host_at h p3 ToCard content (Moving m u))
      → IsDataTurn (host_at h p3 ToCard content (Moving m u)) (slice_index content m)
      (host_at h p3 ToCard content (moving (m + 1) u))
  one_turn m range = record {
    due = refl;
    sends = refl;
    after = refl;
    keeps = range.0;
    goes_on = λ front stands. host_sends h p3 ToCard content (Moving m u) front
        (slice_index content m) range stands refl;
  }

  -- n of the data from this index on
  run_of : (n m : ℕ) → IsRequest (host_at h p3 ToCard content (Moving m u))
      → u ≤ foreseen ToCard p3 → m + n ≤ u
      → Steps IsDataTurn (host_at h p3 ToCard content (moving m u)) (take n (drop m content))
      (host_at h p3 ToCard content (moving (m + n) u))
  run_of zero m request fits within =
      ap (λ k. host_at h p3 ToCard content (moving k u)) (add-zero m)
  run_of (suc n) m request fits within =
      let below : m < u = omega (arith, within) in
      let last : HostStage = moving (m + suc n) u in
      let P : HostStage → Type 0 = λ s. Steps IsDataTurn (host_at h p3 ToCard content s)
      (take (suc n) (drop m content)) (host_at h p3 ToCard content last) in
      let Q : List ℕ → Type 0 = λ bs. Steps IsDataTurn (host_at h p3 ToCard content (Moving m u))
      (take (suc n) bs) (host_at h p3 ToCard content last) in
      let R : ℕ → Type 0 = λ k. Steps IsDataTurn (host_at h p3 ToCard content (moving (m + 1) u))
      (take n (drop (m + 1) content)) (host_at h p3 ToCard content (moving k u)) in
      let e : (m + 1) + n ≡ m + suc n = omega arith in
      subst P (sym (still_moving m u below))
      (subst Q (sym (drop_more content m 0 (omega (arith, request.2, fits, below)))) (
        host_at h p3 ToCard content (moving (m + 1) u),
        one_turn m (request, (below, fits)),
        subst R e (run_of n (m + 1) request fits (omega (arith, within))),
      ))

  -- the same from a stage that moves data
  moves_on : (n m : ℕ) → IsInRange (host_at h p3 ToCard content (Moving m u)) → m + n ≤ u
      → Steps IsDataTurn (host_at h p3 ToCard content (Moving m u)) (take n (drop m content))
      (host_at h p3 ToCard content (moving (m + n) u))
  moves_on n m range within =
      let P : HostStage → Type 0 = λ s. Steps IsDataTurn (host_at h p3 ToCard content s)
      (take n (drop m content)) (host_at h p3 ToCard content (moving (m + n) u)) in
      subst P (still_moving m u range.1.0) (run_of n m range.0 range.1.1 within)

-- the same for an end by its fields
in_range : (h : Header) (p3 : ℕ) (d : Direction) (own content : List ℕ) (stage : HostStage)
    (m u : ℕ) → d ≡ ToCard → own ≡ content → stage ≡ Moving m u
    → IsInRange (host_at h p3 d own stage) → IsInRange (host_at h p3 ToCard content (Moving m u))
in_range h p3 d own content stage m u way same at range =
    let Q : Direction → List ℕ → HostStage → Type 0 = λ x bs s. IsInRange (host_at h p3 x bs s) in
    subst (λ s. Q ToCard content s) at
    (subst (λ bs. Q ToCard bs stage) same (subst (λ x. Q x own stage) way range))

sent_in : (h : Header) (p3 : ℕ) (d : Direction) (own content : List ℕ) (stage last : HostStage)
    (m u n : ℕ) → d ≡ ToCard → own ≡ content → stage ≡ Moving m u
    → IsInRange (host_at h p3 d own stage) → m + n ≤ u → last ≡ moving (m + n) u
    → Steps IsDataTurn (host_at h p3 d own stage) (take n (drop m content))
    (host_at h p3 d own last)
sent_in h p3 d own content stage last m u n way same at range within ends =
    let P : Direction → List ℕ → HostStage → HostStage → Type 0 = λ x bs s t.
    Steps IsDataTurn (host_at h p3 x bs s) (take n (drop m content)) (host_at h p3 x bs t) in
    subst (λ x. P x own stage last) (sym way)
    (subst (λ bs. P ToCard bs stage last) (sym same)
    (subst (λ s. P ToCard content s last) (sym at)
    (subst (λ t. P ToCard content (Moving m u) t) (sym ends)
    (moves_on h p3 content u n m (in_range h p3 d own content stage m u way same at range)
    within))))

-- all that are left
pub rest_sent_in : (h : Header) (p3 : ℕ) (d : Direction) (own content : List ℕ)
    (stage last : HostStage) (m u : ℕ) → d ≡ ToCard → own ≡ content → stage ≡ Moving m u
    → IsInRange (host_at h p3 d own stage) → last ≡ moving u u
    → Steps IsDataTurn (host_at h p3 d own stage) (take (u - m) (drop m content))
    (host_at h p3 d own last)
rest_sent_in h p3 d own content stage last m u way same at range ends =
    let all : m + (u - m) ≡ u = omega (
      arith,
      (in_range h p3 d own content stage m u way same at
          range).1.0,
    ) in
    sent_in h p3 d own content stage last m u (u - m) way same at range (omega (arith, all))
    (subst (λ k. last ≡ moving k u) (sym all) ends)

-- some, written to a buffer
pub run_in : (h : Header) (p3 : ℕ) (d : Direction) (own content : List ℕ) (stage last : HostStage)
    (m u n : ℕ) (before after : List ℕ) → d ≡ ToCard → own ≡ content → stage ≡ Moving m u
    → IsInRange (host_at h p3 d own stage) → m + n ≤ u → n ≤ length before
    → after ≡ take n (drop m content) ++ drop n before → last ≡ moving (m + n) u
    → HandsOut IsDataTurn (host_at h p3 d own stage) before after n (host_at h p3 d own last)
run_in h p3 d own content stage last m u n before after way same at range within fits is ends =
    let in_it = in_range h p3 d own content stage m u way same at range in
    let len : length (take n (drop m content)) ≡ n = length-take-le n (drop m content)
    (omega (arith, length-drop m content, in_it.0.2, in_it.1.1, within)) in
    record {
      fits = fits;
      steps = subst (λ bs. Steps IsDataTurn (host_at h p3 d own stage) bs
          (host_at h p3 d own last)) (sym (ap (λ bs. take n bs) is
          ∙ take_at (take n (drop m content)) (drop n before) n len))
          (sent_in h p3 d own content stage last m u n way same at range within ends);
      behind = ap (λ bs. drop n bs) is ∙ drop_at (take n (drop m content)) (drop n before) n len;
    }

-- the same for equal ends
pub handed_as : (old old' new new' : Hosting) (before after : List ℕ) (n : ℕ) → old ≡ old'
    → new ≡ new' → HandsOut IsDataTurn old before after n new
    → HandsOut IsDataTurn old' before after n new'
handed_as old old' new new' before after n was is handed =
    subst (λ (h : Hosting). HandsOut IsDataTurn h before after n new') was
    (subst (λ (h : Hosting). HandsOut IsDataTurn old before after n h) is handed)
