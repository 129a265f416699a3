-- A terminal's end takes a run of the card's data, which is one character after another.
use Rattle.std.proofs.Common.{◌≡◌, ℕ, ◌-◌, zero, suc, add-zero, ◌+◌, ◌<◌, ◌≤◌, List, [], ◌∷◌, ◌++◌, length, take, refl, sym, subst, ap, ◌∙◌, arith, append-nil, append_assoc, length-append, ◌==◌, Bool, true, false, Some, None, if◌then◌else◌, ◌⊎◌, inl, inr}
use Rattle.std.proofs.lemmas.Bool.{ne_eqb, eq-eqb, eqb-false, lt-ltb, le-ltb}
use Rattle.std.proofs.lemmas.List.{length-take-le}
use Rattle.apdu_core.specs.declared.header.Header.{Header}
use Rattle.t0_core.specs.declared.end.End.TheVariants.{Card}
use Rattle.t0_core.specs.declared.host_end.HostStage.{HostStage}
use Rattle.t0_core.specs.declared.host_end.HostStage.TheVariants.{SendingHeader, Awaiting, Moving, AwaitingSecond, Ended, Broken}
use Rattle.t0_core.specs.declared.line_fault.LineFault.TheVariants.{TooLong}
use Rattle.t0_core.specs.declared.direction.Direction.{Direction}
use Rattle.t0_core.specs.declared.direction.Direction.TheVariants.{ToCard, FromCard}
use Rattle.t0_core.specs.Dialogue.{Dialogue, data_sender, foreseen}
use Rattle.t0_core.specs.Front.{Front, In_header, In_body, After_first, GoesOn, Ends, with_moved}
use Rattle.t0_core.specs.HostSide.{Hosting, HostStandsAt, IsInRange, IsRequest, fault_of, moving}
use Rattle.t0_core.specs.Buffers.{Steps, IsDataTaken, Taker, TakesNoData}
use Rattle.t0_core.specs.Room.{Room}
use Rattle.t0_core.proofs.HostLemmas.{host_at, host_takes}
use Rattle.t0_core.proofs.HostTook.{brings}

-- data move until all have moved
pub still_moving : (m u : ℕ) → m < u → moving m u ≡ Moving m u
still_moving m u below = rw (lt-ltb m u below) refl

pub none_moving : (m u : ℕ) → u ≤ m → moving m u ≡ Awaiting m
none_moving m u beyond = rw (le-ltb m u beyond) refl

abbrev taker : Header → ℕ → Direction → List ℕ → HostStage → List ℕ → ℕ → Taker
taker h p3 d own stage bytes limit = record {
  host = host_at h p3 d own stage;
  room = record { bytes = bytes; limit = limit };
}

module _ (h : Header) (p3 : ℕ) (own : List ℕ) (u : ℕ) where
  -- at each front of the end, the dialogue continues with the character
  one_came : (m byte : ℕ) (front : Front)
      → HostStandsAt (host_at h p3 FromCard own (Moving m u)) front
      → (next : Front) × GoesOn front (Card, byte) next
  one_came m byte (In_body b) at = (
    In_body (with_moved b byte),
    inl (omega (arith, at.1, at.2, at.3), ap data_sender (sym at.0.2), refl),
  )
  one_came m byte (In_header bytes) at = absurd at
  one_came m byte (After_first b first) at = absurd at

  no_end : (m byte : ℕ) (front : Front) (d : Dialogue)
      → HostStandsAt (host_at h p3 FromCard own (Moving m u)) front → Ends front (Card, byte) d
      → ⊥
  no_end m byte (In_body b) d at ends = ends
  no_end m byte (In_header bytes) d at ends = ends
  no_end m byte (After_first b first) d at ends = at

  one_taken : (m limit byte : ℕ) (bytes : List ℕ)
      → IsInRange (host_at h p3 FromCard own (Moving m u)) → length bytes < limit
      → IsDataTaken (taker h p3 FromCard own (Moving m u) bytes limit) byte
      (taker h p3 FromCard own (moving (m + 1) u) (bytes ++ byte ∷ []) limit)
  one_taken m limit byte bytes range has = record {
    fault = rw (ne_eqb (length bytes) limit (λ same. omega (arith, same, has))) refl;
    host = refl;
    room = refl;
    fits = omega (arith, has, length-append bytes (byte ∷ []));
    keeps = range.0;
    came = λ front stands. one_came m byte front stands;
    goes_on = λ front next stands goes. (
      (host_takes h p3 FromCard own (Moving m u) (record { bytes = bytes; limit = limit }) byte
          front next range stands goes).stands,
      brings h p3 FromCard own (Moving m u) byte front next stands goes,
    );
    stays = λ front d stands ends. no_end m byte front d stands ends;
  }

  run_of : (n m limit : ℕ) (bytes came : List ℕ)
      → IsRequest (host_at h p3 FromCard own (Moving m u)) → u ≤ foreseen FromCard p3
      → n ≤ length came → m + n ≤ u → length bytes + n ≤ limit
      → Steps IsDataTaken (taker h p3 FromCard own (moving m u) bytes limit) (take n came)
      (taker h p3 FromCard own (moving (m + n) u) (bytes ++ take n came) limit)
  run_of zero m limit bytes came request whole fits within room =
      ap (λ k. taker h p3 FromCard own (moving k u) (bytes ++ []) limit) (add-zero m)
      ∙ ap (λ bs. taker h p3 FromCard own (moving m u) bs limit) (append-nil bytes)
  run_of (suc n) m limit bytes [] request whole fits within room = absurd (omega (arith, fits))
  run_of (suc n) m limit bytes (b ∷ came) request whole fits within room =
      let below : m < u = omega (arith, within) in
      let next : Taker = taker h p3 FromCard own (moving (m + 1) u) (bytes ++ b ∷ []) limit in
      let P : HostStage → Type 0 = λ s. Steps IsDataTaken (taker h p3 FromCard own s bytes limit)
      (b ∷ take n came)
      (taker h p3 FromCard own (moving (m + suc n) u) (bytes ++ b ∷ take n came) limit) in
      let Q : ℕ → List ℕ → Type 0 = λ k bs. Steps IsDataTaken next (take n came)
      (taker h p3 FromCard own (moving k u) bs limit) in
      let e : (m + 1) + n ≡ m + suc n = omega arith in
      subst P (sym (still_moving m u below)) (
        next,
        one_taken m limit b bytes (request, (below, whole)) (omega (arith, room)),
        subst (λ k. Q k (bytes ++ b ∷ take n came)) e
            (subst (λ bs. Q ((m + 1) + n) bs) (append_assoc bytes (b ∷ []) (take n came))
            (run_of n (m + 1) limit (bytes ++ b ∷ []) came request whole (omega (arith, fits))
            (omega (arith, within)) (omega (arith, room, length-append bytes (b ∷ []))))),
      )

pub is_below : (h : Header) (p3 : ℕ) (d : Direction) (own : List ℕ) (stage : HostStage)
    (m u : ℕ) → stage ≡ Moving m u → IsInRange (host_at h p3 d own stage) → m < u
is_below h p3 d own stage m u is range =
    (subst (λ s. IsInRange (host_at h p3 d own s)) is range).1.0

-- the same for an end by its fields
pub run_in : (h : Header) (p3 : ℕ) (d : Direction) (own : List ℕ) (stage last : HostStage)
    (m u n : ℕ) (came : List ℕ) (room after : Room) → d ≡ FromCard → stage ≡ Moving m u
    → IsInRange (host_at h p3 d own stage) → n ≤ u - m → n ≤ length came
    → length room.bytes + n ≤ room.limit
    → after ≡ (record { bytes = room.bytes ++ take n came; limit = room.limit })
    → last ≡ moving (m + n) u
    → Steps IsDataTaken (record { host = host_at h p3 d own stage; room = room }) (take n came)
    (record { host = host_at h p3 d own last; room = after })
run_in h p3 d own stage last m u n came room after way is range within fits has gathers ends =
    let P : Direction → HostStage → HostStage → Room → Type 0 = λ x s t r. Steps IsDataTaken
    (record { host = host_at h p3 x own s; room = room }) (take n came)
    (record { host = host_at h p3 x own t; room = r }) in
    let at : IsInRange (host_at h p3 FromCard own (Moving m u)) =
    subst (λ s. IsInRange (host_at h p3 FromCard own s)) is
    (subst (λ x. IsInRange (host_at h p3 x own stage)) way range) in
    let full : Room = record { bytes = room.bytes ++ take n came; limit = room.limit } in
    subst (λ x. P x stage last after) (sym way)
    (subst (λ s. P FromCard s last after) (still_moving m u at.1.0 ∙ sym is)
    (subst (λ t. P FromCard (moving m u) t after) (sym ends)
    (subst (λ r. P FromCard (moving m u) (moving (m + n) u) r) (sym gathers)
    (run_of h p3 own u n m room.limit room.bytes came at.0 at.1.1 fits
    (omega (arith, within, at.1.0)) has))))

-- one character is such a run
pub one_in : (h : Header) (p3 : ℕ) (d : Direction) (own : List ℕ) (stage last : HostStage)
    (m u byte : ℕ) (room after : Room) → d ≡ FromCard → stage ≡ Moving m u
    → IsInRange (host_at h p3 d own stage) → (length room.bytes == room.limit) ≡ false
    → length room.bytes ≤ room.limit
    → after ≡ (record { bytes = room.bytes ++ byte ∷ []; limit = room.limit })
    → last ≡ moving (m + 1) u
    → IsDataTaken (record { host = host_at h p3 d own stage; room = room }) byte
    (record { host = host_at h p3 d own last; room = after })
one_in h p3 d own stage last m u byte room after way is range some fits gathers ends =
    let below = is_below h p3 d own stage m u is range in
    let has : length room.bytes + 1 ≤ room.limit =
    omega (arith, fits, eqb-false (length room.bytes) room.limit some) in
    let run = run_in h p3 d own stage last m u 1 (byte ∷ []) room after way is range
    (omega (arith, below)) (omega arith) has gathers ends in
    subst (λ (t : Taker). IsDataTaken (record { host = host_at h p3 d own stage; room = room })
    byte t) (sym run.2) run.1

-- the same for equal ends
pub taken_as : (old old' new new' : Hosting) (byte : ℕ) (room after : Room) → old ≡ old'
    → new ≡ new' → IsDataTaken (record { host = old; room = room }) byte
    (record { host = new; room = after })
    → IsDataTaken (record { host = old'; room = room }) byte
    (record { host = new'; room = after })
taken_as old old' new new' byte room after was is taken =
    subst (λ (h : Hosting). IsDataTaken (record { host = h; room = room }) byte
    (record { host = new'; room = after })) was
    (subst (λ (h : Hosting). IsDataTaken (record { host = old; room = room }) byte
    (record { host = h; room = after })) is taken)

-- ---- no data follow

full_room : (room : Room) → length room.bytes ≡ room.limit
    → (if length room.bytes == room.limit then Some TooLong else None) ≡ None → ⊥
full_room room full e = by (length room.bytes == room.limit)
    (eq-eqb (length room.bytes) room.limit full) e
  where
    by : (v : Bool) → v ≡ true → (if v then Some TooLong else None) ≡ None → ⊥
    by true is e = absurd (cc)
    by false is e = absurd (cc)

-- if the character is no fault, it is not data: at another stage, or while data go to the card
pub no_data : (h : Header) (p3 : ℕ) (d : Direction) (own : List ℕ) (stage : HostStage)
    (room : Room) → ((m u : ℕ) → stage ≡ Moving m u → d ≡ ToCard)
    → TakesNoData (record { host = host_at h p3 d own stage; room = room })
no_data h p3 d own (SendingHeader sent) room other byte e = refl
no_data h p3 d own (Awaiting m) room other byte e = refl
no_data h p3 d own (Moving m u) room other byte e =
    absurd (to_card d (other m u refl) e)
  where
    to_card : (d : Direction) → d ≡ ToCard
        → fault_of (host_at h p3 d own (Moving m u)) room byte ≡ None → ⊥
    to_card ToCard is none = absurd (cc)
    to_card FromCard is none = absurd (cc)
no_data h p3 d own (AwaitingSecond sw1 sent) room other byte e = refl
no_data h p3 d own (Ended status sent) room other byte e = refl
no_data h p3 d own Broken room other byte e = refl

-- or in a buffer that is full
pub no_room : (h : Header) (p3 : ℕ) (d : Direction) (own : List ℕ) (stage : HostStage)
    (room : Room) → length room.bytes ≡ room.limit
    → TakesNoData (record { host = host_at h p3 d own stage; room = room })
no_room h p3 d own (SendingHeader sent) room full byte e = refl
no_room h p3 d own (Awaiting m) room full byte e = refl
no_room h p3 ToCard own (Moving m u) room full byte e = absurd (cc)
no_room h p3 FromCard own (Moving m u) room full byte e = absurd (full_room room full e)
no_room h p3 d own (AwaitingSecond sw1 sent) room full byte e = refl
no_room h p3 d own (Ended status sent) room full byte e = refl
no_room h p3 d own Broken room full byte e = refl

-- all data of a run have moved
pub all_moved : (m u : ℕ) (stage : HostStage) → u ≤ m → stage ≡ moving m u
    → (k v : ℕ) → stage ≡ Moving k v → ⊥
all_moved m u stage beyond is k v at =
    let no : Awaiting m ≡ Moving k v =
    sym (is ∙ ap (λ b. if b then Moving m u else Awaiting m) (le-ltb m u beyond)) ∙ at in
    absurd (cc)

-- a run takes all bytes, or no data follow
pub after_run : (h : Header) (p3 : ℕ) (d : Direction) (own : List ℕ) (last : HostStage)
    (m u n : ℕ) (came : List ℕ) (room after : Room) → m < u → last ≡ moving (m + n) u
    → after ≡ (record { bytes = room.bytes ++ take n came; limit = room.limit })
    → n ≤ length came
    → (n ≡ length came) ⊎ (n ≡ u - m) ⊎ (length room.bytes + n ≡ room.limit)
    → (n ≡ length came) ⊎ TakesNoData (record { host = host_at h p3 d own last; room = after })
after_run h p3 d own last m u n came room after below ends gathers fits (inl all) = inl all
after_run h p3 d own last m u n came room after below ends gathers fits (inr (inl whole)) =
    inr (no_data h p3 d own last after (λ k v at.
    absurd (all_moved (m + n) u last (omega (arith, whole, below)) ends k v at)))
after_run h p3 d own last m u n came room after below ends gathers fits (inr (inr full)) =
    let longer : length (room.bytes ++ take n came) ≡ length room.bytes + n =
    length-append room.bytes (take n came)
    ∙ ap (λ k. length room.bytes + k) (length-take-le n came fits) in
    inr (no_room h p3 d own last after
    (ap (λ (r : Room). length r.bytes) gathers ∙ longer ∙ full
    ∙ sym (ap (λ (r : Room). r.limit) gathers)))
