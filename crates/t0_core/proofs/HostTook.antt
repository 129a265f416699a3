-- A character that the terminal's end takes continues the dialogue that it opened, or ends it.
use Rattle.std.proofs.Common.{◌≡◌, ℕ, ◌<◌, List, [], ◌∷◌, ◌++◌, refl, sym, ◌∙◌, ap, arith, inl, inr, lit<, true, false, Bool, ◌==◌, if◌then◌else◌, Option, Some, None, append-nil, append_assoc, ◌⊎◌, bit_xor}
use Rattle.std.proofs.lemmas.Bool.{eqb-true}
use Rattle.apdu_core.specs.declared.header.Header.{Header}
use Rattle.apdu_core.specs.HeaderBytes.{ins_is_valid}
use Rattle.apdu_core.specs.StatusWord.{is_first_status}
use Rattle.t0_core.specs.declared.end.End.TheVariants.{Terminal, Card}
use Rattle.t0_core.specs.declared.host_end.HostStage.{HostStage}
use Rattle.t0_core.specs.declared.host_end.HostTurn.TheVariants.{Done}
use Rattle.t0_core.specs.declared.host_end.HostStage.TheVariants.{SendingHeader, Awaiting, Moving, AwaitingSecond, Ended, Broken}
use Rattle.t0_core.specs.declared.plan.Step.{Step}
use Rattle.t0_core.specs.declared.plan.Step.TheVariants.{Null, One, All}
use Rattle.t0_core.specs.declared.line_fault.LineFault.TheVariants.{BadProcedure}
use Rattle.t0_core.specs.declared.direction.Direction.{Direction}
use Rattle.t0_core.specs.declared.direction.Direction.TheVariants.{ToCard, FromCard}
use Rattle.t0_core.specs.Dialogue.{Body, Dialogue, data_sender, procedure_byte}
use Rattle.t0_core.specs.Front.{Front, from_card, brought, In_header, In_body, After_first, GoesOn, Ends, with_segment, with_moved}
use Rattle.t0_core.specs.HostSide.{Hosting, data_in, gathered, HostStandsAt, IsInRange, at_stage, after_taking, step_of, fault_of, turn_of, procedure_fault}
use Rattle.t0_core.specs.Room.{Room}
use Rattle.t0_core.proofs.HostLemmas.{host_at, host_takes}

-- the dialogue continues with the character, or ends with it
abbrev pub Took : Hosting → Front → ℕ → Type 0
Took host front byte =
    ((new : Front) × GoesOn front (Card, byte) new
    × HostStandsAt (at_stage host (after_taking host byte)) new)
    ⊎ ((d : Dialogue) × Ends front (Card, byte) d
    × (turn_of (at_stage host (after_taking host byte)) ≡ Done d.status))

choice : (p q r : Bool) (s : Step)
    → (if p then Some Null else (if q then Some All else (if r then Some One else None))) ≡ Some s
    → ((p ≡ true) × (s ≡ Null)) ⊎ ((q ≡ true) × (s ≡ All)) ⊎ ((r ≡ true) × (s ≡ One))
choice true q r s e = inl (refl, cc)
choice false true r s e = inr (inl (refl, cc))
choice false false true s e = inr (inr (refl, cc))
choice false false false s e = absurd (cc)

pub step_tells : (ins byte : ℕ) (s : Step) → step_of ins byte ≡ Some s → byte ≡ procedure_byte ins s
step_tells ins byte s e =
    elim (choice (byte == 0x60) (byte == ins) (byte == bit_xor ins 0xFF) s e) [
      | inl null ↦ eqb-true byte 0x60 null.0 ∙ ap (procedure_byte ins) (sym null.1)
      | inr (inl all) ↦ eqb-true byte ins all.0 ∙ ap (procedure_byte ins) (sym all.1)
      | inr (inr one) ↦ eqb-true byte (bit_xor ins 0xFF) one.0 ∙ ap (procedure_byte ins) (sym one.1)
    ]

no_bad : (byte : ℕ) (v : Bool) → (if v then None else Some (BadProcedure byte)) ≡ None → v ≡ true
no_bad byte true e = refl
no_bad byte false e = absurd (cc)

valid_is : (v : Bool) → v ≡ true → v ≡ false → ⊥
valid_is true a b = absurd (cc)
valid_is false a b = absurd (cc)

at_procedure : (h : Header) (p3 : ℕ) (d : Direction) (content : List ℕ) (m : ℕ) (room : Room)
    (byte : ℕ) (b : Body) (found : Option Step) → step_of h.ins byte ≡ found
    → IsInRange (host_at h p3 d content (Awaiting m))
    → HostStandsAt (host_at h p3 d content (Awaiting m)) (In_body b)
    → procedure_fault found byte ≡ None
    → Took (host_at h p3 d content (Awaiting m)) (In_body b) byte
at_procedure h p3 d content m room byte b (Some s) found range at none =
    let goes : GoesOn (In_body b) (Card, byte) (In_body (with_segment b s)) =
    inr (inl (
      at.1,
      refl,
      (
        s,
        (λ invalid. absurd
            (valid_is (ins_is_valid h.ins) range.0.0 (ap (λ x. ins_is_valid x.ins) (sym at.0.0)
            ∙ invalid))),
        step_tells h.ins byte s found ∙ ap (λ x. procedure_byte x.ins s) (sym at.0.0),
        refl,
      ),
    )) in
    inl (
      In_body (with_segment b s),
      goes,
      (host_takes h p3 d content (Awaiting m) room byte (In_body b) (In_body (with_segment b s))
          range at goes).stands,
    )
at_procedure h p3 d content m room byte b None found range at none =
    let goes : GoesOn (In_body b) (Card, byte) (After_first b byte) =
    inr (inr (at.1, refl, (no_bad byte (is_first_status byte) none, lit< tt), refl)) in
    inl (
      After_first b byte,
      goes,
      (host_takes h p3 d content (Awaiting m) room byte (In_body b) (After_first b byte) range at
          goes).stands,
    )

pub host_took : (h : Header) (p3 : ℕ) (d : Direction) (content : List ℕ) (stage : HostStage)
    (room : Room) (byte : ℕ) (front : Front) → byte < 256 → IsInRange (host_at h p3 d content stage)
    → HostStandsAt (host_at h p3 d content stage) front
    → fault_of (host_at h p3 d content stage) room byte ≡ None
    → Took (host_at h p3 d content stage) front byte
host_took h p3 d content (SendingHeader sent) room byte front small range at none = absurd (cc)
host_took h p3 d content (Awaiting m) room byte (In_body b) small range at none =
    at_procedure h p3 d content m room byte b (step_of h.ins byte) refl range at none
host_took h p3 d content (Awaiting m) room byte (In_header bytes) small range at none = absurd at
host_took h p3 d content (Awaiting m) room byte (After_first b first) small range at none =
    absurd at
host_took h p3 ToCard content (Moving m u) room byte front small range at none = absurd (cc)
host_took h p3 FromCard content (Moving m u) room byte (In_body b) small range at none =
    let goes : GoesOn (In_body b) (Card, byte) (In_body (with_moved b byte)) =
    inl (omega (arith, at.1, at.2, at.3), ap data_sender (sym at.0.2), refl) in
    inl (
      In_body (with_moved b byte),
      goes,
      (host_takes h p3 FromCard content (Moving m u) room byte (In_body b)
          (In_body (with_moved b byte)) range at goes).stands,
    )
host_took h p3 FromCard content (Moving m u) room byte (In_header bytes) small range at none =
    absurd at
host_took h p3 FromCard content (Moving m u) room byte (After_first b first) small range at none =
    absurd at
host_took h p3 d content (AwaitingSecond sw1 sent) room byte (After_first b first) small range at
    none =
    inr (
      record { body = b; status = (first, byte) },
      (refl, small, refl),
      ap (λ x. Done (x, byte)) (sym at.1),
    )
host_took h p3 d content (AwaitingSecond sw1 sent) room byte (In_header bytes) small range at none =
    absurd at
host_took h p3 d content (AwaitingSecond sw1 sent) room byte (In_body b) small range at none =
    absurd at
host_took h p3 d content (Ended status sent) room byte front small range at none = absurd (cc)
host_took h p3 d content Broken room byte front small range at none = absurd (cc)

-- the gather contains the data
brings_one : (d : Direction) (moved : List ℕ) (byte : ℕ) → Card ≡ data_sender d
    → from_card d (moved ++ byte ∷ []) ≡ from_card d moved ++ byte ∷ []
brings_one ToCard moved byte from = absurd (cc)
brings_one FromCard moved byte from = refl

card_is_terminal : Card ≡ Terminal → ⊥
card_is_terminal e = absurd (cc)

pub brings : (h : Header) (p3 : ℕ) (d : Direction) (content : List ℕ) (stage : HostStage) (byte : ℕ)
    (front new : Front) → HostStandsAt (host_at h p3 d content stage) front
    → GoesOn front (Card, byte) new → brought new ≡ brought front ++ data_in stage byte
brings h p3 d content (SendingHeader sent) byte (In_header bytes) new at (from, goes) =
    absurd (card_is_terminal from)
brings h p3 d content (Awaiting m) byte (In_body b) new at (inl (lt, from, is)) =
    absurd (omega (arith, lt, at.1))
brings h p3 d content (Awaiting m) byte (In_body b) new at
    (inr (inl (between, from, (s, nulls, byte_is, is)))) =
    rw is (sym (append-nil (from_card b.direction b.moved)))
brings h p3 d content (Awaiting m) byte (In_body b) new at (inr (inr (between, from, status, is))) =
    rw is (sym (append-nil (from_card b.direction b.moved)))
brings h p3 d content (Moving m u) byte (In_body b) new at (inl (lt, from, is)) =
    rw is (brings_one b.direction b.moved byte from)
brings h p3 d content (Moving m u) byte (In_body b) new at (inr (inl (between, from, others))) =
    absurd (omega (arith, between, at.1, at.2, at.3))
brings h p3 d content (Moving m u) byte (In_body b) new at (inr (inr (between, from, status, is))) =
    absurd (omega (arith, between, at.1, at.2, at.3))
brings h p3 d content (AwaitingSecond sw1 sent) byte (After_first b first) new at goes = absurd goes
brings h p3 d content (SendingHeader sent) byte (In_body b) new at goes = absurd at
brings h p3 d content (SendingHeader sent) byte (After_first b first) new at goes = absurd at
brings h p3 d content (Awaiting m) byte (In_header bytes) new at goes = absurd at
brings h p3 d content (Awaiting m) byte (After_first b first) new at goes = absurd at
brings h p3 d content (Moving m u) byte (In_header bytes) new at goes = absurd at
brings h p3 d content (Moving m u) byte (After_first b first) new at goes = absurd at
brings h p3 d content (AwaitingSecond sw1 sent) byte (In_header bytes) new at goes = absurd at
brings h p3 d content (AwaitingSecond sw1 sent) byte (In_body b) new at goes = absurd at
brings h p3 d content (Ended status sent) byte front new at goes = absurd at
brings h p3 d content Broken byte front new at goes = absurd at

pub gathers : (before : List ℕ) (old new : Room) (stage : HostStage) (byte : ℕ) (one two : List ℕ)
    → new ≡ gathered old (data_in stage byte) → old.bytes ≡ before ++ one
    → two ≡ one ++ data_in stage byte
    → new.bytes ≡ before ++ two
gathers before old new stage byte one two is had more =
    ap (λ (r : Room). r.bytes) is ∙ ap (λ bs. bs ++ data_in stage byte) had
    ∙ append_assoc before one (data_in stage byte) ∙ ap (λ bs. before ++ bs) (sym more)
