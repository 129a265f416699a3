-- What the line requires of a card: its verdict on a header, and what may be called then.
use Rattle.std.specs.Prelude.{◌≡◌, ℕ, length}
use Rattle.apdu_core.specs.declared.header.Header.{Header}
use Rattle.apdu_core.specs.StatusWord.{count}
use Rattle.t0_core.specs.declared.tpdu_card.Verdict.{Verdict}
use Rattle.t0_core.specs.declared.tpdu_card.Verdict.TheVariants.{Refuse, Receive, Send}
use Rattle.t0_core.specs.Meaning.{Tpdu, Ask, Prepared, Nothing, Receiving, Sending, Decided, IsReceiving, IsSending, Decides, refused}

-- the header is refused
abbrev pub IsRefusal : Verdict → Type 0
IsRefusal (Refuse status) = Unit {0}
IsRefusal Receive = ⊥
IsRefusal Send = ⊥

-- Data move only for headers for which the card may give this verdict.
abbrev pub Permits : (Header → Type 0) → (Header → Type 0) → Header → Verdict → Type 0
Permits MayReceive MaySend header (Refuse status) = Unit {0}
Permits MayReceive MaySend header Receive = MayReceive header
Permits MayReceive MaySend header Send = MaySend header

-- an answer is decided, and its SW2 is still to be sent
abbrev pub IsDecided : {State : Type 0} → Prepared State → Type 0
IsDecided Nothing = ⊥
IsDecided (Receiving ask) = ⊥
IsDecided (Sending ask bytes) = ⊥
IsDecided (Decided next) = Unit {0}

-- A refusal is an answer by the card's meaning. To send, the card has as many bytes as P3 states.
abbrev pub Judges : {State : Type 0} → (State → ℕ → Tpdu → State → Type 0) → State → Ask → Verdict
    → Prepared State → Type 0
Judges Does standing ask (Refuse status) prepared =
    Decides Does standing ask.cut (refused ask status) prepared
Judges Does standing ask Receive prepared = IsReceiving prepared (λ asked. asked ≡ ask)
Judges Does standing ask Send prepared =
    IsSending prepared (λ asked bytes. (asked ≡ ask) × (length bytes ≡ count ask.p3))
