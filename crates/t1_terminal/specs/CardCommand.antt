-- What a command at T=1 does to a card of data objects (ISO/IEC 7816-4, 5.1; the refusals are
-- profile).
use Rattle.std.specs.Prelude.{◌≡◌, ℕ, ◌≤◌, List, [], ◌∷◌, ◌++◌, length}
use Rattle.apdu_core.specs.CommandBytes.{Command, IsCommand, HasForm, HasInvalidIns, command_bytes}
use Rattle.apdu_core.specs.StatusWord.{StatusWord, IsStatusWord, ok}
use Rattle.t0_core.specs.Meaning.{Tpdu}
use Rattle.t1_core.specs.CardSide.{Did, no_requests}
use Rattle.object_card.specs.Agreed.{IsAgreed}
use Rattle.object_card.specs.Instructions.{MayReceive, MaySend}
use Rattle.apdu_terminal.specs.Apdus.{Pair, may_bring}
use Rattle.apdu_terminal.specs.CardApdu.{Responds}

abbrev pub status_bytes : StatusWord → List ℕ
status_bytes sw = sw.0 ∷ sw.1 ∷ []

-- the response is this status alone, and nothing changes
abbrev pub Refuses : {State : Type 0} → StatusWord → State → List ℕ → State → Type 0
Refuses sw old response new = (response ≡ status_bytes sw) × (new ≡ old)

-- The card carries out an agreed command as its own TPDUs, and returns at most Le bytes. To any
-- other it responds 6700, wrong length.
pub record Answers {State : Type 0} (Does : State → ℕ → Tpdu → State → Type 0) (old : State)
    (c : Command) (response : List ℕ) (new : State) : Type 0 where
  pub refuses : (IsAgreed MayReceive MaySend c → ⊥) → Refuses (0x67, 0x00) old response new
  pub responds : IsAgreed MayReceive MaySend c → (p : Pair) × (p.command ≡ c)
      × (length p.content ≤ may_bring c.le) × Responds Does old p new
      × (response ≡ p.content ++ status_bytes p.status) × IsStatusWord p.status

-- What the card does. It responds 6700 to bytes in none of the four forms, so also to more than 261
-- bytes, and 6D00 to an invalid INS. It makes no request before a response.
pub record DoesAt {State : Type 0} (Does : State → ℕ → Tpdu → State → Type 0) (old : State)
    (d : Did) (new : State) : Type 0 where
  pub no_form : (HasForm d.command → ⊥) → Refuses (0x67, 0x00) old d.response new
  pub invalid_ins : (c : Command) → HasInvalidIns c → d.command ≡ command_bytes c
      → Refuses (0x6D, 0x00) old d.response new
  pub command : (c : Command) → IsCommand c → d.command ≡ command_bytes c
      → Answers Does old c d.response new
  pub asks : d.asks ≡ no_requests

-- a whole PUT DATA with CLA 00, whose response ends with 9000
abbrev pub IsStored : Did → Type 0
IsStored d = (c : Command) × IsCommand c × (d.command ≡ command_bytes c)
    × (c.header.cla ≡ 0x00) × (c.header.ins ≡ 0xDA)
    × ((content : List ℕ) × (d.response ≡ content ++ status_bytes ok))
