-- A value in pieces, and the commands of a chain (ISO/IEC 7816-4, 5.1.1.1).
use Rattle.std.specs.Prelude.{◌≡◌, ℕ, ◌≤◌, List, [], ◌∷◌, ◌++◌, length, Option, Some, None, IfNone, IfSome, bit_and, bit_or}
use Rattle.std.specs.List.{concat}
use Rattle.apdu_core.specs.declared.header.Header.{Header}
use Rattle.apdu_core.specs.CommandBytes.{Command}

-- each piece except the last has 255 bytes, the last 1 to 255 (profile)
abbrev pub HavePieceSizes : List (List ℕ) → Type 0
HavePieceSizes [] = ⊥
HavePieceSizes (last ∷ []) = (1 ≤ length last) × (length last ≤ 255)
HavePieceSizes (piece ∷ next ∷ others) = (length piece ≡ 255) × HavePieceSizes (next ∷ others)

-- The pieces of a value: they concatenate to it. The empty value is one empty piece.
abbrev pub IsPieces : List ℕ → List (List ℕ) → Type 0
IsPieces [] pieces = pieces ≡ [] ∷ []
IsPieces (b ∷ bs) pieces = (concat pieces ≡ b ∷ bs) × HavePieceSizes pieces

-- bit 5 of CLA is clear: the command is the last of its chain, or alone
abbrev pub IsLast : Header → Type 0
IsLast header = bit_and header.cla 0x10 ≡ 0

-- the header with bit 5 of CLA set, whatever it was: more commands of the chain follow
abbrev pub with_more : Header → Header
with_more header = record header { cla = bit_or header.cla 0x10 }

-- the header with bit 5 of CLA clear
abbrev pub as_last : Header → Header
as_last header = record header { cla = bit_and header.cla 0xEF }

-- the command of one piece: it has no Le
abbrev pub link : Header → List ℕ → Command
link header piece = record { header = header; content = piece; le = None }

-- one command for each piece, bit 5 of CLA set in all but the last
abbrev pub chain_commands : Header → List (List ℕ) → List Command
chain_commands header [] = []
chain_commands header (last ∷ []) = link header last ∷ []
chain_commands header (piece ∷ next ∷ others) =
    link (with_more header) piece ∷ chain_commands header (next ∷ others)

-- A chain at the card: its bytes, its limit, and, while it is pending, the header that its commands
-- share. In that header bit 5 of CLA is clear.
pub record ChainState : Type 0 where
  pub bytes : List ℕ
  pub limit : ℕ
  pub pending : Option Header

-- the bytes keep to the limit, and an idle chain has no bytes
pub record IsChain (chain : ChainState) : Type 0 where
  pub within : length chain.bytes ≤ chain.limit
  pub empty : IfNone chain.pending (chain.bytes ≡ [])

-- nothing is pending
abbrev pub idle : ℕ → ChainState
idle limit = record { bytes = []; limit = limit; pending = None }

-- nothing is pending, or CLA (except bit 5), INS, P1 and P2 equal the chain's
abbrev pub Accepts : ChainState → Header → Type 0
Accepts chain header = IfSome chain.pending (λ first. as_last header ≡ first)

-- the chain after it took the data of one more command
abbrev pub added : ChainState → Header → List ℕ → ChainState
added chain header content =
    record { bytes = chain.bytes ++ content; limit = chain.limit; pending = Some (as_last header) }
