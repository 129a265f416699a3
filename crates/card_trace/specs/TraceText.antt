-- The text of a trace: a line for each longest run of characters from one end, and a line for the
-- answer.
use Rattle.std.specs.Prelude.{ℕ, List, [], ◌∷◌, ◌++◌, codes, Bool, true, false, if◌then◌else◌}
use Rattle.std.specs.List.{flat_map}
use Rattle.hex.specs.Hex.{encode_upper}
use Rattle.t0_core.specs.declared.end.End.{End}
use Rattle.t0_core.specs.declared.end.End.TheVariants.{Terminal, Card}
use Rattle.t0_core.specs.Character.{Character}
use Rattle.apdu_core.specs.Shared.{Reply}
use Rattle.card_trace.specs.LineText.{newline}

abbrev pub is_same : End → End → Bool
is_same Terminal Terminal = true
is_same Terminal Card = false
is_same Card Terminal = false
is_same Card Card = true

-- a run of characters from one end
pub record RunOf : Type 0 where
  pub from : End
  pub bytes : List ℕ

abbrev pub joined : End → ℕ → List RunOf → List RunOf
joined from byte [] = record { from = from; bytes = byte ∷ [] } ∷ []
joined from byte (r ∷ runs) =
    if is_same from r.from then record { from = from; bytes = byte ∷ r.bytes } ∷ runs
    else record { from = from; bytes = byte ∷ [] } ∷ r ∷ runs

-- the longest runs, in order
abbrev pub runs_of : List Character → List RunOf
runs_of [] = []
runs_of (c ∷ cs) = joined c.0 c.1 (runs_of cs)

-- > for the terminal, < for the card
abbrev pub sign : End → List ℕ
sign Terminal = codes "> "
sign Card = codes "< "

abbrev pub line_of : RunOf → List ℕ
line_of r = sign r.from ++ encode_upper r.bytes ++ newline

abbrev pub characters_text : List Character → List ℕ
characters_text cs = flat_map line_of (runs_of cs)

-- a space and the bytes; nothing for no bytes
abbrev pub spaced : List ℕ → List ℕ
spaced [] = []
spaced (b ∷ bytes) = codes " " ++ encode_upper (b ∷ bytes)

-- the status as four digits, and the data
abbrev pub answer_text : Reply → List ℕ
answer_text reply = codes "= " ++ encode_upper (reply.status.0 ∷ reply.status.1 ∷ [])
    ++ spaced reply.content ++ newline

-- the lines of an operation: its characters, and its answer
abbrev pub operation_text : List Character → Reply → List ℕ
operation_text characters reply = characters_text characters ++ answer_text reply

-- the line of the characters that a card's end hands out
abbrev pub handed_out_text : List ℕ → List ℕ
handed_out_text bytes = codes "<" ++ spaced bytes ++ newline
