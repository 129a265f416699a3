-- The text of a list of objects: a line for each. The lines of a template's objects follow its own.
use Rattle.std.specs.Prelude.{ℕ, zero, suc, List, [], ◌++◌, codes}
use Rattle.hex.specs.Hex.{encode_upper}
use Rattle.tlv_core.specs.Spelling.{Forest, Empty, Primitive, Template}
use Rattle.card_trace.specs.LineText.{newline, value_text}

-- two spaces for each level below the first
abbrev pub indent : ℕ → List ℕ
indent zero = []
indent (suc below) = codes "  " ++ indent below

-- the lines of objects that are `below` levels below the first
abbrev pub lines_below : ℕ → Forest → List ℕ
lines_below below Empty = []
lines_below below (Primitive tag value rest) =
    indent below ++ encode_upper tag ++ codes " " ++ value_text value ++ newline
    ++ lines_below below rest
lines_below below (Template tag children rest) =
    indent below ++ encode_upper tag ++ newline ++ lines_below (suc below) children
    ++ lines_below below rest

abbrev pub forest_text : Forest → List ℕ
forest_text forest = lines_below 0 forest
