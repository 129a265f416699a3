-- The parts of a box, in either format.
use Rattle.std.specs.Prelude.{◌≡◌, ◌<◌, ℕ, ◌-◌, List, [], ◌∷◌, ◌++◌, codes, length, take, drop, get_or, flat_map, Bool, true, false, nat_le, nat_lt, ◌==◌, ◌&&◌, if◌then◌else◌}
use Rattle.std.specs.Char.{encode_utf8}
use Rattle.std.specs.Fmt.{decimal}
use Rattle.std.specs.List.{repeat}
use Rattle.hex.specs.Hex.{encode_upper}
use Rattle.trace_explain.specs.declared.write.layout.Anchor.{Anchor}
use Rattle.trace_explain.specs.declared.write.layout.Anchor.TheVariants as anchor
use Rattle.trace_explain.specs.declared.write.layout.Kind.{Kind}
use Rattle.trace_explain.specs.declared.write.layout.Kind.TheVariants.{Well, Warning, Failed, CutOff, Error}
use Rattle.trace_explain.specs.declared.write.layout.Medium.{Medium}
use Rattle.trace_explain.specs.declared.write.layout.Medium.TheVariants.{Text, Html, Json}
use Rattle.trace_explain.specs.declared.write.layout.Side.{Side}
use Rattle.trace_explain.specs.declared.write.layout.Side.TheVariants.{Terminal, Card, Nobody}

-- every line ends with LF
abbrev pub newline : List ℕ
newline = 10 ∷ []

abbrev pub spaces : ℕ → List ℕ
spaces n = repeat n (codes " ")

-- Text in a row, title or note: further lines are below the first, indented. A page escapes it,
-- and so does JSON.
abbrev pub letter : Medium → List ℕ → ℕ → List ℕ
letter Text indent b = if b == 10 then newline ++ indent else encode_utf8 b
letter Html indent b = if b == 60 then codes "&lt;" else if b == 62 then codes "&gt;"
    else if b == 38 then codes "&amp;" else encode_utf8 b
letter Json indent b = if b == 10 then codes "\\n" else if b == 34 then codes "\\\""
    else if b == 92 then codes "\\\\"
    else if nat_lt b 32 then codes "\\u00" ++ encode_upper (b ∷ []) else encode_utf8 b

abbrev pub letters : Medium → List ℕ → List ℕ → List ℕ
letters m indent text = flat_map (letter m indent) text

-- the class of a box on a page, and of the status in its title
abbrev pub class_of : Kind → List ℕ
class_of Well = codes "well"
class_of Warning = codes "warning"
class_of Failed = codes "failed"
class_of CutOff = codes "cut"
class_of Error = codes "error"

-- the name of a box in links
abbrev pub name_of : Anchor → List ℕ
name_of anchor.None = []
name_of (anchor.Tpdu number) = codes "t" ++ decimal number
name_of (anchor.Error number) = codes "e" ++ decimal number

abbrev pub id_text : Anchor → List ℕ
id_text anchor.None = []
id_text (anchor.Tpdu number) = codes " id=\"" ++ name_of (anchor.Tpdu number) ++ codes "\""
id_text (anchor.Error number) = codes " id=\"" ++ name_of (anchor.Error number) ++ codes "\""

-- a box is folded if it shows a success
abbrev pub fold_text : Kind → List ℕ
fold_text Well = codes "><summary>"
fold_text kind = codes " open><summary>"

abbrev pub box_begin : Medium → Kind → Anchor → List ℕ
box_begin Text kind anchor = []
box_begin Html kind anchor = codes "<details class=\"" ++ class_of kind ++ codes "\""
    ++ id_text anchor ++ fold_text kind
box_begin Json kind anchor = codes "{\"type\":\""

abbrev pub box_end : Medium → List ℕ
box_end Text = []
box_end Html = codes "</details>" ++ newline
box_end Json = codes "}"

-- the title of a TPDU begins with its number
abbrev pub number_before : Medium → List ℕ
number_before Json = codes "tpdu\",\"number\":"
number_before m = codes "#"

abbrev pub number_behind : Medium → List ℕ
number_behind Json = codes ",\"title\":\""
number_behind m = codes " "

abbrev pub number_text : Medium → ℕ → List ℕ
number_text m n = number_before m ++ decimal n ++ number_behind m

-- and ends with the line where it began
abbrev pub line_before : Medium → List ℕ
line_before Text = codes "(line "
line_before Html = codes " <small>line "
line_before Json = codes "\",\"line\":"

abbrev pub line_behind : Medium → List ℕ
line_behind Text = codes ")" ++ newline
line_behind Html = codes "</small></summary>" ++ newline
line_behind Json = []

abbrev pub line_text : Medium → ℕ → List ℕ
line_text m line = line_before m ++ decimal line ++ line_behind m

-- between them are words, and on a page a whole status
abbrev pub whole_mark : Kind → List ℕ → List ℕ
whole_mark kind status = if length status == 2 then
    codes " <b class=\"" ++ class_of kind ++ codes "\">" ++ encode_upper status ++ codes "</b>"
    else []

abbrev pub mark_text : Medium → Kind → List ℕ → List ℕ
mark_text Html kind status = whole_mark kind status
mark_text m kind status = []

abbrev pub title_text : Medium → Kind → ℕ → List ℕ → List ℕ → List ℕ
title_text m kind number words status = box_begin m kind (anchor.Tpdu number)
    ++ number_text m number ++ letters m (codes "    ") words ++ mark_text m kind status

-- on a page the data may be beside it, in one line, and a bar for the time
abbrev pub beside_text : Medium → List ℕ → List ℕ
beside_text Html lines = codes " <span>" ++ letters Html [] (drop 1 lines) ++ codes "</span>"
beside_text m lines = []

abbrev pub bar_text : Medium → ℕ → ℕ → List ℕ
bar_text Html all card = codes " <i style=\"--all:" ++ decimal all ++ codes ";--card:"
    ++ decimal card ++ codes "\"></i>"
bar_text m all card = []

-- A row begins with the sign of its end, and a label, which takes eleven columns of a text. In
-- JSON it is a field.
abbrev pub label_before : Medium → Side → List ℕ
label_before Text Terminal = codes "  > "
label_before Text Card = codes "  < "
label_before Text Nobody = codes "    "
label_before Html Terminal = codes "<div class=\"m t\"><b>"
label_before Html Card = codes "<div class=\"m c\"><b>"
label_before Html Nobody = codes "<div class=\"m n\"><b>"
label_before Json side = codes ",\""

abbrev pub label_behind : Medium → ℕ → List ℕ
label_behind Text size = spaces (11 - size)
label_behind Html size = codes "</b><pre>"
label_behind Json size = codes "\":\""

abbrev pub before : Medium → Side → List ℕ → List ℕ
before m side label = label_before m side ++ label ++ label_behind m (length label)

abbrev pub behind : Medium → Side → List ℕ
behind Text side = newline
behind Html Terminal = codes "</pre><i></i></div>" ++ newline
behind Html Card = codes "</pre><i></i></div>" ++ newline
behind Html Nobody = codes "</pre></div>" ++ newline
behind Json side = codes "\""

abbrev pub row_indent : List ℕ
row_indent = codes "               "

abbrev pub row : Medium → Side → List ℕ → List ℕ → List ℕ
row m side label text = before m side label ++ letters m row_indent text ++ behind m side

-- Lines, each after an LF, except the first one of a row. Without lines there is no row.
abbrev pub some_row : Medium → Side → List ℕ → List ℕ → List ℕ
some_row m side label [] = []
some_row m side label (b ∷ text) = row m side label text

-- a character of a header, if it is there, between two texts
abbrev pub character_text : List ℕ → List ℕ → ℕ → List ℕ → List ℕ
character_text before bytes place behind = if nat_lt place (length bytes)
    then before ++ encode_upper (get_or bytes place 0 ∷ []) ++ behind else []

-- the characters of a header, each after its name on a page
abbrev pub named : List ℕ → List ℕ
named bytes = character_text (codes "CLA ") bytes 0 [] ++ character_text (codes "  INS ") bytes 1 []
    ++ character_text (codes "  P1 ") bytes 2 [] ++ character_text (codes "  P2 ") bytes 3 []
    ++ character_text (codes "  P3 ") bytes 4 [] ++ encode_upper (drop 5 bytes)

-- and as fields of JSON
abbrev pub header_fields : List ℕ → List ℕ
header_fields bytes = character_text (codes ",\"cla\":\"") bytes 0 (codes "\"")
    ++ character_text (codes ",\"ins\":\"") bytes 1 (codes "\"")
    ++ character_text (codes ",\"p1\":\"") bytes 2 (codes "\"")
    ++ character_text (codes ",\"p2\":\"") bytes 3 (codes "\"")
    ++ character_text (codes ",\"p3\":\"") bytes 4 (codes "\"")

abbrev pub header_text : Medium → List ℕ → List ℕ
header_text Html bytes = named bytes
header_text m bytes = encode_upper bytes

-- what is shown in place of hidden data, or of a hidden header
abbrev pub hidden : List ℕ
hidden = codes "**"

abbrev pub shown_header : Bool → Medium → List ℕ → List ℕ
shown_header is_hidden m bytes = before m Terminal (codes "header")
    ++ (if is_hidden then hidden else header_text m bytes) ++ behind m Terminal

abbrev pub no_header : List ℕ
no_header = codes ",\"cla\":null,\"ins\":null,\"p1\":null,\"p2\":null,\"p3\":null"

abbrev pub header_row : Bool → Medium → List ℕ → List ℕ
header_row is_hidden Json bytes = if is_hidden then no_header else header_fields bytes
header_row is_hidden m bytes = shown_header is_hidden m bytes

-- a status as digits, and a space; words after it give its meaning
abbrev pub status_digits : Medium → List ℕ → List ℕ
status_digits Json status = encode_upper status ++ codes "\",\"status_text\":\""
status_digits m [] = []
status_digits m (b ∷ status) = encode_upper (b ∷ status) ++ codes " "

abbrev pub status_row : Medium → Side → List ℕ → List ℕ → List ℕ
status_row m side status words =
    (before m side (codes "status") ++ status_digits m status) ++ letters m row_indent words
    ++ behind m side

abbrev pub lines_text : List (List ℕ) → List ℕ
lines_text lines = flat_map (λ line. 10 ∷ line) lines

-- digits, with text in quotes beside them if they are text
abbrev pub beside : Bool → List ℕ → List ℕ
beside false line = []
beside true line = codes " \"" ++ letters Text [] line ++ codes "\""

abbrev pub content : Bool → List ℕ → List ℕ
content in_text line = encode_upper line ++ beside in_text line

-- at least three bytes, all printable ASCII, count as text
abbrev pub are_printable : List ℕ → Bool
are_printable [] = true
are_printable (b ∷ bytes) = nat_le 32 b && nat_le b 126 && are_printable bytes

abbrev pub is_text : List ℕ → Bool
is_text bytes = nat_le 3 (length bytes) && are_printable bytes

-- these lines have all bytes, in their order, `width` in a line after `indent` spaces
abbrev pub AreLines : ℕ → ℕ → Bool → List ℕ → List (List ℕ) → Type 0
AreLines indent width in_text bytes [] = bytes ≡ []
AreLines indent width in_text bytes (line ∷ lines) = (0 < length bytes)
    × (line ≡ spaces indent ++ content in_text (take width bytes))
    × AreLines indent width in_text (drop width bytes) lines

-- data as digits, with text beside them if they are text
abbrev pub width : Bool → ℕ
width true = 25
width false = 40

abbrev pub AreDigits : List ℕ → List (List ℕ) → Type 0
AreDigits bytes lines = AreLines 0 (width (is_text bytes)) (is_text bytes) bytes lines
