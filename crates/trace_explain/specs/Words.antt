-- Words: what is written between the boxes of TPDUs.
use Rattle.std.specs.Prelude.{◌≡◌, ℕ, List, [], ◌∷◌, ◌++◌, codes, drop, flat_map, Bool, true, false, ◌==◌, ◌&&◌}
use Rattle.std.specs.Fmt.{decimal}
use Rattle.std.specs.List.{list_any}
use Rattle.trace_explain.specs.declared.write.layout.Anchor.{Anchor}
use Rattle.trace_explain.specs.declared.write.layout.Medium.{Medium}
use Rattle.trace_explain.specs.declared.write.layout.Medium.TheVariants.{Text, Html, Json}
use Rattle.trace_explain.specs.declared.write.layout.Topic.{Topic}
use Rattle.trace_explain.specs.declared.write.layout.Topic.TheVariants as topic
use Rattle.trace_explain.specs.declared.write.words.Form.{Form}
use Rattle.trace_explain.specs.declared.write.words.Form.TheVariants.{Box, BoxEnd, Row, Number, Null, True, Map, Count, Note, List as Begin, Comma, ListEnd, LineEnd, Command, Block, BlockEnd, Head, Style, Script, Heading, Most, Part, PartEnd, Links, Link, More}
use Rattle.trace_explain.specs.Written.{box_begin, box_end, letters, line_text, name_of, newline, some_row}

-- labels of rows and fields in boxes that are no TPDUs
abbrev pub own_labels : List (List ℕ)
own_labels = codes "TPDUs" ∷ codes "answer" ∷ codes "atr_faults" ∷ codes "blocks"
    ∷ codes "characters" ∷ codes "cla" ∷ codes "command"
    ∷ codes "commands" ∷ codes "convention" ∷ codes "cut_off" ∷ codes "errors" ∷ codes "expected"
    ∷ codes "fault" ∷ codes "file" ∷ codes "guard time" ∷ codes "hint" ∷ codes "historical"
    ∷ codes "ins" ∷ codes "instruction" ∷ codes "masked" ∷ codes "number" ∷ codes "p1" ∷ codes "p2"
    ∷ codes "place" ∷ codes "protocol" ∷ codes "protocols" ∷ codes "rate" ∷ codes "read"
    ∷ codes "received" ∷ codes "request" ∷ codes "response" ∷ codes "sent" ∷ codes "status"
    ∷ codes "status_text" ∷ codes "statuses" ∷ codes "text" ∷ codes "time" ∷ codes "time_us"
    ∷ codes "title" ∷ codes "tpdus" ∷ codes "waiting" ∷ []

abbrev pub is_same : List ℕ → List ℕ → Bool
is_same [] [] = true
is_same (a ∷ left) (b ∷ right) = (a == b) && is_same left right
is_same left right = false

abbrev pub is_own : List ℕ → Bool
is_own label = list_any (is_same label) own_labels

abbrev pub has_own : Form → Bool
has_own (Row side label) = is_own label.now
has_own (Number label n) = is_own label.now
has_own (Null label) = is_own label.now
has_own (True label) = is_own label.now
has_own (Map label) = is_own label.now
has_own form = true

-- the start of a page: before its title, after its script, and after its heading
abbrev pub head : List ℕ
head = codes "<!DOCTYPE html>\n<html lang=\"en\">\n<head>\n<meta charset=\"utf-8\">\n"
    ++ codes "<meta name=\"viewport\" content=\"width=device-width, initial-scale=1\">\n"
    ++ codes "<title>"

abbrev pub head_end : List ℕ
head_end = codes "</script>\n</head>\n<body>\n<main>\n"

abbrev pub heading_end : List ℕ
heading_end = codes "</h1>\n"
    ++ codes "<div class=\"ends\"><span>Terminal</span><span>Card</span></div><div>\n"

-- text of a page between two pieces of markup
abbrev pub marked : List ℕ → List ℕ → List ℕ → List ℕ
marked before text behind = before ++ letters Html [] text ++ behind

abbrev pub link_text : Anchor → List ℕ → List ℕ
link_text anchor text = codes " <a href=\"#" ++ name_of anchor ++ codes "\">"
    ++ letters Html [] text ++ codes "</a>"

abbrev pub gap : Medium → List ℕ
gap Text = codes "  "
gap m = []

-- the title of a box; in JSON its type, before a title if the type has several
abbrev pub topic_text : Medium → Topic → List ℕ
topic_text Json topic.Answer = codes "atr"
topic_text Json topic.Pps = codes "pps"
topic_text Json topic.Byte = codes "error\",\"text\":\"unexpected byte"
topic_text Json topic.Pair = codes "error\",\"text\":\"unexpected command or answer"
topic_text m topic.Answer = codes "answer to reset"
topic_text m topic.Pps = codes "PPS"
topic_text m topic.Byte = codes "unexpected byte"
topic_text m topic.Pair = codes "unexpected command or answer"
topic_text m topic.Note = codes "note"
topic_text m topic.Reset = codes "reset"
topic_text m topic.Command = codes "command"
topic_text m topic.Blocks = codes "blocks"

abbrev pub field_before : List ℕ → List ℕ
field_before label = codes ",\"" ++ label ++ codes "\":"

-- what only JSON has: fields, counts, and signs between objects; and its last line
abbrev pub json_piece : Form → List ℕ → List ℕ
json_piece (Number label n) text = field_before label.now ++ decimal n
json_piece (Null label) text = field_before label.now ++ codes "null"
json_piece (True label) text = field_before label.now ++ codes "true"
json_piece (Map label) text = field_before label.now ++ codes "{"
json_piece (Count n) text =
    codes "\"" ++ letters Json [] text ++ codes "\":" ++ decimal n
json_piece Begin text = codes ",\"tpdus\":["
json_piece Comma text = codes ","
json_piece ListEnd text = codes "]"
json_piece LineEnd text = newline
json_piece Block text = codes "{\"type\":\"summary\""
json_piece BlockEnd text = codes "}\n"
json_piece form text = []

-- the longest time of a TPDU, to which bars are scaled
abbrev pub most_text : ℕ → List ℕ
most_text micros = codes "<style>main { --most: " ++ decimal micros ++ codes "; }</style>\n"

abbrev pub part_begin : ℕ → List ℕ
part_begin number = codes "<details class=\"part\"><summary>from #" ++ decimal number
    ++ codes "</summary><noscript>\n"

-- Text has neither a style nor parts nor links.
abbrev pub piece_text : Medium → Form → List ℕ → List ℕ
piece_text m (Box kind anchor about line) text =
    box_begin m kind anchor ++ topic_text m about ++ gap m ++ line_text m line
piece_text m BoxEnd text = box_end m
piece_text m (Row side label) text = some_row m side label.now text
piece_text Text Note text = codes "| " ++ letters Text (codes "| ") (drop 1 text) ++ newline
piece_text Text Block text = codes "summary\n"
piece_text Text Command text =
    codes "= " ++ letters Text (codes "    ") (drop 1 text) ++ newline
piece_text Text form text = []
piece_text Html Note text = marked (codes "<pre class=\"note\">") text (codes "</pre>\n")
piece_text Html Block text = codes "</div><section><h2>summary</h2>\n"
piece_text Html BlockEnd text = codes "</section>\n</main>\n</body>\n</html>\n"
piece_text Html Head text = marked head text (codes "</title>\n<style>\n")
piece_text Html Style text = marked [] text (codes "</style>\n<script>\n")
piece_text Html Script text = marked [] text head_end
piece_text Html Heading text = marked (codes "<h1>") text heading_end
piece_text Html (Most micros) text = most_text micros
piece_text Html (Part number) text = part_begin number
piece_text Html PartEnd text = codes "</noscript></details>\n"
piece_text Html Links text = marked (codes "<p>") text []
piece_text Html (Link anchor) text = link_text anchor text
piece_text Html More text = marked [] text (codes "</p>\n")
piece_text Html Begin text = codes "<details class=\"command\" open>\n"
piece_text Html Command text =
    marked (codes "<summary>") (drop 1 text) (codes "</summary></details>\n")
piece_text Html form text = []
piece_text Json form text = json_piece form text

-- a piece, with a title or label of its own if it has one
pub record Words : Type 0 where
  pub form : Form
  pub own : has_own form ≡ true
  pub text : List ℕ

-- a text is such pieces, one after another
abbrev pub IsWords : Medium → List ℕ → Type 0
IsWords m text =
    (all : List Words) × (text ≡ flat_map (λ (w : Words). piece_text m w.form w.text) all)
