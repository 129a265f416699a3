-- The box of a TPDU, part by part.
use Rattle.std.specs.Prelude.{◌≡◌, ◌≢◌, ◌<◌, ℕ, List, [], ◌∷◌, ◌++◌, codes, length, get_or, Bool, true, false, ◌==◌, ◌&&◌, if◌then◌else◌, Option, Some, None, IfSome}
use Rattle.std.specs.Fmt.{decimal}
use Rattle.t0_core.specs.declared.direction.Direction.{Direction}
use Rattle.t0_core.specs.declared.direction.Direction.TheVariants.{ToCard, FromCard}
use Rattle.trace_explain.specs.declared.write.layout.Kind.{Kind}
use Rattle.trace_explain.specs.declared.write.layout.Medium.{Medium}
use Rattle.trace_explain.specs.declared.write.layout.Medium.TheVariants.{Json}
use Rattle.trace_explain.specs.declared.write.layout.Side.{Side}
use Rattle.trace_explain.specs.declared.write.layout.Side.TheVariants as side
use Rattle.trace_explain.specs.declared.follow.links.Links.{Links}
use Rattle.trace_explain.specs.declared.follow.links.Whole.{Whole}
use Rattle.trace_explain.specs.declared.follow.links.Whole.TheVariants as whole
use Rattle.trace_explain.specs.declared.describe.mask.Mask.{Mask}
use Rattle.trace_explain.specs.declared.describe.mask.Origin.{Origin}
use Rattle.trace_explain.specs.declared.describe.mask.Shown.{Shown}
use Rattle.trace_explain.specs.declared.describe.mask.Shown.TheVariants.{All}
use Rattle.trace_explain.specs.declared.write.sheet.Sheet.{Sheet}
use Rattle.trace_explain.specs.declared.write.fields.Fields.{Fields}
use Rattle.trace_explain.specs.Fields.{IsField, json_fields, shows_tree}
use Rattle.trace_explain.specs.Noted.{are_status}
use Rattle.trace_explain.specs.Secrets.{Shows}
use Rattle.trace_explain.specs.Sheets.{Adds, IsRow, Puts}
use Rattle.trace_explain.specs.Reports.{IsOfCommand, Report, is_doubtful}
use Rattle.trace_explain.specs.Trees.{IsTree}
use Rattle.trace_explain.specs.Words.{IsWords}
use Rattle.trace_explain.specs.Written.{AreDigits, bar_text, beside_text, box_end, header_row, hidden, line_text, lines_text, row, some_row, status_row, title_text}

-- the end that sends data this way
abbrev pub side_of : Direction → Side
side_of ToCard = side.Terminal
side_of FromCard = side.Card

-- neither end sent the status of a TPDU that is cut off
abbrev pub status_side : List ℕ → List ℕ → Side
status_side header status =
    if are_status status && (length header == 5) then side.Card else side.Nobody

-- a tree, or another text if the tree is empty
abbrev pub Instead : (List ℕ → Type 0) → List ℕ → List ℕ → Type 0
Instead Is [] text = Is text
Instead Is (b ∷ tree) text = text ≡ b ∷ tree

-- data as lines of digits, each after LF, or a line in place of them if some are hidden
abbrev pub IsPlain : Shown → List ℕ → List ℕ → Type 0
IsPlain All bytes text =
    (lines : List (List ℕ)) × AreDigits bytes lines × (text ≡ lines_text lines)
IsPlain shown bytes text = text ≡ codes "\n" ++ hidden

-- the lines of data, as far as they are shown
abbrev pub ShowsData : Shown → List (List ℕ) → Bool → List ℕ → List ℕ → Type 0
ShowsData shown tags may bytes text = (tree : List ℕ)
    × IsTree false tags (shows_tree shown may) bytes tree
    × Instead (IsPlain shown bytes) tree text

-- The mask shows data by a command: that of their TPDU, or under GET RESPONSE that of the response.
pub record IsShown (mask : Mask) (is_loose : Bool) (way : Direction) (header moved : List ℕ)
    (shown : Shown) : Type 0 where
  pub origin : Origin
  pub way_is : origin.way ≡ way
  pub loose : origin.is_loose ≡ is_loose
  pub to_card : way ≡ ToCard → IsOfCommand header origin.header
  pub inner : way ≡ ToCard → origin.inner ≡ get_or moved 1 0
  pub from_card : get_or header 1 0 ≢ 0xC0 → IsOfCommand header origin.header
  pub shows : Shows mask.hides mask.tags.items origin shown

-- the command whose response a TPDU moves is its own, except under GET RESPONSE
abbrev pub HasAsker : List ℕ → Links → Type 0
HasAsker header links = get_or header 1 0 ≢ 0xC0 → IfSome links.asker (IsOfCommand header)

-- a row of data, as far as they are shown; in JSON a field
abbrev pub IsDataRow
    : Shown → List (List ℕ) → Side → Bool → List ℕ → Medium → List ℕ → Type 0
IsDataRow shown tags s may bytes Json text = IsField shown tags s may bytes text
IsDataRow shown tags s may bytes m text = (lines : List ℕ)
    × ShowsData shown tags may bytes lines
    × (text ≡ some_row m s (codes "data") lines)

-- the row of data of a TPDU, if it moved any, after a whole header
abbrev pub IsData
    : Mask → Bool → Option Direction → List ℕ → List ℕ → Medium → List ℕ → Type 0
IsData mask is_loose None header moved m text = text ≡ []
IsData mask is_loose (Some way) header moved m text = length header ≡ 5 → (shown : Shown)
    × IsShown mask is_loose way header moved shown × (may : Bool)
    × (m ≢ Json → way ≡ FromCard → may ≡ true)
    × IsDataRow shown mask.tags.items (side_of way) may moved m text

-- the row of data was added
abbrev pub PutsDataRow
    : Shown → List (List ℕ) → Side → Bool → List ℕ → Sheet → Sheet → Type 0
PutsDataRow shown tags s may bytes old new = (lines : List ℕ)
    × ShowsData shown tags may bytes lines
    × Adds old (some_row old.layout.medium s (codes "data") lines) new

-- in JSON an end without data has an empty field
abbrev pub no_data : Medium → Option Direction → List ℕ
no_data Json None = codes ",\"sent\":\"\",\"received\":\"\""
no_data Json (Some ToCard) = codes ",\"received\":\"\""
no_data Json (Some FromCard) = codes ",\"sent\":\"\""
no_data m way = []

-- the row of the data that the card returned beside those of the terminal, if any
abbrev pub IsAnswer
    : Mask → Bool → Option Direction → List ℕ → List ℕ → Medium → List ℕ → Type 0
IsAnswer mask is_loose way header bytes m text = (length bytes ≡ 0 → text ≡ no_data m way)
    × (0 < length bytes → IsData mask is_loose (Some FromCard) header bytes m text)

-- the title: the number, and words
abbrev pub IsTitle : ℕ → List ℕ → Medium → List ℕ → Type 0
IsTitle number status m text = (kind : Kind) × (words : List ℕ)
    × (text ≡ title_text m kind number words status)

-- this or nothing
abbrev pub MayBe : (Medium → List ℕ) → Medium → List ℕ → Type 0
MayBe it m text = text ≢ [] → text ≡ it m

-- data in the title, as far as they are shown, or nothing
abbrev pub PutsBeside : Shown → List (List ℕ) → List ℕ → Sheet → Sheet → Type 0
PutsBeside shown tags bytes old new = (lines : List ℕ)
    × ShowsData shown tags true bytes lines × Puts (MayBe (λ m. beside_text m lines)) old new

-- the card's data in the title, as the mask shows them, or nothing
abbrev pub IsBeside
    : Mask → Bool → Option Direction → List ℕ → List ℕ → Medium → List ℕ → Type 0
IsBeside mask is_loose way header moved m text = text ≢ [] → (way ≡ Some FromCard)
    × (shown : Shown) × IsShown mask is_loose FromCard header moved shown
    × (lines : List ℕ) × ShowsData shown mask.tags.items true moved lines
    × (text ≡ beside_text m lines)

-- a bar for the time, with the share of the card, or nothing
abbrev pub IsBar : Medium → List ℕ → Type 0
IsBar m text = text ≢ [] → (all card : ℕ) × (text ≡ bar_text m all card)

-- the row of a status, with words after it
abbrev pub IsStatus : Side → List ℕ → Medium → List ℕ → Type 0
IsStatus s status m text = (words : List ℕ) × (text ≡ status_row m s status words)

-- the row of data that are shown together, after their size and the number of TPDUs
abbrev pub size_words : ℕ → ℕ → List ℕ → List ℕ
size_words size count parts = decimal size ++ codes " bytes in " ++ decimal count ++ parts

abbrev pub whole_words : Whole → ℕ → List ℕ
whole_words whole.None size = []
whole_words (whole.Response n) size = size_words size n (codes " parts:")
whole_words (whole.Value n) size = size_words size n (codes " pieces:")

abbrev pub together_row : Medium → Whole → List ℕ → List ℕ → List ℕ
together_row m whole bytes lines = row m side.Nobody (codes "together")
    (whole_words whole (length bytes) ++ lines)

abbrev pub PutsWhole : Whole → Shown → List (List ℕ) → List ℕ → Sheet → Sheet → Type 0
PutsWhole whole shown tags bytes old new = (lines : List ℕ)
    × ShowsData shown tags true bytes lines
    × Adds old (together_row old.layout.medium whole bytes lines) new

-- the way of what is complete: the parts of a response, or the pieces of a value
abbrev pub whole_way : Whole → Option Direction
whole_way whole.None = None
whole_way (whole.Response n) = Some FromCard
whole_way (whole.Value n) = Some ToCard

-- such a row, as the mask shows the data of that command, or nothing
abbrev pub IsTogether : Mask → Bool → List ℕ → Medium → List ℕ → Type 0
IsTogether mask is_loose header m text = text ≢ [] → (whole : Whole) × (way : Direction)
    × (whole_way whole ≡ Some way) × (bytes : List ℕ) × (shown : Shown)
    × IsShown mask is_loose way header bytes shown × (lines : List ℕ)
    × ShowsData shown mask.tags.items true bytes lines
    × (text ≡ together_row m whole bytes lines)

-- fields that only JSON has
abbrev pub IsFields : Medium → List ℕ → Type 0
IsFields Json text = (fields : Fields) × (text ≡ json_fields fields)
IsFields m text = text ≡ []

-- a text is one for which each of these holds in turn
abbrev pub InOrder : List (Medium → List ℕ → Type 0) → Medium → List ℕ → Type 0
InOrder [] m text = text ≡ []
InOrder (Is ∷ others) m text =
    (part rest : List ℕ) × (text ≡ part ++ rest) × Is m part × InOrder others m rest

-- The box of a TPDU: its number, line, header, data and status, with rows of words between. A mask
-- hides a doubtful header.
abbrev pub IsBox : Mask → ℕ → Report → Medium → List ℕ → Type 0
IsBox mask number t = InOrder
    (IsTitle number t.status
    ∷ IsBeside mask t.is_loose t.way t.header t.moved
    ∷ IsBar
    ∷ (λ m text. text ≡ line_text m t.line)
    ∷ IsFields
    ∷ IsRow side.Nobody (codes "file")
    ∷ IsRow side.Nobody (codes "time")
    ∷ IsRow side.Nobody (codes "before")
    ∷ IsRow side.Nobody (codes "blocks")
    ∷ (λ m text. text ≡ header_row (mask.hides && is_doubtful t) m t.header)
    ∷ IsRow side.Card (codes "procedure")
    ∷ IsData mask t.is_loose t.way t.header t.moved
    ∷ IsRow side.Terminal (codes "Le")
    ∷ IsAnswer mask t.is_loose t.way t.header t.answer
    ∷ IsStatus (status_side t.header t.status) t.status
    ∷ IsRow side.Nobody (codes "after")
    ∷ IsTogether mask t.is_loose t.header
    ∷ (λ m text. text ≡ box_end m) ∷ [])

-- the box of a TPDU was added, after words
abbrev pub PutsBox : Mask → ℕ → Report → Sheet → Sheet → Type 0
PutsBox mask number t = Puts (InOrder (IsWords ∷ IsBox mask number t ∷ []))
