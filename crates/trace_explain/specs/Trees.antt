-- The objects in data, one after another: in text a line for each, or more, in JSON a field.
use Rattle.std.specs.Prelude.{◌≡◌, ℕ, suc, ◌+◌, ◌-◌, ◌*◌, List, [], ◌∷◌, ◌++◌, ◌==◌, codes, length, take, drop, All, if◌then◌else◌, Bool, true, false}
use Rattle.std.specs.List.{Contains}
use Rattle.hex.specs.Hex.{encode_upper}
use Rattle.tlv_core.specs.Spelling.{AreObjects, Begins}
use Rattle.tlv_core.specs.TagForm.{is_constructed}
use Rattle.trace_explain.specs.declared.write.layout.Medium.TheVariants.{Json}
use Rattle.trace_explain.specs.declared.write.sheet.Sheet.{Sheet}
use Rattle.trace_explain.specs.Sheets.{Adds}
use Rattle.trace_explain.specs.Written.{AreLines, are_printable, content, is_text, letters, lines_text, spaces}

-- two spaces for each level below 1, the first
abbrev pub indent : ℕ → ℕ
indent level = (level - 1) * 2

-- in JSON before the first object of a list, or a later one
abbrev pub list_begin : Bool → List ℕ
list_begin false = codes ",\"objects\":["
list_begin true = codes ","

-- after the objects of a list, if it has some
abbrev pub list_end : Bool → Bool → List ℕ
list_end true true = codes "]"
list_end in_json some = []

-- an object's tag
abbrev pub object_begin : Bool → Bool → ℕ → List ℕ → List ℕ
object_begin true some level tag =
    list_begin some ++ codes "{\"tag\":\"" ++ encode_upper tag ++ codes "\""
object_begin false some level tag = 10 ∷ (spaces (indent level) ++ encode_upper tag)

-- after the tag of a hidden object
abbrev pub masked_end : Bool → List ℕ
masked_end true = codes ",\"value\":null,\"masked\":true}"
masked_end false = codes " **"

-- after the objects of a template
abbrev pub template_end : Bool → List ℕ
template_end true = codes "}"
template_end false = []

-- The remark on an object follows its digits: words, which are printable, so that no line ends in
-- them; or nothing.
abbrev pub remark : List ℕ → List ℕ
remark [] = []
remark (b ∷ words) = codes "  " ++ b ∷ words

abbrev pub IsRemark : List ℕ → Type 0
IsRemark text = (says : List ℕ) × (are_printable says ≡ true) × (text ≡ remark says)

-- words as a field with this start, if there are any
abbrev pub words_field : List ℕ → List ℕ → List ℕ
words_field start words = if length words == 0 then []
    else start ++ letters Json [] words ++ codes "\""

abbrev pub IsWords : List ℕ → List ℕ → Type 0
IsWords start text = (words : List ℕ) × (text ≡ words_field start words)

-- the name of an object, and its value in words
abbrev pub AreWords : Bool → List ℕ → Type 0
AreWords true text = (name value : List ℕ) × IsWords (codes ",\"name\":\"") name
    × IsWords (codes ",\"words\":\"") value × (text ≡ name ++ value)
AreWords false text = IsRemark text

abbrev pub value_field : List ℕ → List ℕ
value_field value = codes "\"" ++ encode_upper value ++ codes "\""

abbrev pub primitive_end : List ℕ → List ℕ
primitive_end value = codes ",\"value\":" ++ value_field value ++ codes "}"

-- the number of bytes of a value in a line, with or without text
abbrev pub value_width : Bool → ℕ
value_width true = 15
value_width false = 24

-- a value with words in its first line, and others below, `width` bytes in each
abbrev pub IsLong : ℕ → ℕ → Bool → List ℕ → List ℕ → Type 0
IsLong indent width in_text value text = (words : List ℕ) × IsRemark words
    × (below : List (List ℕ)) × AreLines indent width in_text (drop width value) below
    × (text ≡ codes " " ++ content in_text (take width value) ++ words ++ lines_text below)

-- a value after its tag, with words
abbrev pub IsValue : Bool → ℕ → List ℕ → List ℕ → Type 0
IsValue true level value text =
    (words : List ℕ) × AreWords true words × (text ≡ words ++ primitive_end value)
IsValue false level [] text = (words : List ℕ) × IsRemark words × (text ≡ codes " -" ++ words)
IsValue false level (b ∷ bytes) text = IsLong (indent level + 5)
    (value_width (is_text (b ∷ bytes))) (is_text (b ∷ bytes)) (b ∷ bytes) text

-- an object with this rest after its tag, and others
abbrev pub listed : Bool → Bool → ℕ → List ℕ → List ℕ → List ℕ → List ℕ
listed in_json some level tag end others = object_begin in_json some level tag ++ end ++ others

-- The text of bytes that are objects of a level, which are the first of a list, or follow some. If
-- an object's tag is among these, its value is hidden, and no words are beside it. A template has
-- its objects.
pub data AreTree : Bool → List (List ℕ) → List ℕ → ℕ → Bool → List ℕ → Type 0 where
  no_object : {j : Bool} {tags : List (List ℕ)} {bytes : List ℕ} {level : ℕ} {some : Bool}
      {text : List ℕ} → All (λ b. b ≡ 0) bytes → text ≡ list_end j some
      → AreTree j tags bytes level some text
  masked : {j : Bool} {tags : List (List ℕ)} {bytes : List ℕ} {level : ℕ} {some : Bool}
      {text : List ℕ} (padding tag size value rest others : List ℕ)
      → Begins bytes padding tag size value rest level → Contains tags tag
      → text ≡ listed j some level tag (masked_end j) others
      → AreTree j tags rest level true others → AreTree j tags bytes level some text
  primitive : {j : Bool} {tags : List (List ℕ)} {bytes : List ℕ} {level : ℕ} {some : Bool}
      {text : List ℕ} (padding tag size value rest own others : List ℕ)
      → Begins bytes padding tag size value rest level → (Contains tags tag → ⊥)
      → is_constructed tag ≡ false → IsValue j level value own
      → text ≡ listed j some level tag own others
      → AreTree j tags rest level true others → AreTree j tags bytes level some text
  template : {j : Bool} {tags : List (List ℕ)} {bytes : List ℕ} {level : ℕ} {some : Bool}
      {text : List ℕ} (padding tag size value rest words inside others : List ℕ)
      → Begins bytes padding tag size value rest level → (Contains tags tag → ⊥)
      → is_constructed tag ≡ true → AreWords j words
      → AreTree j tags value (suc level) false inside
      → text ≡ listed j some level tag (words ++ inside ++ template_end j) others
      → AreTree j tags rest level true others → AreTree j tags bytes level some text

-- The objects of data: none, unless the data may be objects and are some.
pub record IsTree (in_json : Bool) (tags : List (List ℕ)) (may : Bool) (bytes text : List ℕ)
    : Type 0 where
  pub never : may ≡ false → text ≡ []
  pub none : (AreObjects bytes 1 → ⊥) → text ≡ []
  pub objects : may ≡ true → AreObjects bytes 1 → AreTree in_json tags bytes 1 false text

abbrev pub has_text : List ℕ → Bool
has_text [] = false
has_text (b ∷ text) = true

-- a text was added that is such, and this is whether there is any
abbrev pub PutsAny : (List ℕ → Type 0) → Bool → Sheet → Sheet → Type 0
PutsAny Is some old new =
    (text : List ℕ) × Is text × (some ≡ has_text text) × Adds old text new
