-- The fields of a TPDU that only JSON has, and its data.
use Rattle.std.specs.Prelude.{◌≡◌, ℕ, List, [], ◌++◌, ◌==◌, codes, length, if◌then◌else◌, Bool, true, false, Option, Some, None}
use Rattle.std.specs.Fmt.{decimal}
use Rattle.trace_explain.specs.declared.write.fields.Fields.{Fields}
use Rattle.trace_explain.specs.declared.write.layout.Medium.TheVariants.{Json}
use Rattle.trace_explain.specs.declared.write.layout.Side.{Side}
use Rattle.trace_explain.specs.declared.write.layout.Side.TheVariants.{Terminal}
use Rattle.trace_explain.specs.declared.describe.mask.Shown.{Shown}
use Rattle.trace_explain.specs.declared.describe.mask.Shown.TheVariants.{All, Nothing}
use Rattle.trace_explain.specs.Trees.{IsTree, value_field}
use Rattle.trace_explain.specs.Written.{letters}

-- a number after this text, or another text without a number
abbrev pub number_text : List ℕ → Option ℕ → List ℕ → List ℕ
number_text before None none = none
number_text before (Some n) none = before ++ decimal n

-- the name of an instruction
abbrev pub name_text : List ℕ → List ℕ
name_text name = if length name == 0 then codes ",\"instruction\":null"
    else codes ",\"instruction\":\"" ++ letters Json [] name ++ codes "\""

abbrev pub flag_text : List ℕ → Bool → List ℕ
flag_text text false = []
flag_text text true = text

abbrev pub json_fields : Fields → List ℕ
json_fields f = number_text (codes ",\"time_us\":") f.time_us [] ++ name_text f.instruction.now
    ++ number_text (codes ",\"continues\":") f.continues (codes ",\"continues\":null")
    ++ flag_text (codes ",\"asked_again\":true") f.is_again
    ++ flag_text (codes ",\"le\":null") f.hides_le ++ number_text (codes ",\"le\":") f.le []
    ++ flag_text (codes ",\"masked\":true") f.is_masked

-- the start of the field for the data of an end
abbrev pub value_name : Side → List ℕ
value_name Terminal = codes ",\"sent\":"
value_name s = codes ",\"received\":"

-- data as digits, or `null` if some are hidden
abbrev pub value_text : Shown → List ℕ → List ℕ
value_text All bytes = value_field bytes
value_text shown bytes = codes "null"

-- objects in them are shown, unless all data are hidden
abbrev pub shows_tree : Shown → Bool → Bool
shows_tree Nothing may = false
shows_tree shown may = may

-- Data as a field, with the objects in them, as far as they are shown.
abbrev pub IsField : Shown → List (List ℕ) → Side → Bool → List ℕ → List ℕ → Type 0
IsField shown tags s may bytes text = (tree : List ℕ)
    × IsTree true tags (shows_tree shown may) bytes tree
    × (text ≡ value_name s ++ value_text shown bytes ++ tree)
