-- The text of what a card holds.
use Rattle.std.specs.Prelude.{ℕ, List, [], ◌++◌, codes, Bool, true, false}
use Rattle.std.specs.List.{flat_map}
use Rattle.hex.specs.Hex.{encode_upper}
use Rattle.object_card.specs.Tables.{Application, Entry}
use Rattle.card_trace.specs.LineText.{newline, value_text}

-- the mark after a locked entry
abbrev pub mark : Bool → List ℕ
mark true = codes " locked"
mark false = []

abbrev pub entry_line : Entry → List ℕ
entry_line e = codes "  " ++ encode_upper e.tag ++ codes " " ++ value_text e.value ++ mark e.locked
    ++ newline

-- its identifier, and its entries in their order
abbrev pub application_text : Application → List ℕ
application_text a =
    codes "app " ++ encode_upper a.aid ++ newline ++ flat_map entry_line a.entries

abbrev pub table_text : List Application → List ℕ
table_text applications = flat_map application_text applications
