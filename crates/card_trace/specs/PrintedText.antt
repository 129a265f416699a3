-- What a line prints: one of three fixed lines, or those of an operation, of characters or of a
-- table.
use Rattle.std.specs.Prelude.{ℕ, List, [], ◌++◌, codes}
use Rattle.card_trace.specs.LineText.{newline}
use Rattle.card_trace.specs.declared.printed.Printed.{Printed}
use Rattle.card_trace.specs.declared.printed.Printed.TheVariants as printed

abbrev pub reset_text : List ℕ
reset_text = codes "reset" ++ newline

abbrev pub busy_text : List ℕ
busy_text = codes "! card busy" ++ newline

abbrev pub not_listening_text : List ℕ
not_listening_text = codes "! not listening" ++ newline

abbrev pub printed_text : {A : Type 0} → Printed A → List ℕ
printed_text printed.Nothing = []
printed_text printed.Reset = reset_text
printed_text printed.CardBusy = busy_text
printed_text printed.NotListening = not_listening_text
printed_text (printed.Lines text) = text.items
