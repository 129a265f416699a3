-- For the proof: the lines of entries, given as tags and values, with their marks from a table.
use Rattle.std.specs.Prelude.{ℕ, List, Option, Some}
use Rattle.std.specs.List.{flat_map}
use Rattle.object_card.specs.Tables.{Entry}
use Rattle.object_card.specs.Refusals.{is_locked_among}
use Rattle.card_trace.specs.TableText.{entry_line}

abbrev pub entry_among : Option (List Entry) → List ℕ × List ℕ → Entry
entry_among among entry = record {
  tag = entry.0;
  value = entry.1;
  locked = is_locked_among (Some entry.0) among;
}

abbrev pub marked_lines : Option (List Entry) → List (List ℕ × List ℕ) → List ℕ
marked_lines among entries = flat_map (λ e. entry_line (entry_among among e)) entries
