-- The files of a trace: which of them contains a line of the trace, and where.
use Rattle.std.specs.Prelude.{ℕ, ◌-◌, List, [], ◌∷◌, nat_le, Option, Some, None, if◌then◌else◌}
use Rattle.std.specs.Option.{option_map, option_or}
use Rattle.std.specs.String.{string_bytes}
use Rattle.trace_explain.specs.declared.read.files.Part.{Part}

-- the file with this line of the trace: the last one that begins with it or before
abbrev pub file_at : List Part → ℕ → Option Part
file_at [] line = None
file_at (p ∷ parts) line =
    option_or (file_at parts line) (if nat_le p.first line then Some p else None)

-- its name; and the number of the line in it, from 1, or in the trace if it has no files
abbrev pub name_at : List Part → ℕ → Option (List ℕ)
name_at parts line = option_map (λ (p : Part). string_bytes p.name) (file_at parts line)

abbrev pub number_in : Option Part → ℕ → ℕ
number_in None line = line
number_in (Some p) line = line - (p.first - 1)

abbrev pub number_at : List Part → ℕ → ℕ
number_at parts line = number_in (file_at parts line) line
