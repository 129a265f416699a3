-- What a call adds to a sheet.
use Rattle.std.specs.Prelude.{◌≡◌, ℕ, List, ◌++◌, true, false}
use Rattle.std.specs.String.{string_bytes}
use Rattle.trace_explain.specs.declared.write.layout.Medium.{Medium}
use Rattle.trace_explain.specs.declared.write.layout.Side.{Side}
use Rattle.trace_explain.specs.declared.write.sheet.Sheet.{Sheet}
use Rattle.trace_explain.specs.Words.{IsWords}
use Rattle.trace_explain.specs.Written.{lines_text, some_row}

-- Exactly this was added, unless memory ran out. Once it ran out, nothing is added.
pub record Adds (old : Sheet) (more : List ℕ) (new : Sheet) : Type 0 where
  pub layout : new.layout ≡ old.layout
  pub whole : new.is_cut ≡ false → old.is_cut ≡ false
  pub text : new.is_cut ≡ false → string_bytes new.text ≡ string_bytes old.text ++ more
  pub cut : old.is_cut ≡ true → new.is_cut ≡ true
  pub stays : old.is_cut ≡ true → string_bytes new.text ≡ string_bytes old.text

-- a text was added that is such, in the medium of the sheet
abbrev pub Puts : (Medium → List ℕ → Type 0) → Sheet → Sheet → Type 0
Puts Is old new = (text : List ℕ) × Is old.layout.medium text × Adds old text new

-- a row with this label, or nothing
abbrev pub IsRow : Side → List ℕ → Medium → List ℕ → Type 0
IsRow side label m text = (own : List ℕ) × (text ≡ some_row m side label own)

-- words were added
abbrev pub Joins : Sheet → Sheet → Type 0
Joins old new = Puts IsWords old new

-- the text is this, unless memory ran out
abbrev pub HasText : Sheet → List ℕ → Type 0
HasText sheet text = sheet.is_cut ≡ false → string_bytes sheet.text ≡ text

-- lines were added for which this holds
abbrev pub PutsLines : (List (List ℕ) → Type 0) → Sheet → Sheet → Type 0
PutsLines Are old new = (lines : List (List ℕ)) × Are lines × Adds old (lines_text lines) new

-- a text was added that is such in any medium
abbrev pub PutsText : (List ℕ → Type 0) → Sheet → Sheet → Type 0
PutsText Is old new = (text : List ℕ) × Is text × Adds old text new
