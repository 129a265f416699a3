-- The boxes of TPDUs that a teller adds, in turn.
use Rattle.std.specs.Prelude.{◌≡◌, ℕ, List, [], ◌∷◌, ◌++◌, map, Bool, false, Option}
use Rattle.std.specs.Io.KnownBytes.{Appends}
use Rattle.std.specs.String.{string_bytes}
use Rattle.trace_explain.specs.declared.explainer.Explainer.{Explainer}
use Rattle.trace_explain.specs.declared.write.layout.Layout.{Layout}
use Rattle.trace_explain.specs.declared.write.layout.Medium.{Medium}
use Rattle.trace_explain.specs.declared.describe.mask.Mask.{Mask}
use Rattle.trace_explain.specs.declared.write.sheet.Sheet.{Sheet}
use Rattle.trace_explain.specs.declared.write.teller.Teller.{Teller}
use Rattle.trace_explain.specs.Boxes.{IsBox, PutsBox}
use Rattle.trace_explain.specs.Noted.{ended_by}
use Rattle.trace_explain.specs.Reports.{Report, one_more}
use Rattle.trace_explain.specs.Words.{IsWords}

-- how a teller writes: whether it keeps the boxes, what it hides, and its layout
pub record Manner : Type 0 where
  pub keeps : Bool
  pub mask : Mask
  pub layout : Layout

abbrev pub writing : Layout → Mask → Manner
writing layout mask = record { keeps = false; mask = mask; layout = layout }

-- it writes boxes: it neither keeps them, nor writes a summary alone
abbrev pub Writes : Manner → Type 0
Writes w = (w.keeps ≡ false) × (w.layout.is_summary ≡ false)

-- the box of a TPDU, whole or cut off
pub record Boxed : Type 0 where
  pub report : Report
  pub text : List ℕ

-- after n boxes, each has the next number, and shows its TPDU
abbrev pub AreBoxes : Manner → ℕ → List Boxed → Type 0
AreBoxes w n [] = Unit {0}
AreBoxes w n (b ∷ boxes) =
    IsBox w.mask (one_more n) b.report w.layout.medium b.text
    × AreBoxes w (one_more n) boxes

abbrev pub number_after : ℕ → List Boxed → ℕ
number_after n [] = n
number_after n (b ∷ boxes) = number_after (one_more n) boxes

-- the reports that boxes show
abbrev pub reports_in : List Boxed → List Report
reports_in boxes = map (λ (b : Boxed). b.report) boxes

-- a text is these boxes, one after another, and words before, between and after them
abbrev pub InTurn : Medium → List Boxed → List ℕ → Type 0
InTurn m [] text = IsWords m text
InTurn m (b ∷ boxes) text = (before rest : List ℕ) × (text ≡ before ++ (b.text ++ rest))
    × IsWords m before × InTurn m boxes rest

-- After `number` boxes a text is others and words. They show these reports, in turn, and no others.
pub record ShowsReports (w : Manner) (number : ℕ) (reports : List Report) (text : List ℕ)
    (after : ℕ) : Type 0 where
  pub boxes : List Boxed
  pub are : AreBoxes w number boxes
  pub reports_are : reports ≡ reports_in boxes
  pub after_is : after ≡ number_after number boxes
  pub has : InTurn w.layout.medium boxes text

-- such a text was added
pub record AddsText (w : Manner) (number : ℕ) (reports : List Report) (after : ℕ)
    (old new : Sheet) : Type 0 where
  pub whole : old.is_cut ≡ false
  pub more : List ℕ
  pub text_is : string_bytes new.text ≡ string_bytes old.text ++ more
  pub shows : ShowsReports w number reports more after

-- a teller: how it writes, how many boxes it has counted, and the output
pub record Account : Type 0 where
  pub keeps : Bool
  pub mask : Mask
  pub number : ℕ
  pub sheet : Sheet

abbrev pub account_of : Teller → Account
account_of t = record {
  keeps = t.keeping.is_on;
  mask = t.mask;
  number = t.story.number;
  sheet = t.output.sheet;
}

abbrev pub manner_of : Account → Manner
manner_of a = record { keeps = a.keeps; mask = a.mask; layout = a.sheet.layout }

-- Unless memory ran out, a teller of boxes has added those of these reports alone, in turn.
pub record Shows (reports : List Report) (old new : Account) : Type 0 where
  pub manner : manner_of new ≡ manner_of old
  pub adds : Writes (manner_of old) → new.sheet.is_cut ≡ false
      → AddsText (manner_of old) old.number reports new.number old.sheet new.sheet

abbrev pub AddsBoxes : List Report → Teller → Teller → Type 0
AddsBoxes reports old new = Shows reports (account_of old) (account_of new)

-- the same for one box with this number, which is counted already
pub record AddsBox (number : ℕ) (t : Report) (old new : Account) : Type 0 where
  pub manner : manner_of new ≡ manner_of old
  pub counted : new.number ≡ old.number
  pub box : Writes (manner_of old) → PutsBox old.mask number t old.sheet new.sheet

-- a text is that box after an empty sheet, unless that is of a summary
abbrev pub HasBox : Mask → ℕ → Report → Sheet → List ℕ → Type 0
HasBox mask number t empty text =
    empty.layout.is_summary ≡ false → (last : Sheet) × (last.is_cut ≡ false)
    × (string_bytes last.text ≡ text)
    × PutsBox mask number t empty last

-- the output is the same
abbrev pub StaysWritten : Teller → Teller → Type 0
StaysWritten old new = account_of new ≡ account_of old

-- how an explainer writes, and the part of its text that a writer has already
pub record Out : Type 0 where
  pub manner : Manner
  pub text : List ℕ

-- An explainer of characters has written the boxes of these reports.
pub record HasWritten (out : Out) (reports : List Report) (e : Explainer) : Type 0 where
  pub hears : e.reading.of_tpdus ≡ false
  pub manner : manner_of (account_of e.teller) ≡ out.manner
  pub shows : Writes out.manner → e.teller.output.sheet.is_cut ≡ false → ShowsReports out.manner 0
      reports (out.text ++ string_bytes e.teller.output.sheet.text) e.teller.story.number

-- the same after the writer got more
abbrev pub out_with : Out → List ℕ → Out
out_with out more = record out { text = out.text ++ more }

abbrev pub first_out : Layout → Mask → Out
first_out layout mask = record { manner = writing layout mask; text = [] }

-- What a writer got shows these reports in turn, and then what the end of the trace cuts off of
-- this one, if its contents are known, and a summary alone is not asked for.
abbrev pub WritesReports
    : Layout → Mask → Option (List ℕ) → Option (List ℕ) → List Report → Report → Type 0
WritesReports layout mask old new reports t = layout.is_summary ≡ false → (text : List ℕ)
    × (n : ℕ) × Appends old new text
    × ShowsReports (writing layout mask) 0 (reports ++ ended_by t) text n

-- the writer got all of the text
pub record WritesOut (old new : Sheet) : Type 0 where
  pub layout : new.layout ≡ old.layout
  pub is_cut : new.is_cut ≡ old.is_cut
  pub text : string_bytes new.text ≡ []
