-- The report of a TPDU: its view, and the dialogue that it describes.
use Rattle.std.specs.Prelude.{◌≡◌, ℕ, ◌+◌, ◌-◌, ◌^◌, min, List, [], ◌∷◌, ◌++◌, get_or, Option, Some, None, Bool, true, false, not, ◌||◌, ◌==◌, if◌then◌else◌, length, fold}
use Rattle.apdu_core.specs.HeaderBytes.{header_bytes}
use Rattle.apdu_core.specs.declared.header.Header.{Header}
use Rattle.t0_core.specs.declared.direction.Direction.{Direction}
use Rattle.t0_core.specs.declared.plan.Step.{Step}
use Rattle.t0_core.specs.declared.plan.Step.TheVariants.{Null, One, All}
use Rattle.t0_core.specs.declared.heard.Due.{Due}
use Rattle.t0_core.specs.declared.heard.Due.TheVariants.{SecondStatus}
use Rattle.t0_core.specs.declared.heard.Heard.{Heard}
use Rattle.t0_core.specs.declared.heard.Heard.TheVariants as heard
use Rattle.t0_core.specs.Dialogue.{Body, Dialogue}
use Rattle.t0_core.specs.Front.{Front, In_header, In_body, After_first}
use Rattle.t0_core.specs.TapSide.{Shows}
use Rattle.trace_explain.specs.declared.follow.tally.Tally.{Tally}
use Rattle.trace_explain.specs.declared.follow.tpdu.Mark.{Mark}
use Rattle.trace_explain.specs.declared.follow.tpdu.Tpdu.{Tpdu}

-- The header's characters, the number of procedure bytes, which way data moved, data, and status;
-- what the card returned beside data of the terminal. Whether the header is loose, and the number
-- in its file of the line where it began.
pub record Report : Type 0 where
  pub header : List ℕ
  pub tally : Tally
  pub way : Option Direction
  pub moved : List ℕ
  pub status : List ℕ
  pub answer : List ℕ
  pub is_loose : Bool
  pub line : ℕ

abbrev pub report_of : Tpdu → Report
report_of t = record {
  header = t.header.items;
  tally = t.tally;
  way = t.way;
  moved = t.moved.items;
  status = t.status.items;
  answer = t.answer.items;
  is_loose = t.is_loose;
  line = t.line;
}

abbrev pub reports_of : Option Tpdu → List Report
reports_of None = []
reports_of (Some t) = report_of t ∷ []

-- One more, up to the greatest number that fits.
abbrev pub one_more : ℕ → ℕ
one_more n = min (n + 1) (2 ^ 64 - 1)

abbrev pub counted : Tally → Step → Tally
counted t Null = record { nulls = one_more t.nulls; ones = t.ones; alls = t.alls }
counted t One = record { nulls = t.nulls; ones = one_more t.ones; alls = t.alls }
counted t All = record { nulls = t.nulls; ones = t.ones; alls = one_more t.alls }

abbrev pub uncounted : Tally
uncounted = record { nulls = 0; ones = 0; alls = 0 }

-- The number of procedure bytes of each kind that began these segments.
abbrev pub tally_of : List Step → Tally
tally_of segments = fold counted uncounted segments

abbrev pub no_report : Report
no_report = record {
  header = [];
  tally = uncounted;
  way = None;
  moved = [];
  status = [];
  answer = [];
  is_loose = false;
  line = 0;
}

-- A header is loose if one of its TPDU's characters is. It began in the line of the first of them.
-- Lines count from 1; 0 means that no character was received.
abbrev pub no_mark : Mark
no_mark = record { is_loose = false; line = 0 }

abbrev pub first_line : ℕ → ℕ → ℕ
first_line first line = if first == 0 then line else first

abbrev pub both_marks : Mark → Mark → Mark
both_marks m n = record { is_loose = m.is_loose || n.is_loose; line = first_line m.line n.line }

-- The report of a header, segments, data and the characters of a status, if data showed this way.
-- In characters one end alone sends data.
abbrev pub reported_body : Option Direction → Mark → Body → List ℕ → Report
reported_body way m b status = record {
  header = header_bytes b.header ++ b.p3 ∷ [];
  tally = tally_of b.segments;
  way = way;
  moved = b.moved;
  status = status;
  answer = [];
  is_loose = m.is_loose;
  line = m.line;
}

-- The report of the first characters of a dialogue.
abbrev pub reported : Option Direction → Mark → Front → Report
reported way m (In_header bytes) =
    record no_report { header = bytes; way = way; is_loose = m.is_loose; line = m.line }
reported way m (In_body b) = reported_body way m b []
reported way m (After_first b sw1) = reported_body way m b (sw1 ∷ [])

abbrev pub ReportsFront : Report → Mark → Front → Type 0
ReportsFront t m front = t ≡ reported t.way m front

-- The report of a whole dialogue.
abbrev pub reported_whole : Option Direction → Mark → Dialogue → Report
reported_whole way m d = reported_body way m d.body (d.status.0 ∷ d.status.1 ∷ [])

abbrev pub Reports : Report → Mark → Dialogue → Type 0
Reports t m d = (t ≡ reported_whole t.way m d) × Shows t.way d.body.direction d.body.moved

-- The same report with the mark of one more character.
abbrev pub marked : Mark → Report → Report
marked m t = record t { is_loose = t.is_loose || m.is_loose; line = first_line t.line m.line }

-- The same report with a loose header.
abbrev pub loose : Report → Report
loose t = record t { is_loose = true }

-- Its header may be something else: it is loose, or cut off.
abbrev pub is_doubtful : Report → Bool
is_doubtful t = t.is_loose || not (length t.header == 5)

-- The report with one more character.
abbrev pub noted : Report → Heard → ℕ → Report
noted t heard.Header byte = record t { header = t.header ++ byte ∷ [] }
noted t (heard.Procedure step) byte = record t { tally = counted t.tally step }
noted t (heard.Data direction) byte =
    record t { way = Some direction; moved = t.moved ++ byte ∷ [] }
noted t heard.FirstStatus byte = record t { status = t.status ++ byte ∷ [] }
noted t (heard.SecondStatus said status) byte =
    record t { way = said.direction; status = t.status ++ byte ∷ [] }

-- A dialogue ends with this character.
abbrev pub is_last : Heard → Bool
is_last (heard.SecondStatus said status) = true
is_last other = false

-- A dialogue ends with the next character.
abbrev pub ends_next : Due → Bool
ends_next SecondStatus = true
ends_next other = false

-- The header of the TPDU with these first characters.
pub record IsOfCommand (bytes : List ℕ) (header : Header) : Type 0 where
  pub cla : header.cla ≡ get_or bytes 0 0
  pub ins : header.ins ≡ get_or bytes 1 0
  pub p1 : header.p1 ≡ get_or bytes 2 0
  pub p2 : header.p2 ≡ get_or bytes 3 0
