-- A whole TPDU as bytes: a command without data or without Le (ISO/IEC 7816-3, 12.2, cases 1 to 3).
-- That the four bytes of case 1 mean P3 00 is this project's profile, as in PC/SC.
use Rattle.std.specs.Prelude.{ℕ, zero, suc, List, [], ◌∷◌, ◌++◌, length, Option, Some, None, ◌==◌, if◌then◌else◌}
use Rattle.apdu_core.specs.declared.header.Header.{Header}
use Rattle.apdu_core.specs.HeaderBytes.{header_bytes}
use Rattle.apdu_core.specs.StatusWord.{count}
use Rattle.t0_core.specs.declared.whole_tpdu.WholeTpdu.{WholeTpdu}
use Rattle.t0_core.specs.HostSide.{Hosting}
use Rattle.t0_core.specs.HostAnswer.{is_due, may_come}

-- the request to a reader of whole TPDUs 16~ the most bytes of data that may come back
pub record Asked : Type 0 where
  pub header : Header
  pub p3 : ℕ
  pub content : List ℕ  -- data to the card
  pub may_come : ℕ  -- how many bytes of data may come back

abbrev pub asked_for : Header → ℕ → List ℕ → ℕ → Asked
asked_for header p3 content may_come =
    record { header = header; p3 = p3; content = content; may_come = may_come }

-- A header alone: no data move. A header and P3: as many bytes as it states may come back. A
-- header, P3 and that number of data, at least one: these go to the card.
abbrev pub asked_with : Header → List ℕ → Option Asked
asked_with header [] = Some (asked_for header 0 [] 0)
asked_with header (p3 ∷ []) = Some (asked_for header p3 [] (count p3))
asked_with header (p3 ∷ b ∷ bs) =
    if length (b ∷ bs) == p3 then Some (asked_for header p3 (b ∷ bs) 0) else None

-- the request in these bytes, if they are a whole TPDU
abbrev pub asked_in : List ℕ → Option Asked
asked_in (cla ∷ ins ∷ p1 ∷ p2 ∷ rest) =
    asked_with (record { cla = cla; ins = ins; p1 = p1; p2 = p2 }) rest
asked_in _ = None

abbrev pub asked_of : WholeTpdu → Asked
asked_of t = asked_for t.header t.p3 t.content.now t.may_come

-- the request of a terminal's end
abbrev pub asked_by : Hosting → Asked
asked_by host =
    asked_for host.header host.p3 host.content (may_come host.direction host.p3)

-- the same, if none of the TPDU's characters was sent yet
abbrev pub due_by : Hosting → Option Asked
due_by host = if is_due host then Some (asked_by host) else None

-- P3 and the data, if any data move
abbrev pub p3_field : ℕ → List ℕ → ℕ → List ℕ
p3_field p3 [] zero = []
p3_field p3 [] (suc may_come) = p3 ∷ []
p3_field p3 (b ∷ bs) may_come = p3 ∷ b ∷ bs

-- the bytes of a request
abbrev pub tpdu_bytes : Asked → List ℕ
tpdu_bytes asked =
    header_bytes asked.header ++ p3_field asked.p3 asked.content asked.may_come
