-- What the exports for PPS return and write.
use Rattle.std.specs.Prelude.{◌≡◌, ◌⊎◌, ℕ, ℤ, pos, ◌<◌, ◌≤◌, List, length, Option, Some, None, nat_lt, if◌then◌else◌}
use Rattle.atr_core.specs.PpsBytes.{pps_characters, pps_fault, agreed}
use Rattle.atr_core.specs.declared.pps.Pps.{Pps}
use Rattle.atr_core.specs.declared.pps.PpsFault.{PpsFault}
use Rattle.card_c.specs.Codes.{gt_argument, pps_code}
use Rattle.card_c.specs.Copying.{IsCopied}

-- a character as C gives it: a number below 256, or 256 if it is missing
abbrev pub given : ℕ → Option ℕ
given number = if nat_lt number 256 then Some number else None

-- the request that these ask for
abbrev pub pps_given : ℕ → ℕ → ℕ → ℕ → Pps
pps_given t pps1 pps2 pps3 =
    record { t = t; pps1 = given pps1; pps2 = given pps2; pps3 = given pps3 }

-- these numbers are those of a request
abbrev pub AreOfRequest : ℕ → ℕ → ℕ → ℕ → Type 0
AreOfRequest t pps1 pps2 pps3 = (t < 16) × (pps1 ≤ 256) × (pps2 ≤ 256) × (pps3 ≤ 256)

-- The request is written if the numbers are those of one; otherwise nothing changes.
abbrev pub AsksPps : ℕ → ℕ → ℕ → ℕ → List ℕ → ℕ → ℤ → List ℕ → ℕ → Type 0
AsksPps t pps1 pps2 pps3 room len code room' len' =
    let request : List ℕ = pps_characters (pps_given t pps1 pps2 pps3) in
    (AreOfRequest t pps1 pps2 pps3 × IsCopied request room code room' × (len' ≡ length request))
    ⊎ ((¬ AreOfRequest t pps1 pps2 pps3) × (code ≡ gt_argument) × (room' ≡ room) × (len' ≡ len))

-- a request or response, in its bytes
abbrev pub IsPps : List ℕ → Pps → Type 0
IsPps bytes p = (p.t < 16) × (bytes ≡ pps_characters p)

-- whether a response agrees to a request, or the response's first fault
abbrev pub AnswersPps : Pps → List ℕ → ℤ → Type 0
AnswersPps request response code =
    ((fault : PpsFault) × (pps_fault response ≡ Some fault) × (code ≡ pps_code fault))
    ⊎ ((answered : Pps) × IsPps response answered
    × (code ≡ (if agreed request answered then pos 1 else pos 0)))

-- The same for the bytes of a request. If they are invalid, the code is gt_argument, whatever the
-- response is.
abbrev pub AgreesPps : List ℕ → List ℕ → ℤ → Type 0
AgreesPps request response code =
    ((fault : PpsFault) × (pps_fault request ≡ Some fault) × (code ≡ gt_argument))
    ⊎ ((asked : Pps) × IsPps request asked × AnswersPps asked response code)
