-- The lines of a script so far, their number, and the place where they stop.
use Rattle.std.proofs.Common.{◌≡◌, ◌≤◌, ◌<◌, ◌+◌, ◌-◌, ◌^◌, ◌∙◌, min, ℕ, List, [], ◌∷◌, ◌++◌, length, Option, Some, None, IfSome, ◌==◌, Bool, true, false, refl, sym, ap, subst, arith, append_assoc, Result, Ok, Err, IfErr, IsErrAnd}
use Rattle.std.proofs.Math.Nat.{min-eq_left}
use Rattle.std.proofs.lemmas.List.{length-append}
use Rattle.std.proofs.lemmas.List.Splits.{length-slice_split}
use Rattle.std.proofs.lemmas.List.Sums.{count_by-le-length}
use Rattle.std.specs.List.{slice_split}
use Rattle.std.specs.Str.Lines.{lines, lines_of_parts}
use Rattle.std.proofs.KnownBytes.{Appends-nil}
use Rattle.card_trace.specs.declared.play_fault.PlayFault.{PlayFault}
use Rattle.card_trace.specs.declared.play_fault.PlayFault.TheVariants.{Script as Refused, Read, Write, InputTooLong, OutOfMemory}
use Rattle.card_trace.specs.declared.script.reason.LineReason.{LineReason}
use Rattle.card_trace.specs.declared.script.reading.TheConstants.{SCRIPT_LIMIT}
use Rattle.card_trace.specs.declared.script.refusal.Refusal.{Refusal}
use Rattle.card_trace.specs.declared.script.refusal.Refusal.TheVariants.{Line, OutOfMemory as NoMemory}
use Rattle.card_trace.specs.ScriptReasons.{fault_at, OnReason}
use Rattle.card_trace.specs.ScriptReading.{IsReadingFault}
use Rattle.card_trace.specs.Script.{Script, Building}
use Rattle.card_trace.specs.ScriptFaults.{IsLeftAfter, ScriptStops}
use Rattle.card_trace.specs.LineFaults.{IsFaultOfLine}

-- what holds of the bytes read holds of the script
pub of_script : (script : Option (List ℕ)) (items : List ℕ) (P : List ℕ → Type 0)
    → IfSome script (λ bytes. items ≡ bytes) → P items → IfSome script P
of_script None items P same holds = tt
of_script (Some bytes) items P same holds = subst P same holds

-- ---- the number of lines fits

parts_fit : (parts : List (List ℕ)) → length (lines_of_parts parts) ≤ length parts
parts_fit [] = omega arith
parts_fit (x ∷ []) = by (length x == 0) refl where
  by : (v : Bool) → (length x == 0) ≡ v → length (lines_of_parts (x ∷ [])) ≤ length (x ∷ [])
  by true e = rw e (omega arith)
  by false e = rw e (omega arith)
parts_fit (x ∷ y ∷ more) = let rest = parts_fit (y ∷ more) in omega (arith, rest)

pub lines_fit : (bytes : List ℕ) → length (lines bytes) ≤ length bytes + 1
lines_fit bytes =
    let parts = parts_fit (slice_split (λ b. b == 10) bytes) in
    let count = length-slice_split (λ (b : ℕ). b == 10) bytes in
    let few = count_by-le-length (λ (b : ℕ). b == 10) bytes in omega (arith, parts, count, few)

-- the number of the next line, which did not saturate
pub next_number : (all before others : List (List ℕ)) (line : List ℕ) (m number : ℕ)
    → all ≡ before ++ line ∷ others → m ≡ length before → length all < 2 ^ 63
    → number ≡ min (m + 1) (2 ^ 64 - 1) → number ≡ length before + 1
next_number all before others line m number cut is few next =
    let whole : length all ≡ length before + length (line ∷ others) =
    ap length cut ∙ length-append before (line ∷ others) in
    let within : m + 1 ≤ 2 ^ 64 - 1 = omega (arith, whole, is, few) in
    let one_more : m + 1 ≡ length before + 1 = omega (arith, is) in
    next ∙ min-eq_left within ∙ one_more

-- one more line precedes the others
pub cut_after : (all before others : List (List ℕ)) (line : List ℕ) → all ≡ before ++ line ∷ others
    → all ≡ (before ++ line ∷ []) ++ others
cut_after all before others line cut = cut ∙ sym (append_assoc before (line ∷ []) others)

pub few_lines : (all : List (List ℕ)) (items : List ℕ) → all ≡ lines items
    → length items ≤ SCRIPT_LIMIT → length all < 2 ^ 63
few_lines all items is fits =
    let same : length all ≡ length (lines items) = ap (λ l. length l) is in
    let fit = lines_fit items in omega (arith, same, fit, fits)

-- ---- a fault that a call passes on

pub fault_passed : {T E : Type 0} (r : Result T E) (e : E) (Q : E → Type 0)
    → IsErrAnd r (λ x. x ≡ e) → Q e → IfErr r Q
fault_passed (Ok x) e Q same h = absurd same
fault_passed (Err f) e Q same h = subst Q (sym same) h

-- a refusal of the line, for which nothing is written
pub of_refusal : (R S : LineReason → Type 0) (number : ℕ) (written : Option (List ℕ))
    (refusal : Refusal) (fault : PlayFault) → fault ≡ fault_at number refusal
    → ((reason : LineReason) → R reason → S reason) → OnReason refusal R
    → IsFaultOfLine S number written written fault
of_refusal R S number written (Line reason) fault is f h =
    subst (λ x. IsFaultOfLine S number written written x) (sym is) (refl, f reason h, refl)
of_refusal R S number written NoMemory fault is f h =
    subst (λ x. IsFaultOfLine S number written written x) (sym is) refl

-- if the script was not read, nothing is written
pub stops_unread : (s : Script) (script old : Option (List ℕ)) (fault : PlayFault)
    → IsReadingFault fault
    → (fault ≡ InputTooLong → IfSome script (λ bytes. SCRIPT_LIMIT < length bytes))
    → ScriptStops s script old old fault
stops_unread s script old Read is long = refl
stops_unread s script old InputTooLong is long = (refl, long refl)
stops_unread s script old OutOfMemory is long = ([], Appends-nil old, of script) where
  of : (read : Option (List ℕ)) → IfSome read (λ bytes. IsLeftAfter s (lines bytes) [])
  of None = tt
  of (Some bytes) = record {
    before = [];
    others = lines bytes;
    is_cut = refl;
    state = Building s.empty;
    does = (refl, refl);
  }
stops_unread s script old (Refused line reason) is long = absurd is
stops_unread s script old Write is long = absurd is
