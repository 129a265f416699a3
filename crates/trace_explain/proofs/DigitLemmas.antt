-- A byte of two digits.
use Rattle.std.proofs.Common.{◌≡◌, ◌<◌, ℕ, List, [], ◌∷◌, ◌++◌, ◌∙◌, ◌==◌, ◌&&◌, ◌||◌, if◌then◌else◌, Bool, Option, Some, None, IfSome, true, false, is_some, ap, arith, drop, get_or, length, refl, sym}
use Rattle.std.proofs.lemmas.Bool.{eqb-true}
use Rattle.hex.specs.Hex.{hex_digit_value}
use Rattle.trace_explain.specs.declared.read.digits.Spot.{Spot}
use Rattle.trace_explain.specs.declared.read.digits.Spot.TheVariants.{Between, Behind, Bound, Within}
use Rattle.trace_explain.specs.Patterns.{begins, byte_at, byte_of, spelled_from}

-- A digit is no other character.
differs : (d n : ℕ) → is_some (hex_digit_value d) ≡ true
    → is_some (hex_digit_value n) ≡ false → (d == n) ≡ false
differs d n some none = split (d == n) refl
  where
    split : (v : Bool) → (d == n) ≡ v → (d == n) ≡ false
    split true e = absurd (let no : true ≡ false = sym some
        ∙ ap (λ k. is_some (hex_digit_value k)) (eqb-true d n e) ∙ none in cc)
    split false e = e

are_some : (high low : Option ℕ) (byte : ℕ) → byte_of high low ≡ Some byte
    → (is_some high ≡ true) × (is_some low ≡ true)
are_some None low byte is = absurd (cc)
are_some (Some high) None byte is = absurd (cc)
are_some (Some high) (Some low) byte is = (refl, refl)

and_false : (v : Bool) → (v && false) ≡ false
and_false true = refl
and_false false = refl

within_byte : (is_short : Bool) (bytes : List ℕ) (high low byte : ℕ) (rest : List ℕ)
    → byte_of (hex_digit_value high) (hex_digit_value low) ≡ Some byte
    → spelled_from is_short bytes (Within high) (low ∷ rest)
    ≡ spelled_from is_short (bytes ++ byte ∷ []) Behind rest
within_byte is_short bytes high low byte rest is =
    let (one, other) = are_some (hex_digit_value high) (hex_digit_value low) byte is in
    let short : Bool = is_short && (length rest == 0) in
    let on : Bool → Option ℕ → Bool → Option (List ℕ) = λ x o s.
    if x then spelled_from is_short bytes Bound rest else elim o [
      | None ↦ None
      | Some b ↦ spelled_from is_short (bytes ++ b ∷ []) (if s then Between else Behind) rest
    ] in
    let two : Option ℕ = byte_of (hex_digit_value high) (hex_digit_value low) in
    let at : Bool → Option ℕ = λ v. if v then hex_digit_value high else two in
    ap (λ v. on ((high == 48) && v) (byte_at short high low) (low == 32))
    (differs low 120 other refl)
    ∙ ap (λ v. on v (byte_at short high low) (low == 32)) (and_false (high == 48))
    ∙ ap (λ v. on false (at (short && v)) v) (differs low 32 other refl)
    ∙ ap (λ v. on false (at v) false) (and_false short)
    ∙ ap (λ o. on false o false) is

pair_spelled : (spot : Spot) (high low byte : ℕ) (rest : List ℕ) → begins spot ≡ true
    → byte_of (hex_digit_value high) (hex_digit_value low) ≡ Some byte
    → (is_short : Bool) (bytes : List ℕ) → spelled_from is_short bytes spot (high ∷ low ∷ rest)
    ≡ spelled_from is_short (bytes ++ byte ∷ []) Behind rest
pair_spelled Between high low byte rest may is is_short bytes =
    let (one, other) = are_some (hex_digit_value high) (hex_digit_value low) byte is in
    ap (λ v. spelled_from is_short bytes (if v then Between else Within high) (low ∷ rest))
    (differs high 32 one refl)
    ∙ within_byte is_short bytes high low byte rest is
pair_spelled Behind high low byte rest may is is_short bytes =
    let (one, other) = are_some (hex_digit_value high) (hex_digit_value low) byte is in
    ap (λ v. spelled_from is_short bytes (if v then Bound
    else if (high == 32) || (high == 44) then Between else Within high) (low ∷ rest))
    (differs high 58 one refl)
    ∙ ap (λ v. spelled_from is_short bytes (if v || (high == 44) then Between else Within high)
    (low ∷ rest)) (differs high 32 one refl)
    ∙ ap (λ v. spelled_from is_short bytes (if v then Between else Within high) (low ∷ rest))
    (differs high 44 one refl)
    ∙ within_byte is_short bytes high low byte rest is
pair_spelled other high low byte rest may is is_short bytes = absurd (cc)

-- The first two characters spell a byte, if they are digits.
pub pair_of : (spot : Spot) (digits : List ℕ) (r : Option ℕ) → begins spot ≡ true
    → 1 < length digits
    → r ≡ byte_of (hex_digit_value (get_or digits 0 0)) (hex_digit_value (get_or digits 1 0))
    → IfSome r (λ byte. (1 < length digits) × ((is_short : Bool) (bytes : List ℕ)
    → spelled_from is_short bytes spot digits
    ≡ spelled_from is_short (bytes ++ byte ∷ []) Behind (drop 2 digits)))
pair_of spot (high ∷ low ∷ rest) None may more is = tt
pair_of spot (high ∷ low ∷ rest) (Some byte) may more is =
    (more, λ is_short bytes. pair_spelled spot high low byte rest may (sym is) is_short bytes)
pair_of spot other r may more is = absurd (omega (arith, more))
