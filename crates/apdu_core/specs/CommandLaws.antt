-- A command has at most 261 bytes (ISO/IEC 7816-4, 5.1: four of header, Lc, 255 of data, Le).
use Rattle.std.proofs.Common.{◌≡◌, ℕ, ◌≤◌, ◌<◌, List, [], ◌∷◌, ◌++◌, length, Option, Some, None, ap, arith, length-append}
use Rattle.apdu_core.specs.declared.header.Header.{Header}
use Rattle.apdu_core.specs.CommandBytes.{Command, HasSizes, command_bytes, lc_field, le_field}
use Rattle.apdu_core.specs.HeaderBytes.{header_bytes}

few_bytes : (h : Header) (content : List ℕ) (le : Option ℕ) → length content ≤ 255
    → length (header_bytes h ++ lc_field content ++ le_field le) ≤ 261
few_bytes h [] None few = omega arith
few_bytes h [] (Some n) few = omega arith
few_bytes h (b ∷ bs) None few =
    omega (arith, few, length-append (lc_field (b ∷ bs)) (le_field None))
few_bytes h (b ∷ bs) (Some n) few =
    omega (arith, few, length-append (lc_field (b ∷ bs)) (le_field (Some n)))

-- more bytes are no command
pub has_no_form : (c : Command) (bytes : List ℕ) → HasSizes c.content c.le
    → bytes ≡ command_bytes c → 261 < length bytes → ⊥
has_no_form c bytes sizes is long =
    let few = few_bytes c.header c.content c.le sizes.fits in
    let n = ap (λ (l : List ℕ). length l) is in
    omega (arith, few, n, long)
