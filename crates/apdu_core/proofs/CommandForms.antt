-- Bytes of four or more, and the command that the fields after the header make.
use Rattle.std.proofs.Common.{◌≡◌, ℕ, ◌-◌, ◌≤◌, List, [], ◌∷◌, ◌++◌, Option, length, take, drop, slice_index_or, false, arith}
use Rattle.std.proofs.Math.Seq.{take-length}
use Rattle.apdu_core.specs.HeaderBytes.{ins_is_valid}
use Rattle.apdu_core.specs.CommandBytes.{Command, HasSizes, HasForm, HasInvalidIns, command_bytes, lc_field, le_field}

-- the command of the header in these bytes, these data and this Le
abbrev made : List ℕ → List ℕ → Option ℕ → Command
made bytes content le = record {
  header = record {
    cla = slice_index_or bytes 0 0;
    ins = slice_index_or bytes 1 0;
    p1 = slice_index_or bytes 2 0;
    p2 = slice_index_or bytes 3 0;
  };
  content = content;
  le = le;
}

-- the bytes after the header are these fields
abbrev pub Fields : List ℕ → List ℕ → Option ℕ → Type 0
Fields bytes content le = take (length bytes - 4) (drop 4 bytes) ≡ lc_field content ++ le_field le

made-bytes : (bytes content : List ℕ) (le : Option ℕ) → 4 ≤ length bytes → Fields bytes content le →
    bytes ≡ command_bytes (made bytes content le)
made-bytes [] content le h fields = absurd (omega arith)
made-bytes (a ∷ []) content le h fields = absurd (omega arith)
made-bytes (a ∷ b ∷ []) content le h fields = absurd (omega arith)
made-bytes (a ∷ b ∷ c ∷ []) content le h fields = absurd (omega arith)
made-bytes (a ∷ b ∷ c ∷ d ∷ rest) content le h fields =
    let size : length (a ∷ b ∷ c ∷ d ∷ rest) - 4 ≡ length rest = omega arith in
    let whole : rest ≡ lc_field content ++ le_field le = rw (size, take-length) at fields in
    cc

pub has_form : (bytes content : List ℕ) (le : Option ℕ) → 4 ≤ length bytes → HasSizes content le →
    Fields bytes content le → HasForm bytes
has_form bytes content le h sizes fields =
    (made bytes content le, sizes, made-bytes bytes content le h fields)

pub has_invalid_ins : (bytes content : List ℕ) (le : Option ℕ) →
    4 ≤ length bytes → HasSizes content le →
    Fields bytes content le → ins_is_valid (slice_index_or bytes 1 0) ≡ false →
    (c : Command) × HasInvalidIns c × (bytes ≡ command_bytes c)
has_invalid_ins bytes content le h sizes fields invalid =
    let refused : HasInvalidIns (made bytes content le) =
    record { invalid_ins = invalid; sizes = sizes } in
    (made bytes content le, refused, made-bytes bytes content le h fields)
