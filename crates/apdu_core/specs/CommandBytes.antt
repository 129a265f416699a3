-- Commands and their bytes (ISO/IEC 7816-4, 5.1).
use Rattle.std.specs.Prelude.{◌≡◌, ℕ, ◌%◌, ◌≤◌, List, [], ◌∷◌, ◌++◌, length, Option, Some, None, IfSome, true, false}
use Rattle.apdu_core.specs.declared.header.Header.{Header}
use Rattle.apdu_core.specs.HeaderBytes.{header_bytes, ins_is_valid}

-- A command. Case 1: neither data nor Le. Case 2: Le. Case 3: data. Case 4: both.
pub record Command : Type 0 where
  pub header : Header
  pub content : List ℕ
  pub le : Option ℕ

-- at most 255 bytes of data, and Le of 1 to 256
pub record HasSizes (content : List ℕ) (le : Option ℕ) : Type 0 where
  pub fits : length content ≤ 255
  pub le_in_range : IfSome le (λ n. (1 ≤ n) × (n ≤ 256))

-- a command with a valid INS
pub record IsCommand (c : Command) : Type 0 where
  pub valid_ins : ins_is_valid c.header.ins ≡ true
  pub sizes : HasSizes c.content c.le

-- a command except that its INS is 6X or 9X
pub record HasInvalidIns (c : Command) : Type 0 where
  pub invalid_ins : ins_is_valid c.header.ins ≡ false
  pub sizes : HasSizes c.content c.le

-- Lc and the data, or nothing if there are no data
abbrev pub lc_field : List ℕ → List ℕ
lc_field [] = []
lc_field (b ∷ bs) = length (b ∷ bs) ∷ (b ∷ bs)

-- Le, where 00 means 256, or nothing if the command asks for no data
abbrev pub le_field : Option ℕ → List ℕ
le_field None = []
le_field (Some n) = n % 256 ∷ []

-- CLA INS P1 P2, and one of: nothing; Le; Lc and data; Lc, data and Le
abbrev pub command_bytes : Command → List ℕ
command_bytes c = header_bytes c.header ++ lc_field c.content ++ le_field c.le

-- bytes in the form of one of the four cases, whatever the INS
abbrev pub HasForm : List ℕ → Type 0
HasForm bytes = (c : Command) × HasSizes c.content c.le × (bytes ≡ command_bytes c)
