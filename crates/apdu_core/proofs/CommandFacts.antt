-- The same bytes are never those of two commands.
use Rattle.std.proofs.Common.{◌≡◌, ℕ, ◌%◌, ◌≤◌, List, [], ◌∷◌, ◌++◌, length, Option, Some, None, IfSome, refl, arith, ap}
use Rattle.apdu_core.specs.declared.header.Header.{Header}
use Rattle.apdu_core.specs.CommandBytes.{Command, HasSizes, command_bytes, lc_field, le_field}
use Rattle.apdu_core.proofs.ListFacts.{parted}

same_le : (m n : Option ℕ) →
    IfSome m (λ n. (1 ≤ n) × (n ≤ 256)) → IfSome n (λ n. (1 ≤ n) × (n ≤ 256)) →
    le_field m ≡ le_field n → m ≡ n
same_le None None h k e = refl
same_le None (Some n) h k e = cc
same_le (Some m) None h k e = cc
same_le (Some m) (Some n) h k e =
    let rest : m % 256 ≡ n % 256 = cc in
    let same : m ≡ n = omega arith in
    ap Some same

-- the bytes after the header determine data and Le
same_fields : (b c : List ℕ) (m n : Option ℕ) → HasSizes b m → HasSizes c n →
    lc_field b ++ le_field m ≡ lc_field c ++ le_field n → (b ≡ c) × (m ≡ n)
same_fields [] [] m n h k e = (refl, same_le m n h.le_in_range k.le_in_range e)
same_fields [] (c ∷ cs) None n h k e = cc
same_fields [] (c ∷ cs) (Some m) n h k e = cc
same_fields (b ∷ bs) [] m None h k e = cc
same_fields (b ∷ bs) [] m (Some n) h k e = cc
same_fields (b ∷ bs) (c ∷ cs) m n h k e =
    let size : length (b ∷ bs) ≡ length (c ∷ cs) = cc in
    let rest : (b ∷ bs) ++ le_field m ≡ (c ∷ cs) ++ le_field n = cc in
    let both = parted (b ∷ bs) (le_field m) (c ∷ cs) (le_field n) size rest in
    (both.0, same_le m n h.le_in_range k.le_in_range both.1)

-- the command, rebuilt from its parts
abbrev same_parts : Command → Command
same_parts c =
    let h = c.header in
    let header : Header = record { cla = h.cla; ins = h.ins; p1 = h.p1; p2 = h.p2 } in
    record { header = header; content = c.content; le = c.le }

pub same_command : (c d : Command) → HasSizes c.content c.le → HasSizes d.content d.le →
    command_bytes c ≡ command_bytes d → c ≡ d
same_command c d h k e =
    let rest : lc_field c.content ++ le_field c.le ≡ lc_field d.content ++ le_field d.le = cc in
    let fields = same_fields c.content d.content c.le d.le h k rest in
    let content = fields.0 in let le = fields.1 in
    let parts : same_parts c ≡ same_parts d = cc in
    parts
