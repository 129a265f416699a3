-- Pieces that are added to a sheet, one after another.
use Rattle.std.proofs.Common.{◌≡◌, ℕ, List, [], ◌∷◌, ◌++◌, ◌∙◌, ◌+◌, ◌-◌, ◌<◌, ◌≤◌, ◌/◌, ◌%◌, length, slice_index, drop, get_or, take, take-add, flat_map, suc, arith, ap, append-nil, append_assoc, Bool, refl, subst, sym, true}
use Rattle.std.proofs.lemmas.List.{drop_all, drop_more, nil_from_length, flat_map_more}
use Rattle.std.proofs.lemmas.List.Concat.{flat_map-append}
use Rattle.std.proofs.lemmas.Str.{encode_ascii}
use Rattle.std.specs.Char.{encode_utf8}
use Rattle.std.specs.List.{slice_range}
use Rattle.hex.specs.Hex.{encode_upper, encode_with, upper_digits}
use Rattle.trace_explain.specs.declared.write.sheet.Sheet.{Sheet}
use Rattle.trace_explain.specs.Sheets.{Adds, PutsLines, Joins, Puts}
use Rattle.trace_explain.specs.Written.{AreLines, content, lines_text, spaces}
use Rattle.trace_explain.specs.declared.write.layout.Layout.{Layout}
use Rattle.trace_explain.specs.declared.write.layout.Medium.{Medium}
use Rattle.trace_explain.specs.declared.write.words.Form.{Form}
use Rattle.trace_explain.specs.Words.{IsWords, Words, has_own, piece_text}
use Rattle.trace_explain.specs.Boxes.{InOrder}

pub adds_both : {x y : List ℕ} {a b c : Sheet} → Adds a x b → Adds b y c → Adds a (x ++ y) c
adds_both h k = grind (arith, append_assoc)

pub adds_five : {x y z l e : List ℕ} {a b c d f g : Sheet} → Adds a x b → Adds b y c → Adds c z d
    → Adds d l f → Adds f e g → Adds a (x ++ y ++ z ++ l ++ e) g
adds_five h i j k m = adds_both (adds_both (adds_both (adds_both h i) j) k) m

pub adds_nothing : {a : Sheet} → Adds a [] a
adds_nothing = grind (arith, append-nil)

pub adds_as : {x y : List ℕ} {a b : Sheet} → x ≡ y → Adds a x b → Adds a y b
adds_as {a = a} {b = b} e h = let P : List ℕ → Type 0 = λ t. Adds a t b in subst P e h

-- the rest completes all of the text
abbrev pub Completes : Sheet → List ℕ → Sheet → List ℕ → Type 0
Completes first all now rest = (last : Sheet) → Adds now rest last → Adds first all last

pub completes_more : (first now next : Sheet) (all piece rest : List ℕ)
    → Completes first all now (piece ++ rest) → Adds now piece next
    → Completes first all next rest
completes_more first now next all piece rest so_far more = λ last h.
    so_far last (adds_both more h)

pub completed : (first now : Sheet) (all : List ℕ) → Completes first all now [] → Adds first all now
completed first now all so_far = so_far now adds_nothing

-- a front that is added as it is, then one letter, and at last nothing
pub letters_front : (f : ℕ → List ℕ) {front rest all : List ℕ} (others : List ℕ)
    {first now next : Sheet} → rest ≡ front ++ others → flat_map f front ≡ front
    → Completes first all now (flat_map f rest) → Adds now front next
    → Completes first all next (flat_map f others)
letters_front f {front} {all = all} others {first} {now} {next} cut plain so_far more =
    let Q : List ℕ → Type 0 = λ x. Completes first all now x in
    completes_more first now next all front (flat_map f others) (subst Q (ap (flat_map f) cut
    ∙ flat_map-append f front others ∙ ap (λ x. x ++ flat_map f others) plain) so_far) more

pub letters_more : (f : ℕ → List ℕ) (rest : List ℕ) {all : List ℕ} {first now next : Sheet}
    → 0 < length rest → Completes first all now (flat_map f rest)
    → Adds now (f (get_or rest 0 0)) next → Completes first all next (flat_map f (drop 1 rest))
letters_more f rest {all} {first} {now} {next} some so_far more =
    let Q : List ℕ → Type 0 = λ x. Completes first all now (flat_map f x) in
    completes_more first now next all (f (get_or rest 0 0)) (flat_map f (drop 1 rest))
    (subst Q (drop_more rest 0 0 some) so_far) more

-- the first n are added as they are, and then those up to the m-th
pub plain_longer : (f : ℕ → List ℕ) (text : List ℕ) (n m : ℕ) → n ≤ m
    → flat_map f (take n text) ≡ take n text
    → flat_map f (slice_range text n m) ≡ slice_range text n m
    → flat_map f (take m text) ≡ take m text
plain_longer f text n m le front run =
    let more : List ℕ = slice_range text n m in
    let at : m ≡ n + (m - n) = omega (arith, le) in
    let cut : take m text ≡ take n text ++ more =
    ap (λ k. take k text) at ∙ take-add n (m - n) text
    in
    ap (flat_map f) cut ∙ flat_map-append f (take n text) more
    ∙ ap (λ x. x ++ flat_map f more) front ∙ ap (λ x. take n text ++ x) run ∙ sym cut

pub letters_done : (f : ℕ → List ℕ) (rest : List ℕ) {all : List ℕ} {first now : Sheet}
    → length rest ≡ 0 → Completes first all now (flat_map f rest) → Adds first all now
letters_done f rest {all} {first} {now} none so_far =
    let Q : List ℕ → Type 0 = λ x. Completes first all now (flat_map f x) in
    completed first now all (subst Q (nil_from_length rest none) so_far)

-- one space more, and then all
pub spaces_more : (n i : ℕ) {first now next : Sheet} → i < n
    → Completes first (spaces n) now (spaces (n - i)) → Adds now (encode_utf8 32) next
    → Completes first (spaces n) next (spaces (n - (i + 1)))
spaces_more n i {first} {now} {next} lt so_far more =
    let e : n - i ≡ suc (n - (i + 1)) = omega (arith, lt) in
    let Q : ℕ → Type 0 = λ k. Completes first (spaces n) now (spaces k) in
    completes_more first now next (spaces n) (32 ∷ []) (spaces (n - (i + 1))) (subst Q e so_far)
    (adds_as (encode_ascii 32 (omega arith)) more)

pub spaces_done : (n i : ℕ) {first now : Sheet} → n ≤ i
    → Completes first (spaces n) now (spaces (n - i)) → Adds first (spaces n) now
spaces_done n i {first} {now} le so_far =
    let e : n - i ≡ 0 = omega (arith, le) in
    let Q : ℕ → Type 0 = λ k. Completes first (spaces n) now (spaces k) in
    completed first now (spaces n) (subst Q e so_far)

-- the digits of one byte more, and then of all
pub hex_more : (bytes : List ℕ) (i : ℕ) {first now next last : Sheet} → i < length bytes
    → Completes first (encode_upper bytes) now (encode_upper (drop i bytes))
    → Adds now (slice_index upper_digits (get_or bytes i 0 / 16) ∷ []) next
    → Adds next (slice_index upper_digits (get_or bytes i 0 % 16) ∷ []) last
    → Completes first (encode_upper bytes) last (encode_upper (drop (i + 1) bytes))
unfolding encode_with
hex_more bytes i {first} {now} {next} {last} lt so_far high low =
    let all : List ℕ = encode_upper bytes in
    let rest : List ℕ = encode_upper (drop (i + 1) bytes) in
    let h : List ℕ = slice_index upper_digits (get_or bytes i 0 / 16) ∷ [] in
    let l : List ℕ = slice_index upper_digits (get_or bytes i 0 % 16) ∷ [] in
    let Q : List ℕ → Type 0 = λ x. Completes first all now (encode_upper x) in
    completes_more first next last all l rest
    (completes_more first now next all h (l ++ rest) (subst Q (drop_more bytes i 0 lt) so_far) high)
    low

pub hex_done : (bytes : List ℕ) (i : ℕ) {first now : Sheet} → length bytes ≤ i
    → Completes first (encode_upper bytes) now (encode_upper (drop i bytes))
    → Adds first (encode_upper bytes) now
unfolding encode_with
hex_done bytes i {first} {now} le so_far =
    let Q : List ℕ → Type 0 = λ x. Completes first (encode_upper bytes) now (encode_upper x) in
    completed first now (encode_upper bytes) (subst Q (drop_all i bytes le) so_far)

-- any lines of the rest complete the lines of all
abbrev pub LinesGoOn : ℕ → ℕ → Bool → List ℕ → List ℕ → Sheet → Sheet → Type 0
LinesGoOn indent width in_text bytes rest first now = (left : List (List ℕ))
    → AreLines indent width in_text rest left
    → (all : List (List ℕ)) × AreLines indent width in_text bytes all
    × Completes first (lines_text all) now (lines_text left)

pub one_line : (indent width : ℕ) (in_text : Bool) (bytes rest line others : List ℕ)
    (first now next : Sheet) → LinesGoOn indent width in_text bytes rest first now
    → 0 < length rest → line ≡ take width rest → others ≡ drop width rest
    → Adds now (10 ∷ (spaces indent ++ content in_text line)) next
    → LinesGoOn indent width in_text bytes others first next
one_line indent width in_text bytes rest line others first now next so_far some line_is others_is
    more left are =
    let one : List ℕ = spaces indent ++ content in_text (take width rest) in
    let R : List ℕ → Type 0 = λ x. Adds now (10 ∷ (spaces indent ++ content in_text x)) next
    in
    let Q : List ℕ → Type 0 = λ x. AreLines indent width in_text x left in
    let (all, are_all, completes) = so_far (one ∷ left) (some, refl, subst Q others_is are) in (
      all,
      are_all,
      completes_more first now next (lines_text all) (10 ∷ one) (lines_text left) completes
          (subst R line_is more),
    )

pub all_lines : (indent width : ℕ) (in_text : Bool) (bytes rest : List ℕ) (first now : Sheet)
    → LinesGoOn indent width in_text bytes rest first now → length rest ≡ 0
    → PutsLines (AreLines indent width in_text bytes) first now
all_lines indent width in_text bytes rest first now so_far none =
    let (all, are_all, completes) = so_far [] (nil_from_length rest none) in
    (all, are_all, completed first now (lines_text all) completes)

pub words_both : (m : Medium) (x y : List ℕ) → IsWords m x → IsWords m y → IsWords m (x ++ y)
words_both m x y (xs, x_is) (ys, y_is) =
    let f : Words → List ℕ = λ w. piece_text m w.form w.text in (
      xs ++ ys,
      ap (λ t. t ++ y) x_is ∙ ap (λ t. flat_map f xs ++ t) y_is
          ∙ sym (flat_map-append f xs ys),
    )

pub same_medium : (a b : Sheet) → b.layout ≡ a.layout → b.layout.medium ≡ a.layout.medium
same_medium a b e = ap (λ (x : Layout). x.medium) e

pub none_joined : {a : Sheet} → Joins a a
none_joined = ([], ([], refl), adds_nothing)

-- one piece more
pub piece_joined : (form : Form) (text : List ℕ) {a b c : Sheet} → has_own form ≡ true → Joins a b
    → Adds b (piece_text b.layout.medium form text) c → Joins a c
piece_joined form text {a} {b} {c} own (x, (all, is), h) k =
    let m : Medium = a.layout.medium in
    let P : Medium → Type 0 = λ n. Adds b (piece_text n form text) c in
    let f : Words → List ℕ = λ w. piece_text m w.form w.text in
    let one : Words = record { form = form; own = own; text = text } in
    let y : List ℕ = piece_text m form text in (
      x ++ y,
      (all ++ one ∷ [], ap (λ t. t ++ y) is ∙ flat_map_more f [] all one),
      adds_both h (subst P (same_medium a b h.layout) k),
    )

-- these were added in turn
pub record Put (forms : List (Medium → List ℕ → Type 0)) (a b : Sheet) : Type 0 where
  pub puts : Puts (InOrder forms) a b

pub put_none : {a : Sheet} → Put [] a a
put_none = record { puts = ([], refl, adds_nothing) }

pub put_first : (Is : Medium → List ℕ → Type 0) {forms : List (Medium → List ℕ → Type 0)}
    {a b c : Sheet} → Puts Is a b → Put forms b c → Put (Is ∷ forms) a c
put_first Is {forms} {a} {b} {c} (x, is, h) others =
    let (y, are, k) = others.puts in
    let P : Medium → Type 0 = λ m. InOrder forms m y in
    record {
      puts = (
        x ++ y,
        (x, y, refl, is, subst P (same_medium a b h.layout) are),
        adds_both h k,
      );
    }
