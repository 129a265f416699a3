-- Laws of the pieces of a value: a terminal takes them one by one from the front of the rest.
use Rattle.std.proofs.Common.{◌≡◌, ◌≤◌, ◌+◌, ◌-◌, arith, ℕ, zero, suc, List, [], ◌∷◌, ◌++◌, length, take, drop, refl, sym, subst, ◌∙◌, ap, append-nil, length-append}
use Rattle.std.specs.List.{concat, slice_range}
use Rattle.std.proofs.Math.Seq.{drop-append_seam, take-append_seam}
use Rattle.std.proofs.lemmas.List.{append_cancel_left, take_rest, length-drop}
use Rattle.apdu_core.specs.declared.header.Header.{Header}
use Rattle.apdu_core.specs.CommandBytes.{Command}
use Rattle.apdu_core.specs.Chaining.{HavePieceSizes, IsPieces, link, with_more, chain_commands}
use Rattle.object_card.specs.CarryingOut.{put_header}
use Rattle.card_terminal.specs.TerminalSide.{AreLeft}

some_in : (piece : List ℕ) (others : List (List ℕ)) → HavePieceSizes (piece ∷ others)
    → 1 ≤ length piece
some_in piece [] sizes = sizes.0
some_in piece (next ∷ others) sizes = omega (arith, sizes.0)

-- lists of the same length at the front of one list
same_fronts : (a b x y : List ℕ) → length a ≡ length b → a ++ x ≡ b ++ y → a ≡ b
same_fronts a b x y len e = sym (take-append_seam a x) ∙ ap (λ z. take (length a) z) e
    ∙ ap (λ n. take n (b ++ y)) len ∙ take-append_seam b y

one_and_more : (a b c : List ℕ) (others : List (List ℕ)) → length a ≤ 255 → length b ≡ 255
    → 1 ≤ length c → a ++ [] ≡ b ++ (c ++ concat others) → ⊥
one_and_more a b c others few full some e = omega (
  arith,
  few,
  full,
  some,
  ap length e,
  length-append a [],
  length-append b (c ++ concat others),
  length-append c (concat others),
)

same_pieces : (p q : List (List ℕ)) → HavePieceSizes p → HavePieceSizes q → concat p ≡ concat q
    → p ≡ q
same_pieces [] q p_sizes q_sizes e = absurd p_sizes
same_pieces (a ∷ p) [] p_sizes q_sizes e = absurd q_sizes
same_pieces (a ∷ []) (b ∷ []) p_sizes q_sizes e =
    ap (λ z. z ∷ []) (sym (append-nil a) ∙ e ∙ append-nil b)
same_pieces (a ∷ []) (b ∷ d ∷ q) p_sizes q_sizes e =
    absurd (one_and_more a b d q p_sizes.1 q_sizes.0 (some_in d q q_sizes.1) e)
same_pieces (a ∷ c ∷ p) (b ∷ []) p_sizes q_sizes e =
    absurd (one_and_more b a c p q_sizes.1 p_sizes.0 (some_in c p p_sizes.1) (sym e))
same_pieces (a ∷ c ∷ p) (b ∷ d ∷ q) p_sizes q_sizes e =
    let front : a ≡ b = same_fronts a b (concat (c ∷ p)) (concat (d ∷ q))
    (p_sizes.0 ∙ sym q_sizes.0) e in
    let rest : concat (c ∷ p) ≡ concat (d ∷ q) = append_cancel_left b (concat (c ∷ p))
    (concat (d ∷ q)) (ap (λ z. z ++ concat (c ∷ p)) (sym front) ∙ e) in
    ap (λ z. z ∷ c ∷ p) front ∙ ap (λ z. b ∷ z) (same_pieces (c ∷ p) (d ∷ q) p_sizes.1 q_sizes.1
    rest)

-- the commands that carry the rest of a value are exactly these
pub left_is : (p1 p2 : ℕ) (rest : List ℕ) (pieces : List (List ℕ)) (left : List Command)
    → (rest ≡ [] → ⊥) → IsPieces rest pieces → AreLeft p1 p2 rest left
    → left ≡ chain_commands (put_header p1 p2) pieces
left_is p1 p2 [] pieces left some are is = absurd (some refl)
left_is p1 p2 (b ∷ bs) pieces left some are (others, also, same) =
    same ∙ ap (λ p. chain_commands (put_header p1 p2) p)
    (same_pieces others pieces also.1 are.1 (also.0 ∙ sym are.0))

-- the rest after a piece
more_left : (p1 p2 : ℕ) (next : List ℕ) (others : List (List ℕ)) → HavePieceSizes (next ∷ others)
    → AreLeft p1 p2 (concat (next ∷ others)) (chain_commands (put_header p1 p2) (next ∷ others))
more_left p1 p2 [] others sizes = absurd (omega (arith, some_in [] others sizes))
more_left p1 p2 (b ∷ bs) others sizes = ((b ∷ bs) ∷ others, (refl, sizes), refl)

after_first : (p1 p2 : ℕ) (rest : List ℕ) (pieces : List (List ℕ)) (c : Command)
    (others : List Command) → concat pieces ≡ rest → HavePieceSizes pieces
    → chain_commands (put_header p1 p2) pieces ≡ c ∷ others
    → AreLeft p1 p2 (drop (length c.content) rest) others
after_first p1 p2 rest [] c others whole sizes e = absurd sizes
after_first p1 p2 rest (a ∷ []) c others whole sizes e =
    let head : link (put_header p1 p2) a ≡ c = cc in
    let tail : [] ≡ others = cc in
    let content : a ≡ c.content = ap (λ (d : Command). d.content) head in
    let none : drop (length c.content) rest ≡ [] =
    ap (λ z. drop (length z) rest) (sym content) ∙ ap (λ z. drop (length a) z) (sym whole)
    ∙ drop-append_seam a [] in
    subst (λ z. AreLeft p1 p2 z others) (sym none) (sym tail)
after_first p1 p2 rest (a ∷ next ∷ more) c others whole sizes e =
    let head : link (with_more (put_header p1 p2)) a ≡ c = cc in
    let tail : chain_commands (put_header p1 p2) (next ∷ more) ≡ others = cc in
    let content : a ≡ c.content = ap (λ (d : Command). d.content) head in
    let rest_is : drop (length c.content) rest ≡ concat (next ∷ more) =
    ap (λ z. drop (length z) rest) (sym content) ∙ ap (λ z. drop (length a) z) (sym whole)
    ∙ drop-append_seam a (concat (next ∷ more)) in
    subst (λ z. AreLeft p1 p2 z others) (sym rest_is)
    (subst (λ cs. AreLeft p1 p2 (concat (next ∷ more)) cs) tail
    (more_left p1 p2 next more sizes.1))

pub left_after : (p1 p2 : ℕ) (rest : List ℕ) (pieces : List (List ℕ)) (c : Command)
    (others : List Command) → IsPieces rest pieces
    → chain_commands (put_header p1 p2) pieces ≡ c ∷ others
    → AreLeft p1 p2 (drop (length c.content) rest) others
left_after p1 p2 [] pieces c others are e =
    let one : link (put_header p1 p2) [] ∷ [] ≡ c ∷ others =
    ap (λ p. chain_commands (put_header p1 p2) p) (sym are) ∙ e in
    let tail : [] ≡ others = cc in
    let none : drop (length c.content) [] ≡ [] = drop_none (length c.content) in
    subst (λ z. AreLeft p1 p2 z others) (sym none) (sym tail)
  where
    drop_none : (n : ℕ) → drop {A = ℕ} n [] ≡ []
    drop_none zero = refl
    drop_none (suc n) = refl
left_after p1 p2 (b ∷ bs) pieces c others are e =
    after_first p1 p2 (b ∷ bs) pieces c others are.0 are.1 e

-- ---- the data of a chain's first command, at the front of the value

-- this content is the slice of the data from `from` to `until`
pub record IsFrontOf (items : List ℕ) (from until : ℕ) (content : List ℕ) : Type 0 where
  pub slice : slice_range items from until ≡ content
  pub begin : from ≤ until
  pub within : until ≤ length items

front_of : (items : List ℕ) (from until : ℕ) (content more : List ℕ) → from ≤ length items
    → drop from items ≡ content ++ more → until ≡ from + length content
    → IsFrontOf items from until content
front_of items from until content more few is e =
    let size : until - from ≡ length content = omega (arith, e) in
    record {
      slice = ap (λ k. take k (drop from items)) size
          ∙ ap (λ z. take (length content) z) is ∙ take-append_seam content more;
      begin = omega (arith, e);
      within = omega (
        arith,
        e,
        few,
        sym (length-drop from items) ∙ ap length is ∙ length-append content more,
      );
    }

-- the data of a chain's first command are at the front of the value
first_content : (h : Header) (pieces : List (List ℕ)) (c : Command) (others : List Command)
    → chain_commands h pieces ≡ c ∷ others
    → (more : List ℕ) × (concat pieces ≡ c.content ++ more)
first_content h [] c others e = absurd (cc)
first_content h (a ∷ []) c others e =
    let head : link h a ≡ c = cc in
    ([], ap (λ z. z ++ []) (ap (λ (d : Command). d.content) head))
first_content h (a ∷ next ∷ pieces) c others e =
    let head : link (with_more h) a ≡ c = cc in (
      concat (next ∷ pieces),
      ap (λ z. z ++ concat (next ∷ pieces)) (ap (λ (d : Command). d.content) head),
    )

pub at_front : (h : Header) (value : List ℕ) (pieces : List (List ℕ)) (c : Command)
    (others : List Command) → IsPieces value pieces → chain_commands h pieces ≡ c ∷ others
    → (more : List ℕ) × (value ≡ c.content ++ more)
at_front h [] pieces c others are e =
    let (more, is) = first_content h pieces c others e in
    (more, ap (λ p. concat p) (sym are) ∙ is)
at_front h (b ∷ bs) pieces c others are e =
    let (more, is) = first_content h pieces c others e in (more, sym are.0 ∙ is)

pub opening_front : (value items : List ℕ) (until : ℕ) (content : List ℕ) → items ≡ value
    → (more : List ℕ) × (value ≡ content ++ more) → until ≡ length content
    → IsFrontOf items 0 until content
opening_front value items until content copied (more, whole) is =
    front_of items 0 until content more (omega arith) (copied ∙ whole) (omega (arith, is))

-- the first command of a chain
pub chain_of : (header : Header) (p1 p2 : ℕ) (pieces : List (List ℕ)) (list others : List Command)
    (c : Command) → header ≡ put_header p1 p2 → list ≡ chain_commands header pieces
    → list ≡ c ∷ others → chain_commands (put_header p1 p2) pieces ≡ c ∷ others
chain_of header p1 p2 pieces list others c is same steps =
    ap (λ h. chain_commands h pieces) (sym is) ∙ sym same ∙ steps

pub rest_seen : (items seen : List ℕ) (until : ℕ) → seen ≡ items
    → slice_range seen until (length seen) ≡ drop until items
rest_seen items seen until same = take_rest seen until ∙ ap (λ z. drop until z) same

pub next_front : (items seen : List ℕ) (until size : ℕ) (header : Header)
    (pieces : List (List ℕ)) (list others : List Command) (c : Command) → seen ≡ items
    → IsPieces (slice_range seen until (length seen)) pieces
    → list ≡ chain_commands header pieces → list ≡ c ∷ others → until ≤ length items
    → size ≡ length c.content → IsFrontOf items until (until + size) c.content
next_front items seen until size header pieces list others c same_items are same steps few is =
    let (more, whole) = at_front header (slice_range seen until (length seen)) pieces c others are
    (sym same ∙ steps) in
    front_of items until (until + size) c.content more few
    (sym (rest_seen items seen until same_items) ∙ whole) (ap (λ n. until + n) is)
