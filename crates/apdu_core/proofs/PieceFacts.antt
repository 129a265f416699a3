-- Facts on the pieces of a value and on the commands of a chain.
use Rattle.std.specs.Prelude.{All, IsBitSet}
use Rattle.std.proofs.Common.{◌≡◌, ◌↔◌, ℕ, ◌+◌, ◌<◌, ◌≤◌, List, [], ◌∷◌, ◌++◌, length, map, Option, Some, None, IfSome, true, refl, arith, ap, ◌∙◌, sym, subst}
use Rattle.std.proofs.lemmas.List.{length-append, append-nil, append_assoc}
use Rattle.std.proofs.lemmas.List.Elements.{All-nil, All-cons}
use Rattle.std.specs.List.{concat}
use Rattle.apdu_core.specs.declared.header.Header.{Header}
use Rattle.apdu_core.specs.HeaderBytes.{ins_is_valid}
use Rattle.apdu_core.specs.CommandBytes.{Command}
use Rattle.apdu_core.specs.Chaining.{HavePieceSizes, IsPieces, IsLast, with_more, as_last, link, chain_commands, ChainState, added}
use Rattle.apdu_core.specs.Laws.{MoreInAllButLast, IsLink, AreAdded}
use Rattle.apdu_core.proofs.ListFacts.{parted}
use Rattle.apdu_core.proofs.ByteFacts.{cleared, set_and_cleared, is_set}

some_bytes : (p : List (List ℕ)) → HavePieceSizes p → 1 ≤ length (concat p)
some_bytes [] h = absurd h
some_bytes (last ∷ []) h = omega (arith, length-append last [])
some_bytes (piece ∷ next ∷ others) h = omega (arith, length-append piece (concat (next ∷ others)))

same_pieces : (p q : List (List ℕ)) →
    HavePieceSizes p → HavePieceSizes q → concat p ≡ concat q → p ≡ q
same_pieces [] q h k e = absurd h
same_pieces (a ∷ p) [] h k e = absurd k
same_pieces (a ∷ []) (b ∷ []) h k e = ap (λ l. l ∷ []) (sym (append-nil a) ∙ e ∙ append-nil b)
same_pieces (a ∷ []) (b ∷ c ∷ q) h k e =
    let more = some_bytes (c ∷ q) k.1 in
    absurd (omega (arith, ap length e, length-append a [], length-append b (concat (c ∷ q))))
same_pieces (a ∷ b ∷ p) (c ∷ []) h k e =
    let more = some_bytes (b ∷ p) h.1 in
    absurd (omega (arith, ap length e, length-append c [], length-append a (concat (b ∷ p))))
same_pieces (a ∷ b ∷ p) (c ∷ d ∷ q) h k e =
    let both = parted a (concat (b ∷ p)) c (concat (d ∷ q)) (h.0 ∙ sym k.0) e in
    let first = both.0 in
    let others = same_pieces (b ∷ p) (d ∷ q) h.1 k.1 both.1 in
    cc

pub pieces_concatenate : (value : List ℕ) (p : List (List ℕ)) → IsPieces value p → concat p ≡ value
pieces_concatenate [] p h = ap concat h
pieces_concatenate (b ∷ bs) p h = h.0

pub pieces_are_determined : (value : List ℕ) (p q : List (List ℕ)) →
    IsPieces value p → IsPieces value q → p ≡ q
pieces_are_determined [] p q h k = h ∙ sym k
pieces_are_determined (b ∷ bs) p q h k = same_pieces p q h.1 k.1 (h.0 ∙ sym k.0)

-- ---- of any pieces at all

pub contents_concatenate : (header : Header) (p : List (List ℕ)) →
    concat (map (λ c. c.content) (chain_commands header p)) ≡ concat p
contents_concatenate header [] = refl
contents_concatenate header (last ∷ []) = refl
contents_concatenate header (piece ∷ next ∷ others) =
    ap (λ l. piece ++ l) (contents_concatenate header (next ∷ others))

abbrev SaysMore : Command → Type 0
SaysMore c = IsBitSet c.header.cla 4

pub more_in_all_but_last : (header : Header) (first : List ℕ) (others : List (List ℕ)) →
    IsLast header → MoreInAllButLast (chain_commands header (first ∷ others))
more_in_all_but_last header first [] clear =
    ([], link header first, refl, All-nil SaysMore, clear)
more_in_all_but_last header first (next ∷ others) clear =
    let c = link (with_more header) first in
    let (before, last, is, all, end) = more_in_all_but_last header next others clear in (
      c ∷ before,
      last,
      ap (λ l. c ∷ l) is,
      All-cons SaysMore c before (is_set header.cla) all,
      end,
    )

-- no piece has more than 255 bytes
abbrev pub Fit : List (List ℕ) → Type 0
Fit [] = Unit {0}
Fit (piece ∷ others) = (length piece ≤ 255) × Fit others

sized_fit : (p : List (List ℕ)) → HavePieceSizes p → Fit p
sized_fit [] h = absurd h
sized_fit (last ∷ []) h = (h.1, tt)
sized_fit (piece ∷ next ∷ others) h = (omega arith, sized_fit (next ∷ others) h.1)

pub pieces_fit : (value : List ℕ) (p : List (List ℕ)) → IsPieces value p → Fit p
pieces_fit [] p h = subst Fit (sym h) (omega arith, tt)
pieces_fit (b ∷ bs) p h = sized_fit p h.1

pub some_piece : (value : List ℕ) (p : List (List ℕ)) → IsPieces value p →
    (first : List ℕ) × (others : List (List ℕ)) × (p ≡ first ∷ others)
some_piece [] p h = ([], [], h)
some_piece (b ∷ bs) [] h = absurd h.1
some_piece (b ∷ bs) (first ∷ others) h = (first, others, refl)

cleared_again : (header : Header) → header.cla < 256 → IsLast header →
    as_last (with_more header) ≡ header
cleared_again header byte clear =
    ap (λ n. record header { cla = n }) (set_and_cleared header.cla byte clear)

stays_last : (header : Header) → header.cla < 256 → IsLast header → as_last header ≡ header
stays_last header byte clear = ap (λ n. record header { cla = n }) (cleared header.cla byte clear)

is_link : (header of_link : Header) (piece : List ℕ) →
    ins_is_valid of_link.ins ≡ true → length piece ≤ 255 → as_last of_link ≡ header →
    IsLink header (link of_link piece)
is_link header of_link piece valid fits same = record {
  command = record { valid_ins = valid; sizes = record { fits = fits; le_in_range = tt } };
  same = same;
  no_le = refl;
}

module _
    (header : Header) (byte : header.cla < 256) (valid : ins_is_valid header.ins ≡ true)
    (clear : IsLast header)
  where
    pub links : (p : List (List ℕ)) → Fit p → All (IsLink header) (chain_commands header p)
    links [] fit = All-nil (IsLink header)
    links (last ∷ []) fit =
        All-cons (IsLink header) (link header last) []
        (is_link header header last valid fit.0 (stays_last header byte clear))
        (All-nil (IsLink header))
    links (piece ∷ next ∷ others) fit =
        let more = with_more header in
        All-cons (IsLink header) (link more piece) (chain_commands header (next ∷ others))
        (is_link header more piece valid fit.0 (cleared_again header byte clear))
        (links (next ∷ others) fit.1)

accepts : (pending : Option Header) (header of_link : Header) →
    as_last of_link ≡ header → IfSome pending (λ h. h ≡ header) →
    IfSome pending (λ first. as_last of_link ≡ first)
accepts None header of_link same goes = tt
accepts (Some first) header of_link same goes = same ∙ sym goes

-- a chain that is pending
abbrev pending_with : List ℕ → ℕ → Header → ChainState
pending_with bytes limit header = record { bytes = bytes; limit = limit; pending = Some header }

same_state : (a b : List ℕ) (limit : ℕ) (h k : Header) → a ≡ b → h ≡ k →
    pending_with a limit h ≡ pending_with b limit k
same_state a b limit h k e f =
    ap (λ l. pending_with l limit h) e ∙ ap (pending_with b limit) f

module _ (header : Header) (byte : header.cla < 256) (clear : IsLast header) where
  abbrev pub gathered : ChainState → List (List ℕ) → ChainState
  gathered chain p = pending_with (chain.bytes ++ concat p) chain.limit header

  -- a chain that accepts this header takes all commands exactly if their data fit
  pub gathers : (first : List ℕ) (others : List (List ℕ)) (chain after : ChainState) →
      IfSome chain.pending (λ h. h ≡ header) →
      AreAdded chain (chain_commands header (first ∷ others)) after
      ↔ ((length chain.bytes + length (concat (first ∷ others)) ≤ chain.limit)
      × (after ≡ gathered chain (first ∷ others)))
  gathers first [] chain after goes =
      let stays = stays_last header byte clear in
      let bytes = ap (λ l. chain.bytes ++ l) (sym (append-nil first)) in
      let same : added chain header first ≡ gathered chain (first ∷ []) =
      same_state _ _ _ _ _ bytes stays in
      let size = length-append first [] in
      let accepted = accepts chain.pending header header stays goes in (
        λ taken. (omega (arith, taken.1, size), taken.2 ∙ same),
        λ all. (accepted, omega (arith, all.0, size), all.1 ∙ sym same),
      )
  gathers first (next ∷ others) chain after goes =
      let again = cleared_again header byte clear in
      let added : ChainState = added chain (with_more header) first in
      let rest = gathers next others added after again in
      let same : gathered added (next ∷ others) ≡ gathered chain (first ∷ next ∷ others) =
      same_state _ _ _ _ _ (append_assoc chain.bytes first (concat (next ∷ others))) refl in
      let front = length-append chain.bytes first in
      let whole = length-append first (concat (next ∷ others)) in
      let accepted = accepts chain.pending header (with_more header) again goes in (
        λ taken. let all = rest.0 taken.2 in (omega (arith, all.0, front, whole), all.1 ∙ same),
        λ all. (
          accepted,
          omega (arith, all.0, front, whole),
          rest.1 (omega (arith, all.0, front, whole), all.1 ∙ sym same),
        ),
      )
