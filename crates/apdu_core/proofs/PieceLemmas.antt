-- How a value is cut into pieces, and the commands of the pieces.
use Rattle.std.proofs.Common.{◌≡◌, ℕ, zero, suc, ◌+◌, ◌-◌, ◌*◌, ◌/◌, ◌<◌, ◌≤◌, List, [], ◌∷◌, ◌++◌, length, take, drop, Option, Some, None, true, refl, arith, ap, ◌∙◌, length-drop}
use Rattle.std.proofs.lemmas.List.{take-append-drop, append-nil, length-take-le}
use Rattle.std.specs.List.{concat}
use Rattle.apdu_core.specs.declared.header.Header.{Header}
use Rattle.std.specs.Option.{SomeIff}
use Rattle.std.specs.Iterator.{YieldsFirst, item_count, MakesProgress}
use Rattle.apdu_core.specs.HeaderBytes.{ins_is_valid}
use Rattle.apdu_core.specs.CommandBytes.{Command, HasSizes, IsCommand}
use Rattle.apdu_core.specs.Chaining.{HavePieceSizes, IsPieces, with_more, link, chain_commands}
use Rattle.apdu_core.specs.PieceList.{cut, pieces_of}

concat-cut : (more : ℕ) (value : List ℕ) → concat (cut more value) ≡ value
concat-cut zero value = append-nil value
concat-cut (suc more) value =
    ap (λ l. take 255 value ++ l) (concat-cut more (drop 255 value)) ∙ take-append-drop 255 value

sizes-cut : (more : ℕ) (value : List ℕ) →
    255 * more < length value → length value ≤ 255 * more + 255 → HavePieceSizes (cut more value)
sizes-cut zero value above below = (omega arith, omega arith)
sizes-cut (suc zero) value above below =
    let rest = length-drop 255 value in (
      length-take-le 255 value (omega arith),
      sizes-cut zero (drop 255 value) (omega arith) (omega arith),
    )
sizes-cut (suc (suc more)) value above below =
    let rest = length-drop 255 value in (
      length-take-le 255 value (omega arith),
      sizes-cut (suc more) (drop 255 value) (omega arith) (omega arith),
    )

pub is_pieces : (value : List ℕ) → IsPieces value (pieces_of value)
is_pieces [] = refl
is_pieces (b ∷ bs) = (concat-cut _ (b ∷ bs), sizes-cut _ (b ∷ bs) (omega arith) (omega arith))

pub pieces_of-more : (value : List ℕ) → 255 < length value →
    pieces_of value ≡ take 255 value ∷ pieces_of (drop 255 value)
pieces_of-more value h =
    let rest = length-drop 255 value in
    let one_more : (length value - 1) / 255 ≡ suc ((length (drop 255 value) - 1) / 255) =
    omega arith in
    ap (λ n. cut n value) one_more

-- the first command of a chain of two or more
commands-cons : (header : Header) (piece : List ℕ) (more : ℕ) (rest : List ℕ) →
    chain_commands header (piece ∷ cut more rest)
    ≡ link (with_more header) piece ∷ chain_commands header (cut more rest)
commands-cons header piece zero rest = refl
commands-cons header piece (suc more) rest = refl

pub commands-more : (header : Header) (value : List ℕ) → 255 < length value →
    chain_commands header (pieces_of value)
    ≡ link (with_more header) (take 255 value) ∷ chain_commands header (pieces_of (drop 255 value))
commands-more header value h =
    ap (chain_commands header) (pieces_of-more value h)
    ∙ commands-cons header (take 255 value) _ (drop 255 value)

-- what `next` returns if more than one piece is left
module _ (header first : Header) (value piece rest : List ℕ) where
  pub next_more : (left : List Command) (r : Option Command) →
      255 < length value → ins_is_valid header.ins ≡ true →
      left ≡ chain_commands header (pieces_of value) →
      first ≡ with_more header → piece ≡ take 255 value → rest ≡ drop 255 value →
      SomeIff r (IsCommand (link first piece)) (link first piece) →
      YieldsFirst (λ l. l) left r (chain_commands header (pieces_of rest))
  next_more left None h valid shows more front back made =
      let size = length-take-le 255 value (omega arith) in
      let fits : length piece ≤ 255 = omega (arith, ap length front) in
      let valid_ins = ap (λ h. ins_is_valid h.ins) more ∙ valid in
      let sizes : HasSizes piece None = record { fits = fits; le_in_range = tt } in
      absurd (made (record { valid_ins = valid_ins; sizes = sizes }))
  next_more left (Some x) h valid shows more front back made =
      let cut_off = commands-more header value h in
      let same : link first piece ≡ link (with_more header) (take 255 value) = cc in
      let others : pieces_of rest ≡ pieces_of (drop 255 value) = cc in
      let it = made.1 in
      cc

-- an iterator that returns the first of what is left ends
pub makes_progress : (left others : List Command) (r : Option Command) →
    YieldsFirst (λ l. l) left r others →
    MakesProgress (λ _. Unit {0}) (item_count (λ l. l)) left r others
makes_progress left others None gave = record { on = λ _. tt; keeps = tt; rests = λ _. tt }
makes_progress left others (Some x) gave =
    let fewer = ap length gave in
    record { on = λ _. (tt, tt, omega (arith, fewer)); keeps = tt; rests = λ _. tt }
