-- The commands of operations are agreed with each card of data objects.
use Rattle.std.proofs.Common.{◌≡◌, ℕ, ◌≤◌, List, [], ◌∷◌, length, ◌↔◌, refl, arith, true, false}
use Rattle.std.specs.List.{AllByRecursion}
use Rattle.apdu_core.specs.declared.header.Header.{Header}
use Rattle.apdu_core.specs.Chaining.{link, with_more, chain_commands}
use Rattle.object_card.specs.Tables.{IsAid}
use Rattle.object_card.specs.declared.instructions.Instruction.{Instruction}
use Rattle.object_card.specs.declared.instructions.Instruction.TheVariants.{Select, PutData, GetResponse}
use Rattle.object_card.specs.Instructions.{MayReceive, MaySend, ins_of, takes_data}
use Rattle.object_card.specs.InstructionLaws.{one_way}
use Rattle.object_card.specs.Agreed.{IsAgreed}
use Rattle.card_terminal.specs.Talk.{select_command}

-- `R` holds for each header whose data a card of data objects receives, `S` for each whose data it
-- sends
pub record KeepsTo (R S : Header → Type 0) : Type 0 where
  pub receives : (h : Header) → R h ↔ MayReceive h
  pub sends : (h : Header) → S h ↔ MaySend h

no_data_from : (R S : Header → Type 0) → KeepsTo R S → (h : Header) → (i : Instruction)
    → h.ins ≡ ins_of i → takes_data i ≡ true → S h → ⊥
no_data_from R S keeps h i is takes sends =
    one_way h (i, is, takes) ((keeps.sends h).0 sends)

no_data_to : (R S : Header → Type 0) → KeepsTo R S → (h : Header) → (i : Instruction)
    → h.ins ≡ ins_of i → takes_data i ≡ false → R h → ⊥
no_data_to R S keeps h i is gives takes =
    one_way h ((keeps.receives h).0 takes) (i, is, gives)

agreed_select_by : (R S : Header → Type 0) → KeepsTo R S → (aid : List ℕ) → 5 ≤ length aid
    → IsAgreed R S (select_command aid)
agreed_select_by R S keeps [] long = absurd (omega (arith, long))
agreed_select_by R S keeps (b ∷ bs) long =
    (no_data_from R S keeps _ Select refl refl, no_data_to R S keeps _ GetResponse refl refl)

pub agreed_select : (R S : Header → Type 0) → KeepsTo R S → (aid : List ℕ) → IsAid aid
    → IsAgreed R S (select_command aid)
agreed_select R S keeps aid is = agreed_select_by R S keeps aid is.0

agreed_link : (R S : Header → Type 0) → KeepsTo R S → (h : Header) → h.ins ≡ ins_of PutData
    → (piece : List ℕ) → IsAgreed R S (link h piece)
agreed_link R S keeps h is [] = no_data_from R S keeps h PutData is refl
agreed_link R S keeps h is (b ∷ bs) = no_data_from R S keeps h PutData is refl

pub agreed_pieces : (R S : Header → Type 0) → KeepsTo R S → (h : Header) → h.ins ≡ ins_of PutData
    → (pieces : List (List ℕ))
    → AllByRecursion (λ c. IsAgreed R S c) (chain_commands h pieces)
agreed_pieces R S keeps h is [] = tt
agreed_pieces R S keeps h is (last ∷ []) = (agreed_link R S keeps h is last, tt)
agreed_pieces R S keeps h is (piece ∷ next ∷ others) = (
  agreed_link R S keeps (with_more h) is piece,
  agreed_pieces R S keeps h is (next ∷ others),
)

pub keeps_to : (R S : Header → Type 0) → ((h : Header) → R h ↔ MayReceive h)
    → ((h : Header) → S h ↔ MaySend h) → KeepsTo R S
keeps_to R S receives sends = record { receives = receives; sends = sends }
