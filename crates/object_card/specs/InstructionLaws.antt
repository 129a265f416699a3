-- Instructions and their INS; each INS moves data in one direction only.
use Rattle.std.proofs.Common.{◌≡◌, ◌∙◌, Some, refl, sym, ap}
use Rattle.std.proofs.lemmas.Bool.{true≢false}
use Rattle.apdu_core.specs.declared.header.Header.{Header}
use Rattle.object_card.specs.declared.instructions.Instruction.{Instruction}
use Rattle.object_card.specs.declared.instructions.Instruction.TheVariants.{Select, GetData, PutData, GetResponse}
use Rattle.object_card.specs.Instructions.{ins_of, instruction_of, takes_data, MayReceive, MaySend}

found : (i : Instruction) → instruction_of (ins_of i) ≡ Some i
found Select = refl
found GetData = refl
found PutData = refl
found GetResponse = refl

-- No data come from the card under a header that sends data to it.
pub one_way : (h : Header) → MayReceive h → MaySend h → ⊥
one_way h (i, is, takes) (j, other, gives) =
    let same : Some i ≡ Some j = sym (found i) ∙ ap instruction_of (sym is ∙ other) ∙ found j in
    let e : i ≡ j = cc in
    true≢false (sym takes ∙ ap takes_data e ∙ gives)
