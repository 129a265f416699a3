-- An accepted INS is that of an instruction.
use Rattle.std.proofs.Common.{◌≡◌, ◌∙◌, ℕ, Some, None, Bool, true, false, refl, ap}
use Rattle.std.specs.Prelude.{IsSome, is_some, unwrap_or, if◌then◌else◌, ◌==◌, ◌||◌}
use Rattle.std.proofs.lemmas.Bool.{eqb-true}
use Rattle.object_card.specs.declared.instructions.Instruction.{Instruction}
use Rattle.object_card.specs.declared.instructions.Instruction.TheVariants.{Select, GetData, PutData, GetResponse}
use Rattle.object_card.specs.Instructions.{ins_of, instruction_of}

-- an INS that the card accepts is that of an instruction
pub known_some : (n : ℕ) → ((n == 0xA4) || (n == 0xCA) || (n == 0xDA) || (n == 0xC0)) ≡ true
    → IsSome (instruction_of n)
known_some n = split (n == 0xA4) (n == 0xCA) (n == 0xDA) (n == 0xC0)
  where
    split : (a b c d : Bool) → (a || b || c || d) ≡ true
        → is_some (if a then Some Select else if b then Some GetData else if c then Some PutData
        else if d then Some GetResponse else None) ≡ true
    split true b c d e = refl
    split false true c d e = refl
    split false false true d e = refl
    split false false false true e = refl
    split false false false false e = e

-- and that INS is the instruction's
pub ins_is : (n : ℕ) (i : Instruction) → instruction_of n ≡ Some i → n ≡ ins_of i
ins_is n i is = by_select (n == 0xA4) refl is
  where
    same : (own : Instruction) → Some own ≡ Some i → ins_of own ≡ ins_of i
    same own e = ap (λ o. ins_of (unwrap_or o own)) e

    by_response : (v : Bool) → (n == 0xC0) ≡ v → (if v then Some GetResponse else None) ≡ Some i
        → n ≡ ins_of i
    by_response true e is = eqb-true n 0xC0 e ∙ same GetResponse is
    by_response false e is = absurd (cc)

    by_put : (v : Bool) → (n == 0xDA) ≡ v
        → (if v then Some PutData else if n == 0xC0 then Some GetResponse else None) ≡ Some i
        → n ≡ ins_of i
    by_put true e is = eqb-true n 0xDA e ∙ same PutData is
    by_put false e is = by_response (n == 0xC0) refl is

    by_get : (v : Bool) → (n == 0xCA) ≡ v
        → (if v then Some GetData else if n == 0xDA then Some PutData
        else if n == 0xC0 then Some GetResponse else None) ≡ Some i
        → n ≡ ins_of i
    by_get true e is = eqb-true n 0xCA e ∙ same GetData is
    by_get false e is = by_put (n == 0xDA) refl is

    by_select : (v : Bool) → (n == 0xA4) ≡ v
        → (if v then Some Select else if n == 0xCA then Some GetData
        else if n == 0xDA then Some PutData else if n == 0xC0 then Some GetResponse else None)
        ≡ Some i → n ≡ ins_of i
    by_select true e is = eqb-true n 0xA4 e ∙ same Select is
    by_select false e is = by_get (n == 0xCA) refl is
