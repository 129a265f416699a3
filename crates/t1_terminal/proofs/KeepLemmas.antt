-- Only a put changes the tables.
use Rattle.std.proofs.Common.{◌≡◌, ℕ, ◌≤◌, length, ◌==◌, List, [], ◌∷◌, ◌++◌, Bool, true, false, refl, sym, ap, ◌∙◌, ◌⊎◌, inl, inr}
use Rattle.std.proofs.lemmas.Bool.{eqb-true, eq-eqb, true≢false}
use Rattle.apdu_core.specs.HeaderBytes.{ins_is_valid}
use Rattle.apdu_core.specs.StatusWord.{IsStatusWord, ok}
use Rattle.apdu_core.specs.CommandBytes.{Command, HasForm, IsCommand, command_bytes}
use Rattle.t0_core.specs.Meaning.{Tpdu}
use Rattle.object_card.specs.Agreed.{IsAgreed}
use Rattle.object_card.specs.Instructions.{MayReceive, MaySend}
use Rattle.object_card.specs.Tables.{Application, Entry}
use Rattle.apdu_terminal.specs.Apdus.{Pair, may_bring}
use Rattle.apdu_terminal.specs.CardApdu.{Responds}
use Rattle.t1_core.specs.CardSide.{Did}
use Rattle.t1_core.specs.Doing.{DoesAll}
use Rattle.t1_terminal.specs.CardCommand.{Answers, DoesAt, IsStored, status_bytes}

-- ---- tables that can't differ are the same

abbrev IsStable : Type 0 → Type 0
IsStable A = (a b : A) → ((a ≡ b → ⊥) → ⊥) → a ≡ b

stable_nat : IsStable ℕ
stable_nat a b so = by (a == b) refl where
  by : (v : Bool) → (a == b) ≡ v → a ≡ b
  by true e = eqb-true a b e
  by false e = absurd (so (λ is. true≢false (sym (eq-eqb a b is) ∙ e)))

stable_bool : IsStable Bool
stable_bool true true so = refl
stable_bool false false so = refl
stable_bool true false so = absurd (so (λ is. true≢false is))
stable_bool false true so = absurd (so (λ is. true≢false (sym is)))

stable_list : {A : Type 0} → IsStable A → IsStable (List A)
stable_list stable [] [] so = refl
stable_list stable [] (y ∷ ys) so = absurd (so (λ is. absurd (cc)))
stable_list stable (x ∷ xs) [] so = absurd (so (λ is. absurd (cc)))
stable_list stable (x ∷ xs) (y ∷ ys) so =
    let first : x ≡ y = stable x y (λ no. so (λ is. let e : x ≡ y = cc in no e)) in
    let others : xs ≡ ys =
    stable_list stable xs ys (λ no. so (λ is. let e : xs ≡ ys = cc in no e)) in
    ap (λ z. z ∷ xs) first ∙ ap (λ zs. y ∷ zs) others

stable_entry : IsStable Entry
stable_entry a b so =
    let tag : a.tag ≡ b.tag =
    stable_list stable_nat a.tag b.tag (λ no. so (λ is. no (ap (λ (e : Entry). e.tag) is))) in
    let value : a.value ≡ b.value =
    stable_list stable_nat a.value b.value
    (λ no. so (λ is. no (ap (λ (e : Entry). e.value) is))) in
    let locked : a.locked ≡ b.locked =
    stable_bool a.locked b.locked (λ no. so (λ is. no (ap (λ (e : Entry). e.locked) is))) in
    ap (λ t. record { tag = t; value = a.value; locked = a.locked }) tag
    ∙ ap (λ v. record { tag = b.tag; value = v; locked = a.locked }) value
    ∙ ap (λ l. record { tag = b.tag; value = b.value; locked = l }) locked

stable_application : IsStable Application
stable_application a b so =
    let aid : a.aid ≡ b.aid =
    stable_list stable_nat a.aid b.aid
    (λ no. so (λ is. no (ap (λ (x : Application). x.aid) is))) in
    let entries : a.entries ≡ b.entries =
    stable_list stable_entry a.entries b.entries
    (λ no. so (λ is. no (ap (λ (x : Application). x.entries) is))) in
    ap (λ i. record { aid = i; entries = a.entries }) aid
    ∙ ap (λ es. record { aid = b.aid; entries = es }) entries

-- ---- one command

module _ {State : Type 0} (Own : State → ℕ → Tpdu → State → Type 0)
    (tables : State → List Application)
    (one : (old new : State) (p : Pair) → Responds Own old p new
    → (tables new ≡ tables old)
    ⊎ ((p.command.header.cla ≡ 0x00) × (p.command.header.ins ≡ 0xDA) × (p.status ≡ ok))) where
  command_keeps : (old new : State) (d : Did) (c : Command) → IsCommand c
      → d.command ≡ command_bytes c → Answers Own old c d.response new → (IsStored d → ⊥)
      → (tables new ≡ tables old → ⊥) → ⊥
  command_keeps old new d c is same answers other differs =
      differs (ap tables (answers.refuses (λ agreed. carried agreed (answers.responds agreed))).1)
    where
      carried : IsAgreed MayReceive MaySend c → (p : Pair) × (p.command ≡ c)
          × (length p.content ≤ may_bring c.le) × Responds Own old p new
          × (d.response ≡ p.content ++ status_bytes p.status) × IsStatusWord p.status → ⊥
      carried agreed (p, of, within, goes, response, word) = elim (one old new p goes) [
        | inl kept ↦ differs kept
        | inr (cla, ins, status) ↦ other (
          c,
          is,
          same,
          ap (λ (x : Command). x.header.cla) (sym of) ∙ cla,
          ap (λ (x : Command). x.header.ins) (sym of) ∙ ins,
          (p.content, response ∙ ap (λ sw. p.content ++ status_bytes sw) status),
        )
      ]

  keeps : (old new : State) (d : Did) → DoesAt Own old d new → (IsStored d → ⊥)
      → tables new ≡ tables old
  keeps old new d does other = stable_list stable_application (tables new) (tables old)
      (λ differs. differs (ap tables (does.no_form (formed differs)).1))
    where
      formed : (tables new ≡ tables old → ⊥) → HasForm d.command → ⊥
      formed differs (c, sizes, same) = by (ins_is_valid c.header.ins) refl where
        by : (v : Bool) → ins_is_valid c.header.ins ≡ v → ⊥
        by true e =
            let is : IsCommand c = record { valid_ins = e; sizes = sizes } in
            command_keeps old new d c is same (does.command c is same) other differs
        by false e =
            differs
            (ap tables (does.invalid_ins c (record { invalid_ins = e; sizes = sizes }) same).1)

  pub all_keep : (dids : List Did) (old new : State) → DoesAll (DoesAt Own) old dids new
      → DoesAll (λ s d t. DoesAt Own s d t × ((IsStored d → ⊥) → tables t ≡ tables s)) old dids new
  all_keep [] old new is = is
  all_keep (d ∷ dids) old new (mid, does, rest) =
      (mid, (does, keeps old mid d does), all_keep dids mid new rest)
