use Rattle.std.proofs.Common.{◌≡◌, ◌∙◌, ℕ, ◌+◌, ◌-◌, List, length, drop, refl, sym, ap, subst, arith, length-drop, length-take}
use Rattle.std.proofs.lemmas.List.{drop-drop}
use Rattle.apdu_core.specs.StatusWord.{count}
use Rattle.command_card.specs.State.{Outcome, fetch_left}
use Rattle.command_card.specs.View.{left_of, ask_of, Prepares}
use Rattle.command_card.proofs.HandLemmas.{handed_none, handed_fewer, handed_enough}
use Rattle.command_card.proofs.answer.handed.Goals as goal

pub returns-then-left-eq0-clause-prepares : goal.returns-then-left-eq0-clause-prepares
returns-then-left-eq0-clause-prepares c =
    let bytes = c.args.bytes.now.items in
    let left = drop c.args.from bytes in
    let none : length left ≡ 0 =
    omega (arith, length-drop c.args.from bytes, c.len.ensures, c.saturating_sub-left.ensures) in
    let P : Outcome → Type 0 = λ o. Prepares bytes (ask_of c.args.header c.args.p3 c.args.cut) o
    c.args.ending.settles c.args.ending.fresh c.refused.result.0 c.refused.result.1 in
    subst P (sym (handed_none (left_of bytes c.args.ending.left) left c.args.status
    (count c.args.p3) c.args.cut none))
    (c.refused.ensures.prepares bytes c.args.header c.args.p3 c.args.cut)

pub returns-then-left-asked-clause-prepares : goal.returns-then-left-asked-clause-prepares
returns-then-left-asked-clause-prepares c =
    let bytes = c.args.bytes.now.items in
    let left = drop c.args.from bytes in
    let long : length left ≡ c.saturating_sub-left.result =
    omega (arith, length-drop c.args.from bytes, c.len.ensures, c.saturating_sub-left.ensures) in
    let is = handed_fewer (left_of bytes c.args.ending.left) left c.args.status
    (count c.args.p3) c.args.cut (omega (arith, long)) (omega (arith, long)) in (
      c.args.ending.left,
      refl,
      ap (λ (o : Outcome). o.received) is,
      ap (λ (o : Outcome). o.status) is ∙ ap (λ (n : ℕ). (0x6C, n)) long ∙ sym c.word.ensures,
      sym (ap (λ (o : Outcome). o.left) is),
    )

pub returns-clause-prepares : goal.returns-clause-prepares
returns-clause-prepares c =
    let bytes = c.args.bytes.now.items in
    let left = drop c.args.from bytes in
    let long : length left ≡ c.saturating_sub-left.result =
    omega (arith, length-drop c.args.from bytes, c.len.ensures, c.saturating_sub-left.ensures) in
    let n = count c.args.p3 in
    let is = handed_enough (left_of bytes c.args.ending.left) left c.args.status
    n c.args.cut (omega (arith, long)) (omega (arith, long)) in
    let rest : drop n left ≡ drop (c.args.from + c.count-asked.result) bytes =
    drop-drop n c.args.from bytes
    ∙ ap (λ (k : ℕ). drop (c.args.from + k) bytes) (sym c.count-asked.ensures) in
    let rest_long : length (drop n left) ≡ c.saturating_sub-left.result - c.count-asked.result =
    omega (arith, length-drop n left, long) in (
      c.args.from,
      c.announcing.result,
      c.fetch_left.result,
      refl,
      ap (λ (o : Outcome). o.received) is,
      omega (arith, length-take n left, long),
      ap (λ (o : Outcome). o.status) is ∙ sym (c.announcing.ensures (drop n left) rest_long),
      c.fetch_left.ensures.left bytes (ap length (sym rest) ∙ rest_long)
          ∙ ap (λ (xs : List ℕ). fetch_left xs c.args.status) (sym rest)
          ∙ sym (ap (λ (o : Outcome). o.left) is),
    )
