-- The handed out characters of an answer to reset.
use Rattle.std.proofs.Common.{◌≡◌, ◌-◌, ◌+◌, ℕ, List, ◌++◌, length, take, drop, Option, Some, None, sym, ap, subst, ◌∙◌, arith, append_assoc, append-nil}
use Rattle.std.proofs.lemmas.List.{length-append, take-append-drop, drop_at}
use Rattle.card_trace.specs.AnswerToReset.{AnswerToReset, up_to, rest_after, without}

both_parts : (most : Option ℕ) (left : List ℕ) → up_to most left ++ rest_after most left ≡ left
both_parts None left = append-nil left
both_parts (Some most) left = take-append-drop most left

abbrev pub answer_after : ℕ → List ℕ → AnswerToReset
answer_after handed all = record { all = all; left = drop handed all }

passed_over : (most : Option ℕ) (all : List ℕ) (handed n : ℕ)
    → n ≡ length all - (length (drop handed all) - length (up_to most (drop handed all)))
    → answer_after n all ≡ without most (answer_after handed all)
passed_over most all handed n is =
    let left = drop handed all in
    let before = take handed all ++ up_to most left in
    let whole : before ++ rest_after most left ≡ all =
    append_assoc (take handed all) (up_to most left) (rest_after most left)
    ∙ ap (λ l. take handed all ++ l) (both_parts most left) ∙ take-append-drop handed all in
    let parts : length left ≡ length (up_to most left) + length (rest_after most left) =
    ap length (sym (both_parts most left))
    ∙ length-append (up_to most left) (rest_after most left) in
    let both : length all ≡ length before + length (rest_after most left) =
    ap length (sym whole) ∙ length-append before (rest_after most left) in
    let count : length before ≡ n = omega (arith, is, parts, both) in
    ap (λ (l : List ℕ). record { all = all; left = l })
    (subst (λ l. drop n l ≡ rest_after most left) whole
    (drop_at before (rest_after most left) n count))

pub passes : (most : Option ℕ) (all : List ℕ) (handed n still : ℕ) (now : AnswerToReset)
    (every left next : List ℕ) → answer_after handed all ≡ now → every ≡ now.all
    → left ≡ now.left → next ≡ up_to most now.left → still ≡ length left - length next
    → n ≡ length every - still → answer_after n all ≡ without most now
passes most all handed n still now every left next is a l u count counted =
    let P : AnswerToReset → Type 0 = λ x. every ≡ x.all → left ≡ x.left
    → next ≡ up_to most x.left → answer_after n all ≡ without most x in
    subst P is (λ a l u. passed_over most all handed n
    (omega (arith, count, counted, ap length a, ap length l, ap length u))) a l u
