-- Lines of a script, carried out in order.
use Rattle.std.proofs.Common.{ℕ, List, [], ◌∷◌, ◌++◌, refl, sym, ap, subst, ◌∙◌, append-nil, append_assoc}
use Rattle.card_trace.specs.Script.{Script, State, DoesLine, DoesAll}

-- lines, and then others
pub done_both : (s : Script) (start mid end : State s) (before others : List (List ℕ))
    (text more : List ℕ) → DoesAll s start before text mid → DoesAll s mid others more end
    → DoesAll s start (before ++ others) (text ++ more) end
done_both s start mid end [] others text more (none, same) does =
    let P : State s → Type 0 = λ x. DoesAll s x others more end in
    let Q : List ℕ → Type 0 = λ t. DoesAll s start others (t ++ more) end in
    subst Q (sym none) (subst P same does)
done_both s start mid end (b ∷ before) others text more (first, rest, next, one, is, others_do)
    does = (
      first,
      rest ++ more,
      next,
      one,
      ap (λ t. t ++ more) is ∙ append_assoc first rest more,
      done_both s next mid end before others rest more others_do does,
    )

pub done_one : (s : Script) (old new : State s) (line text : List ℕ)
    → DoesLine s old line text new → DoesAll s old (line ∷ []) text new
done_one s old new line text one = (text, [], new, one, sym (append-nil text), (refl, refl))
