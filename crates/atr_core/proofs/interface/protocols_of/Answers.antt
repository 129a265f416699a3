use Rattle.std.proofs.Common.{◌≡◌, ◌≢◌, ◌++◌, List, [], ◌∷◌, None, length, sym, ◌∙◌, refl, append-nil, arith, ap, rules, tests}
use Rattle.std.proofs.lemmas.List.{drop_all}
use Rattle.atr_core.specs.Values.{offered, protocols_of}
use Rattle.atr_core.specs.declared.group.TypedGroup.{TypedGroup}
use Rattle.atr_core.proofs.interface.protocols_of.Goals as goal

without_td : (ns : List TypedGroup) → length ns ≡ 0 → protocols_of ns ≡ 0 ∷ []
without_td [] h = refl
without_td (n ∷ ns) h = absurd (omega arith)

-- if there is a TD, TDs offer all protocols
by_tds : (ns : List TypedGroup) → length ns ≢ 0 → protocols_of ns ≡ offered None ns
by_tds [] h = absurd (h refl)
by_tds (n ∷ ns) h = refl

pub returns-then-is_empty : goal.returns-then-is_empty
returns-then-is_empty c =
    let none : length c.args.others.now ≡ 0 = search (rules, tests) in
    c.push.ensures.items ∙ ap (λ x. x ++ 0 ∷ []) c.new-protocols.ensures
    ∙ sym (without_td c.args.others.now none)

pub returns : goal.returns
returns c =
    let some : length c.args.others.now ≢ 0 = search (rules, tests) in
    let all = drop_all c.loop-named.named-index c.args.others.now c.loop-named-test.false in
    sym (append-nil c.loop-named.protocols.items)
    ∙ ap (λ x. c.loop-named.protocols.items ++ offered c.loop-named.last x) (sym all)
    ∙ c.loop-named.invariant.0 ∙ sym (by_tds c.args.others.now some)
