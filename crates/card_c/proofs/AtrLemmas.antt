-- The number of protocols of an answer, and that it ends in its historical bytes and TCK.
use Rattle.std.proofs.Common.{◌≡◌, ℕ, ◌+◌, ◌*◌, ◌-◌, ◌≤◌, Bool, true, false, List, [], ◌∷◌, ◌++◌, length, drop, Option, Some, None, refl, ap, ◌∙◌, arith, tests}
use Rattle.std.proofs.lemmas.List.{drop_at, length-append}
use Rattle.atr_core.specs.Answer.{Answer, AreInOrder, IsAnswer, before, announcing, characters, check_field, from_indicator, group_before, ts}
use Rattle.atr_core.specs.Values.{is_offer, offered, protocols_of}
use Rattle.atr_core.specs.declared.group.Group.{Group}
use Rattle.atr_core.specs.declared.group.TypedGroup.{TypedGroup}
use Rattle.card_c.specs.AtrCalls.{historical_place}

few_from : (last : ℕ) (ns : List TypedGroup) → AreInOrder (Some last) ns
    → length (offered (Some last) ns) ≤ 14 - last
few_from last [] h = omega arith
few_from last (n ∷ ns) (low, follows, h) =
    split (is_offer (Some last) n.t) refl (few_from n.t ns h)
  where
    split : (v : Bool) → is_offer (Some last) n.t ≡ v
        → length (offered (Some n.t) ns) ≤ 14 - n.t
        → length (offered (Some last) (n ∷ ns)) ≤ 14 - last
    split true e few = rw e (grind (arith, tests))
    split false e few = rw e (grind (arith, tests))

pub few_protocols : (a : Answer) → IsAnswer a → length (protocols_of a.others) ≤ 15
few_protocols a h = few a.others h.in_order
  where
    few : (ns : List TypedGroup) → AreInOrder None ns → length (protocols_of ns) ≤ 15
    few [] h = omega arith
    few (n ∷ ns) (low, follows, h) = split (is_offer None n.t) refl (few_from n.t ns h)
      where
        split : (v : Bool) → is_offer None n.t ≡ v
            → length (offered (Some n.t) ns) ≤ 14 - n.t
            → length (offered None (n ∷ ns)) ≤ 15
        split true e few = rw e (omega (arith, few))
        split false e few = rw e (omega (arith, few))

-- what precedes characters does not depend on them
before_is : (byte : Option ℕ) (near rest : List ℕ)
    → before byte (near ++ rest) ≡ before byte near ++ rest
before_is None near rest = refl
before_is (Some b) near rest = refl

group_is : (g : Group) (near rest : List ℕ)
    → group_before g (near ++ rest) ≡ group_before g near ++ rest
group_is g near rest =
    let tc : List ℕ = before g.tc near in
    let tb : List ℕ = before g.tb tc in
    ap (λ (xs : List ℕ). before g.ta (before g.tb xs)) (before_is g.tc near rest)
    ∙ ap (before g.ta) (before_is g.tb tc rest)
    ∙ before_is g.ta tb rest

indicator_is : (low : ℕ) (g : Group) (ns : List TypedGroup) (rest : List ℕ)
    → from_indicator low g ns rest ≡ from_indicator low g ns [] ++ rest
indicator_is low g [] rest =
    ap (λ (xs : List ℕ). (16 * announcing g [] + low) ∷ xs) (group_is g [] rest)
indicator_is low g (n ∷ ns) rest =
    let next : List ℕ = from_indicator n.t n.group ns [] in
    ap (λ (xs : List ℕ). (16 * announcing g (n ∷ ns) + low) ∷ xs)
    (ap (group_before g) (indicator_is n.t n.group ns rest) ∙ group_is g next rest)

-- from TS to the last interface byte
abbrev front_of : Answer → List ℕ
front_of a = ts a.convention ∷ from_indicator (length a.historical) a.first a.others []

abbrev end_of : Answer → List ℕ
end_of a = a.historical ++ check_field a

front_and_end : (a : Answer) → characters a ≡ front_of a ++ end_of a
front_and_end a = ap (λ (xs : List ℕ). ts a.convention ∷ xs)
    (indicator_is (length a.historical) a.first a.others (end_of a))

sizes : (a : Answer) → length (characters a)
    ≡ length (front_of a) + (length a.historical + length (check_field a))
sizes a = ap length (front_and_end a) ∙ length-append (front_of a) (end_of a)
    ∙ ap (λ (n : ℕ). length (front_of a) + n) (length-append a.historical (check_field a))

pub end_has : (a : Answer)
    → length a.historical + length (check_field a) ≤ length (characters a)
end_has a = omega (arith, sizes a)

pub end_is : (a : Answer)
    → drop (historical_place a) (characters a) ≡ a.historical ++ check_field a
end_is a = ap (drop (historical_place a)) (front_and_end a)
    ∙ drop_at (front_of a) (end_of a) (historical_place a) (omega (arith, sizes a))
