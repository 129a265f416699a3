-- Laws of what a watch has recorded.
use Rattle.std.specs.Prelude.{◌≡◌, ℕ, zero, suc, List, [], ◌∷◌, ◌++◌, take, Bool, true, false, refl}
use Rattle.std.proofs.Common.{sym, ◌∙◌, ap, append-nil, append_assoc}
use Rattle.t0_core.specs.Character.{Character}
use Rattle.t0_core.specs.Watch.{Hearing, Hears}

-- the beginning of a beginning, and a beginning that reaches past a part
front_of_front : (n : ℕ) (xs ys : List Character) → (m : ℕ) × (take m (xs ++ ys) ≡ take n xs)
front_of_front zero xs ys = (0, refl)
front_of_front (suc n) [] ys = (0, refl)
front_of_front (suc n) (x ∷ xs) ys = let shorter = front_of_front n xs ys in
    (suc shorter.0, ap (λ cs. x ∷ cs) shorter.1)

front_past : (xs ys : List Character) (m : ℕ) → (n : ℕ) × (take n (xs ++ ys) ≡ xs ++ take m ys)
front_past [] ys m = (m, refl)
front_past (x ∷ xs) ys m = let shorter = front_past xs ys m in
    (suc shorter.0, ap (λ cs. x ∷ cs) shorter.1)

-- what a watch records of one part and then of another
heard_front : (a b c : Hearing) (xs ys : List Character) → Hears a xs b → Hears b ys c
    → (lost : Bool) → b.lost ≡ lost → (n : ℕ) × (c.heard ≡ a.heard ++ take n (xs ++ ys))
heard_front a b c xs ys one two true lost =
    let shorter = front_of_front one.front.0 xs ys in
    (shorter.0, (two.deaf lost).1 ∙ one.front.1 ∙ ap (λ cs. a.heard ++ cs) (sym shorter.1))
heard_front a b c xs ys one two false kept =
    let past = front_past xs ys two.front.0 in (
      past.0,
      two.front.1 ∙ ap (λ hs. hs ++ take two.front.0 ys) (one.all kept).1
          ∙ append_assoc a.heard xs (take two.front.0 ys) ∙ ap (λ cs. a.heard ++ cs) (sym past.1),
    )

pub hears_more : (a b c : Hearing) (xs ys : List Character) → Hears a xs b → Hears b ys c
    → Hears a (xs ++ ys) c
hears_more a b c xs ys one two = record {
  all = λ kept. let later = two.all kept in let before = one.all later.0 in
      (before.0, later.1 ∙ ap (λ hs. hs ++ ys) before.1 ∙ append_assoc a.heard xs ys);
  front = heard_front a b c xs ys one two b.lost refl;
  deaf = λ lost. let before = one.deaf lost in let later = two.deaf before.0 in
      (later.0, later.1 ∙ before.1);
}

pub hears_nothing : (a : Hearing) → Hears a [] a
hears_nothing a = record {
  all = λ kept. (kept, sym (append-nil a.heard));
  front =
      (0, sym (append-nil a.heard));
  deaf = λ lost. (lost, refl);
}
