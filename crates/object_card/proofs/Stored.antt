-- The entries of an application, as its map holds them.
use Rattle.std.proofs.Common.{◌≡◌, ℕ, List, [], ◌∷◌, map, Option, Some, None, Bool, true, false, refl, sym, ap, cond, ◌∙◌, ◌<◌, ◌⊎◌, inl, inr, Ok, Err, Result}
use Rattle.std.specs.Prelude.{slice_get, unwrap_or, option_map, is_some, IfSome, IsOk, OnOk, OnErr, if◌then◌else◌}
use Rattle.std.specs.Map.{lookup, values_of}
use Rattle.std.proofs.lemmas.Option.{slice_get-map}
use Rattle.indexmap.specs.IndexMap.{insert_entry}
use Rattle.object_card.specs.Tables.{Entry, same_bytes, value_under, is_locked, with_entry}
use Rattle.object_card.specs.CardFields.{value_at}

module _ {V : Type 0} (value : V → List ℕ) (locked : V → Bool) where
  -- a pair of the map as an entry
  abbrev pub entry_of : List ℕ × V → Entry
  entry_of e = record { tag = e.0; value = value e.1; locked = locked e.1 }

  module _ (eq : List ℕ → List ℕ → Bool) (same : (a b : List ℕ) → eq a b ≡ same_bytes a b)
      (tag : List ℕ) where
    pub value-lookup : (es : List (List ℕ × V)) → option_map value (lookup (eq tag) es)
        ≡ value_under tag (map entry_of es)
    value-lookup [] = refl
    value-lookup (e ∷ es) = rw (same tag e.0) (split (same_bytes tag e.0) (value-lookup es))
      where
        split : (v : Bool) → option_map value (lookup (eq tag) es)
            ≡ value_under tag (map entry_of es)
            → option_map value (cond v (Some e.1) (lookup (eq tag) es))
            ≡ (if v then Some (value e.1) else value_under tag (map entry_of es))
        split true more = refl
        split false more = more

    pub locked-lookup : (es : List (List ℕ × V))
        → unwrap_or (option_map locked (lookup (eq tag) es)) false ≡ is_locked tag (map entry_of es)
    locked-lookup [] = refl
    locked-lookup (e ∷ es) = rw (same tag e.0) (split (same_bytes tag e.0) (locked-lookup es))
      where
        split : (v : Bool) → unwrap_or (option_map locked (lookup (eq tag) es)) false
            ≡ is_locked tag (map entry_of es)
            → unwrap_or (option_map locked (cond v (Some e.1) (lookup (eq tag) es))) false
            ≡ (if v then locked e.1 else is_locked tag (map entry_of es))
        split true more = refl
        split false more = more

    pub entries-insert : (es : List (List ℕ × V)) (v : V) → map entry_of (insert_entry eq es tag v)
        ≡ with_entry tag (value v) (locked v) (map entry_of es)
    entries-insert [] v = refl
    entries-insert (e ∷ es) v = rw (same tag e.0) (split (same_bytes tag e.0) (entries-insert es v))
      where
        split : (b : Bool) → map entry_of (insert_entry eq es tag v)
            ≡ with_entry tag (value v) (locked v) (map entry_of es)
            → map entry_of (if b then (e.0, v) ∷ es else e ∷ insert_entry eq es tag v)
            ≡ (if b then record { tag = e.0; value = value v; locked = locked v }
            ∷ map entry_of es else entry_of e ∷ with_entry tag (value v) (locked v)
            (map entry_of es))
        split true more = refl
        split false more = ap (λ xs. entry_of e ∷ xs) more

    -- what is found, by its place
    pub value-found : (es : List (List ℕ × V)) (r : Option ℕ) → is_some r
        ≡ is_some (lookup (eq tag) es)
        → IfSome r (λ i. slice_get (values_of es) i ≡ lookup (eq tag) es)
        → option_map (λ place. value_at (map entry_of es) (Some place)) r
        ≡ value_under tag (map entry_of es)
    value-found es None found at_place = none (lookup (eq tag) es) refl
      where
        none : (o : Option V) → lookup (eq tag) es ≡ o → None ≡ value_under tag (map entry_of es)
        none None e = sym (ap (option_map value) e) ∙ value-lookup es
        none (Some v) e = let no : false ≡ true = found ∙ ap is_some e in absurd (cc)
    value-found es (Some i) found at_place = there (slice_get es i) refl
      where
        there : (o : Option (List ℕ × V)) → slice_get es i ≡ o
            → Some (value_at (map entry_of es) (Some i)) ≡ value_under tag (map entry_of es)
        there None e =
            let gone : lookup (eq tag) es ≡ None = sym at_place ∙ slice_get-map (λ p. p.1) es i
            ∙ ap (option_map (λ p. p.1)) e in
            let no : true ≡ false = found ∙ ap is_some gone in absurd (cc)
        there (Some p) e =
            let is : lookup (eq tag) es ≡ Some p.1 = sym at_place ∙ slice_get-map (λ p. p.1) es i
            ∙ ap (option_map (λ p. p.1)) e in
            let entry : slice_get (map entry_of es) i ≡ Some (entry_of p) =
            slice_get-map entry_of es i ∙ ap (option_map entry_of) e in
            ap (λ o. Some (unwrap_or (option_map (λ e. e.value) o) [])) entry
            ∙ sym (ap (option_map value) is) ∙ value-lookup es

    pub locked-found : (es : List (List ℕ × V)) (v : V) → Some v ≡ lookup (eq tag) es → locked v
        ≡ is_locked tag (map entry_of es)
    locked-found es v found = ap (λ o. unwrap_or (option_map locked o) false) found
        ∙ locked-lookup es

    pub not_locked : (es : List (List ℕ × V)) → None ≡ lookup (eq tag) es → false
        ≡ is_locked tag (map entry_of es)
    not_locked es none = ap (λ o. unwrap_or (option_map locked o) false) none ∙ locked-lookup es

    pub is_under : (es : List (List ℕ × V)) → is_some (value_under tag (map entry_of es))
        ≡ is_some (lookup (eq tag) es)
    is_under es = sym (ap is_some (value-lookup es)) ∙ same_some (lookup (eq tag) es)
      where
        same_some : (o : Option V) → is_some (option_map value o) ≡ is_some o
        same_some None = refl
        same_some (Some v) = refl

    -- an insertion that finds the tag, or room, succeeds
    pub inserted : {T E : Type 0} (es : List (List ℕ × V)) (room : ℕ) (r : Result T E)
        → (is_some (value_under tag (map entry_of es)) ≡ true) ⊎ (0 < room)
        → OnErr r (lookup (eq tag) es ≡ None) → (0 < room → IsOk r) → IsOk r
    inserted es room (Ok x) place absent succeeds = refl
    inserted es room (Err x) place absent succeeds = elim place [
      | inl held ↦ let no : false ≡ true = sym (ap is_some absent) ∙ sym (is_under es) ∙ held in
          absurd (cc)
      | inr some ↦ succeeds some
    ]

  -- the value at a place
  pub value-at : (es : List (List ℕ × V)) (i : ℕ) (v : V) → slice_get (values_of es) i ≡ Some v
      → value v ≡ value_at (map entry_of es) (Some i)
  value-at es i v is = there (slice_get es i) refl
    where
      there : (o : Option (List ℕ × V)) → slice_get es i ≡ o → value v
          ≡ value_at (map entry_of es) (Some i)
      there None e = let no : Some v ≡ None = sym is ∙ slice_get-map (λ p. p.1) es i
          ∙ ap (option_map (λ p. p.1)) e in absurd (cc)
      there (Some p) e =
          let same : Some v ≡ Some p.1 = sym is ∙ slice_get-map (λ p. p.1) es i
          ∙ ap (option_map (λ p. p.1)) e in
          let entry : slice_get (map entry_of es) i ≡ Some (entry_of p) =
          slice_get-map entry_of es i ∙ ap (option_map entry_of) e in
          ap (λ o. unwrap_or (option_map value o) []) same
          ∙ sym (ap (λ o. unwrap_or (option_map (λ e. e.value) o) []) entry)

-- what an Ok shows
pub when_ok : {T E : Type 0} {P : Type 0} (r : Result T E) (x : T) → r ≡ Ok x → OnOk r P → P
when_ok (Ok y) x e p = p
when_ok (Err y) x e p = absurd (cc)
