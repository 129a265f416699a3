-- The places that a reader of objects reaches (profile).
use Rattle.std.specs.Prelude.{◌≡◌, ℕ, suc, ◌+◌, List, [], ◌∷◌, ◌++◌, length, true}
use Rattle.tlv_core.specs.TagForm.{IsTag, is_constructed}
use Rattle.tlv_core.specs.Length.{SpellsLength}

-- an object at the front of the bytes, which contain all of it
pub record StartsWith (bytes tag size value rest : List ℕ) : Type 0 where
  pub spelled : bytes ≡ tag ++ size ++ value ++ rest
  pub is_tag : IsTag tag
  pub is_size : SpellsLength size (length value)

abbrev pub StartsWithObject : List ℕ → Type 0
StartsWithObject bytes = (tag size value rest : List ℕ) × StartsWith bytes tag size value rest

-- A place that a reader reaches from the front of the bytes, which are a list of objects at
-- `level`. `left` is the rest of the innermost list there, `depth` is that list's level. `path`
-- lists the tags of the templates around the place, the outermost first.
pub data Reached : List ℕ → ℕ → ℕ → List ℕ → ℕ → List (List ℕ) → Type 0 where
  at_front : {bytes : List ℕ} {level place : ℕ} {left : List ℕ} {depth : ℕ} {path : List (List ℕ)}
      → place ≡ 0 → left ≡ bytes → depth ≡ level → path ≡ []
      → Reached bytes level place left depth path
  past_padding : {bytes : List ℕ} {level place : ℕ} {left : List ℕ} {depth : ℕ}
      {path : List (List ℕ)}
      (rest : List ℕ) (next : ℕ) → bytes ≡ 0 ∷ rest → place ≡ 1 + next
      → Reached rest level next left depth path
      → Reached bytes level place left depth path
  past_object : {bytes : List ℕ} {level place : ℕ} {left : List ℕ} {depth : ℕ}
      {path : List (List ℕ)}
      (tag size value rest : List ℕ) (next : ℕ) → StartsWith bytes tag size value rest
      → place ≡ length (tag ++ size ++ value) + next
      → Reached rest level next left depth path
      → Reached bytes level place left depth path
  into_template : {bytes : List ℕ} {level place : ℕ} {left : List ℕ} {depth : ℕ}
      {path : List (List ℕ)}
      (tag size value rest : List ℕ) (inner : ℕ) (below : List (List ℕ))
      → StartsWith bytes tag size value rest
      → is_constructed tag ≡ true → place ≡ length (tag ++ size) + inner → path ≡ tag ∷ below
      → Reached value (suc level) inner left depth below
      → Reached bytes level place left depth path
