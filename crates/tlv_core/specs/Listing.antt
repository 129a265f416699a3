-- All objects of a list, templates and what is inside them, with their places (profile).
use Rattle.std.specs.Prelude.{◌≡◌, ℕ, suc, ◌+◌, List, [], ◌∷◌, ◌++◌, length, All, true, false}
use Rattle.tlv_core.specs.TagForm.{is_constructed}
use Rattle.tlv_core.specs.Spelling.{Begins}

-- an object by its offsets: its first byte and its size, the first byte of its value and the
-- value's size
pub record Placed : Type 0 where
  pub tag : List ℕ
  pub level : ℕ
  pub place : ℕ
  pub size : ℕ
  pub value : ℕ
  pub value_size : ℕ

abbrev pub placed : ℕ → List ℕ → List ℕ → List ℕ → ℕ → Placed
placed place tag size value level =
    record {
      tag = tag;
      level = level;
      place = place;
      size = length (tag ++ size ++ value);
      value = place + length (tag ++ size);
      value_size = length value;
    }

-- The objects of the bytes, a list at `level` that begins at offset `start`, in the order of their
-- first bytes. A template precedes the objects in it.
pub data Lists : List ℕ → ℕ → ℕ → List Placed → Type 0 where
  no_object : {bytes : List ℕ} {start level : ℕ} {all : List Placed}
      → All (λ b. b ≡ 0) bytes → all ≡ [] → Lists bytes start level all
  primitive : {bytes : List ℕ} {start level : ℕ} {all : List Placed}
      (padding tag size value rest : List ℕ) (others : List Placed)
      → Begins bytes padding tag size value rest level → is_constructed tag ≡ false
      → all ≡ placed (start + length padding) tag size value level ∷ others
      → Lists rest (start + length (padding ++ tag ++ size ++ value)) level others
      → Lists bytes start level all
  template : {bytes : List ℕ} {start level : ℕ} {all : List Placed}
      (padding tag size value rest : List ℕ) (inside others : List Placed)
      → Begins bytes padding tag size value rest level → is_constructed tag ≡ true
      → all ≡ placed (start + length padding) tag size value level ∷ inside ++ others
      → Lists value (start + length (padding ++ tag ++ size)) (suc level) inside
      → Lists rest (start + length (padding ++ tag ++ size ++ value)) level others
      → Lists bytes start level all
