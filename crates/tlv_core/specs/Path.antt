-- Objects found by a path of tags (profile).
use Rattle.std.specs.Prelude.{◌≡◌, ℕ, ◌≤◌, List, [], ◌∷◌, ◌++◌, length}
use Rattle.tlv_core.specs.Object.{Object}
use Rattle.tlv_core.specs.Place.{Reached, StartsWith}

-- At this place of the bytes, a list of objects at a level, is the object. The path lists the tags
-- from that level down to the object's own.
pub record LiesAt (bytes : List ℕ) (level : ℕ) (path : List (List ℕ)) (place : ℕ)
    (object : Object) : Type 0 where
  pub left : List ℕ
  pub above : List (List ℕ)
  pub rest : List ℕ
  pub reached : Reached bytes level place left object.level above
  pub stands : StartsWith left object.tag object.size object.value rest
  pub is_path : path ≡ above ++ object.tag ∷ []

-- the first object on the path, in the order of the bytes, with its place
pub record IsFirstPlaced (bytes : List ℕ) (level : ℕ) (path : List (List ℕ)) (place : ℕ)
    (object : Object) : Type 0 where
  pub here : LiesAt bytes level path place object
  pub none_before : (p : ℕ) (other : Object) → LiesAt bytes level path p other → place ≤ p

abbrev pub IsFirstAt : List ℕ → ℕ → List (List ℕ) → Object → Type 0
IsFirstAt bytes level path object = (place : ℕ) × IsFirstPlaced bytes level path place object

abbrev pub NoneLiesAt : List ℕ → ℕ → List (List ℕ) → Type 0
NoneLiesAt bytes level path = (place : ℕ) (object : Object)
    → LiesAt bytes level path place object → ⊥

-- the object's bytes are at this place
abbrev pub StandsAt : List ℕ → ℕ → Object → Type 0
StandsAt bytes place object = (before after : List ℕ) × (place ≡ length before)
    × (bytes ≡ before ++ object.tag ++ object.size ++ object.value ++ after)
