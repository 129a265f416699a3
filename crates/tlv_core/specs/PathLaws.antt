-- The level of the object at the end of a path.
use Rattle.std.proofs.Common.{◌≡◌, ℕ, suc, ◌+◌, ◌<◌, List, [], ◌∷◌, length, ap, arith, length-append}
use Rattle.tlv_core.specs.Spelling.{AreObjects, deepest}
use Rattle.tlv_core.specs.Path.{NoneLiesAt}
use Rattle.tlv_core.specs.Place.{Reached, at_front, past_padding, past_object, into_template}
use Rattle.tlv_core.specs.PlaceLaws.{reached_spelled}
use Rattle.tlv_core.specs.SpellingLaws.{spelled_object}
use Rattle.tlv_core.specs.StartLaws.{starts_at_object}

-- Each template around a place is one level.
reached_depth : (bytes : List ℕ) (level place : ℕ) (left : List ℕ) (depth : ℕ)
    (path : List (List ℕ))
    → Reached bytes level place left depth path → depth ≡ level + length path
reached_depth bytes level place left depth path (at_front p l d t) = omega (arith, d, ap length t)
reached_depth bytes level place left depth path (past_padding rest next b p r) =
    reached_depth rest level next left depth path r
reached_depth bytes level place left depth path (past_object t s v rest next h p r) =
    reached_depth rest level next left depth path r
reached_depth bytes level place left depth path
    (into_template t s v rest inner below h kind p q r) =
    omega (arith, ap length q, reached_depth v (suc level) inner left depth below r)

-- In a list of objects no path reaches below the deepest level.
pub none_below : (bytes : List ℕ) (path : List (List ℕ)) → AreObjects bytes 1
    → deepest < length path → NoneLiesAt bytes 1 path
none_below bytes path objects long place o h =
    let (forest, spells) = reached_spelled bytes 1 place h.left o.level h.above h.reached objects in
    let object = spelled_object forest h.left o.level
    (starts_at_object h.left o.tag o.size o.value h.rest h.stands) spells in
    omega (
      arith,
      object.in_depth,
      reached_depth bytes 1 place h.left o.level h.above h.reached,
      ap length h.is_path,
      length-append h.above (o.tag ∷ []),
    )
