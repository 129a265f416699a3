-- What the exports for objects return and write.
use Rattle.std.specs.Prelude.{◌≡◌, ◌⊎◌, ℕ, ℤ, zero, suc, List, [], ◌∷◌, if◌then◌else◌}
use Rattle.tlv_core.specs.TagForm.{is_constructed}
use Rattle.tlv_core.specs.Listing.{Placed, placed}
use Rattle.tlv_core.specs.Object.{Object}
use Rattle.tlv_core.specs.Spelling.{AreObjects}
use Rattle.tlv_core.specs.Path.{IsFirstPlaced, NoneLiesAt, StandsAt}
use Rattle.tlv_core.specs.FirstFault.{IsFirstFault}
use Rattle.tlv_core.specs.declared.fault.Reason.{Reason}
use Rattle.card_c.specs.declared.reader.ObjectRecord.{ObjectRecord}
use Rattle.card_c.specs.Codes.{gt_ok, gt_argument, gt_not_found, reason_code}
use Rattle.card_c.specs.TagNumbers.{tag_number, AreTagNumbers}

-- an object as C sees it
abbrev pub recorded : Placed → ObjectRecord
recorded o =
    record {
      tag = tag_number o.tag;
      level = o.level;
      constructed = if is_constructed o.tag then 1 else 0;
      place = o.place;
      size = o.size;
      value = o.value;
      length = o.value_size;
    }

-- an array with these at its front, as many as fit
abbrev pub with_front : List ObjectRecord → List ObjectRecord → List ObjectRecord
with_front [] all = []
with_front (cell ∷ room) [] = cell ∷ room
with_front (cell ∷ room) (o ∷ all) = o ∷ with_front room all

-- the same from a place of the array on
abbrev pub with_from : List ObjectRecord → ℕ → List ObjectRecord → List ObjectRecord
with_from room zero all = with_front room all
with_from [] (suc at) all = []
with_from (cell ∷ room) (suc at) all = cell ∷ with_from room at all

-- The first object on a path of tags is written, with its places. Or the bytes are not objects, and
-- the first fault and its place are returned. Or no object is on the path.
abbrev pub FindsOn : List ℕ → List (List ℕ) → ObjectRecord → ℕ → ℤ → ObjectRecord → ℕ → Type 0
FindsOn bytes tags object place code object' place' =
    ((reason : Reason) × IsFirstFault bytes 1 place' reason × (code ≡ reason_code reason)
    × (object' ≡ object))
    ⊎ (AreObjects bytes 1 × NoneLiesAt bytes 1 tags × (code ≡ gt_not_found)
    × (object' ≡ object) × (place' ≡ place))
    ⊎ ((start : ℕ) × (found : Object) × AreObjects bytes 1 × IsFirstPlaced bytes 1 tags start found
    × StandsAt bytes start found × (code ≡ gt_ok)
    × (object' ≡ recorded (placed start found.tag found.size found.value found.level))
    × (place' ≡ place))

-- the same for a path of numbers, if they are those of tags
abbrev pub Finds : List ℕ → List ℕ → ObjectRecord → ℕ → ℤ → ObjectRecord → ℕ → Type 0
Finds bytes numbers object place code object' place' =
    (((tags : List (List ℕ)) → ¬ AreTagNumbers numbers tags) × (code ≡ gt_argument)
    × (object' ≡ object) × (place' ≡ place))
    ⊎ ((tags : List (List ℕ)) × AreTagNumbers numbers tags
    × FindsOn bytes tags object place code object' place')
