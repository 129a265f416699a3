-- What a tap hears of both ends, and the items that it gives.
use Rattle.std.specs.Prelude.{◌≡◌, ◌⊎◌, ◌<◌, ℕ, Bool, true, false, not, List, [], ◌∷◌, ◌++◌, length, map, take, Option, Some, None}
use Rattle.std.specs.List.{cons_option, flat_map}
use Rattle.t1_core.specs.declared.reading.End.{End}
use Rattle.t1_core.specs.declared.reading.Reading.{Reading}
use Rattle.t1_core.specs.declared.reading.Role.{Role}
use Rattle.t1_core.specs.declared.settings.Edc.{Edc}
use Rattle.t1_core.specs.declared.tap.Item as declared
use Rattle.t1_core.specs.Block.{Block, more}
use Rattle.t1_core.specs.Items.{Found, Valid, found_in, is_complete, seen}
use Rattle.t1_core.specs.Reading.{fresh, is_end, peer, reads}

abbrev pub Heard : Type 0
Heard = End × ℕ

pub record Item : Type 0 where
  pub from : End
  pub bytes : List ℕ
  pub found : Found
  pub role : Role

abbrev pub told : declared.Item → Item
told i = record { from = i.from; bytes = i.bytes.now; found = seen i.found; role = i.role }

abbrev pub sent_by : End → List ℕ → List Heard
sent_by from bytes = map (λ b. (from, b)) bytes

abbrev pub heard_of : Item → List Heard
heard_of i = sent_by i.from i.bytes

-- the item of these bytes, after this reading
abbrev pub item_with : Edc → Reading → End → List ℕ → Item
item_with edc r from bytes =
    record {
      from = from;
      bytes = bytes;
      found = found_in edc bytes;
      role = (reads r from (found_in edc bytes)).0;
    }

abbrev pub after_items : Reading → List Item → Reading
after_items r [] = r
after_items r (i ∷ is) = after_items (reads r i.from i.found).1 is

-- the next byte is the other end's
abbrev pub IsOther : End → List Heard → Type 0
IsOther from [] = ⊥
IsOther from (c ∷ cs) = c.0 ≡ peer from

-- An item ends where LEN puts its end, or sooner, where the other end begins. `rest` is what
-- follows it, and `r` the reading before it.
pub record IsItem (edc : Edc) (r : Reading) (i : Item) (rest : List Heard) : Type 0 where
  pub some : 0 < length i.bytes
  pub not_sooner : (k : ℕ) → k < length i.bytes → is_complete edc (take k i.bytes) ≡ false
  pub ends : (is_complete edc i.bytes ≡ true) ⊎ IsOther i.from rest
  pub is : i ≡ item_with edc r i.from i.bytes

-- these items, one after another; `rest` follows the last one
abbrev pub AreItems : Edc → Reading → List Item → (rest : List Heard) → Type 0
AreItems edc r [] rest = Unit {0}
AreItems edc r (i ∷ is) rest =
    IsItem edc r i (flat_map heard_of is ++ rest)
    × AreItems edc (reads r i.from i.found).1 is rest

pub record Ear : Type 0 where
  pub edc : Edc
  pub from : End  -- the sender of `part`
  pub part : List ℕ  -- the bytes of the item
  pub ended : Bool  -- the item has ended
  pub held : List ℕ  -- the byte of the other end that has cut it off
  pub reading : Reading  -- before the item

abbrev pub listening : Edc → End → (part : List ℕ) → Reading → Ear
listening edc from part r =
    record { edc = edc; from = from; part = part; ended = false; held = []; reading = r }

-- the item, once it has ended
abbrev pub item_in : Bool → Ear → Option Item
item_in false e = None
item_in true e = Some (item_with e.edc e.reading e.from e.part)

abbrev pub item_of : Ear → Option Item
item_of e = item_in e.ended e

abbrev pub given : Ear → List Item
given e = cons_option (item_of e) []

abbrev pub next_from : End → (held : List ℕ) → End
next_from from [] = from
next_from from (b ∷ held) = peer from

abbrev pub goes_on_from : Bool → Ear → Ear
goes_on_from false e = e
goes_on_from true e =
    listening e.edc (next_from e.from e.held) e.held
    (reads e.reading e.from (found_in e.edc e.part)).1

abbrev pub goes_on : Ear → Ear
goes_on e = goes_on_from e.ended e

-- a byte of the end `now` cuts off the item
abbrev pub is_cut : (part : List ℕ) → (from now : End) → Bool
is_cut [] from now = false
is_cut (b ∷ part) from now = not (is_end from now)

abbrev pub hears_on : Bool → Ear → End → (byte : ℕ) → Ear
hears_on true e from byte = record e { ended = true; held = byte ∷ [] }
hears_on false e from byte =
    record e {
      from = from;
      part = e.part ++ byte ∷ [];
      ended = is_complete e.edc (e.part ++ byte ∷ []);
    }

abbrev pub hears_next : Ear → End → (byte : ℕ) → Ear
hears_next e from byte = hears_on (is_cut e.part e.from from) e from byte

abbrev pub hears : Ear → End → (byte : ℕ) → Ear
hears e from byte = hears_next (goes_on e) from byte

abbrev pub hears_all : Ear → End → List ℕ → Ear
hears_all e from [] = e
hears_all e from (b ∷ bytes) = hears_all (hears e from b) from bytes

abbrev pub stops : Ear → Ear
stops e = record (goes_on e) { ended = more (goes_on e).part; reading = fresh }

-- A tap has heard these bytes since the reset: they are these items, and then the bytes of `e`,
-- which are the first of one more.
pub record HasHeard (heard : List Heard) (items : List Item) (e : Ear) : Type 0 where
  pub all : heard ≡ flat_map heard_of items ++ sent_by e.from e.part
  pub divided : AreItems e.edc fresh items (sent_by e.from e.part)
  pub incomplete : (k : ℕ) → is_complete e.edc (take k e.part) ≡ false
  pub none_held : e.held ≡ []
  pub read : e.reading ≡ after_items fresh items

-- the next item is this block
abbrev pub IsNext : List Item → End → List ℕ → Block → Type 0
IsNext [] from bytes block = ⊥
IsNext (i ∷ is) from bytes block =
    (i.from ≡ from) × (i.bytes ≡ bytes) × (i.found ≡ Valid block)
