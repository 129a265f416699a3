-- For the proof: codes that tell two forests, or two objects, apart. A code is a tree of numbers
-- from which the value can be rebuilt.
use Rattle.std.specs.Prelude.{◌≡◌, ℕ, List, refl}
use Rattle.std.specs.Coded.{Coded, coded_ℕ, coded_list, coded×, coded⊎, code_by}
use Rattle.std.proofs.Common.{ap, ◌⊎◌, inl, inr}
use base.Stored.{Gv, gnil, gnum, gcons}
use Rattle.tlv_core.specs.Spelling.{Forest, Empty, Primitive, Template}
use Rattle.tlv_core.specs.Items.{Item, PrimitiveItem, TemplateItem}

abbrev bytes_code : List ℕ → Gv
bytes_code bytes = (coded_list coded_ℕ).code bytes

abbrev to_tree : Forest → Gv
to_tree Empty = gnil
to_tree (Primitive tag value rest) =
    gcons (gnum 0) (gcons (bytes_code tag) (gcons (bytes_code value) (to_tree rest)))
to_tree (Template tag children rest) =
    gcons (gnum 1) (gcons (bytes_code tag) (gcons (to_tree children) (to_tree rest)))

abbrev front_of : Gv → Gv
front_of gnil = gnil
front_of (gnum n) = gnil
front_of (gcons a b) = a

abbrev back_of : Gv → Gv
back_of gnil = gnil
back_of (gnum n) = gnil
back_of (gcons a b) = b

bytes_same : (x y : List ℕ) → bytes_code x ≡ bytes_code y → x ≡ y
bytes_same = (coded_list coded_ℕ).inj

pub to_tree_inj : (f g : Forest) → to_tree f ≡ to_tree g → f ≡ g
to_tree_inj Empty Empty e = refl
to_tree_inj Empty (Primitive tag value rest) e = absurd cc
to_tree_inj Empty (Template tag children rest) e = absurd cc
to_tree_inj (Primitive tag value rest) Empty e = absurd cc
to_tree_inj (Template tag children rest) Empty e = absurd cc
to_tree_inj (Primitive tag value rest) (Template tag' children' rest') e =
    let kinds : gnum 0 ≡ gnum 1 = ap front_of e in absurd cc
to_tree_inj (Template tag children rest) (Primitive tag' value' rest') e =
    let kinds : gnum 1 ≡ gnum 0 = ap front_of e in absurd cc
to_tree_inj (Primitive tag value rest) (Primitive tag' value' rest') e =
    let tags = bytes_same tag tag' (ap (λ x. front_of (back_of x)) e) in
    let values = bytes_same value value' (ap (λ x. front_of (back_of (back_of x))) e) in
    let rests = to_tree_inj rest rest' (ap (λ x. back_of (back_of (back_of x))) e) in cc
to_tree_inj (Template tag children rest) (Template tag' children' rest') e =
    let tags = bytes_same tag tag' (ap (λ x. front_of (back_of x)) e) in
    let values = to_tree_inj children children' (ap (λ x. front_of (back_of (back_of x))) e) in
    let rests = to_tree_inj rest rest' (ap (λ x. back_of (back_of (back_of x))) e) in cc

-- the code of a forest
abbrev pub forest_code : Coded Forest
forest_code = record { code = to_tree; inj = to_tree_inj }

abbrev item_split : Item → (List ℕ × List ℕ) ⊎ (List ℕ × Forest)
item_split (PrimitiveItem tag value) = inl (tag, value)
item_split (TemplateItem tag children) = inr (tag, children)

abbrev item_join : (List ℕ × List ℕ) ⊎ (List ℕ × Forest) → Item
item_join (inl p) = PrimitiveItem p.0 p.1
item_join (inr p) = TemplateItem p.0 p.1

pub item_join-split : (i : Item) → item_join (item_split i) ≡ i
item_join-split (PrimitiveItem tag value) = refl
item_join-split (TemplateItem tag children) = refl

abbrev pub item_code : Coded Item
item_code = code_by ((List ℕ × List ℕ) ⊎ (List ℕ × Forest))
    (coded⊎ (coded× (coded_list coded_ℕ) (coded_list coded_ℕ))
    (coded× (coded_list coded_ℕ) forest_code)) item_split item_join item_join-split
