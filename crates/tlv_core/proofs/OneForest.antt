-- The same bytes never spell two lists of objects.
use Rattle.std.proofs.Common.{◌≡◌, ℕ, suc, ◌<◌, List, ◌∷◌, ◌++◌, length, refl, sym, ap, ◌∙◌, subst, append_assoc}
use Rattle.std.specs.List.{All}
use Rattle.tlv_core.specs.TagForm.{is_constructed}
use Rattle.tlv_core.specs.Spelling.{Forest, Empty, Primitive, Template, Begins, Spells}
use Rattle.tlv_core.proofs.Paddings.{tag_front, one_padding, not_in_padding}
use Rattle.tlv_core.specs.LengthLaws.{sizes_agree}
use Rattle.tlv_core.specs.StartLaws.{after_tags_agree, fronts_agree}
use Rattle.std.proofs.lemmas.List.{append_cancel_left}

-- the first byte after the padding is not padding
pub record IsAfterPadding (bytes padding tail : List ℕ) : Type 0 where
  pub first : ℕ
  pub more : List ℕ
  pub is_none : 0 < first
  pub tail_is : first ∷ more ≡ tail
  pub bytes_are : bytes ≡ padding ++ first ∷ more

seen_after : (bytes padding tag size value rest : List ℕ) (a : ℕ) (more : List ℕ) → bytes ≡ padding
    ++ tag ++ size ++ value ++ rest
    → tag ≡ a ∷ more → 0 < a → IsAfterPadding bytes padding (tag ++ (size ++ (value ++ rest)))
seen_after bytes padding tag size value rest a more e is above =
    let tail : a ∷ (more ++ (size ++ (value ++ rest))) ≡ tag ++ (size ++ (value ++ rest)) =
    rw is refl in
    record {
      first = a;
      more = more ++ (size ++ (value ++ rest));
      is_none = above;
      tail_is = tail;
      bytes_are = e ∙ simp append_assoc (ap (λ x. padding ++ x) (sym tail));
    }

after_padding : (bytes padding tag size value rest : List ℕ) (level : ℕ)
    → Begins bytes padding tag size value rest level
    → IsAfterPadding bytes padding (tag ++ (size ++ (value ++ rest)))
after_padding bytes padding tag size value rest level h =
    let start = tag_front tag h.is_tag in
    seen_after bytes padding tag size value rest start.0 start.1 h.spelled start.2 start.3

-- the object at the front has one value and one rest
pub one_object : (bytes p t s v r q u x w z : List ℕ) (level : ℕ) → Begins bytes p t s v r level
    → Begins bytes q u x w z level
    → (t ≡ u) × (v ≡ w) × (r ≡ z)
one_object bytes p t s v r q u x w z level h k =
    let a = after_padding bytes p t s v r level h in
    let b = after_padding bytes q u x w z level k in
    let starts = one_padding p q a.more b.more a.first b.first h.is_padding k.is_padding a.is_none
    b.is_none (sym a.bytes_are ∙ b.bytes_are) in
    let tags = after_tags_agree t u (s ++ (v ++ r)) (x ++ (w ++ z)) h.is_tag k.is_tag
    (sym a.tail_is ∙ starts.1 ∙ b.tail_is) in
    let sizes = sizes_agree s x (v ++ r) (w ++ z) (length v)
    (length w) h.is_size k.is_size tags.1 in
    let after = append_cancel_left s (v ++ r) (w ++ z)
    (tags.1 ∙ ap (λ y. y ++ (w ++ z)) (sym sizes.0)) in
    let values = fronts_agree v w r z sizes.1 after in
    (tags.0, values.0, values.1)

-- nothing but padding contains no object
pub no_object : (bytes p t s v r : List ℕ) (level : ℕ) → All (λ b. b ≡ 0) bytes
    → Begins bytes p t s v r level → ⊥
no_object bytes p t s v r level none h =
    let a = after_padding bytes p t s v r level h in
    not_in_padding p a.more a.first a.is_none
    (let P : List ℕ → Type 0 = λ x. All (λ b. b ≡ 0) x in subst P a.bytes_are none)

Spells_at : (g : Forest) (level : ℕ) (bytes other : List ℕ) → other ≡ bytes → Spells g other level
    → Spells g bytes level
Spells_at g level bytes other e h = let P : List ℕ → Type 0 = λ x. Spells g x level in subst P e h

pub same_forest : (f g : Forest) (bytes : List ℕ) (level : ℕ) → Spells f bytes level
    → Spells g bytes level → f ≡ g
same_forest Empty Empty bytes level h k = refl
same_forest Empty (Primitive tag value rest) bytes level h (p, s, more, begins, kind, others) =
    absurd (no_object bytes p tag s value more level h begins)
same_forest Empty (Template tag children rest) bytes level h
    (p, s, value, more, begins, kind, inner, others) =
    absurd (no_object bytes p tag s value more level h begins)
same_forest (Primitive tag value rest) Empty bytes level (p, s, more, begins, kind, others) k =
    absurd (no_object bytes p tag s value more level k begins)
same_forest (Template tag children rest) Empty bytes level
    (p, s, value, more, begins, kind, inner, others) k =
    absurd (no_object bytes p tag s value more level k begins)
same_forest (Primitive tag value rest) (Primitive tag' value' rest') bytes level
    (p, s, more, begins, kind, others) (p', s', more', begins', kind', others') =
    let same = one_object bytes p tag s value more p' tag' s' value' more' level begins begins' in
    let rests = same_forest rest rest' more' level (Spells_at rest level more' more same.2 others)
    others' in cc
same_forest (Primitive tag value rest) (Template tag' children' rest') bytes level
    (p, s, more, begins, kind, others) (p', s', value', more', begins', kind', inner', others') =
    let same = one_object bytes p tag s value more p' tag' s' value' more' level begins begins' in
    let tags = ap is_constructed same.0 in cc
same_forest (Template tag children rest) (Primitive tag' value' rest') bytes level
    (p, s, value, more, begins, kind, inner, others) (p', s', more', begins', kind', others') =
    let same = one_object bytes p tag s value more p' tag' s' value' more' level begins begins' in
    let tags = ap is_constructed same.0 in cc
same_forest (Template tag children rest) (Template tag' children' rest') bytes level
    (p, s, value, more, begins, kind, inner, others)
    (p', s', value', more', begins', kind', inner', others') =
    let same = one_object bytes p tag s value more p' tag' s' value' more' level begins begins' in
    let below = same_forest children children' value' (suc level)
    (Spells_at children (suc level) value' value same.1 inner) inner' in
    let rests = same_forest rest rest' more' level (Spells_at rest level more' more same.2 others)
    others' in cc
