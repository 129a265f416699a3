-- Objects found by a path, step by step.
use Rattle.std.proofs.Common.{◌≡◌, ◌≢◌, ℕ, suc, ◌+◌, ◌<◌, List, [], ◌∷◌, ◌++◌, length, refl, sym, ap, arith, append_assoc, append-nil, length-append, ◌∙◌, ◌⊎◌, inl, inr, true}
use Rattle.tlv_core.specs.TagForm.{is_constructed}
use Rattle.tlv_core.specs.Object.{Object}
use Rattle.tlv_core.specs.Path.{LiesAt, IsFirstPlaced, NoneLiesAt, StandsAt}
use Rattle.tlv_core.specs.Place.{StartsWith, Reached, at_front, past_padding, past_object, into_template}
use Rattle.tlv_core.specs.StartLaws.{starts_at_object, starts_agree}
use Rattle.tlv_core.proofs.PlaceFacts.{object_is_long, padded_place, object_place, reached_inside}

-- Objects in padded bytes, and in bytes that start with an object.
stands_past_padding : (rest : List ℕ) (level place : ℕ) (path : List (List ℕ)) (o : Object)
    → LiesAt rest level path place o
    → LiesAt (0 ∷ rest) level path (1 + place) o
stands_past_padding rest level place path o h = record {
  left = h.left;
  above = h.above;
  rest = h.rest;
  reached = past_padding rest place refl refl h.reached;
  stands = h.stands;
  is_path = h.is_path;
}

stands_in_padded : (rest : List ℕ) (level place : ℕ) (path : List (List ℕ)) (o : Object)
    → LiesAt (0 ∷ rest) level path place o
    → (next : ℕ) × (place ≡ 1 + next) × LiesAt rest level path next o
stands_in_padded rest level place path o h =
    let (next, at, reached) = padded_place (0 ∷ rest) level place h.left o.level h.above h.reached
    rest refl
    (starts_at_object h.left o.tag o.size o.value h.rest h.stands) in (
      next,
      at,
      record {
        left = h.left;
        above = h.above;
        rest = h.rest;
        reached = reached;
        stands =
            h.stands;
        is_path = h.is_path;
      },
    )

stands_past_object : (bytes t s v r : List ℕ) (level place : ℕ) (path : List (List ℕ)) (o : Object)
    → StartsWith bytes t s v r
    → LiesAt r level path place o → LiesAt bytes level path (length (t ++ s ++ v) + place) o
stands_past_object bytes t s v r level place path o b h = record {
  left = h.left;
  above = h.above;
  rest = h.rest;
  reached = past_object t s v r place b refl h.reached;
  stands = h.stands;
  is_path = h.is_path;
}

stands_in_template : (bytes t s v r : List ℕ) (level place : ℕ) (path : List (List ℕ)) (o : Object)
    → StartsWith bytes t s v r
    → is_constructed t ≡ true → LiesAt v (suc level) path place o
    → LiesAt bytes level (t ∷ path) (length (t ++ s) + place) o
stands_in_template bytes t s v r level place path o b kind h = record {
  left = h.left;
  above = t ∷ h.above;
  rest = h.rest;
  reached = into_template t s v r place h.above b kind refl refl h.reached;
  stands = h.stands;
  is_path = ap (λ x. t ∷ x) h.is_path;
}

stands_in_front : (bytes t s v r : List ℕ) (level : ℕ) → StartsWith bytes t s v r
    → LiesAt bytes level (t ∷ []) 0 (record { tag = t; size = s; value = v; level = level })
stands_in_front bytes t s v r level b = record {
  left = bytes;
  above = [];
  rest = r;
  reached = at_front refl refl refl refl;
  stands = b;
  is_path = refl;
}

pub record StandsPast (head value rest : List ℕ) (level place : ℕ) (path : List (List ℕ))
    (o : Object) : Type 0 where
  pub next : ℕ
  pub at : place ≡ length (head ++ value) + next
  pub stands : LiesAt rest level path next o

pub record StandsWithin (tag head value : List ℕ) (level place : ℕ) (path : List (List ℕ))
    (o : Object) : Type 0 where
  pub inner : ℕ
  pub below : List (List ℕ)
  pub kind : is_constructed tag ≡ true
  pub at : place ≡ length head + inner
  pub through : path ≡ tag ∷ below
  pub stands : LiesAt value (suc level) below inner o

stands_in_object : (bytes t s v r : List ℕ) (level place : ℕ) (path : List (List ℕ)) (o : Object)
    → StartsWith bytes t s v r
    → LiesAt bytes level path place o
    → (path ≡ t ∷ []) ⊎ (StandsPast (t ++ s) v r level place path o
    ⊎ StandsWithin t (t ++ s) v level place path o)
stands_in_object bytes t s v r level place path o b h =
    elim (object_place bytes level place h.left o.level h.above h.reached t s v r b) [
      | inl front ↦
          let k : StartsWith bytes o.tag o.size o.value h.rest = rw (← front.whole) h.stands in
          let same = starts_agree bytes o.tag o.size o.value h.rest t s v r k b in
          inl (h.is_path ∙ ap (λ x. x ++ o.tag ∷ []) front.outside ∙ ap (λ x. x ∷ []) same.tag)
      | inr (inl past) ↦ inr (inl (record {
        next = past.next;
        at = past.at;
        stands = record {
          left = h.left;
          above = h.above;
          rest = h.rest;
          reached = past.reached;
          stands = h.stands;
          is_path = h.is_path;
        };
      }))
      | inr (inr within) ↦ inr (inr (record {
        inner = within.inner;
        below = within.below ++ o.tag ∷ [];
        kind = within.kind;
        at = within.at;
        through = h.is_path ∙ ap (λ x. x ++ o.tag ∷ []) within.through;
        stands = record {
          left = h.left;
          above = within.below;
          rest = h.rest;
          reached =
              within.reached;
          stands = h.stands;
          is_path = refl;
        };
      }))
    ]

-- An object lies before the end.
stands_inside : (bytes : List ℕ) (level place : ℕ) (path : List (List ℕ)) (o : Object)
    → LiesAt bytes level path place o → place < length bytes
stands_inside bytes level place path o h =
    omega (
      arith,
      reached_inside bytes level place h.left o.level h.above h.reached,
      object_is_long h.left (starts_at_object h.left o.tag o.size o.value h.rest h.stands),
    )

-- `rest` is a part of a list, `by` bytes from its front, and no object on the path precedes it.
pub record Seeks (bytes : List ℕ) (level : ℕ) (path : List (List ℕ)) (by : ℕ)
    (rest : List ℕ) : Type 0 where
  pub none : NoneLiesAt rest level path → NoneLiesAt bytes level path
  pub first : (place : ℕ) (o : Object) → IsFirstPlaced rest level path place o
      → IsFirstPlaced bytes level path (by + place) o

pub seeks_one_zero : (rest : List ℕ) (level : ℕ) (path : List (List ℕ))
    → Seeks (0 ∷ rest) level path 1 rest
seeks_one_zero rest level path = record {
  none = λ h place o g. let (next, at, k) = stands_in_padded rest level place path o g in
      h next o k;
  first = λ place o h. record {
    here = stands_past_padding rest level place path o h.here;
    none_before = λ p q g. let (next, at, k) = stands_in_padded rest level p path q g in
        omega (arith, h.none_before next q k);
  };
}

-- The object at the front is not the one wanted, and does not contain it: the reader skips it.
pub seeks_past_object : (at t s v r : List ℕ) (level : ℕ) (path : List (List ℕ))
    → StartsWith at t s v r → (path ≡ t ∷ [] → ⊥)
    → ((below : List (List ℕ)) → path ≡ t ∷ below → is_constructed t ≡ true
    → NoneLiesAt v (suc level) below)
    → Seeks at level path (length (t ++ s ++ v)) r
seeks_past_object at t s v r level path b here inside = record {
  none = λ h place o g. elim (stands_in_object at t s v r level place path o b g) [
    | inl is ↦ here is
    | inr (inl past) ↦ h past.next o past.stands
    | inr (inr within) ↦ inside within.below within.through within.kind within.inner o within.stands
  ];
  first = λ place o h. record {
    here = stands_past_object at t s v r level place path o b h.here;
    none_before = λ p q g. elim (stands_in_object at t s v r level p path q b g) [
      | inl is ↦ absurd (here is)
      | inr (inl past) ↦ omega (arith, past.at, h.none_before past.next q past.stands)
      | inr (inr within) ↦
          absurd (inside within.below within.through within.kind within.inner q within.stands)
    ];
  };
}

-- The object at the front is the one wanted.
pub found_here : (at t s v r : List ℕ) (level : ℕ) (path : List (List ℕ)) → StartsWith at t s v r
    → path ≡ t ∷ []
    → IsFirstPlaced at level path 0 (record { tag = t; size = s; value = v; level = level })
found_here at t s v r level path b e = record {
  here = rw e (stands_in_front at t s v r level b);
  none_before = λ p q g. omega arith;
}

-- The first object on the path inside the object at the front is the one wanted.
pub found_within : (at t s v r : List ℕ) (level : ℕ) (path below : List (List ℕ)) (place : ℕ)
    (o : Object) → StartsWith at t s v r
    → is_constructed t ≡ true → path ≡ t ∷ below → below ≢ []
    → IsFirstPlaced v (suc level) below place o
    → IsFirstPlaced at level path (length (t ++ s) + place) o
found_within at t s v r level path below place o b kind e more h = record {
  here = rw e (stands_in_template at t s v r level place below o b kind h.here);
  none_before = λ p q g. elim (stands_in_object at t s v r level p path q b g) [
    | inl is ↦ absurd (more (let f : t ∷ below ≡ t ∷ [] = sym e ∙ is in cc))
    | inr (inl past) ↦
        omega (
          arith,
          past.at,
          length-append (t ++ s) v,
          stands_inside v
              (suc level) place below o h.here,
        )
    | inr (inr within) ↦
        let same : within.below ≡ below =
        (let f : t ∷ within.below ≡ t ∷ below = sym within.through ∙ e in cc) in
        let k : LiesAt v (suc level) below within.inner q = rw (← same) within.stands in
        omega (arith, within.at, h.none_before within.inner q k)
  ];
}

-- An empty list contains nothing.
pub none_in_nil : (level : ℕ) (path : List (List ℕ)) → NoneLiesAt [] level path
none_in_nil level path place o h = omega (arith, stands_inside [] level place path o h)

-- The bytes of an object are at its place.
reached_stands : (bytes : List ℕ) (level place : ℕ) (left : List ℕ) (depth : ℕ)
    (path : List (List ℕ))
    → Reached bytes level place left depth path → (before after : List ℕ) × (place ≡ length before)
    × (bytes ≡ before ++ left ++ after)
reached_stands bytes level place left depth path (at_front p l d t) =
    ([], [], p, sym (append-nil left ∙ l))
reached_stands bytes level place left depth path (past_padding rest next b p r) =
    let (before, after, at, e) = reached_stands rest level next left depth path r in
    (0 ∷ before, after, omega (arith, p, at), b ∙ ap (λ x. 0 ∷ x) e)
reached_stands bytes level place left depth path (past_object t s v rest next h p r) =
    let (before, after, at, e) = reached_stands rest level next left depth path r in (
      t ++ s ++ v ++ before,
      after,
      omega (arith, p, at, length-append (t ++ s ++ v) before),
      h.spelled ∙ ap (λ x. t ++ s ++ v ++ x) e ∙ simp append_assoc,
    )
reached_stands bytes level place left depth path
    (into_template t s v rest inner below h kind p q r) =
    let (before, after, at, e) = reached_stands v (suc level) inner left depth below r in (
      t ++ s ++ before,
      after ++ rest,
      omega (arith, p, at, length-append (t ++ s) before),
      h.spelled
          ∙ ap (λ x. t ++ s ++ x ++ rest) e ∙ simp append_assoc,
    )

pub lies_stands : (bytes : List ℕ) (level place : ℕ) (path : List (List ℕ)) (o : Object)
    → LiesAt bytes level path place o → StandsAt bytes place o
lies_stands bytes level place path o h =
    let (before, after, at, e) = reached_stands bytes level place h.left o.level h.above
    h.reached in (
      before,
      h.rest ++ after,
      at,
      e ∙ ap (λ x. before ++ x ++ after) h.stands.spelled
          ∙ simp append_assoc,
    )
