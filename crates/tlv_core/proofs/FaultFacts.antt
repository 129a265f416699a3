-- Facts about the first fault of bytes.
use Rattle.std.proofs.Common.{◌≡◌, ℕ, zero, suc, ◌+◌, ◌≤◌, List, [], ◌∷◌, ◌++◌, length, refl, sym, arith, length-append, ◌∙◌, ◌⊎◌, inl, inr, true, false}
use Rattle.std.proofs.lemmas.Bool.{cases_eq, cases_Bool}
use Rattle.tlv_core.specs.TagForm.{is_constructed}
use Rattle.tlv_core.specs.Spelling.{Forest, Empty, Primitive, Template, Spells, deepest}
use Rattle.tlv_core.specs.Place.{StartsWith, past_padding, past_object, into_template}
use Rattle.tlv_core.specs.FirstFault.{FailsFor, IsFault, IsFirstFault}
use Rattle.tlv_core.specs.declared.fault.Reason.{Reason}
use Rattle.tlv_core.specs.StartLaws.{starts_fails_not}
use Rattle.tlv_core.proofs.StartFacts.{front_answer}
use Rattle.tlv_core.proofs.SpellingFacts.{spells_more, spells_primitive, spells_template, All_nil}
use Rattle.tlv_core.specs.PlaceLaws.{spelled_has_no_fault}
use Rattle.tlv_core.proofs.PlaceFacts.{starts_length, object_is_some, fault_inside, padded_place, object_place}
use Rattle.tlv_core.specs.FaultLaws.{first_here}

-- Faults of padded bytes, and of bytes that start with an object.
fault_past_padding : (rest : List ℕ) (level place : ℕ) (reason : Reason)
    → IsFault rest level place reason
    → IsFault (0 ∷ rest) level (1 + place) reason
fault_past_padding rest level place reason f = record {
  left = f.left;
  depth = f.depth;
  path = f.path;
  reached = past_padding rest place refl refl f.reached;
  at_object = f.at_object;
  fails = f.fails;
}

fault_in_padded : (rest : List ℕ) (level place : ℕ) (reason : Reason)
    → IsFault (0 ∷ rest) level place reason
    → (next : ℕ) × (place ≡ 1 + next) × IsFault rest level next reason
fault_in_padded rest level place reason f =
    let (next, at, reached) =
    padded_place (0 ∷ rest) level place f.left f.depth f.path f.reached rest refl f.at_object in (
      next,
      at,
      record {
        left = f.left;
        depth = f.depth;
        path = f.path;
        reached = reached;
        at_object = f.at_object;
        fails = f.fails;
      },
    )

fault_past_object : (bytes t s v r : List ℕ) (level place : ℕ) (reason : Reason)
    → StartsWith bytes t s v r → IsFault r level place reason
    → IsFault bytes level (length (t ++ s ++ v) + place) reason
fault_past_object bytes t s v r level place reason h f = record {
  left = f.left;
  depth = f.depth;
  path = f.path;
  reached = past_object t s v r place h refl f.reached;
  at_object = f.at_object;
  fails = f.fails;
}

fault_in_template : (bytes t s v r : List ℕ) (level place : ℕ) (reason : Reason)
    → StartsWith bytes t s v r → is_constructed t ≡ true
    → IsFault v (suc level) place reason → IsFault bytes level (length (t ++ s) + place) reason
fault_in_template bytes t s v r level place reason h kind f = record {
  left = f.left;
  depth = f.depth;
  path = t ∷ f.path;
  reached = into_template t s v r place f.path h kind refl refl f.reached;
  at_object = f.at_object;
  fails = f.fails;
}

fault_in_object : (bytes t s v r : List ℕ) (level place : ℕ) (reason : Reason)
    → StartsWith bytes t s v r → level ≤ deepest
    → IsFault bytes level place reason
    → ((next : ℕ) × (place ≡ length (t ++ s ++ v) + next) × IsFault r level next reason)
    ⊎ ((inner : ℕ) × (place ≡ length (t ++ s) + inner) × (is_constructed t ≡ true)
    × IsFault v (suc level) inner reason)
fault_in_object bytes t s v r level place reason h low f =
    elim (object_place bytes level place f.left f.depth f.path f.reached t s v r h) [
      | inl front ↦
          let fails : FailsFor bytes level reason = rw (← front.whole, ← front.same) f.fails in
          absurd (starts_fails_not bytes t s v r level reason h low fails)
      | inr (inl past) ↦ inl (
        past.next,
        past.at,
        record {
          left = f.left;
          depth = f.depth;
          path = f.path;
          reached = past.reached;
          at_object = f.at_object;
          fails = f.fails;
        },
      )
      | inr (inr within) ↦ inr (
        within.inner,
        within.at,
        within.kind,
        record {
          left = f.left;
          depth = f.depth;
          path = within.below;
          reached = within.reached;
          at_object = f.at_object;
          fails = f.fails;
        },
      )
    ]

pub first_past_padding : (rest : List ℕ) (level place : ℕ) (reason : Reason)
    → IsFirstFault rest level place reason
    → IsFirstFault (0 ∷ rest) level (1 + place) reason
first_past_padding rest level place reason first = record {
  here = fault_past_padding rest level place reason first.here;
  none_before = λ p r f. let (next, at, g) = fault_in_padded rest level p r f in
      omega (arith, first.none_before next r g);
}

pub first_past_object : (bytes t s v r : List ℕ) (level place : ℕ) (reason : Reason)
    → StartsWith bytes t s v r → level ≤ deepest
    → (is_constructed t ≡ true → (forest : Forest) × Spells forest v (suc level))
    → IsFirstFault r level place reason
    → IsFirstFault bytes level (length (t ++ s ++ v) + place) reason
first_past_object bytes t s v r level place reason h low inside first = record {
  here = fault_past_object bytes t s v r level place reason h first.here;
  none_before = λ p q f. elim (fault_in_object bytes t s v r level p q h low f) [
    | inl (next, at, g) ↦ omega (arith, first.none_before next q g)
    | inr (inner, at, kind, g) ↦ absurd (spelled_has_no_fault v (suc level) inner q (inside kind) g)
  ];
}

pub first_in_template : (bytes t s v r : List ℕ) (level place : ℕ) (reason : Reason)
    → StartsWith bytes t s v r → level ≤ deepest
    → is_constructed t ≡ true → IsFirstFault v (suc level) place reason
    → IsFirstFault bytes level (length (t ++ s) + place) reason
first_in_template bytes t s v r level place reason h low kind first = record {
  here = fault_in_template bytes t s v r level place reason h kind first.here;
  none_before = λ p q f. elim (fault_in_object bytes t s v r level p q h low f) [
    | inl (next, at, g) ↦
        omega (arith, length-append (t ++ s) v, fault_inside v (suc level) place reason first.here)
    | inr (inner, at, same, g) ↦ omega (arith, first.none_before inner q g)
  ];
}

-- Every list is spelled by a forest or has a first fault.
pub Judged : List ℕ → ℕ → Type 0
Judged bytes level = ((forest : Forest) × Spells forest bytes level)
    ⊎ ((place : ℕ) × (reason : Reason) × IsFirstFault bytes level place reason)

judge_padded : (rest : List ℕ) (level : ℕ) → Judged rest level → Judged (0 ∷ rest) level
unfolding Judged
judge_padded rest level j = elim j [
  | inl (forest, h) ↦ inl (forest, spells_more forest rest level h)
  | inr (place, reason, first) ↦
      inr (1 + place, reason, first_past_padding rest level place reason first)
]

judge_primitive : (bytes t s v r : List ℕ) (level : ℕ) → StartsWith bytes t s v r → level ≤ deepest
    → is_constructed t ≡ false
    → Judged r level → Judged bytes level
unfolding Judged
judge_primitive bytes t s v r level h low kind j = elim j [
  | inl (forest, g) ↦ inl
      (Primitive t v forest, spells_primitive bytes t s v r level forest h low kind g)
  | inr (place, reason, first) ↦ inr (
    length (t ++ s ++ v) + place,
    reason,
    first_past_object bytes t s v r level place reason h low
        (λ is. absurd (let clash : true ≡ false = sym is ∙ kind in cc)) first,
  )
]

judge_template : (bytes t s v r : List ℕ) (level : ℕ) → StartsWith bytes t s v r → level ≤ deepest
    → is_constructed t ≡ true
    → Judged v (suc level) → Judged r level → Judged bytes level
unfolding Judged
judge_template bytes t s v r level h low kind inside j = elim inside [
  | inr (place, reason, first) ↦
      inr (
        length (t ++ s) + place,
        reason,
        first_in_template bytes t s v r level place reason h low
            kind first,
      )
  | inl (children, g) ↦ elim j [
    | inl (forest, k) ↦ inl (
      Template t children forest,
      spells_template bytes t s v r level children forest h low kind
          g k,
    )
    | inr (place, reason, first) ↦ inr (
      length (t ++ s ++ v) + place,
      reason,
      first_past_object bytes t s v r level place reason h low (λ is. (children, g)) first,
    )
  ]
]

judge_up_to : (n : ℕ) (bytes : List ℕ) (level : ℕ) → length bytes ≤ n → Judged bytes level
unfolding Judged
judge_up_to n [] level short = inl (Empty, All_nil)
judge_up_to zero (a ∷ bytes) level short = absurd (omega arith)
judge_up_to (suc n) (a ∷ bytes) level short = elim (cases_eq a 0) [
  | inl padding ↦ rw padding (judge_padded bytes level (judge_up_to n bytes level (omega arith)))
  | inr object ↦ elim (front_answer (a ∷ bytes) level) [
    | inr (reason, fails) ↦ inr (0, reason, first_here (a ∷ bytes) level reason object fails)
    | inl o ↦
        let shorter = starts_length (a ∷ bytes) o.tag o.size o.value o.rest o.starts in
        let some = object_is_some (a ∷ bytes) o.tag o.size o.value o.rest o.starts in
        let after = judge_up_to n o.rest level (omega arith) in
        elim (cases_Bool (is_constructed o.tag)) [
          | inl kind ↦ judge_template (a ∷ bytes) o.tag o.size o.value o.rest level o.starts
              o.in_depth kind
              (judge_up_to n o.value (suc level) (omega arith)) after
          | inr kind ↦ judge_primitive (a ∷ bytes) o.tag o.size o.value o.rest level o.starts
              o.in_depth kind after
        ]
  ]
]

pub judged : (bytes : List ℕ) (level : ℕ)
    → ((forest : Forest) × Spells forest bytes level)
    ⊎ ((place : ℕ) × (reason : Reason) × IsFirstFault bytes level place reason)
unfolding Judged
judged bytes level = judge_up_to (length bytes) bytes level (omega arith)
