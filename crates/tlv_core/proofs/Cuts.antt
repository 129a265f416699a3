-- The bytes between two places.
use Rattle.std.proofs.Common.{◌≡◌, ◌≢◌, ℕ, ◌+◌, ◌-◌, ◌<◌, ◌≤◌, List, [], ◌∷◌, ◌++◌, length, get_or, take, drop, refl, sym, ap, arith, append_assoc, ◌∙◌, ◌==◌, ◌/◌, ◌%◌}
use Rattle.std.proofs.lemmas.List.{take_at, drop_at, drop-take, drop-drop, take-take, get_or-take, get_or-drop, length-take-le, length-drop, nil_from_length}
use Rattle.std.proofs.Math.Seq.{drop-cons}
use Rattle.tlv_core.specs.TagForm.{IsTag, is_constructed}
use Rattle.tlv_core.specs.Place.{StartsWith}
use Rattle.tlv_core.specs.FirstFault.{IsAtObject}

abbrev pub cut : List ℕ → ℕ → ℕ → List ℕ
cut bytes place end = take (end - place) (drop place bytes)

pub cut_length : (bytes : List ℕ) (place end : ℕ) → place ≤ end → end ≤ length bytes
    → length (cut bytes place end) ≡ end - place
cut_length bytes place end h k = length-take-le (end - place) (drop place bytes)
    (omega (arith, length-drop place bytes))

pub cut_empty : (bytes : List ℕ) (place end : ℕ) → place ≡ end → end ≤ length bytes
    → cut bytes place end ≡ []
cut_empty bytes place end h k = nil_from_length (cut bytes place end)
    (omega (arith, cut_length bytes place end (omega arith) k))

pub cut_past : (bytes : List ℕ) (place end n next : ℕ) → next ≡ place + n → next ≤ end
    → cut bytes next end ≡ drop n (cut bytes place end)
cut_past bytes place end n next e h =
    let size : end - place ≡ n + (end - next) = omega arith in
    let same : drop next bytes ≡ drop n (drop place bytes) = ap (λ x. drop x bytes) e
    ∙ sym (drop-drop n place bytes) in
    ap (take (end - next)) same ∙ sym (drop-take n (end - next) (drop place bytes))
    ∙ ap (λ x. drop n (take x (drop place bytes))) (sym size)

pub cut_front : (bytes : List ℕ) (place middle end : ℕ) → middle ≤ end → cut bytes place middle
    ≡ take (middle - place) (cut bytes place end)
cut_front bytes place middle end h =
    sym (take-take (middle - place) (end - place) (drop place bytes) (omega arith))

first_is : (bytes : List ℕ) (place end : ℕ) → place < end → get_or (cut bytes place end) 0 0
    ≡ get_or bytes place 0
first_is bytes place end h =
    let same : place + 0 ≡ place = omega arith in
    get_or-take (end - place) (drop place bytes) 0 0 (omega arith) ∙ get_or-drop place bytes 0 0
    ∙ ap (λ x. get_or bytes x 0) same

-- How the byte at the place determines the bytes from there to the end.
pub padding_first : (bytes : List ℕ) (place end : ℕ) → place < end → end ≤ length bytes
    → get_or bytes place 0 ≡ 0
    → cut bytes place end ≡ 0 ∷ cut bytes (place + 1) end
padding_first bytes place end h k e =
    let past = cut_past bytes place end 1 (place + 1) refl (omega arith) in
    let whole = drop-cons (cut bytes place end) 0 0
    (omega (arith, cut_length bytes place end (omega arith) k)) in
    let zero_first = first_is bytes place end h ∙ e in
    whole ∙ ap (λ x. x ∷ drop 1 (cut bytes place end)) zero_first ∙ ap (λ x. 0 ∷ x) (sym past)

at_object : (left : List ℕ) → 0 < length left → get_or left 0 0 ≢ 0 → IsAtObject left
at_object [] some h = absurd (omega arith)
at_object (a ∷ left) some h = h

pub object_first : (bytes : List ℕ) (place end : ℕ) → place < end → end ≤ length bytes
    → get_or bytes place 0 ≢ 0 → IsAtObject (cut bytes place end)
object_first bytes place end h k object =
    at_object (cut bytes place end) (omega (arith, cut_length bytes place end (omega arith) k))
    (λ e. object (sym (first_is bytes place end h) ∙ e))

front_kind : (left t x : List ℕ) → left ≡ t ++ x → IsTag t → is_constructed t
    ≡ is_constructed (get_or left 0 0 ∷ [])
front_kind left [] x e h = absurd h
front_kind [] (a ∷ t) x e h = absurd cc
front_kind (b ∷ left) (a ∷ t) x e h = let same : a ≡ b = cc in ap (λ y. y / 32 % 2 == 1) same

pub kind_first : (bytes t s v r : List ℕ) (place end : ℕ) → place < end
    → StartsWith (cut bytes place end) t s v r
    → is_constructed t ≡ is_constructed (get_or bytes place 0 ∷ [])
kind_first bytes t s v r place end h starts =
    front_kind (cut bytes place end) t (s ++ (v ++ r)) (starts.spelled ∙ simp append_assoc)
    starts.is_tag
    ∙ ap (λ x. is_constructed (x ∷ [])) (first_is bytes place end h)

-- The bytes after an object that starts there, and the bytes of its value.
pub cut_rest : (bytes t s v r : List ℕ) (place end next : ℕ)
    → StartsWith (cut bytes place end) t s v r → next ≡ place + length (t ++ s ++ v)
    → next ≤ end → cut bytes next end ≡ r
cut_rest bytes t s v r place end next h e low =
    cut_past bytes place end (length (t ++ s ++ v)) next e low
    ∙ ap (drop (length (t ++ s ++ v))) h.spelled
    ∙ drop_at (t ++ s ++ v) r (length (t ++ s ++ v)) refl

pub cut_value : (bytes t s v r : List ℕ) (place end start next : ℕ)
    → StartsWith (cut bytes place end) t s v r → start ≡ place + length (t ++ s)
    → next ≡ start + length v → next ≤ end → cut bytes start next ≡ v
cut_value bytes t s v r place end start next h e f low =
    let size : next - start ≡ length v = omega arith in
    let split : drop (length (t ++ s)) (cut bytes place end) ≡ v ++ r =
    ap (drop (length (t ++ s))) (h.spelled ∙ append_assoc (t ++ s) v r)
    ∙ drop_at (t ++ s) (v ++ r) (length (t ++ s)) refl in
    cut_front bytes start next end low ∙ ap (take (next - start))
    (cut_past bytes place end (length (t ++ s)) start e (omega arith) ∙ split)
    ∙ take_at v r (next - start) (sym size)
