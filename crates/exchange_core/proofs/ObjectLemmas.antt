-- Bytes are one object in at most one way.
use Rattle.std.proofs.Common.{◌≡◌, ℕ, ◌+◌, ◌*◌, ◌%◌, List, [], ◌∷◌, ◌++◌, length, sym, ◌∙◌, ap, arith, append_assoc, length-append}
use Rattle.std.proofs.lemmas.List.Elements.{All-head}
use Rattle.tlv_core.specs.TagForm.{IsTag}
use Rattle.tlv_core.specs.Length.{SpellsLength}
use Rattle.tlv_core.specs.Spelling.{Begins}
use Rattle.tlv_core.specs.Object.{Object}
use Rattle.exchange_core.specs.OneObject.{IsOneObject}

-- no tag is a prefix of another
tag_same : (t u x y : List ℕ) → IsTag t → IsTag u → t ++ x ≡ u ++ y → (t ≡ u) × (x ≡ y)
tag_same [] u x y one two e = absurd one
tag_same (a ∷ b ∷ c ∷ d ∷ t) u x y one two e = absurd one
tag_same (a ∷ []) [] x y one two e = absurd two
tag_same (a ∷ []) (f ∷ []) x y one two e = (cc, cc)
tag_same (a ∷ []) (f ∷ g ∷ []) x y one two e = let same : a ≡ f = cc in
    absurd (one.2 (ap (λ n. n % 32) same ∙ two.1))
tag_same (a ∷ []) (f ∷ g ∷ h ∷ []) x y one two e = let same : a ≡ f = cc in
    absurd (one.2 (ap (λ n. n % 32) same ∙ two.1))
tag_same (a ∷ []) (f ∷ g ∷ h ∷ i ∷ u) x y one two e = absurd two
tag_same (a ∷ b ∷ []) [] x y one two e = absurd two
tag_same (a ∷ b ∷ []) (f ∷ []) x y one two e = let same : f ≡ a = cc in
    absurd (two.2 (ap (λ n. n % 32) same ∙ one.1))
tag_same (a ∷ b ∷ []) (f ∷ g ∷ []) x y one two e = (cc, cc)
tag_same (a ∷ b ∷ []) (f ∷ g ∷ h ∷ []) x y one two e = let same : b ≡ g = cc in
    absurd (omega (arith, same, one.3, two.2))
tag_same (a ∷ b ∷ []) (f ∷ g ∷ h ∷ i ∷ u) x y one two e = absurd two
tag_same (a ∷ b ∷ c ∷ []) [] x y one two e = absurd two
tag_same (a ∷ b ∷ c ∷ []) (f ∷ []) x y one two e = let same : f ≡ a = cc in
    absurd (two.2 (ap (λ n. n % 32) same ∙ one.1))
tag_same (a ∷ b ∷ c ∷ []) (f ∷ g ∷ []) x y one two e = let same : b ≡ g = cc in
    absurd (omega (arith, same, one.2, two.3))
tag_same (a ∷ b ∷ c ∷ []) (f ∷ g ∷ h ∷ []) x y one two e = (cc, cc)
tag_same (a ∷ b ∷ c ∷ []) (f ∷ g ∷ h ∷ i ∷ u) x y one two e = absurd two

-- nor is a spelling of a length a prefix of another, and it spells one length
size_same : (s t x y : List ℕ) (n m : ℕ) → SpellsLength s n → SpellsLength t m → s ++ x ≡ t ++ y
    → (s ≡ t) × (n ≡ m)
size_same [] t x y n m one two e = absurd one
size_same (a ∷ b ∷ c ∷ d ∷ s) t x y n m one two e = absurd one
size_same (a ∷ []) [] x y n m one two e = absurd two
size_same (a ∷ []) (f ∷ []) x y n m one two e = let same : a ≡ f = cc in
    (cc, one.1 ∙ same ∙ sym two.1)
size_same (a ∷ []) (f ∷ g ∷ []) x y n m one two e = let same : a ≡ f = cc in
    absurd (omega (arith, same, one.0, two.0))
size_same (a ∷ []) (f ∷ g ∷ h ∷ []) x y n m one two e = let same : a ≡ f = cc in
    absurd (omega (arith, same, one.0, two.0))
size_same (a ∷ []) (f ∷ g ∷ h ∷ i ∷ t) x y n m one two e = absurd two
size_same (a ∷ b ∷ []) [] x y n m one two e = absurd two
size_same (a ∷ b ∷ []) (f ∷ []) x y n m one two e = let same : a ≡ f = cc in
    absurd (omega (arith, same, one.0, two.0))
size_same (a ∷ b ∷ []) (f ∷ g ∷ []) x y n m one two e = let same : b ≡ g = cc in
    (cc, one.2 ∙ same ∙ sym two.2)
size_same (a ∷ b ∷ []) (f ∷ g ∷ h ∷ []) x y n m one two e = let same : a ≡ f = cc in
    absurd (omega (arith, same, one.0, two.0))
size_same (a ∷ b ∷ []) (f ∷ g ∷ h ∷ i ∷ t) x y n m one two e = absurd two
size_same (a ∷ b ∷ c ∷ []) [] x y n m one two e = absurd two
size_same (a ∷ b ∷ c ∷ []) (f ∷ []) x y n m one two e = let same : a ≡ f = cc in
    absurd (omega (arith, same, one.0, two.0))
size_same (a ∷ b ∷ c ∷ []) (f ∷ g ∷ []) x y n m one two e = let same : a ≡ f = cc in
    absurd (omega (arith, same, one.0, two.0))
size_same (a ∷ b ∷ c ∷ []) (f ∷ g ∷ h ∷ []) x y n m one two e =
    let second : b ≡ g = cc in let third : c ≡ h = cc in
    (cc, one.3 ∙ ap (λ k. 256 * k + c) second ∙ ap (λ k. 256 * g + k) third ∙ sym two.3)
size_same (a ∷ b ∷ c ∷ []) (f ∷ g ∷ h ∷ i ∷ t) x y n m one two e = absurd two

-- the first byte of a tag is not padding
tag_is_no_padding : (t x : List ℕ) (p : ℕ) (ps : List ℕ) → IsTag t → t ++ x ≡ p ∷ ps → p ≡ 0 → ⊥
tag_is_no_padding [] x p ps is e zero_is = is
tag_is_no_padding (a ∷ []) x p ps is e zero_is = let same : a ≡ p = cc in
    omega (arith, same, zero_is, is.0)
tag_is_no_padding (a ∷ b ∷ []) x p ps is e zero_is = let same : a ≡ p = cc in let none : a ≡ 0 =
    same ∙ zero_is in let bits : a % 32 ≡ 0 = ap (λ n. n % 32) none in omega (arith, bits, is.1)
tag_is_no_padding (a ∷ b ∷ c ∷ []) x p ps is e zero_is = let same : a ≡ p = cc in
    let none : a ≡ 0 = same ∙ zero_is in let bits : a % 32 ≡ 0 = ap (λ n. n % 32) none in
    omega (arith, bits, is.1)
tag_is_no_padding (a ∷ b ∷ c ∷ d ∷ t) x p ps is e zero_is = is

grouped : (a b c d : List ℕ) → a ++ b ++ c ++ d ≡ a ++ (b ++ (c ++ d))
grouped a b c d = append_assoc (a ++ b) c d ∙ append_assoc a b (c ++ d)

tag_first : (bytes : List ℕ) (o : Object) → IsOneObject bytes o
    → bytes ≡ o.tag ++ (o.size ++ o.value)
tag_first bytes o one = one.whole ∙ append_assoc o.tag o.size o.value

-- the first object of a list that is one object has all its bytes
pub first_is_all : (bytes padding tag size value rest : List ℕ) (level : ℕ) (o : Object)
    → Begins bytes padding tag size value rest level → IsOneObject bytes o
    → length (tag ++ size ++ value) ≡ length bytes
first_is_all bytes [] tag size value rest level o begins one =
    let spelled : o.tag ++ (o.size ++ o.value) ≡ tag ++ (size ++ (value ++ rest)) =
    sym (tag_first bytes o one) ∙ begins.spelled ∙ grouped tag size value rest in
    let tags = tag_same o.tag tag (o.size ++ o.value)
    (size ++ (value ++ rest)) one.is_tag begins.is_tag spelled in
    let sizes = size_same o.size size o.value (value ++ rest) (length o.value)
    (length value) one.is_size begins.is_size tags.1 in
    length-append (tag ++ size) value ∙ ap (λ n. n + length value) (length-append tag size)
    ∙ ap (λ n. length tag + length size + n) (sym sizes.1)
    ∙ ap (λ t. length t + length size + length o.value) (sym tags.0)
    ∙ ap (λ s. length o.tag + length s + length o.value) (sym sizes.0)
    ∙ ap (λ n. n + length o.value) (sym (length-append o.tag o.size))
    ∙ sym (length-append (o.tag ++ o.size) o.value) ∙ ap length (sym one.whole)
first_is_all bytes (p ∷ padding) tag size value rest level o begins one =
    absurd (tag_is_no_padding o.tag (o.size ++ o.value) p _ one.is_tag
    (sym (tag_first bytes o one) ∙ begins.spelled)
    (All-head (λ x. x ≡ 0) p padding begins.is_padding))
