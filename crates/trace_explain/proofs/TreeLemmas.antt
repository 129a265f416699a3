-- The objects of a list, one after another.
use Rattle.std.proofs.Common.{All, ◌≡◌, ◌<◌, ◌+◌, ℕ, suc, List, [], ◌∷◌, ◌++◌, ◌∙◌, codes, length, take, drop, ap, append-nil, append_assoc, Bool, true, false, refl, subst, sym, arith}
use Rattle.std.specs.List.{Contains}
use Rattle.tlv_core.specs.Object.{ObjectList}
use Rattle.tlv_core.specs.Spelling.{Begins}
use Rattle.tlv_core.specs.TagForm.{is_constructed}
use Rattle.trace_explain.specs.declared.write.sheet.Sheet.{Sheet}
use Rattle.trace_explain.specs.Sheets.{Adds, PutsLines, PutsText}
use Rattle.trace_explain.specs.Trees.{AreTree, AreWords, IsLong, IsRemark, IsValue, IsWords, PutsAny, has_text, indent, list_end, listed, masked, masked_end, no_object, object_begin, primitive, primitive_end, remark, template, template_end, value_width}
use Rattle.trace_explain.specs.Written.{AreLines, are_printable, content, is_text, lines_text}
use Rattle.trace_explain.proofs.SheetLemmas.{adds_both, adds_nothing}

-- a value with words in its first line, and others below
pub whole_value : {t : Bool} {w n : ℕ} (level : ℕ) (value : List ℕ) {line rest : List ℕ}
    {a b c r d : Sheet} → 0 < length value → t ≡ is_text value → w ≡ value_width t
    → n ≡ indent level + 5 → line ≡ take w value → rest ≡ drop w value → Adds a (codes " ") b
    → Adds b (content t line) c → PutsText (AreWords false) c r
    → PutsLines (AreLines n w t rest) r d → PutsText (IsValue false level value) a d
whole_value level [] some t_is w_is n_is line_is rest_is h k m l = absurd (omega (arith, some))
whole_value {t} {w} {n} level (x ∷ bytes) {b = b} {c = c} some t_is w_is n_is line_is rest_is h k
    (words, are, m) (below, lines, l) =
    let value : List ℕ = x ∷ bytes in
    let text : List ℕ = codes " " ++ content t (take w value) ++ words ++ lines_text below in
    let C : List ℕ → Type 0 = λ y. Adds b (content t y) c in
    let L : List ℕ → Type 0 = λ y. AreLines n w t y below in
    let N : ℕ → Type 0 = λ y. IsLong y w t value text in
    let W : ℕ → Type 0 = λ y. IsLong (indent level + 5) y t value text in
    let T : Bool → Type 0 = λ y. IsLong (indent level + 5) (value_width y) y value text in (
      text,
      subst T t_is (subst W w_is (subst N n_is (words, are, below, subst L rest_is lines, refl))),
      adds_both (adds_both (adds_both h (subst C line_is k)) m) l,
    )

pub no_value : (level : ℕ) (value : List ℕ) {a b c : Sheet} → length value ≡ 0
    → Adds a (codes " -") b → PutsText (AreWords false) b c
    → PutsText (IsValue false level value) a c
no_value level [] none h (words, are, m) =
    (codes " -" ++ words, (words, are, refl), adds_both h m)
no_value level (x ∷ value) none h m = absurd (omega (arith, none))

-- a value in JSON
pub json_value : (level : ℕ) {value given : List ℕ} {a b c : Sheet} → given ≡ value
    → PutsText (AreWords true) a b → Adds b (primitive_end given) c
    → PutsText (IsValue true level value) a c
json_value level {value} {b = b} {c} given_is (words, are, m) more =
    let V : List ℕ → Type 0 = λ v. Adds b (primitive_end v) c in
    (words ++ primitive_end value, (words, are, refl), adds_both m (subst V given_is more))

-- words after two spaces
pub some_remark : (says : List ℕ) {a b c : Sheet} → 0 < length says → are_printable says ≡ true
    → Adds a (codes "  ") b → Adds b says c → PutsText IsRemark a c
some_remark [] some plain h k = absurd (omega (arith, some))
some_remark (x ∷ says) some plain h k =
    (remark (x ∷ says), (x ∷ says, plain, refl), adds_both h k)

pub no_remark : {a : Sheet} → PutsText IsRemark a a
no_remark = ([], ([], refl, refl), adds_nothing)

-- a name, and then a value in words
pub both_words : {a b c : Sheet} → PutsText (IsWords (codes ",\"name\":\"")) a b
    → PutsText (IsWords (codes ",\"words\":\"")) b c → PutsText (AreWords true) a c
both_words (name, is_name, first) (value, is_value, second) =
    (name ++ value, (name, value, is_name, is_value, refl), adds_both first second)

-- a text with more before, or behind
has_before : (text more : List ℕ) → has_text more ≡ true → has_text (text ++ more) ≡ true
has_before [] more has = has
has_before (x ∷ text) more has = refl

has_begun : (j some : Bool) (level : ℕ) (tag end : List ℕ)
    → has_text (object_begin j some level tag ++ end) ≡ true
has_begun true true level tag end = refl
has_begun true false level tag end = refl
has_begun false some level tag end = refl

-- A list has been gone through as far as `now`, and the objects so far were added.
pub record Going (j : Bool) (tags : List (List ℕ)) (all now : ObjectList) (old new : Sheet)
    (some : Bool) : Type 0 where
  pub text : List ℕ
  pub leads : (more : List ℕ) → AreTree j tags now.bytes now.level some more
      → AreTree j tags all.bytes all.level false (text ++ more)
  pub adds : Adds old text new
  pub has : some ≡ has_text text
  pub same_level : now.level ≡ all.level

has_end : (j some : Bool) (text : List ℕ) → some ≡ has_text text
    → some ≡ has_text (text ++ list_end j some)
has_end true true text has = sym (has_before text (codes "]") refl)
has_end true false [] has = refl
has_end true false (x ∷ text) has = has
has_end false some [] has = has
has_end false some (x ∷ text) has = has

-- all objects, and the end of the list
pub all_objects : {j : Bool} {tags : List (List ℕ)} {all now : ObjectList} {old new last : Sheet}
    {some : Bool} {end : List ℕ} → Going j tags all now old new some
    → All (λ b. b ≡ 0) now.bytes → end ≡ list_end j some → Adds new end last
    → PutsAny (AreTree j tags all.bytes all.level false) some old last
all_objects {j} {new = new} {last} {some} g none end_is ended =
    let E : List ℕ → Type 0 = λ e. Adds new e last in (
      g.text ++ list_end j some,
      g.leads _ (no_object none refl),
      has_end j some g.text g.has,
      adds_both g.adds (subst E end_is ended),
    )

-- one more object, with this rest after its tag
past_object : {j : Bool} {tags : List (List ℕ)} {all now next : ObjectList}
    {old new put after : Sheet} {some : Bool} {told tag end : List ℕ} {level : ℕ}
    → Going j tags all now old new some → next.level ≡ now.level → told ≡ tag
    → level ≡ now.level
    → ((others : List ℕ) → AreTree j tags next.bytes now.level true others
    → AreTree j tags now.bytes now.level some (listed j some now.level tag end others))
    → Adds new (object_begin j some level told) put → Adds put end after
    → Going j tags all next old after true
past_object {j} {tags} {all} {now} {next} {new = new} {put} {some = some} {told} {tag} {end} g
    next_is tag_is level_is step begun more =
    let T : List ℕ → Type 0 = λ t. Adds new (object_begin j some now.level t) put in
    let L : ℕ → Type 0 = λ l. Adds new (object_begin j some l told) put in
    let own : List ℕ = object_begin j some now.level tag ++ end in
    record {
      text = g.text ++ own;
      leads = λ others are.
          let Q : ℕ → Type 0 = λ l. AreTree j tags next.bytes l true others in
          let R : List ℕ → Type 0 = λ x. AreTree j tags all.bytes all.level false x in
          subst R (sym (append_assoc g.text own others))
          (g.leads (own ++ others) (step others (subst Q next_is are)));
      adds = adds_both g.adds (adds_both (subst T tag_is (subst L level_is begun)) more);
      has = sym (has_before g.text own (has_begun j some now.level tag end));
      same_level = next_is ∙ g.same_level;
    }

pub past_masked : {j : Bool} {tags : List (List ℕ)} {all now next : ObjectList}
    {old new put after : Sheet} {some : Bool} {padding tag size value told end : List ℕ}
    {level : ℕ} → Going j tags all now old new some
    → Begins now.bytes padding tag size value next.bytes now.level → next.level ≡ now.level
    → told ≡ tag → level ≡ now.level → Contains tags told
    → Adds new (object_begin j some level told) put → end ≡ masked_end j → Adds put end after
    → Going j tags all next old after true
past_masked {j} {tags} {next = next} {put = put} {after} {padding = padding} {tag} {size} {value} g
    b next_is tag_is level_is has begun end_is ended =
    let H : List ℕ → Type 0 = λ t. Contains tags t in
    let E : List ℕ → Type 0 = λ e. Adds put e after in
    past_object g next_is tag_is level_is
    (λ others are. masked padding tag size value next.bytes others b (subst H tag_is has) refl are)
    begun (subst E end_is ended)

pub past_primitive : {j : Bool} {tags : List (List ℕ)} {all now next : ObjectList}
    {old new put after : Sheet} {some : Bool} {padding tag size value told : List ℕ}
    {level deep : ℕ} → Going j tags all now old new some
    → Begins now.bytes padding tag size value next.bytes now.level → next.level ≡ now.level
    → told ≡ tag → level ≡ now.level → deep ≡ now.level → (Contains tags told → ⊥)
    → is_constructed tag ≡ false → Adds new (object_begin j some level told) put
    → PutsText (IsValue j deep value) put after → Going j tags all next old after true
past_primitive {j} {tags} {next = next} {padding = padding} {tag} {size} {value} g b next_is tag_is
    level_is deep_is not plain begun (own, is, more) =
    let H : List ℕ → Type 0 = λ t. Contains tags t → ⊥ in
    let V : ℕ → Type 0 = λ l. IsValue j l value own in
    past_object g next_is tag_is level_is
    (λ others are. primitive padding tag size value next.bytes own others b (subst H tag_is not)
    plain (subst V deep_is is) refl are) begun more

pub past_template : {j : Bool} {tags : List (List ℕ)} {all now next inner : ObjectList}
    {old new put said mid after : Sheet} {some any : Bool}
    {padding tag size value told end : List ℕ} {level deep : ℕ}
    → Going j tags all now old new some
    → Begins now.bytes padding tag size value next.bytes now.level → next.level ≡ now.level
    → told ≡ tag → level ≡ now.level → deep ≡ now.level → (Contains tags told → ⊥)
    → is_constructed tag ≡ true → Adds new (object_begin j some level told) put
    → PutsText (AreWords j) put said → inner ≡ record { bytes = value; level = deep + 1 }
    → PutsAny (AreTree j tags inner.bytes inner.level false) any said mid
    → end ≡ template_end j → Adds mid end after → Going j tags all next old after true
past_template {j} {tags} {now = now} {next} {mid = mid} {after} {padding = padding} {tag} {size}
    {value} {deep = deep} g b next_is tag_is level_is deep_is not templ begun (words, are, adds)
    inner_is (inside, objects, has, more) end_is ended =
    let H : List ℕ → Type 0 = λ t. Contains tags t → ⊥ in
    let Q : ObjectList → Type 0 = λ o. AreTree j tags o.bytes o.level false inside in
    let S : ℕ → Type 0 = λ l. AreTree j tags value l false inside in
    let E : List ℕ → Type 0 = λ e. Adds mid e after in
    let down : deep + 1 ≡ suc now.level = omega (arith, deep_is) in
    past_object g next_is tag_is level_is
    (λ others rest. template padding tag size value next.bytes words inside others b
    (subst H tag_is not) templ are (subst S down (subst Q inner_is objects)) refl rest) begun
    (adds_both (adds_both adds more) (subst E end_is ended))
