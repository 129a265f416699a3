-- Objects that are put into an array one after another.
use Rattle.std.proofs.Common.{◌≡◌, ℕ, zero, suc, ◌+◌, ◌<◌, ◌≤◌, List, [], ◌∷◌, ◌++◌, length, ◌-◌, map, slice_set, refl, sym, subst, ap, ◌∙◌, arith, append_assoc, length-append, true, false}
use Rattle.card_c.specs.declared.reader.ObjectRecord.{ObjectRecord}
use Rattle.tlv_core.specs.TagForm.{IsTag, is_constructed}
use Rattle.tlv_core.specs.Spelling.{Begins}
use Rattle.tlv_core.specs.Object.{ObjectList}
use Rattle.tlv_core.specs.Listing.{Placed, Lists, primitive, template, placed}
use Rattle.card_c.specs.Reading.{with_front, with_from, recorded}

pub with_none : (room : List ObjectRecord) (at : ℕ) → with_from room at [] ≡ room
with_none [] zero = refl
with_none (cell ∷ room) zero = refl
with_none [] (suc at) = refl
with_none (cell ∷ room) (suc at) = ap (λ (r : List ObjectRecord). cell ∷ r) (with_none room at)

front_more : (room xs ys : List ObjectRecord)
    → with_from (with_front room xs) (length xs) ys ≡ with_front room (xs ++ ys)
front_more [] [] ys = refl
front_more [] (x ∷ xs) ys = refl
front_more (cell ∷ room) [] ys = refl
front_more (cell ∷ room) (x ∷ xs) ys = ap (λ (r : List ObjectRecord). x ∷ r) (front_more room xs ys)

pub with_more : (room : List ObjectRecord) (at : ℕ) (xs ys : List ObjectRecord)
    → with_from (with_from room at xs) (at + length xs) ys ≡ with_from room at (xs ++ ys)
with_more room zero xs ys =
    let e : 0 + length xs ≡ length xs = omega arith in rw e (front_more room xs ys)
with_more [] (suc at) xs ys =
    let e : suc at + length xs ≡ suc (at + length xs) = omega arith in rw e refl
with_more (cell ∷ room) (suc at) xs ys =
    let e : suc at + length xs ≡ suc (at + length xs) = omega arith in
    rw e (ap (λ (r : List ObjectRecord). cell ∷ r) (with_more room at xs ys))

pub set_there : (room : List ObjectRecord) (at : ℕ) (o : ObjectRecord) → at < length room
    → slice_set room at o ≡ with_from room at (o ∷ [])
set_there [] zero o low = absurd (omega (arith, low))
set_there [] (suc at) o low = absurd (omega (arith, low))
set_there (cell ∷ []) zero o low = refl
set_there (cell ∷ (next ∷ room)) zero o low = refl
set_there (cell ∷ room) (suc at) o low = ap (λ (r : List ObjectRecord). cell ∷ r)
    (set_there room at o (omega (arith, low)))

pub none_there : (room : List ObjectRecord) (at : ℕ) (o : ObjectRecord) → length room ≤ at
    → room ≡ with_from room at (o ∷ [])
none_there [] zero o high = refl
none_there [] (suc at) o high = refl
none_there (cell ∷ room) zero o high = absurd (omega (arith, high))
none_there (cell ∷ room) (suc at) o high = ap (λ (r : List ObjectRecord). cell ∷ r)
    (none_there room at o (omega (arith, high)))

recorded_both : (xs ys : List Placed) → map recorded (xs ++ ys) ≡ map recorded xs ++ map recorded ys
recorded_both [] ys = refl
recorded_both (x ∷ xs) ys = ap (λ (r : List ObjectRecord). recorded x ∷ r) (recorded_both xs ys)

recorded_length : (xs : List Placed) → length (map recorded xs) ≡ length xs
recorded_length [] = refl
recorded_length (x ∷ xs) = ap suc (recorded_length xs)

-- the array after some objects, and then more
put_more : (old objects : List ObjectRecord) (before count : ℕ) (done xs : List Placed)
    → count ≡ before + length done → objects ≡ with_from old before (map recorded done)
    → with_from objects count (map recorded xs) ≡ with_from old before (map recorded (done ++ xs))
put_more old objects before count done xs counted filled =
    let at : count ≡ before + length (map recorded done) =
    counted ∙ ap (λ n. before + n) (sym (recorded_length done)) in
    rw at (rw filled (with_more old before (map recorded done) (map recorded xs)
    ∙ ap (with_from old before) (sym (recorded_both done xs))))

-- The list was read as far as `now`, and the objects so far are in the array.
pub record Going (first now : ObjectList) (end : ℕ) (old objects : List ObjectRecord)
    (before count : ℕ) : Type 0 where
  pub done : List Placed
  pub leads : (more : List Placed) → Lists now.bytes (end - length now.bytes) now.level more
      → Lists first.bytes (end - length first.bytes) first.level (done ++ more)
  pub counted : count ≡ before + length done
  pub filled : objects ≡ with_from old before (map recorded done)
  pub fits : count + length now.bytes ≤ end
  pub shrinks : length now.bytes ≤ length first.bytes

pub begins_going : (first : ObjectList) (end : ℕ) (old : List ObjectRecord) (before : ℕ)
    → before + length first.bytes ≤ end → Going first first end old old before before
begins_going first end old before fits = record {
  done = [];
  leads = λ more is. is;
  counted = omega arith;
  filled = sym (with_none old before);
  fits = fits;
  shrinks = omega arith;
}

tag_has_bytes : (tag : List ℕ) → IsTag tag → 1 ≤ length tag
tag_has_bytes [] is = absurd is
tag_has_bytes (a ∷ more) is = omega arith

pub record Sizes (bytes padding tag size value rest : List ℕ) : Type 0 where
  pub all : length bytes ≡ length padding + (length tag + length size + length value) + length rest
  pub some : 1 ≤ length tag

pub sizes : (bytes padding tag size value rest : List ℕ) (level : ℕ)
    → Begins bytes padding tag size value rest level
    → Sizes bytes padding tag size value rest
sizes bytes padding tag size value rest level b = record {
  all = omega (arith, ap length b.spelled, length-append {A = ℕ});
  some = tag_has_bytes tag b.is_tag;
}

-- an object that ends at a place
abbrev pub ended : ℕ → List ℕ → List ℕ → List ℕ → ℕ → Placed
ended after tag size value level = record {
  tag = tag;
  level = level;
  place = after - (length tag + length size + length value);
  size = length tag + length size + length value;
  value = after - length value;
  value_size = length value;
}

same_placed : (tag : List ℕ) (level place size at count place' size' at' : ℕ) → place ≡ place'
    → size ≡ size' → at ≡ at'
    → ◌≡◌ {A = Placed}
    (record {
      tag = tag;
      level = level;
      place = place;
      size = size;
      value = at;
      value_size = count;
    })
    (record {
      tag = tag;
      level = level;
      place = place';
      size = size';
      value = at';
      value_size =
          count;
    })
same_placed tag level place size at count place' size' at' e f g =
    let P : ℕ → Placed =
    λ x. record {
      tag = tag;
      level = level;
      place = x;
      size = size;
      value = at;
      value_size =
          count;
    } in
    let Q : ℕ → Placed =
    λ x. record {
      tag = tag;
      level = level;
      place = place';
      size = x;
      value = at;
      value_size =
          count;
    } in
    let R : ℕ → Placed =
    λ x. record {
      tag = tag;
      level = level;
      place = place';
      size = size';
      value = x;
      value_size = count;
    } in
    ap P e ∙ ap Q f ∙ ap R g

ended_is : (bytes padding tag size value rest : List ℕ) (level end : ℕ)
    → Sizes bytes padding tag size value rest
    → length bytes ≤ end
    → ended (end - length rest) tag size value level
    ≡ placed (end - length bytes + length padding) tag size value level
ended_is bytes padding tag size value rest level end s low =
    same_placed tag level _ _ _ (length value) _ _ _
    (omega (arith, s.all, low)) (omega (arith, length-append {A = ℕ}))
    (omega (arith, s.all, low, length-append {A = ℕ}))

on_from : (first : ObjectList) (bytes : List ℕ) (end : ℕ) (level : ℕ) (done xs more : List Placed)
    → Lists first.bytes (end - length first.bytes) first.level (done ++ (xs ++ more))
    → Lists first.bytes (end - length first.bytes) first.level ((done ++ xs) ++ more)
on_from first bytes end level done xs more is =
    subst (λ (all : List Placed). Lists first.bytes (end - length first.bytes) first.level all)
    (sym (append_assoc done xs more)) is

pub past_primitive : (first now next : ObjectList) (end : ℕ) (old objects after : List ObjectRecord)
    (before count : ℕ)
    (padding tag size value : List ℕ) → Going first now end old objects before count
    → Begins now.bytes padding tag size value next.bytes now.level → next.level ≡ now.level
    → is_constructed tag ≡ false
    → after ≡ with_from objects count
    (recorded (ended (end - length next.bytes) tag size value now.level) ∷ [])
    → Going first next end old after before (count + 1)
past_primitive first now next end old objects after before count padding tag size value g b level_is
    plain put =
    let s = sizes _ _ _ _ _ _ _ b in
    let o = ended (end - length next.bytes) tag size value now.level in
    let is : o ≡ placed (end - length now.bytes + length padding) tag size value now.level =
    ended_is now.bytes padding tag size value next.bytes now.level end s (omega (arith, g.fits)) in
    let there : end - length now.bytes + length (padding ++ tag ++ size ++ value) ≡ end
    - length next.bytes =
    omega (arith, s.all, g.fits, length-append {A = ℕ}) in
    record {
      done = g.done ++ o ∷ [];
      leads = λ more rest.
          let rest' : Lists next.bytes (end - length now.bytes
          + length (padding ++ tag ++ size ++ value)) now.level more =
          subst (λ (at : ℕ). Lists next.bytes at now.level more) (sym there)
          (subst (λ (l : ℕ). Lists next.bytes (end - length next.bytes) l more) level_is rest) in
          on_from first now.bytes end now.level g.done (o ∷ []) more
          (g.leads (o ∷ more) (primitive padding tag size value next.bytes more b plain
          (ap (λ (x : Placed). x ∷ more) is) rest'));
      counted = omega (arith, g.counted, length-append {A = Placed});
      filled = put ∙ put_more old objects before count g.done (o ∷ []) g.counted g.filled;
      fits = omega (arith, g.fits, s.all, s.some);
      shrinks = omega (arith, g.shrinks, s.all);
    }

pub past_template : (first now next : ObjectList) (end : ℕ)
    (old objects put after : List ObjectRecord) (before count last : ℕ)
    (padding tag size value : List ℕ) (level : ℕ) (inside : List Placed)
    → Going first now end old objects before count
    → Begins now.bytes padding tag size value next.bytes now.level → next.level ≡ now.level
    → is_constructed tag ≡ true
    → put ≡ with_from objects count
    (recorded (ended (end - length next.bytes) tag size value now.level) ∷ [])
    → level ≡ now.level + 1
    → Lists value (end - length next.bytes - length value) level inside → last ≡ count + 1
    + length inside
    → after ≡ with_from put (count + 1) (map recorded inside) → last ≤ end - length next.bytes
    → Going first next end old after before last
past_template first now next end old objects put after before count last padding tag size value
    level inside g b level_is templ put_is deeper within last_is after_is low =
    let s = sizes _ _ _ _ _ _ _ b in
    let o = ended (end - length next.bytes) tag size value now.level in
    let is : o ≡ placed (end - length now.bytes + length padding) tag size value now.level =
    ended_is now.bytes padding tag size value next.bytes now.level end s (omega (arith, g.fits)) in
    let there : end - length now.bytes + length (padding ++ tag ++ size ++ value) ≡ end
    - length next.bytes =
    omega (arith, s.all, g.fits, length-append {A = ℕ}) in
    let value_at : end - length now.bytes + length (padding ++ tag ++ size) ≡ end
    - length next.bytes - length value =
    omega (arith, s.all, g.fits, length-append {A = ℕ}) in
    let down : level ≡ suc now.level = omega (arith, deeper) in
    let within' : Lists value (end - length now.bytes + length (padding ++ tag ++ size))
    (suc now.level) inside =
    subst (λ (at : ℕ). Lists value at (suc now.level) inside) (sym value_at)
    (subst (λ (l : ℕ). Lists value (end - length next.bytes - length value) l inside) down
    within) in
    record {
      done = g.done ++ o ∷ inside;
      leads = λ more rest.
          let rest' : Lists next.bytes (end - length now.bytes
          + length (padding ++ tag ++ size ++ value)) now.level more =
          subst (λ (at : ℕ). Lists next.bytes at now.level more) (sym there)
          (subst (λ (l : ℕ). Lists next.bytes (end - length next.bytes) l more) level_is rest) in
          on_from first now.bytes end now.level g.done (o ∷ inside) more
          (g.leads (o ∷ (inside ++ more))
          (template padding tag size value next.bytes inside more b templ
          (ap (λ (x : Placed). x ∷ (inside ++ more)) is) within' rest'));
      counted = omega (arith, last_is, g.counted, length-append {A = Placed});
      filled = after_is
          ∙ ap (λ (r : List ObjectRecord). with_from r (count + 1) (map recorded inside)) put_is
          ∙ with_more objects count (recorded o ∷ []) (map recorded inside)
          ∙ put_more old objects before count g.done (o ∷ inside) g.counted g.filled;
      fits = omega (arith, low, s.all, g.fits);
      shrinks = omega (arith, g.shrinks, s.all);
    }

pub put_is : (objects put : List ObjectRecord) (count : ℕ) (made : ObjectRecord) (end left n : ℕ)
    (tag size value : List ℕ) (level same : ℕ)
    → put ≡ with_from objects count (made ∷ []) → made
    ≡ recorded (ended (end - left) tag size value level) → left ≡ n → level ≡ same
    → put ≡ with_from objects count (recorded (ended (end - n) tag size value same) ∷ [])
put_is objects put count made end left n tag size value level same p m e f =
    p ∙ ap (λ (r : ObjectRecord). with_from objects count (r ∷ []))
    (m ∙ ap (λ (x : ℕ). recorded (ended (end - x) tag size value level)) e
    ∙ ap (λ (x : ℕ). recorded (ended (end - n) tag size value x)) f)

pub inner : (children : ObjectList) (value : List ℕ) (deep end left n : ℕ) (all : List Placed)
    → children ≡ record { bytes = value; level = deep } → left ≡ n
    → Lists children.bytes (end - left - length children.bytes) children.level all
    → Lists value (end - n - length value) deep all
inner children value deep end left n all is e lists =
    let P : ObjectList → Type 0 = λ l. Lists l.bytes (end - left - length l.bytes) l.level all in
    subst (λ (x : ℕ). Lists value (end - x - length value) deep all) e (subst P is lists)

pub whole : (list : ObjectList) (bytes : List ℕ) (n : ℕ) (all : List Placed)
    → list ≡ record { bytes = bytes; level = 1 } → n ≡ length bytes
    → Lists list.bytes (n - length list.bytes) list.level all → Lists bytes 0 1 all
whole list bytes n all is e lists =
    let P : ObjectList → Type 0 = λ l. Lists l.bytes (n - length l.bytes) l.level all in
    let none : n - length bytes ≡ 0 = omega (arith, e) in
    subst (λ (at : ℕ). Lists bytes at 1 all) none (subst P is lists)
