-- A terminal stops, whatever any peer sends.
use Rattle.std.proofs.Common.{◌≡◌, refl, sym, ap, subst, ◌∙◌, ℕ, zero, suc, ◌+◌, ◌-◌, ◌*◌, ◌≤◌, ◌<◌, Bool, true, false, List, [], ◌∷◌, ◌++◌, take, drop, length, length-append, nat_lt, Option, Some, None, cond, ◌==◌, arith, ◌⊎◌, inl, inr}
use Rattle.t1_core.specs.declared.block.Control.{Control}
use Rattle.t1_core.specs.declared.block.Control.TheVariants.{Resynch, Ifs, Abort, Wtx}
use Rattle.t1_core.specs.declared.pcb.BlockReason.TheVariants.{Other}
use Rattle.t1_core.specs.declared.terminal.Out.{Out}
use Rattle.t1_core.specs.declared.terminal.Out.TheVariants.{Own, Asks}
use Rattle.t1_core.specs.declared.terminal.Phase.{Phase}
use Rattle.t1_core.specs.declared.terminal.Phase.TheVariants.{Opening, Sending, Receiving, Aborting, Over, GivenUp}
use Rattle.t1_core.specs.Block.{I, R, Request, Response, Arrival, Came, Bad, are_filled, is_filled, is_size, same}
use Rattle.t1_core.specs.BlockBytes.{arrival_of}
use Rattle.t1_core.specs.Mild.{meets_all, most_receptions, steps_left}
use Rattle.t1_core.specs.TerminalSide.{Terminal, begins_sending, shortened, without_try, spend, takes, takes_in, takes_field, gathers, acknowledged, answered, asked, extend, opens, longest, has_stopped}
use Rattle.std.proofs.lemmas.List.{take-append-drop}
use Rattle.std.proofs.Math.Nat.{mul-le-mul_right}
use Rattle.t1_core.proofs.BlockBytesFacts.{read_is_filled}
use Rattle.t1_core.proofs.Measure.{weigh}

-- the number of phases that can follow without progress
abbrev pub room : Phase → ℕ
room Opening = 2
room Sending = 1
room Receiving = 1
room Aborting = 0
room Over = 0
room (GivenUp cause) = 0

-- S(IFS request) has tries of its own
abbrev pub opening : Phase → ℕ
opening Opening = 1
opening _ = 0

abbrev pub left : Terminal → ℕ
left t =
    t.tries + t.extensions + room t.phase
    + (opening t.phase + steps_left t) * (t.settings.tries + 1)

-- a bound on the receptions until it has stopped
abbrev pub receptions_left : Terminal → ℕ
receptions_left t = cond (has_stopped t.phase) 0 (left t + 1)

-- it has stopped, or fewer receptions are left
abbrev pub Ends : Terminal → Terminal → Type 0
Ends old new = (has_stopped new.phase ≡ true) ⊎ (left new + 1 ≤ left old)

pub fewer_left : (old new : Terminal) → has_stopped old.phase ≡ false → Ends old new
    → receptions_left new < receptions_left old
fewer_left old new moving (inl stopped) = rw (moving, stopped) (omega arith)
fewer_left old new moving (inr less) = rw moving (by (has_stopped new.phase)) where
  by : (v : Bool) → cond v 0 (left new + 1) < left old + 1
  by true = omega arith
  by false = omega (arith, less)

-- the settings stay the same, and IFSC stays positive
abbrev pub Stands : Terminal → Terminal → Type 0
Stands old new = (new.settings ≡ old.settings) × (0 < new.size)

abbrev pub Takes : Terminal → Terminal → Type 0
Takes old new = Stands old new × Ends old new

-- after a cut there are as many bytes behind the first one
cut_after : (size : ℕ) (bytes : List ℕ) → 0 < size
    → (length (take size bytes) - 1) + length (drop size bytes) ≡ length bytes - 1
cut_after zero bytes some = absurd (omega (arith, some))
cut_after (suc n) [] some = refl
cut_after (suc n) (b ∷ bytes) some =
    let both : length (take n bytes) + length (drop n bytes) ≡ length bytes =
    sym (length-append (take n bytes) (drop n bytes)) ∙ ap length (take-append-drop n bytes) in
    omega (arith, both)

module _ (t : Terminal) (sized : 0 < t.size) where
  begins_spends : t.phase ≡ Opening → Takes t (begins_sending t)
  begins_spends e =
      let k : ℕ = t.settings.tries + 1 in
      let cut = cut_after t.size (t.field ++ t.rest) sized in
      let all = length-append t.field t.rest in
      let old : ℕ = steps_left t in
      let new : ℕ = steps_left (begins_sending t) in
      let step : new + 1 ≤ 1 + old = omega (arith, cut, all) in
      let less = weigh new (1 + old) k step in
      let two = ap room e in
      let was = ap (λ p. (opening p + old) * k) e in
      ((refl, sized), inr (omega (arith, less, two, was)))

  spends : (out : Out) → Takes t (spend t.tries t out)
  spends out = Of t.tries refl where
    without : (p : Phase) → t.phase ≡ p → Takes t (without_try p t)
    without Opening e = begins_spends e
    without _ e = ((refl, sized), inl refl)

    Of : (n : ℕ) → t.tries ≡ n → Takes t (spend n t out)
    Of zero e = without t.phase refl
    Of (suc n) e = ((refl, sized), inr (omega (arith, e)))

  -- the current field again, which may be shorter
  repeats_spends : t.phase ≡ Sending → Takes t (spend t.tries (shortened t) Own)
  repeats_spends sending = Of t.tries refl where
    without : (p : Phase) → p ≡ Sending → has_stopped (without_try p (shortened t)).phase ≡ true
    without Opening e = absurd (cc)
    without _ e = refl

    settings_stay : (p : Phase) → p ≡ Sending
        → Stands t (without_try p (shortened t))
    settings_stay Opening e = absurd (cc)
    settings_stay _ e = (refl, sized)

    same_steps : steps_left (shortened t) ≡ steps_left t
    same_steps =
        let cut = cut_after t.size t.field sized in
        let all = length-append (drop t.size t.field) t.rest in
        omega (arith, cut, all)

    Of : (n : ℕ) → t.tries ≡ n → Takes t (spend n (shortened t) Own)
    Of zero e = (settings_stay t.phase sending, inl (without t.phase sending))
    Of (suc n) e =
        let w = ap (λ x. (opening t.phase + x) * (t.settings.tries + 1)) same_steps in
        ((refl, sized), inr (omega (arith, e, w)))

  either : (x y : Terminal) (c : Bool) → Takes t x → Takes t y → Takes t (cond c x y)
  either x y true p q = p
  either x y false p q = q

  -- a field within the limit
  field_spends : (n more : Bool) (f : List ℕ) → is_filled (I n more f) ≡ true
      → 1 ≤ room t.phase → nat_lt t.settings.limit (length t.got + length f) ≡ false
      → Takes t (takes_field more t f)
  field_spends n false f filled some fits = ((refl, sized), inl refl)
  field_spends n true [] filled some fits = absurd (cc)
  field_spends n true (b ∷ f) filled some fits =
      let k : ℕ = t.settings.tries + 1 in
      let longer = length-append t.got (b ∷ f) in
      let old : ℕ = steps_left t in
      let new : ℕ = steps_left (takes_field true t (b ∷ f)) in
      let step : new + 1 ≤ old = grind (arith, fits, longer) in
      let less = weigh new (opening t.phase + old) k (omega (arith, step)) in
      ((refl, sized), inr (omega (arith, less, some)))

  gathers_spends : (n more : Bool) (f : List ℕ) → is_filled (I n more f) ≡ true
      → 1 ≤ room t.phase → Takes t (gathers more t f)
  gathers_spends n more f filled some =
      Of (nat_lt t.settings.limit (length t.got + length f)) refl where
        Of : (v : Bool) → nat_lt t.settings.limit (length t.got + length f) ≡ v
            → Takes t (gathers more t f)
        Of true e = rw e ((refl, sized), inl refl)
        Of false e = rw e (field_spends n more f filled some e)

  acknowledged_spends : (rest : List ℕ) → t.rest ≡ rest → Takes t (acknowledged rest t)
  acknowledged_spends [] e = spends (Asks Other)
  acknowledged_spends (b ∷ bytes) e =
      let k : ℕ = t.settings.tries + 1 in
      let cut = cut_after t.size (b ∷ bytes) sized in
      let long : length t.rest ≡ suc (length bytes) = ap length e in
      let old : ℕ = steps_left t in
      let new : ℕ = steps_left (acknowledged (b ∷ bytes) t) in
      let step : new + 1 ≤ old = omega (arith, cut, long) in
      let less = weigh (opening t.phase + new) (opening t.phase + old) k (omega (arith, step)) in
      ((refl, sized), inr (omega (arith, less)))

  answered_spends : (n more : Bool) (rest f : List ℕ) → is_filled (I n more f) ≡ true
      → 1 ≤ room t.phase → Takes t (answered rest t more f)
  answered_spends n more [] f filled some = gathers_spends n more f filled some
  answered_spends n more (b ∷ bytes) f filled some = spends (Asks Other)

  extended : (size : ℕ) (control : Control) (n : ℕ) → 0 < size → t.extensions ≡ n
      → Takes t (extend n (record t { size = size }) control)
  extended size control zero some e = ((refl, some), inl refl)
  extended size control (suc n) some e = ((refl, some), inr (omega (arith, e)))

  resized : (size : ℕ) (v : Bool) → is_size size ≡ v
      → Takes t (cond v (extend t.extensions (record t { size = size }) (Ifs size))
      (spend t.tries t (Asks Other)))
  resized zero true e = absurd (cc)
  resized (suc n) true e = extended (suc n) (Ifs (suc n)) t.extensions (omega arith) refl
  resized size false e = spends (Asks Other)

  asked_spends : (control : Control) → 1 ≤ room t.phase → Takes t (asked control t)
  asked_spends (Wtx multiple) some = extended t.size (Wtx multiple) t.extensions sized refl
  asked_spends (Ifs size) some = resized size (is_size size) refl
  asked_spends Abort some =
      let le : steps_left t ≤ opening t.phase + steps_left t = omega arith in
      let less = mul-le-mul_right (t.settings.tries + 1) le in
      ((refl, sized), inr (omega (arith, some, less)))
  asked_spends Resynch some = spends (Asks Other)

  opens_spends : (control : Control) → t.phase ≡ Opening → Takes t (opens control t)
  opens_spends (Ifs size) e =
      either _ _ (size == longest) (begins_spends e) (spends (Asks Other))
  opens_spends _ e = spends (Asks Other)

  pub takes_spends : (b : Arrival) (p : Phase) → are_filled b ≡ true → t.phase ≡ p
      → Takes t (takes_in p b t)
  takes_spends b Over filled e = ((refl, sized), inl (ap has_stopped e))
  takes_spends b (GivenUp cause) filled e = ((refl, sized), inl (ap has_stopped e))
  takes_spends b Aborting filled e = ((refl, sized), inl refl)
  takes_spends (Came (Request control)) Opening filled e =
      asked_spends control (let two = ap room e in omega (arith, two))
  takes_spends (Came (Request control)) Sending filled e =
      asked_spends control (let one = ap room e in omega (arith, one))
  takes_spends (Came (Request control)) Receiving filled e =
      asked_spends control (let one = ap room e in omega (arith, one))
  takes_spends (Came (Response control)) Opening filled e = opens_spends control e
  takes_spends (Came (I n more f)) Sending filled e =
      either _ _ (same n t.due) (answered_spends n more t.rest f filled
      (let one = ap room e in omega (arith, one))) (spends (Asks Other))
  takes_spends (Came (R n reason)) Sending filled e =
      either _ _ (same n t.number) (repeats_spends e) (acknowledged_spends t.rest refl)
  takes_spends (Came (I n more f)) Receiving filled e =
      either _ _ (same n t.due) (gathers_spends n more f filled
      (let one = ap room e in omega (arith, one))) (spends (Asks Other))
  takes_spends (Came b) _ filled e = spends (Asks Other)
  takes_spends (Bad reason) _ filled e = spends (Asks reason)

stays_stopped : (t : Terminal) (b : Arrival) (p : Phase) → t.phase ≡ p → has_stopped p ≡ true
    → has_stopped (takes_in p b t).phase ≡ true
stays_stopped t b Over e h = ap has_stopped e
stays_stopped t b (GivenUp cause) e h = ap has_stopped e
stays_stopped t b Aborting e h = refl
stays_stopped t b _ e h = absurd (cc)

-- the arrival of a reception
abbrev block : Option (List ℕ) → Arrival
block None = Bad Other
block (Some bytes) = arrival_of bytes

read_filled : (x : Option (List ℕ)) → are_filled (block x) ≡ true
read_filled None = refl
read_filled (Some bytes) = read_is_filled bytes

abbrev Has_stopped : Terminal → Type 0
Has_stopped t = has_stopped t.phase ≡ true

met : (x : Option (List ℕ)) (xs : List (Option (List ℕ))) (t : Terminal)
    → meets_all (takes t (block x)) xs ≡ meets_all t (x ∷ xs)
met None xs t = refl
met (Some bytes) xs t = refl

all_stopped : (xs : List (Option (List ℕ))) (t : Terminal) → Has_stopped t
    → Has_stopped (meets_all t xs)
all_stopped [] t h = h
all_stopped (x ∷ xs) t h =
    subst Has_stopped (met x xs t)
    (all_stopped xs (takes t (block x)) (stays_stopped t (block x) t.phase refl h))

ends : (xs : List (Option (List ℕ))) (t : Terminal) → 0 < t.size → left t < length xs
    → has_stopped (meets_all t xs).phase ≡ true
ends [] t sized few = absurd (omega (arith, few))
ends (x ∷ xs) t sized few =
    let u : Terminal = takes t (block x) in
    let step = takes_spends t sized (block x) t.phase (read_filled x) refl in
    subst Has_stopped (met x xs t) (elim step.1 [
      | inl h ↦ all_stopped xs u h
      | inr less ↦ ends xs u step.0.1 (omega (arith, less, few))
    ])

room_le : (p : Phase) → room p ≤ 2
room_le Opening = omega arith
room_le _ = omega arith

opening_le : (p : Phase) (n : ℕ) → opening p + n ≤ 1 + n
opening_le Opening n = omega arith
opening_le _ n = omega arith

pub no_livelock : (t : Terminal) (xs : List (Option (List ℕ))) → 0 < t.size
    → most_receptions t < length xs → has_stopped (meets_all t xs).phase ≡ true
no_livelock t xs sized few =
    let le = room_le t.phase in
    let steps = mul-le-mul_right (t.settings.tries + 1) (opening_le t.phase (steps_left t)) in
    ends xs t sized (omega (arith, few, le, steps))
