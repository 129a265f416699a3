-- Steps of the card's end with a command carried out, and after memory ran out.
use Rattle.std.proofs.Common.{◌≡◌, refl, sym, ap, subst, ◌∙◌, ℕ, ◌+◌, ◌<◌, ◌≤◌, ◌⊎◌, Bool, true, false, List, [], ◌∷◌, ◌++◌, length, Option, Some, None, take, arith, length-append, inl, inr}
use Rattle.std.proofs.Math.Seq.{take-append_seam}
use Rattle.std.specs.Prelude.{Result, Ok, Err, IfOk, OnErr}
use Rattle.t1_core.specs.declared.applet.Applet.{Ghosts}
use Rattle.t1_core.specs.declared.applet.Requests.{Requests}
use Rattle.t1_core.specs.declared.card.Reply.{Reply}
use Rattle.t1_core.specs.declared.card.Reply.TheVariants.{Ready}
use Rattle.t1_core.specs.declared.pcb.BlockReason.TheVariants.{NoError}
use Rattle.t1_core.specs.Block.{R, other}
use Rattle.t1_core.specs.CardHistory.{Call, Replies, Fails, Resets, Happens, HappenAll}
use Rattle.t1_core.specs.CardSide.{Card, Did, Meaning, Turn, carries_out, collects, replies, responds, turn}
use Rattle.t1_core.specs.Doing.{DoesAll, DoesSome, EndOf, Goes, IsKeeping, IsOfSome, Keeping, Keeps, Steps, after, most_bytes, ran_with, so_far, with_end}

abbrev pub without_response : Card → Card
without_response c = record c { field = []; rest = []; answering = false }

-- what the end makes of the bytes of a command so far
abbrev Stepped : {C : Type 0} (a : Ghosts C) → (Meaning → Card → Turn) → EndOf C → Reply → EndOf C
    → (sent : List ℕ) → Type 0
Stepped a step old reply new sent = (did : Option Did) × (later : List ℕ)
    × IsKeeping a.LIMIT new later
    × DoesSome a.Does (a.standing old.card) did (a.standing new.card)
    × ((m : Meaning) (ran : List (List ℕ)) → IsOfSome m ran did
    → step m (after old ran sent) ≡ turn (after new (ran_with ran did) later)
    (replies reply new.at))

-- a step without a command
pub goes_step : {C : Type 0} (a : Ghosts C) (step : Card → Turn) (old new : EndOf C) (reply : Reply)
    → Goes step old reply new → Steps a (λ m c. step c) old reply new
goes_step a step old new reply (same, keeps, goes) =
    λ sent keeping. (
      None,
      sent,
      keeps a.LIMIT sent keeping,
      ap a.standing same,
      λ m ran is. goes ran sent,
    )

too_many : (limit : ℕ) (over : Bool) (kept sent f : List ℕ) → Keeping limit over kept sent
    → (over ≡ true) ⊎ (limit < length kept + length f)
    → limit < length (so_far over kept sent ++ f)
too_many limit true kept sent f (none, lt) more =
    let n = length-append sent f in omega (arith, lt, n)
too_many limit false kept sent f le (inl e) = absurd (cc)
too_many limit false kept sent f le (inr lt) =
    let n = length-append kept f in omega (arith, lt, n)

-- the end, once the card has written a response
abbrev told : {C : Type 0} → C → (field rest : List ℕ) → EndOf C → EndOf C
told card field rest e =
    record { card = card; at = record e.at { field = field; rest = rest }; over = e.over }

module _ {C : Type 0} (a : Ghosts C) (seen old new : EndOf C) (is : seen ≡ old) (card : C)
    (field rest : List ℕ) (reply : Reply) where
  abbrev Responds : Requests → Type 0
  Responds asks =
      Goes (λ c. responds asks (c.field ++ c.rest) c) (told card field rest seen) reply new

  -- the card has carried out a command of these bytes, and sends its first request or field
  carried : (sent all : List ℕ) → IsKeeping a.LIMIT old sent → (d : Did)
      → a.Does (a.standing old.card) d (a.standing card) → length d.response < most_bytes
      → d.command ≡ all → field ++ rest ≡ d.response → Responds d.asks
      → Stepped a (λ m c. carries_out m c (c.ran ++ all ∷ [])) old reply new sent
  carried sent all keeping d does short command response goes =
      let (same, keeps, moves) = subst (λ e. Goes (λ c. responds d.asks (c.field ++ c.rest) c)
      (told card field rest e) reply new) is goes in
      let build : List (List ℕ) → List ℕ → List ℕ → Requests → Turn = λ ran c r q.
      responds q r (record old.at { ran = ran ++ c ∷ [] }) in (
        Some d,
        sent,
        keeps a.LIMIT sent keeping,
        (subst (λ k. a.Does (a.standing old.card) d (a.standing k)) (sym same) does, short),
        λ m ran (does_is, asks_is).
            ap (λ c. build ran c (m.does (ran ++ c ∷ [])) (m.asks (ran ++ c ∷ []))) (sym command)
            ∙ ap (λ r. build ran d.command r (m.asks (ran ++ d.command ∷ []))) does_is
            ∙ ap (λ q. build ran d.command d.response q) asks_is
            ∙ sym (ap (λ r. build ran d.command r d.asks) response)
            ∙ moves (ran ++ d.command ∷ []) sent,
      )

  module _ (response : List ℕ) (asks : Requests) (short : length response < most_bytes)
      (whole : field ++ rest ≡ response) (goes : Responds asks) where
    abbrev done : List ℕ → Did
    done command = record { command = command; response = response; asks = asks }

    abbrev DoesIt : List ℕ → Type 0
    DoesIt command = a.Does (a.standing seen.card) (done command) (a.standing card)

    does_it : {command : List ℕ} → DoesIt command
        → a.Does (a.standing old.card) (done command) (a.standing card)
    does_it {command} does =
        subst (λ e. a.Does (a.standing e.card) (done command) (a.standing card)) is does

    -- of a command that is not too long the end has all bytes
    pub carried_kept : (bytes : List ℕ) → DoesIt bytes → bytes ≡ seen.at.collected
        → old.over ≡ false
        → Steps a (λ m c. carries_out m c (c.ran ++ c.collected ∷ [])) old reply new
    carried_kept bytes does same kept = λ sent keeping.
        carried sent (so_far old.over old.at.collected sent) keeping (done bytes) (does_it does)
        short
        (same ∙ ap (λ e. e.at.collected) is
        ∙ sym (ap (λ v. so_far v old.at.collected sent) kept))
        whole goes

    -- the card answers a command that is too long
    pub carried_over : (f : List ℕ)
        → (old.over ≡ true) ⊎ (a.LIMIT < length old.at.collected + length f)
        → ((command : List ℕ) → a.LIMIT < length command → DoesIt command)
        → Steps a (λ m c. carries_out m c (c.ran ++ (c.collected ++ f) ∷ [])) old reply new
    carried_over f more does = λ sent keeping.
        let all : List ℕ = so_far old.over old.at.collected sent ++ f in
        carried sent all keeping (done all)
        (does_it (does all (too_many a.LIMIT old.over old.at.collected sent f keeping more)))
        short refl whole goes

pub on_ok : {X E : Type 0} {P Q : X → Type 0} → ((x : X) → P x → Q x) → (r : Result X E)
    → IfOk r P → IfOk r Q
on_ok f (Ok x) p = f x p
on_ok f (Err e) p = p

pub on_err : {X E : Type 0} {P : Type 0} (r : Result X E) → P → OnErr r P
on_err (Ok x) p = tt
on_err (Err e) p = p

-- `old` takes the field `f`
module _ {C : Type 0} (a : Ghosts C) (old new : EndOf C) (f : List ℕ) where
  -- the bytes of the command are too many from now on, and the response is dropped
  pub exceeded : (seen : EndOf C) → seen ≡ with_end without_response old
      → (old.over ≡ true) ⊎ (a.LIMIT < length old.at.collected + length f)
      → old.at.rest ≡ [] → new ≡ record seen {
        at = record seen.at { collected = []; due = other seen.at.due };
        over = true;
      }
      → Steps a (λ m c. collects m [] true c f) old (Ready NoError) new
  exceeded seen is more none new_is = λ sent keeping.
      let all : List ℕ = so_far old.over old.at.collected sent ++ f in
      let now : EndOf C = with_end without_response old in
      let later : EndOf C = record now {
        at = record now.at { collected = []; due = other now.at.due };
        over = true;
      } in
      let same : new ≡ later = new_is ∙ ap (λ (e : EndOf C). record e {
        at = record e.at { collected = []; due = other e.at.due };
        over = true;
      }) is in (
        None,
        all,
        subst (λ e. IsKeeping a.LIMIT e all) (sym same)
            (refl, too_many a.LIMIT old.over old.at.collected sent f keeping more),
        ap (λ e. a.standing e.card) same,
        λ m ran so.
            ap (λ r. turn (record (after later ran all) { rest = r })
            (R (other old.at.due) NoError)) none
            ∙ sym (ap (λ e. turn (after e ran all) (R e.at.due NoError)) same),
      )

  -- the end keeps the field too
  module _ (seen : EndOf C) (is : seen ≡ old) (kept : List ℕ)
      (more : kept ≡ seen.at.collected ++ f) where
    abbrev with_field : List ℕ → EndOf C → EndOf C
    with_field bytes e = record e { at = record e.at { collected = bytes } }

    field_is : with_field kept seen ≡ with_field (old.at.collected ++ f) old
    field_is = ap (λ bytes. with_field bytes seen) more
        ∙ ap (λ e. with_field (e.at.collected ++ f) e) is

    -- the last field of a command that is not too long
    pub ended : (reply : Reply) → old.over ≡ false
        → length old.at.collected + length f ≤ a.LIMIT
        → Steps a (λ m c. carries_out m c (c.ran ++ c.collected ∷ [])) (with_field kept seen) reply
        new
        → Steps a (λ m c. collects m [] false c f) old reply new
    ended reply whole fits steps = λ sent keeping.
        let bytes = old.at.collected ++ f in
        let (did, later, keeps, does, step) =
        subst (λ e. Steps a (λ m c. carries_out m c (c.ran ++ c.collected ∷ [])) e reply new)
        field_is steps sent
        (subst (λ v. Keeping a.LIMIT v bytes sent) (sym whole)
        (let n = length-append old.at.collected f in omega (arith, n, fits))) in (
          did,
          later,
          keeps,
          does,
          λ m ran so.
              ap (λ v. carries_out m (record old.at { ran = ran })
              (ran ++ (so_far v old.at.collected sent ++ f) ∷ [])) whole
              ∙ sym (ap (λ v. carries_out m (record old.at { ran = ran })
              (ran ++ so_far v bytes sent ∷ [])) whole)
              ∙ step m ran so,
        )

    module _ (before : ℕ) (many : before ≡ length seen.at.collected) where
      abbrev Cut : Type 0
      Cut = Keeps a (λ c. record c { collected = take before c.collected })
          (with_field kept seen) new

      -- the card has refused the command: the end drops the field
      forgot : Cut → Keeps a (λ c. c) old new
      forgot (stands, is_cut, stays) = (
        stands ∙ ap (λ e. a.standing e.card) is,
        is_cut ∙ ap (λ (n : ℕ). record seen.at { collected = take n kept }) many
            ∙ ap (λ (l : List ℕ). record seen.at {
              collected = take (length seen.at.collected) l;
            }) more
            ∙ ap (λ (l : List ℕ). record seen.at { collected = l })
            (take-append_seam seen.at.collected f)
            ∙ ap (λ e. e.at) is,
        stays ∙ ap (λ e. e.over) is,
      )

      pub forgets_field : {X E : Type 0} (r : Result X E) → OnErr r Cut
          → OnErr r (Keeps a (λ c. c) old new)
      forgets_field (Ok x) h = h
      forgets_field (Err e) h = forgot h

-- ---- all that happens at a card's end

module _ {C : Type 0} (a : Ghosts C) where
  one_more : (old mid last : a.State) (did : Option Did) (dids : List Did)
      → DoesSome a.Does old did mid → DoesAll a.Does mid dids last
      → (all : List Did) × DoesAll a.Does old all last
  one_more old mid last None dids same goes =
      (dids, subst (λ s. DoesAll a.Does s dids last) same goes)
  one_more old mid last (Some d) dids (does, short) goes = (d ∷ dids, (mid, does, goes))

  -- the command that a call carries out, and the bytes of a command that exceed the limit then
  some_did : (call : Call) (old new : EndOf C) (sent : List ℕ) → IsKeeping a.LIMIT old sent
      → Happens a call old new
      → (did : Option Did) × (later : List ℕ) × IsKeeping a.LIMIT new later
      × DoesSome a.Does (a.standing old.card) did (a.standing new.card)
  some_did (Replies block reply) old new sent keeping step =
      let (did, later, kept, does, steps) = step sent keeping in (did, later, kept, does)
  some_did Fails old new sent keeping (stands, at_is, over_is) = (
    None,
    sent,
    subst (λ v. Keeping a.LIMIT v new.at.collected sent) (sym over_is)
        (subst (λ (c : Card). Keeping a.LIMIT old.over c.collected sent) (sym at_is) keeping),
    stands,
  )
  some_did Resets old new sent keeping is = (
    None,
    [],
    subst (λ e. IsKeeping a.LIMIT e []) (sym is) (omega arith),
    ap (λ e. a.standing e.card) is,
  )

  pub carried_in_all : (calls : List Call) (old new : EndOf C) (sent : List ℕ)
      → IsKeeping a.LIMIT old sent → HappenAll a calls old new
      → (did : List Did) × DoesAll a.Does (a.standing old.card) did (a.standing new.card)
  carried_in_all [] old new sent keeping is = ([], ap (λ e. a.standing e.card) is)
  carried_in_all (call ∷ calls) old new sent keeping (mid, one, rest) =
      let (did, later, kept, does) = some_did call old mid sent keeping one in
      let (dids, goes) = carried_in_all calls mid new later kept rest in
      one_more (a.standing old.card) (a.standing mid.card) (a.standing new.card) did dids does goes
