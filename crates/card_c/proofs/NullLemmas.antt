-- NULLs before the next procedure byte change no TPDU.
use Rattle.std.proofs.Common.{◌≡◌, ◌⊎◌, ℕ, zero, suc, ◌+◌, ◌-◌, ◌<◌, ◌≤◌, List, [], ◌∷◌, ◌++◌, length, Bool, true, false, ◌&&◌, Option, Some, None, refl, sym, ◌∙◌, ap, subst, arith, inl, inr}
use Rattle.std.specs.Prelude.{replicate, if◌then◌else◌, ◌==◌}
use Rattle.std.proofs.lemmas.Bool.{eqb-true}
use Rattle.apdu_core.specs.declared.header.Header.{Header}
use Rattle.t0_core.specs.declared.end.End.TheVariants.{Card}
use Rattle.t0_core.specs.declared.direction.Direction.{Direction}
use Rattle.t0_core.specs.declared.direction.Direction.TheVariants.{ToCard, FromCard}
use Rattle.t0_core.specs.declared.plan.Step.{Step}
use Rattle.t0_core.specs.declared.plan.Step.TheVariants.{Null}
use Rattle.t0_core.specs.Character.{Character}
use Rattle.t0_core.specs.CardSide.{EndOf, Stage, Taking_header, Refusing, Serving, Ending, StandsAt, begins_with, comes_from_terminal, whole_data}
use Rattle.t0_core.specs.Dialogue.{Body, Dialogue, all_moves, foreseen, moves, to_move}
use Rattle.t0_core.specs.Front.{Front, In_header, In_body, After_first, GoesThrough, IsBetween, with_moved, with_segment}
use Rattle.t0_core.specs.FrontLaws.{all_moves-more}
use Rattle.t0_core.specs.Meaning.{Prepared, Tpdu, tpdu_of}
use Rattle.command_card.specs.declared.own.Wanted.{Wanted}
use Rattle.command_card.specs.Wanted.{IsWanted, wanted_with}
use Rattle.card_c.specs.OwnCalls.{OwnCard, StaysInStep, is_response, own_card}

-- the body with other segments, which move as many data
abbrev slow : Body → List Step → Body
slow b segments = record b { segments = segments }

abbrev AsMany : Body → List Step → Type 0
AsMany b segments = all_moves segments (foreseen b.direction b.p3) ≡ to_move b

abbrev Comes : Front → List Character → Dialogue → Type 0
Comes front cs d = (e : Dialogue) × GoesThrough front cs e × (tpdu_of e ≡ tpdu_of d)

after_first : (cs : List Character) (b : Body) (segments : List Step) (sw1 : ℕ) (d : Dialogue)
    → GoesThrough (After_first b sw1) cs d → Comes (After_first (slow b segments) sw1) cs d
after_first [] b segments sw1 d goes = absurd goes
after_first (c ∷ cs) b segments sw1 d (inl (ends, none)) = (
  record { body = slow b segments; status = (sw1, c.1) },
  inl ((ends.0, ends.1, refl), none),
  ap tpdu_of (sym ends.2),
)
after_first (c ∷ cs) b segments sw1 d (inr (new, goes, rest)) = absurd goes

one_more : (b : Body) (segments : List Step) (s : Step) → AsMany b segments
    → AsMany (with_segment b s) (segments ++ s ∷ [])
one_more b segments s same =
    let n = foreseen b.direction b.p3 in all_moves-more segments s n
    ∙ ap (λ k. k + moves s (n - k)) same ∙ sym (all_moves-more b.segments s n)

goes_so : (cs : List Character) (b : Body) (segments : List Step) (d : Dialogue)
    → AsMany b segments → GoesThrough (In_body b) cs d → Comes (In_body (slow b segments)) cs d
goes_so [] b segments d same goes = absurd goes
goes_so (c ∷ cs) b segments d same (inl (ends, none)) = absurd ends
goes_so (c ∷ cs) b segments d same (inr (new, inl more, rest)) =
    let x = goes_so cs (with_moved b c.1) segments d same
    (subst (λ f. GoesThrough f cs d) more.2 rest) in (
      x.0,
      inr (
        In_body (with_moved (slow b segments) c.1),
        inl (subst (λ k. length b.moved < k) (sym same) more.0, more.1, refl),
        x.1,
      ),
      x.2,
    )
goes_so (c ∷ cs) b segments d same (inr (new, inr (inl begins), rest)) =
    let (between, card, (s, nulls, byte_is, new_is)) = begins in
    let x = goes_so cs (with_segment b s) (segments ++ s ∷ []) d (one_more b segments s same)
    (subst (λ f. GoesThrough f cs d) new_is rest) in (
      x.0,
      inr (
        In_body (with_segment (slow b segments) s),
        inr (inl (between ∙ sym same, card, (s, nulls, byte_is, refl))),
        x.1,
      ),
      x.2,
    )
goes_so (c ∷ cs) b segments d same (inr (new, inr (inr begins), rest)) =
    let (between, card, is, new_is) = begins in
    let x = after_first cs b segments c.1 d (subst (λ f. GoesThrough f cs d) new_is rest) in (
      x.0,
      inr (
        After_first (slow b segments) c.1,
        inr (inr (between ∙ sym same, card, is, refl)),
        x.1,
      ),
      x.2,
    )

with_nulls : (n : ℕ) (cs : List Character) (b : Body) (segments : List Step) (d : Dialogue)
    → AsMany b segments → IsBetween b → GoesThrough (In_body b) cs d
    → Comes (In_body (slow b segments)) (replicate n (Card, 0x60) ++ cs) d
with_nulls zero cs b segments d same between goes = goes_so cs b segments d same goes
with_nulls (suc n) cs b segments d same between goes =
    let all = foreseen b.direction b.p3 in
    let more : AsMany b (segments ++ Null ∷ []) =
    omega (arith, all_moves-more segments Null all, same) in
    let x = with_nulls n cs b (segments ++ Null ∷ []) d more between goes in (
      x.0,
      inr (
        In_body (with_segment (slow b segments) Null),
        inr (inl (between ∙ sym same, refl, (Null, (λ _. refl), refl, refl))),
        x.1,
      ),
      x.2,
    )

-- a place where the card waits: its verdict is next, or its answer to all data
abbrev Pauses : Stage → Type 0
Pauses stage = ((h : Header) × (p3 : ℕ) × (stage ≡ Taking_header (begins_with h p3)))
    ⊎ ((bytes : List ℕ) × (whole_data stage ≡ Some bytes))

some_if : (v : Bool) (came bytes : List ℕ) → (if v then Some came else None) ≡ Some bytes
    → v ≡ true
some_if true came bytes is = refl
some_if false came bytes is = absurd (cc)

-- all data came: no more are expected
all_came : (d : Direction) (moved until p3 so_far whole : ℕ) (came bytes : List ℕ)
    → (if comes_from_terminal d && (moved == p3) then Some came else None) ≡ Some bytes
    → moved ≤ until → until ≤ foreseen d p3 → so_far ≡ moved → whole ≡ until → so_far ≡ whole
all_came ToCard moved until p3 so_far whole came bytes is begun within moved_is until_is =
    let same : moved ≡ p3 = eqb-true moved p3 (some_if (moved == p3) came bytes is) in
    omega (arith, same, begun, within, moved_is, until_is)
all_came FromCard moved until p3 so_far whole came bytes is begun within moved_is until_is =
    absurd (cc)

at_header : {State : Type 0} (Does : State → ℕ → Tpdu → State → Type 0) (standing : State)
    (prepared : Prepared State) (h : Header) (p3 cut : ℕ) (front : Front)
    → StandsAt Does standing prepared (Taking_header (begins_with h p3)) cut front
    → (b : Body) × (front ≡ In_body b) × IsBetween b
at_header Does s p h p3 cut (In_header bytes) stands = absurd (omega (arith, stands.1))
at_header Does s p h p3 cut (In_body b) stands = (b, refl, subst IsBetween (sym stands.1) refl)
at_header Does s p h p3 cut (After_first b sw1) stands = absurd stands

at_data : {State : Type 0} (Does : State → ℕ → Tpdu → State → Type 0) (standing : State)
    (prepared : Prepared State) (stage : Stage) (bytes : List ℕ) (cut : ℕ) (front : Front)
    → whole_data stage ≡ Some bytes → StandsAt Does standing prepared stage cut front
    → (b : Body) × (front ≡ In_body b) × IsBetween b
at_data Does s p (Serving service came) bytes cut (In_body b) came_is stands = (
  b,
  refl,
  all_came _ _ _ _ _ _ came bytes came_is stands.begun stands.within stands.moved_is
      stands.until_is,
)
at_data Does s p (Serving service came) bytes cut (In_header front) came_is stands = absurd stands
at_data Does s p (Serving service came) bytes cut (After_first b sw1) came_is stands = absurd stands
at_data Does s p (Taking_header header) bytes cut front came_is stands = absurd (cc)
at_data Does s p (Refusing h p3 status done) bytes cut front came_is stands = absurd (cc)
at_data Does s p (Ending status) bytes cut front came_is stands = absurd (cc)

nulls_pass : {State : Type 0} (Does : State → ℕ → Tpdu → State → Type 0) (standing : State)
    (prepared : Prepared State) (stage : Stage) (cut n : ℕ) (front : Front)
    (cs : List Character) (d : Dialogue) → Pauses stage
    → StandsAt Does standing prepared stage cut front → GoesThrough front cs d
    → Comes front (replicate n (Card, 0x60) ++ cs) d
nulls_pass Does s p stage cut n front cs d pauses stands goes =
    let (b, front_is, between) = place pauses in
    subst (λ f. Comes f (replicate n (Card, 0x60) ++ cs) d) (sym front_is)
    (with_nulls n cs b b.segments d refl between (subst (λ f. GoesThrough f cs d) front_is goes))
  where
    place : Pauses stage → (b : Body) × (front ≡ In_body b) × IsBetween b
    place (inl (h, p3, is)) = at_header Does s p h p3 cut front
        (subst (λ (t : Stage). StandsAt Does s p t cut front) is stands)
    place (inr (bytes, came_is)) = at_data Does s p stage bytes cut front came_is stands

waits_data : (card : OwnCard) (o : Option (List ℕ)) → is_response (wanted_with card o) ≡ true
    → (bytes : List ℕ) × (o ≡ Some bytes)
waits_data card None waits = absurd (cc)
waits_data card (Some bytes) waits = (bytes, refl)

-- where a response is wanted
pub in_step : (end : EndOf OwnCard) (w : Wanted) → IsWanted end w → is_response w ≡ true
    → StaysInStep end 0x60
in_step end w wanted waits = λ cut n front cs d stands goes.
    nulls_pass own_card.Does (own_card.standing end.card) (own_card.prepared end.card) end.stage
    cut n front cs d (place wanted) stands goes
  where
    place : IsWanted end w → Pauses end.stage
    place (inl (early, is)) =
        inr (waits_data end.card (whole_data end.stage) (ap is_response (sym is) ∙ waits))
    place (inr (h, p3, stage_is, is)) = inl (h, p3, stage_is)
