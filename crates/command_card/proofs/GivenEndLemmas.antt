-- What is done at the end of a card of given responses leads on.
use Rattle.std.proofs.Common.{◌≡◌, ◌∙◌, ℕ, List, [], ◌∷◌, ◌++◌, length, Option, Some, None, Bool, true, false, inl, inr, refl, sym, ap, subst, arith}
use Rattle.apdu_core.specs.declared.header.Header.{Header}
use Rattle.apdu_core.specs.CommandBytes.{Command}
use Rattle.apdu_core.specs.StatusWord.{StatusWord, count}
use Rattle.std.specs.Prelude.{◌&&◌, ⊤, not, if◌then◌else◌, OnErr, OnOk, Result, Ok, Err}
use Rattle.command_card.specs.declared.own.GiveFault.{GiveFault}
use Rattle.t0_core.specs.CardContract.{IsDecided}
use Rattle.t0_core.specs.declared.end.End.TheVariants.{Terminal}
use Rattle.t0_core.specs.Character.{sent_by}
use Rattle.t0_core.specs.CardSide.{EndOf, Stage, Taking_header, Refusing, Serving, Ending, ServesBy, StandsAt, begins_with, comes_from_terminal, whole_data}
use Rattle.t0_core.specs.CardSide.{ask_of as ask_in}
use Rattle.t0_core.specs.Dialogue.{Body}
use Rattle.t0_core.specs.Front.{Front, In_header, In_body, After_first}
use Rattle.std.specs.List.{AllByRecursion}
use Rattle.t0_core.specs.CardHistory.{Leads}
use Rattle.t0_core.specs.History.{Event, IsByteEvent, passed}
use Rattle.t0_core.specs.Meaning.{Ask, IsReceiving, Prepared, Receiving, Tpdu}
use Rattle.std.specs.Prelude.{◌==◌, is_some}
use Rattle.std.proofs.lemmas.Bool.{eqb-true}
use Rattle.apdu_core.specs.HeaderBytes.{ins_is_valid}
use Rattle.t0_core.specs.declared.service.Service.{Service}
use Rattle.t0_core.specs.declared.direction.Direction.{Direction}
use Rattle.t0_core.specs.declared.direction.Direction.TheVariants.{ToCard, FromCard}
use Rattle.command_card.specs.declared.own.Need.TheVariants as need
use Rattle.command_card.specs.declared.own.Wanted.{Wanted}
use Rattle.command_card.specs.declared.own.Wanted.TheVariants as wanted
use Rattle.command_card.proofs.AnswerLemmas.{both_true}
use Rattle.command_card.specs.Carrying.{asking, taking}
use Rattle.command_card.specs.declared.given.Directions.{Directions}
use Rattle.command_card.specs.Given.{Answers, GivenState, after_drop, at_rest, go_to_card, settled, takes_data}
use Rattle.command_card.specs.Giving.{Decided, Gave, Giving, LeadsBy, LeadsStill, LedLent, Lends, Responded, Shows, Tells, TookBack, given_card, reaches, shown_in}
use Rattle.command_card.specs.Lending.{Happening, LeadsLent, Lent, On_line, line_of}
use Rattle.command_card.specs.Meaning.{Does, Kind, Invalid, Hands, Unfetched, Takes, Asks, kind_in, kind_of}
use Rattle.command_card.specs.State.{CardState, Hand, is_fetch, pending_for}
use Rattle.command_card.specs.View.{CardOf, ask_of, after_reset, prepared_in, prepared_of, standing_in}
use Rattle.command_card.specs.Wanted.{forgotten_by, AwaitsBy, AwaitsOwn, IsTaken, RespondsAs, IsWanted, need_of, wanted_after, wanted_at, wanted_with, is_free, is_known, is_open, may_decide, taken_back}
use Rattle.command_card.specs.declared.given.Directions.TheVariants as way
use Rattle.command_card.specs.declared.ready.Ready.{Ready}
use Rattle.command_card.specs.declared.ready.Ready.TheVariants as ready
use Rattle.command_card.proofs.LendingLemmas.{leads_where_lent}
use Rattle.command_card.proofs.AppletLemmas.{forgotten_stands}
use Rattle.command_card.proofs.SentLemmas.{same_header}

abbrev OwnEnd : Type 0
OwnEnd = EndOf (CardOf GivenState)

undecided : (app next : GivenState) (kept fresh : List ℕ) (r : Ready) → is_open r ≡ true
    → IsDecided (prepared_of app next kept fresh r) → ⊥
undecided app next kept fresh ready.Nothing is decided = decided
undecided app next kept fresh (ready.Receives h p3 cut) is decided = decided
undecided app next kept fresh (ready.Sends h p3 cut from status ending) is decided = decided
undecided app next kept fresh (ready.Leaves ending) is decided = absurd (cc)

-- what a stage and a front say of the command that is shown
abbrev ShowsAt : OwnEnd → Command → Type 0
ShowsAt e c = (cut : ℕ) (front : Front) → StandsAt (Does takes_data Answers)
    (standing_in at_rest e.card) (prepared_in at_rest settled e.card) e.stage cut front
    → Shows (Some c) front (standing_in at_rest e.card)

-- the command at a header of this kind, with these data
abbrev Told : Header → ℕ → List ℕ → Command → Kind → Type 0
Told h p3 bytes c Asks = c ≡ asking h (count p3)
Told h p3 bytes c Takes = (c ≡ taking h bytes) × (length bytes ≡ p3)
Told h p3 bytes c other = ⊥

same_command : (c d : Command) → wanted.Response c ≡ wanted.Response d → c ≡ d
same_command c d is = cc

with_data : (given : Bool) (h : Header) (p3 : ℕ) (bytes : List ℕ) (c : Command)
    → wanted.Response c ≡ wanted_at need.AfterData given h p3 bytes
    → (c ≡ taking h bytes) × (length bytes ≡ p3)
with_data given h p3 bytes c is = split (not given && (length bytes == p3)) refl
  where
    split : (v : Bool) → (not given && (length bytes == p3)) ≡ v
        → (c ≡ taking h bytes) × (length bytes ≡ p3)
    split true e = (
      same_command c (taking h bytes)
          (is ∙ ap (λ v. if v then wanted.Response (taking h bytes) else wanted.Nothing) e),
      eqb-true (length bytes) p3 (both_true _ _ e).1,
    )
    split false e =
        let no : wanted.Response c ≡ wanted.Nothing = is
        ∙ ap (λ v. if v then wanted.Response (taking h bytes) else wanted.Nothing) e in
        absurd (cc)

at_header : (known : Bool) (k : Kind) (given : Bool) (h : Header) (p3 : ℕ) (bytes : List ℕ)
    (c : Command) → wanted.Response c ≡ wanted_at (need_of known k) given h p3 bytes
    → (known ≡ true) × Told h p3 bytes c k
at_header false Invalid given h p3 bytes c is = absurd (cc)
at_header false (Hands hand) given h p3 bytes c is = absurd (cc)
at_header false Unfetched given h p3 bytes c is = absurd (cc)
at_header false Takes given h p3 bytes c is = absurd (cc)
at_header false Asks given h p3 bytes c is = absurd (cc)
at_header true Invalid given h p3 bytes c is = absurd (cc)
at_header true (Hands hand) given h p3 bytes c is = absurd (cc)
at_header true Unfetched given h p3 bytes c is = absurd (cc)
at_header true Takes given h p3 bytes c is = (refl, with_data given h p3 bytes c is)
at_header true Asks true h p3 bytes c is = absurd (cc)
at_header true Asks false h p3 bytes c is = (refl, same_command c (asking h (count p3)) is)

-- after the data
abbrev TakesFor : Ready → List ℕ → Command → Type 0
TakesFor r bytes c = (h : Header) × (p3 : ℕ) × (cut : ℕ) × (r ≡ ready.Receives h p3 cut)
    × (c ≡ taking h bytes) × (length bytes ≡ p3)

after : (given : Bool) (r : Ready) (bytes : List ℕ) (c : Command)
    → wanted.Response c ≡ wanted_after given r bytes → TakesFor r bytes c
after true ready.Nothing bytes c is = absurd (cc)
after true (ready.Receives h p3 cut) bytes c is = absurd (cc)
after true (ready.Sends h p3 cut from status ending) bytes c is = absurd (cc)
after true (ready.Leaves ending) bytes c is = absurd (cc)
after false ready.Nothing bytes c is = absurd (cc)
after false (ready.Sends h p3 cut from status ending) bytes c is = absurd (cc)
after false (ready.Leaves ending) bytes c is = absurd (cc)
after false (ready.Receives h p3 cut) bytes c is =
    split (ins_is_valid h.ins && (length bytes == p3)) refl
  where
    split : (v : Bool) → (ins_is_valid h.ins && (length bytes == p3)) ≡ v
        → TakesFor (ready.Receives h p3 cut) bytes c
    split true e = (
      h,
      p3,
      cut,
      refl,
      same_command c (taking h bytes)
          (is ∙ ap (λ v. if v then wanted.Response (taking h bytes) else wanted.Nothing) e),
      eqb-true (length bytes) p3 (both_true _ _ e).1,
    )
    split false e =
        let no : wanted.Response c ≡ wanted.Nothing = is
        ∙ ap (λ v. if v then wanted.Response (taking h bytes) else wanted.Nothing) e in
        absurd (cc)

-- where a header is complete
tells_header : (k : Kind) (b : Body) (c : Command) → b.moved ≡ [] → Told b.header b.p3 [] c k
    → Tells b c k
tells_header Invalid b c none is = is
tells_header (Hands hand) b c none is = is
tells_header Unfetched b c none is = is
tells_header Asks b c none is = is
tells_header Takes b c none (takes, long) = (
  takes ∙ ap (λ xs. taking b.header xs) (sym none),
  ap length none ∙ long,
  inr none,
)

shows_header : (D : CardState GivenState → ℕ → Tpdu → CardState GivenState → Type 0)
    (s : CardState GivenState) (p : Prepared (CardState GivenState)) (h : Header) (p3 cut : ℕ)
    (front : Front) (c : Command) → is_known s.app.directions ≡ true
    → Told h p3 [] c (kind_in takes_data s h p3)
    → StandsAt D s p (Taking_header (begins_with h p3)) cut front → Shows (Some c) front s
shows_header D s p h p3 cut (In_header f) c known told (is, less) = omega (arith, less)
shows_header D s p h p3 cut (After_first b sw1) c known told stands = absurd stands
shows_header D s p h p3 cut (In_body b) c known told (is, only) =
    let same = same_header h b.header p3 b.p3 [] []
    (ap (λ bytes. passed (sent_by Terminal bytes) ++ []) is) in
    let Is : Header → ℕ → Type 0 = λ g n. Told g n [] c (kind_in takes_data s g n) in (
      known,
      tells_header (kind_in takes_data s b.header b.p3) b c
          (ap (λ (x : Body). x.moved) only)
          (subst (Is b.header) same.1 (subst (λ g. Is g p3) same.0 told)),
    )

-- data go to the card only in a direction that it knows
knows : (directions : Directions) (ins : ℕ) → go_to_card directions ins ≡ true
    → is_known directions ≡ true
knows (way.Table bytes) ins is = refl
knows way.Unknown ins is = absurd (cc)
knows (way.Known to_card) ins is = refl

takes_known : (v : Bool) (p : Option Hand) (f : Bool) (directions : Directions) (ins : ℕ)
    → kind_of v p f (go_to_card directions ins) ≡ Takes → is_known directions ≡ true
takes_known v p f directions ins is = split (go_to_card directions ins) refl v p f
    is
  where
    split : (k : Bool) → go_to_card directions ins ≡ k → (v : Bool) (p : Option Hand) (f : Bool)
        → kind_of v p f (go_to_card directions ins) ≡ Takes → is_known directions ≡ true
    split true e v p f is = knows directions ins e
    split false e v p f is =
        absurd (never v p f (sym (ap (λ k. kind_of v p f k) e) ∙ is))
      where
        never : (v : Bool) (p : Option Hand) (f : Bool) → kind_of v p f false ≡ Takes → ⊥
        never false p f is = absurd (cc)
        never true (Some hand) f is = absurd (cc)
        never true None true is = absurd (cc)
        never true None false is = absurd (cc)

-- where the data are complete
shows_data : (D : CardState GivenState → ℕ → Tpdu → CardState GivenState → Type 0)
    (s : CardState GivenState) (p : Prepared (CardState GivenState)) (v : Service)
    (came : List ℕ) (h : Header) (p3 n cut : ℕ) (front : Front) (c : Command)
    → v.direction ≡ ToCard → p ≡ Receiving (ask_of h p3 n) → c ≡ taking h came
    → length came ≡ p3 → kind_in takes_data s h p3 ≡ Takes
    → StandsAt D s p (Serving v came) cut front → Shows (Some c) front s
shows_data D s p v came h p3 n cut (In_header f) c way prepared takes long kind stands =
    absurd stands
shows_data D s p v came h p3 n cut (After_first b sw1) c way prepared takes long kind stands =
    absurd stands
shows_data D s p v came h p3 n cut (In_body b) c way prepared takes long kind stands =
    let By : Direction → Type 0 = λ d. ServesBy p d v came cut b.moved in
    let serves = subst By way stands.serves in
    let Is : Prepared (CardState GivenState) → Type 0 = λ q.
    IsReceiving q (λ ask. ask ≡ ask_in v cut) in
    let asked : ask_of h p3 n ≡ ask_in v cut = subst Is prepared serves.1 in
    let same : h ≡ b.header = ap (λ (x : Ask). x.header) asked ∙ sym stands.header_is in
    let all : p3 ≡ b.p3 = ap (λ (x : Ask). x.p3) asked ∙ sym stands.p3_is in
    let at : kind_in takes_data s b.header b.p3 ≡ Takes =
    sym (ap (λ g. kind_in takes_data s g p3) same
    ∙ ap (λ m. kind_in takes_data s b.header m) all) ∙ kind in (
      takes_known (ins_is_valid h.ins) (pending_for s.left h p3) (is_fetch h) s.app.directions
          h.ins kind,
      subst (λ k. Tells b c k) (sym at) (
        takes ∙ ap (λ g. taking g came) same ∙ ap (λ xs. taking b.header xs) (sym serves.0),
        ap length serves.0 ∙ long ∙ all,
        inl (stands.direction_is ∙ way),
      ),
    )

serving : (e : OwnEnd) (v : Service) (came : List ℕ) (c : Command) → AwaitsOwn e.card
    → e.stage ≡ Serving v came
    → wanted.Response c ≡ wanted_with e.card (whole_data (Serving v came)) → ShowsAt e c
serving e v came c awaits stage is = split v.direction refl (v.moved == v.p3) refl
  where
    split : (d : Direction) → v.direction ≡ d → (w : Bool) → (v.moved == v.p3) ≡ w → ShowsAt e c
    split FromCard way w whole =
        let no : wanted.Response c ≡ wanted.Nothing = is
        ∙ ap (λ d. wanted_with e.card
        (if comes_from_terminal d && (v.moved == v.p3) then Some came else None)) way in absurd (cc)
    split ToCard way false whole =
        let no : wanted.Response c ≡ wanted.Nothing = is
        ∙ ap (λ d. wanted_with e.card
        (if comes_from_terminal d && (v.moved == v.p3) then Some came else None)) way
        ∙ ap (λ w. wanted_with e.card (if w then Some came else None)) whole in absurd (cc)
    split ToCard way true whole =
        let all : wanted.Response c ≡ wanted_after (is_some e.card.app.given) e.card.ready came = is
        ∙ ap (λ d. wanted_with e.card
        (if comes_from_terminal d && (v.moved == v.p3) then Some came else None)) way
        ∙ ap (λ w. wanted_with e.card (if w then Some came else None)) whole in
        let (h, p3, n, ready_is, takes, long) =
        after (is_some e.card.app.given) e.card.ready came c all in
        let prepared : prepared_in at_rest settled e.card ≡ Receiving (ask_of h p3 n) =
        ap (λ r. prepared_of (at_rest e.card.app) (settled e.card.app) e.card.kept e.card.fresh r)
        ready_is in
        let kind : kind_in takes_data (standing_in at_rest e.card) h p3 ≡ Takes =
        subst (λ r. AwaitsBy (standing_in at_rest e.card) r) ready_is awaits in
        λ cut front stands. shows_data (Does takes_data Answers) (standing_in at_rest e.card)
        (prepared_in at_rest settled e.card) v came h p3 n cut front c way prepared takes
        long kind
        (subst (λ s. StandsAt (Does takes_data Answers) (standing_in at_rest e.card)
        (prepared_in at_rest settled e.card) s cut front) stage stands)

shows_wanted : (e : OwnEnd) (c : Command) → AwaitsOwn e.card → IsWanted e (wanted.Response c)
    → ShowsAt e c
shows_wanted e c awaits (inr (h, p3, stage, is)) =
    let tells = at_header (is_known e.card.app.directions)
    (kind_in takes_data (standing_in at_rest e.card) h p3) (is_some e.card.app.given) h p3 [] c
    is in
    λ cut front stands. shows_header (Does takes_data Answers) (standing_in at_rest e.card)
    (prepared_in at_rest settled e.card) h p3 cut front c tells.0 tells.1
    (subst (λ s. StandsAt (Does takes_data Answers) (standing_in at_rest e.card)
    (prepared_in at_rest settled e.card) s cut front) stage stands)
shows_wanted e c awaits (inl (none, is)) = by e.stage refl is
  where
    by : (s : Stage) → e.stage ≡ s → wanted.Response c ≡ wanted_with e.card (whole_data s)
        → ShowsAt e c
    by (Taking_header bytes) stage is = absurd (cc)
    by (Refusing h p3 status done) stage is = absurd (cc)
    by (Ending status) stage is = absurd (cc)
    by (Serving v came) stage is = serving e v came c awaits stage is

lends_on : (k : Giving) (old new : OwnEnd) → new.stage ≡ old.stage
    → prepared_in at_rest settled new.card ≡ prepared_in at_rest settled old.card
    → is_open old.card.ready ≡ true
    → ((cut : ℕ) (front : Front) → StandsAt (Does takes_data Answers)
    (standing_in at_rest old.card) (prepared_in at_rest settled old.card) old.stage cut front
    → Lends k front (standing_in at_rest old.card) (standing_in at_rest new.card))
    → LeadsBy k old new
lends_on k old new stage prepared may lends first hs led =
    let At : Prepared (CardState GivenState) → Stage → Type 0 = λ p s.
    LeadsLent (Does takes_data Answers) (after_reset after_drop) Lends first (hs ++ Lent k ∷ [])
    (standing_in at_rest new.card) p s in
    let on = leads_where_lent (Does takes_data Answers) (after_reset after_drop) Lends first
    (standing_in at_rest old.card) (standing_in at_rest new.card) hs k
    (prepared_in at_rest settled old.card) old.stage
    (undecided (at_rest old.card.app) (settled old.card.app) old.card.kept old.card.fresh
    old.card.ready may) lends led in
    subst (At (prepared_in at_rest settled new.card)) (sym stage)
    (subst (λ p. At p old.stage) (sym prepared) on)

pub gives_on : (old new : OwnEnd) (bytes : List ℕ) (status : StatusWord)
    → new.stage ≡ old.stage
    → prepared_in at_rest settled new.card ≡ prepared_in at_rest settled old.card
    → AwaitsOwn old.card → IsTaken old.card bytes status new.card → (w : Wanted) → IsWanted old w
    → LeadsBy (Gave (shown_in w) (record { bytes = bytes; status = status })) old new
gives_on old new bytes status stage prepared awaits (may, own, few, is) w wants =
    let k : Giving = Gave (shown_in w) (record { bytes = bytes; status = status }) in
    lends_on k old new stage prepared may.0 (λ cut front stands.
    let P : CardOf GivenState → Type 0 = λ c.
    Lends k front (standing_in at_rest old.card) (standing_in at_rest c) in
    subst P (sym is) (sees w wants cut front stands, may.1, own, few, refl))
  where
    sees : (w : Wanted) → IsWanted old w → (cut : ℕ) (front : Front)
        → StandsAt (Does takes_data Answers) (standing_in at_rest old.card)
        (prepared_in at_rest settled old.card) old.stage cut front
        → Shows (shown_in w) front (standing_in at_rest old.card)
    sees wanted.Nothing wants cut front stands = tt
    sees (wanted.Direction h) wants cut front stands = tt
    sees (wanted.Response c) wants cut front stands =
        shows_wanted old c awaits wants cut front stands

pub gives_if : (result : Result ⊤ GiveFault) (old new : OwnEnd) (bytes : List ℕ)
    (status : StatusWord) → new.stage ≡ old.stage
    → prepared_in at_rest settled new.card ≡ prepared_in at_rest settled old.card
    → AwaitsOwn old.card → OnOk result (IsTaken old.card bytes status new.card)
    → OnOk result ((w : Wanted) → IsWanted old w
    → LeadsBy (Gave (shown_in w) (record { bytes = bytes; status = status })) old new)
gives_if (Ok r) old new bytes status stage prepared awaits taken =
    gives_on old new bytes status stage prepared awaits taken
gives_if (Err f) old new bytes status stage prepared awaits taken = tt

free_is_open : (r : Ready) → is_free r ≡ true → is_open r ≡ true
free_is_open ready.Nothing is = refl
free_is_open (ready.Receives h p3 cut) is = refl
free_is_open (ready.Sends h p3 cut from status ending) is = absurd (cc)
free_is_open (ready.Leaves ending) is = absurd (cc)

unknown : (a b : Bool) → (a && not b) ≡ true → (a ≡ true) × (b ≡ false)
unknown true false is = (refl, refl)
unknown true true is = absurd (cc)
unknown false b is = absurd (cc)

pub decides_on : (old new : OwnEnd) (to_card : Bool) → new.stage ≡ old.stage
    → prepared_in at_rest settled new.card ≡ prepared_in at_rest settled old.card
    → may_decide old.card ≡ true
    → new.card ≡ record old.card { app = record old.card.app { directions = way.Known to_card } }
    → LeadsBy (Decided to_card) old new
decides_on old new to_card stage prepared may is =
    let both = unknown (is_free old.card.ready) (is_known old.card.app.directions) may in
    lends_on (Decided to_card) old new stage prepared (free_is_open old.card.ready both.0)
    (λ cut front stands.
    let P : CardOf GivenState → Type 0 = λ c.
    Lends (Decided to_card) front (standing_in at_rest old.card) (standing_in at_rest c) in
    subst P (sym is) (both.1, refl))

pub takes_back_on : (old new : OwnEnd) → new.stage ≡ old.stage
    → prepared_in at_rest settled new.card ≡ prepared_in at_rest settled old.card
    → is_free old.card.ready ≡ true → new.card ≡ taken_back old.card → LeadsBy TookBack old new
takes_back_on old new stage prepared free is =
    lends_on TookBack old new stage prepared (free_is_open old.card.ready free)
    (λ cut front stands.
    let P : CardOf GivenState → Type 0 = λ c.
    Lends TookBack front (standing_in at_rest old.card) (standing_in at_rest c) in
    subst P (sym (is ∙ ap (λ v. if v then record old.card { app = after_drop old.card.app }
    else old.card) free)) refl)

pub responds_on : (old new : OwnEnd) (c : Command) → new.stage ≡ old.stage
    → prepared_in at_rest settled new.card ≡ prepared_in at_rest settled old.card
    → is_free old.card.ready ≡ true
    → RespondsAs (standing_in at_rest old.card) c new.card.fresh (standing_in at_rest new.card)
    → LeadsBy (Responded c (reaches (standing_in at_rest old.card) c) new.card.fresh) old new
responds_on old new c stage prepared free does =
    lends_on (Responded c (reaches (standing_in at_rest old.card) c) new.card.fresh) old new stage
    prepared (free_is_open old.card.ready free) (λ cut front stands. (refl, does))

pub responds_if : {E : Type 0} (result : Result ⊤ E) (old new : OwnEnd) (c : Command)
    → new.stage ≡ old.stage
    → prepared_in at_rest settled new.card ≡ prepared_in at_rest settled old.card
    → OnOk result ((is_free old.card.ready ≡ true) × (new.card.ready ≡ old.card.ready))
    → OnOk result (RespondsAs (standing_in at_rest old.card) c new.card.fresh
    (standing_in at_rest new.card))
    → OnOk result (LeadsBy (Responded c (reaches (standing_in at_rest old.card) c) new.card.fresh)
    old new)
responds_if (Ok r) old new c stage prepared free does =
    responds_on old new c stage prepared free.0 does
responds_if (Err e) old new c stage prepared free does = tt

-- ---- calls that leave the card's state

pub leads_still : (old new : OwnEnd) → new.stage ≡ old.stage
    → standing_in at_rest new.card ≡ standing_in at_rest old.card
    → prepared_in at_rest settled new.card ≡ prepared_in at_rest settled old.card
    → LeadsStill old new
leads_still old new stage stands prepared first hs led =
    let At : CardState GivenState → Prepared (CardState GivenState) → Stage → Type 0 = λ s p t.
    LeadsLent (Does takes_data Answers) (after_reset after_drop) Lends first hs s p t in
    subst (λ t. At (standing_in at_rest new.card) (prepared_in at_rest settled new.card) t)
    (sym stage) (subst (λ p. At (standing_in at_rest new.card) p old.stage) (sym prepared)
    (subst (λ s. At s (prepared_in at_rest settled old.card) old.stage) (sym stands) led))

pub same_card_still : (old new : OwnEnd) → new.stage ≡ old.stage → new.card ≡ old.card
    → LeadsStill old new
same_card_still old new stage is = leads_still old new stage (ap (standing_in at_rest) is)
    (ap (prepared_in at_rest settled) is)

pub gives_still : {R E : Type 0} (result : Result R E) (old new : OwnEnd)
    → new.stage ≡ old.stage → OnErr result (new.card ≡ old.card)
    → OnErr result (LeadsStill old new)
gives_still (Ok r) old new stage is = tt
gives_still (Err f) old new stage is = same_card_still old new stage is

pub responds_still : {R E : Type 0} (result : Result R E) (old new : OwnEnd)
    → new.stage ≡ old.stage
    → prepared_in at_rest settled new.card ≡ prepared_in at_rest settled old.card
    → OnErr result (new.card ≡ forgotten_by old.card) → OnErr result (LeadsStill old new)
responds_still (Ok r) old new stage prepared is = tt
responds_still (Err f) old new stage prepared is = leads_still old new stage
    (ap (standing_in at_rest) is ∙ forgotten_stands old.card) prepared

pub takes_back_still : (old new : OwnEnd) → new.stage ≡ old.stage
    → is_free old.card.ready ≡ false → new.card ≡ taken_back old.card → LeadsStill old new
takes_back_still old new stage busy is = same_card_still old new stage
    (is ∙ ap (λ v. if v then record old.card { app = after_drop old.card.app } else old.card) busy)

-- what holds of each history where a call succeeds holds of all at once
pub within : {A B R E : Type 0} (P Q : A → B → Type 0) (r : Result R E)
    → ((a : A) (b : B) → P a b → OnOk r (Q a b)) → OnOk r ((a : A) (b : B) → P a b → Q a b)
within P Q (Ok x) all = all
within P Q (Err e) all = tt

pub on_ok : {R E X Y : Type 0} (r : Result R E) → (X → Y) → OnOk r X → OnOk r Y
on_ok (Ok x) f is = f is
on_ok (Err e) f is = tt

-- ---- a character, after the card was lent

-- the clause `line` of the law `the_line_leads_on_after_lending`
abbrev pub LineLeads : Type 0
LineLeads = (first old new : CardState GivenState) (hs : List (Happening Giving)) (e : Event)
    (before prepared : Prepared (CardState GivenState)) (at stage : Stage)
    → AllByRecursion IsByteEvent (line_of hs ++ e ∷ [])
    → ((f : CardState GivenState) (events : List Event)
    → Leads (Does takes_data Answers) (after_reset after_drop) f events old before at
    → Leads (Does takes_data Answers) (after_reset after_drop) f (events ++ e ∷ []) new prepared
    stage)
    → LeadsLent (Does takes_data Answers) (after_reset after_drop) Lends first hs old before at
    → LeadsLent (Does takes_data Answers) (after_reset after_drop) Lends first
    (hs ++ On_line e ∷ []) new prepared stage

-- the same between two ends
pub one_leads : LineLeads → (first : CardState GivenState) (old new : OwnEnd)
    (hs : List (Happening Giving)) (e : Event)
    → AllByRecursion IsByteEvent (line_of hs ++ e ∷ [])
    → ((f : CardState GivenState) (events : List Event)
    → Leads given_card.Does given_card.after_reset f events (given_card.standing old.card)
    (given_card.prepared old.card) old.stage
    → Leads given_card.Does given_card.after_reset f (events ++ e ∷ [])
    (given_card.standing new.card) (given_card.prepared new.card) new.stage)
    → LedLent first hs old → LedLent first (hs ++ On_line e ∷ []) new
one_leads line first old new hs e bytes led lent = line first (standing_in at_rest old.card)
    (standing_in at_rest new.card) hs e (prepared_in at_rest settled old.card)
    (prepared_in at_rest settled new.card) old.stage new.stage bytes led lent
