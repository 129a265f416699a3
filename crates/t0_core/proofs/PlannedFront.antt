-- The front of a card's end is that of a dialogue that follows its plan.
use Rattle.std.proofs.Common.{◌≡◌, ℕ, ◌-◌, ◌<◌, List, [], ◌∷◌, ◌++◌, length, drop, refl, sym, subst, ◌∙◌, ap, arith, inl, inr, lit<, lit≤, true, false, append_assoc, append-nil}
use Rattle.std.specs.List.{AllByRecursion}
use Rattle.apdu_core.specs.declared.header.Header.{Header}
use Rattle.apdu_core.specs.HeaderBytes.{ins_is_valid}
use Rattle.t0_core.specs.declared.end.End.TheVariants.{Card}
use Rattle.t0_core.specs.declared.plan.Step.{Step}
use Rattle.t0_core.specs.declared.plan.Step.TheVariants.{Null}
use Rattle.t0_core.specs.declared.direction.Direction.{Direction}
use Rattle.t0_core.specs.declared.direction.Direction.TheVariants.{FromCard}
use Rattle.t0_core.specs.declared.service.Service.{Service}
use Rattle.t0_core.specs.Character.{Character}
use Rattle.t0_core.specs.Dialogue.{Body, Dialogue, body_characters, foreseen, procedure_byte, to_move}
use Rattle.t0_core.specs.Plan.{Course, IsCut, Follows, plain, segments_of}
use Rattle.t0_core.specs.History.{IsPart, IsPartUnder}
use Rattle.t0_core.specs.CardHistory.{IsAt}
use Rattle.t0_core.specs.Meaning.{Tpdu, Prepared}
use Rattle.t0_core.specs.Front.{Front, fresh, In_header, In_body, After_first, front_characters, IsBetween, IsBegun, IsFront, with_segment, header_only}
use Rattle.t0_core.specs.CardSide.{Stage, Taking_header, Refusing, Serving, Ending, StandsAt, IsOnPlan, IsServed, whole_of}
use Rattle.t0_core.specs.FrontLaws.{goes_on}
use Rattle.t0_core.specs.DialogueLaws.{ends_with}
use Rattle.t0_core.proofs.PlanLemmas.{frugal_goes_on, nulls_follow, nulls_move_nothing, nulls_where_none_left, moves_all}
use Rattle.t0_core.specs.WholeLaws.{Any, zeros, longer, closed, closed_is, head_of, owes}

abbrev itself : List Step → Course
itself steps = record { steps = steps; cut = 256 }

-- a body with all of these segments, which begins with these characters
record Reaches (cs : List Character) (b x : Body) (segments : List Step) : Type 0 where
  pub header_is : x.header ≡ b.header
  pub p3_is : x.p3 ≡ b.p3
  pub direction_is : x.direction ≡ b.direction
  pub segments_are : x.segments ≡ segments
  pub begun : IsBegun x
  pub between : IsBetween x
  pub rest : List Character
  pub characters_are : body_characters x ≡ cs ++ rest

-- segments that are still to come, one by one, each with data
extends : (cs : List Character) (x : Body) (later : List Step) (rest : List Character) → IsBegun x
    → IsBetween x
    → (ins_is_valid x.header.ins ≡ false → AllByRecursion (λ s. s ≡ Null) later)
    → body_characters x ≡ cs ++ rest → (y : Body) × Reaches cs x y (x.segments ++ later)
extends cs x [] rest begun between nulls is = (
  x,
  record {
    header_is = refl;
    p3_is = refl;
    direction_is = refl;
    segments_are = sym (append-nil x.segments);
    begun = begun;
    between = between;
    rest = rest;
    characters_are = is;
  },
)
extends cs x (s ∷ later) rest begun between nulls is =
    let c : Character = (Card, procedure_byte x.header.ins s) in
    let grown = goes_on (In_body x) (In_body (with_segment x s)) c begun
    (inr (inl (between, refl, (s, (λ invalid. (nulls invalid).0), refl, refl)))) in
    let filled = longer Any (to_move (with_segment x s) - length x.moved) (with_segment x s)
    (zeros (with_segment x s)) grown.0 tt (omega (arith, owes (with_segment x s) grown.0)) in
    let y = filled.0 in
    let l = filled.1 in
    let came : body_characters y ≡ cs ++ (rest ++ c ∷ l.rest) =
    l.characters_are ∙ ap (λ bs. bs ++ l.rest) grown.1
    ∙ append_assoc (body_characters x) (c ∷ []) l.rest ∙ ap (λ bs. bs ++ c ∷ l.rest) is
    ∙ append_assoc cs rest (c ∷ l.rest) in
    let more = extends cs y later (rest ++ c ∷ l.rest) l.begun l.between
    (λ invalid. (nulls (ap (λ (h : Header). ins_is_valid h.ins) (sym l.header_is) ∙ invalid)).1)
    came in (
      more.0,
      record {
        header_is = more.1.header_is ∙ l.header_is;
        p3_is = more.1.p3_is ∙ l.p3_is;
        direction_is = more.1.direction_is ∙ l.direction_is;
        segments_are = more.1.segments_are ∙ ap (λ ss. ss ++ later) l.segments_are
            ∙ append_assoc x.segments (s ∷ []) later;
        begun = more.1.begun;
        between = more.1.between;
        rest = more.1.rest;
        characters_are = more.1.characters_are;
      },
    )

-- with a status it is a dialogue
ended : (cs : List Character) (plan : Course) (b x : Body) (segments : List Step) → IsCut plan.cut
    → Reaches cs b x segments → Follows (closed x) plan → IsPartUnder plan cs
ended cs plan b x segments in_range reaches follows =
    let more = head_of reaches.rest (Card, 0x90) (Card, 0x00) in (
      closed x,
      more.0,
      more.1,
      record {
        is_dialogue = closed_is x reaches.begun reaches.between;
        in_range = in_range;
        follows = follows;
      },
      ap (λ bs. bs ++ (Card, 0x90) ∷ (Card, 0x00) ∷ []) reaches.characters_are
          ∙ append_assoc cs reaches.rest ((Card, 0x90) ∷ (Card, 0x00) ∷ [])
          ∙ ap (λ bs. cs ++ bs) more.2,
    )

no_bytes : (bytes : List ℕ) → length bytes ≡ 0 → bytes ≡ []
no_bytes [] none = refl
no_bytes (x ∷ bytes) none = absurd (omega (arith, none))

-- if no data move, only NULLs are still to come
no_data : (cs : List Character) (plan : Course) (b : Body) (later : List Step)
    (rest : List Character) → IsCut plan.cut → IsBegun b → IsBetween b
    → segments_of plan.steps 0 ≡ b.segments ++ later
    → AllByRecursion (λ s. s ≡ Null) later → body_characters b ≡ cs ++ rest → IsPartUnder plan cs
no_data cs plan b later rest in_range begun between on nulls is =
    let reached = extends cs b later rest begun between (λ _. nulls) is in
    let y = reached.0 in
    let all : y.segments ≡ segments_of plan.steps 0 = reached.1.segments_are ∙ sym on in
    let All_nulls : List Step → Type 0 = λ ss. AllByRecursion (λ s. s ≡ Null) ss in
    let none : length y.moved ≡ 0 = reached.1.between
    ∙ nulls_move_nothing y.segments (foreseen y.direction y.p3)
    (subst All_nulls (sym all) (nulls_where_none_left plan.steps)) in
    ended cs plan b y (b.segments ++ later) in_range reached.1
    (record {
      all_or_nothing = inl (no_bytes y.moved none);
      step_by_step = all ∙ ap (λ n. segments_of plan.steps n) (sym none);
    })

-- during a service: the missing data of the current segment, and then the segments still to come
in_service : {State : Type 0} (prepared : Prepared State) (plan : Course) (s : Service)
    (came : List ℕ) (cut : ℕ) (b : Body) (later : List Step)
    → IsCut plan.cut → IsFront (In_body b) → IsServed prepared s came cut b
    → segments_of plan.steps (whole_of s) ≡ b.segments ++ later
    → IsPartUnder plan (body_characters b)
in_service prepared plan s came cut b later in_range is at on =
    let filled = longer Any (to_move b - length b.moved) b (zeros b) is tt
    (omega (arith, owes b is)) in
    let x = filled.0 in
    let l = filled.1 in
    let valid : ins_is_valid x.header.ins ≡ true =
    ap (λ (h : Header). ins_is_valid h.ins) (l.header_is ∙ at.header_is) ∙ at.valid in
    let reached = extends (body_characters b) x later l.rest l.begun l.between
    (λ invalid. absurd (let e : true ≡ false = sym valid ∙ invalid in cc)) l.characters_are in
    let y = reached.0 in
    let whole : foreseen y.direction y.p3 ≡ whole_of s =
    rw (reached.1.direction_is, reached.1.p3_is, l.direction_is, l.p3_is, at.direction_is, at.p3_is)
    refl in
    let all : y.segments ≡ segments_of plan.steps (whole_of s) =
    reached.1.segments_are ∙ ap (λ ss. ss ++ later) l.segments_are ∙ sym on in
    let moved : length y.moved ≡ whole_of s =
    reached.1.between ∙ rw (all, whole) (moves_all plan.steps (whole_of s)) in
    ended (body_characters b) plan x y (x.segments ++ later) in_range reached.1
    (record {
      all_or_nothing = inr (moved ∙ sym whole);
      step_by_step = all ∙ ap (λ n. segments_of plan.steps n) (sym moved);
    })

in_header : (bytes : List ℕ) → length bytes < 5 → (h : Header) × (rest : List Character)
    × (body_characters (header_only h 0 FromCard) ≡ front_characters (In_header bytes) ++ rest)
in_header [] lt = (record { cla = 0; ins = 0; p1 = 0; p2 = 0 }, _, refl)
in_header (a ∷ []) lt = (record { cla = a; ins = 0; p1 = 0; p2 = 0 }, _, refl)
in_header (a ∷ b ∷ []) lt = (record { cla = a; ins = b; p1 = 0; p2 = 0 }, _, refl)
in_header (a ∷ b ∷ c ∷ []) lt = (record { cla = a; ins = b; p1 = c; p2 = 0 }, _, refl)
in_header (a ∷ b ∷ c ∷ d ∷ []) lt = (record { cla = a; ins = b; p1 = c; p2 = d }, _, refl)
in_header (a ∷ b ∷ c ∷ d ∷ e ∷ bytes) lt = absurd (omega (arith, lt))

fresh_body : (cs : List Character) (plan : Course) (h : Header) (p3 : ℕ) (d : Direction)
    (rest : List Character) → IsCut plan.cut → body_characters (header_only h p3 d) ≡ cs ++ rest
    → IsPartUnder plan cs
fresh_body cs plan h p3 d rest in_range is =
    no_data cs plan (header_only h p3 d) (segments_of plan.steps 0) rest in_range
    (record { in_last = refl; only_nulls = λ _. tt }) refl refl
    (nulls_where_none_left plan.steps) is

-- for the plan that it is on
pub planned_under : {State : Type 0} (Does : State → ℕ → Tpdu → State → Type 0) (standing : State)
    (prepared : Prepared State) (stage : Stage) (cut : ℕ) (plan : Course) (front : Front)
    → IsCut plan.cut → IsFront front → StandsAt Does standing prepared stage cut front
    → IsOnPlan stage plan front → IsPartUnder plan (front_characters front)
planned_under Does standing prepared (Taking_header bytes) cut plan (In_header f) in_range is at
    on = let h = in_header f is in
    fresh_body (front_characters (In_header f)) plan h.0 0 FromCard h.1 in_range h.2
planned_under Does standing prepared (Taking_header bytes) cut plan (In_body b) in_range is at on =
    let P : Body → Type 0 = λ x. IsPartUnder plan (body_characters x) in
    subst P (sym at.1) (fresh_body (body_characters (header_only b.header b.p3 b.direction)) plan
    b.header b.p3 b.direction [] in_range (sym (append-nil _)))
planned_under Does standing prepared (Refusing h p3 status done) cut plan (In_body b) in_range is at
    on =
    let none : to_move b ≡ 0 = nulls_move_nothing b.segments (foreseen b.direction b.p3) at.nulls in
    no_data (body_characters b) plan b (segments_of (drop done plan.steps) 0) [] in_range is
    (ap length at.no_data ∙ sym none) on (nulls_where_none_left (drop done plan.steps))
    (sym (append-nil (body_characters b)))
planned_under Does standing prepared (Serving s came) cut plan (In_body b) in_range is at on =
    in_service prepared plan s came cut b
    (segments_of (drop s.done plan.steps) (whole_of s - s.until)) in_range is at on
planned_under Does standing prepared (Ending status) cut plan (After_first b sw1) in_range is at
    on =
    let d : Dialogue = record { body = b; status = status } in (
      d,
      (Card, status.1),
      [],
      record { is_dialogue = at.4; in_range = in_range; follows = on },
      ends_with (After_first b sw1) status.1 d
          (refl, at.4.is_status.1, ap (λ x. record { body = b; status = (x, status.1) }) at.0),
    )
planned_under _ _ _ _ _ _ _ _ _ at _ = absurd at

abbrev any_cut : IsCut 256
any_cut = (lit≤ tt, lit≤ tt)

-- for some plan in any case: the one made of its own segments
planned : {State : Type 0} (Does : State → ℕ → Tpdu → State → Type 0) (standing : State)
    (prepared : Prepared State) (stage : Stage) (cut : ℕ) (front : Front)
    → IsFront front → StandsAt Does standing prepared stage cut front
    → IsPart (front_characters front)
planned Does standing prepared (Taking_header bytes) cut front is at = (
  plain,
  planned_under Does standing prepared (Taking_header bytes) cut plain front any_cut is at
      tt,
)
planned Does standing prepared (Refusing h p3 status done) cut (In_body b) is at =
    let none : to_move b ≡ 0 =
    nulls_move_nothing b.segments (foreseen b.direction b.p3) at.nulls in (
      itself b.segments,
      no_data (body_characters b) (itself b.segments) b [] [] any_cut is
          (ap length at.no_data ∙ sym none)
          (sym (nulls_follow b.segments at.nulls) ∙ sym (append-nil b.segments)) tt
          (sym (append-nil (body_characters b))),
    )
planned Does standing prepared (Serving s came) cut (In_body b) is at = (
  itself b.segments,
  in_service prepared (itself b.segments) s came cut b _ any_cut is at
      (frugal_goes_on b.segments (whole_of s) at.frugal),
)
planned Does standing prepared (Ending status) cut (After_first b sw1) is at = (
  itself b.segments,
  planned_under Does standing prepared (Ending status) cut (itself b.segments) (After_first b sw1)
      any_cut is at
      (record { all_or_nothing = at.5.all_or_nothing; step_by_step = at.5.step_by_step }),
)
planned _ _ _ _ _ _ _ at = absurd at

-- the front of a card's end
pub at_front : {State : Type 0} (Does : State → ℕ → Tpdu → State → Type 0) (standing : State)
    (prepared : Prepared State) (stage : Stage) (cut : ℕ) (front : Front)
    → IsFront front → IsCut cut → StandsAt Does standing prepared stage cut front
    → IsAt Does standing prepared stage cut front
at_front Does standing prepared stage cut front is in_range stands = record {
  is_front = is;
  is_part = planned Does standing prepared stage cut front is stands;
  in_range = in_range;
  stands = stands;
}

pub at_fresh : {State : Type 0} (Does : State → ℕ → Tpdu → State → Type 0) (standing : State)
    (prepared : Prepared State) (cut : ℕ) → IsCut cut
    → IsAt Does standing prepared (Taking_header []) cut fresh
at_fresh Does standing prepared cut in_range =
    at_front Does standing prepared (Taking_header []) cut fresh (lit< tt) in_range (refl, lit< tt)
