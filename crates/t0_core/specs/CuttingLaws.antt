-- Laws: the next character of a dialogue at a front is determined, and no dialogue begins another
-- one with data in the same direction.
use Rattle.std.proofs.Common.{◌≡◌, ℕ, suc, ◌+◌, ◌<◌, ◌≤◌, List, [], ◌∷◌, ◌++◌, length, take, refl, sym, subst, ◌∙◌, ap, arith, inl, inr, ◌⊎◌, true, false, Bool, Some, None, ◌==◌, slice_index, if◌then◌else◌, append-nil, append_assoc, length-append}
use Rattle.std.proofs.Math.Seq.{get_or-append_seam}
use Rattle.std.proofs.lemmas.Bool.{ne_eqb}
use Rattle.std.proofs.lemmas.List.{get_or-take, append_cancel_left}
use Rattle.apdu_core.specs.declared.header.Header.{Header}
use Rattle.apdu_core.specs.HeaderBytes.{header_bytes, ins_is_valid}
use Rattle.t0_core.specs.declared.end.End.{End}
use Rattle.t0_core.specs.declared.end.End.TheVariants.{Terminal, Card}
use Rattle.t0_core.specs.declared.plan.Step.{Step}
use Rattle.t0_core.specs.declared.plan.Step.TheVariants.{Null}
use Rattle.t0_core.specs.declared.data_sent.DataSent.{DataSent}
use Rattle.t0_core.specs.declared.direction.Direction.{Direction}
use Rattle.t0_core.specs.declared.direction.Direction.TheVariants.{ToCard, FromCard}
use Rattle.t0_core.specs.declared.host_end.HostStage.{HostStage}
use Rattle.t0_core.specs.declared.host_end.HostStage.TheVariants.{SendingHeader, Awaiting, Moving, AwaitingSecond}
use Rattle.t0_core.specs.declared.host_end.HostTurn.TheVariants.{Sends, Listens}
use Rattle.t0_core.specs.declared.line_fault.LineFault.TheVariants.{BadProcedure, TooLong}
use Rattle.t0_core.specs.Character.{Character, sent_by}
use Rattle.t0_core.specs.Dialogue.{Body, Dialogue, IsDialogue, characters, body_characters, procedure_byte, data_sender, to_move}
use Rattle.t0_core.specs.Meaning.{received}
use Rattle.t0_core.specs.Room.{Room}
use Rattle.t0_core.specs.Front.{Front, In_header, In_body, After_first, IsFront, front_characters, from_card, fresh, GoesOn, GoesOnInHeader, GoesThrough, Ends, IsBetween, header_only, with_segment, with_moved}
use Rattle.t0_core.specs.HostSide.{Hosting, HostStandsAt, HasRoom, IsOpenedBy, IsRequest, AreOwn, at_stage, turn_of, data_turn, fault_of, data_fault, procedure_fault, step_of}
use Rattle.t0_core.specs.WholeLaws.{GoesTo, reached, goes_through, whole_front}
use Rattle.t0_core.specs.DialogueLaws.{header_next}
use Rattle.t0_core.specs.ProcedureLaws.{Apart, apart_where_valid, apart_where_invalid, step_is, status_is_no_step}
use Rattle.t0_core.specs.FrontLaws.{begins_between}

-- ---- a front continues in one way

same_header : (a b : Header) → header_bytes a ≡ header_bytes b → a ≡ b
same_header a b e =
    let byte : ℕ → ℕ → ℕ → ℕ → Header = λ x y z w. record { cla = x; ins = y; p1 = z; p2 = w } in
    let at : ℕ → List ℕ → ℕ = λ k bytes. slice_index bytes k in
    ap (λ x. byte x a.ins a.p1 a.p2) (ap (at 0) e) ∙ ap (λ x. byte b.cla x a.p1 a.p2) (ap (at 1) e)
    ∙ ap (λ x. byte b.cla b.ins x a.p2) (ap (at 2) e)
    ∙ ap (λ x. byte b.cla b.ins b.p1 x) (ap (at 3) e)

-- `x` continues `b`: it has the same segments and data, or more
record Grown (b x : Body) : Type 0 where
  header_is : b.header ≡ x.header
  direction_is : b.direction ≡ x.direction
  more : List ℕ
  moved_are : x.moved ≡ b.moved ++ more

itself : (b : Body) → Grown b b
itself b = record {
  header_is = refl;
  direction_is = refl;
  more = [];
  moved_are = sym (append-nil b.moved);
}

abbrev IsOf : Front → Body → Type 0
IsOf (In_header bytes) x = Unit {0}
IsOf (In_body b) x = Grown b x
IsOf (After_first b sw1) x = Grown b x

before_data : (b x : Body) (y : ℕ) → Grown (with_moved b y) x → Grown b x
before_data b x y is = record {
  header_is = is.header_is;
  direction_is = is.direction_is;
  more = y ∷ is.more;
  moved_are = is.moved_are ∙ append_assoc b.moved (y ∷ []) is.more;
}

before_segment : (b x : Body) (s : Step) → Grown (with_segment b s) x → Grown b x
before_segment b x s is = record {
  header_is = is.header_is;
  direction_is = is.direction_is;
  more = is.more;
  moved_are = is.moved_are;
}

before : (x : Body) (front new : Front) (c : Character) → GoesOn front c new → IsOf new x
    → IsOf front x
before x (In_header bytes) new c goes is = tt
before x (In_body b) new c (inl (lt, from, new_is)) is =
    let P : Front → Type 0 = λ f. IsOf f x in before_data b x c.1 (subst P new_is is)
before x (In_body b) new c (inr (inl (between, from, (s, nulls, byte, new_is)))) is =
    let P : Front → Type 0 = λ f. IsOf f x in before_segment b x s (subst P new_is is)
before x (In_body b) new c (inr (inr (between, from, status, new_is))) is =
    let P : Front → Type 0 = λ f. IsOf f x in subst P new_is is
before x (After_first b sw1) new c goes is = absurd goes

on_way_to : (x : Body) (front f : Front) (cs : List Character) → GoesTo front cs f → IsOf f x
    → IsOf front x
on_way_to x front f [] to is = let P : Front → Type 0 = λ g. IsOf g x in subst P (sym to) is
on_way_to x front f (c ∷ cs) to is =
    before x front to.0 c to.1 (on_way_to x to.0 f cs to.2 is)

on_way : (front : Front) (cs : List Character) (d : Dialogue) → GoesThrough front cs d
    → IsOf front d.body
on_way front [] d on = absurd on
on_way (In_header bytes) (c ∷ cs) d on = tt
on_way (In_body b) (c ∷ cs) d (inl (ends, none)) = absurd ends
on_way (After_first b sw1) (c ∷ cs) d (inl ((from, small, is), none)) =
    let P : Body → Type 0 = λ x. Grown b x in subst P (sym (ap (λ (e : Dialogue). e.body) is))
    (itself b)
on_way (In_body b) (c ∷ cs) d (inr (new, goes, on)) =
    before d.body (In_body b) new c goes (on_way new cs d on)
on_way (After_first b sw1) (c ∷ cs) d (inr (new, goes, on)) = absurd goes

-- procedure bytes and SW1 differ, whether or not INS is valid
abbrev IsAllowed : ℕ → Step → Type 0
IsAllowed ins s = ins_is_valid ins ≡ false → s ≡ Null

all_apart : (ins : ℕ) → ins < 256 → Apart ins (IsAllowed ins)
all_apart ins small = by (ins_is_valid ins) refl
  where
    by : (v : Bool) → ins_is_valid ins ≡ v → Apart ins (IsAllowed ins)
    by true valid = let apart = apart_where_valid ins valid small in record {
      steps = λ s t _ _ e. apart.steps s t tt tt e;
      status = λ s byte _ first e. apart.status s byte tt first e;
    }
    by false invalid = let apart = apart_where_invalid ins in record {
      steps = λ s t a b e. apart.steps s t (a invalid) (b invalid) e;
      status = λ s byte a first e. apart.status s byte (a invalid) first e;
    }

header_once : (bytes : List ℕ) (c : Character) (x y : Body) (new other : Front)
    → x.direction ≡ y.direction → GoesOnInHeader bytes c new → GoesOnInHeader bytes c other
    → IsOf new x → IsOf other y → new ≡ other
header_once bytes c x y new other way (t, inl (lt, new_is)) (u, inl (le, other_is)) of_x of_y =
    new_is ∙ sym other_is
header_once bytes c x y new other way (t, inl (lt, new_is)) (u, inr (h, z, is, other_is)) of_x
    of_y = absurd (omega (arith, lt, ap length is))
header_once bytes c x y new other way (t, inr (h, z, is, new_is)) (u, inl (lt, other_is)) of_x
    of_y = absurd (omega (arith, lt, ap length is))
header_once bytes c x y new other way (t, inr (h, z, is, new_is)) (u, inr (g, w, also, other_is))
    of_x of_y =
    let P : Front → Type 0 = λ f. IsOf f x in
    let Q : Front → Type 0 = λ f. IsOf f y in
    let left : IsOf (In_body (header_only h c.1 z)) x = subst P new_is of_x in
    let right : IsOf (In_body (header_only g c.1 w)) y = subst Q other_is of_y in
    new_is ∙ ap (λ k. In_body (header_only k c.1 z)) (same_header h g (sym is ∙ also))
    ∙ ap (λ k. In_body (header_only g c.1 k))
    (left.direction_is ∙ way ∙ sym right.direction_is) ∙ sym other_is

body_once : (b : Body) (c : Character) (new other : Front) → b.header.ins < 256
    → GoesOn (In_body b) c new → GoesOn (In_body b) c other → new ≡ other
body_once b c new other small (inl (lt, from, is)) (inl (le, also, are)) = is ∙ sym are
body_once b c new other small (inl (lt, from, is)) (inr begins) =
    absurd (omega (arith, lt, (begins_between b c other begins).0))
body_once b c new other small (inr begins) (inl (lt, from, is)) =
    absurd (omega (arith, lt, (begins_between b c new begins).0))
body_once b c new other small (inr (inl (bt, from, (s, ns, byte, is))))
    (inr (inl (also, by, (t, nt, same, are)))) =
    is ∙ ap (λ u. In_body (with_segment b u))
    ((all_apart b.header.ins small).steps s t ns nt (sym byte ∙ same)) ∙ sym are
body_once b c new other small (inr (inl (bt, from, (s, ns, byte, is))))
    (inr (inr (also, by, status, are))) =
    absurd ((all_apart b.header.ins small).status s c.1 ns status byte)
body_once b c new other small (inr (inr (also, by, status, are)))
    (inr (inl (bt, from, (s, ns, byte, is)))) =
    absurd ((all_apart b.header.ins small).status s c.1 ns status byte)
body_once b c new other small (inr (inr (bt, from, status, is)))
    (inr (inr (also, by, first, are))) = is ∙ sym are

goes_once : (front new other : Front) (c : Character) (x y : Body) → x.direction ≡ y.direction
    → y.header.ins < 256 → GoesOn front c new → GoesOn front c other → IsOf new x → IsOf other y
    → new ≡ other
goes_once (In_header bytes) new other c x y way small goes also of_x of_y =
    header_once bytes c x y new other way goes also of_x of_y
goes_once (In_body b) new other c x y way small goes also of_x of_y =
    let is = before y (In_body b) other c also of_y in
    let P : Header → Type 0 = λ h. h.ins < 256 in
    body_once b c new other (subst P (sym is.header_is) small) goes also
goes_once (After_first b sw1) new other c x y way small goes also of_x of_y = absurd goes

no_end : (front new : Front) (c k : Character) (d : Dialogue) → Ends front c d
    → GoesOn front k new → ⊥
no_end (In_header bytes) new c k d ends goes = ends
no_end (In_body b) new c k d ends goes = ends
no_end (After_first b sw1) new c k d ends goes = goes

-- If these characters lead to a front, a dialogue that starts with them passes through that front,
-- provided both have the same direction.
passes : (x : Body) (front f : Front) (cs ds r rest : List Character) (d : Dialogue)
    → x.direction ≡ d.body.direction → d.body.header.ins < 256 → IsOf f x → GoesTo front cs f
    → GoesThrough front ds d → ds ++ r ≡ cs ++ rest
    → (more : List Character) × GoesThrough f more d × (more ++ r ≡ rest)
passes x front f [] ds r rest d way small is to on e =
    let P : Front → Type 0 = λ g. GoesThrough g ds d in (ds, subst P to on, e)
passes x front f (c ∷ cs) [] r rest d way small is to on e = absurd on
passes x front f (c ∷ cs) (k ∷ ds) r rest d way small is to (inl (ends, none)) e =
    absurd (no_end front to.0 k c d ends to.1)
passes x front f (c ∷ cs) (k ∷ ds) r rest d way small is to (inr (new, goes, on)) e =
    let first : k ≡ c = cc in
    let others : ds ++ r ≡ cs ++ rest = cc in
    let P : Character → Type 0 = λ z. GoesOn front z new in
    let same = goes_once front to.0 new c x d.body way small to.1 (subst P first goes)
    (on_way_to x to.0 f cs to.2 is) (on_way new ds d on) in
    let Q : Front → Type 0 = λ g. GoesThrough g ds d in
    passes x to.0 f cs ds r rest d way small is to.2 (subst Q (sym same) on) others

-- the same from the start of a dialogue
comes_by : (x : Body) (front : Front) (d : Dialogue) (r rest : List Character)
    → x.direction ≡ d.body.direction → d.body.header.ins < 256 → IsOf front x → IsFront front
    → IsDialogue d → characters d ++ r ≡ front_characters front ++ rest
    → (more : List Character) × GoesThrough front more d × (more ++ r ≡ rest)
comes_by x front d r rest way small is front_is dialogue e =
    passes x fresh front (front_characters front) (characters d) r rest d way small is
    (reached front front_is) (goes_through d dialogue) e

last_one : (b : Body) (sw1 byte : ℕ) (d : Dialogue) (more r s : List Character)
    → GoesThrough (After_first b sw1) more d → more ++ r ≡ (Card, byte) ∷ s
    → (d ≡ record { body = b; status = (sw1, byte) }) × (r ≡ s)
last_one b sw1 byte d [] r s on e = absurd on
last_one b sw1 byte d (c ∷ cs) r s (inr (new, goes, on)) e = absurd goes
last_one b sw1 byte d (c ∷ cs) r s (inl ((from, small, is), none)) e =
    let k : Character = (Card, byte) in
    let first : c ≡ k = cc in
    let others : cs ++ r ≡ s = cc in (
      is ∙ ap (λ (z : Character). record { body = b; status = (sw1, z.1) }) first,
      ap (λ z. z ++ r) (sym none) ∙ others,
    )

-- Two dialogues with data in the same direction, whose characters begin one list, are equal.
-- Neither begins the other.
pub same_dialogue : (d e : Dialogue) (r s : List Character) → d.body.header.ins < 256
    → IsDialogue d → IsDialogue e → d.body.direction ≡ e.body.direction
    → characters d ++ r ≡ characters e ++ s → (d ≡ e) × (r ≡ s)
same_dialogue d e r s small is also way equal =
    let b = e.body in
    let first : Character = (Card, e.status.0) in
    let second : Character = (Card, e.status.1) in
    let by = comes_by b (After_first b e.status.0) d r (second ∷ s) (sym way) small (itself b)
    (whole_front e also) is
    (equal ∙ append_assoc (body_characters b) (first ∷ second ∷ []) s
    ∙ sym (append_assoc (body_characters b) (first ∷ []) (second ∷ s))) in
    last_one b e.status.0 e.status.1 d by.0 r s by.1 by.2

-- ---- the next character

-- The terminal's end does what the character requires: it sends it, or takes it if there is room or
-- it is the last one.
abbrev pub Suits : Hosting → Front → Dialogue → Character → List Character → Type 0
Suits host front d c after =
    ((c.0 ≡ Terminal) × (turn_of host ≡ Sends c.1))
    ⊎ ((c.0 ≡ Card) × (turn_of host ≡ Listens)
    × ((gather : Room) → HasRoom gather front d ⊎ (after ≡ [])
    → fault_of host gather c.1 ≡ None))

abbrev pub HasNext : Hosting → Front → Dialogue → List Character → Type 0
HasNext host front d rest =
    (c : Character) × (cs : List Character) × (rest ≡ c ∷ cs) × Suits host front d c cs

in_header : (host : Hosting) (sent : ℕ) (bytes : List ℕ) (d : Dialogue) (r rest : List Character)
    → sent < 5 → bytes ≡ take sent (header_bytes host.header ++ host.p3 ∷ [])
    → IsOpenedBy host d.body → characters d ++ r ≡ sent_by Terminal bytes ++ rest
    → HasNext (at_stage host (SendingHeader sent)) (In_header bytes) d rest
in_header host sent bytes d r rest lt is opened e =
    let all = header_bytes d.body.header ++ d.body.p3 ∷ [] in
    let same : all ≡ header_bytes host.header ++ host.p3 ∷ [] = rw (opened.0, opened.1) refl in
    let next = header_next d.body.header d.body.p3 sent _ lt in (
      (Terminal, slice_index all sent),
      next.0,
      append_cancel_left (sent_by Terminal (take sent all)) rest _
          (ap (λ bs. sent_by Terminal bs ++ rest) (ap (take sent) same ∙ sym is) ∙ sym e ∙ next.1),
      inl (refl, ap (λ bs. Sends (slice_index bs sent)) (sym same)),
    )

-- the data character at an index
read_after : (content before m others : List ℕ) (byte : ℕ) → m ≡ take (length m) content
    → m ≡ before ++ byte ∷ others → slice_index content (length before) ≡ byte
read_after content before m others byte own is =
    let n : length m ≡ length before + suc (length others) = ap length is
    ∙ length-append before (byte ∷ others) in
    sym (get_or-take (length m) content (length before) 0 (omega (arith, n)))
    ∙ ap (λ z. slice_index z (length before)) (sym own ∙ is)
    ∙ get_or-append_seam before byte others 0

room_left : (gather : Room) (n : ℕ) → 0 < n → length gather.bytes + n ≤ gather.limit
    → (if length gather.bytes == gather.limit then Some TooLong else None) ≡ None
room_left gather n some fits =
    rw (ne_eqb (length gather.bytes) gather.limit
    (λ same. absurd (omega (arith, same, some, fits)))) refl

in_data : (host : Hosting) (moved until : ℕ) (b : Body) (d : Dialogue) (x : Direction)
    (others : List ℕ) (after : List Character) (byte : ℕ) (rest : List Character)
    → (after ≡ [] → ⊥) → x ≡ host.direction → IsOpenedBy host b → IsOpenedBy host d.body
    → length b.moved ≡ moved → d.body.moved ≡ b.moved ++ byte ∷ others
    → rest ≡ (data_sender x, byte) ∷ after
    → HasNext (at_stage host (Moving moved until)) (In_body b) d rest
in_data host moved until b d ToCard others after byte rest goes is of_b of_d n moved_is rest_is =
    let Own : Direction → Type 0 = λ x. AreOwn x host.content d.body.moved in
    let own : Own ToCard = subst Own (sym is) of_d.3 in (
      (Terminal, byte),
      after,
      rest_is,
      inl (
        refl,
        ap (λ x. data_turn x host.content moved) (sym is)
            ∙ ap (λ k. Sends (slice_index host.content k)) (sym n)
            ∙ ap Sends (read_after host.content b.moved d.body.moved others byte own moved_is),
      ),
    )
in_data host moved until b d FromCard others after byte rest goes is of_b of_d n moved_is at = (
  (Card, byte),
  after,
  at,
  inr (
    refl,
    ap (λ x. data_turn x host.content moved) (sym is),
    λ gather fits. elim fits [
      | inl room ↦
          ap (λ x. data_fault x gather) (sym is)
          ∙ room_left gather (suc (length others)) (omega arith)
          (fitting gather room)
      | inr last ↦ absurd (goes last)
    ],
  ),
)
  where
    of_dialogue : (f : Dialogue) → f.body.direction ≡ FromCard → received f ≡ f.body.moved
    of_dialogue f e = rw e refl

    fitting : (gather : Room) → HasRoom gather (In_body b) d
        → length gather.bytes + suc (length others) ≤ gather.limit
    fitting gather fits =
        let one : length (received d) ≡ length d.body.moved =
        ap length (of_dialogue d (of_d.2 ∙ sym is)) in
        let two : length (from_card b.direction b.moved) ≡ length b.moved =
        ap (λ x. length (from_card x b.moved)) (of_b.2 ∙ sym is) in
        fits (suc (length others))
        (omega (arith, one, two, ap length moved_is, length-append b.moved (byte ∷ others)))

in_segment : (host : Hosting) (moved until : ℕ) (b : Body) (d : Dialogue)
    (more r rest : List Character) → IsOpenedBy host b → IsOpenedBy host d.body
    → length b.moved ≡ moved → moved < until → to_move b ≡ until → GoesThrough (In_body b) more d
    → more ++ r ≡ rest → HasNext (at_stage host (Moving moved until)) (In_body b) d rest
in_segment host moved until b d [] r rest of_b of_d n lt owed on e = absurd on
in_segment host moved until b d (c ∷ cs) r rest of_b of_d n lt owed (inl (ends, none)) e =
    absurd ends
in_segment host moved until b d (c ∷ cs) r rest of_b of_d n lt owed
    (inr (new, inr begins, on)) e =
    absurd (omega (arith, n, lt, owed, (begins_between b c new begins).0))
in_segment host moved until b d (c ∷ cs) r rest of_b of_d n lt owed
    (inr (new, inl (less, from, new_is), on)) e =
    let P : Front → Type 0 = λ f. GoesThrough f cs d in
    let is = on_way (In_body (with_moved b c.1)) cs d (subst P new_is on) in
    in_data host moved until b d b.direction is.more (cs ++ r) c.1 rest (some_left cs on) of_b.2
    of_b of_d n (is.moved_are ∙ append_assoc b.moved (c.1 ∷ []) is.more)
    (sym e ∙ ap (λ (z : End). (z, c.1) ∷ (cs ++ r)) from)
  where
    some_left : (ks : List Character) → GoesThrough new ks d → ks ++ r ≡ [] → ⊥
    some_left [] goes none = absurd goes
    some_left (k ∷ ks) goes none = absurd (cc)

-- between segments the card starts the next one, or its status
between : (host : Hosting) (moved : ℕ) (b : Body) (d : Dialogue) (more r rest : List Character)
    → IsRequest host → IsOpenedBy host b → IsBetween b → GoesThrough (In_body b) more d
    → more ++ r ≡ rest → HasNext (at_stage host (Awaiting moved)) (In_body b) d rest
between host moved b d [] r rest request of_b all on e = absurd on
between host moved b d (c ∷ cs) r rest request of_b all (inl (ends, none)) e = absurd ends
between host moved b d (c ∷ cs) r rest request of_b all (inr (new, inl (lt, from, others), on)) e =
    absurd (omega (arith, lt, all))
between host moved b d (c ∷ cs) r rest request of_b all
    (inr (new, inr (inl (is, from, (s, nulls, byte, new_is))), on)) e =
    let step : step_of host.header.ins c.1 ≡ Some s = ap (step_of host.header.ins) byte
    ∙ ap (λ (h : Header). step_of host.header.ins (procedure_byte h.ins s)) of_b.0
    ∙ step_is host.header.ins s request.0 request.1 in
    (c, cs ++ r, sym e, inr (from, refl, λ gather fits. ap (λ z. procedure_fault z c.1) step))
between host moved b d (c ∷ cs) r rest request of_b all
    (inr (new, inr (inr (is, from, status, new_is)), on)) e =
    let none = status_is_no_step host.header.ins c.1 request.0 request.1 status in (
      c,
      cs ++ r,
      sym e,
      inr (
        from,
        refl,
        λ gather fits. ap (λ s. procedure_fault s c.1) none
            ∙ ap (λ v. if v then None else Some (BadProcedure c.1)) status.0,
      ),
    )

second : (host : Hosting) (sw1 first : ℕ) (sent : DataSent) (b : Body) (d : Dialogue)
    (more r rest : List Character)
    → GoesThrough (After_first b first) more d → more ++ r ≡ rest
    → HasNext (at_stage host (AwaitingSecond sw1 sent)) (After_first b first) d rest
second host sw1 first sent b d [] r rest on e = absurd on
second host sw1 first sent b d (c ∷ cs) r rest (inl ((from, small, is), none)) e =
    (c, cs ++ r, sym e, inr (from, refl, λ gather fits. refl))
second host sw1 first sent b d (c ∷ cs) r rest (inr (new, goes, on)) e = absurd goes

small_ins : (host : Hosting) (d : Dialogue) → IsRequest host → IsOpenedBy host d.body
    → d.body.header.ins < 256
small_ins host d request of_d = let P : Header → Type 0 = λ h. h.ins < 256 in
    subst P (sym of_d.0) request.1

next_at : (host : Hosting) (stage : HostStage) (front : Front) (d : Dialogue)
    (r rest : List Character) → IsRequest host → HostStandsAt (at_stage host stage) front
    → IsFront front → IsDialogue d → IsOpenedBy host d.body
    → characters d ++ r ≡ front_characters front ++ rest
    → HasNext (at_stage host stage) front d rest
next_at host (SendingHeader sent) (In_header bytes) d r rest request stands front_is is of_d e =
    in_header host sent bytes d r rest stands.0 stands.1 of_d e
next_at host (Awaiting moved) (In_body b) d r rest request stands front_is is of_d e =
    let by = comes_by b (In_body b) d r rest (stands.0.2 ∙ sym of_d.2)
    (small_ins host d request of_d) (itself b) front_is is e in
    between host moved b d by.0 r rest request stands.0 stands.1 by.1 by.2
next_at host (Moving moved until) (In_body b) d r rest request stands front_is is of_d e =
    let by = comes_by b (In_body b) d r rest (stands.0.2 ∙ sym of_d.2)
    (small_ins host d request of_d) (itself b) front_is is e in
    in_segment host moved until b d by.0 r rest stands.0 of_d stands.1 stands.2 stands.3 by.1 by.2
next_at host (AwaitingSecond sw1 sent) (After_first b first) d r rest request stands front_is is
    of_d e =
    let by = comes_by b (After_first b first) d r rest (stands.0.2 ∙ sym of_d.2)
    (small_ins host d request of_d) (itself b) front_is is e in
    second host sw1 first sent b d by.0 r rest by.1 by.2
next_at _ _ _ _ _ _ _ stands _ _ _ _ = absurd stands

-- there is one next character
pub at_next : (host : Hosting) (front : Front) (d : Dialogue) (c e : Character)
    (cs es : List Character) → c ∷ cs ≡ e ∷ es → Suits host front d e es → Suits host front d c cs
at_next host front d c e cs es same is =
    let first : c ≡ e = cc in
    let others : cs ≡ es = cc in
    let At : Character → Type 0 = λ k. Suits host front d k cs in
    let After : List Character → Type 0 = λ ks. Suits host front d e ks in
    subst At (sym first) (subst After (sym others) is)

-- If the end is at a front, and the characters of a dialogue that it opened begin with that front,
-- there is a next one, and it suits the end. A front is never a whole dialogue.
pub next_of : (host : Hosting) (front : Front) (d : Dialogue) (r rest : List Character)
    → IsRequest host → HostStandsAt host front → IsFront front → IsDialogue d
    → IsOpenedBy host d.body → characters d ++ r ≡ front_characters front ++ rest
    → HasNext host front d rest
next_of host front d r rest request stands front_is is of_d e =
    next_at host host.stage front d r rest request stands front_is is of_d e

-- the next character of a dialogue at the front suits the end
suits : (host : Hosting) (front : Front) (d : Dialogue) (c : Character) (rest : List Character)
    → IsRequest host → HostStandsAt host front → IsFront front → IsDialogue d
    → IsOpenedBy host d.body → characters d ≡ front_characters front ++ c ∷ rest
    → Suits host front d c rest
suits host front d c rest request stands front_is is of_d e =
    let next = next_of host front d [] (c ∷ rest) request stands front_is is of_d
    (append-nil (characters d) ∙ e) in at_next host front d c next.0 rest next.1 next.2 next.3

pub next_is_sent : (host : Hosting) (front : Front) (d : Dialogue) (byte : ℕ)
    (rest : List Character) → IsRequest host → HostStandsAt host front → IsFront front
    → IsDialogue d → IsOpenedBy host d.body
    → characters d ≡ front_characters front ++ (Terminal, byte) ∷ rest → turn_of host ≡ Sends byte
next_is_sent host front d byte rest request stands front_is is of_d e =
    elim (suits host front d (Terminal, byte) rest request stands front_is is of_d e) [
      | inl sends ↦ sends.1
      | inr takes ↦ let other : Terminal ≡ Card = takes.0 in absurd (cc)
    ]

pub next_is_taken : (host : Hosting) (front : Front) (d : Dialogue) (byte : ℕ)
    (rest : List Character) (gather : Room) → IsRequest host → HostStandsAt host front
    → IsFront front → IsDialogue d → IsOpenedBy host d.body
    → characters d ≡ front_characters front ++ (Card, byte) ∷ rest
    → (turn_of host ≡ Listens) × (HasRoom gather front d → fault_of host gather byte ≡ None)
next_is_taken host front d byte rest gather request stands front_is is of_d e =
    elim (suits host front d (Card, byte) rest request stands front_is is of_d e) [
      | inl sends ↦ let other : Card ≡ Terminal = sends.0 in absurd (cc)
      | inr takes ↦ (takes.1, λ room. takes.2 gather (inl room))
    ]

pub unfinished : (host : Hosting) (front : Front) (d : Dialogue) (rest : List Character)
    → IsRequest host → HostStandsAt host front → IsFront front → IsDialogue d
    → IsOpenedBy host d.body → characters d ++ rest ≡ front_characters front → ⊥
unfinished host front d rest request stands front_is is of_d e =
    let next = next_of host front d rest [] request stands front_is is of_d
    (e ∙ sym (append-nil (front_characters front))) in
    none_comes next.0 next.1 next.2
  where
    none_comes : (c : Character) (cs : List Character) → [] ≡ c ∷ cs → ⊥
    none_comes c cs same = absurd (cc)
