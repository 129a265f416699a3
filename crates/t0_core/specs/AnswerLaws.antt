-- Laws of a terminal's end that takes the answer to a whole TPDU: its front before and after.
use Rattle.std.proofs.Common.{◌≡◌, ℕ, zero, suc, ◌+◌, ◌-◌, ◌<◌, ◌≤◌, List, [], ◌∷◌, ◌++◌, length, take, refl, sym, ◌∙◌, ap, arith, true, false, lit<, Bool, Option, Some, None, ◌⊎◌, inl, inr, if◌then◌else◌, subst, append_assoc, append-nil, length-append}
use Rattle.std.proofs.lemmas.Bool.{eqb-true, le-ltb, ltb-false, leb-true, leb-false}
use Rattle.std.specs.Prelude.{nat_lt, nat_le}
use Rattle.apdu_core.specs.declared.header.Header.{Header}
use Rattle.apdu_core.specs.HeaderBytes.{header_bytes, ins_is_valid}
use Rattle.apdu_core.specs.StatusWord.{StatusWord, IsStatusWord, count}
use Rattle.t0_core.specs.declared.host_end.HostStage.{HostStage}
use Rattle.t0_core.specs.declared.host_end.HostStage.TheVariants.{SendingHeader}
use Rattle.t0_core.specs.declared.direction.Direction.{Direction}
use Rattle.t0_core.specs.declared.direction.Direction.TheVariants.{ToCard, FromCard}
use Rattle.t0_core.specs.declared.plan.Step.{Step}
use Rattle.t0_core.specs.declared.plan.Step.TheVariants.{One}
use Rattle.t0_core.specs.declared.end.End.TheVariants.{Card}
use Rattle.t0_core.specs.declared.host_end.HostTurn.TheVariants.{Sends}
use Rattle.t0_core.specs.Character.{Character}
use Rattle.t0_core.specs.Dialogue.{Body, Dialogue, IsDialogue, foreseen, all_moves, to_move, data_sender, characters, body_characters}
use Rattle.t0_core.specs.Meaning.{received}
use Rattle.t0_core.specs.Front.{Front, In_header, In_body, After_first, IsFront, IsBegun, GoesOn, Ends, GoesThrough, brought, from_card, front_characters, header_only, fresh}
use Rattle.t0_core.specs.FrontLaws.{all_moves-within, goes_on}
use Rattle.t0_core.specs.WholeLaws.{goes_through}
use Rattle.t0_core.specs.Room.{Room}
use Rattle.t0_core.specs.HostSide.{Hosting, HostStandsAt, AreOwn, IsRequest, at_stage, turn_of}
use Rattle.t0_core.specs.declared.answer_fault.AnswerFault.{AnswerFault}
use Rattle.t0_core.specs.declared.answer_fault.AnswerFault.TheVariants.{NotDue, NotAsked, TooMany, TooLong}
use Rattle.t0_core.specs.HostAnswer.{is_due, may_come, excess, answer_fault, Gives}

-- a TPDU is about to start exactly at the fresh front
due_at : (host : Hosting) (stage : HostStage) (front : Front)
    → HostStandsAt (at_stage host stage) front → is_due (at_stage host stage) ≡ true
    → front ≡ fresh
due_at host (SendingHeader sent) (In_header bytes) stands due =
    ap In_header (stands.1 ∙ ap (λ n. take n (header_bytes host.header ++ host.p3 ∷ []))
    (eqb-true sent 0 due))
due_at host (SendingHeader sent) (In_body b) stands due = absurd stands
due_at host (SendingHeader sent) (After_first b first) stands due = absurd stands
due_at host _ _ stands due = absurd (cc)

pub due_is_fresh : (host : Hosting) (front : Front) → HostStandsAt host front
    → is_due host ≡ true → front ≡ fresh
due_is_fresh host front stands due = due_at host host.stage front stands due

fresh_at : (host : Hosting) (stage : HostStage) → HostStandsAt (at_stage host stage) fresh
    → is_due (at_stage host stage) ≡ true
fresh_at host (SendingHeader zero) stands = refl
fresh_at host (SendingHeader (suc n)) stands = absurd (cc)
fresh_at _ _ stands = absurd stands

pub fresh_is_due : (host : Hosting) → HostStandsAt host fresh → is_due host ≡ true
fresh_is_due host stands = fresh_at host host.stage stands

due_sends_at : (host : Hosting) (stage : HostStage) → is_due (at_stage host stage) ≡ true
    → (byte : ℕ) × (turn_of (at_stage host stage) ≡ Sends byte)
due_sends_at host (SendingHeader sent) due = (_, refl)
due_sends_at host _ due = absurd (cc)

-- in that state the end has a character to send
pub due_sends : (host : Hosting) → is_due host ≡ true → (byte : ℕ) × (turn_of host ≡ Sends byte)
due_sends host due = due_sends_at host host.stage due

-- a dialogue brings no more data than may come
brings_at : (direction : Direction) (p3 : ℕ) (segments : List Step) (moved : List ℕ) (d : Dialogue)
    → d.body.direction ≡ direction → d.body.p3 ≡ p3
    → length d.body.moved ≡ all_moves d.body.segments (foreseen direction p3)
    → length (received d) ≤ may_come direction p3
brings_at ToCard p3 segments moved d is p3_is n = rw is (omega arith)
brings_at FromCard p3 segments moved d is p3_is n =
    rw is (omega (arith, n, all_moves-within d.body.segments (count p3)))

pub brings_no_more : (d : Dialogue) → IsDialogue d
    → length (received d) ≤ may_come d.body.direction d.body.p3
brings_no_more d is =
    brings_at d.body.direction d.body.p3 d.body.segments d.body.moved d refl refl
    is.moved_by_segments

no_excess : (due more fits : Bool) (excess fault : AnswerFault) → more ≡ false
    → (if due then (if more then Some excess else (if fits then None else Some TooLong))
    else Some NotDue) ≡ Some fault → (fault ≡ NotDue) ⊎ (fault ≡ TooLong)
no_excess false more fits excess fault none e = inl (cc)
no_excess true true fits excess fault none e = absurd (cc)
no_excess true false true excess fault none e = absurd (cc)
no_excess true false false excess fault none e = inr (cc)

-- an answer of a dialogue that the end opened is refused only for lack of room
pub answer_suits : (host : Hosting) (gather : Room) (bytes : List ℕ) (sw : StatusWord)
    (d : Dialogue) (fault : AnswerFault) → Gives host d bytes sw
    → answer_fault host gather bytes ≡ Some fault → (fault ≡ NotDue) ⊎ (fault ≡ TooLong)
answer_suits host gather bytes sw d fault gives e =
    let same : may_come d.body.direction d.body.p3 ≡ may_come host.direction host.p3 =
    rw (gives.opened.2, gives.opened.1) refl in
    no_excess (is_due host) (nat_lt (may_come host.direction host.p3) (length bytes))
    (nat_le (length gather.bytes + length bytes) gather.limit) (excess host.direction) fault
    (le-ltb (may_come host.direction host.p3) (length bytes)
    (omega (arith, brings_no_more d gives.is_dialogue, same, ap length gives.brings))) e

-- ---- each answer that is taken, or lacks room, is that of a dialogue

abbrev ones : List ℕ → List Step
ones [] = []
ones (b ∷ bytes) = One ∷ ones bytes

ones_move : (bytes : List ℕ) (n : ℕ) → length bytes ≤ n → length bytes ≡ all_moves (ones bytes) n
ones_move [] n le = refl
ones_move (b ∷ bytes) zero le = absurd (omega (arith, le))
ones_move (b ∷ bytes) (suc n) le =
    let same : (suc n) - 1 ≡ n = omega arith in
    rw same (omega (arith, ones_move bytes n (omega (arith, le))))

valid_is : (v : Bool) → v ≡ true → v ≡ false → ⊥
valid_is true a b = absurd (cc)
valid_is false a b = absurd (cc)

none_come : (bytes : List ℕ) → length bytes ≤ 0 → bytes ≡ []
none_come [] le = refl
none_come (b ∷ bytes) le = absurd (omega (arith, le))

gives_at : (host : Hosting) (direction : Direction) (bytes : List ℕ) (sw : StatusWord)
    → host.direction ≡ direction → IsRequest host → IsStatusWord sw
    → length bytes ≤ may_come direction host.p3 → (d : Dialogue) × Gives host d bytes sw
gives_at host ToCard bytes sw is request status le =
    let Own : Direction → Type 0 = λ x. AreOwn x host.content [] in (
      record { body = header_only host.header host.p3 ToCard; status = sw },
      record {
        opened = (refl, refl, sym is, subst Own (sym is) refl);
        is_dialogue = record { moved_by_segments = refl; is_status = status; only_nulls = λ _. tt };
        brings = sym (none_come bytes le);
        status = refl;
      },
    )
gives_at host FromCard bytes sw is request status le =
    let Own : Direction → Type 0 = λ x. AreOwn x host.content bytes in (
      record {
        body = record {
          header = host.header;
          p3 = host.p3;
          direction = FromCard;
          segments = ones bytes;
          moved = bytes;
        };
        status = sw;
      },
      record {
        opened = (refl, refl, sym is, subst Own (sym is) tt);
        is_dialogue = record {
          moved_by_segments = ones_move bytes (count host.p3) le;
          is_status = status;
          only_nulls = λ invalid. absurd
              (valid_is (ins_is_valid host.header.ins) request.0 invalid);
        };
        brings = refl;
        status = refl;
      },
    )

no_more : (due more fits : Bool) (direction : Direction) (fault : Option AnswerFault)
    → (if due then (if more then Some (excess direction)
    else (if fits then None else Some TooLong)) else Some NotDue) ≡ fault
    → (fault ≡ None) ⊎ (fault ≡ Some TooLong) → more ≡ false
no_more due false fits direction fault e why = refl
no_more false true fits direction fault e (inl none) =
    let f : Some NotDue ≡ None = e ∙ none in absurd (cc)
no_more false true fits direction fault e (inr long) =
    let f : Some NotDue ≡ Some TooLong = e ∙ long in absurd (cc)
no_more true true fits ToCard fault e (inl none) =
    let f : Some NotAsked ≡ None = e ∙ none in absurd (cc)
no_more true true fits ToCard fault e (inr long) =
    let f : Some NotAsked ≡ Some TooLong = e ∙ long in absurd (cc)
no_more true true fits FromCard fault e (inl none) =
    let f : Some TooMany ≡ None = e ∙ none in absurd (cc)
no_more true true fits FromCard fault e (inr long) =
    let f : Some TooMany ≡ Some TooLong = e ∙ long in absurd (cc)

pub answer_is_given : (host : Hosting) (gather : Room) (bytes : List ℕ) (sw : StatusWord)
    → IsRequest host → IsStatusWord sw
    → (answer_fault host gather bytes ≡ None) ⊎ (answer_fault host gather bytes ≡ Some TooLong)
    → (d : Dialogue) × Gives host d bytes sw
answer_is_given host gather bytes sw request status why =
    gives_at host host.direction bytes sw refl request status
    (ltb-false (may_come host.direction host.p3) (length bytes)
    (no_more _ _ _ host.direction _ refl why))

-- ---- a dialogue that brings more than k bytes

-- the dialogue starts like the front
abbrev pub IsOpenedAlike : Front → Dialogue → Type 0
IsOpenedAlike (In_header bytes) d = Unit {0}
IsOpenedAlike (In_body b) d = (b.header ≡ d.body.header) × (b.p3 ≡ d.body.p3)
    × (b.direction ≡ d.body.direction)
IsOpenedAlike (After_first b sw1) d = (b.header ≡ d.body.header) × (b.p3 ≡ d.body.p3)
    × (b.direction ≡ d.body.direction)

alike_before : (front new : Front) (c : Character) (d : Dialogue) → GoesOn front c new
    → IsOpenedAlike new d → IsOpenedAlike front d
alike_before (In_header bytes) new c d goes alike = tt
alike_before (In_body b) new c d (inl (lt, from, is)) alike =
    let P : Front → Type 0 = λ f. IsOpenedAlike f d in subst P is alike
alike_before (In_body b) new c d (inr (inl (between, from, (s, nulls, byte, is)))) alike =
    let P : Front → Type 0 = λ f. IsOpenedAlike f d in subst P is alike
alike_before (In_body b) new c d (inr (inr (between, from, status, is))) alike =
    let P : Front → Type 0 = λ f. IsOpenedAlike f d in subst P is alike
alike_before (After_first b sw1) new c d goes alike = absurd goes

alike : (cs : List Character) (front : Front) (d : Dialogue) → GoesThrough front cs d
    → IsOpenedAlike front d
alike [] front d through = absurd through
alike (c ∷ cs) (In_header bytes) d through = tt
alike (c ∷ cs) (In_body b) d (inl (ends, none)) = absurd ends
alike (c ∷ cs) (After_first b sw1) d (inl (ends, none)) =
    let P : Dialogue → Type 0 = λ e. IsOpenedAlike (After_first b sw1) e in
    subst P (sym ends.2) (refl, refl, refl)
alike (c ∷ cs) front d (inr (new, goes, through)) =
    alike_before front new c d goes (alike cs new d through)

-- A front at which k bytes were received, and one more is the next character.
pub record Overflows (k : ℕ) (front : Front) (cs : List Character) (d : Dialogue) : Type 0 where
  pub body : Body
  pub byte : ℕ
  pub before : List Character
  pub rest : List Character
  pub begun : IsBegun body
  pub way : body.direction ≡ FromCard
  pub so_many : length body.moved ≡ k
  pub more : length body.moved < to_move body
  pub opened : IsOpenedAlike (In_body body) d
  pub cs_are : cs ≡ before ++ (Card, byte) ∷ rest
  pub gone : front_characters front ++ before ≡ body_characters body

header_brings : (direction : Direction) → length (from_card direction []) ≡ 0
header_brings ToCard = refl
header_brings FromCard = refl

ends_bring : (front : Front) (c : Character) (d : Dialogue) → Ends front c d
    → received d ≡ brought front
ends_bring (In_header bytes) c d ends = absurd ends
ends_bring (In_body b) c d ends = absurd ends
ends_bring (After_first b sw1) c d ends =
    ap received ends.2 ∙ by b.header b.p3 b.direction b.segments b.moved
  where
    by : (h : Header) (p3 : ℕ) (direction : Direction) (segments : List Step) (moved : List ℕ)
        → received (record {
          body = record {
            header = h;
            p3 = p3;
            direction = direction;
            segments = segments;
            moved = moved;
          };
          status = (sw1, c.1);
        }) ≡ from_card direction moved
    by h p3 ToCard segments moved = refl
    by h p3 FromCard segments moved = refl

data_over : (direction : Direction) (k : ℕ) (b : Body) (c : Character) (cs : List Character)
    (d : Dialogue) → b.direction ≡ direction → IsBegun b → length b.moved < to_move b
    → c.0 ≡ data_sender direction → length (from_card direction b.moved) ≤ k
    → k < length (from_card direction (b.moved ++ c.1 ∷ [])) → IsOpenedAlike (In_body b) d
    → Overflows k (In_body b) (c ∷ cs) d
data_over ToCard k b c cs d is begun lt from le over alike = absurd (omega (arith, over))
data_over FromCard k b (e, x) cs d is begun lt from le over alike = record {
  body = b;
  byte = x;
  before = [];
  rest = cs;
  begun = begun;
  way = is;
  so_many = omega (arith, le, over, length-append b.moved (x ∷ []));
  more = lt;
  opened = alike;
  cs_are = ap (λ s. (s, x) ∷ cs) from;
  gone = append-nil (body_characters b);
}

over_now : (k : ℕ) (front new : Front) (c : Character) (cs : List Character) (d : Dialogue)
    → IsFront front → GoesOn front c new → length (brought front) ≤ k
    → k < length (brought new) → IsOpenedAlike front d → Overflows k front (c ∷ cs) d
over_now k (In_header bytes) new c cs d front_is (from, inl (short, is)) le over alike =
    absurd (omega (arith, over, ap (λ f. length (brought f)) is))
over_now k (In_header bytes) new c cs d front_is (from, inr (h, direction, bytes_is, is)) le over
    alike =
    absurd (omega (arith, over, ap (λ f. length (brought f)) is, header_brings direction))
over_now k (In_body b) new c cs d front_is (inl (lt, from, is)) le over alike =
    data_over b.direction k b c cs d refl front_is lt from le
    (omega (arith, over, ap (λ f. length (brought f)) is)) alike
over_now k (In_body b) new c cs d front_is (inr (inl (between, from, (s, nulls, byte, is)))) le
    over alike =
    absurd (omega (arith, over, le, ap (λ f. length (brought f)) is))
over_now k (In_body b) new c cs d front_is (inr (inr (between, from, status, is))) le over alike =
    absurd (omega (arith, over, le, ap (λ f. length (brought f)) is))
over_now k (After_first b sw1) new c cs d front_is goes le over alike = absurd goes

overflows : (k : ℕ) (cs : List Character) (front : Front) (d : Dialogue) → IsFront front
    → GoesThrough front cs d → length (brought front) ≤ k → k < length (received d)
    → Overflows k front cs d
overflows k [] front d front_is through le over = absurd through
overflows k (c ∷ cs) front d front_is (inl (ends, none)) le over =
    absurd (omega (arith, le, over, ap length (ends_bring front c d ends)))
overflows k (c ∷ cs) front d front_is (inr (new, goes, through)) le over =
    let grown = goes_on front new c front_is goes in
    by (nat_le (length (brought new)) k) refl grown.1
    (λ less. overflows k cs new d grown.0 through less over)
  where
    by : (v : Bool) → nat_le (length (brought new)) k ≡ v
        → front_characters new ≡ front_characters front ++ c ∷ []
        → (length (brought new) ≤ k → Overflows k new cs d) → Overflows k front (c ∷ cs) d
    by true e grown further =
        let o = further (leb-true (length (brought new)) k e) in
        record {
          body = o.body;
          byte = o.byte;
          before = c ∷ o.before;
          rest = o.rest;
          begun = o.begun;
          way = o.way;
          so_many = o.so_many;
          more = o.more;
          opened = o.opened;
          cs_are = ap (λ ds. c ∷ ds) o.cs_are;
          gone = sym (append_assoc (front_characters front) (c ∷ []) o.before)
              ∙ ap (λ ds. ds ++ o.before) (sym grown) ∙ o.gone;
        }
    by false e grown further =
        over_now k front new c cs d front_is goes le (leb-false (length (brought new)) k e)
        (alike_before front new c d goes (alike cs new d through))

-- a dialogue that brings more than k bytes reaches the first of them that is too many
pub dialogue_overflows : (k : ℕ) (d : Dialogue) → IsDialogue d → k < length (received d)
    → Overflows k fresh (characters d) d
dialogue_overflows k d is over =
    overflows k (characters d) fresh d (lit< tt) (goes_through d is) (omega arith) over
