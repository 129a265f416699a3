-- What the terminal sends is the header, and the data of a dialogue.
use Rattle.std.proofs.Common.{append-nil, append_assoc, length-append, ◌≡◌, ◌∙◌, ◌⊎◌, ℕ, ◌≤◌, List, [], ◌∷◌, ◌++◌, length, inl, inr, refl, sym, ap, arith}
use Rattle.apdu_core.specs.declared.header.Header.{Header}
use Rattle.apdu_core.specs.StatusWord.{StatusWord, count}
use Rattle.t0_core.specs.declared.end.End.{End}
use Rattle.t0_core.specs.declared.end.End.TheVariants.{Terminal, Card}
use Rattle.t0_core.specs.Character.{Character, sent_by}
use Rattle.t0_core.specs.CardSide.{begins_with}
use Rattle.t0_core.specs.Dialogue.{Body, Dialogue, IsDialogue, all_moves, body_characters, characters, foreseen, moves, procedure_byte, segment_characters}
use Rattle.t0_core.specs.FrontLaws.{all_moves-within}
use Rattle.t0_core.specs.declared.plan.Step.{Step}
use Rattle.std.proofs.lemmas.List.{append_cancel_left, length-drop, map-append, take-append-drop}
use Rattle.std.specs.Prelude.{◌-◌, drop, take}
use Rattle.t0_core.specs.Front.{EndInLast, IsBegun}
use Rattle.t0_core.specs.History.{Event, Passed, Reset, passed}
use Rattle.t0_core.specs.Meaning.{sent}
use Rattle.t0_core.specs.declared.direction.Direction.{Direction}
use Rattle.t0_core.specs.declared.direction.Direction.TheVariants.{ToCard, FromCard}

abbrev from_terminal : ℕ → Character
from_terminal x = (Terminal, x)

same_byte : (x y : ℕ) → from_terminal x ≡ from_terminal y → x ≡ y
same_byte x y is = ap (λ (c : Character). c.1) is

pub same_header : (a b : Header) (p q : ℕ) (xs ys : List Event) → passed (sent_by Terminal
    (begins_with a p)) ++ xs ≡ passed (sent_by Terminal (begins_with b q)) ++ ys
    → (a ≡ b) × (p ≡ q)
same_header a b p q xs ys is =
    let byte : ℕ → ℕ → ℕ → ℕ → Header = λ x y z w. record { cla = x; ins = y; p1 = z; p2 = w } in
    let cla : a.cla ≡ b.cla = same_byte a.cla b.cla (cc) in
    let ins : a.ins ≡ b.ins = same_byte a.ins b.ins (cc) in
    let p1 : a.p1 ≡ b.p1 = same_byte a.p1 b.p1 (cc) in
    let p2 : a.p2 ≡ b.p2 = same_byte a.p2 b.p2 (cc) in
    let p3 : p ≡ q = same_byte p q (cc) in (
      ap (λ x. byte x a.ins a.p1 a.p2) cla ∙ ap (λ x. byte b.cla x a.p1 a.p2) ins
          ∙ ap (λ x. byte b.cla b.ins x a.p2) p1 ∙ ap (λ x. byte b.cla b.ins b.p1 x) p2,
      p3,
    )

-- the bytes that the terminal sent
with_one : End → ℕ → List ℕ → List ℕ
with_one Terminal x bytes = x ∷ bytes
with_one Card x bytes = bytes

said : List Event → List ℕ
said [] = []
said (Passed c ∷ es) = with_one c.0 c.1 (said es)
said (Reset ∷ es) = said es

one_append : (e : End) (x : ℕ) (xs ys : List ℕ) → with_one e x (xs ++ ys) ≡ with_one e x xs ++ ys
unfolding with_one
one_append Terminal x xs ys = refl
one_append Card x xs ys = refl

said_append : (xs ys : List Event) → said (xs ++ ys) ≡ said xs ++ said ys
unfolding said
said_append [] ys = refl
said_append (Passed c ∷ xs) ys =
    ap (with_one c.0 c.1) (said_append xs ys) ∙ one_append c.0 c.1 (said xs) (said ys)
said_append (Reset ∷ xs) ys = said_append xs ys

said_by_terminal : (bytes : List ℕ) → said (passed (sent_by Terminal bytes)) ≡ bytes
unfolding said with_one
said_by_terminal [] = refl
said_by_terminal (b ∷ bytes) = ap (λ (xs : List ℕ). b ∷ xs) (said_by_terminal bytes)

said_by_card : (bytes : List ℕ) → said (passed (sent_by Card bytes)) ≡ []
unfolding said with_one
said_by_card [] = refl
said_by_card (b ∷ bytes) = said_by_card bytes

said_both : (xs ys : List Character)
    → said (passed (xs ++ ys)) ≡ said (passed xs) ++ said (passed ys)
said_both xs ys =
    ap said (map-append (λ c. Passed c) xs ys) ∙ said_append (passed xs) (passed ys)

said_procedure : (x : ℕ) (cs : List Character)
    → said (passed ((Card, x) ∷ cs)) ≡ said (passed cs)
unfolding said with_one
said_procedure x cs = refl

-- segments that move data to the card, and segments that move none to it
said_to_card : (ins : ℕ) (segments : List Step) (n : ℕ) (moved : List ℕ)
    → length moved ≤ all_moves segments n
    → said (passed (segment_characters ins ToCard segments n moved)) ≡ moved
said_to_card ins [] n [] few = said_by_card []
said_to_card ins [] n (b ∷ moved) few = absurd (omega (arith, few))
said_to_card ins (s ∷ segments) n moved few =
    let k = moves s n in
    let rest = segment_characters ins ToCard segments (n - k) (drop k moved) in
    let fewer : length (drop k moved) ≤ all_moves segments (n - k) =
    omega (arith, few, length-drop k moved) in
    said_procedure (procedure_byte ins s) (sent_by Terminal (take k moved) ++ rest)
    ∙ said_both (sent_by Terminal (take k moved)) rest
    ∙ ap (λ xs. xs ++ said (passed rest)) (said_by_terminal (take k moved))
    ∙ ap (λ xs. take k moved ++ xs) (said_to_card ins segments (n - k) (drop k moved) fewer)
    ∙ take-append-drop k moved

said_from_card : (ins : ℕ) (segments : List Step) (n : ℕ) (moved : List ℕ)
    → said (passed (segment_characters ins FromCard segments n moved)) ≡ []
said_from_card ins [] n moved = said_by_card []
said_from_card ins (s ∷ segments) n moved =
    let k = moves s n in
    let rest = segment_characters ins FromCard segments (n - k) (drop k moved) in
    said_procedure (procedure_byte ins s) (sent_by Card (take k moved) ++ rest)
    ∙ said_both (sent_by Card (take k moved)) rest
    ∙ ap (λ xs. xs ++ said (passed rest)) (said_by_card (take k moved))
    ∙ said_from_card ins segments (n - k) (drop k moved)

-- all of a dialogue
record AllSaid (h : Header) (p3 : ℕ) (cs : List Character) (sent : List ℕ) : Type 0 where
  is : said (passed cs) ≡ begins_with h p3 ++ sent
  few : length sent ≤ p3

all_said : (way : Direction) (h : Header) (p3 : ℕ) (segments : List Step) (moved : List ℕ)
    (status : StatusWord) → length moved ≡ all_moves segments (foreseen way p3)
    → let d : Dialogue = record {
      body = record {
        header = h;
        p3 = p3;
        direction = way;
        segments = segments;
        moved = moved;
      };
      status = status;
    } in AllSaid h p3 (characters d) (sent d)
all_said ToCard h p3 segments moved status exact =
    let front = sent_by Terminal (begins_with h p3) in
    let data_are = segment_characters h.ins ToCard segments p3 moved in
    let end = sent_by Card (status.0 ∷ status.1 ∷ []) in record {
      is = said_both (front ++ data_are) end
          ∙ ap (λ xs. said (passed (front ++ data_are)) ++ xs)
          (said_by_card (status.0 ∷ status.1 ∷ []))
          ∙ append-nil (said (passed (front ++ data_are)))
          ∙ said_both front data_are
          ∙ ap (λ xs. xs ++ said (passed data_are)) (said_by_terminal (begins_with h p3))
          ∙ ap (λ xs. begins_with h p3 ++ xs)
          (said_to_card h.ins segments p3 moved (omega (arith, exact)));
      few = omega (arith, exact, all_moves-within segments p3);
    }
all_said FromCard h p3 segments moved status exact =
    let front = sent_by Terminal (begins_with h p3) in
    let data_are = segment_characters h.ins FromCard segments (count p3) moved in
    let end = sent_by Card (status.0 ∷ status.1 ∷ []) in record {
      is = said_both (front ++ data_are) end
          ∙ ap (λ xs. said (passed (front ++ data_are)) ++ xs)
          (said_by_card (status.0 ∷ status.1 ∷ []))
          ∙ append-nil (said (passed (front ++ data_are)))
          ∙ said_both front data_are
          ∙ ap (λ xs. xs ++ said (passed data_are)) (said_by_terminal (begins_with h p3))
          ∙ ap (λ xs. begins_with h p3 ++ xs)
          (said_from_card h.ins segments (count p3) moved);
      few = omega arith;
    }

in_last_few : (segments : List Step) (n k : ℕ) → EndInLast segments n k → k ≤ all_moves segments n
in_last_few [] n k is = omega (arith, is)
in_last_few (s ∷ []) n k is = omega (arith, is)
in_last_few (s ∷ t ∷ segments) n k is =
    omega (arith, is.0, in_last_few (t ∷ segments) (n - moves s n) (k - moves s n) is.1)

-- what the terminal sent of a dialogue in progress, if its data go to the card, or none moved
begun_said : (way : Direction) (h : Header) (p3 : ℕ) (segments : List Step) (moved : List ℕ)
    → EndInLast segments (foreseen way p3) (length moved) → (way ≡ ToCard) ⊎ (moved ≡ [])
    → said (passed (sent_by Terminal (begins_with h p3)
    ++ segment_characters h.ins way segments (foreseen way p3) moved)) ≡ begins_with h p3 ++ moved
begun_said ToCard h p3 segments moved is to_card =
    let front = sent_by Terminal (begins_with h p3) in
    let data_are = segment_characters h.ins ToCard segments p3 moved in
    said_both front data_are
    ∙ ap (λ xs. xs ++ said (passed data_are)) (said_by_terminal (begins_with h p3))
    ∙ ap (λ xs. begins_with h p3 ++ xs) (said_to_card h.ins segments p3 moved
    (in_last_few segments p3 (length moved) is))
begun_said FromCard h p3 segments moved is (inl way) = absurd (cc)
begun_said FromCard h p3 segments moved is (inr none) =
    let front = sent_by Terminal (begins_with h p3) in
    let data_are = segment_characters h.ins FromCard segments (count p3) moved in
    said_both front data_are
    ∙ ap (λ xs. xs ++ said (passed data_are)) (said_by_terminal (begins_with h p3))
    ∙ ap (λ xs. begins_with h p3 ++ xs)
    (said_from_card h.ins segments (count p3) moved ∙ sym none)

no_more : (xs ys more : List ℕ) → xs ≡ ys ++ more → length xs ≤ length ys → xs ≡ ys
no_more xs ys [] is few = is ∙ append-nil ys
no_more xs ys (m ∷ more) is few =
    absurd (omega (arith, few, ap length is, length-append ys (m ∷ more)))

-- the data that were shown are those of the whole dialogue
pub same_data : (b : Body) (d : Dialogue) (more : List Event) → IsBegun b → IsDialogue d
    → length b.moved ≡ b.p3 → (b.direction ≡ ToCard) ⊎ (b.moved ≡ [])
    → d.body.header ≡ b.header → d.body.p3 ≡ b.p3
    → passed (characters d) ≡ passed (body_characters b) ++ more → sent d ≡ b.moved
same_data b d more begun dialogue long to_card header_is p3_is is =
    let all = all_said d.body.direction d.body.header d.body.p3 d.body.segments d.body.moved
    d.status dialogue.moved_by_segments in
    let part = begun_said b.direction b.header b.p3 b.segments b.moved begun.in_last to_card in
    let start : begins_with d.body.header d.body.p3 ≡ begins_with b.header b.p3 =
    ap (λ h. begins_with h d.body.p3) header_is ∙ ap (λ n. begins_with b.header n) p3_is in
    let both : begins_with b.header b.p3 ++ sent d
    ≡ begins_with b.header b.p3 ++ (b.moved ++ said more) =
    ap (λ xs. xs ++ sent d) (sym start) ∙ sym all.is ∙ ap said is
    ∙ said_append (passed (body_characters b)) more ∙ ap (λ xs. xs ++ said more) part
    ∙ append_assoc (begins_with b.header b.p3) b.moved (said more) in
    no_more (sent d) b.moved (said more)
    (append_cancel_left (begins_with b.header b.p3) (sent d) (b.moved ++ said more) both)
    (omega (arith, all.few, p3_is, long))
