-- Laws of rows of dialogues: one more of them, and properties of all.
use Rattle.std.proofs.Common.{◌≡◌, ℕ, suc, ◌+◌, ◌<◌, List, [], ◌∷◌, ◌++◌, length, take, slice_index, length-append, arith, refl, sym, subst, ◌∙◌, ap, append-nil, append_assoc}
use Rattle.std.specs.List.{AllByRecursion, flat_map}
use Rattle.apdu_core.specs.declared.header.Header.{Header}
use Rattle.apdu_core.specs.HeaderBytes.{header_bytes}
use Rattle.t0_core.specs.declared.end.End.TheVariants.{Terminal, Card}
use Rattle.t0_core.specs.Character.{Character, sent_by}
use Rattle.t0_core.specs.Dialogue.{Dialogue, body_characters, characters}
use Rattle.t0_core.specs.Plan.{Course, Follows, FollowInTurn}
use Rattle.t0_core.specs.Meaning.{Tpdu, tpdu_of, Runs}
use Rattle.t0_core.specs.Front.{Front, In_header, In_body, After_first, front_characters, Ends, fresh}
use Rattle.t0_core.specs.History.{Event, Item, events_of, passed}

-- one more list in a row of lists
pub flat_map_last : {A B : Type 0} (f : A → List B) (xs : List A) (x : A)
    → flat_map f (xs ++ x ∷ []) ≡ flat_map f xs ++ f x
flat_map_last f [] x = append-nil (f x)
flat_map_last f (y ∷ xs) x = ap (λ bs. f y ++ bs) (flat_map_last f xs x)
    ∙ sym (append_assoc (f y) (flat_map f xs) (f x))

-- the items with one more, which ends in this event
pub events_item : (events : List Event) (items : List Item) (before : List Event) (e : Event)
    (item : Item) → events ≡ flat_map events_of items ++ before → events_of item ≡ before ++ e ∷ []
    → events ++ e ∷ [] ≡ flat_map events_of (items ++ item ∷ []) ++ passed (front_characters fresh)
events_item events items before e item is last =
    ap (λ es. es ++ e ∷ []) is ∙ append_assoc (flat_map events_of items) before (e ∷ [])
    ∙ ap (λ es. flat_map events_of items ++ es) (sym last)
    ∙ sym (flat_map_last events_of items item)
    ∙ sym (append-nil (flat_map events_of (items ++ item ∷ [])))

-- one more dialogue has ended, under its own plan
pub follow_each : (whole : List Dialogue) (plans : List Course) (d : Dialogue) (p : Course)
    → length plans ≡ length whole → FollowInTurn whole plans → Follows d p
    → FollowInTurn (whole ++ d ∷ []) (plans ++ p ∷ [])
follow_each [] [] d p same follow follows = (follows, tt)
follow_each [] (q ∷ plans) d p same follow follows = absurd (omega (arith, same))
follow_each (e ∷ whole) [] d p same follow follows = absurd (omega (arith, same))
follow_each (e ∷ whole) (q ∷ plans) d p same follow follows =
    (follow.0, follow_each whole plans d p (omega (arith, same)) follow.1 follows)

pub runs_each : {State : Type 0} (Does : State → ℕ → Tpdu → State → Type 0) (first old new : State)
    (whole : List Dialogue) (plans : List Course) (d : Dialogue) (p : Course)
    → length plans ≡ length whole → Runs Does first whole plans old → Does old p.cut (tpdu_of d) new
    → Runs Does first (whole ++ d ∷ []) (plans ++ p ∷ []) new
runs_each {State = State} Does first old new [] [] d p same runs does =
    let P : State → Type 0 = λ s. Does s p.cut (tpdu_of d) new in (new, subst P runs does, refl)
runs_each Does first old new [] (q ∷ plans) d p same runs does = absurd (omega (arith, same))
runs_each Does first old new (e ∷ whole) [] d p same runs does = absurd (omega (arith, same))
runs_each Does first old new (e ∷ whole) (q ∷ plans) d p same runs does = (
  runs.0,
  runs.1,
  runs_each Does runs.0 old new whole plans d p (omega (arith, same)) runs.2
      does,
)

pub one_more_each : {A B : Type 0} (xs : List A) (ys : List B) (x : A) (y : B)
    → length xs ≡ length ys → length (xs ++ x ∷ []) ≡ length (ys ++ y ∷ [])
one_more_each xs ys x y same = length-append xs (x ∷ []) ∙ ap (λ n. n + 1) same
    ∙ sym (length-append ys (y ∷ []))

pub all_more : {A : Type 0} (P : A → Type 0) (whole : List A) (d : A) → AllByRecursion P whole → P d
    → AllByRecursion P (whole ++ d ∷ [])
all_more P [] d all this = (this, tt)
all_more P (e ∷ whole) d all this = (all.0, all_more P whole d all.1 this)

-- the header and P3 byte by byte
pub header_next : (h : Header) (p3 n : ℕ) (cs : List Character) → n < 5
    → let all = header_bytes h ++ p3 ∷ [] in (rest : List Character) × (sent_by Terminal all ++ cs
    ≡ sent_by Terminal (take n all) ++ (Terminal, slice_index all n) ∷ rest)
header_next h p3 (suc (suc (suc (suc (suc n))))) cs lt = absurd (omega (arith, lt))
header_next _ _ _ _ _ = (_, refl)

-- the characters of a dialogue that ends
pub ends_with : (front : Front) (byte : ℕ) (d : Dialogue) → Ends front (Card, byte) d
    → characters d ≡ front_characters front ++ (Card, byte) ∷ []
ends_with (In_header bytes) byte d ends = absurd ends
ends_with (In_body b) byte d ends = absurd ends
ends_with (After_first b sw1) byte d ends =
    ap characters ends.2
    ∙ sym (append_assoc (body_characters b) ((Card, sw1) ∷ []) ((Card, byte) ∷ []))
