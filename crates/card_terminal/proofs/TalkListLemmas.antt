-- Dialogues one after another: how they follow the plans and run, in parts and as a whole; a talk
-- with one more operation.
use Rattle.std.proofs.Common.{◌≡◌, ◌≢◌, ℕ, List, [], ◌∷◌, ◌++◌, length, drop, ◌⊎◌, refl, sym, ap, subst, ◌∙◌}
use Rattle.std.specs.List.{AllByRecursion, flat_map}
use Rattle.std.proofs.Math.Seq.{drop-nil}
use Rattle.std.proofs.lemmas.Grind.{flat_map-append}
use Rattle.apdu_core.specs.StatusWord.{ok}
use Rattle.apdu_core.specs.CommandBytes.{Command}
use Rattle.t0_core.specs.Character.{Character}
use Rattle.t0_core.specs.Dialogue.{Dialogue, IsDialogue, characters}
use Rattle.t0_core.specs.DialogueLaws.{flat_map_last}
use Rattle.t0_core.specs.Meaning.{Tpdu, tpdu_of, Runs}
use Rattle.t0_core.specs.Plan.{Course, FollowInTurn}
use Rattle.object_card.specs.State.{CardState}
use Rattle.object_card.specs.CardMeaning.{Does}
use Rattle.object_card.specs.DataCard.{StandsFor}
use Rattle.apdu_core.specs.Shared.{Reply}
use Rattle.object_card.specs.OneStep.{Operation}
use Rattle.exchange_core.specs.Gathered.{UnitOf, Gathers, dialogues_of}
use Rattle.card_terminal.specs.TalkLaws.{talks_more}
use Rattle.card_terminal.specs.Talk.{AreTakenUpTo, AreExchangesOf, AreTalksOf, IsTalkOf, Talk, talk_dialogues}

-- an empty list of plans stays empty
no_plans : (xs ys : List Dialogue)
    → drop {A = Course} (length xs) [] ≡ drop {A = Course} (length ys) []
no_plans xs ys = drop-nil {A = Course} (length xs) ∙ sym (drop-nil {A = Course} (length ys))

-- the plans left after some dialogues and then others
pub left_after_both : (xs ys : List Dialogue) (plans : List Course)
    → drop (length (xs ++ ys)) plans ≡ drop (length ys) (drop (length xs) plans)
left_after_both [] ys plans = refl
left_after_both (x ∷ xs) ys [] = no_plans (x ∷ xs ++ ys) ys
    ∙ ap (λ p. drop (length ys) p) (sym (drop-nil {A = Course} (length (x ∷ xs))))
left_after_both (x ∷ xs) ys (p ∷ plans) = left_after_both xs ys plans

-- Dialogues follow the plans, and others follow the rest: then all follow them together. The
-- reverse holds too.
pub follow_both : (xs ys : List Dialogue) (plans : List Course) → FollowInTurn xs plans
    → FollowInTurn ys (drop (length xs) plans) → FollowInTurn (xs ++ ys) plans
follow_both [] ys plans first second = second
follow_both (x ∷ xs) ys [] first second = (
  first.0,
  follow_both xs ys [] first.1 (rw (no_plans (x ∷ xs) xs) at second),
)
follow_both (x ∷ xs) ys (p ∷ plans) first second = (first.0, follow_both xs ys plans first.1 second)

-- A run, and another from its last state, are one run. The reverse holds too.
pub runs_both : {State : Type 0} (Does : State → ℕ → Tpdu → State → Type 0) (old mid new : State)
    (xs ys : List Dialogue) (plans : List Course)
    → Runs Does old xs plans mid → Runs Does mid ys (drop (length xs) plans) new
    → Runs Does old (xs ++ ys) plans new
runs_both Does old mid new [] ys plans first second = rw first at second
runs_both Does old mid new (x ∷ xs) ys [] (next, does, first) second = (
  next,
  does,
  runs_both Does next mid new xs ys [] first (rw (no_plans (x ∷ xs) xs) at second),
)
runs_both Does old mid new (x ∷ xs) ys (p ∷ plans) (next, does, first) second =
    (next, does, runs_both Does next mid new xs ys plans first second)

pub all_both : {A : Type 0} (P : A → Type 0) (xs ys : List A) → AllByRecursion P xs
    → AllByRecursion P ys → AllByRecursion P (xs ++ ys)
all_both P [] ys first second = second
all_both P (x ∷ xs) ys first second = (first.0, all_both P xs ys first.1 second)

-- one more command has the status 9000
pub taken_more : (commands : List Command) (exchanges : List (List UnitOf)) (c : Command)
    (left : List Command) (units : List UnitOf) (brought : List ℕ)
    → AreTakenUpTo commands exchanges (c ∷ left) → Gathers c units brought ok
    → AreTakenUpTo commands (exchanges ++ units ∷ []) left
taken_more commands [] c left units brought taken gathers =
    subst (λ cs. AreTakenUpTo cs (units ∷ []) left) taken (brought, gathers, refl)
taken_more [] (first ∷ exchanges) c left units brought taken gathers = absurd taken
taken_more (d ∷ commands) (first ∷ exchanges) c left units brought taken gathers =
    (taken.0, taken.1, taken_more commands exchanges c left units brought taken.2 gathers)

-- the last command, or one with another status
pub taken_to_end : (commands : List Command) (exchanges : List (List UnitOf)) (c : Command)
    (left : List Command) (units : List UnitOf) (answer : Reply)
    → AreTakenUpTo commands exchanges (c ∷ left) → Gathers c units answer.content answer.status
    → (left ≡ []) ⊎ (answer.status ≢ ok)
    → AreExchangesOf commands (exchanges ++ units ∷ []) answer
taken_to_end commands [] c left units answer taken gathers ends =
    subst (λ cs. AreExchangesOf cs (units ∷ []) answer) taken (gathers, ends)
taken_to_end [] (first ∷ exchanges) c left units answer taken gathers ends = absurd taken
taken_to_end (d ∷ commands) (first ∷ []) c left units answer taken gathers ends =
    (taken.0, taken.1, taken_to_end commands [] c left units answer taken.2 gathers ends)
taken_to_end (d ∷ commands) (first ∷ second ∷ exchanges) c left units answer taken gathers ends = (
  taken.0,
  taken.1,
  taken_to_end commands (second ∷ exchanges) c left units answer taken.2
      gathers ends,
)

-- the dialogues of one more exchange
pub one_more_exchange : (exchanges : List (List UnitOf)) (units : List UnitOf)
    → talk_dialogues (exchanges ++ units ∷ []) ≡ talk_dialogues exchanges ++ flat_map dialogues_of
    units
one_more_exchange exchanges units = flat_map_last (λ us. flat_map dialogues_of us) exchanges units

-- the exchanges of the one operation of a talk
one_talk : (o : Operation) (talks : List (List (List UnitOf))) (r : Reply)
    → AreTalksOf (o ∷ []) talks (r ∷ [])
    → (exchanges : List (List UnitOf)) × (talks ≡ exchanges ∷ []) × IsTalkOf o exchanges r
one_talk o [] r are = absurd are
one_talk o (t ∷ []) r are = (t, refl, are.0)
one_talk o (t ∷ u ∷ talks) r are = absurd are.1

-- A talk, and that of one more operation under the plans that are left.
pub talk_more : {State : Type 0} (Does : State → ℕ → Tpdu → State → Type 0)
    (first mid last : State) (plans left rest : List Course) (operations : List Operation)
    (replies : List Reply) (line more : List Character) (o : Operation) (r : Reply)
    → Talk Does first plans operations replies mid left line
    → Talk Does mid left (o ∷ []) (r ∷ []) last rest more
    → Talk Does first plans (operations ++ o ∷ []) (replies ++ r ∷ []) last rest (line ++ more)
talk_more Does first mid last plans left rest operations replies line more o r talk next =
    let xs = talk.dialogues in
    let ys = next.dialogues in
    let (exchanges, alone, one) = one_talk o next.talks r next.are_talks in record {
      dialogues = xs ++ ys;
      talks = talk.talks ++ next.talks;
      are_dialogues = all_both IsDialogue xs ys talk.are_dialogues next.are_dialogues;
      line_is = ap (λ l. l ++ more) talk.line_is
          ∙ ap (λ l. flat_map characters xs ++ l) next.line_is
          ∙ sym (flat_map-append characters xs ys);
      follow = follow_both xs ys plans talk.follow (rw talk.left_is at next.follow);
      runs = runs_both Does first mid last xs ys plans talk.runs (rw talk.left_is at next.runs);
      left_is = next.left_is ∙ ap (λ p. drop (length ys) p) talk.left_is
          ∙ sym (left_after_both xs ys plans);
      dialogues_are = ap (λ ds. ds ++ ys) talk.dialogues_are
          ∙ ap (λ ds. flat_map talk_dialogues talk.talks ++ ds) next.dialogues_are
          ∙ sym (flat_map-append talk_dialogues talk.talks next.talks);
      are_talks = rw alone (talks_more Gathers operations talk.talks replies o exchanges r
          talk.are_talks one);
    }

-- A card whose own states stand for states of a card of data objects: what runs over its own states
-- runs over those, and a talk over the one is a talk over the other.
pub runs_stand : {State : Type 0} (Own : State → ℕ → Tpdu → State → Type 0) (own_reset : State
    → State)
    (state_of : State → CardState) → StandsFor Own own_reset state_of → (old new : State)
    (ds : List Dialogue) (plans : List Course) → Runs Own old ds plans new
    → Runs Does (state_of old) ds plans (state_of new)
runs_stand Own own_reset state_of stands old new [] plans runs = ap state_of runs
runs_stand Own own_reset state_of stands old new (d ∷ ds) [] (mid, does, others) = (
  state_of mid,
  stands.steps old mid 256 (tpdu_of d) does,
  runs_stand Own own_reset state_of stands mid new ds [] others,
)
runs_stand Own own_reset state_of stands old new (d ∷ ds) (p ∷ plans) (mid, does, others) = (
  state_of mid,
  stands.steps old mid p.cut (tpdu_of d) does,
  runs_stand Own own_reset state_of stands mid new ds plans others,
)

pub talk_stands : {State : Type 0} (Own : State → ℕ → Tpdu → State → Type 0) (own_reset : State
    → State)
    (state_of : State → CardState) → StandsFor Own own_reset state_of → (first last : State)
    (plans left : List Course) (operations : List Operation) (replies : List Reply)
    (line : List Character) → Talk Own first plans operations replies last left line
    → Talk Does (state_of first) plans operations replies (state_of last) left line
talk_stands Own own_reset state_of stands first last plans left operations replies line talk =
    record {
      dialogues = talk.dialogues;
      talks = talk.talks;
      are_dialogues = talk.are_dialogues;
      line_is = talk.line_is;
      follow = talk.follow;
      runs = runs_stand Own own_reset state_of stands first last talk.dialogues plans talk.runs;
      left_is = talk.left_is;
      dialogues_are = talk.dialogues_are;
      are_talks = talk.are_talks;
    }
