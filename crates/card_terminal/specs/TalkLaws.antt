-- Laws of talks, over any transport: the commands of a put equal the put in one step, and
-- operations follow one another.
use Rattle.std.proofs.Common.{◌≡◌, ◌≢◌, ℕ, List, [], ◌∷◌, ◌++◌, ◌⊎◌, inl, inr, refl, sym, ap, subst, ◌∙◌}
use Rattle.std.proofs.lemmas.Bool.Decides.{eqb_tells}
use Rattle.apdu_core.specs.declared.header.Header.{Header}
use Rattle.apdu_core.specs.StatusWord.{StatusWord, ok}
use Rattle.apdu_core.specs.CommandBytes.{Command}
use Rattle.apdu_core.specs.Chaining.{HavePieceSizes, IsPieces, with_more, link, chain_commands}
use Rattle.object_card.specs.State.{CardState}
use Rattle.apdu_core.specs.Shared.{Reply}
use Rattle.object_card.specs.OneStep.{Operation, SameTables, AnswersAll}
use Rattle.object_card.specs.CarryingOut.{IsAnswered, EndsWith, all_taken, stopped}
use Rattle.object_card.specs.AnswerLaws.{answers_alike}
use Rattle.card_terminal.specs.Talk.{AreExchangesBy, IsTalkBy, AreTalksBy}

no_pieces : (value : List ℕ) (pieces : List (List ℕ)) → IsPieces value pieces → pieces ≡ [] → ⊥
no_pieces [] pieces is e = let f : [] ≡ [] ∷ [] = sym e ∙ is in absurd (cc)
no_pieces (b ∷ bs) pieces is e = subst HavePieceSizes e is.1

-- a value has at least one piece
pub some_command : (h : Header) (value : List ℕ) (pieces : List (List ℕ)) (left : List Command)
    → IsPieces value pieces → left ≡ chain_commands h pieces → left ≡ [] → ⊥
some_command h value [] left is same none = no_pieces value [] is refl
some_command h value (p ∷ []) left is same none = let e : [] ≡ link h p ∷ [] = sym none ∙ same in
    absurd (cc)
some_command h value (p ∷ q ∷ others) left is same none =
    let e : [] ≡ link (with_more h) p ∷ chain_commands h (q ∷ others) = sym none ∙ same in
    absurd (cc)

-- one more command at the front
taken_first : (old mid new : CardState) (c : Command) (commands : List Command)
    (status : StatusWord) → IsAnswered old c ok mid
    → EndsWith mid commands new status → EndsWith old (c ∷ commands) new status
taken_first old mid new c commands status answered (all_taken taken) =
    all_taken (mid, answered, taken)
taken_first old mid new c commands status answered
    (stopped before other after last end split taken refused not_ok) =
    stopped (c ∷ before) other after last end (ap (λ cs. c ∷ cs) split) (mid, answered, taken)
    refused not_ok

pub is_ok_or_not : (status : StatusWord) → (status ≡ ok) ⊎ (status ≢ ok)
is_ok_or_not status = elim (eqb_tells status.0 0x90) [
  | inl first ↦ elim (eqb_tells status.1 0x00) [
    | inl second ↦ inl (ap (λ a. (a, status.1)) first.1 ∙ ap (λ b. (0x90, b)) second.1)
    | inr other ↦ inr (λ e. other.1 (ap (λ (s : StatusWord). s.1) e))
  ]
  | inr other ↦ inr (λ e. other.1 (ap (λ (s : StatusWord). s.0) e))
]

-- the last command of a chain, and one with a status other than 9000
ends_here : (old new : CardState) (c : Command) (commands : List Command) (status : StatusWord)
    → IsAnswered old c status new
    → (commands ≡ []) ⊎ (status ≢ ok) → EndsWith old (c ∷ commands) new status
ends_here old new c commands status answered (inr other) =
    stopped [] c commands old status refl refl answered other
ends_here old new c commands status answered (inl none) =
    let Ends : List Command → Type 0 = λ cs. EndsWith old (c ∷ cs) new status in
    subst Ends (sym none) (elim (is_ok_or_not status) [
      | inl fine ↦ subst (λ s. EndsWith old (c ∷ []) new s) (sym fine)
          (all_taken (new, subst (λ s. IsAnswered old c s new) fine answered, refl))
      | inr other ↦ stopped [] c [] old status refl refl answered other
    ])

-- The exchanges of a chain's commands: how they end, and that they bring no data, if each exchange
-- brings none.
pub chains_end : {E : Type 0} (Brings : Command → E → List ℕ → StatusWord → Type 0)
    (Goes : CardState → E → CardState → Type 0) (All : CardState → List E → CardState → Type 0)
    → ((old new : CardState) (e : E) (others : List E) → All old (e ∷ others) new
    → (mid : CardState) × Goes old e mid × All mid others new)
    → ((old new : CardState) → All old [] new → new ≡ old)
    → ((h : Header) (piece : List ℕ) (e : E) (content : List ℕ) (status : StatusWord)
    (old new : CardState) → Brings (link h piece) e content status → Goes old e new
    → IsAnswered old (link h piece) status new × (content ≡ []))
    → (h : Header) (pieces : List (List ℕ)) (exchanges : List E) (answer : Reply)
    (old new : CardState) → AreExchangesBy Brings (chain_commands h pieces) exchanges answer
    → All old exchanges new
    → EndsWith old (chain_commands h pieces) new answer.status × (answer.content ≡ [])
chains_end {E} Brings Goes All apart none each h pieces exchanges answer old new =
    by h pieces exchanges old
  where
    last_one : (h : Header) (piece : List ℕ) (commands : List Command) (e : E) (old : CardState)
        → Brings (link h piece) e answer.content answer.status
        × ((commands ≡ []) ⊎ (answer.status ≢ ok))
        → All old (e ∷ []) new
        → EndsWith old (link h piece ∷ commands) new answer.status × (answer.content ≡ [])
    last_one h piece commands e old (brings, ends) goes =
        let (mid, first, rest) = apart old new e [] goes in
        let (answered, empty) =
        each h piece e answer.content answer.status old new brings
        (subst (λ s. Goes old e s) (sym (none mid new rest)) first) in
        (ends_here old new (link h piece) commands answer.status answered ends, empty)

    by : (h : Header) (pieces : List (List ℕ)) (exchanges : List E) (old : CardState)
        → AreExchangesBy Brings (chain_commands h pieces) exchanges answer → All old exchanges new
        → EndsWith old (chain_commands h pieces) new answer.status × (answer.content ≡ [])
    by h [] exchanges old are goes = absurd are
    by h (last ∷ []) [] old are goes = absurd are
    by h (last ∷ []) (e ∷ []) old are goes = last_one h last [] e old are goes
    by h (last ∷ []) (e ∷ next ∷ exchanges) old are goes = absurd are.2
    by h (piece ∷ second ∷ others) [] old are goes = absurd are
    by h (piece ∷ second ∷ others) (e ∷ []) old are goes =
        last_one (with_more h) piece (chain_commands h (second ∷ others)) e old are goes
    by h (piece ∷ second ∷ others) (e ∷ next ∷ exchanges) old (brought, gathers, are) goes =
        let (mid, first, rest) = apart old new e (next ∷ exchanges) goes in
        let (answered, empty) = each (with_more h) piece e brought ok old mid gathers first in
        let (ends, empty_then) = by h (second ∷ others) (next ∷ exchanges) mid are rest in (
          taken_first old mid new (link (with_more h) piece) (chain_commands h (second ∷ others))
              answer.status answered ends,
          empty_then,
        )

-- one more operation
pub talks_more : {E : Type 0} (Brings : Command → E → List ℕ → StatusWord → Type 0)
    (operations : List Operation) (talks : List (List E)) (replies : List Reply) (o : Operation)
    (exchanges : List E) (r : Reply) → AreTalksBy Brings operations talks replies
    → IsTalkBy Brings o exchanges r
    → AreTalksBy Brings (operations ++ o ∷ []) (talks ++ exchanges ∷ []) (replies ++ r ∷ [])
talks_more Brings [] [] [] o exchanges r are talk = (talk, tt)
talks_more Brings [] [] (q ∷ replies) o exchanges r are talk = absurd are
talks_more Brings [] (t ∷ talks) replies o exchanges r are talk = absurd are
talks_more Brings (p ∷ operations) [] replies o exchanges r are talk = absurd are
talks_more Brings (p ∷ operations) (t ∷ talks) [] o exchanges r are talk = absurd are
talks_more Brings (p ∷ operations) (t ∷ talks) (q ∷ replies) o exchanges r are talk =
    (are.0, talks_more Brings operations talks replies o exchanges r are.1 talk)

-- a pending chain makes no difference to operations in turn
pub all_alike : (operations : List Operation) (replies : List Reply) (a b new : CardState)
    → SameTables a b → AnswersAll a operations replies new → AnswersAll b operations replies new
all_alike [] [] a b new same answers = (sym same.0 ∙ answers.0, sym same.1 ∙ answers.1)
all_alike [] (r ∷ replies) a b new same answers = answers
all_alike (o ∷ operations) [] a b new same answers = answers
all_alike (o ∷ operations) (r ∷ replies) a b new same (mid, first, others) =
    let (next, here, tables) = answers_alike a b mid o r same first in
    (next, here, all_alike operations replies mid next new tables others)
