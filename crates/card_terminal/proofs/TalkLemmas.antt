-- A talk of an operation equals its answer in one step.
use Rattle.std.proofs.Common.{◌≡◌, ℕ, List, [], ◌∷◌, arith, true, refl, sym, ap, subst, ◌∙◌, append-nil}
use Rattle.std.specs.List.{flat_map}
use Rattle.apdu_core.specs.CommandBytes.{Command}
use Rattle.apdu_core.specs.Chaining.{IsPieces, chain_commands}
use Rattle.t0_core.specs.Character.{Character}
use Rattle.t0_core.specs.Meaning.{Tpdu}
use Rattle.t0_core.specs.Plan.{Course}
use Rattle.tlv_core.specs.Address.{NamesTag}
use Rattle.object_card.specs.Tables.{IsAid}
use Rattle.object_card.specs.State.{CardState, IsCardState, is_idle}
use Rattle.apdu_core.specs.Shared.{Reply}
use Rattle.object_card.specs.OneStep.{Operation, Select, Get, Put, AnswersAll}
use Rattle.object_card.specs.DataCard.{StandsFor}
use Rattle.object_card.specs.CardMeaning.{Does}
use Rattle.object_card.specs.CarryingOut.{put_header, IsCarriedOut}
use Rattle.object_card.specs.PutRunLaws.{chain_is_put}
use Rattle.exchange_core.specs.Gathered.{UnitOf, Opens, Gathers, first_of, dialogues_of, IsUnit}
use Rattle.exchange_core.specs.declared.wanted.Wanted.TheVariants.{Everything}
use Rattle.card_terminal.specs.Talk.{AreExchangesOf, IsTalkOf, AreTalksOf, Talk, talk_dialogues, select_command, get_command, HaveCuts}
use Rattle.card_terminal.proofs.FetchLemmas.{Goes, goes_by_runs, goes_apart, goes_sound, begun, Rest, sent_once}
use Rattle.card_terminal.proofs.OperationLemmas.{select_answers, get_answers}
use Rattle.card_terminal.proofs.TalkListLemmas.{talk_stands}
use Rattle.card_terminal.specs.TalkLaws.{all_alike}
use Rattle.card_terminal.proofs.PutTalkLemmas.{chain_ends}

-- one command has one exchange
one_exchange : (c : Command) (exchanges : List (List UnitOf)) (answer : Reply)
    → AreExchangesOf (c ∷ []) exchanges answer
    → (units : List UnitOf) × (exchanges ≡ units ∷ [])
    × Gathers c units answer.content answer.status
one_exchange c [] answer are = absurd are
one_exchange c (units ∷ []) answer are = (units, refl, are.0)
one_exchange c (units ∷ next ∷ exchanges) answer are = absurd are.2

one_goes : (old new : CardState) (units : List UnitOf) (exchanges : List (List UnitOf))
    → exchanges ≡ units ∷ [] → Goes old (talk_dialogues exchanges) new
    → Goes old (flat_map dialogues_of units) new
one_goes old new units exchanges is goes =
    rw (is, append-nil (flat_map dialogues_of units)) at goes

-- a command that wants everything, from its first unit
select_unit : (old mid new : CardState) (aid : List ℕ) (u : UnitOf) (answer : Reply)
    → is_idle old.pending ≡ true → IsAid aid
    → Opens (select_command aid) (first_of u) → IsUnit Everything u → Goes old (dialogues_of u) mid
    → Rest u mid new answer.content answer.status
    → IsCarriedOut old (Select aid) answer.status answer.content new
select_unit old mid new [] u answer idle is_aid opens is_unit goes rest =
    absurd (omega (arith, is_aid.0))
select_unit old mid new (b ∷ bytes) u answer idle is_aid opens is_unit goes rest =
    let once = sent_once u opens.to_card is_unit in
    select_answers old mid new (b ∷ bytes) (first_of u) answer.content answer.status idle is_aid
    opens (rw once at goes) (subst (λ v. Rest v mid new answer.content answer.status) once rest)

select_talk : (old new : CardState) (aid : List ℕ) (exchanges : List (List UnitOf)) (answer : Reply)
    → is_idle old.pending ≡ true → IsAid aid
    → AreExchangesOf (select_command aid ∷ []) exchanges answer
    → Goes old (talk_dialogues exchanges) new
    → IsCarriedOut old (Select aid) answer.status answer.content new
select_talk old new aid exchanges answer idle is_aid are goes =
    let (units, only, gathers) = one_exchange (select_command aid) exchanges answer are in
    let (u, mid, b) = begun (select_command aid).header aid units answer.content answer.status old
    new gathers (one_goes old new units exchanges only goes) in
    select_unit old mid new aid u answer idle is_aid b.opens b.is_unit b.goes b.rest

get_talk : (old new : CardState) (tag : List ℕ) (p1 p2 : ℕ) (exchanges : List (List UnitOf))
    (answer : Reply) → is_idle old.pending ≡ true → NamesTag tag p1 p2
    → AreExchangesOf (get_command p1 p2 ∷ []) exchanges answer
    → Goes old (talk_dialogues exchanges) new
    → IsCarriedOut old (Get tag) answer.status answer.content new
get_talk old new tag p1 p2 exchanges answer idle names are goes =
    let (units, only, gathers) = one_exchange (get_command p1 p2) exchanges answer are in
    let (u, mid, b) = begun (get_command p1 p2).header [] units answer.content answer.status old new
    gathers (one_goes old new units exchanges only goes) in
    get_answers old mid new tag p1 p2 u answer.content answer.status idle names b.opens b.is_unit
    b.goes b.rest

put_talk : (old new : CardState) (tag value : List ℕ) (p1 p2 : ℕ) (pieces : List (List ℕ))
    (exchanges : List (List UnitOf)) (answer : Reply) → is_idle old.pending ≡ true
    → NamesTag tag p1 p2 → IsPieces value pieces
    → AreExchangesOf (chain_commands (put_header p1 p2) pieces) exchanges answer
    → Goes old (talk_dialogues exchanges) new
    → IsCarriedOut old (Put tag value) answer.status answer.content new
put_talk old new tag value p1 p2 pieces exchanges answer idle names are_pieces are goes =
    let (ends, none) = chain_ends (put_header p1 p2) pieces exchanges answer old new are goes in
    rw none (chain_is_put tag p1 p2 names old new value pieces answer.status idle are_pieces ends)

-- A talk of an operation: its answer in one step, and no chain is pending.
pub talk_answers : (old new : CardState) (operation : Operation) (exchanges : List (List UnitOf))
    (answer : Reply)
    → is_idle old.pending ≡ true → IsTalkOf operation exchanges answer
    → Goes old (talk_dialogues exchanges) new
    → IsCarriedOut old operation answer.status answer.content new
talk_answers old new (Select aid) exchanges answer idle (commands, (is_aid, is), are) goes =
    select_talk old new aid exchanges answer idle is_aid
    (rw is at are) goes
talk_answers old new (Get tag) exchanges answer idle (commands, (p1, p2, names, is), are) goes =
    get_talk old new tag p1 p2 exchanges answer idle names
    (rw is at are) goes
talk_answers old new (Put tag value) exchanges answer idle
    (commands, (p1, p2, pieces, names, are_pieces, is), are) goes =
    put_talk old new tag value p1 p2 pieces exchanges answer idle names are_pieces
    (rw is at are) goes

-- Talks of operations in turn: their answers, one step each, and no chain is pending.
pub talks_answer : (operations : List Operation) (talks : List (List (List UnitOf)))
    (replies : List Reply) (old new : CardState) → is_idle old.pending ≡ true
    → AreTalksOf operations talks replies → Goes old (flat_map talk_dialogues talks) new
    → AnswersAll old operations replies new × (is_idle new.pending ≡ true)
talks_answer [] [] [] old new idle are goes = (
  (ap (λ s. s.applications) (sym goes), ap (λ s. s.selected) (sym goes)),
  ap (λ s. is_idle s.pending) goes ∙ idle,
)
talks_answer [] [] (r ∷ replies) old new idle are goes = absurd are
talks_answer [] (talk ∷ talks) replies old new idle are goes = absurd are
talks_answer (o ∷ operations) [] replies old new idle are goes = absurd are
talks_answer (o ∷ operations) (talk ∷ talks) [] old new idle are goes = absurd are
talks_answer (o ∷ operations) (talk ∷ talks) (r ∷ replies) old new idle are goes =
    let (mid, first, rest) =
    goes_apart old new (talk_dialogues talk) (flat_map talk_dialogues talks) goes in
    let (after, answers, same, idle_then) = talk_answers old mid o talk r idle are.0 first in
    let (others, is_idle_then) =
    talks_answer operations talks replies mid new idle_then are.1 rest in (
      (after, answers, all_alike operations replies mid after new (sym same.0, sym same.1) others),
      is_idle_then,
    )

pub whole_talk_answers : (first last : CardState) (plans left : List Course)
    (operations : List Operation) (replies : List Reply) (line : List Character)
    → IsCardState first → is_idle first.pending ≡ true → HaveCuts plans
    → Talk Does first plans operations replies last left line
    → AnswersAll first operations replies last × (is_idle last.pending ≡ true) × IsCardState last
whole_talk_answers first last plans left operations replies line sound idle cuts talk =
    let goes : Goes first (flat_map talk_dialogues talk.talks) last =
    goes_by_runs first last (flat_map talk_dialogues talk.talks) plans cuts
    (rw talk.dialogues_are at talk.runs) in
    let (answers, is_idle_then) =
    talks_answer operations talk.talks replies first last idle talk.are_talks goes in
    (answers, is_idle_then, goes_sound first last (flat_map talk_dialogues talk.talks) sound goes)

-- the same over a card whose own states stand for these
pub own_talk_answers : {State : Type 0} (Own : State → ℕ → Tpdu → State → Type 0) (own_reset : State
    → State)
    (state_of : State → CardState) → StandsFor Own own_reset state_of → (first last : State)
    (old new : CardState) → state_of first ≡ old → state_of last ≡ new → (plans left : List Course)
    (operations : List Operation) (replies : List Reply) (line : List Character) → IsCardState old
    → is_idle old.pending ≡ true → HaveCuts plans
    → Talk Own first plans operations replies last left line
    → AnswersAll old operations replies new × (is_idle new.pending ≡ true) × IsCardState new
own_talk_answers Own own_reset state_of stands first last old new was is plans left operations
    replies line sound idle cuts talk =
    let over = talk_stands Own own_reset state_of stands first last plans left operations replies
    line talk in
    whole_talk_answers old new plans left operations replies line sound idle cuts
    (rw (was, is) at over)
