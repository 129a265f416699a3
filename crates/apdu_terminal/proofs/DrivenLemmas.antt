-- An operation between a terminal and a card of data objects: the terminal takes each response,
-- and no operation fails.
use Rattle.std.proofs.Common.{◌≡◌, ℕ, ◌≤◌, List, [], ◌∷◌, ◌++◌, length, Option, Some, None, Result, Ok, Err, true, false, inl, inr, refl, sym, subst, ap, ◌∙◌, if◌then◌else◌}
use Rattle.std.specs.Prelude.{IsOk, is_some}
use Rattle.std.specs.List.{AllByRecursion}
use Rattle.apdu_core.specs.declared.header.Header.{Header}
use Rattle.apdu_core.specs.StatusWord.{StatusWord}
use Rattle.apdu_core.specs.CommandBytes.{Command}
use Rattle.t0_core.specs.Meaning.{Tpdu}
use Rattle.t0_core.specs.declared.answer_fault.AnswerFault.{AnswerFault}
use Rattle.t0_core.specs.HostAnswer.{fails_with}
use Rattle.object_card.specs.Agreed.{IsAgreed}
use Rattle.object_card.specs.State.{CardState, IsCardState}
use Rattle.object_card.specs.CardMeaning.{Does}
use Rattle.object_card.specs.DataCard.{StandsFor}
use Rattle.apdu_core.specs.Shared.{Reply}
use Rattle.object_card.specs.OneStep.{Operation, Select, Get, Put}
use Rattle.object_card.specs.CarryingOut.{put_header}
use Rattle.object_card.specs.declared.instructions.Instruction.{Instruction}
use Rattle.object_card.specs.declared.instructions.Instruction.TheVariants.{GetData, GetResponse}
use Rattle.object_card.specs.Instructions.{ins_of, takes_data}
use Rattle.object_card.specs.InstructionLaws.{one_way}
use Rattle.card_terminal.specs.AgreedLaws.{KeepsTo, agreed_select, agreed_pieces}
use Rattle.exchange_core.specs.ExchangeSide.{response_limit}
use Rattle.exchange_core.specs.Gathered.{wanted_by}
use Rattle.card_terminal.specs.Talk.{AreCommandsOf}
use Rattle.apdu_terminal.specs.declared.stage.Stage.{Stage}
use Rattle.apdu_terminal.specs.declared.stage.Stage.TheVariants.{Going, Done, Failed}
use Rattle.apdu_terminal.specs.Apdus.{Pair, first_place, may_bring}
use Rattle.apdu_terminal.specs.ApduSide.{ApduExchangeOf, answer_at, answered_by, command_of, due_of, is_going, place_of}
use Rattle.apdu_terminal.specs.ApduOperations.{ApduOperationOf, AreApdusUpTo, HasResponded, HasRoomFor, IsTakingResponse, LeadsTo, has_failed_at, operation_answer, operation_due}
use Rattle.apdu_terminal.specs.ApduTalk.{IsApduTalkOf, AreApdusOf, talk_pairs}
use Rattle.apdu_terminal.specs.CardApdu.{HasResponse, Responds, RespondsToAll}
use Rattle.apdu_terminal.specs.TurnLaws.{turns_apart}
use Rattle.apdu_terminal.proofs.CardLemmas.{at_place, due_when, fault_fails, response_is, responds_within}
use Rattle.apdu_terminal.proofs.LedLemmas.{at_stage}
use Rattle.apdu_terminal.proofs.PlaceLemmas.{Agrees, agrees_first, agrees_on, through}
use Rattle.apdu_terminal.proofs.StallLemmas.{never_overflows, never_stalls, sound_after}
use Rattle.apdu_terminal.proofs.TalkLemmas.{own_responds, turns_both}

-- the commands of an operation are agreed with a card of data objects
pub commands_agreed : (R S : Header → Type 0) → KeepsTo R S → (o : Operation)
    (commands : List Command) → AreCommandsOf o commands
    → AllByRecursion (λ c. IsAgreed R S c) commands
commands_agreed R S keeps (Select aid) commands (is_aid, are) =
    rw are (agreed_select R S keeps aid is_aid, tt)
commands_agreed R S keeps (Get tag) commands (p1, p2, names, are) =
    rw are ((to_terminal _ GetData refl refl, to_terminal _ GetResponse refl refl), tt)
  where
    to_terminal : (h : Header) (i : Instruction) → h.ins ≡ ins_of i → takes_data i ≡ false → R h
        → ⊥
    to_terminal h i is gives takes = one_way h ((keeps.receives h).0 takes) (i, is, gives)
commands_agreed R S keeps (Put tag value) commands (p1, p2, pieces, names, are_pieces, are) =
    rw are (agreed_pieces R S keeps (put_header p1 p2) refl pieces)

current_is : (P : Command → Type 0) (commands : List Command) (gone : List (List Pair))
    (c : Command) (left : List Command) → AllByRecursion P commands
    → AreApdusUpTo commands gone (c ∷ left) → P c
current_is P commands [] c left all taken =
    (rw (sym taken) at all).0
current_is P [] (g ∷ gone) c left all taken = absurd taken
current_is P (d ∷ commands) (g ∷ gone) c left all taken =
    current_is P commands gone c left all.1 taken.2

-- the next command is agreed with the card, as all commands of the operation are
pub due_is_agreed : (R S : Header → Type 0) (commands : List Command) (pairs : List Pair)
    (t : Option ApduOperationOf) (due : Command) → operation_due t ≡ Some due
    → AllByRecursion (λ c. IsAgreed R S c) commands → LeadsTo commands pairs t → IsAgreed R S due
due_is_agreed R S commands pairs None due is all leads = absurd leads
due_is_agreed R S commands pairs (Some o) due is all (l, settled) =
    let start = first_place l.current (wanted_by l.current.le) in
    let agreed = current_is (λ c. IsAgreed R S c) commands l.gone l.current l.left all l.taken in
    let (way, bytes, same) =
    at_place l.current (wanted_by l.current.le) l.here o.exchange due is l.led in
    let at_due = through (Agrees R S) (agrees_on R S) start (place_of o.exchange) 0 l.here
    (agrees_first R S l.current agreed) way in
    subst (λ c. IsAgreed R S c) same at_due.agreed

-- with a card of data objects no operation fails
pub none_fails : (old new : CardState) (commands : List Command) (pairs : List Pair)
    (o : ApduOperationOf) → IsCardState old → LeadsTo commands pairs (Some o)
    → o.exchange.gather.limit ≡ response_limit → RespondsToAll Does old pairs new
    → o.exchange.stage ≡ Failed → ⊥
none_fails old new commands pairs o sound (l, settled) room goes failed =
    let wanted = wanted_by l.current.le in
    let (mid, before, here) = turns_apart (Responds Does) old new (talk_pairs l.gone) l.here
    (rw l.pairs_are at goes) in
    elim (at_stage l.current wanted l.here o.exchange Failed failed l.led) [
      | inl stalls ↦ never_stalls l.current wanted l.here mid new stalls here
      | inr long ↦ never_overflows l.current wanted l.here mid new o.exchange.gather.limit room
          (sound_after old mid (talk_pairs l.gone) sound before) long here
    ]

-- the terminal takes each response that is no longer than asked for
takes : (old new : CardState) (commands : List Command) (pairs : List Pair)
    (o : ApduOperationOf) (due : Command) (content : List ℕ) (status : StatusWord)
    (result : Result (Unit {0}) AnswerFault) (then_at : Option ApduOperationOf)
    → IsCardState old → LeadsTo commands pairs (Some o) → due_of o.exchange ≡ Some due
    → length content ≤ may_bring o.exchange.le
    → RespondsToAll Does old (pairs ++ answered_by o.exchange content status ∷ []) new
    → IsTakingResponse (Some o) content status result then_at
    → HasRoomFor response_limit then_at → IsOk result
takes old new commands pairs o due content status (Ok u) then_at sound leads is few all step room =
    refl
takes old new commands pairs o due content status (Err f) then_at sound leads is few all step
    room =
    absurd (by then_at (step.failed fails) room (step.led commands pairs leads fails))
  where
    fails : fails_with f ≡ true
    fails = elim step.fault [
      | inl is_fault ↦ fault_fails o.exchange (length content) f
          (due_when (is_going o.exchange.stage) (command_of o.exchange) due is).0 few is_fault
      | inr stalled ↦ ap fails_with stalled.0
    ]

    by : (n : Option ApduOperationOf) → has_failed_at n → HasRoomFor response_limit n
        → LeadsTo commands (pairs ++ answered_by o.exchange content status ∷ []) n → ⊥
    by None failed room leads = failed
    by (Some n) failed room leads = none_fails old new commands _ n sound leads room all failed

pub is_taken : (old mid new : CardState) (commands : List Command) (pairs : List Pair)
    (o : ApduOperationOf) (due : Command) (content : List ℕ) (status : StatusWord)
    (result : Result (Unit {0}) AnswerFault) (then_at : Option ApduOperationOf)
    → IsCardState old → LeadsTo commands pairs (Some o) → due_of o.exchange ≡ Some due
    → RespondsToAll Does old pairs mid
    → Responds Does mid (answered_by o.exchange content status) new
    → IsTakingResponse (Some o) content status result then_at
    → HasRoomFor response_limit then_at → IsOk result
is_taken old mid new commands pairs o due content status result then_at sound leads is goes
    responds step room =
    takes old new commands pairs o due content status result then_at sound leads is
    (responds_within Does mid new (answered_by o.exchange content status) responds)
    (turns_both (Responds Does) old mid new pairs (answered_by o.exchange content status ∷ []) goes
    (new, responds, refl)) step room

-- the response of the card to the next command
pub record IsResponse {State : Type 0} (Own : State → ℕ → Tpdu → State → Type 0)
    (mid last : State) (due : Command) (done : ApduExchangeOf) (content : List ℕ)
    (told : StatusWord) : Type 0 where
  pub over : HasResponse Own mid due last done
  pub ended : done.stage ≡ Done told
  pub bytes : content ≡ done.gather.bytes

-- The terminal takes it, and it leads on.
pub taken_on : {State : Type 0} (Own : State → ℕ → Tpdu → State → Type 0)
    (reset : State → State) (state_of : State → CardState) (first mid last : State)
    (seen : CardState) (limit : ℕ) (commands : List Command) (t new : Option ApduOperationOf)
    (due : Command) (done : ApduExchangeOf) (content : List ℕ) (told : StatusWord)
    (r : Result (Unit {0}) AnswerFault) → StandsFor Own reset state_of → state_of first ≡ seen
    → IsCardState seen → limit ≡ response_limit → HasRoomFor limit new
    → operation_due t ≡ Some due → IsResponse Own mid last due done content told
    → IsTakingResponse t content told r new → HasResponded Own commands first mid t
    → IsOk r × HasResponded Own commands first last new
taken_on Own reset state_of first mid last seen limit commands None new due done content told r
    means was sound is room at response step (pairs, leads, goes) =
    absurd leads
taken_on {State} Own reset state_of first mid last seen limit commands (Some o) new due done content
    told r means was sound is room at response step (pairs, leads, goes) =
    by r step (takes (state_of first) (state_of last) commands pairs o due content told r new
    (rw was sound) leads at (responds_within Own mid last p responds)
    (own_responds Own reset state_of first last (pairs ++ p ∷ []) means all) step (rw is at room))
  where
    p : Pair
    p = answered_by o.exchange content told

    responds : Responds Own mid p last
    responds = response_is Own mid last o.exchange done content told due at response.over
        response.ended response.bytes

    all : RespondsToAll Own first (pairs ++ p ∷ []) last
    all = turns_both (Responds Own) first mid last pairs (p ∷ []) goes (last, responds, refl)

    by : (r : Result (Unit {0}) AnswerFault) → IsTakingResponse (Some o) content told r new
        → IsOk r → IsOk r × HasResponded Own commands first last new
    by (Ok u) step ok = (ok, (pairs ++ p ∷ [], step.led commands pairs leads, all))
    by (Err f) step ok = absurd (cc)

-- an operation without a next command has ended
pub over_then : {State : Type 0} (Own : State → ℕ → Tpdu → State → Type 0)
    (reset : State → State) (state_of : State → CardState) (first now : State)
    (seen : CardState) (limit : ℕ) (commands : List Command) (t : Option ApduOperationOf)
    → StandsFor Own reset state_of → state_of first ≡ seen → IsCardState seen
    → limit ≡ response_limit → HasRoomFor limit t → None ≡ operation_due t
    → HasResponded Own commands first now t → is_some (operation_answer t) ≡ true
over_then Own reset state_of first now seen limit commands None means was sound is room none
    (pairs, leads, goes) =
    absurd leads
over_then Own reset state_of first now seen limit commands (Some o) means was sound is room none
    (pairs, leads, goes) = by o.exchange.stage refl
  where
    by : (s : Stage) → o.exchange.stage ≡ s
        → is_some (answer_at o.exchange.stage o.exchange.gather.bytes) ≡ true
    by Going e =
        let no : None ≡ Some (command_of o.exchange) =
        none ∙ ap (λ s. if is_going s then Some (command_of o.exchange) else None) e in absurd (cc)
    by (Done status) e = ap (λ s. is_some (answer_at s o.exchange.gather.bytes)) e
    by Failed e = absurd (none_fails (state_of first) (state_of now) commands pairs o
        (rw was sound) leads (room ∙ is)
        (own_responds Own reset state_of first now pairs means goes) e)

-- the pairs of an operation are a talk of it
pub is_talk : {State : Type 0} (Own : State → ℕ → Tpdu → State → Type 0) (first now : State)
    (commands : List Command) (pairs : List Pair) (o : Operation) (answer : Reply)
    → AreCommandsOf o commands → RespondsToAll Own first pairs now
    → (exchanges : List (List Pair)) × AreApdusOf commands exchanges answer
    × (pairs ≡ talk_pairs exchanges)
    → (exchanges : List (List Pair)) × IsApduTalkOf o exchanges answer
    × RespondsToAll Own first (talk_pairs exchanges) now
is_talk Own first now commands pairs o answer are goes (exchanges, are_apdus, same) = (
  exchanges,
  (commands, are, are_apdus),
  rw same at goes,
)
