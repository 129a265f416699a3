-- A put by whole commands is the put in one step, and so is each operation; operations in turn.
use Rattle.std.proofs.Common.{◌≡◌, ℕ, ◌+◌, ◌-◌, ◌≤◌, List, [], ◌∷◌, ◌++◌, length, Option, Some, None, true, ◌⊎◌, inl, inr, refl, sym, ap, subst, ◌∙◌, arith, append-nil}
use Rattle.std.specs.List.{flat_map}
use Rattle.apdu_core.specs.declared.header.Header.{Header}
use Rattle.apdu_core.specs.StatusWord.{StatusWord, announces, corrects}
use Rattle.apdu_core.specs.CommandBytes.{Command}
use Rattle.apdu_core.specs.Chaining.{link, chain_commands}
use Rattle.t0_core.specs.Meaning.{Tpdu}
use Rattle.t0_core.specs.CardSide.{EndOf}
use Rattle.t0_core.specs.declared.tpdu_card.TpduCard.{Ghosts}
use Rattle.object_card.specs.State.{CardState, is_idle}
use Rattle.apdu_core.specs.Shared.{Reply}
use Rattle.object_card.specs.OneStep.{Operation, Select, Get, Put, Answers, AnswersAll, SameTables}
use Rattle.object_card.specs.CardMeaning.{Does}
use Rattle.object_card.specs.DataCard.{StandsFor}
use Rattle.object_card.specs.CarryingOut.{put_header, IsCarriedOut, Carries, IsAnswered, EndsWith}
use Rattle.object_card.specs.PutRunLaws.{chain_is_put}
use Rattle.exchange_core.specs.declared.wanted.Wanted.{Wanted}
use Rattle.exchange_core.specs.declared.wanted.Wanted.TheVariants.{Bytes}
use Rattle.exchange_core.specs.Attempts.{again_with, next_by}
use Rattle.exchange_core.specs.Gathered.{less, fetched_of, fetched_after}
use Rattle.card_terminal.specs.Talk.{select_command, get_command}
use Rattle.card_terminal.specs.declared.operation.Op.{Op}
use Rattle.card_terminal.specs.RunLaws.{HaveReplies, replies_come}
use Rattle.card_terminal.specs.Running.{new_answers, carried_out}
use Rattle.card_terminal.specs.TalkLaws.{chains_end, talks_more, all_alike}
use Rattle.t0_core.specs.DialogueLaws.{flat_map_last}
use Rattle.apdu_terminal.specs.Apdus.{Pair, first_place, leads, Goes, Ends, follow, all_content, Brings, GathersApdus}
use Rattle.apdu_terminal.specs.CardApdu.{p3_of, tpdu_command, InTurn, GoesAs, GoesBy, Responds, RespondsToAll}
use Rattle.apdu_terminal.specs.TurnLaws.{turns_apart}
use Rattle.apdu_terminal.specs.ApduTalk.{AreApdusOf, IsApduTalkOf, talk_pairs, AreApduTalksOf}
use Rattle.apdu_terminal.proofs.PlaceLemmas.{brings_whole}
use Rattle.apdu_terminal.proofs.FirstLemmas.{whole_by, select_is_answered, get_is_answered}

-- a command without Le wants nothing, and nothing follows it
none_wanted : (k : ℕ) (v : Option ℕ) → fetched_of (less (Bytes 0) k) v ≡ None
none_wanted k None = refl
none_wanted k (Some n) = let e : 0 - k ≡ 0 = omega arith in rw e refl

never_again : (h : Header) (content : List ℕ) (left : Wanted) (v : Option ℕ)
    → again_with (first_place (link h content) (Bytes 0)).attempt left v ≡ None
never_again h [] left None = refl
never_again h [] left (Some n) = refl
never_again h (b ∷ bs) left None = refl
never_again h (b ∷ bs) left (Some n) = refl

pub ends_alone : (h : Header) (content : List ℕ) (came : ℕ) (status : StatusWord)
    → follow (first_place (link h content) (Bytes 0)) came status ≡ Ends
ends_alone h content came status =
    let at = first_place (link h content) (Bytes 0) in
    ap (λ x. leads at came (next_by at.attempt (at.gathered + came) x
    (fetched_after (less (Bytes 0) came) status)))
    (never_again h content (less (Bytes 0) came) (corrects status))
    ∙ ap (λ x. leads at came (next_by at.attempt (at.gathered + came) None x))
    (none_wanted came (announces status))

-- its exchange is one pair
record IsAlone (h : Header) (piece : List ℕ) (pairs : List Pair) (content : List ℕ)
    (status : StatusWord) (p : Pair) : Type 0 where
  pairs_are : pairs ≡ p ∷ []
  is_it : p.command ≡ link h piece
  none : p.content ≡ []
  none_gathered : content ≡ []
  status_is : status ≡ p.status

no_bytes : (bytes : List ℕ) → length bytes ≤ 0 → bytes ≡ []
no_bytes [] few = refl
no_bytes (b ∷ bytes) few = absurd (omega (arith, few))

alone : (h : Header) (piece : List ℕ) (pairs : List Pair) (content : List ℕ) (status : StatusWord)
    → Brings (link h piece) (Bytes 0) pairs content status
    → (p : Pair) × IsAlone h piece pairs content status p
alone h piece pairs content status brings =
    let at = first_place (link h piece) (Bytes 0) in
    let (p, rest, are, suits, by) = whole_by at pairs status
    (brings_whole (link h piece) (Bytes 0) pairs content status brings) in
    let none : p.content ≡ [] = no_bytes p.content suits.asked_for in
    elim by [
      | inl (over, is, ends) ↦ (
        p,
        record {
          pairs_are = are ∙ ap (λ ps. p ∷ ps) over;
          is_it = suits.is_due;
          none = none;
          none_gathered = brings.gathered_is ∙ ap all_content (are ∙ ap (λ ps. p ∷ ps) over)
              ∙ append-nil p.content ∙ none;
          status_is = is;
        },
      )
      | inr (next, goes, whole) ↦
          let no : Ends ≡ Goes next =
          sym (ends_alone h piece (length p.content) p.status) ∙ goes in absurd (cc)
    ]

p3_counts : (content : List ℕ) → p3_of content None ≡ length content
p3_counts [] = refl
p3_counts (b ∷ bs) = refl

front_of : (sent content : List ℕ) → (sent ≡ []) ⊎ (sent ≡ content)
    → (rest : List ℕ) × (content ≡ sent ++ rest)
front_of sent content (inl none) = (content, ap (λ bs. bs ++ content) (sym none))
front_of sent content (inr all) = ([], sym all ∙ sym (append-nil sent))

without_le : (h : Header) (piece : List ℕ) → tpdu_command (link h piece) ≡ link h piece
without_le h [] = refl
without_le h (b ∷ bs) = refl

-- so the card carries it out as one TPDU
pub answered_by : (h : Header) (piece : List ℕ) (pairs : List Pair) (content : List ℕ)
    (status : StatusWord) (old new : CardState)
    → GathersApdus (link h piece) pairs content status → RespondsToAll Does old pairs new
    → IsAnswered old (link h piece) status new × (content ≡ [])
answered_by h piece pairs content status old new g goes =
    let (p, is) = alone h piece pairs content status g in
    let (mid, (inner, brings, by), stays) = rw is.pairs_are at goes in
    let inside : Brings (link h piece) (Bytes 0) inner p.content p.status =
    rw (sym (without_le h piece)) (rw is.is_it at brings) in
    let (q, alone_q) = alone h piece inner p.content p.status inside in
    let (next, (t, of, does), last) = rw alone_q.pairs_are at by in
    let front = front_of t.sent piece (rw alone_q.is_it at of.all_or_none) in
    let carries : Carries h piece t = record {
      header_is = of.header_is ∙ ap (λ (c : Command). c.header) alone_q.is_it;
      counts = of.p3_is ∙ ap (λ (c : Command). p3_of c.content c.le) alone_q.is_it
          ∙ p3_counts piece;
      takes = front;
    } in (
      (
        256,
        t,
        carries,
        of.status_is ∙ sym alone_q.status_is ∙ sym is.status_is,
        subst (λ s. Does old 256 t s) (sym (stays ∙ last)) does,
      ),
      is.none_gathered,
    )

-- ---- pairs in turn

pub turns_both : {State : Type 0} (One : State → Pair → State → Type 0) (old mid new : State)
    (xs ys : List Pair) → InTurn One old xs mid → InTurn One mid ys new
    → InTurn One old (xs ++ ys) new
turns_both {State} One old mid new [] ys first second =
    rw first at second
turns_both One old mid new (x ∷ xs) ys (next, is, rest) second =
    (next, is, turns_both One next mid new xs ys rest second)

turns_as : {State Other : Type 0} (One : State → Pair → State → Type 0)
    (As : Other → Pair → Other → Type 0) (of : State → Other)
    → ((old : State) (p : Pair) (new : State) → One old p new → As (of old) p (of new))
    → (old new : State) (pairs : List Pair) → InTurn One old pairs new
    → InTurn As (of old) pairs (of new)
turns_as One As of each old new [] goes = ap of goes
turns_as One As of each old new (p ∷ pairs) (mid, is, rest) =
    (of mid, each old p mid is, turns_as One As of each mid new pairs rest)

chain_ends : (h : Header) (pieces : List (List ℕ)) (exchanges : List (List Pair))
    (answer : Reply) (old new : CardState)
    → AreApdusOf (chain_commands h pieces) exchanges answer
    → RespondsToAll Does old (talk_pairs exchanges) new
    → EndsWith old (chain_commands h pieces) new answer.status × (answer.content ≡ [])
chain_ends = chains_end GathersApdus (λ old pairs new. RespondsToAll Does old pairs new)
    (λ old exchanges new. RespondsToAll Does old (talk_pairs exchanges) new)
    (λ old new pairs others goes.
    turns_apart (Responds Does) old new pairs (talk_pairs others) goes)
    (λ old new goes. goes) answered_by

-- of one command there is one exchange
one_exchange : (old new : CardState) (operation : Operation) (answer : Reply) (c : Command)
    (exchanges : List (List Pair)) → AreApdusOf (c ∷ []) exchanges answer
    → ((pairs : List Pair) → GathersApdus c pairs answer.content answer.status
    → RespondsToAll Does old pairs new
    → IsCarriedOut old operation answer.status answer.content new)
    → RespondsToAll Does old (talk_pairs exchanges) new
    → IsCarriedOut old operation answer.status answer.content new
one_exchange old new operation answer c [] are each goes = absurd are
one_exchange old new operation answer c (pairs ∷ []) are each goes =
    each pairs are.0 (rw (append-nil pairs) at goes)
one_exchange old new operation answer c (pairs ∷ next ∷ exchanges) are each goes = absurd are.2

-- Each operation by whole commands is that operation in one step.
pub talk_is_one_step : (old new : CardState) (operation : Operation)
    (exchanges : List (List Pair)) (answer : Reply) → is_idle old.pending ≡ true
    → IsApduTalkOf operation exchanges answer → RespondsToAll Does old (talk_pairs exchanges) new
    → (after : CardState) × Answers old operation answer after × SameTables after new
    × (is_idle new.pending ≡ true)
talk_is_one_step old new (Select aid) exchanges answer idle (commands, (is_aid, commands_are), are)
    goes =
    one_exchange old new (Select aid) answer (select_command aid) exchanges (rw commands_are at are)
    (λ pairs gathers responds.
    select_is_answered old new aid pairs answer.content answer.status idle is_aid gathers responds)
    goes
talk_is_one_step old new (Get tag) exchanges answer idle
    (commands, (p1, p2, names, commands_are), are) goes =
    one_exchange old new (Get tag) answer (get_command p1 p2) exchanges (rw commands_are at are)
    (λ pairs gathers responds.
    get_is_answered old new tag p1 p2 pairs answer.content answer.status idle names gathers
    responds)
    goes
talk_is_one_step old new (Put tag value) exchanges answer idle
    (commands, (p1, p2, pieces, names, are_pieces, commands_are), are) goes =
    let (ends, none) = chain_ends (put_header p1 p2) pieces exchanges answer old new
    (rw commands_are at are) goes in
    let (after, answers, same, rests) = chain_is_put tag p1 p2 names old new value pieces
    answer.status idle are_pieces ends in (
      after,
      subst (λ bs. Answers old (Put tag value)
          (record { status = answer.status; content = bs }) after) (sym none) answers,
      same,
      rests,
    )

-- ---- any card of data objects

pub own_goes : {State : Type 0} (Own : State → ℕ → Tpdu → State → Type 0) (reset : State → State)
    (state_of : State → CardState) (old new : State) (pairs : List Pair)
    → StandsFor Own reset state_of → GoesBy Own old pairs new
    → GoesBy Does (state_of old) pairs (state_of new)
own_goes Own reset state_of old new pairs means goes =
    turns_as (GoesAs Own) (GoesAs Does) state_of
    (λ was p now (t, is, does). (t, is, means.steps was now 256 t does)) old new pairs goes

pub own_responds : {State : Type 0} (Own : State → ℕ → Tpdu → State → Type 0)
    (reset : State → State) (state_of : State → CardState) (old new : State) (pairs : List Pair)
    → StandsFor Own reset state_of → RespondsToAll Own old pairs new
    → RespondsToAll Does (state_of old) pairs (state_of new)
own_responds Own reset state_of old new pairs means goes =
    turns_as (Responds Own) (Responds Does) state_of
    (λ was p now (inner, brings, goes).
    (inner, brings, own_goes Own reset state_of was now inner means goes)) old new pairs goes

-- ---- operations in turn

pub talks_are_single_steps : (old new : CardState) (operations : List Operation)
    (talks : List (List (List Pair))) (replies : List Reply) → is_idle old.pending ≡ true
    → AreApduTalksOf operations talks replies
    → RespondsToAll Does old (flat_map talk_pairs talks) new
    → AnswersAll old operations replies new × (is_idle new.pending ≡ true)
talks_are_single_steps old new [] [] [] idle are goes = (
  (sym (ap (λ s. s.applications) goes), sym (ap (λ s. s.selected) goes)),
  ap (λ s. is_idle s.pending) goes ∙ idle,
)
talks_are_single_steps old new (o ∷ operations) (t ∷ talks) (r ∷ replies) idle (is, are) goes =
    let (mid, first, rest) =
    turns_apart (Responds Does) old new (talk_pairs t) (flat_map talk_pairs talks) goes in
    let (after, answers, same, rests) = talk_is_one_step old mid o t r idle is first in
    let (all, idle_then) =
    talks_are_single_steps mid new operations talks replies rests are rest in (
      (after, answers, all_alike operations replies mid after new (sym same.0, sym same.1) all),
      idle_then,
    )
talks_are_single_steps old new _ _ _ idle are goes = absurd are

-- operations in turn have these answers, and lead from state to state
abbrev pub HaveCome : {State : Type 0} → (State → ℕ → Tpdu → State → Type 0) → State → State
    → List Operation → List Reply → Type 0
HaveCome Own from to done replies = (talks : List (List (List Pair)))
    × AreApduTalksOf done talks replies × RespondsToAll Own from (flat_map talk_pairs talks) to

pub one_more_comes : {State : Type 0} (Own : State → ℕ → Tpdu → State → Type 0)
    (from mid to : State) (done : List Operation) (replies : List Reply) (o : Operation)
    (r : Reply) → HaveCome Own from mid done replies
    → (exchanges : List (List Pair)) × IsApduTalkOf o exchanges r
    × RespondsToAll Own mid (talk_pairs exchanges) to
    → HaveCome Own from to (done ++ o ∷ []) (replies ++ r ∷ [])
one_more_comes Own from mid to done replies o r (talks, are, goes) (exchanges, is, then_so) = (
  talks ++ exchanges ∷ [],
  talks_more GathersApdus done talks replies o exchanges r are is,
  rw (flat_map_last talk_pairs talks exchanges)
      (turns_both (Responds Own) from mid to (flat_map talk_pairs talks) (talk_pairs exchanges) goes
      then_so),
)

-- the same if nothing has changed
pub still_at : {C A : Type 0} (card : Ghosts C) (from : card.State) (e e' : EndOf C)
    (ops : List (Op A)) (before : List Reply) (n : ℕ) (given given' : List Reply)
    → HaveReplies (λ done replies. HaveCome card.Does from (card.standing e.card) done replies) ops
    before n given → e' ≡ e → given' ≡ given
    → HaveReplies (λ done replies. HaveCome card.Does from (card.standing e'.card) done replies) ops
    before n given'
still_at {C} card from e e' ops before n given given' have same same_given =
    rw (same, same_given) have

-- they are single steps of any card of data objects
pub steps_so_far : {State A : Type 0} (Own : State → ℕ → Tpdu → State → Type 0)
    (reset : State → State) (state_of : State → CardState) (from to : State)
    (old new : CardState) (ops : List (Op A)) (before : List Reply) (n : ℕ) (given : List Reply)
    → StandsFor Own reset state_of → state_of from ≡ old → state_of to ≡ new
    → is_idle old.pending ≡ true
    → HaveReplies (λ done replies. HaveCome Own from to done replies) ops before n given
    → AnswersAll old (carried_out ops (new_answers before given)) (new_answers before given) new
    × (is_idle new.pending ≡ true)
steps_so_far Own reset state_of from to old new ops before n given means was now idle have =
    let replies = new_answers before given in
    let (talks, are, goes) =
    replies_come (λ done replies. HaveCome Own from to done replies) ops before n given have in
    let pairs = flat_map talk_pairs talks in
    talks_are_single_steps old new (carried_out ops replies) talks replies idle are
    (rw (sym was, sym now) (own_responds Own reset state_of from to pairs means goes))
