-- A tap at a connector, from place to place of a dialogue.
use Rattle.std.specs.List.{AllByRecursion}
use Rattle.std.proofs.Common.{arith, ◌≡◌, ◌≢◌, refl, sym, ap, subst, ◌∙◌, ℕ, zero, suc, ◌+◌, ◌*◌, ◌≤◌, ◌⊎◌, inl, inr, Bool, true, false, List, [], ◌∷◌, ◌++◌, length, take, drop, Option, Some, None, append_assoc, append-nil, length-append, cond}
use Rattle.std.proofs.lemmas.List.{take-append-drop, take_all, drop_all}
use Rattle.t1_core.specs.declared.block.Control.TheVariants.{Ifs, Wtx}
use Rattle.t1_core.specs.declared.settings.Edc.{Edc as Code}
use Rattle.t1_core.specs.declared.settings.Settings.{Settings}
use Rattle.t1_core.specs.declared.line.Fates.{Fates}
use Rattle.t1_core.specs.declared.line.Fate.{Fate}
use Rattle.t1_core.specs.declared.line.Fate.TheVariants.{Delivers, Damages, Loses}
use Rattle.t1_core.specs.declared.pcb.BlockReason.{BlockReason}
use Rattle.t1_core.specs.declared.pcb.BlockReason.TheVariants.{Edc, Other}
use Rattle.t1_core.specs.declared.reading.End.{End}
use Rattle.t1_core.specs.declared.reading.End.TheVariants.{Terminal, Card}
use Rattle.t1_core.specs.declared.reading.Reading.{Reading}
use Rattle.t1_core.specs.declared.terminal.Cause.{Cause}
use Rattle.t1_core.specs.declared.terminal.Cause.TheVariants.{TriesSpent, ExtensionsSpent, TooLong}
use Rattle.t1_core.specs.declared.gathered.Progress.TheVariants.{Begun}
use Rattle.t1_core.specs.declared.terminal.Phase.TheVariants.{GivenUp, Over}
use Rattle.t1_core.specs.declared.terminal.Out.{Out}
use Rattle.t1_core.specs.declared.terminal.Out.TheVariants.{Asks}
use Rattle.t1_core.specs.declared.terminal.Outcome.{Outcome}
use Rattle.t1_core.specs.declared.terminal.Outcome.TheVariants.{NotCarriedOut}
use Rattle.t1_core.specs.Block.{Response, is_size, more, other}
use Rattle.t1_core.specs.CardSide.{Meaning, Turn, card_takes}
use Rattle.t1_core.specs.Overhearing.{IsBegun, IsGiven, IsKnown, IsOverheard, Message, Passed, Story, blocks_in, messages, passed, passes, passes_both, tells_all, turns, untold}
use Rattle.t1_core.specs.TerminalSide.{has_stopped, outcome_of, outcome_with, sends}
use Rattle.t1_core.specs.Gathering.{Gathered}
use Rattle.t1_core.specs.Hearing.{AreItems, Heard, Item}
use Rattle.t1_core.specs.Reading.{fresh, is_end, peer}
use Rattle.t1_core.specs.World.{World, run, start}
use Rattle.t1_core.proofs.HeardBlocks.{Here, IsPlain, Level, New, Newest, One, Then, it_ends, more_follows, new_field, of_items, once_more, plain, then_more}
use Rattle.t1_core.proofs.Holding.{AddsUp, Holds, HoldsAt, first, first_holds, first_is, heard_holds, many, moves, responding, sending, step_holds}
use Rattle.t1_core.proofs.Places.{sent_at, sends_it, garble_at, garbles_it, takes_it, Kept, Spot, Place, Going, Opens, Behind, Taken, Waits, Grows, Between, Sent, Given_up, Finished, arrived, asking, card_at, card_in, comes, comes_next, garbled, grows, heard, is_heard, is_long, misses, numbered, out_at, out_of, proceeds, reply_of, runs, starts, step, terminal_in, uses, with_phase, world_of, IsHeard, error_of, is_step}

garble_plain : (k : Kept) (s : Spot) → IsPlain (garble_at k s)
garble_plain k (Waits rest n size granted) = tt
garble_plain k (Grows rest size granted) = tt
garble_plain k _ = tt

-- ---- each command and its response

turns_append : (does : List (List ℕ) → List ℕ) (past xs ys : List (List ℕ))
    → turns does past (xs ++ ys) ≡ turns does past xs ++ turns does (past ++ xs) ys
turns_append does past [] ys = ap (λ p. turns does p ys) (sym (append-nil past))
turns_append does past (x ∷ xs) ys =
    ap (λ ts. (Terminal, x) ∷ (Card, does (past ++ x ∷ [])) ∷ ts)
    (turns_append does (past ++ x ∷ []) xs ys
    ∙ ap (λ p. turns does (past ++ x ∷ []) xs ++ turns does p ys) (append_assoc past (x ∷ []) xs))

turns_last : (does : List (List ℕ) → List ℕ) (past xs : List (List ℕ)) (c : List ℕ)
    → turns does past (xs ++ c ∷ [])
    ≡ turns does past xs ++ (Terminal, c) ∷ (Card, does (past ++ (xs ++ c ∷ []))) ∷ []
turns_last does past xs c =
    turns_append does past xs (c ∷ [])
    ∙ ap (λ p. turns does past xs ++ (Terminal, c) ∷ (Card, does p) ∷ [])
    (append_assoc past xs (c ∷ []))

turns_many : (does : List (List ℕ) → List ℕ) (past xs : List (List ℕ))
    → length (turns does past xs) ≡ 2 * length xs
turns_many does past [] = refl
turns_many does past (x ∷ xs) =
    let rest = turns_many does (past ++ x ∷ []) xs in omega (arith, rest)

-- ---- what the tap knows at each spot

-- responses of the card that are not given yet
abbrev replies : List (List ℕ) → List Message
replies [] = []
replies (r ∷ rs) = (Card, r) ∷ replies rs

-- the sender of the next message, and the bytes of it that were heard
abbrev turn_in : Spot → End
turn_in (Opens rest asks) = Terminal
turn_in (Behind asks collected rest answering) = Terminal
turn_in (Taken collected b bytes) = Terminal
turn_in _ = Card

abbrev own_of : End → (terminal card : Bool) → Bool
own_of Terminal terminal card = terminal
own_of Card terminal card = card

abbrev so_far : Spot → List ℕ
so_far (Behind asks collected rest answering) = collected
so_far (Taken collected b bytes) = collected
so_far (Between got b bytes) = got
so_far (Sent first got rest) = got
so_far _ = []

starts_by : (P : Spot → Type 0) (rest : List ℕ) (n : ℕ) (size : Option ℕ)
    → ((n : ℕ) (size : Option ℕ) → P (Waits rest n size false))
    → ((size : ℕ) → P (Grows rest size false)) → P (Sent true [] rest) → P (starts rest n size)
starts_by P rest (suc n) size waits grows sent = waits n size
starts_by P rest zero (Some size) waits grows sent = grows size
starts_by P rest zero None waits grows sent = sent

given_after : (got : List ℕ) (a n : ℕ) → 2 * a + 1 ≤ n → IsGiven (outcome_with true [] got) a n
given_after [] a n few = few
given_after (b ∷ got) a n few = few

-- the terminal has no field that the card has not received
abbrev IsReceived : Spot → Type 0
IsReceived (Behind asks collected rest answering) = ⊥
IsReceived _ = Unit {0}

-- the outcome in a fault, at the terminal's connector
abbrev Late : End → World → Outcome → Type 0
Late at w o = at ≡ Terminal → (cause : Cause) → w.terminal.phase ≡ GivenUp cause
    → outcome_of w.terminal ≡ o

module _ (m : Meaning) (before commands : List (List ℕ)) where
  abbrev Turns : List (List ℕ) → List Message
  Turns done = turns m.does before done

  abbrev Claim : End → World → Story → Type 0
  Claim at w s = IsOverheard at m before commands w s

  abbrev responds : Kept → Spot → List (List ℕ)
  responds k s = responding m before commands k s

  -- what was heard is what both ends have
  abbrev At : Kept → Spot → Reading → Story → Type 0
  At k s = Level (turn_in s) (own_of (turn_in s) (card_in k s).2 k.due)
      (own_of (peer (turn_in s)) (card_in k s).2 k.due) (replies (responds k s)) (Turns k.done)
      (so_far s)

  -- a field that the other end has not received was heard too
  abbrev Ahead : Kept → Spot → Reading → Story → Type 0
  Ahead k (Behind asks collected rest answering) =
      New Terminal (other k.number) k.due [] (Turns k.done) collected k.field (more rest)
  Ahead k (Sent first got rest) =
      New Card (other k.due) (cond first (other k.number) k.number)
      ((Card, got ++ (k.last ++ rest)) ∷ []) (Turns k.done) got k.last (more rest)
  Ahead k s = At k s

  -- after the terminal's block, and before the card's reply
  abbrev Mid : Kept → Spot → End → Reading → Story → Type 0
  Mid k (Behind asks collected rest answering) Terminal =
      Ahead k (Behind asks collected rest answering)
  Mid k (Sent first got rest) Card = Ahead k (Sent first got rest)
  Mid k s at = At k s

  -- between two exchanges
  abbrev Inv : Kept → Spot → End → Reading → Story → Type 0
  Inv k (Behind false collected rest answering) Terminal r t =
      Here (At k (Behind false collected rest answering)) r t
      ⊎ Here (Ahead k (Behind false collected rest answering)) r t
  Inv k s at r t = Here (Mid k s at) r t

  -- the terminal's block has passed
  abbrev Passing : Kept → Spot → End → Reading → Story → Type 0
  Passing k (Behind false collected rest answering) at =
      Ahead k (Behind false collected rest answering)
  Passing k s at = Mid k s at

  -- the card has taken it
  abbrev Received : Kept → Spot → End → Reading → Story → Type 0
  Received k (Sent first got rest) at r t =
      At k (Sent first got rest) r t ⊎ Mid k (Sent first got rest) at r t
  Received k s at r t = Mid k s at r t

  -- the card's reply has passed
  abbrev Post : Kept → Spot → End → Reading → Story → Type 0
  Post k (Sent first got rest) at r t = Here (Ahead k (Sent first got rest)) r t
  Post k s at r t = Here (Mid k s at) r t

  -- ---- one block

  sends_one : (k : Kept) (s : Spot) (at : End) (why : BlockReason) (r : Reading) (t : Story)
      → Inv k s at r t → One (Here (Passing k s at)) r t Terminal (sent_at k s why)
  sends_one k (Behind false collected rest answering) Terminal why r t (inl h) =
      new_field Terminal k.number (more rest) k.field r t h
  sends_one k (Behind false collected rest answering) Terminal why r t (inr h) =
      once_more Terminal k.number r t h
  sends_one k (Behind false collected rest answering) Card why r t h =
      new_field Terminal k.number (more rest) k.field r t h
  sends_one k (Waits rest n size true) at why r t h =
      plain (Mid k (Waits rest n size true) at) r t Terminal (Response (Wtx k.multiple)) tt h
  sends_one k (Grows rest size true) at why r t h =
      plain (Mid k (Grows rest size true) at) r t Terminal (Response (Ifs size)) tt h
  sends_one k s at why r t h = plain (Mid k s at) r t Terminal (sent_at k s why) tt h

  replies_one : (e : BlockReason) (k : Kept) (s : Spot) (at : End) (r : Reading) (t : Story)
      → IsHeard k s → Here (Received k s at) r t
      → One (Post k s at) r t Card (reply_of m before e k s)
  replies_one e k (Sent first got rest) at r t a (missed, inl h) =
      new_field Card k.due (more rest) k.last r t (missed, h)
  replies_one e k (Sent first got rest) Terminal r t a (missed, inr h) =
      new_field Card k.due (more rest) k.last r t (missed, h)
  replies_one e k (Sent first got rest) Card r t a (missed, inr h) =
      once_more Card k.due r t (missed, h)
  replies_one e k (Between got b bytes) at r t a h = absurd a
  replies_one e k s at r t a h = plain (Mid k s at) r t Card (reply_of m before e k s) tt h

  -- ---- the card takes the terminal's block

  -- after the last field of the command
  runs_at : (k : Kept) (collected : List ℕ) (r : Reading) (t : Story)
      → New Terminal (other k.number) k.due [] (Turns k.done) collected k.field false r t
      → let done : List (List ℕ) = k.done ++ (collected ++ k.field) ∷ [] in
      let resp : List ℕ = m.does (before ++ done) in
      Level Card k.due (other k.number) ((Card, take k.ifsd resp ++ drop k.ifsd resp) ∷ [])
      (Turns done) [] r t
  runs_at k collected r t h =
      let done : List (List ℕ) = k.done ++ (collected ++ k.field) ∷ [] in
      it_ends _ _ r t h (ap (λ resp. t.given ++ (Terminal, collected ++ k.field) ∷ (Card, resp) ∷
      [])
      (take-append-drop k.ifsd (m.does (before ++ done)))
      ∙ ap (λ ts. ts ++ (Terminal, collected ++ k.field) ∷ (Card, m.does (before ++ done)) ∷ [])
      (sym (append-nil t.given) ∙ h.told)
      ∙ sym (turns_last m.does before k.done (collected ++ k.field)))

  takes : (k : Kept) (s : Spot) (at : End) (r : Reading) (t : Story) → Holds m before commands k s
      → Passing k s at r t → Received (heard m before k s).0 (heard m before k s).1 at r t
  takes k (Behind false collected [] answering) at r t holds h =
      let done : List (List ℕ) = k.done ++ (collected ++ k.field) ∷ [] in
      let now = runs_at k collected r t h in
      starts_by (λ s. Received (runs m before k done) s at r t) (drop k.ifsd (m.does (before ++
      done))) (m.asks (before ++ done)).extensions (m.asks (before ++ done)).size (λ n size. now)
      (λ size. now) (inl now)
  takes k (Behind false collected (b ∷ bytes) answering) at r t holds h = more_follows r t h
  takes k (Waits rest n size true) at r t holds h =
      starts_by (λ s. Received k s at r t) rest n size (λ n size. h) (λ size. h) (inl h)
  takes k (Grows rest size true) at r t holds h = inl h
  takes k (Between got b bytes) at r t holds h =
      inl (subst (λ resp. Level Card k.due k.number ((Card, got ++ resp) ∷ []) (Turns k.done) got r
      t)
      (sym (take-append-drop k.ifsd (b ∷ bytes))) h)
  takes k (Sent first got rest) at r t holds h =
      rw (take_all k.ifsd k.last holds.4, drop_all k.ifsd k.last holds.4) (inr h)
  takes k _ at r t holds h = h

  -- ---- the claim

  -- the number of messages, in a dialogue where the card has carried out `ran`
  abbrev Counts : End → World → (ran : List (List ℕ)) → Outcome → ℕ → Type 0
  Counts at w ran o n = (2 * length w.answers ≤ n) × (n ≤ 2 * length w.answers + 2)
      × (at ≡ Card → (2 * length ran ≤ n + 1) × (n ≤ 2 * length ran))
      × (at ≡ Terminal → w.terminal.phase ≢ GivenUp TooLong → n ≤ 2 * length w.answers + 1)
      × IsGiven o (length w.answers) n

  claim_of : (at : End) (w : World) (ran done todo gives : List (List ℕ)) (s : Story) (o : Outcome)
      → Late at w o → w.card.ran ≡ before ++ ran → done ++ todo ≡ commands
      → messages s ++ replies gives ≡ Turns done
      → (s.now.progress ≡ Begun
      → IsBegun s.now (replies gives ++ turns m.does (before ++ done) todo))
      → ((n : ℕ) → n + length (replies gives) ≡ 2 * length done → Counts at w ran o n)
      → Claim at w s
  claim_of at w ran done todo gives s o late ran_is all told begun counts =
      let later : List Message = turns m.does (before ++ done) todo in
      let count = counts (length (messages s)) (sym (length-append (messages s) (replies gives))
      ∙ ap length told ∙ turns_many m.does before done) in
      record {
        rest = replies gives ++ later;
        in_order = sym (append_assoc (messages s) (replies gives) later)
            ∙ ap (λ ts. ts ++ later) told ∙ sym (turns_append m.does before done todo)
            ∙ ap Turns all;
        begun = begun;
        answered = count.0;
        few = count.1;
        ran = ran;
        ran_is = ran_is;
        at_card = count.2;
        at_terminal = count.3;
        told = λ terminal cause gone. subst (λ o. IsGiven o (length w.answers)
            (length (messages s)))
            (sym (late terminal cause gone)) count.4;
      }

  -- the next message begins with the bytes so far
  upcoming : (k : Kept) (s : Spot) → (bytes : List ℕ) × (later : List Message)
      × (replies (responds k s) ++ turns m.does (before ++ k.done)
      (sending m before commands k s ++ k.todo) ≡ (turn_in s, so_far s ++ bytes) ∷ later)
  upcoming k (Opens rest asks) = (_, _, refl)
  upcoming k _ = (_, _, refl)

  has_begun : (k : Kept) (s : Spot) (within : Bool) (g : Gathered)
      → Newest within (turn_in s) (so_far s) g → g.progress ≡ Begun
      → IsBegun g (replies (responds k s) ++ turns m.does (before ++ k.done)
      (sending m before commands k s ++ k.todo))
  has_begun k s true g h begun =
      let next = upcoming k s in (next.0, next.1, rw (h.1, h.2) next.2)
  has_begun k s false g h begun = absurd (h.0 begun)

  few_replies : (k : Kept) (s : Spot) → (length (responds k s) ≤ 1)
      × (length (replies (responds k s)) ≡ length (responds k s))
  few_replies k (Opens rest asks) = (omega arith, refl)
  few_replies k _ = (omega arith, refl)

  -- `ran` are fewer if the card has not received the last field of a command that was heard
  claim_at : (at : End) (w : World) (k : Kept) (s : Spot) (ran : List (List ℕ)) (r : Reading)
      (t : Story) (o : Outcome) → Late at w o → w.card.ran ≡ before ++ ran → w.answers ≡ k.answers
      → (at ≡ Card → length ran ≡ length k.done)
      → AddsUp m before commands k.done k.todo k.answers (sending m before commands k s)
      (responds k s) → At k s r t
      → ((n : ℕ) → n ≡ 2 * length w.answers + length (responds k s)
      → IsGiven o (length w.answers) n)
      → Claim at w t
  claim_at at w k s ran r t o late ran_is same_answers same_ran up h given =
      let many = many m before commands up in
      let same = ap length same_answers in
      let few = few_replies k s in
      claim_of at w ran k.done (sending m before commands k s ++ k.todo) (responds k s) t o late
      ran_is
      up.whole h.told (has_begun k s r.within t.now h.newest) (λ n is. (
        omega (arith, many, same, is, few),
        omega (arith, many, same, is, few),
        (λ card. let ran_same = same_ran card in (
          omega (arith, ran_same, is, few),
          omega (arith, ran_same, is, few),
        )),
        (λ terminal long. omega (arith, many, same, is, few)),
        given n (omega (arith, many, same, is, few)),
      ))

  -- a response has ended
  claim_ended : (at : End) (w : World) (done todo : List (List ℕ)) (t : Story) (o : Outcome)
      → Late at w o → w.card.ran ≡ before ++ done → done ++ todo ≡ commands
      → messages t ++ [] ≡ Turns done
      → t.now.progress ≢ Begun → length w.answers ≤ length done
      → length done ≤ length w.answers + 1
      → (at ≡ Terminal → w.terminal.phase ≢ GivenUp TooLong → length done ≤ length w.answers)
      → ((n : ℕ) → n ≡ 2 * length done → IsGiven o (length w.answers) n) → Claim at w t
  claim_ended at w done todo t o late ran_is all told idle least most heard given =
      claim_of at w done done todo [] t o late ran_is all told (λ begun. absurd (idle begun))
      (λ n is. (
        omega (arith, is, least),
        omega (arith, is, most),
        (λ card. (omega (arith, is), omega (arith, is))),
        (λ terminal long. let few = heard terminal long in omega (arith, is, few)),
        given n (omega (arith, is)),
      ))

  -- the terminal's field was heard, and the card may not have received it
  claim_sent : (w : World) (k : Kept) (collected rest : List ℕ) (answering : Bool) (r : Reading)
      (t : Story) → w.card.ran ≡ before ++ k.done → w.answers ≡ k.answers
      → (Late Terminal w (outcome_with true rest []))
      → Holds m before commands k (Behind false collected rest answering)
      → New Terminal (other k.number) k.due [] (Turns k.done) collected k.field (more rest) r t
      → Claim Terminal w t
  claim_sent w k collected (b ∷ bytes) answering r t ran same late holds h =
      let s : Spot = Behind false collected (b ∷ bytes) answering in
      claim_at Terminal w (heard m before k s).0 (heard m before k s).1 k.done r t _ late ran same
      (λ card. absurd (cc)) (heard_holds m before commands k s holds).0 (more_follows r t h)
      (λ n is. omega (arith, is))
  claim_sent w k collected [] answering r t ran same late holds h =
      let s : Spot = Behind false collected [] answering in
      let c : List ℕ = collected ++ k.field in
      let done : List (List ℕ) = k.done ++ c ∷ [] in
      let now = runs_at k collected r t h in
      let up = (heard_holds m before commands k s holds).0 in
      let was = many m before commands holds.0 in
      let is_now = many m before commands up in
      let one = length-append k.done (c ∷ []) in
      claim_at Terminal w (runs m before k done) (heard m before k s).1 k.done r t _ late ran same
      (λ card. absurd (cc)) up
      (starts_by (λ s. At (runs m before k done) s r t) (drop k.ifsd (m.does (before ++ done)))
      (m.asks (before ++ done)).extensions (m.asks (before ++ done)).size (λ n size. now)
      (λ size. now) now)
      (λ n is. omega (arith, is, was, is_now, one))

  -- the card's field was heard, and the terminal may not have received it
  replied : (k : Kept) (got : List ℕ) {own peers : Bool} (r : Reading) (t : Story)
      → New Card own peers ((Card, got ++ (k.last ++ [])) ∷ []) (Turns k.done) got k.last false r t
      → Level Terminal peers own [] (Turns k.done) [] r t
  replied k got r t h =
      it_ends [] (Turns k.done) r t h
      (ap (λ l. t.given ++ (Card, got ++ l) ∷ []) (sym (append-nil k.last)) ∙ h.told)

  replies_more : (k : Kept) (got : List ℕ) (b : ℕ) (bytes : List ℕ) {own peers : Bool} (r : Reading)
      (t : Story) → New Card own peers ((Card, got ++ (k.last ++ (b ∷ bytes))) ∷ []) (Turns k.done)
      got k.last true r t
      → Level Card own peers ((Card, (got ++ k.last) ++ (b ∷ bytes)) ∷ []) (Turns k.done)
      (got ++ k.last) r t
  replies_more k got b bytes {own} {peers} r t h =
      subst (λ resp. Level Card own peers ((Card, resp) ∷ []) (Turns k.done) (got ++ k.last) r t)
      (sym (append_assoc got k.last (b ∷ bytes))) (more_follows r t h)

  idle_in : (within : Bool) (g : Gathered) → within ≡ false → Newest within Terminal [] g
      → g.progress ≢ Begun
  idle_in true g is h = absurd (cc)
  idle_in false g is h = h.0

  claim_replied : (at : End) (w : World) (k : Kept) (first : Bool) (got rest : List ℕ) (r : Reading)
      (t : Story) → w.card.ran ≡ before ++ k.done → w.answers ≡ k.answers
      → Late at w (outcome_with true [] got)
      → (at ≡ Terminal → w.terminal.phase ≢ GivenUp TooLong → ⊥)
      → AddsUp m before commands k.done k.todo k.answers [] ((got ++ (k.last ++ rest)) ∷ [])
      → Ahead k (Sent first got rest) r t → Claim at w t
  claim_replied at w k first got (b ∷ bytes) r t ran same late unheard up h =
      claim_at at w (record (numbered first k) { due = other k.due })
      (Between (got ++ k.last) b bytes) k.done r t _ late ran same (λ card. refl)
      (subst (λ resp. AddsUp m before commands k.done k.todo k.answers [] (resp ∷ []))
      (sym (append_assoc got k.last (b ∷ bytes))) up) (replies_more k got b bytes r t h)
      (λ n is. given_after got (length w.answers) n (omega (arith, is)))
  claim_replied at w k first got [] r t ran same late unheard up h =
      let now = replied k got r t h in
      let many = many m before commands up in
      let answers = ap length same in
      claim_ended at w k.done k.todo t _ late ran up.whole now.told
      (idle_in r.within t.now h.within now.newest)
      (omega (arith, many, answers)) (omega (arith, many, answers))
      (λ terminal long. absurd (unheard terminal long))
      (λ n is. given_after got (length w.answers) n (omega (arith, is, many, answers)))

  given_at : (k : Kept) (s : Spot) (a n : ℕ) → IsReceived s → n ≡ 2 * a + length (responds k s)
      → IsGiven (outcome_with (terminal_in s).2 (terminal_in s).0 (terminal_in s).1) a n
  given_at k (Behind asks collected rest answering) a n received is = absurd received
  given_at k (Between [] b bytes) a n received is = omega (arith, is)
  given_at k (Sent first [] rest) a n received is = omega (arith, is)
  given_at k _ a n received is = omega (arith, is)

  claim_mid : (w : World) (k : Kept) (s : Spot) (at : End) (r : Reading) (t : Story)
      → w.card.ran ≡ before ++ k.done → w.answers ≡ k.answers
      → Late at w (outcome_with (terminal_in s).2 (terminal_in s).0 (terminal_in s).1)
      → Holds m before commands k s → Mid k s at r t → Claim at w t
  claim_mid w k (Behind asks collected rest answering) Terminal r t ran same late holds h =
      claim_sent w k collected rest answering r t ran same late holds h
  claim_mid w k (Behind asks collected rest answering) Card r t ran same late holds h =
      claim_at Card w k (Behind asks collected rest answering) k.done r t NotCarriedOut
      (λ terminal. absurd (cc)) ran same (λ card. refl) holds.0 h (λ n is. omega (arith, is))
  claim_mid w k (Sent first got rest) Card r t ran same late holds h =
      claim_replied Card w k first got rest r t ran same (λ terminal. absurd (cc))
      (λ terminal. absurd (cc)) holds.0 h
  claim_mid w k s at r t ran same late holds h =
      claim_at at w k s k.done r t _ late ran same (λ card. refl) holds.0 h
      (λ n is. given_at k s (length w.answers) n tt is)

  -- without a fault
  claim_inv : (w : World) (k : Kept) (s : Spot) (at : End) (r : Reading) (t : Story)
      → w.card.ran ≡ before ++ k.done → w.answers ≡ k.answers
      → ((cause : Cause) → w.terminal.phase ≢ GivenUp cause)
      → Holds m before commands k s → Inv k s at r t → Claim at w t
  claim_inv w k (Behind false collected rest answering) Terminal r t ran same none holds (inl h) =
      claim_at Terminal w k (Behind false collected rest answering) k.done _ t NotCarriedOut
      (λ terminal cause gone. absurd (none cause gone)) ran same (λ card. refl) holds.0 h.1
      (λ n is. omega (arith, is))
  claim_inv w k (Behind false collected rest answering) Terminal r t ran same none holds (inr h) =
      claim_sent w k collected rest answering _ t ran same
      (λ terminal cause gone. absurd (none cause gone)) holds h.1
  claim_inv w k s at r t ran same none holds h =
      claim_mid w k s at _ t ran same (λ terminal cause gone. absurd (none cause gone)) holds h.1

  -- ---- the terminal's turn

  abbrev TapAt : End → Place → Reading → Story → Type 0
  TapAt at (Going k s why tries extensions) r t = Inv k s at r t
  TapAt at (Given_up w cause) r t = Claim at (with_phase (GivenUp cause) w) t
  TapAt at (Finished w) r t = Claim at (with_phase Over w) t

  uses_tap : (at : End) (cause : Cause) (n : ℕ) (w : World) (again : ℕ → Place) (r : Reading)
      (t : Story) → Claim at (with_phase (GivenUp cause) w) t
      → ((i : ℕ) → TapAt at (again i) r t) → TapAt at (uses cause n w again) r t
  uses_tap at cause zero w again r t claim h = claim
  uses_tap at cause (suc n) w again r t claim h = h n

  -- the terminal has a field to send, which was not heard yet
  behind_inv : (k : Kept) (collected rest : List ℕ) (answering : Bool) (at : End) (r : Reading)
      (t : Story) → Here (At k (Behind false collected rest answering)) r t
      → Inv k (Behind false collected rest answering) at r t
  behind_inv k collected rest answering Card r t h = h
  behind_inv k collected rest answering Terminal r t h = inl h

  asking_inv : (k : Kept) (s : Spot) (at : End) (r : Reading) (t : Story) → Here (Mid k s at) r t
      → Inv k (asking s) at r t
  asking_inv k (Behind asks collected rest answering) Card r t h = h
  asking_inv k (Behind asks collected rest answering) Terminal r t h = h
  asking_inv k _ at r t h = h

  misses_tap : (at : End) (why : BlockReason) (out : Out) (k : Kept) (s : Spot)
      (tries extensions : ℕ) (r : Reading) (t : Story) → Holds m before commands k s
      → Here (Mid k s at) r t → TapAt at (misses m before why out k s tries extensions) r t
  misses_tap at why out k (Opens rest asks) zero extensions r t holds h =
      behind_inv (record k { field = take k.size (k.field ++ rest) }) []
      (drop k.size (k.field ++ rest)) false at r t h
  misses_tap at why out k (Opens rest asks) (suc n) extensions r t holds h = h
  misses_tap at why out k s tries extensions r t holds h =
      uses_tap at TriesSpent tries _ _ r t
      (claim_mid _ k s at _ t refl refl (λ t c e. refl) holds h.1) (λ i. asking_inv k s at r t h)

  proceeds_tap : (at : End) (k : Kept) (todo : List (List ℕ)) (w : World) (r : Reading) (t : Story)
      → w.card.ran ≡ before ++ k.done → length w.answers ≡ length k.done → k.done ++ todo ≡ commands
      → r.within ≡ false → Here (Level Terminal k.number k.due [] (Turns k.done) []) r t
      → TapAt at (proceeds k todo w) r t
  proceeds_tap at k [] w r t ran same all within h =
      claim_ended at (with_phase Over (record w { todo = [] })) k.done [] t NotCarriedOut
      (λ terminal cause gone. absurd (cc)) ran all h.1.told
      (idle_in r.within t.now within h.1.newest) (omega (arith, same)) (omega (arith, same))
      (λ terminal long. omega (arith, same)) (λ n is. omega (arith, is, same))
  proceeds_tap at k (c ∷ cs) w r t ran same all within h =
      behind_inv (record k { todo = cs; field = take k.size c }) [] (drop k.size c) true at r t h

  -- a field of the response
  next_tap : (at : End) (v : Bool) (out : Out) (k : Kept) (got rest : List ℕ)
      (tries extensions : ℕ) (r : Reading) (t : Story)
      → AddsUp m before commands k.done k.todo k.answers [] ((got ++ (k.last ++ rest)) ∷ [])
      → Here (Ahead k (Sent false got rest)) r t
      → TapAt at (comes_next m before v out k got rest tries extensions) r t
  next_tap at true out k got rest tries extensions r t up h =
      claim_replied at _ k false got rest _ t refl refl (λ t c e. refl)
      (λ terminal long. long refl) up h.1
  next_tap at false out k got [] tries extensions r t up h =
      let many = many m before commands up in
      let one = length-append k.answers ((got ++ k.last) ∷ []) in
      proceeds_tap at (record k { answers = k.answers ++ (got ++ k.last) ∷ []; due = other k.due })
      k.todo _ r t refl (omega (arith, many, one)) up.whole h.1.within (h.0, replied k got _ t h.1)
  next_tap at false out k got (b ∷ bytes) tries extensions r t up h =
      (h.0, replies_more k got b bytes _ t h.1)

  grows_tap : (at : End) (v : Bool) (out : Out) (k : Kept) (rest : List ℕ) (size : ℕ)
      (granted : Bool) (tries extensions : ℕ) (r : Reading) (t : Story)
      → Holds m before commands k (Grows rest size granted)
      → Here (At k (Grows rest size granted)) r t
      → TapAt at (grows m before v out k rest size granted tries extensions) r t
  grows_tap at true out k rest size granted tries extensions r t holds h =
      uses_tap at ExtensionsSpent extensions _ _ r t
      (claim_mid _ k (Grows rest size granted) at _ t refl refl (λ t c e. refl) holds h.1) (λ i. h)
  grows_tap at false out k rest size granted tries extensions r t holds h =
      misses_tap at Other out k (Grows rest size granted) tries extensions r t holds h

  comes_tap : (at : End) (out : Out) (k : Kept) (s : Spot) (tries extensions : ℕ) (r : Reading)
      (t : Story) → IsHeard k s → Holds m before commands k s → Post k s at r t
      → TapAt at (comes m before out k s tries extensions) r t
  comes_tap at out k (Opens rest asks) tries extensions r t a holds h =
      behind_inv (record k { field = take k.size (k.field ++ rest) }) []
      (drop k.size (k.field ++ rest)) false at r t h
  comes_tap Card out k (Behind asks collected rest answering) tries extensions r t a holds h =
      uses_tap Card TriesSpent tries _ _ r t
      (claim_mid _ k (Behind asks collected rest answering) Card _ t refl refl
      (λ t c e. absurd (cc)) holds h.1) (λ i. h)
  comes_tap Terminal out k (Behind asks collected rest answering) tries extensions r t a holds h =
      let none = drop_all k.size k.field holds.3 in
      uses_tap Terminal TriesSpent tries _ _ r t
      (claim_mid _ k (Behind asks collected rest answering) Terminal _ t refl refl
      (λ t c e. ap (λ b. outcome_with true (b ++ rest) []) none) holds h.1)
      (λ i. rw (take_all k.size k.field holds.3, none) (inr h))
  comes_tap at out k (Taken collected b bytes) tries extensions r t a holds h =
      behind_inv (record k { field = take k.size (b ∷ bytes); number = other k.number }) collected
      (drop k.size (b ∷ bytes)) false at r t h
  comes_tap at out k (Waits rest n size granted) tries extensions r t a holds h =
      uses_tap at ExtensionsSpent extensions _ _ r t
      (claim_mid _ k (Waits rest n size granted) at _ t refl refl (λ t c e. refl) holds h.1)
      (λ i. h)
  comes_tap at out k (Grows rest size granted) tries extensions r t a holds h =
      grows_tap at (is_size size) out k rest size granted tries extensions r t holds h
  comes_tap at out k (Between got b bytes) tries extensions r t a holds h = absurd a
  comes_tap at out k (Sent first got rest) tries extensions r t a holds h =
      next_tap at (is_long k got) out (numbered first k) got rest tries extensions r t holds.0 h

  -- ---- an exchange

  -- what was heard at the terminal's connector, if the card's reply is not
  unheard : (k : Kept) (s : Spot) (r : Reading) (t : Story) → Here (Received k s Terminal) r t
      → Here (Mid k s Terminal) r t
  unheard k (Sent first got rest) r t (missed, inl h) = (missed, h)
  unheard k (Sent first got rest) r t (missed, inr h) = (missed, h)
  unheard k _ r t h = h

  -- at the card's it is
  replied_at : (k : Kept) (s : Spot) (r : Reading) (t : Story) → Post k s Card r t
      → Here (Mid k s Card) r t
  replied_at k (Opens rest asks) r t h = h
  replied_at k _ r t h = h

  -- the card's reply, which arrives, or is heard at the card alone
  answered : (at : End) (up : Fate) (e : BlockReason) (out : Out) (k : Kept) (s : Spot)
      (tries extensions : ℕ) (r : Reading) (t : Story) → IsHeard k s → Holds m before commands k s
      → Here (Received k s at) r t
      → Then (TapAt at (arrived m before out up k s tries extensions)) r t
      (passes (is_end Card at) Card up (Some (reply_of m before e k s)))
  answered Card up e out k s tries extensions r t a holds h =
      then_more (Post k s Card) (TapAt Card (arrived m before out up k s tries extensions))
      ((Card, reply_of m before e k s) ∷ []) [] (by up) r t (replies_one e k s Card r t a h) where
        by : (up : Fate) (now : Reading) (told : Story) → Post k s Card now told
            → TapAt Card (arrived m before out up k s tries extensions) now told
        by Delivers now told h = comes_tap Card out k s tries extensions now told a holds h
        by Damages now told h =
            misses_tap Card Edc out k s tries extensions now told holds (replied_at k s now told h)
        by Loses now told h =
            misses_tap Card Other out k s tries extensions now told holds
            (replied_at k s now told h)
  answered Terminal Delivers e out k s tries extensions r t a holds h =
      then_more (Post k s Terminal) (TapAt Terminal (comes m before out k s tries extensions))
      ((Card, reply_of m before e k s) ∷ []) []
      (λ now told. comes_tap Terminal out k s tries extensions now told a holds) r t
      (replies_one e k s Terminal r t a h)
  answered Terminal Damages e out k s tries extensions r t a holds h =
      misses_tap Terminal Edc out k s tries extensions r t holds (unheard k s r t h)
  answered Terminal Loses e out k s tries extensions r t a holds h =
      misses_tap Terminal Other out k s tries extensions r t holds (unheard k s r t h)

  -- the terminal ignores the reply to a damaged block
  unread : (out : Out) (k : Kept) (s : Spot) (tries extensions : ℕ) (at : End) (up : Fate)
      (r : Reading) (t : Story) → Holds m before commands k s → Here (Mid k s at) r t
      → Then (TapAt at (misses m before (error_of m before up) out k s tries extensions)) r t
      (passes (is_end Card at) Card up (Some (garble_at k s)))
  unread out k s tries extensions at up r t holds h = by (is_end Card at) up heard_too where
    P : Fate → Reading → Story → Type 0
    P up = TapAt at (misses m before (error_of m before up) out k s tries extensions)

    heard_too : (up : Fate) → P up r t × One (P up) r t Card (garble_at k s)
    heard_too up = (
      misses_tap at (error_of m before up) out k s tries extensions r t holds h,
      then_more (Here (Mid k s at)) (P up) ((Card, garble_at k s) ∷ []) []
          (λ now told. misses_tap at (error_of m before up) out k s tries extensions now told holds)
          r t (plain (Mid k s at) r t Card (garble_at k s) (garble_plain k s) h),
    )

    by : (own : Bool) (up : Fate) → ((up : Fate) → P up r t × One (P up) r t Card (garble_at k s))
        → Then (P up) r t (passes own Card up (Some (garble_at k s)))
    by true up h = (h up).1
    by false Delivers h = (h Delivers).1
    by false Damages h = (h Damages).0
    by false Loses h = (h Loses).0

  garbled_tap : (k : Kept) (s : Spot) (why : BlockReason) (tries extensions : ℕ) (at : End)
      (up : Fate) (r : Reading) (t : Story) → Holds m before commands k s → Here (Mid k s at) r t
      → Then (TapAt at (garbled m before up k s why tries extensions)) r t
      (passes (is_end Card at) Card up (Some (garble_at k s)))
  garbled_tap k (Opens rest asks) why tries extensions at up r t holds h =
      unread (out_of why asks) k (Opens rest asks) tries extensions at up r t holds h
  garbled_tap k (Between got b bytes) why tries extensions at up r t holds h =
      unread (Asks why) k (Between got b bytes) tries extensions at up r t holds h
  garbled_tap k (Sent first got rest) why tries extensions at up r t holds h =
      unread (Asks why) k (Sent first got rest) tries extensions at up r t holds h
  garbled_tap k s why tries extensions at up r t holds h =
      answered at up Edc (out_at k s why) k s tries extensions r t tt holds h

  abbrev After : End → Fate → Fate → Place → Reading → Story → Type 0
  After at down up p r t = TapAt at (step m before down up p) r t

  -- what holds after the blocks of an exchange, the terminal's first
  taken : (k : Kept) (s : Spot) (why : BlockReason) (tries extensions : ℕ) (at : End) (up : Fate)
      (r : Reading) (t : Story) → Holds m before commands k s → Inv k s at r t
      → Then (After at Delivers up (Going k s why tries extensions)) r t
      ((Terminal, sent_at k s why) ∷ passes (is_end Card at) Card up
      (card_takes m (sent_at k s why) (card_at m before k s)).block)
  taken k s why tries extensions at up r t holds h =
      let reply = takes_it m before k s why in
      subst (λ b. Then (After at Delivers up (Going k s why tries extensions)) r t
      ((Terminal, sent_at k s why) ∷ passes (is_end Card at) Card up b))
      (sym (ap (λ (x : Turn). x.block) reply.1))
      (then_more (Here (Passing k s at)) (After at Delivers up (Going k s why tries extensions))
      ((Terminal, sent_at k s why) ∷ []) (passes (is_end Card at) Card up
      (Some (reply_of m before reply.0 (heard m before k s).0 (heard m before k s).1)))
      (λ now told passing. answered at up reply.0 (out_at k s why) (heard m before k s).0
      (heard m before k s).1 tries extensions now told (is_heard m before k s)
      (heard_holds m before commands k s holds)
      (passing.0, takes k s at _ told holds passing.1)) r t
      (sends_one k s at why r t h))

  -- the terminal's block was heard, and has not arrived
  gone : (k : Kept) (s : Spot) (r : Reading) (t : Story) → Here (Passing k s Terminal) r t
      → Here (Mid k s Terminal) r t
  gone k (Behind false collected rest answering) r t h = h
  gone k _ r t h = h

  stayed : (k : Kept) (s : Spot) (r : Reading) (t : Story) → Inv k s Card r t
      → Here (Mid k s Card) r t
  stayed k (Behind false collected rest answering) r t h = h
  stayed k _ r t h = h

  going : (at : End) (down up : Fate) (k : Kept) (s : Spot) (why : BlockReason)
      (tries extensions : ℕ) (r : Reading) (t : Story) → Holds m before commands k s
      → Inv k s at r t
      → Then (After at down up (Going k s why tries extensions)) r t
      (passes_both at m (record { down = down; up = up }) (card_at m before k s)
      (Some (sent_at k s why)))
  going Card Delivers up k s why tries extensions r t holds h =
      taken k s why tries extensions Card up r t holds h
  going Terminal Delivers up k s why tries extensions r t holds h =
      taken k s why tries extensions Terminal up r t holds h
  going Card Damages up k s why tries extensions r t holds h =
      subst (λ b. Then (After Card Damages up (Going k s why tries extensions)) r t
      (passes true Card up b)) (sym (ap (λ (x : Turn). x.block) (garbles_it m before k s)))
      (garbled_tap k s why tries extensions Card up r t holds (stayed k s r t h))
  going Terminal Damages up k s why tries extensions r t holds h =
      subst (λ b. Then (After Terminal Damages up (Going k s why tries extensions)) r t
      ((Terminal, sent_at k s why) ∷ passes false Card up b))
      (sym (ap (λ (x : Turn). x.block) (garbles_it m before k s)))
      (then_more (Here (Passing k s Terminal))
      (After Terminal Damages up (Going k s why tries extensions))
      ((Terminal, sent_at k s why) ∷ [])
      (passes false Card up (Some (garble_at k s)))
      (λ now told passing. garbled_tap k s why tries extensions Terminal up now told holds
      (gone k s now told passing)) r t (sends_one k s Terminal why r t h))
  going Card Loses up k s why tries extensions r t holds h =
      misses_tap Card Other (out_at k s why) k s tries extensions r t holds (stayed k s r t h)
  going Terminal Loses up k s why tries extensions r t holds h =
      then_more (Here (Passing k s Terminal))
      (After Terminal Loses up (Going k s why tries extensions)) ((Terminal, sent_at k s why) ∷ [])
      []
      (λ now told passing. misses_tap Terminal Other (out_at k s why) k s tries extensions now told
      holds (gone k s now told passing)) r t (sends_one k s Terminal why r t h)

  step_taps : (at : End) (down up : Fate) (p : Place) (r : Reading) (t : Story)
      → HoldsAt m before commands p → TapAt at p r t
      → Then (After at down up p) r t
      (passes_both at m (record { down = down; up = up }) (world_of m before p).card
      (sends (world_of m before p).terminal))
  step_taps at down up (Given_up w cause) r t holds h = h
  step_taps at down up (Finished w) r t holds h = h
  step_taps at down up (Going k s why tries extensions) r t holds h =
      subst (λ b. Then (After at down up (Going k s why tries extensions)) r t
      (passes_both at m (record { down = down; up = up }) (card_at m before k s) b))
      (sym (sends_it k s why tries extensions))
      (going at down up k s why tries extensions r t holds h)

  abbrev Told : End → World → Reading → Story → Type 0
  Told at w r t = Claim at w t

  runs_taps : (at : End) (fates : List Fates) (p : Place) (r : Reading) (t : Story)
      → HoldsAt m before commands p → TapAt at p r t
      → Then (Told at (run m fates (world_of m before p))) r t (passed at m fates (world_of m
      before p))
  runs_taps at [] (Given_up w cause) r t holds h = h
  runs_taps at [] (Finished w) r t holds h = h
  runs_taps at [] (Going k s why tries extensions) r t holds h =
      claim_inv _ k s at r t refl refl
      (λ cause e. let stopped = sym (moves s) ∙ ap has_stopped e in cc) holds h
  runs_taps at (x ∷ xs) p r t holds h =
      let w : World = world_of m before p in
      let next : Place = step m before x.down x.up p in
      let first : List Passed = passes_both at m x w.card (sends w.terminal) in
      subst (λ v. Then (Told at (run m xs v)) r t (first ++ passed at m xs v))
      (sym (is_step m before x.down x.up p))
      (then_more (After at x.down x.up p) (Told at (run m xs (world_of m before next))) first
      (passed at m xs (world_of m before next))
      (λ now told tap. runs_taps at xs next now told (step_holds m before commands x.down x.up p
      holds) tap) r t (step_taps at x.down x.up p r t holds h))

  first_taps : (at : End) (settings : Settings) (todo : List (List ℕ)) → todo ≡ commands
      → TapAt at (first before settings todo) fresh untold
  first_taps at settings [] all =
      claim_ended at _ [] [] untold NotCarriedOut (λ terminal cause gone. absurd (cc))
      (sym (append-nil before)) all refl (λ begun. absurd (cc)) (omega arith) (omega arith)
      (λ terminal long. omega arith) (λ n is. omega (arith, is))
  first_taps at settings (c ∷ cs) all = (
    refl,
    record {
      own_is = refl;
      peers_is = refl;
      turn_is = refl;
      told = refl;
      newest = (λ begun. absurd (cc), refl);
    },
  )

pub overheard : (at : End) (m : Meaning) (settings : Settings) (before commands : List (List ℕ))
    (fates : List Fates) (edc : Code) (items : List Item) (rest : List Heard)
    → AreItems edc fresh items rest
    → blocks_in items ≡ passed at m fates (start settings before commands)
    → AllByRecursion IsKnown items
    × IsOverheard at m before commands (run m fates (start settings before commands))
    (tells_all untold items)
overheard at m settings before commands fates edc items rest are passed_so =
    let w : World = start settings before commands in
    let p : Place = first before settings commands in
    let all = of_items (Told m before commands at (run m fates w)) edc fresh untold items rest are
    (subst (Then (Told m before commands at (run m fates w)) fresh untold) (sym passed_so)
    (subst (λ v. Then (Told m before commands at (run m fates v)) fresh untold (passed at m fates
    v))
    (sym (first_is m before settings commands))
    (runs_taps m before commands at fates p fresh untold (first_holds m before settings commands)
    (first_taps m before commands at settings commands refl)))) in
    (all.0, all.1.1)
