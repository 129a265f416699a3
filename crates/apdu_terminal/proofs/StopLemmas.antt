-- How far an operation is carried out if it stops before its end.
use Rattle.std.proofs.Common.{◌≡◌, ℕ, ◌==◌, List, [], ◌∷◌, ◌++◌, length, refl, sym, subst, ◌∙◌, ap, inl, inr, ◌⊎◌, true, false, arith, Some, append-nil}
use Rattle.std.proofs.lemmas.Bool.{true≢false}
use Rattle.apdu_core.specs.declared.header.Header.{Header}
use Rattle.apdu_core.specs.StatusWord.{StatusWord, ok}
use Rattle.apdu_core.specs.CommandBytes.{Command}
use Rattle.apdu_core.specs.Chaining.{link, with_more, chain_commands}
use Rattle.t0_core.specs.Meaning.{Tpdu}
use Rattle.tlv_core.specs.Address.{NamesTag}
use Rattle.object_card.specs.Agreed.{IsAgreed}
use Rattle.object_card.specs.CardMeaning.{Does, refuses, selects_application, misses_application, sends, chains, puts_value}
use Rattle.apdu_core.specs.Shared.{get_response}
use Rattle.object_card.specs.CarryingOut.{put_header, IsAnswered}
use Rattle.object_card.specs.Instructions.{MayReceive, MaySend}
use Rattle.apdu_core.specs.Shared.{Reply, reply}
use Rattle.object_card.specs.OneStep.{Operation, Select, Get, Put, SameTables}
use Rattle.object_card.specs.Refusals.{is_select, is_put, is_get_response}
use Rattle.object_card.specs.State.{CardState, is_idle}
use Rattle.object_card.specs.StepLaws.{put_step, put_refused, is_chained, is_ended}
use Rattle.object_card.specs.Tables.{IsAid}
use Rattle.card_terminal.specs.AgreedLaws.{keeps_to}
use Rattle.exchange_core.specs.Gathered.{wanted_by}
use Rattle.exchange_core.specs.declared.wanted.Wanted.TheVariants.{Bytes, Everything}
use Rattle.card_terminal.specs.Talk.{select_command, get_command}
use Rattle.apdu_terminal.specs.Apdus.{Pair, Place, command_at, first_place, Goes, Ends, GoesThrough, GathersApdus}
use Rattle.apdu_terminal.specs.ApduOperations.{AreApdusUpTo}
use Rattle.apdu_terminal.specs.ApduSide.{place_of}
use Rattle.apdu_terminal.specs.ApduStops.{IsDone, IsLeftAfter, IsLeftBefore, IsUnderWay}
use Rattle.apdu_terminal.specs.ApduTalk.{talk_pairs}
use Rattle.apdu_terminal.specs.CardApdu.{GoesAs, InTurn, Responds, RespondsToAll, le_of, tpdu_command}
use Rattle.apdu_terminal.specs.TurnLaws.{turns_apart}
use Rattle.apdu_terminal.proofs.CardLemmas.{at_place, responds_within}
use Rattle.apdu_terminal.proofs.DrivenLemmas.{commands_agreed, due_is_agreed as next_is_agreed}
use Rattle.apdu_terminal.proofs.FirstLemmas.{FirstOf, answered, begun, get_responds, select_responds}
use Rattle.apdu_terminal.proofs.OperationLemmas.{one_more_exchange, taken_to_end}
use Rattle.apdu_terminal.proofs.PlaceLemmas.{Comes, again, fetch, comes}
use Rattle.apdu_terminal.proofs.TalkLemmas.{answered_by as answers_piece, ends_alone, talk_is_one_step}

-- ---- what changes no table

-- neither SELECT nor PUT DATA
abbrev IsQuiet : Header → Type 0
IsQuiet h = (is_select h ≡ false) × (is_put h ≡ false)

same_on : (a b c : CardState) → SameTables a b → SameTables b c → SameTables a c
same_on a b c p q = (p.0 ∙ q.0, p.1 ∙ q.1)

stands_still : (old new : CardState) → new ≡ old → SameTables old new
stands_still old new is =
    (sym (ap (λ (s : CardState). s.applications) is), sym (ap (λ (s : CardState). s.selected) is))

keeps : (old new : CardState) (cut : ℕ) (t : Tpdu) → Does old cut t new → IsQuiet t.header
    → SameTables old new
keeps old new cut t (refuses h p3 status e) q = (refl, refl)
keeps old new cut t (selects_application h aid e is held) q = absurd (true≢false (sym is ∙ q.0))
keeps old new cut t (misses_application h aid e is none) q = (refl, refl)
keeps old new cut t (sends h p3 e is) q = (refl, refl)
keeps old new cut t (chains h bytes e is cla) q = (refl, refl)
keeps old new cut t (puts_value h bytes tag answer next e is cla names put) q =
    absurd (true≢false (sym is ∙ q.1))

abbrev Keeping : (CardState → Pair → CardState → Type 0) → Type 0
Keeping One = (p : Pair) (old new : CardState) → IsQuiet p.command.header → One old p new
    → SameTables old new

one_keeps : Keeping (GoesAs Does)
one_keeps p old new q (t, is, does) = keeps old new 256 t does (rw is.header_is q)

quiet_on : (at next : Place) (came : ℕ) (status : StatusWord) → IsQuiet at.attempt.header
    → Comes at came status next → IsQuiet next.attempt.header
quiet_on at next came status q (again n may wants told is) =
    rw is q
quiet_on at next came status q (fetch n told some is) =
    rw is (refl, refl)

through_keeps : (One : CardState → Pair → CardState → Type 0) → Keeping One → (at last : Place)
    (pairs : List Pair) (old new : CardState) → IsQuiet at.attempt.header
    → GoesThrough at pairs last → InTurn One old pairs new
    → SameTables old new × IsQuiet last.attempt.header
through_keeps One keep at last [] old new q is goes = (
  stands_still old new goes,
  rw is q,
)
through_keeps One keep at last (p ∷ pairs) old new q (next, suits, follows, rest)
    (mid, is, others) =
    let a = keep p old mid
    (rw suits.is_due q) is in
    let b = through_keeps One keep next last pairs mid new
    (quiet_on at next (length p.content) p.status q
    (comes at next (length p.content) p.status follows)) rest others in
    (same_on old mid new a b.0, b.1)

response_keeps : Keeping (Responds Does)
response_keeps p old new q (inner, b, goes) =
    let at : Place = first_place (tpdu_command p.command) (le_of p.command) in
    let (mid, first, (last, is, stays)) =
    turns_apart (GoesAs Does) old new b.before (b.last ∷ []) (rw b.pairs_are at goes) in
    let (same, quiet) = through_keeps (GoesAs Does) one_keeps at b.at b.before old mid q b.through
    first in
    let then_so = one_keeps b.last mid last
    (rw b.suits.is_due quiet) is in
    same_on old last new (same_on old mid last same then_so) (stands_still last new stays)

-- ---- an operation that is carried out

done_first : (old mid : CardState) (operation : Operation) (content : List ℕ)
    (status : StatusWord) → FirstOf old operation content status mid → IsDone old operation mid
done_first old mid operation content status (answered after answers none once empty same idle) =
    (reply status, after, answers, same)
done_first old mid operation content status (begun whole after answers both told same idle) =
    (record { status = ok; content = whole }, after, answers, same)

done_on : (old mid new : CardState) (operation : Operation) → IsDone old operation mid
    → SameTables mid new → IsDone old operation new
done_on old mid new operation (answer, after, answers, same) on =
    (answer, after, answers, same_on after mid new same on)

-- only GET RESPONSE follows a SELECT
after_select : (aid : List ℕ) (next : Place) (came : ℕ) (status : StatusWord) → IsAid aid
    → Comes (first_place (select_command aid) Everything) came status next
    → next.attempt.header ≡ get_response
after_select [] next came status is c = absurd (omega (arith, is.0))
after_select (b ∷ aid) next came status is (again n may wants told same) = absurd (cc)
after_select (b ∷ aid) next came status is (fetch n told some same) =
    ap (λ (x : Place). x.attempt.header) same

fetches_on : (at last : Place) (pairs : List Pair) → at.attempt.header ≡ get_response
    → GoesThrough at pairs last → last.attempt.header ≡ get_response
fetches_on at last [] e is = ap (λ (x : Place). x.attempt.header) is ∙ e
fetches_on at last (p ∷ pairs) e (next, suits, follows, rest) =
    fetches_on next last pairs (by (comes at next (length p.content) p.status follows)) rest
  where
    by : Comes at (length p.content) p.status next → next.attempt.header ≡ get_response
    by (again n may wants told is) = ap (λ (x : Place). x.attempt.header) is ∙ e
    by (fetch n told some is) = ap (λ (x : Place). x.attempt.header) is

quiet_fetch : (h : Header) → h ≡ get_response → IsQuiet h
quiet_fetch h e = rw e (refl, refl)

select_at : (old mid : CardState) (aid : List ℕ) (here : List Pair) (at : Place)
    → is_idle old.pending ≡ true → IsAid aid
    → GoesThrough (first_place (select_command aid) Everything) here at
    → RespondsToAll Does old here mid
    → ((mid ≡ old) × (command_at at ≡ select_command aid))
    ⊎ (IsDone old (Select aid) mid × (at.attempt.header ≡ get_response))
select_at old mid aid [] at idle is way goes = inl (goes, ap (λ (x : Place). command_at x) way)
select_at old mid aid (p ∷ here) at idle is (next, suits, follows, rest) (then_at, one, others) =
    let first = first_place (select_command aid) Everything in
    let f = select_responds old then_at aid p idle is suits.is_due one in
    let e = after_select aid next (length p.content) p.status is
    (comes first next (length p.content) p.status follows) in
    let (same, quiet) = through_keeps (Responds Does) response_keeps next at here then_at mid
    (quiet_fetch next.attempt.header e) rest others in
    inr (
      done_on old then_at mid (Select aid)
          (done_first old then_at (Select aid) p.content p.status f) same,
      fetches_on next at here e rest,
    )

get_at : (old mid : CardState) (tag : List ℕ) (p1 p2 : ℕ) (here : List Pair) (at : Place)
    → is_idle old.pending ≡ true → NamesTag tag p1 p2
    → GoesThrough (first_place (get_command p1 p2) Everything) here at
    → RespondsToAll Does old here mid
    → (((mid ≡ old) × (command_at at ≡ get_command p1 p2)) ⊎ IsDone old (Get tag) mid)
    × SameTables old mid × IsQuiet at.attempt.header
get_at old mid tag p1 p2 [] at idle names way goes =
    let e = ap (λ (x : Place). command_at x) way in (
      inl (goes, e),
      stands_still old mid goes,
      rw way (refl, refl),
    )
get_at old mid tag p1 p2 (p ∷ here) at idle names (next, suits, follows, rest)
    (then_at, one, others) =
    let first = first_place (get_command p1 p2) Everything in
    let f = get_responds old then_at tag p1 p2 p idle names suits.is_due one in
    let q : IsQuiet next.attempt.header =
    quiet_on first next (length p.content) p.status (refl, refl)
    (comes first next (length p.content) p.status follows) in
    let (same, quiet) = through_keeps (Responds Does) response_keeps next at here then_at mid q rest
    others in
    let before = response_keeps p old then_at
    (rw suits.is_due (refl, refl)) one in (
      inr (done_on old then_at mid (Get tag)
          (done_first old then_at (Get tag) p.content p.status f) same),
      same_on old then_at mid before same,
      quiet,
    )

-- ---- a put

piece_keeps : (p1 p2 : ℕ) (piece : List ℕ) (old new : CardState) (status : StatusWord)
    → IsAnswered old (link (with_more (put_header p1 p2)) piece) status new → SameTables old new
piece_keeps p1 p2 piece old new status (cut, t, carries, told, does) =
    elim (put_step old new cut t does (ap (λ h. is_put h) carries.header_is)) [
      | put_refused refused is ↦
          (sym (ap (λ s. s.applications) is), sym (ap (λ s. s.selected) is))
      | is_chained e cla counts none fine is ↦
          (sym (ap (λ s. s.applications) is), sym (ap (λ s. s.selected) is))
      | is_ended e cla counts none tag answer next names same answers is ↦
          let no : 0x10 ≡ 0x00 = sym (ap (λ (h : Header). h.cla) carries.header_is) ∙ cla in
          absurd (omega (arith, no))
    ]

-- a command of a chain: the last, or one that another follows
abbrev IsLink : Header → Command → List Command → Type 0
IsLink h c left = (piece : List ℕ) × (((c ≡ link h piece) × (left ≡ []))
    ⊎ (c ≡ link (with_more h) piece))

put_link : (h : Header) (pieces : List (List ℕ)) (gone : List (List Pair)) (c : Command)
    (left : List Command) → AreApdusUpTo (chain_commands h pieces) gone (c ∷ left)
    → IsLink h c left
put_link h [] [] c left taken = absurd (cc)
put_link h (a ∷ []) [] c left taken =
    let head : c ≡ link h a = cc in let tail : left ≡ [] = cc in (a, inl (head, tail))
put_link h (a ∷ b ∷ pieces) [] c left taken =
    let head : c ≡ link (with_more h) a = cc in (a, inr head)
put_link h [] (g ∷ gone) c left taken = absurd taken
put_link h (a ∷ []) (g ∷ []) c left taken =
    let none : c ∷ left ≡ [] = taken.2 in absurd (cc)
put_link h (a ∷ []) (g ∷ n ∷ gone) c left taken = absurd taken.2
put_link h (a ∷ b ∷ pieces) (g ∷ gone) c left taken =
    put_link h (b ∷ pieces) gone c left taken.2

put_keeps : (p1 p2 : ℕ) (pieces : List (List ℕ)) (gone : List (List Pair)) (c : Command)
    (left : List Command) (old mid : CardState)
    → AreApdusUpTo (chain_commands (put_header p1 p2) pieces) gone (c ∷ left)
    → RespondsToAll Does old (talk_pairs gone) mid → SameTables old mid
put_keeps p1 p2 pieces [] c left old mid taken goes = stands_still old mid goes
put_keeps p1 p2 [] (g ∷ gone) c left old mid taken goes = absurd taken
put_keeps p1 p2 (a ∷ []) (g ∷ []) c left old mid taken goes =
    let none : c ∷ left ≡ [] = taken.2 in absurd (cc)
put_keeps p1 p2 (a ∷ []) (g ∷ n ∷ gone) c left old mid taken goes = absurd taken.2
put_keeps p1 p2 (a ∷ b ∷ pieces) (g ∷ gone) c left old mid taken goes =
    let (next, first, others) = turns_apart (Responds Does) old mid g (talk_pairs gone) goes in
    let (is, none) = answers_piece (with_more (put_header p1 p2)) a g taken.0 ok old next taken.1
    first in
    same_on old next mid (piece_keeps p1 p2 a old next ok is)
    (put_keeps p1 p2 (b ∷ pieces) gone c left next mid taken.2 others)

-- nothing follows the one pair of its exchange
alone_at : (h : Header) (piece : List ℕ) (here : List Pair) (at : Place)
    → GoesThrough (first_place (link h piece) (Bytes 0)) here at
    → (here ≡ []) × (command_at at ≡ link h piece)
alone_at h piece [] at way = (refl, ap (λ (x : Place). command_at x) way)
alone_at h piece (p ∷ here) at (next, suits, follows, rest) =
    let no : Ends ≡ Goes next = sym (ends_alone h piece (length p.content) p.status) ∙ follows in
    absurd (cc)

one_gathers : (h : Header) (piece : List ℕ) (p : Pair) (old new : CardState)
    → p.command ≡ link h piece → Responds Does old p new
    → GathersApdus (link h piece) (p ∷ []) p.content p.status
one_gathers h piece p old new is responds =
    let few = responds_within Does old new p responds in
    record {
      before = [];
      last = p;
      at = first_place (link h piece) (Bytes 0);
      pairs_are = refl;
      through = refl;
      suits = record {
        is_due = is;
        asked_for = rw is at few;
      };
      ends = ends_alone h piece (length p.content) p.status;
      status_is = refl;
      gathered_is = sym (append-nil p.content);
    }

put_due : (h : Header) (c : Command) (piece : List ℕ) (due : Command) (here : List Pair)
    (at : Place) → c ≡ link h piece → GoesThrough (first_place c (wanted_by c.le)) here at
    → command_at at ≡ due → (here ≡ []) × (due ≡ link h piece)
put_due h c piece due here at is way same =
    let a = alone_at h piece here at (rw is at way) in
    (a.0, sym same ∙ a.1)

-- ---- an operation under way

one_command : (c : Command) (commands : List Command) (gone : List (List Pair))
    (current : Command) (left : List Command) → commands ≡ c ∷ []
    → AreApdusUpTo commands gone (current ∷ left) → (gone ≡ []) × (current ≡ c)
one_command c [] gone current left are taken = absurd (cc)
one_command c (d ∷ e ∷ commands) gone current left are taken = absurd (cc)
one_command c (d ∷ []) [] current left are taken =
    let head : current ≡ d = cc in let same : d ≡ c = cc in (refl, head ∙ same)
one_command c (d ∷ []) (g ∷ []) current left are taken =
    let none : current ∷ left ≡ [] = taken.2 in absurd (cc)
one_command c (d ∷ []) (g ∷ n ∷ gone) current left are taken = absurd taken.2

-- after these pairs of an exchange this is its next command
abbrev At : Command → Command → List Pair → Type 0
At c due here = (at : Place) × GoesThrough (first_place c (wanted_by c.le)) here at
    × (command_at at ≡ due)

stands_at : (operation : Operation) (pairs : List Pair) (due : Command)
    (u : IsUnderWay operation pairs due) → At u.led.0.current due u.led.0.here
stands_at operation pairs due u =
    let l = u.led.0 in
    let (way, bytes, same) =
    at_place l.current (wanted_by l.current.le) l.here u.at.exchange due u.due_is l.led in
    (place_of u.at.exchange, way, same)

-- of one command
alone_under_way : (operation : Operation) (pairs : List Pair) (due c : Command)
    (u : IsUnderWay operation pairs due) → u.commands ≡ c ∷ [] → At c due pairs
alone_under_way operation pairs due c u are =
    let l = u.led.0 in
    let (none, is) = one_command c u.commands l.gone l.current l.left are l.taken in
    let here : l.here ≡ pairs = sym (l.pairs_are ∙ ap (λ g. talk_pairs g ++ l.here) none) in
    rw (sym here, sym is) (stands_at operation pairs due u)

first_class : {c d : Command} → c ≡ d → (c.header.cla == 0x10) ≡ (d.header.cla == 0x10)
first_class is = ap (λ (x : Command). x.header.cla == 0x10) is

fetches : {c d : Command} → c ≡ d → is_get_response c.header ≡ is_get_response d.header
fetches is = ap (λ (x : Command). is_get_response x.header) is

pub stops_before : (old new : CardState) (operation : Operation) (pairs : List Pair)
    (due : Command) → is_idle old.pending ≡ true → IsUnderWay operation pairs due
    → RespondsToAll Does old pairs new → IsLeftBefore old operation due.header new
stops_before old new (Select aid) pairs due idle u goes =
    let (at, way, same) = alone_under_way (Select aid) pairs due (select_command aid) u u.are.1 in
    elim (select_at old new aid pairs at idle u.are.0 way goes) [
      | inl first ↦ record {
        carried_out = λ e. absurd (true≢false (sym e ∙ fetches (sym same ∙ first.1)));
        kept = λ e. stands_still old new first.0;
      }
      | inr done ↦ record {
        carried_out = λ e. done.0;
        kept = λ e. absurd (true≢false (sym (fetches (sym same) ∙ ap is_get_response done.1) ∙ e));
      }
    ]
stops_before old new (Get tag) pairs due idle u goes =
    let (p1, p2, names, are) = u.are in
    let (at, way, same) = alone_under_way (Get tag) pairs due (get_command p1 p2) u are in
    let (which, kept, quiet) = get_at old new tag p1 p2 pairs at idle names way goes in
    record {
      carried_out = λ e. elim which [
        | inl first ↦ absurd (true≢false (sym e ∙ fetches (sym same ∙ first.1)))
        | inr done ↦ done
      ];
      kept = λ e. kept;
    }
stops_before old new (Put tag value) pairs due idle u goes =
    let (p1, p2, pieces, names, of, are) = u.are in
    let l = u.led.0 in
    let h = put_header p1 p2 in
    let taken : AreApdusUpTo (chain_commands h pieces) l.gone (l.current ∷ l.left) =
    rw are at l.taken in
    let (at, way, same) = stands_at (Put tag value) pairs due u in
    let (mid, first, rest) = turns_apart (Responds Does) old new (talk_pairs l.gone) l.here
    (rw l.pairs_are at goes) in
    let so_far = put_keeps p1 p2 pieces l.gone l.current l.left old mid taken first in
    let (piece, which) = put_link h pieces l.gone l.current l.left taken in
    let by : (g : Header) → is_get_response g ≡ false → l.current ≡ link g piece
    → IsLeftBefore old (Put tag value) due.header new = λ g no is.
    let (none, due_is) = put_due g l.current piece due l.here at is way same in
    let stays : new ≡ mid = subst (λ ps. RespondsToAll Does mid ps new) none rest in
    record {
      carried_out = λ e. absurd (true≢false (sym e ∙ fetches due_is ∙ no));
      kept = λ e. same_on old mid new so_far (stands_still mid new stays);
    } in
    elim which [ inl last ↦ by h refl last.0 | inr is ↦ by (with_more h) refl is ]

-- the same with the response
pub stops_after : (old new : CardState) (operation : Operation) (pairs : List Pair) (p : Pair)
    → is_idle old.pending ≡ true → IsUnderWay operation pairs p.command
    → RespondsToAll Does old (pairs ++ p ∷ []) new
    → IsLeftAfter old operation p.command.header new
stops_after old new operation pairs p idle u all =
    let (mid, goes, (last, is, stays)) =
    turns_apart (Responds Does) old new pairs (p ∷ []) all in
    by operation u mid goes (subst (λ s. Responds Does mid p s) (sym stays) is)
  where
    by : (operation : Operation) → IsUnderWay operation pairs p.command → (mid : CardState)
        → RespondsToAll Does old pairs mid → Responds Does mid p new
        → IsLeftAfter old operation p.command.header new
    by (Select aid) u mid goes responds =
        let (at, way, same) =
        alone_under_way (Select aid) pairs p.command (select_command aid) u u.are.1 in
        elim (select_at old mid aid pairs at idle u.are.0 way goes) [
          | inl first ↦
              let due : p.command ≡ select_command aid = sym same ∙ first.1 in
              let f = select_responds old new aid p idle u.are.0 due (rw first.0 at responds) in
              record {
                kept = λ e. absurd (true≢false (sym e ∙ first_class due));
                carried_out = λ e. done_first old new (Select aid) p.content p.status f;
                still = λ e. done_first old new (Select aid) p.content p.status f;
              }
          | inr done ↦
              let h : p.command.header ≡ get_response =
              ap (λ (c : Command). c.header) (sym same) ∙ done.1 in
              record {
                kept = λ e. absurd (true≢false (sym e ∙ ap (λ (h : Header). h.cla == 0x10) h));
                carried_out = λ e. done_on old mid new (Select aid) done.0
                    (response_keeps p mid new (quiet_fetch p.command.header h) responds);
                still = λ e. done_on old mid new (Select aid) done.0
                    (response_keeps p mid new (quiet_fetch p.command.header h) responds);
              }
        ]
    by (Get tag) u mid goes responds =
        let (p1, p2, names, are) = u.are in
        let (at, way, same) = alone_under_way (Get tag) pairs p.command (get_command p1 p2) u are in
        let (which, kept, quiet) = get_at old mid tag p1 p2 pairs at idle names way goes in
        let on = response_keeps p mid new (subst (λ c. IsQuiet c.header) same quiet) responds in
        let is_done : IsDone old (Get tag) new = elim which [
          | inl first ↦ done_first old new (Get tag) p.content p.status
              (get_responds old new tag p1 p2 p idle names (sym same ∙ first.1)
              (rw first.0 at responds))
          | inr done ↦ done_on old mid new (Get tag) done on
        ] in
        record {
          kept = λ e. same_on old mid new kept on;
          carried_out = λ e. is_done;
          still = λ e. is_done;
        }
    by (Put tag value) u mid goes responds =
        let (p1, p2, pieces, names, of, are) = u.are in
        let l = u.led.0 in
        let h = put_header p1 p2 in
        let taken : AreApdusUpTo (chain_commands h pieces) l.gone (l.current ∷ l.left) =
        rw are at l.taken in
        let (at, way, same) = stands_at (Put tag value) pairs p.command u in
        let (piece, which) = put_link h pieces l.gone l.current l.left taken in
        elim which [
          | inl last ↦
              let (none, due) = put_due h l.current piece p.command l.here at last.0 way same in
              let gathers : GathersApdus l.current (p ∷ []) p.content p.status =
              rw last.0 (one_gathers h piece p mid new due responds) in
              let answer : Reply = record { status = p.status; content = p.content } in
              let exchanges : List (List Pair) = l.gone ++ (p ∷ []) ∷ [] in
              let ends = taken_to_end u.commands l.gone l.current l.left (p ∷ []) answer l.taken
              gathers (inl last.1) in
              let pairs_are : pairs ++ p ∷ [] ≡ talk_pairs exchanges =
              ap (λ ps. ps ++ p ∷ []) (l.pairs_are ∙ ap (λ ps. talk_pairs l.gone ++ ps) none
              ∙ append-nil (talk_pairs l.gone)) ∙ sym (one_more_exchange l.gone (p ∷ [])) in
              let step = talk_is_one_step old new (Put tag value) exchanges answer idle
              (u.commands, u.are, ends) (rw pairs_are at all) in
              record {
                kept = λ e. absurd (true≢false (sym e ∙ first_class due));
                carried_out = λ e. (answer, step.0, step.1, step.2);
                still = λ e. (answer, step.0, step.1, step.2);
              }
          | inr more ↦
              let g = with_more h in
              let (none, due) = put_due g l.current piece p.command l.here at more way same in
              let (before, first, rest) =
              turns_apart (Responds Does) old mid (talk_pairs l.gone) l.here
              (rw l.pairs_are at goes) in
              let stays : mid ≡ before =
              subst (λ ps. RespondsToAll Does before ps mid) none rest in
              let (is, nothing) = answers_piece g piece (p ∷ []) p.content p.status mid new
              (one_gathers g piece p mid new due responds) (new, responds, refl) in
              record {
                kept = λ e. same_on old mid new
                    (same_on old before mid
                    (put_keeps p1 p2 pieces l.gone l.current l.left old before taken first)
                    (stands_still before mid stays))
                    (piece_keeps p1 p2 piece mid new p.status is);
                carried_out = λ e. absurd (true≢false (sym (first_class due) ∙ e));
                still = λ e. absurd (true≢false (sym e ∙ fetches due));
              }
        ]

-- ---- each command is agreed

pub due_is_agreed : (operation : Operation) (pairs : List Pair) (due : Command)
    → IsUnderWay operation pairs due → IsAgreed MayReceive MaySend due
due_is_agreed operation pairs due u =
    next_is_agreed MayReceive MaySend u.commands pairs (Some u.at) due u.due_is
    (commands_agreed MayReceive MaySend (keeps_to MayReceive MaySend (λ h. (λ m. m, λ m. m))
    (λ h. (λ m. m, λ m. m))) operation u.commands u.are) u.led
