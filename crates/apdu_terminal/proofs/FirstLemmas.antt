-- SELECT and GET DATA by whole commands: what the first TPDU begins, and what GET RESPONSE reads
-- after it, at the card and at the terminal.
use Rattle.std.proofs.Common.{◌≡◌, ℕ, ◌-◌, ◌≤◌, List, [], ◌∷◌, ◌++◌, length, take, drop, refl, sym, ◌∙◌, ap, arith, inl, inr, ◌⊎◌, true, Option, Some, None, append-nil, append_assoc}
use Rattle.std.specs.Prelude.{is_some}
use Rattle.std.proofs.lemmas.Bool.{le-leb}
use Rattle.std.proofs.lemmas.List.{take-append-drop}
use Rattle.apdu_core.specs.declared.header.Header.{Header}
use Rattle.apdu_core.specs.StatusWord.{StatusWord, ok, count, announces, corrects}
use Rattle.apdu_core.specs.CommandBytes.{Command}
use Rattle.t0_core.specs.Meaning.{Tpdu}
use Rattle.tlv_core.specs.Address.{NamesTag}
use Rattle.tlv_core.specs.Spelling.{object_bytes}
use Rattle.object_card.specs.Tables.{IsAid, entries_in}
use Rattle.object_card.specs.State.{CardState, is_idle, waiting, pending_of, with_selected}
use Rattle.apdu_core.specs.Shared.{reply}
use Rattle.object_card.specs.OneStep.{Operation, Select, Get, Answers, selects, finds_no_application, gives, control_information, SameTables}
use Rattle.object_card.specs.Refusals.{is_select, refusal}
use Rattle.object_card.specs.CardMeaning.{Does, announcing}
use Rattle.object_card.specs.CarryingOut.{select_header, get_header, IsCarriedOut}
use Rattle.object_card.specs.OperationLaws.{no_correction}
use Rattle.object_card.specs.ResponseLaws.{rest_waits, rest_is_idle}
use Rattle.object_card.specs.StepLaws.{select_step, select_refused, is_selected, is_missed}
use Rattle.object_card.specs.AnswerLaws.{answers_alike}
use Rattle.exchange_core.specs.declared.wanted.Wanted.TheVariants.{Bytes, Everything}
use Rattle.exchange_core.specs.Gathered.{less, fetched_after}
use Rattle.card_terminal.specs.Talk.{select_command, get_command}
use Rattle.apdu_terminal.specs.Apdus.{Pair, Place, first_place, asking, may_bring, Goes, Ends, follow, command_at, Suits, all_content, Brings}
use Rattle.apdu_terminal.specs.CardApdu.{p3_of, tpdu_command, le_of_tpdu, IsTpduOf, InTurn, GoesAs, Responds, RespondsToAll}
use Rattle.apdu_terminal.proofs.PlaceLemmas.{Whole, at_end, further, brings_whole, repeated}
use Rattle.apdu_terminal.proofs.RestLemmas.{Reading, one_read, one_response, goes_by_fetch, told_by, waits_for, all_read, none_announced, ends_told, count_told}
use Rattle.object_card.specs.OperationLaws.{select_is_taken, IsHeld, one_held, some_bytes, get_refused, get_corrected, get_given, get_step}

-- the state of an operation after some of its pairs: it has a status without data; or a response
-- has begun, and the status announces the rest
pub data FirstOf (old : CardState) (operation : Operation) (content : List ℕ) (status : StatusWord)
    (mid : CardState) : Type 0 where
  answered : (after : CardState) → Answers old operation (reply status) after
      → announces status ≡ None → corrects status ≡ None → content ≡ [] → SameTables after mid
      → is_idle mid.pending ≡ true → FirstOf old operation content status mid
  begun : (whole : List ℕ) (after : CardState)
      → Answers old operation (record { status = ok; content = whole }) after
      → content ++ waiting mid.pending ≡ whole → status ≡ announcing (waiting mid.pending) 256
      → SameTables after mid → is_idle mid.pending ≡ true → FirstOf old operation content status mid

-- a whole exchange by its first pair
abbrev pub WholeBy : Place → Pair → List Pair → StatusWord → Type 0
WholeBy at p rest status =
    ((rest ≡ []) × (status ≡ p.status) × (follow at (length p.content) p.status ≡ Ends))
    ⊎ ((next : Place) × (follow at (length p.content) p.status ≡ Goes next)
    × Whole next rest status)

pub whole_by : (at : Place) (pairs : List Pair) (status : StatusWord) → Whole at pairs status
    → (p : Pair) × (rest : List Pair) × (pairs ≡ p ∷ rest) × Suits at p × WholeBy at p rest status
whole_by at pairs status (at_end here p suits ends) =
    (p, [], refl, suits, inl (refl, refl, ends))
whole_by at pairs status (further here next p rest last suits goes whole) =
    (p, rest, refl, suits, inr (next, goes, whole))

-- nothing is fetched if nothing is announced
no_fetch : (at next : Place) (came : ℕ) (status : StatusWord) → announces status ≡ None
    → corrects status ≡ None → follow at came status ≡ Goes next → ⊥
no_fetch at next came status none once goes =
    let f = goes_by_fetch at next came status once goes in
    let (m, told, few, some) = told_by (less at.left came) status f.n f.told in
    let no_more : None ≡ Some m = sym none ∙ told in absurd (cc)

-- the exchange reads a response that has begun to its end
pub goes_on : (One : CardState → Pair → CardState → Type 0) → Reading One
    → (old mid new : CardState) (operation : Operation) (at : Place) (p : Pair)
    (rest : List Pair) (status : StatusWord) (content : List ℕ)
    → FirstOf old operation content p.status mid → WholeBy at p rest status
    → InTurn One mid rest new → FirstOf old operation (content ++ all_content rest) status new
goes_on One reading old mid new operation at p rest status content first
    (inl (none, is, ends)) goes =
    let stays : new ≡ mid = rw none at goes in
    rw (none, append-nil content, is, stays) first
goes_on One reading old mid new operation at p rest status content
    (answered after answers none once empty same idle) (inr (next, goes_next, whole)) goes =
    absurd (no_fetch at next (length p.content) p.status none once goes_next)
goes_on One reading old mid new operation at p rest status content
    (begun all after answers both told same idle) (inr (next, goes_next, whole)) goes =
    let once : corrects p.status ≡ None = ap corrects told ∙ no_correction (waiting mid.pending) 256
    in
    let f = goes_by_fetch at next (length p.content) p.status once goes_next in
    let w = waits_for (waiting mid.pending) (less at.left (length p.content)) f.n
    (ap (λ s. fetched_after (less at.left (length p.content)) s) (sym told) ∙ f.told) in
    let r = all_read One reading next rest status f.n mid new whole f.due_is w.0 w.1 goes in
    begun all after answers
    (append_assoc content (all_content rest) (waiting new.pending)
    ∙ ap (λ bs. content ++ bs) r.whole ∙ both) r.status_is
    (same.0 ∙ r.same.0, same.1 ∙ r.same.1) r.idle

-- a whole exchange, by what its first pair begins
pub goes_through : (One : CardState → Pair → CardState → Type 0) → Reading One
    → (old new : CardState) (operation : Operation) (at : Place) (pairs : List Pair)
    (content : List ℕ) (status : StatusWord) → Whole at pairs status
    → content ≡ all_content pairs
    → ((p : Pair) (mid : CardState) → Suits at p → One old p mid
    → FirstOf old operation p.content p.status mid)
    → InTurn One old pairs new → FirstOf old operation content status new
goes_through One reading old new operation at pairs content status whole gathered each goes =
    let (p, rest, are, suits, by) = whole_by at pairs status whole in
    let (mid, is, others) = rw are at goes in
    rw (gathered, are) (goes_on One reading old mid new operation at p rest status p.content
    (each p mid suits is) by others)

-- if nothing more is announced, the operation is carried out
carried : (old new : CardState) (operation : Operation) (content : List ℕ) (status : StatusWord)
    → FirstOf old operation content status new → fetched_after Everything status ≡ None
    → IsCarriedOut old operation status content new
carried old new operation content status (answered after answers none once empty same idle) ends =
    (after, rw empty answers, same, idle)
carried old new operation content status (begun whole after answers both told same idle) ends =
    let nothing : waiting new.pending ≡ [] = none_announced (waiting new.pending)
    (ap (λ s. fetched_after Everything s) (sym told) ∙ ends) in
    let fine : ok ≡ status = sym (told ∙ ap (λ bs. announcing bs 256) nothing) in
    let all : whole ≡ content =
    sym both ∙ ap (λ bs. content ++ bs) nothing ∙ append-nil content in
    (after, rw (sym all, sym fine) answers, same, idle)

-- ---- SELECT

p3_some : (content : List ℕ) (le : Option ℕ) → 1 ≤ length content
    → p3_of content le ≡ length content
p3_some [] le some = absurd (omega (arith, some))
p3_some (b ∷ bs) le some = refl

all_sent : (aid sent : List ℕ) → 1 ≤ length aid → length aid ≡ length sent
    → (sent ≡ []) ⊎ (sent ≡ aid) → sent ≡ aid
all_sent aid sent some counts (inl none) = absurd (omega (arith, some, counts, ap length none))
all_sent aid sent some counts (inr all) = all

select_first : (old mid : CardState) (aid : List ℕ) (p : Pair) (t : Tpdu)
    → is_idle old.pending ≡ true → IsAid aid → p.command ≡ tpdu_command (select_command aid)
    → IsTpduOf p t → Does old 256 t mid → FirstOf old (Select aid) p.content p.status mid
select_first old mid aid p t idle is due of does =
    let some : 1 ≤ length aid = omega (arith, is.0) in
    let header : t.header ≡ select_header = of.header_is ∙ ap (λ (c : Command). c.header) due in
    let p3 : t.p3 ≡ length aid =
    of.p3_is ∙ ap (λ (c : Command). p3_of c.content c.le) due
    ∙ p3_some aid (le_of_tpdu aid (Some 256)) some in
    let which : (t.sent ≡ []) ⊎ (t.sent ≡ aid) =
    rw due at of.all_or_none in
    let taken : refusal old t.header t.p3 ≡ None =
    rw (p3, header) (select_is_taken old aid idle is) in
    elim (select_step old mid 256 t does (ap (λ h. is_select h) header)) [
      | select_refused refused none_sent none new_is ↦ let no : None ≡ Some t.status =
          sym taken ∙ refused in absurd (cc)
      | is_selected e counts found none status new_is ↦
          let moved : t.sent ≡ aid = all_sent aid t.sent some (sym p3 ∙ counts) which in
          let info : List ℕ = control_information aid in
          let empty : p.content ≡ [] = sym of.received_is ∙ none in
          let waits : waiting mid.pending ≡ info =
          ap (λ s. waiting s.pending) new_is ∙ ap (λ x. control_information x) moved in
          begun info (with_selected old aid)
          (selects aid (ap (λ x. is_some (entries_in x old.applications)) (sym moved) ∙ found))
          (ap (λ bs. bs ++ waiting mid.pending) empty ∙ waits)
          (sym of.status_is ∙ status ∙ ap (λ x. announcing (control_information x) 256) moved
          ∙ ap (λ bs. announcing bs 256) (sym waits)) (
            sym (ap (λ s. s.applications) new_is),
            sym (ap (λ x. Some x) moved) ∙ sym (ap (λ s. s.selected) new_is),
          )
          (ap (λ s. is_idle s.pending) new_is)
      | is_missed e counts missed none status new_is ↦
          let moved : t.sent ≡ aid = all_sent aid t.sent some (sym p3 ∙ counts) which in
          let told : p.status ≡ (0x6A, 0x82) = sym of.status_is ∙ status in
          answered old
          (rw told (finds_no_application aid
          (ap (λ x. entries_in x old.applications) (sym moved) ∙ missed)))
          (ap announces told) (ap corrects told) (sym of.received_is ∙ none)
          (sym (ap (λ s. s.applications) new_is), sym (ap (λ s. s.selected) new_is))
          (ap (λ s. is_idle s.pending) new_is)
    ]

-- the card's response to a SELECT
pub select_responds : (old mid : CardState) (aid : List ℕ) (p : Pair) → is_idle old.pending ≡ true
    → IsAid aid → p.command ≡ select_command aid → Responds Does old p mid
    → FirstOf old (Select aid) p.content p.status mid
select_responds old mid aid p idle is due (inner, brings, goes) =
    goes_through (GoesAs Does) one_read old mid (Select aid)
    (first_place (tpdu_command p.command) (Bytes _)) inner p.content p.status
    (brings_whole _ _ inner p.content p.status brings) brings.gathered_is
    (λ q next suits (t, of, does).
    select_first old next aid q t idle is (suits.is_due ∙ ap tpdu_command due) of does) goes

-- ---- GET DATA

-- the same from a card with the same tables
first_alike : (a b mid : CardState) (operation : Operation) (content : List ℕ)
    (status : StatusWord) → SameTables a b → FirstOf a operation content status mid
    → FirstOf b operation content status mid
first_alike a b mid operation content status tables
    (answered after answers none once empty same idle) =
    let (here, now, alike) = answers_alike a b after operation (reply status) tables answers in
    answered here now none once empty (sym alike.0 ∙ same.0, sym alike.1 ∙ same.1) idle
first_alike a b mid operation content status tables
    (begun all after answers both told same idle) =
    let (here, now, alike) =
    answers_alike a b after operation (record { status = ok; content = all }) tables answers in
    begun all here now both told (sym alike.0 ∙ same.0, sym alike.1 ∙ same.1) idle

get_refuses : (old mid : CardState) (tag : List ℕ) (p : Pair) (t : Tpdu) → IsTpduOf p t
    → Answers old (Get tag) (reply t.status) old → announces t.status ≡ None
    → corrects t.status ≡ None → t.received ≡ [] → SameTables old mid
    → is_idle mid.pending ≡ true → FirstOf old (Get tag) p.content p.status mid
get_refuses old mid tag p t of answers none once nothing same idle =
    answered old (rw of.status_is at answers)
    (ap announces (sym of.status_is) ∙ none) (ap corrects (sym of.status_is) ∙ once)
    (sym of.received_is ∙ nothing) same idle

get_gives : (old mid : CardState) (tag value : List ℕ) (p : Pair) (t : Tpdu) → IsTpduOf p t
    → IsHeld old tag value → t.received ≡ take (count t.p3) (object_bytes tag value)
    → t.status ≡ announcing (drop (count t.p3) (object_bytes tag value)) 256 → SameTables old mid
    → mid.pending ≡ pending_of (drop (count t.p3) (object_bytes tag value))
    → FirstOf old (Get tag) p.content p.status mid
get_gives old mid tag value p t of held brought status same pending =
    let whole : List ℕ = object_bytes tag value in
    let rest : List ℕ = drop (count t.p3) whole in
    let waits : waiting mid.pending ≡ rest = ap waiting pending ∙ rest_waits rest in
    begun whole old (gives tag value held.entries held.is_selected held.is_under)
    (ap (λ bs. bs ++ waiting mid.pending) (sym of.received_is ∙ brought)
    ∙ ap (λ bs. take (count t.p3) whole ++ bs) waits ∙ take-append-drop (count t.p3) whole)
    (sym of.status_is ∙ status ∙ ap (λ bs. announcing bs 256) (sym waits)) same
    (ap is_idle pending ∙ rest_is_idle rest)

-- a GET DATA is repeated after a 6CXX
is_repeated : (h : Header) (came n : ℕ) (status : StatusWord) → corrects status ≡ Some n → came ≡ 0
    → n ≤ 256
    → follow (first_place (asking h 256) (Bytes 256)) came status
    ≡ Goes (repeated (first_place (asking h 256) (Bytes 256)) came n)
is_repeated h came n status told none few =
    rw (told, le-leb n (256 - came) (omega (arith, none, few))) refl

-- with that count it brings all
get_again : (old mid : CardState) (tag value : List ℕ) (p1 p2 n : ℕ) (p : Pair) (t : Tpdu)
    (before : CardState) → is_idle old.pending ≡ true → NamesTag tag p1 p2
    → p.command ≡ asking (get_header p1 p2) n → n ≡ length (object_bytes tag value) → n ≤ 256
    → IsHeld before tag value → SameTables before old → IsTpduOf p t → Does old 256 t mid
    → FirstOf old (Get tag) p.content p.status mid
get_again old mid tag value p1 p2 n p t before idle names due all few held_before tables of does =
    let header : t.header ≡ get_header p1 p2 =
    of.header_is ∙ ap (λ (c : Command). c.header) due in
    let some : 1 ≤ n = omega (arith, all, some_bytes tag value) in
    let counts : count t.p3 ≡ n =
    ap count (of.p3_is ∙ ap (λ (c : Command). p3_of c.content c.le) due) ∙ count_told n some few in
    elim (get_step old mid tag p1 p2 256 t idle names header does) [
      | get_refused answers none once nothing same rests ↦
          get_refuses old mid tag p t of answers none once nothing same rests
      | get_corrected other held short corrected nothing same rests ↦
          let one : value ≡ other = one_held before old tag value other tables held_before held in
          absurd (omega (
            arith,
            short,
            counts,
            all,
            ap (λ v. length (object_bytes tag v)) one,
          ))
      | get_given other held brought status same pending ↦
          get_gives old mid tag other p t of held brought status same pending
    ]

-- the card's response to a GET DATA
pub get_responds : (old mid : CardState) (tag : List ℕ) (p1 p2 : ℕ) (p : Pair)
    → is_idle old.pending ≡ true → NamesTag tag p1 p2 → p.command ≡ get_command p1 p2
    → Responds Does old p mid → FirstOf old (Get tag) p.content p.status mid
get_responds old mid tag p1 p2 p idle names due (inner, brings, goes) =
    let h = get_header p1 p2 in
    let at = first_place (asking h 256) (Bytes 256) in
    let same_at : first_place (tpdu_command p.command) (Bytes (may_bring p.command.le)) ≡ at =
    ap (λ (c : Command). first_place (tpdu_command c) (Bytes (may_bring c.le))) due in
    let whole : Whole at inner p.status =
    rw same_at at (brings_whole _ _ inner p.content p.status brings) in
    let (q, rest, are, suits, by) = whole_by at inner p.status whole in
    let (next, (t, of, does), others) = rw are at goes in
    let content : q.content ++ all_content rest ≡ p.content =
    sym (brings.gathered_is ∙ ap all_content are) in
    let header : t.header ≡ h = of.header_is ∙ ap (λ (c : Command). c.header) suits.is_due in
    let counts : count t.p3 ≡ 256 =
    ap count (of.p3_is ∙ ap (λ (c : Command). p3_of c.content c.le) suits.is_due) in
    let ends : FirstOf old (Get tag) q.content q.status next
    → FirstOf old (Get tag) p.content p.status mid = λ first.
    rw (sym content) (goes_on (GoesAs Does) one_read old next mid (Get tag) at q rest p.status
    q.content first by others) in
    elim (get_step old next tag p1 p2 256 t idle names header does) [
      | get_refused answers none once nothing same rests ↦
          ends (get_refuses old next tag q t of answers none once nothing same rests)
      | get_given value held brought status same pending ↦
          ends (get_gives old next tag value q t of held brought status same pending)
      | get_corrected value held short corrected nothing same rests ↦
          let n : ℕ = length (object_bytes tag value) in
          let few : n ≤ 256 = omega (arith, short, counts) in
          let empty : q.content ≡ [] = sym of.received_is ∙ nothing in
          let repeats : follow at (length q.content) q.status
          ≡ Goes (repeated at (length q.content) n) =
          is_repeated h (length q.content) n q.status (ap corrects (sym of.status_is) ∙ corrected)
          (ap length empty) few in
          elim by [
            | inl (none, is, over) ↦
                let no : Goes (repeated at (length q.content) n) ≡ Ends = sym repeats ∙ over in
                absurd (cc)
            | inr (after, goes_q, whole_q) ↦
                let both : Goes (repeated at (length q.content) n) ≡ Goes after =
                sym repeats ∙ goes_q in
                let here : repeated at (length q.content) n ≡ after = cc in
                let all = goes_through (GoesAs Does) one_read next mid (Get tag) after rest
                (all_content rest) p.status whole_q refl
                (λ r later suits_r (u, of_u, does_u).
                get_again next later tag value p1 p2 n r u old rests names
                (suits_r.is_due ∙ ap (λ (x : Place). command_at x) (sym here)) refl few held same
                of_u does_u) others in
                rw (sym content, empty)
                (first_alike next old mid (Get tag) (all_content rest) p.status
                (sym same.0, sym same.1) all)
          ]
    ]

-- all pairs of a SELECT
pub select_is_answered : (old new : CardState) (aid : List ℕ) (pairs : List Pair)
    (content : List ℕ) (status : StatusWord) → is_idle old.pending ≡ true → IsAid aid
    → Brings (select_command aid) Everything pairs content status
    → RespondsToAll Does old pairs new → IsCarriedOut old (Select aid) status content new
select_is_answered old new aid pairs content status idle is brings goes =
    let at = first_place (select_command aid) Everything in
    let whole = brings_whole (select_command aid) Everything pairs content status brings in
    carried old new (Select aid) content status
    (goes_through (Responds Does) one_response old new (Select aid) at pairs content status whole
    brings.gathered_is
    (λ p mid suits responds. select_responds old mid aid p idle is suits.is_due responds) goes)
    (ends_told at pairs status whole refl)

-- all pairs of a GET DATA
pub get_is_answered : (old new : CardState) (tag : List ℕ) (p1 p2 : ℕ) (pairs : List Pair)
    (content : List ℕ) (status : StatusWord) → is_idle old.pending ≡ true → NamesTag tag p1 p2
    → Brings (get_command p1 p2) Everything pairs content status
    → RespondsToAll Does old pairs new → IsCarriedOut old (Get tag) status content new
get_is_answered old new tag p1 p2 pairs content status idle names brings goes =
    let at = first_place (get_command p1 p2) Everything in
    let whole = brings_whole (get_command p1 p2) Everything pairs content status brings in
    carried old new (Get tag) content status
    (goes_through (Responds Does) one_response old new (Get tag) at pairs content status whole
    brings.gathered_is
    (λ p mid suits responds. get_responds old mid tag p1 p2 p idle names suits.is_due responds)
    goes)
    (ends_told at pairs status whole refl)
