-- Unless memory runs out, an operation has one reply and one next state, and a TPDU one outcome.
use Rattle.std.proofs.Common.{◌≡◌, ◌≢◌, ℕ, List, [], ◌∷◌, ◌++◌, take, drop, Some, None, true, false, refl, sym, ap, subst, ◌∙◌, arith, Option}
use Rattle.std.specs.Prelude.{Bool, is_some, option_and_then, unwrap_or, if◌then◌else◌, ◌||◌, ◌==◌}
use Rattle.std.proofs.lemmas.Bool.{true≢false, eqb-true}
use Rattle.apdu_core.specs.StatusWord.{StatusWord, ok, count}
use Rattle.t0_core.specs.Meaning.{Tpdu}
use Rattle.tlv_core.specs.Spelling.{object_bytes}
use Rattle.object_card.specs.Tables.{Entry, entries_in, value_under}
use Rattle.object_card.specs.State.{CardState, NothingPending, ChainPending, ResponsePending, chained, pending_of, with_pending, with_selected, selected_entries}
use Rattle.apdu_core.specs.Shared.{Reply, reply}
use Rattle.object_card.specs.OneStep.{Operation, Select, Get, Put, is_selection, Answers, selects, finds_no_application, none_selected, finds_no_object, gives, stores, does_not_store, wants_memory, with_put, control_information, SameTables, PutStatus, not_allowed}
use Rattle.object_card.specs.Refusals.{is_select, is_get, is_put, is_get_response, refusal, to_send, named_tag}
use Rattle.object_card.specs.CardMeaning.{Does, refuses, selects_application, misses_application, sends, chains, puts_value, after_refusal, announcing}
use Rattle.object_card.specs.TagLaws.{named}
use Rattle.object_card.specs.RefusalLaws.{is_refusing}
use Rattle.object_card.specs.StepLaws.{refused_step, select_step, select_refused, is_selected, is_missed, put_step, put_refused, is_chained, is_ended, send_step, send_refused, is_sent}
use Rattle.object_card.specs.ShownPuts.{is_ok}
use Rattle.object_card.proofs.PutLemmas.{one_status}
use Rattle.object_card.specs.CardLaws.{not_ok}

-- one reply and one state
abbrev Same : Reply → Reply → CardState → CardState → Type 0
Same r s a b = (r ≡ s) × (a ≡ b)

-- memory did not run out
abbrev pub IsServed : StatusWord → Type 0
IsServed status = status ≢ (0x65, 0x81)

found_not_missed : (aid : List ℕ) (state : CardState) → is_some (entries_in aid state.applications)
    ≡ true → entries_in aid state.applications ≡ None → ⊥
found_not_missed aid state found missed = true≢false (sym found ∙ ap is_some missed)

entries_selected : (state : CardState) (aid : List ℕ) (entries : List Entry) → state.selected
    ≡ Some aid → entries_in aid state.applications ≡ Some entries
    → selected_entries state ≡ Some entries
entries_selected state aid entries selected is =
    ap (λ v. option_and_then (λ a. entries_in a state.applications) v) selected ∙ is

-- the reply to a SELECT, by whether the application exists
abbrev chosen : CardState → List ℕ → Bool → Reply × CardState
chosen old aid true =
    (record { status = ok; content = control_information aid }, with_selected old aid)
chosen old aid false = (reply (0x6A, 0x82), old)

-- the reply to a GET DATA, by the value under its tag and by the entries
abbrev found : List ℕ → Option (List ℕ) → Reply
found tag None = reply (0x6A, 0x88)
found tag (Some value) = record { status = ok; content = object_bytes tag value }

abbrev got : List ℕ → Option (List Entry) → Reply
got tag None = reply (0x69, 0x85)
got tag (Some entries) = found tag (value_under tag entries)

-- the result of an operation among these entries, unless memory runs out
abbrev Comes : CardState → Operation → Option (List Entry) → Reply → CardState → Type 0
Comes old (Select aid) es r new =
    (r, new) ≡ chosen old aid (is_some (entries_in aid old.applications))
Comes old (Get tag) es r new = Same r (got tag es) new old
Comes old (Put tag value) None r new = Same r (reply (0x69, 0x85)) new old
Comes old (Put tag value) (Some entries) r new = (status : StatusWord)
    × PutStatus entries tag value status × (r ≡ reply status)
    × (new ≡ (if is_ok status then with_put old (unwrap_or old.selected []) tag value else old))

unselected : (old : CardState) (operation : Operation) → is_selection operation ≡ false
    → Comes old operation None (reply (0x69, 0x85)) old
unselected old (Select aid) kind = absurd (true≢false kind)
unselected old (Get tag) kind = (refl, refl)
unselected old (Put tag value) kind = (refl, refl)

comes : (old new : CardState) (operation : Operation) (r : Reply) → Answers old operation r new
    → IsServed r.status → Comes old operation (selected_entries old) r new
comes old new operation r (selects aid held) served = ap (chosen old aid) (sym held)
comes old new operation r (finds_no_application aid none) served =
    ap (λ es. chosen old aid (is_some es)) (sym none)
comes old new operation r (none_selected op kind none) served =
    subst (λ es. Comes old op es (reply (0x69, 0x85)) old) (sym none) (unselected old op kind)
comes old new operation r (finds_no_object tag entries is none) served =
    subst (λ es. Comes old (Get tag) es (reply (0x6A, 0x88)) old) (sym is)
    (ap (found tag) (sym none), refl)
comes old new operation r (gives tag value entries is held) served =
    subst (λ es. Comes old (Get tag) es (found tag (Some value)) old) (sym is)
    (ap (found tag) (sym held), refl)
comes old new operation r (stores tag value aid entries selected is put) served =
    subst (λ es. Comes old (Put tag value) es (reply ok) (with_put old aid tag value))
    (sym (entries_selected old aid entries selected is))
    (ok, put, refl, ap (λ v. with_put old (unwrap_or v []) tag value) (sym selected))
comes old new operation r (does_not_store tag value entries status is other put) served =
    subst (λ es. Comes old (Put tag value) es (reply status) old) (sym is)
    (status, put, refl, rw (not_ok status other) refl)
comes old new operation r (wants_memory tag value entries is put) served = absurd (served refl)

one_coming : (old a b : CardState) (operation : Operation) (es : Option (List Entry)) (r s : Reply)
    → Comes old operation es r a → Comes old operation es s b → Same r s a b
one_coming old a b (Select aid) es r s first second =
    let same : (r, a) ≡ (s, b) = first ∙ sym second in
    (ap (λ (x : Reply × CardState). x.0) same, ap (λ (x : Reply × CardState). x.1) same)
one_coming old a b (Put tag value) (Some entries) r s (v, put, r_is, a_is) (w, too, s_is, b_is) =
    let same : v ≡ w = one_status entries tag value v w put too in (
      r_is ∙ ap (λ x. reply x) same ∙ sym s_is,
      a_is ∙ ap (λ (x : StatusWord). if is_ok x
          then with_put old (unwrap_or old.selected []) tag value else old) same ∙ sym b_is,
    )
one_coming _ _ _ _ _ _ _ first second = (first.0 ∙ sym second.0, first.1 ∙ sym second.1)

-- Unless memory runs out, an operation has one reply and one next state.
pub one_answer : (old a b : CardState) (operation : Operation) (r s : Reply)
    → Answers old operation r a → Answers old operation s b
    → IsServed r.status → IsServed s.status → Same r s a b
one_answer old a b operation r s first second served served2 =
    one_coming old a b operation (selected_entries old) r s (comes old a operation r first served)
    (comes old b operation s second served2)

other_byte : (status : StatusWord) → (status.0 == 0x65) ≡ false → status ≡ (0x65, 0x81) → ⊥
other_byte status differs is = true≢false (sym (ap (λ (s : StatusWord). s.0 == 0x65) is) ∙ differs)

no_put_wants : (entries : List Entry) (tag value : List ℕ) (status : StatusWord)
    → PutStatus entries tag value status → (status.0 == 0x65) ≡ false
no_put_wants entries tag value status (not_allowed locked) = refl
no_put_wants _ _ _ _ _ = refl

would_store : (old : CardState) (tag value : List ℕ) (entries : List Entry) → selected_entries old
    ≡ Some entries → PutStatus entries tag value ok
    → (next : CardState) × Answers old (Put tag value) (reply ok) next
would_store old tag value entries is put = split old.selected refl
  where
    split : (v : Option (List ℕ)) → old.selected ≡ v → (next : CardState)
        × Answers old (Put tag value) (reply ok) next
    split None e =
        let none : None ≡ Some entries =
        sym (ap (λ v. option_and_then (λ a. entries_in a old.applications) v) e) ∙ is in
        absurd (cc)
    split (Some aid) e =
        let found : entries_in aid old.applications ≡ Some entries =
        sym (ap (λ v. option_and_then (λ a. entries_in a old.applications) v) e) ∙ is in
        (with_put old aid tag value, stores tag value aid entries e found put)

-- Memory runs out only if a value would be stored, and the card is unchanged.
pub wanting_memory : (old new : CardState) (operation : Operation) (answer : Reply)
    → Answers old operation answer new → answer.status ≡ (0x65, 0x81)
    → (new ≡ old) × ((next : CardState) × Answers old operation (reply ok) next)
wanting_memory old new operation answer (finds_no_application aid none) wants =
    absurd (other_byte (0x6A, 0x82) refl wants)
wanting_memory old new operation answer (none_selected op kind none) wants =
    absurd (other_byte (0x69, 0x85) refl wants)
wanting_memory old new operation answer (finds_no_object tag entries is none) wants =
    absurd (other_byte (0x6A, 0x88) refl wants)
wanting_memory old new operation answer (does_not_store tag value entries status is other put)
    wants =
    absurd (other_byte status (no_put_wants entries tag value status put) wants)
wanting_memory old new operation answer (wants_memory tag value entries is put) wants =
    (refl, would_store old tag value entries is put)
wanting_memory _ _ _ _ _ wants = absurd (other_byte ok refl wants)

-- the same command, with the same data to the card
record IsSameCommand (t u : Tpdu) : Type 0 where
  header_is : t.header ≡ u.header
  p3_is : t.p3 ≡ u.p3
  sent_is : t.sent ≡ u.sent

-- data from the card, status and next state
abbrev IsSameOutcome : Tpdu → Tpdu → CardState → CardState → Type 0
IsSameOutcome t u a b = (t.received ≡ u.received) × (t.status ≡ u.status) × (a ≡ b)

refused_too : (old : CardState) (t u : Tpdu) (status : StatusWord) → IsSameCommand t u
    → refusal old t.header t.p3 ≡ Some status → refusal old u.header u.p3 ≡ Some status
refused_too old t u status same e = subst (λ p. refusal old u.header p ≡ Some status) same.p3_is
    (subst (λ h. refusal old h t.p3 ≡ Some status) same.header_is e)

not_refused : (old : CardState) (t u : Tpdu) (status : StatusWord) → IsSameCommand t u
    → refusal old t.header t.p3 ≡ None → refusal old u.header u.p3 ≡ Some status → ⊥
not_refused old t u status same e refused =
    let there : refusal old u.header u.p3 ≡ None =
    subst (λ p. refusal old u.header p ≡ None) same.p3_is
    (subst (λ h. refusal old h t.p3 ≡ None) same.header_is e) in
    let no : None ≡ Some status = sym there ∙ refused in absurd (cc)

outcome : (old a b : CardState) (cut : ℕ) (t u : Tpdu) → Does old cut t a → Does old cut u b
    → IsSameCommand t u → IsServed t.status → IsServed u.status
    → IsSameOutcome t u a b
outcome old a b cut t u (refuses h p3 status e) does same served served2 =
    let step = refused_step old b cut u status does (refused_too old t u status same e) in (
      sym step.none_received,
      sym step.status_is,
      ap (λ h. with_pending old (after_refusal h status old.pending)) same.header_is
          ∙ sym step.new_is,
    )
outcome old a b cut t u (selects_application h aid e ins held) does same served served2 =
    elim (select_step old b cut u does (subst (λ h. is_select h ≡ true) same.header_is ins)) [
      | select_refused refused none_sent none new_is ↦
          absurd (not_refused old t u u.status same e refused)
      | is_selected taken all found none status new_is ↦ (
        sym none,
        ap (λ x. announcing (control_information x) cut) same.sent_is ∙ sym status,
        ap (λ x. with_pending (with_selected old x) (ResponsePending (control_information x)))
            same.sent_is ∙ sym new_is,
      )
      | is_missed taken all missed none status new_is ↦
          absurd (found_not_missed aid old held
          (ap (λ x. entries_in x old.applications) same.sent_is ∙ missed))
    ]
outcome old a b cut t u (misses_application h aid e ins missed) does same served served2 =
    elim (select_step old b cut u does (subst (λ h. is_select h ≡ true) same.header_is ins)) [
      | select_refused refused none_sent none new_is ↦
          absurd (not_refused old t u u.status same e refused)
      | is_selected taken all found none status new_is ↦
          absurd (found_not_missed aid old
          (ap (λ x. is_some (entries_in x old.applications)) same.sent_is ∙ found) missed)
      | is_missed taken all also none status new_is ↦ (sym none, sym status, sym new_is)
    ]
outcome old a b cut t u (sends h p3 e ins) does same served served2 =
    let bytes : to_send old h ≡ to_send old u.header = ap (λ h. to_send old h) same.header_is in
    let left : drop (count p3) (to_send old h) ≡ drop (count u.p3) (to_send old u.header) =
    ap (λ n. drop (count n) (to_send old h)) same.p3_is ∙ ap (λ bs. drop (count u.p3) bs) bytes in
    elim (send_step old b cut u does
    (subst (λ h. is_get h || is_get_response h ≡ true) same.header_is ins)) [
      | send_refused refused none new_is ↦ absurd (not_refused old t u u.status same e refused)
      | is_sent taken brought status new_is ↦ (
        ap (λ n. take (count n) (to_send old h)) same.p3_is
            ∙ ap (λ bs. take (count u.p3) bs) bytes ∙ sym brought,
        ap (λ bs. announcing bs cut) left ∙ sym status,
        ap (λ bs. with_pending old (pending_of bs)) left ∙ sym new_is,
      )
    ]
outcome old a b cut t u (chains h bytes e ins cla) does same served served2 =
    elim (put_step old b cut u does (subst (λ h. is_put h ≡ true) same.header_is ins)) [
      | put_refused refused new_is ↦ absurd (not_refused old t u u.status same e refused)
      | is_chained taken also all none fine new_is ↦ (
        sym none,
        sym fine,
        ap (λ h. with_pending old (ChainPending h.p1 h.p2 (chained old.pending ++ bytes)))
            same.header_is
            ∙ ap (λ bs. with_pending old
            (ChainPending u.header.p1 u.header.p2 (chained old.pending ++ bs))) same.sent_is
            ∙ sym new_is,
      )
      | is_ended taken last all none tag answer next named_by status put new_is ↦
          let more : u.header.cla ≡ 0x10 = subst (λ h. h.cla ≡ 0x10) same.header_is cla in
          absurd (omega (arith, last, more))
    ]
outcome old a b cut t u (puts_value h bytes tag answer next e ins cla named_by put) does same served
    served2 =
    elim (put_step old b cut u does (subst (λ h. is_put h ≡ true) same.header_is ins)) [
      | put_refused refused new_is ↦ absurd (not_refused old t u u.status same e refused)
      | is_chained taken more all none fine new_is ↦
          let last : u.header.cla ≡ 0x00 = subst (λ h. h.cla ≡ 0x00) same.header_is cla in
          absurd (omega (arith, last, more))
      | is_ended taken last all none other answer2 next2 named2 status put2 new_is ↦
          let tags : Some tag ≡ Some other =
          sym (named tag h.p1 h.p2 named_by) ∙ ap (λ h. named_tag h.p1 h.p2) same.header_is
          ∙ named other u.header.p1 u.header.p2 named2 in
          let one_tag : tag ≡ other = cc in
          let operation : Put other (chained old.pending ++ u.sent)
          ≡ Put tag (chained old.pending ++ bytes) =
          ap (λ x. Put x (chained old.pending ++ u.sent)) (sym one_tag)
          ∙ ap (λ bs. Put tag (chained old.pending ++ bs)) (sym same.sent_is) in
          let too : Answers old (Put tag (chained old.pending ++ bytes)) answer2 next2 =
          subst (λ o. Answers old o answer2 next2) operation put2 in
          let answered = one_answer old next next2 (Put tag (chained old.pending ++ bytes)) answer
          answer2 put too served (subst IsServed status served2) in (
            sym none,
            ap (λ r. r.status) answered.0 ∙ sym status,
            ap (λ s. with_pending s NothingPending) answered.1 ∙ sym new_is,
          )
    ]

-- Unless memory runs out, a TPDU has one outcome.
pub one_outcome : (old a b : CardState) (cut : ℕ) (t u : Tpdu) → Does old cut t a → Does old cut u b
    → t.header ≡ u.header → t.p3 ≡ u.p3 → t.sent ≡ u.sent
    → t.status ≢ (0x65, 0x81) → u.status ≢ (0x65, 0x81) → (t.received ≡ u.received)
    × (t.status ≡ u.status) × (a ≡ b)
one_outcome old a b cut t u first second header p3 sent served served2 =
    outcome old a b cut t u first second (record { header_is = header; p3_is = p3; sent_is = sent })
    served served2

-- A status that announces what is left is not 6581.
none_announced : (left : List ℕ) (cut : ℕ) → ((announcing left cut).0 == 0x65) ≡ false
none_announced [] cut = refl
none_announced (b ∷ left) cut = refl

-- Only the last PUT DATA of a chain gets 6581, which changes no table.
pub only_a_put_wants : (old new : CardState) (cut : ℕ) (t : Tpdu) → Does old cut t new
    → t.status ≡ (0x65, 0x81) → (t.header.cla ≡ 0x00) × (t.header.ins ≡ 0xDA) × SameTables old new
only_a_put_wants old new cut t (refuses h p3 status e) wants =
    absurd (other_byte status (is_refusing old h p3 status e).not_memory wants)
only_a_put_wants old new cut t (selects_application h aid e ins held) wants =
    absurd (other_byte (announcing (control_information aid) cut)
    (none_announced (control_information aid) cut) wants)
only_a_put_wants old new cut t (misses_application h aid e ins none) wants =
    absurd (other_byte (0x6A, 0x82) refl wants)
only_a_put_wants old new cut t (sends h p3 e ins) wants =
    absurd (other_byte (announcing (drop (count p3) (to_send old h)) cut)
    (none_announced (drop (count p3) (to_send old h)) cut) wants)
only_a_put_wants old new cut t (chains h bytes e ins cla) wants =
    absurd (other_byte ok refl wants)
only_a_put_wants old new cut t (puts_value h bytes tag answer next e ins cla named_by put) wants =
    let stays = (wanting_memory old next (Put tag (chained old.pending ++ bytes)) answer put
    wants).0
    in (
      cla,
      eqb-true h.ins 0xDA ins,
      (sym (ap (λ s. s.applications) stays), sym (ap (λ s. s.selected) stays)),
    )
