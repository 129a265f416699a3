-- A card's tables are those of the puts that its history shows.
use Rattle.std.proofs.Common.{◌≡◌, ℕ, List, [], ◌∷◌, ◌++◌, length, drop, Some, None, Bool, true, false, inl, inr, refl, sym, ap, ◌∙◌, arith}
use Rattle.std.specs.Prelude.{reverse, if◌then◌else◌, ◌==◌, ◌&&◌, ◌||◌, take_while}
use Rattle.std.specs.List.{flat_map}
use Rattle.std.proofs.lemmas.Grind.{reverse_onto}
use Rattle.std.proofs.lemmas.List.Sums.{take_while-cons}
use Rattle.apdu_core.specs.declared.header.Header.{Header}
use Rattle.t0_core.specs.Meaning.{Tpdu, tpdu_of}
use Rattle.t0_core.specs.History.{Item, Whole, Cut_off, RunsOver}
use Rattle.t0_core.specs.DialogueLaws.{flat_map_last}
use Rattle.std.proofs.lemmas.Bool.{and_left, and_right, and_from, eqb-true, eq-eqb, ne_eqb}
use Rattle.apdu_core.specs.StatusWord.{StatusWord, ok, count}
use Rattle.object_card.specs.State.{CardState, Pending, NothingPending, ChainPending, ResponsePending, chained, pending_of, after_reset}
use Rattle.object_card.specs.Refusals.{is_put, is_select, is_get, is_get_response, to_send, breaks_chain, OtherThanItsChain}
use Rattle.object_card.specs.CardMeaning.{Does, refuses, selects_application, misses_application, sends, chains, puts_value, after_refusal}
use Rattle.object_card.specs.Tables.{Application, with_object}
use Rattle.object_card.specs.TagLaws.{named}
use Rattle.object_card.specs.CardLaws.{put_leaves}
use Rattle.object_card.proofs.KeepingLemmas.{put_keeps_selection}
use Rattle.object_card.specs.StateLaws.{none_holds}
use Rattle.object_card.specs.RefusalLaws.{is_refusing, after_refusal_holds}
use Rattle.object_card.proofs.HeaderRefusalLemmas.{is_of_its_chain}
use Rattle.object_card.specs.ShownPuts.{is_ok, is_selecting, is_piece_for, is_stored, selected_by, run_before, ShownPut, shown_by, shown_after, shown_puts, with_puts}
use Rattle.object_card.specs.StepLaws.{other_ins, is_sending}

-- one more TPDU
run_goes_on : (h : Header) (before : List Tpdu) (t : Tpdu) → is_piece_for h t ≡ true
    → run_before h (t ∷ before) ≡ run_before h before ++ t.sent
run_goes_on h before t is =
    let run : List Tpdu = take_while (is_piece_for h) before in
    let one_more : take_while (is_piece_for h) (t ∷ before) ≡ t ∷ run =
    take_while-cons (is_piece_for h) t before ∙ rw is refl in
    let turned : reverse (t ∷ run) ≡ reverse run ++ t ∷ [] = reverse_onto run t [] in
    ap (λ ts. flat_map (λ t. t.sent) (reverse ts)) one_more
    ∙ ap (λ ts. flat_map (λ t. t.sent) ts) turned ∙ flat_map_last (λ t. t.sent) (reverse run) t

run_ends : (h : Header) (before : List Tpdu) (t : Tpdu) → is_piece_for h t ≡ false
    → run_before h (t ∷ before) ≡ []
run_ends h before t is =
    let none : take_while (is_piece_for h) (t ∷ before) ≡ [] =
    take_while-cons (is_piece_for h) t before ∙ rw is refl in
    ap (λ ts. flat_map (λ t. t.sent) (reverse ts)) none

selection_stays : (before : List Tpdu) (t : Tpdu) → is_selecting t ≡ false
    → selected_by (t ∷ before) ≡ selected_by before
selection_stays before t is = rw is refl

selection_moves : (before : List Tpdu) (t : Tpdu) → is_selecting t ≡ true → selected_by (t ∷ before)
    ≡ Some t.sent
selection_moves before t is = rw is refl

-- the bytes of a chain that this header continues
abbrev chained_for : Header → Pending → List ℕ
chained_for h NothingPending = []
chained_for h (ChainPending p1 p2 bytes) = if (p1 == h.p1) && (p2 == h.p2) then bytes else []
chained_for h (ResponsePending left) = []

-- the state agrees with the TPDUs since the last reset
record Tells (before : List Tpdu) (state : CardState) : Type 0 where
  selected_is : state.selected ≡ selected_by before
  chained_is : (h : Header) → is_put h ≡ true → run_before h before ≡ chained_for h state.pending

-- a TPDU that is not a piece and selects nothing
tells_ended : (before : List Tpdu) (t : Tpdu) (old new : CardState) → is_selecting t ≡ false
    → ((h : Header) → is_put h ≡ true → is_piece_for h t ≡ false)
    → new.selected ≡ old.selected → ((h : Header) → chained_for h new.pending ≡ [])
    → Tells before old → Tells (t ∷ before) new
tells_ended before t old new other ends same none tells = record {
  selected_is = same ∙ tells.selected_is ∙ sym (selection_stays before t other);
  chained_is = λ h put. run_ends h before t (ends h put) ∙ sym (none h);
}

-- a TPDU with another status than 9000 is not a piece
not_ok_no_piece : (h : Header) (t : Tpdu) → is_ok t.status ≡ false → is_piece_for h t ≡ false
not_ok_no_piece h t other = and_right _ (is_ok t.status) other

not_put_no_piece : (h : Header) (t : Tpdu) → is_put h ≡ true → is_put t.header ≡ false
    → is_piece_for h t ≡ false
not_put_no_piece h t put other = grind (arith, put, other)

other_class_no_piece : (h : Header) (t : Tpdu) → (t.header.cla == 0x10) ≡ false → is_piece_for h t
    ≡ false
other_class_no_piece h t other = grind (arith, other)

no_chain_after_refusal : (g h : Header) (status : StatusWord) (pending : Pending)
    → chained_for g (after_refusal h status pending) ≡ []
no_chain_after_refusal g h status pending =
    after_refusal_holds (λ p. chained_for g p ≡ []) h status pending refl (λ left e. refl)

no_chain_in_rest : (g : Header) (left : List ℕ) → chained_for g (pending_of left) ≡ []
no_chain_in_rest g [] = refl
no_chain_in_rest g (b ∷ left) = refl

sending_is_no_select : (h : Header) → is_get h || is_get_response h ≡ true → is_select h ≡ false
sending_is_no_select h ins =
    ne_eqb h.ins 0xA4 (λ e. other_ins is_sending h.ins 0xA4 refl (eq-eqb h.ins 0xA4 e) ins)

sending_is_no_put : (h : Header) → is_get h || is_get_response h ≡ true → is_put h ≡ false
sending_is_no_put h ins =
    ne_eqb h.ins 0xDA (λ e. other_ins is_sending h.ins 0xDA refl (eq-eqb h.ins 0xDA e) ins)

put_is_no_select : (h : Header) → is_put h ≡ true → is_select h ≡ false
put_is_no_select h ins = rw (eqb-true h.ins 0xDA ins) refl

-- a chain that a header does not break is the one for its P1-P2
chained_where : (pending : Pending) (h g : Header) → breaks_chain pending h ≡ false → h.p1 ≡ g.p1
    → h.p2 ≡ g.p2 → chained_for g pending ≡ chained pending
chained_where NothingPending h g goes_on first second = refl
chained_where (ChainPending p1 p2 bytes) h g goes_on first second =
    let own = is_of_its_chain p1 p2 bytes h goes_on in
    let same_first : (p1 == g.p1) ≡ true = eq-eqb p1 g.p1 (sym own.2 ∙ first) in
    let same_second : (p2 == g.p2) ≡ true = eq-eqb p2 g.p2 (sym own.3 ∙ second) in
    rw (same_first, same_second) refl
chained_where (ResponsePending left) h g goes_on first second = refl

-- a piece continues the run of its header, and breaks the runs of all others
piece_is_kept : (before : List Tpdu) (t : Tpdu) (g : Header) (pending : Pending) (bytes : List ℕ)
    → is_put g ≡ true → t.header.cla ≡ 0x10 → is_put t.header ≡ true
    → t.status ≡ ok → pending ≡ ChainPending t.header.p1 t.header.p2 (bytes ++ t.sent)
    → (t.header.p1 ≡ g.p1 → t.header.p2 ≡ g.p2 → run_before g before ≡ bytes)
    → run_before g (t ∷ before) ≡ chained_for g pending
piece_is_kept before t g pending bytes put cla ins status is run =
    split (t.header.p1 == g.p1) (t.header.p2 == g.p2) refl refl
  where
    known : (a b : Bool) → (t.header.p1 == g.p1) ≡ a → (t.header.p2 == g.p2) ≡ b → is_piece_for g t
        ≡ (a && b)
    known true true first second =
        rw (cla, eqb-true t.header.ins 0xDA ins, eqb-true g.ins 0xDA put, first, second, status)
        refl
    known true false first second = and_left _ (is_ok t.status)
        (and_right _ (t.header.p2 == g.p2) second)
    known false b first second = and_left _ (is_ok t.status)
        (and_left _ (t.header.p2 == g.p2)
        (and_right ((t.header.cla == 0x10) && (t.header.ins == g.ins))
        (t.header.p1 == g.p1) first))

    split : (a b : Bool) → (t.header.p1 == g.p1) ≡ a → (t.header.p2 == g.p2) ≡ b
        → run_before g (t ∷ before) ≡ chained_for g pending
    split true true first second =
        run_goes_on g before t (known true true first second)
        ∙ ap (λ bs. bs ++ t.sent)
        (run (eqb-true t.header.p1 g.p1 first) (eqb-true t.header.p2 g.p2 second))
        ∙ rw (is, first, second) refl
    split true false first second = run_ends g before t (known true false first second)
        ∙ rw (is, first, second) refl
    split false b first second = run_ends g before t (known false b first second)
        ∙ rw (is, first) refl

tells_on : (before : List Tpdu) (old new : CardState) (cut : ℕ) (t : Tpdu) → Does old cut t new
    → Tells before old → Tells (t ∷ before) new
tells_on before old new cut t (refuses h p3 status e) tells =
    let no = is_refusing old h p3 status e in
    tells_ended before t old new (and_right (is_select h) (status.0 == 0x61) no.not_more)
    (λ g put. not_ok_no_piece g t (and_left (status.0 == 0x90) (status.1 == 0x00) no.not_ok))
    refl (λ g. no_chain_after_refusal g h status old.pending) tells
tells_on before old new cut t (selects_application h aid e ins held) tells = record {
  selected_is = sym (selection_moves before t (and_from (is_select h) true ins refl));
  chained_is = λ g put. run_ends g before t (not_ok_no_piece g t refl);
}
tells_on before old new cut t (misses_application h aid e ins none) tells =
    tells_ended before t old new (and_right (is_select h) false refl)
    (λ g put. not_ok_no_piece g t refl) refl (λ g. refl) tells
tells_on before old new cut t (sends h p3 e ins) tells =
    tells_ended before t old new (and_left (is_select h) _ (sending_is_no_select h ins))
    (λ g put. not_put_no_piece g t put (sending_is_no_put h ins)) refl
    (λ g. no_chain_in_rest g (drop (count p3) (to_send old h))) tells
tells_on before old new cut t (chains h bytes e ins cla) tells = record {
  selected_is = tells.selected_is
      ∙ sym (selection_stays before t (and_left (is_select h) false (put_is_no_select h ins)));
  chained_is = λ g put. piece_is_kept before t g
      (ChainPending h.p1 h.p2 (chained old.pending ++ bytes)) (chained old.pending) put cla ins refl
      refl
      (λ first second. tells.chained_is g put ∙ chained_where old.pending h g
      (none_holds old h (length bytes) OtherThanItsChain e) first second);
}
tells_on before old new cut t (puts_value h bytes tag answer next e ins cla named put) tells =
    tells_ended before t old new (and_left (is_select h) _ (put_is_no_select h ins))
    (λ g is. other_class_no_piece g t (rw cla refl))
    (put_keeps_selection old next tag (chained old.pending ++ bytes) answer put) (λ g. refl) tells

-- a TPDU that shows no put leaves the tables unchanged
shows_none : (before : List Tpdu) (t : Tpdu) (applications : List Application) → is_stored t ≡ false
    → applications ≡ with_puts (shown_by before t) applications
shows_none before t applications other = rw other refl

tables_on : (before : List Tpdu) (old new : CardState) (cut : ℕ) (t : Tpdu) → Does old cut t new
    → Tells before old
    → new.applications ≡ with_puts (shown_by before t) old.applications
tables_on before old new cut t (refuses h p3 status e) tells =
    shows_none before t old.applications
    (and_right _ (is_ok status)
    (and_left (status.0 == 0x90) (status.1 == 0x00) (is_refusing old h p3 status e).not_ok))
tables_on before old new cut t (sends h p3 e ins) tells =
    shows_none before t old.applications
    (and_left _ (is_ok t.status)
    (and_right (h.cla == 0x00) (is_put h) (sending_is_no_put h ins)))
tables_on before old new cut t (chains h bytes e ins cla) tells =
    shows_none before t old.applications (rw cla refl)
tables_on before old new cut t (puts_value h bytes tag answer next e ins cla named_by put) tells =
    elim (put_leaves old next tag (chained old.pending ++ bytes) answer put) [
      | inl (other, same) ↦ ap (λ s. s.applications) same
          ∙ shows_none before t old.applications (and_right _ (is_ok answer.status) other)
      | inr (aid, entries, fine, selected, is, status, same) ↦
          let run : run_before h before ≡ chained old.pending =
          tells.chained_is h ins ∙ chained_where old.pending h h
          (none_holds old h (length bytes) OtherThanItsChain e) refl refl in
          let under : selected_by before ≡ Some aid = sym tells.selected_is ∙ selected in
          ap (λ s. s.applications) same
          ∙ rw (cla, ins, fine, under, named tag h.p1 h.p2 named_by, run) refl
    ]
tables_on before old _ _ t _ _ = shows_none before t old.applications (and_right _ false refl)

with_more_puts : (first others : List ShownPut) (applications : List Application)
    → with_puts (first ++ others) applications ≡ with_puts others (with_puts first applications)
with_more_puts [] others applications = refl
with_more_puts (p ∷ first) others applications =
    with_more_puts first others (with_object p.aid p.tag p.value applications)

tables_after : (before : List Tpdu) (items : List Item) (old new : CardState)
    → RunsOver Does after_reset old items new → Tells before old
    → new.applications ≡ with_puts (shown_after before items) old.applications
tables_after before [] old new runs tells = ap (λ s. s.applications) runs
tables_after before (Whole d ∷ items) old new (plan, mid, under, does, rest) tells =
    let t : Tpdu = tpdu_of d in
    tables_after (t ∷ before) items mid new rest (tells_on before old mid plan.cut t does tells)
    ∙ ap (with_puts (shown_after (t ∷ before) items))
    (tables_on before old mid plan.cut t does tells)
    ∙ sym (with_more_puts (shown_by before t) (shown_after (t ∷ before) items) old.applications)
tables_after before (Cut_off part ∷ items) old new runs tells =
    tables_after [] items (after_reset old) new runs.1
    (record { selected_is = refl; chained_is = λ g put. refl })

-- From a state with nothing selected and nothing pending, a history leads to the first tables with
-- the puts that it shows.
pub tables_are_shown : (first last : CardState) (items : List Item) → first.selected ≡ None
    → first.pending ≡ NothingPending
    → RunsOver Does after_reset first items last → last.applications
    ≡ with_puts (shown_puts items) first.applications
tables_are_shown first last items none nothing runs =
    tables_after [] items first last runs
    (record { selected_is = none; chained_is = λ g put. sym (ap (chained_for g) nothing) })
