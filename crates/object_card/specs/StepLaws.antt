-- What each command does to a card, by its header.
use Rattle.std.proofs.Common.{◌≡◌, ℕ, List, [], ◌++◌, length, take, drop, Some, None, true, false, refl, sym, ap, ◌∙◌}
use Rattle.std.specs.Prelude.{◌==◌, ◌||◌, is_some, Bool}
use Rattle.std.proofs.lemmas.Bool.{true≢false, eqb-true}
use Rattle.apdu_core.specs.StatusWord.{StatusWord, ok, count}
use Rattle.t0_core.specs.Meaning.{Tpdu}
use Rattle.tlv_core.specs.Address.{NamesTag}
use Rattle.object_card.specs.Tables.{entries_in}
use Rattle.object_card.specs.State.{CardState, NothingPending, ChainPending, ResponsePending, chained, pending_of, with_pending, with_selected}
use Rattle.apdu_core.specs.Shared.{Reply}
use Rattle.object_card.specs.OneStep.{Put, Answers, control_information}
use Rattle.object_card.specs.Refusals.{is_select, is_get, is_put, is_get_response, refusal, to_send}
use Rattle.object_card.specs.CardMeaning.{Does, refuses, selects_application, misses_application, sends, chains, puts_value, after_refusal, announcing}

-- the TPDU of a refused header
pub record RefusedStep (old : CardState) (t : Tpdu) (new : CardState) (status : StatusWord) : Type 0
  where
    pub none_sent : t.sent ≡ []
    pub none_received : t.received ≡ []
    pub status_is : t.status ≡ status
    pub new_is : new ≡ with_pending old (after_refusal t.header status old.pending)

pub refused_step : (old new : CardState) (cut : ℕ) (t : Tpdu) (status : StatusWord)
    → Does old cut t new → refusal old t.header t.p3 ≡ Some status
    → RefusedStep old t new status
refused_step old new cut t status (refuses h p3 other e) refused =
    let same : other ≡ status = cc in
    record {
      none_sent = refl;
      none_received = refl;
      status_is = same;
      new_is = ap (λ s. with_pending old (after_refusal h s old.pending)) same;
    }
refused_step old new cut t status (selects_application h aid e ins held) refused = absurd (cc)
refused_step old new cut t status (misses_application h aid e ins none) refused = absurd (cc)
refused_step old new cut t status (sends h p3 e ins) refused = absurd (cc)
refused_step old new cut t status (chains h bytes e ins cla) refused = absurd (cc)
refused_step old new cut t status (puts_value h bytes tag answer next e ins cla named_by put)
    refused = absurd (cc)

-- the TPDU of a SELECT
pub data SelectStep (old : CardState) (cut : ℕ) (t : Tpdu) (new : CardState) : Type 0 where
  select_refused : refusal old t.header t.p3 ≡ Some t.status → t.sent ≡ [] → t.received ≡ []
      → new ≡ with_pending old (after_refusal t.header t.status old.pending)
      → SelectStep old cut t new
  is_selected : refusal old t.header t.p3 ≡ None → t.p3 ≡ length t.sent
      → is_some (entries_in t.sent old.applications) ≡ true → t.received ≡ []
      → t.status ≡ announcing (control_information t.sent) cut
      → new ≡ with_pending (with_selected old t.sent)
      (ResponsePending (control_information t.sent))
      → SelectStep old cut t new
  is_missed : refusal old t.header t.p3 ≡ None → t.p3 ≡ length t.sent
      → entries_in t.sent old.applications ≡ None → t.received ≡ []
      → t.status ≡ (0x6A, 0x82) → new ≡ with_pending old NothingPending → SelectStep old cut t new

-- an INS for which a test fails is not one for which it holds
pub other_ins : (P : ℕ → Bool) (n ins : ℕ) → P ins ≡ false → (n == ins) ≡ true → P n ≡ true → ⊥
other_ins P n ins differs is holds = true≢false (sym holds ∙ ap P (eqb-true n ins is) ∙ differs)

abbrev pub is_sending : ℕ → Bool
is_sending n = (n == 0xCA) || (n == 0xC0)

pub select_step : (old new : CardState) (cut : ℕ) (t : Tpdu) → Does old cut t new
    → is_select t.header ≡ true → SelectStep old cut t new
select_step old new cut t (refuses h p3 status e) select = select_refused e refl refl refl
select_step old new cut t (selects_application h aid e ins held) select =
    is_selected e refl held refl refl refl
select_step old new cut t (misses_application h aid e ins none) select =
    is_missed e refl none refl refl refl
select_step old new cut t (sends h p3 e ins) select =
    absurd (other_ins is_sending h.ins 0xA4 refl select ins)
select_step old new cut t (chains h bytes e ins cla) select =
    absurd (other_ins (λ n. n == 0xA4) h.ins 0xDA refl ins select)
select_step old new cut t (puts_value h bytes tag answer next e ins cla named_by put) select =
    absurd (other_ins (λ n. n == 0xA4) h.ins 0xDA refl ins select)

-- the TPDU of a PUT DATA
pub data PutStep (old : CardState) (t : Tpdu) (new : CardState) : Type 0 where
  put_refused : refusal old t.header t.p3 ≡ Some t.status
      → new ≡ with_pending old (after_refusal t.header t.status old.pending) → PutStep old t new
  is_chained : refusal old t.header t.p3 ≡ None → t.header.cla ≡ 0x10 → t.p3 ≡ length t.sent
      → t.received ≡ [] → t.status ≡ ok
      → new ≡ with_pending old
      (ChainPending t.header.p1 t.header.p2 (chained old.pending ++ t.sent)) → PutStep old t new
  is_ended : refusal old t.header t.p3 ≡ None → t.header.cla ≡ 0x00 → t.p3 ≡ length t.sent
      → t.received ≡ [] → (tag : List ℕ) (answer : Reply) (next : CardState)
      → NamesTag tag t.header.p1 t.header.p2
      → t.status ≡ answer.status → Answers old (Put tag (chained old.pending ++ t.sent)) answer next
      → new ≡ with_pending next NothingPending → PutStep old t new

pub put_step : (old new : CardState) (cut : ℕ) (t : Tpdu) → Does old cut t new
    → is_put t.header ≡ true → PutStep old t new
put_step old new cut t (refuses h p3 status e) put = put_refused e refl
put_step old new cut t (selects_application h aid e ins held) put =
    absurd (other_ins (λ n. n == 0xDA) h.ins 0xA4 refl ins put)
put_step old new cut t (misses_application h aid e ins none) put =
    absurd (other_ins (λ n. n == 0xDA) h.ins 0xA4 refl ins put)
put_step old new cut t (sends h p3 e ins) put =
    absurd (other_ins is_sending h.ins 0xDA refl put ins)
put_step old new cut t (chains h bytes e ins cla) put = is_chained e cla refl refl refl refl
put_step old new cut t (puts_value h bytes tag answer next e ins cla named_by is) put =
    is_ended e cla refl refl tag answer next named_by refl is refl

-- the TPDU of a GET DATA or a GET RESPONSE
pub data SendStep (old : CardState) (cut : ℕ) (t : Tpdu) (new : CardState) : Type 0 where
  send_refused : refusal old t.header t.p3 ≡ Some t.status → t.received ≡ []
      → new ≡ with_pending old (after_refusal t.header t.status old.pending)
      → SendStep old cut t new
  is_sent : refusal old t.header t.p3 ≡ None → t.received ≡ take (count t.p3) (to_send old t.header)
      → t.status ≡ announcing (drop (count t.p3) (to_send old t.header)) cut
      → new ≡ with_pending old (pending_of (drop (count t.p3) (to_send old t.header)))
      → SendStep old cut t new

pub send_step : (old new : CardState) (cut : ℕ) (t : Tpdu) → Does old cut t new → is_get t.header
    || is_get_response t.header ≡ true → SendStep old cut t new
send_step old new cut t (refuses h p3 status e) sending = send_refused e refl refl
send_step old new cut t (selects_application h aid e ins held) sending =
    absurd (other_ins is_sending h.ins 0xA4 refl ins sending)
send_step old new cut t (misses_application h aid e ins none) sending =
    absurd (other_ins is_sending h.ins 0xA4 refl ins sending)
send_step old new cut t (sends h p3 e ins) sending = is_sent e refl refl refl
send_step old new cut t (chains h bytes e ins cla) sending =
    absurd (other_ins is_sending h.ins 0xDA refl ins sending)
send_step old new cut t (puts_value h bytes tag answer next e ins cla named put) sending =
    absurd (other_ins is_sending h.ins 0xDA refl ins sending)
