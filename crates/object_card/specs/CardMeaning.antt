-- What one TPDU does to a card (ISO/IEC 7816-4, SELECT, GET DATA, PUT DATA and GET RESPONSE). That
-- 6CXX comes before any data, and 61XX after a part of them, is this project's profile.
use Rattle.std.specs.Prelude.{◌≡◌, ℕ, suc, ◌%◌, min, List, [], ◌∷◌, ◌++◌, length, take, drop, Some, None, true, ◌==◌, ◌&&◌, ◌||◌, is_some, if◌then◌else◌}
use Rattle.apdu_core.specs.declared.header.Header.{Header}
use Rattle.apdu_core.specs.StatusWord.{StatusWord, ok, count}
use Rattle.tlv_core.specs.Address.{NamesTag}
use Rattle.t0_core.specs.Meaning.{Tpdu}
use Rattle.object_card.specs.Tables.{entries_in}
use Rattle.object_card.specs.State.{CardState, Pending, NothingPending, ChainPending, ResponsePending, chained, pending_of, with_pending, with_selected}
use Rattle.apdu_core.specs.Shared.{Reply}
use Rattle.object_card.specs.OneStep.{Put, Answers, control_information}
use Rattle.object_card.specs.Refusals.{is_select, is_get, is_put, is_get_response, to_send, refusal}

-- 61XX announces the number of bytes left, at most the cut. If nothing is left, 9000 ends the
-- command.
abbrev pub announcing : List ℕ → ℕ → StatusWord
announcing [] cut = ok
announcing (b ∷ left) cut = (0x61, min (suc (length left)) cut % 256)

-- What is pending after a refusal: the response, unchanged, after 6CXX to a GET RESPONSE; otherwise
-- nothing.
abbrev pub after_refusal : Header → StatusWord → Pending → Pending
after_refusal h status NothingPending = NothingPending
after_refusal h status (ChainPending p1 p2 bytes) = NothingPending
after_refusal h status (ResponsePending left) =
    if is_get_response h && (status.0 == 0x6C) then ResponsePending left else NothingPending

-- What one TPDU does, under this cut. All P3 bytes of a SELECT or a PUT DATA move, unless its
-- header is refused. A GET DATA or a GET RESPONSE brings as many as P3 states. The value of a PUT
-- DATA with CLA 00 is the bytes of the chain followed by its own; the chain has then ended.
pub data Does : CardState → ℕ → Tpdu → CardState → Type 0 where
  refuses : {old : CardState} {cut : ℕ} (h : Header) (p3 : ℕ) (status : StatusWord)
      → refusal old h p3 ≡ Some status
      → Does old cut (record { header = h; p3 = p3; sent = []; received = []; status = status })
      (with_pending old (after_refusal h status old.pending))
  selects_application : {old : CardState} {cut : ℕ} (h : Header) (aid : List ℕ)
      → refusal old h (length aid) ≡ None → is_select h ≡ true
      → is_some (entries_in aid old.applications) ≡ true
      → Does old cut (record {
        header = h;
        p3 = length aid;
        sent = aid;
        received = [];
        status = announcing (control_information aid) cut;
      })
      (with_pending (with_selected old aid) (ResponsePending (control_information aid)))
  misses_application : {old : CardState} {cut : ℕ} (h : Header) (aid : List ℕ)
      → refusal old h (length aid) ≡ None → is_select h ≡ true
      → entries_in aid old.applications ≡ None
      → Does old cut (record {
        header = h;
        p3 = length aid;
        sent = aid;
        received = [];
        status = (0x6A, 0x82);
      })
      (with_pending old NothingPending)
  sends : {old : CardState} {cut : ℕ} (h : Header) (p3 : ℕ) → refusal old h p3 ≡ None
      → is_get h || is_get_response h ≡ true
      → Does old cut (record {
        header = h;
        p3 = p3;
        sent = [];
        received = take (count p3) (to_send old h);
        status = announcing (drop (count p3) (to_send old h)) cut;
      }) (with_pending old (pending_of (drop (count p3) (to_send old h))))
  chains : {old : CardState} {cut : ℕ} (h : Header) (bytes : List ℕ)
      → refusal old h (length bytes) ≡ None → is_put h ≡ true → h.cla ≡ 0x10
      → Does old cut (record {
        header = h;
        p3 = length bytes;
        sent = bytes;
        received = [];
        status = ok;
      })
      (with_pending old (ChainPending h.p1 h.p2 (chained old.pending ++ bytes)))
  puts_value : {old : CardState} {cut : ℕ} (h : Header) (bytes tag : List ℕ) (answer : Reply)
      (new : CardState)
      → refusal old h (length bytes) ≡ None → is_put h ≡ true → h.cla ≡ 0x00
      → NamesTag tag h.p1 h.p2
      → Answers old (Put tag (chained old.pending ++ bytes)) answer new
      → Does old cut (record {
        header = h;
        p3 = length bytes;
        sent = bytes;
        received = [];
        status = answer.status;
      })
      (with_pending new NothingPending)
