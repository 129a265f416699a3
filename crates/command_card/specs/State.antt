-- The state of the card: the application's, and the response that is pending.
use Rattle.std.specs.Prelude.{ℕ, ◌%◌, suc, min, List, [], ◌∷◌, length, take, drop, Option, Some, None, Bool, ◌==◌, ◌&&◌, nat_lt, if◌then◌else◌}
use Rattle.apdu_core.specs.declared.header.Header.{Header}
use Rattle.apdu_core.specs.StatusWord.{StatusWord}

-- What is pending: nothing; bytes for GET RESPONSE, after 61XX; or the whole response, after 6CXX,
-- for the same header again. The status is the application's, and follows the last byte.
pub data Left : Type 0 where
  Nothing_left : Left
  For_fetch : (bytes : List ℕ) (status : StatusWord) → Left
  For_repeat : (header : Header) (bytes : List ℕ) (status : StatusWord) → Left

pub record CardState (S : Type 0) : Type 0 where
  pub app : S
  pub left : Left

-- INS of GET RESPONSE (ISO/IEC 7816-4, GET RESPONSE); CLA, P1 and P2 may be any (profile)
abbrev pub is_fetch : Header → Bool
is_fetch h = h.ins == 0xC0

abbrev pub same_header : Header → Header → Bool
same_header g h = (g.cla == h.cla) && (g.ins == h.ins) && (g.p1 == h.p1) && (g.p2 == h.p2)

-- bytes that are handed over, and the status after the last of them
pub record Hand : Type 0 where
  pub bytes : List ℕ
  pub status : StatusWord

-- The pending response, if this header asks for it: a GET RESPONSE, or the same header with P3 as
-- 6CXX said.
abbrev pub pending_for : Left → Header → ℕ → Option Hand
pending_for Nothing_left h p3 = None
pending_for (For_fetch bytes status) h p3 =
    if is_fetch h then Some (record { bytes = bytes; status = status }) else None
pending_for (For_repeat g bytes status) h p3 =
    if same_header g h && (length bytes == p3)
    then Some (record { bytes = bytes; status = status }) else None

-- what an answer brings: data, status, and what is pending afterwards
pub record Outcome : Type 0 where
  pub received : List ℕ
  pub status : StatusWord
  pub left : Left

-- 61XX announces the bytes that are left, at most the cut; the application's status follows the
-- last byte
abbrev pub announcing : List ℕ → StatusWord → ℕ → StatusWord
announcing [] status cut = status
announcing (b ∷ left) status cut = (0x61, min (suc (length left)) cut % 256)

abbrev pub fetch_left : List ℕ → StatusWord → Left
fetch_left [] status = Nothing_left
fetch_left (b ∷ left) status = For_fetch (b ∷ left) status

-- no data move, and nothing is pending
abbrev pub refusing : StatusWord → Outcome
refusing status = record { received = []; status = status; left = Nothing_left }

-- after data to the card
abbrev pub taken : List ℕ → StatusWord → ℕ → Outcome
taken response status cut = record {
  received = [];
  status = announcing response status cut;
  left = fetch_left response status;
}

-- `n` bytes are asked for. An empty response is its status alone. If there are fewer than `n`, 6CXX
-- says how many, and `kept` is pending.
abbrev pub handed : Left → List ℕ → StatusWord → ℕ → ℕ → Outcome
handed kept [] status n cut = refusing status
handed kept (b ∷ bytes) status n cut =
    if nat_lt (length (b ∷ bytes)) n
    then record { received = []; status = (0x6C, length (b ∷ bytes)); left = kept }
    else record {
      received = take n (b ∷ bytes);
      status = announcing (drop n (b ∷ bytes)) status cut;
      left = fetch_left (drop n (b ∷ bytes)) status;
    }
