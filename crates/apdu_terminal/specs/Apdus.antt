-- The pairs of command and response of one exchange, and the data that they bring (ISO/IEC 7816-4,
-- 5.1 and GET RESPONSE). The reader has a card at T=1 or without contacts, or fetches by itself.
-- When a terminal sends another command is this project's profile.
use Rattle.std.specs.Prelude.{◌≡◌, ℕ, ◌+◌, ◌≤◌, ◌<◌, List, [], ◌∷◌, ◌++◌, length, Option, Some, None, Bool, true, false}
use Rattle.std.specs.List.{flat_map}
use Rattle.apdu_core.specs.declared.header.Header.{Header}
use Rattle.apdu_core.specs.StatusWord.{StatusWord}
use Rattle.apdu_core.specs.CommandBytes.{Command}
use Rattle.t0_core.specs.declared.data_sent.DataSent.TheVariants.{NotKnown}
use Rattle.exchange_core.specs.declared.wanted.Wanted.{Wanted}
use Rattle.exchange_core.specs.declared.attempt.Attempt.{Attempt}
use Rattle.exchange_core.specs.declared.attempt.Next.{Next}
use Rattle.exchange_core.specs.declared.attempt.Next.TheVariants as next
use Rattle.exchange_core.specs.Attempts.{following}
use Rattle.exchange_core.specs.Gathered.{wanted_by, less}

-- a command that was sent, and its response
pub record Pair : Type 0 where
  pub command : Command
  pub content : List ℕ
  pub status : StatusWord

-- The place of an exchange between two pairs: that of the next command, its data and Le, how much
-- is still wanted, and how many bytes were received.
pub record Place : Type 0 where
  pub attempt : Attempt
  pub content : List ℕ
  pub le : Option ℕ
  pub left : Wanted
  pub gathered : ℕ

-- the next command
abbrev pub command_at : Place → Command
command_at at = record { header = at.attempt.header; content = at.content; le = at.le }

-- no data and a count: case 2
abbrev pub is_case_2 : List ℕ → Option ℕ → Bool
is_case_2 [] None = false
is_case_2 [] (Some n) = true
is_case_2 (b ∷ bs) le = false

-- before the first command
abbrev pub first_place : Command → Wanted → Place
first_place c wanted = record {
  attempt = record {
    header = c.header;
    asks = is_case_2 c.content c.le;
    fetches = false;
    repeats = false;
    before = 0;
    number = 1;
    sent = NotKnown;
  };
  content = c.content;
  le = c.le;
  left = wanted;
  gathered = 0;
}

-- a command with this header that asks for `n` bytes
abbrev pub asking : Header → ℕ → Command
asking header n = record { header = header; content = []; le = Some n }

-- how many bytes a response may bring: Le, none without Le
abbrev pub may_bring : Option ℕ → ℕ
may_bring None = 0
may_bring (Some n) = n

-- what follows a response
pub data Follow : Type 0 where
  Goes : (next : Place) → Follow
  Stalls : Follow
  Ends : Follow

-- after `came` bytes, a command that asks for `n`
abbrev pub asked : Place → ℕ → Attempt → ℕ → Place
asked at came a n = record {
  attempt = a;
  content = [];
  le = Some n;
  left = less at.left came;
  gathered = at.gathered + came;
}

abbrev pub leads : Place → ℕ → Next → Follow
leads at came (next.Asks a n) = Goes (asked at came a n)
leads at came next.Stalls = Stalls
leads at came next.Ends = Ends

-- What follows a response with `came` bytes: by the rule of TPDUs, for commands.
abbrev pub follow : Place → ℕ → StatusWord → Follow
follow at came status =
    leads at came (following at.attempt (at.gathered + came) (less at.left came) status)

-- a pair of the next command: its response has no more bytes than the command asks for
pub record Suits (at : Place) (p : Pair) : Type 0 where
  pub is_due : p.command ≡ command_at at
  pub asked_for : length p.content ≤ may_bring at.le

-- pairs in turn, which lead from place to place
abbrev pub GoesThrough : Place → List Pair → Place → Type 0
GoesThrough at [] last = last ≡ at
GoesThrough at (p ∷ pairs) last = (next : Place) × Suits at p
    × (follow at (length p.content) p.status ≡ Goes next) × GoesThrough next pairs last

-- all data of the responses
abbrev pub all_content : List Pair → List ℕ
all_content pairs = flat_map (λ p. p.content) pairs

-- The pairs of a whole exchange that begins with this command and wants this much. Nothing follows
-- the last pair, which gives the status.
pub record Brings (c : Command) (wanted : Wanted) (pairs : List Pair) (gathered : List ℕ)
    (status : StatusWord) : Type 0 where
  pub before : List Pair
  pub last : Pair
  pub at : Place
  pub pairs_are : pairs ≡ before ++ last ∷ []
  pub through : GoesThrough (first_place c wanted) before at
  pub suits : Suits at last
  pub ends : follow at (length last.content) last.status ≡ Ends
  pub status_is : status ≡ last.status
  pub gathered_is : gathered ≡ all_content pairs

-- The pairs of one that stalls: the last is a fetch that brought no data, and announces more.
pub record StallsAt (c : Command) (wanted : Wanted) (pairs : List Pair) : Type 0 where
  pub before : List Pair
  pub last : Pair
  pub at : Place
  pub pairs_are : pairs ≡ before ++ last ∷ []
  pub through : GoesThrough (first_place c wanted) before at
  pub suits : Suits at last
  pub stalls : follow at (length last.content) last.status ≡ Stalls

-- The pairs of one whose room is too small: with the last, the data exceed it.
pub record IsTooLong (c : Command) (wanted : Wanted) (pairs : List Pair) (limit : ℕ) : Type 0 where
  pub before : List Pair
  pub last : Pair
  pub at : Place
  pub pairs_are : pairs ≡ before ++ last ∷ []
  pub through : GoesThrough (first_place c wanted) before at
  pub suits : Suits at last
  pub long : limit < length (all_content pairs)

-- What a terminal gathers: for Le = 00 everything, even above 256 bytes (this project's profile).
abbrev pub GathersApdus : Command → List Pair → List ℕ → StatusWord → Type 0
GathersApdus c pairs gathered status = Brings c (wanted_by c.le) pairs gathered status
