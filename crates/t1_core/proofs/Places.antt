-- The places of both ends between two exchanges, and the step of an exchange from each.
use Rattle.std.proofs.Common.{◌≡◌, refl, sym, ap, ◌∙◌, ℕ, zero, suc, Bool, true, false, List, [], ◌∷◌, ◌++◌, length, ◌+◌, nat_lt, take, drop, Option, Some, None, append_assoc, cond}
use Rattle.std.proofs.lemmas.Bool.{eq-eqb}
use Rattle.std.proofs.lemmas.List.{take-append-drop}
use Rattle.t1_core.specs.declared.applet.Requests.{Requests}
use Rattle.t1_core.specs.declared.block.Control.TheVariants.{Ifs, Wtx}
use Rattle.t1_core.specs.declared.line.Fate.{Fate}
use Rattle.t1_core.specs.declared.line.Fate.TheVariants.{Delivers, Damages, Loses}
use Rattle.t1_core.specs.declared.pcb.BlockReason.{BlockReason}
use Rattle.t1_core.specs.declared.pcb.BlockReason.TheVariants.{NoError, Edc, Other}
use Rattle.t1_core.specs.declared.settings.Settings.{Settings}
use Rattle.t1_core.specs.declared.terminal.Cause.{Cause}
use Rattle.t1_core.specs.declared.terminal.Cause.TheVariants.{TriesSpent, ExtensionsSpent, TooLong}
use Rattle.t1_core.specs.declared.terminal.Out.{Out}
use Rattle.t1_core.specs.declared.terminal.Out.TheVariants.{Own, Asks, Grants}
use Rattle.t1_core.specs.declared.terminal.Phase.{Phase}
use Rattle.t1_core.specs.declared.terminal.Phase.TheVariants.{Opening, Sending, Receiving, Over, GivenUp}
use Rattle.t1_core.specs.Block.{Block, I, R, Request, Response, Arrival, Came, Bad, other, more, is_size}
use Rattle.t1_core.specs.CardSide.{card_takes, Card, Meaning, Turn, answers_with, card_damaged, request_of, carries_out, turn}
use Rattle.t1_core.specs.TerminalSide.{Terminal, sends, takes, longest}
use Rattle.t1_core.specs.World.{World, arrives, settled, next_command, exchange, exchanged}
use Rattle.t1_core.proofs.Bits.{same_self, same_other, same_other_2, other_other}

-- the values of both ends that most exchanges keep
pub record Kept : Type 0 where
  pub settings : Settings
  pub todo : List (List ℕ)
  pub answers : List (List ℕ)
  pub done : List (List ℕ)  -- commands carried out since the start
  pub field : List ℕ  -- the terminal's field
  pub size : ℕ  -- IFSC
  pub number : Bool
  pub due : Bool
  pub last : List ℕ  -- the card's field
  pub ifsd : ℕ
  pub multiple : ℕ

-- the progress of a command
pub data Spot : Type 0 where
  -- the terminal sends S(IFS request), before a command
  Opens : (rest : List ℕ) → (asks : Bool) → Spot
  -- the card has not received the current field; the terminal sends it, or asks
  Behind : (asks : Bool) → (collected rest : List ℕ) → (answering : Bool) → Spot
  -- the card has received it, and more follows
  Taken : (collected : List ℕ) → (b : ℕ) → (bytes : List ℕ) → Spot
  -- the card has carried out the command; S(WTX request) is in progress, and these requests follow
  Waits : (rest : List ℕ) → (n : ℕ) → (size : Option ℕ) → (granted : Bool) → Spot
  -- S(IFS request) of the card is in progress
  Grows : (rest : List ℕ) → (size : ℕ) → (granted : Bool) → Spot
  -- the card has not sent the next field of the response
  Between : (got : List ℕ) → (b : ℕ) → (bytes : List ℕ) → Spot
  -- the card has sent it; the first one also acknowledges the command
  Sent : (first : Bool) → (got rest : List ℕ) → Spot

pub data Place : Type 0 where
  -- `why` is the error of the terminal's R-block
  Going : (k : Kept) → (s : Spot) → (why : BlockReason) → (tries extensions : ℕ) → Place
  Given_up : (w : World) → (cause : Cause) → Place
  Finished : (w : World) → Place

abbrev pub out_of : BlockReason → Bool → Out
out_of why true = Asks why
out_of why false = Own

abbrev pub out_at : Kept → Spot → BlockReason → Out
out_at k (Opens rest asks) why = out_of why asks
out_at k (Behind asks collected rest answering) why = out_of why asks
out_at k (Waits rest n size true) why = Grants (Wtx k.multiple)
out_at k (Grows rest size true) why = Grants (Ifs size)
out_at k _ why = Asks why

-- the spot after the terminal has asked for the card's block again
abbrev pub asking : Spot → Spot
asking (Opens rest asks) = Opens rest true
asking (Behind asks collected rest answering) = Behind true collected rest answering
asking (Waits rest n size granted) = Waits rest n size false
asking (Grows rest size granted) = Grows rest size false
asking s = s

-- the response in progress
abbrev pub response_in : Kept → Spot → List ℕ
response_in k (Waits rest n size granted) = k.last ++ rest
response_in k (Grows rest size granted) = k.last ++ rest
response_in k (Between got b bytes) = got ++ (b ∷ bytes)
response_in k (Sent first got rest) = got ++ (k.last ++ rest)
response_in k _ = []

-- of the terminal: the rest of the command, the response so far, whether it is opened, the phase
abbrev pub terminal_in : Spot → List ℕ × List ℕ × Bool × Phase
terminal_in (Opens rest asks) = (rest, [], false, Opening)
terminal_in (Behind asks collected rest answering) = (rest, [], true, Sending)
terminal_in (Taken collected b bytes) = (b ∷ bytes, [], true, Sending)
terminal_in (Between got b bytes) = ([], got, true, Receiving)
terminal_in (Sent first got rest) = ([], got, true, cond first Sending Receiving)
terminal_in _ = ([], [], true, Sending)

abbrev pub terminal_at : Out → Kept → Spot → (tries extensions : ℕ) → Terminal
terminal_at out k s tries extensions =
    record {
      settings = k.settings;
      field = k.field;
      rest = (terminal_in s).0;
      size = k.size;
      got = (terminal_in s).1;
      number = k.number;
      due = k.due;
      opened = (terminal_in s).2;
      phase = (terminal_in s).3;
      out = out;
      tries = tries;
      extensions = extensions;
    }

abbrev pub requests : ℕ → ℕ → Option ℕ → Requests
requests extensions multiple size =
    record { extensions = extensions; multiple = multiple; size = size }

abbrev pub idle : Kept → Requests
idle k = requests 0 k.multiple None

abbrev pub with_phase : Phase → World → World
with_phase phase w = record w { terminal = record w.terminal { phase = phase } }

-- one of `n` tries or extensions is used; without one the terminal gives up
abbrev pub uses : Cause → ℕ → World → (ℕ → Place) → Place
uses cause zero w again = Given_up w cause
uses cause (suc n) w again = again n

-- after an answer the next command begins
abbrev pub proceeds : Kept → List (List ℕ) → World → Place
proceeds k [] w = Finished (record w { todo = [] })
proceeds k (c ∷ cs) w =
    Going (record k { todo = cs; field = take k.size c }) (Behind false [] (drop k.size c) true)
    NoError k.settings.tries k.settings.extensions

abbrev pub starts : List ℕ → ℕ → Option ℕ → Spot
starts rest (suc n) size = Waits rest n size false
starts rest zero (Some size) = Grows rest size false
starts rest zero None = Sent true [] rest

-- with the card's field the response exceeds the limit
abbrev pub is_long : Kept → List ℕ → Bool
is_long k got = nat_lt k.settings.limit (length got + length k.last)

-- N(S) of the terminal's next I-block, after it has taken a field of the response
abbrev pub numbered : Bool → Kept → Kept
numbered first k = record k { number = cond first (other k.number) k.number }

-- the terminal repeats a field, which is cut again if it is too long
abbrev pub shorter : Kept → Kept
shorter k = record k { field = take k.size k.field }

abbrev pub and_rest : Kept → List ℕ → List ℕ
and_rest k rest = drop k.size k.field ++ rest

-- an end cuts a field again: both parts and the rest are the same bytes
pub cut_again : (size : ℕ) (field rest : List ℕ)
    → take size field ++ (drop size field ++ rest) ≡ field ++ rest
cut_again size field rest =
    sym (append_assoc (take size field) (drop size field) rest)
    ∙ ap (λ bytes. bytes ++ rest) (take-append-drop size field)

-- the terminal begins to send a command, whose first field it cuts
abbrev pub begins : Kept → (rest : List ℕ) → (extensions : ℕ) → Place
begins k rest extensions =
    Going (record k { field = take k.size (k.field ++ rest) })
    (Behind false [] (drop k.size (k.field ++ rest)) false) NoError k.settings.tries extensions

-- a spot after the card has taken the terminal's block
abbrev pub IsHeard : Kept → Spot → Type 0
IsHeard k (Between got b bytes) = ⊥
IsHeard k _ = Unit {0}

starts_heard : (k : Kept) (rest : List ℕ) (n : ℕ) (size : Option ℕ)
    → IsHeard k (starts rest n size)
starts_heard k rest zero (Some size) = tt
starts_heard k rest _ _ = tt

-- of the card: the collected bytes of the command, the rest of the response, N(S) of the next
-- I-block of each end, whether it is answering, and its requests
abbrev pub card_in : Kept → Spot → List ℕ × List ℕ × Bool × Bool × Bool × Requests
card_in k (Opens rest asks) = ([], [], k.number, k.due, false, idle k)
card_in k (Behind asks collected rest answering) =
    (collected, [], k.number, k.due, answering, idle k)
card_in k (Taken collected b bytes) = (collected, [], other k.number, k.due, false, idle k)
card_in k (Waits rest n size granted) =
    ([], rest, other k.number, k.due, false, requests (suc n) k.multiple size)
card_in k (Grows rest size granted) =
    ([], rest, other k.number, k.due, false, requests 0 k.multiple (Some size))
card_in k (Between got b bytes) = ([], b ∷ bytes, k.number, k.due, true, idle k)
card_in k (Sent first got rest) =
    ([], rest, cond first (other k.number) k.number, other k.due, true, idle k)

-- the terminal's block
abbrev pub sent_at : Kept → Spot → BlockReason → Block
sent_at k (Opens rest asks) why = Request (Ifs longest)
sent_at k (Behind false collected rest answering) why = I k.number (more rest) k.field
sent_at k (Waits rest n size true) why = Response (Wtx k.multiple)
sent_at k (Grows rest size true) why = Response (Ifs size)
sent_at k s why = R k.due why

pub sends_it : (k : Kept) (s : Spot) (why : BlockReason) (tries extensions : ℕ)
    → sends (terminal_at (out_at k s why) k s tries extensions) ≡ Some (sent_at k s why)
sends_it k (Opens rest true) why tries extensions = refl
sends_it k (Behind true collected rest answering) why tries extensions = refl
sends_it k (Waits rest n size true) why tries extensions = refl
sends_it k (Grows rest size true) why tries extensions = refl
sends_it k (Sent true got rest) why tries extensions = refl
sends_it k _ why tries extensions = refl

-- the card's reply to a damaged block
abbrev pub garble_at : Kept → Spot → Block
garble_at k (Waits rest n size granted) = Request (Wtx k.multiple)
garble_at k (Grows rest size granted) = Request (Ifs size)
garble_at k s = R (card_in k s).2 Edc

module _ (m : Meaning) (before : List (List ℕ)) where
  abbrev pub card_at : Kept → Spot → Card
  card_at k s =
      record {
        due = (card_in k s).2;
        next = (card_in k s).3;
        collected = (card_in k s).0;
        field = k.last;
        rest = (card_in k s).1;
        answering = (card_in k s).4;
        size = k.ifsd;
        left = (card_in k s).5;
        ran = before ++ k.done;
      }

  abbrev pub world : Kept → Terminal → Card → World
  world k t c = record { terminal = t; card = c; todo = k.todo; answers = k.answers }

  abbrev pub world_at : Out → Kept → Spot → (tries extensions : ℕ) → World
  world_at out k s tries extensions = world k (terminal_at out k s tries extensions) (card_at k s)

  abbrev pub world_of : Place → World
  world_of (Going k s why tries extensions) = world_at (out_at k s why) k s tries extensions
  world_of (Given_up w cause) = with_phase (GivenUp cause) w
  world_of (Finished w) = with_phase Over w

  -- the card's reply, after it has taken the terminal's block; an R-block has any error
  abbrev pub reply_of : BlockReason → Kept → Spot → Block
  reply_of error k (Opens rest asks) = Response (Ifs longest)
  reply_of error k (Behind asks collected rest answering) = R k.number error
  reply_of error k (Taken collected b bytes) = R (other k.number) error
  reply_of error k (Waits rest n size granted) = Request (Wtx k.multiple)
  reply_of error k (Grows rest size granted) = Request (Ifs size)
  reply_of error k (Between got b bytes) = R k.number error
  reply_of error k (Sent first got rest) = I k.due (more rest) k.last

  abbrev pub runs : Kept → List (List ℕ) → Kept
  runs k done =
      record k {
        done = done;
        last = take k.ifsd (m.does (before ++ done));
        multiple = (m.asks (before ++ done)).multiple;
      }

  -- the card takes the terminal's block
  abbrev pub heard : Kept → Spot → Kept × Spot
  heard k (Opens rest asks) = (record k { ifsd = longest }, Opens rest asks)
  heard k (Behind false collected [] answering) =
      let done : List (List ℕ) = k.done ++ (collected ++ k.field) ∷ [] in
      let asks : Requests = m.asks (before ++ done) in
      (runs k done, starts (drop k.ifsd (m.does (before ++ done))) asks.extensions asks.size)
  heard k (Behind false collected (b ∷ bytes) answering) =
      (record k { last = [] }, Taken (collected ++ k.field) b bytes)
  heard k (Waits rest n size true) = (k, starts rest n size)
  heard k (Grows rest size true) = (k, Sent true [] rest)
  heard k (Between got b bytes) =
      (record k { last = take k.ifsd (b ∷ bytes) }, Sent false got (drop k.ifsd (b ∷ bytes)))
  heard k (Sent first got rest) =
      (record k { last = take k.ifsd k.last }, Sent first got (drop k.ifsd k.last ++ rest))
  heard k s = (k, s)

  pub is_heard : (k : Kept) (s : Spot) → IsHeard (heard k s).0 (heard k s).1
  is_heard k (Behind false collected [] answering) =
      starts_heard (runs k (k.done ++ (collected ++ k.field) ∷ [])) _ _ _
  is_heard k (Behind false collected (b ∷ bytes) answering) = tt
  is_heard k (Waits rest n size true) = starts_heard k rest n size
  is_heard k (Grows rest size true) = tt
  is_heard k _ = tt

  -- the card's block does not arrive
  abbrev pub misses : BlockReason → Out → Kept → Spot → (tries extensions : ℕ) → Place
  misses why out k (Opens rest asks) zero extensions = begins k rest extensions
  misses why out k s tries extensions =
      uses TriesSpent tries (world_at out k s tries extensions)
      (λ n. Going k (asking s) why n extensions)

  -- the terminal grants the card's request
  abbrev pub grants : Out → Kept → (s granted : Spot) → (tries extensions : ℕ) → Place
  grants out k s granted tries extensions =
      uses ExtensionsSpent extensions (world_at out k s tries extensions)
      (λ n. Going k granted NoError tries n)

  -- the terminal ignores an invalid IFSC
  abbrev pub grows : Bool → Out → Kept → List ℕ → ℕ → Bool → (tries extensions : ℕ) → Place
  grows true out k rest size granted tries extensions =
      grants out (record k { size = size }) (Grows rest size granted) (Grows rest size true) tries
      extensions
  grows false out k rest size granted tries extensions =
      misses Other out k (Grows rest size granted) tries extensions

  -- the world after a field of the response, before the next command
  abbrev pub world_after : Out → Kept → (got rest : List ℕ) → (tries extensions : ℕ) → World
  world_after out k got rest tries extensions =
      world k
      (terminal_at out (record k { due = other k.due }) (Sent false got rest) tries extensions)
      (card_at k (Sent false [] rest))

  -- a field of the response arrives
  abbrev pub comes_next : Bool → Out → Kept → (got rest : List ℕ) → (tries extensions : ℕ) → Place
  comes_next true out k got rest tries extensions =
      Given_up (world_after out k got rest tries extensions) TooLong
  comes_next false out k got [] tries extensions =
      let now : Kept = record k { answers = k.answers ++ (got ++ k.last) ∷ [] } in
      proceeds (record now { due = other k.due }) k.todo
      (world_after out now (got ++ k.last) [] tries extensions)
  comes_next false out k got (b ∷ bytes) tries extensions =
      Going (record k { due = other k.due }) (Between (got ++ k.last) b bytes) NoError
      k.settings.tries extensions

  -- the card's block arrives
  abbrev pub comes : Out → Kept → Spot → (tries extensions : ℕ) → Place
  comes out k (Opens rest asks) tries extensions = begins k rest extensions
  comes out k (Behind asks collected rest answering) tries extensions =
      uses TriesSpent tries
      (world_at out (shorter k) (Behind asks collected (and_rest k rest) answering) tries
      extensions)
      (λ n. Going (shorter k) (Behind false collected (and_rest k rest) answering) NoError n
      extensions)
  comes out k (Taken collected b bytes) tries extensions =
      Going (record k { field = take k.size (b ∷ bytes); number = other k.number })
      (Behind false collected (drop k.size (b ∷ bytes)) false) NoError k.settings.tries extensions
  comes out k (Waits rest n size granted) tries extensions =
      grants out k (Waits rest n size granted) (Waits rest n size true) tries extensions
  comes out k (Grows rest size granted) tries extensions =
      grows (is_size size) out k rest size granted tries extensions
  comes out k (Between got b bytes) tries extensions =
      misses Other out k (Between got b bytes) tries extensions
  comes out k (Sent first got rest) tries extensions =
      comes_next (is_long k got) out (numbered first k) got rest tries extensions

  abbrev pub arrived : Out → Fate → Kept → Spot → (tries extensions : ℕ) → Place
  arrived out Delivers k s tries extensions = comes out k s tries extensions
  arrived out Damages k s tries extensions = misses Edc out k s tries extensions
  arrived out Loses k s tries extensions = misses Other out k s tries extensions

  -- the error of a block that brings no progress
  abbrev pub error_of : Fate → BlockReason
  error_of Damages = Edc
  error_of _ = Other

  -- The card has received a damaged block. Its R-block has no effect in the first three.
  abbrev pub garbled : Fate → Kept → Spot → BlockReason → (tries extensions : ℕ) → Place
  garbled up k (Opens rest asks) why tries extensions =
      misses (error_of up) (out_of why asks) k (Opens rest asks) tries extensions
  garbled up k (Between got b bytes) why tries extensions =
      misses (error_of up) (Asks why) k (Between got b bytes) tries extensions
  garbled up k (Sent first got rest) why tries extensions =
      misses (error_of up) (Asks why) k (Sent first got rest) tries extensions
  garbled up k s why tries extensions = arrived (out_at k s why) up k s tries extensions

  abbrev pub step : Fate → Fate → Place → Place
  step down up (Given_up w cause) = Given_up w cause
  step down up (Finished w) = Finished w
  step Delivers up (Going k s why tries extensions) =
      arrived (out_at k s why) up (heard k s).0 (heard k s).1 tries extensions
  step Damages up (Going k s why tries extensions) = garbled up k s why tries extensions
  step Loses up (Going k s why tries extensions) =
      misses Other (out_at k s why) k s tries extensions

  -- A step is one of these, so what holds of each holds of it.
  pub garbled_by : (P : Place → Type 0) (up : Fate) (k : Kept) (s : Spot) (why : BlockReason)
      (tries extensions : ℕ)
      → ((now : BlockReason) → P (misses now (out_at k s why) k s tries extensions))
      → (IsHeard k s → P (comes (out_at k s why) k s tries extensions))
      → P (garbled up k s why tries extensions)
  garbled_by P up k (Opens rest asks) why tries extensions missed came = missed (error_of up)
  garbled_by P up k (Between got b bytes) why tries extensions missed came = missed (error_of up)
  garbled_by P up k (Sent first got rest) why tries extensions missed came = missed (error_of up)
  garbled_by P Delivers k _ why tries extensions missed came = came tt
  garbled_by P Damages k _ why tries extensions missed came = missed Edc
  garbled_by P Loses k _ why tries extensions missed came = missed Other

  -- the terminal takes a block, or none

  abbrev pub took : Out → Kept → Spot → (tries extensions : ℕ) → Arrival → World
  took out k s tries extensions b =
      let w : World = world_at out k s tries extensions in
      settled (record w { terminal = takes w.terminal b })

  missed : (why : BlockReason) (out : Out) (k : Kept) (tries extensions : ℕ) (s : Spot)
      → took out k s tries extensions (Bad why) ≡ world_of (misses why out k s tries extensions)
  missed why out k zero extensions (Opens rest asks) = refl
  missed why out k zero extensions (Sent true got rest) = refl
  missed why out k zero extensions _ = refl
  missed why out k (suc n) extensions (Opens rest asks) = refl
  missed why out k (suc n) extensions (Sent true got rest) = refl
  missed why out k (suc n) extensions _ = refl

  proceeds_is : (k : Kept) (todo : List (List ℕ)) (out : Out) (got : List ℕ)
      (tries extensions : ℕ)
      → next_command todo (with_phase Over (world_after out k got [] tries extensions))
      ≡ world_of (proceeds (record k { due = other k.due }) todo
      (world_after out k got [] tries extensions))
  proceeds_is k [] out got tries extensions = refl
  proceeds_is k (c ∷ cs) out got tries extensions = refl

  grown : (out : Out) (k : Kept) (rest : List ℕ) (size : ℕ) (granted : Bool)
      (tries extensions : ℕ) (v : Bool) → is_size size ≡ v
      → took out k (Grows rest size granted) tries extensions (Came (Request (Ifs size)))
      ≡ world_of (grows v out k rest size granted tries extensions)
  grown out k rest size granted tries zero true e = rw e refl
  grown out k rest size granted tries (suc n) true e = rw e refl
  grown out k rest size granted zero extensions false e = rw e refl
  grown out k rest size granted (suc n) extensions false e = rw e refl

  next_is : (out : Out) (k : Kept) (got : List ℕ) (tries extensions : ℕ) (v first : Bool)
      (rest : List ℕ) → is_long k got ≡ v
      → took out k (Sent first got rest) tries extensions (Came (I k.due (more rest) k.last))
      ≡ world_of (comes_next v out (numbered first k) got rest tries extensions)
  next_is out k got tries extensions true true rest e = rw (same_self k.due) (rw e refl)
  next_is out k got tries extensions false true [] e =
      rw (same_self k.due) (rw e (proceeds_is (record k {
        number = other k.number;
        answers = k.answers ++ (got ++ k.last) ∷ [];
      }) k.todo out (got ++ k.last) tries extensions))
  next_is out k got tries extensions false false [] e =
      rw (same_self k.due) (rw e (proceeds_is (record k {
        answers = k.answers ++ (got ++ k.last) ∷ [];
      }) k.todo out (got ++ k.last) tries extensions))
  next_is out k got tries extensions _ _ _ e = rw (same_self k.due) (rw e refl)

  comes_is : (error : BlockReason) (out : Out) (k : Kept) (s : Spot) (tries extensions : ℕ)
      → took out k s tries extensions (Came (reply_of error k s))
      ≡ world_of (comes out k s tries extensions)
  comes_is error out k (Opens rest asks) tries extensions = refl
  comes_is error out k (Behind asks collected rest answering) zero extensions =
      rw (same_self k.number) refl
  comes_is error out k (Behind asks collected rest answering) (suc n) extensions =
      rw (same_self k.number) refl
  comes_is error out k (Taken collected b bytes) tries extensions = rw (same_other k.number) refl
  comes_is error out k (Waits rest n size granted) tries zero = refl
  comes_is error out k (Waits rest n size granted) tries (suc e) = refl
  comes_is error out k (Grows rest size granted) tries extensions =
      grown out k rest size granted tries extensions (is_size size) refl
  comes_is error out k (Between got b bytes) tries extensions =
      missed Other out k tries extensions (Between got b bytes)
  comes_is error out k (Sent first got rest) tries extensions =
      next_is out k got tries extensions (is_long k got) first rest refl

  ups : (error : BlockReason) (out : Out) (up : Fate) (k : Kept) (s : Spot) (tries extensions : ℕ)
      → took out k s tries extensions (arrives up (Some (reply_of error k s)))
      ≡ world_of (arrived out up k s tries extensions)
  ups error out Delivers k s tries extensions = comes_is error out k s tries extensions
  ups error out Damages k s tries extensions = missed Edc out k tries extensions s
  ups error out Loses k s tries extensions = missed Other out k tries extensions s

  -- the terminal ignores this R-block, which replies to a damaged block
  unread : (out : Out) (up : Fate) (k : Kept) (s : Spot) (tries extensions : ℕ) (number : Bool)
      → took out k s tries extensions (Came (R number Edc))
      ≡ took out k s tries extensions (Bad Other)
      → took out k s tries extensions (arrives up (Some (R number Edc)))
      ≡ world_of (misses (error_of up) out k s tries extensions)
  unread out Delivers k s tries extensions number e = e ∙ missed Other out k tries extensions s
  unread out Damages k s tries extensions number e = missed Edc out k tries extensions s
  unread out Loses k s tries extensions number e = missed Other out k tries extensions s

  -- the world after the card's turn
  abbrev pub turned : Kept → Terminal → Fate → Turn → World
  turned k t up x = settled (world k (takes t (arrives up x.block)) x.card)

  -- the card sends its next request, or its response
  answers_now : (k : Kept) (rest : List ℕ) (n : ℕ) (size : Option ℕ)
      → answers_with (request_of (requests n k.multiple size))
      (record (card_at k (Sent true [] rest)) {
        next = k.due;
        answering = false;
        left = requests n k.multiple size;
      })
      ≡ turn (card_at k (starts rest n size)) (reply_of NoError k (starts rest n size))
  answers_now k rest (suc n) size = refl
  answers_now k rest zero (Some size) = refl
  answers_now k rest zero None = refl

  -- the card's turn, if the terminal's block arrives
  pub takes_it : (k : Kept) (s : Spot) (why : BlockReason) → (error : BlockReason)
      × (card_takes m (sent_at k s why) (card_at k s)
      ≡ turn (card_at (heard k s).0 (heard k s).1) (reply_of error (heard k s).0 (heard k s).1))
  takes_it k (Opens rest asks) why = (NoError, refl)
  takes_it k (Behind true collected rest answering) why = (Other, rw (same_self k.due) refl)
  takes_it k (Behind false collected [] answering) why =
      let done : List (List ℕ) = k.done ++ (collected ++ k.field) ∷ [] in (
        NoError,
        rw (same_self k.number)
            (ap (carries_out m (card_at k (Behind false collected [] answering)))
            (append_assoc before k.done ((collected ++ k.field) ∷ []))
            ∙ answers_now (runs k done) (drop k.ifsd (m.does (before ++ done)))
            (m.asks (before ++ done)).extensions (m.asks (before ++ done)).size),
      )
  takes_it k (Behind false collected (b ∷ bytes) answering) why =
      (NoError, rw (same_self k.number) refl)
  takes_it k (Taken collected b bytes) why = (Other, rw (same_self k.due) refl)
  takes_it k (Waits rest n size true) why =
      (NoError, rw (eq-eqb k.multiple k.multiple refl) (answers_now k rest n size))
  takes_it k (Waits rest n size false) why = (NoError, refl)
  takes_it k (Grows rest size true) why = (NoError, rw (eq-eqb size size refl) refl)
  takes_it k (Grows rest size false) why = (NoError, refl)
  takes_it k (Between got b bytes) why = (NoError, rw (same_self k.due) refl)
  takes_it k (Sent true got rest) why =
      (NoError, rw (same_other_2 k.due) (rw (other_other k.due) refl))
  takes_it k (Sent false got rest) why =
      (NoError, rw (same_other_2 k.due) (rw (other_other k.due) refl))

  -- and if it is damaged
  pub garbles_it : (k : Kept) (s : Spot)
      → card_damaged Edc (card_at k s) ≡ turn (card_at k s) (garble_at k s)
  garbles_it k (Waits rest n size granted) = refl
  garbles_it k (Grows rest size granted) = refl
  garbles_it k _ = refl

  starts_waiting : (out : Out) (k : Kept) (rest : List ℕ) (n : ℕ) (size : Option ℕ)
      (tries extensions : ℕ) → terminal_at out k (starts rest n size) tries extensions
      ≡ terminal_at out k (Waits rest n size false) tries extensions
  starts_waiting out k rest (suc n) size tries extensions = refl
  starts_waiting out k rest zero (Some size) tries extensions = refl
  starts_waiting out k rest zero None tries extensions = refl

  -- the terminal does not know of it
  unaware : (out : Out) (k : Kept) (s : Spot) (tries extensions : ℕ)
      → world (heard k s).0 (terminal_at out (heard k s).0 (heard k s).1 tries extensions)
      ≡ world k (terminal_at out k s tries extensions)
  unaware out k (Behind false collected [] answering) tries extensions =
      let done : List (List ℕ) = k.done ++ (collected ++ k.field) ∷ [] in
      ap (world k) (starts_waiting out (runs k done) (drop k.ifsd (m.does (before ++ done)))
      (m.asks (before ++ done)).extensions (m.asks (before ++ done)).size tries extensions)
  unaware out k (Behind false collected (b ∷ bytes) answering) tries extensions = refl
  unaware out k (Waits rest n size true) tries extensions =
      ap (world k) (starts_waiting out k rest n size tries extensions)
  unaware out k (Grows rest size true) tries extensions = refl
  unaware out k _ tries extensions = refl

  abbrev After : Fate → Fate → Place → World
  After down up p = exchange m (record { down = down; up = up }) (world_of p)

  lost : (up : Fate) (k : Kept) (s : Spot) (why : BlockReason) (tries extensions : ℕ)
      → After Loses up (Going k s why tries extensions)
      ≡ world_of (misses Other (out_at k s why) k s tries extensions)
  lost up k s why tries extensions =
      ap (exchanged m (record { down = Loses; up = up })
      (world_at (out_at k s why) k s tries extensions)) (sends_it k s why tries extensions)
      ∙ missed Other (out_at k s why) k tries extensions s

  -- the card replies to a damaged block
  garbles : (up : Fate) (k : Kept) (s : Spot) (why : BlockReason) (tries extensions : ℕ)
      → After Damages up (Going k s why tries extensions)
      ≡ took (out_at k s why) k s tries extensions (arrives up (Some (garble_at k s)))
  garbles up k s why tries extensions =
      let w : World = world_at (out_at k s why) k s tries extensions in
      ap (exchanged m (record { down = Damages; up = up }) w) (sends_it k s why tries extensions)
      ∙ ap (turned k w.terminal up) (garbles_it k s)

  pub is_step : (down up : Fate) (p : Place) → After down up p ≡ world_of (step down up p)
  is_step down up (Given_up w cause) = refl
  is_step down up (Finished w) = refl
  is_step Delivers up (Going k s why tries extensions) =
      let takes_so = takes_it k s why in
      let w : World = world_at (out_at k s why) k s tries extensions in
      let now : Card = card_at (heard k s).0 (heard k s).1 in
      let reply : Block = reply_of takes_so.0 (heard k s).0 (heard k s).1 in
      ap (exchanged m (record { down = Delivers; up = up }) w) (sends_it k s why tries extensions)
      ∙ ap (turned k w.terminal up) takes_so.1
      ∙ ap (λ (of : Card → World). let v : World = of now in
      settled (record v { terminal = takes v.terminal (arrives up (Some reply)) }))
      (sym (unaware (out_at k s why) k s tries extensions))
      ∙ ups takes_so.0 (out_at k s why) up (heard k s).0 (heard k s).1 tries extensions
  is_step Damages up (Going k (Opens rest asks) why tries extensions) =
      garbles up k (Opens rest asks) why tries extensions
      ∙ unread (out_of why asks) up k (Opens rest asks) tries extensions k.number refl
  is_step Damages up (Going k (Between got b bytes) why tries extensions) =
      garbles up k (Between got b bytes) why tries extensions
      ∙ unread (Asks why) up k (Between got b bytes) tries extensions k.number refl
  is_step Damages up (Going k (Sent true got rest) why tries extensions) =
      garbles up k (Sent true got rest) why tries extensions
      ∙ unread (Asks why) up k (Sent true got rest) tries extensions (other k.number)
      (rw (same_other k.number) refl)
  is_step Damages up (Going k (Sent false got rest) why tries extensions) =
      garbles up k (Sent false got rest) why tries extensions
      ∙ unread (Asks why) up k (Sent false got rest) tries extensions k.number refl
  is_step Damages up (Going k s why tries extensions) =
      garbles up k s why tries extensions ∙ ups Edc (out_at k s why) up k s tries extensions
  is_step Loses up (Going k s why tries extensions) = lost up k s why tries extensions
