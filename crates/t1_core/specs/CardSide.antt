-- The card's end. It has no clock, and replies to each block with one block (ISO/IEC 7816-3, clause
-- 11, rules of operation).
use Rattle.std.specs.Prelude.{ℕ, zero, suc, Bool, true, false, List, [], ◌∷◌, ◌++◌, take, drop, Option, Some, None, cond}
use Rattle.t1_core.specs.declared.applet.Requests.{Requests}
use Rattle.t1_core.specs.declared.card.Reply.{Reply}
use Rattle.t1_core.specs.declared.card.Reply.TheVariants as reply
use Rattle.t1_core.specs.declared.block.Control.{Control}
use Rattle.t1_core.specs.declared.block.Control.TheVariants.{Resynch, Ifs, Abort, Wtx}
use Rattle.t1_core.specs.declared.line.Fate.{Fate}
use Rattle.t1_core.specs.declared.line.Fate.TheVariants.{Delivers, Damages, Loses}
use Rattle.t1_core.specs.declared.pcb.BlockReason.{BlockReason}
use Rattle.t1_core.specs.declared.pcb.BlockReason.TheVariants.{NoError, Edc, Other}
use Rattle.t1_core.specs.Block.{Block, I, R, Request, Response, Arrival, Came, Bad, other, same, more, answers, is_size}

-- The behaviour of the card above the end, as a function of all its commands, the newest last.
-- `does` is its response to the newest. `asks` are the S(WTX request) and S(IFS request) that it
-- makes before that response.
pub record Meaning : Type 0 where
  pub does : List (List ℕ) → List ℕ
  pub asks : List (List ℕ) → Requests

-- A command that a card has carried out, its response, and the requests before that response.
pub record Did : Type 0 where
  pub command : List ℕ
  pub response : List ℕ
  pub asks : Requests

pub record Card : Type 0 where
  pub due : Bool  -- N(S) of the terminal's next I-block
  pub next : Bool  -- N(S) of its own next I-block
  pub collected : List ℕ  -- the bytes of a command so far
  pub field : List ℕ  -- the field of the newest I-block of the response
  pub rest : List ℕ  -- the bytes of the response after that field
  pub answering : Bool  -- the terminal may ask for that I-block again
  pub size : ℕ  -- IFSD: the longest field that the terminal takes
  pub left : Requests  -- the requests without a response; the first was sent
  pub ran : List (List ℕ)  -- the commands that it has carried out

-- IFSD until the terminal asks for another one (rule of the IFS)
abbrev pub first_ifsd : ℕ
first_ifsd = 32

abbrev pub no_requests : Requests
no_requests = record { extensions = 0; multiple = 0; size = None }

-- after a reset, and after S(RESYNCH response)
abbrev pub card_after : List (List ℕ) → Card
card_after ran =
    record {
      due = false;
      next = false;
      collected = [];
      field = [];
      rest = [];
      answering = false;
      size = first_ifsd;
      left = no_requests;
      ran = ran;
    }

pub record Turn : Type 0 where
  pub card : Card
  pub block : Option Block

abbrev pub turn : Card → Block → Turn
turn c b = record { card = c; block = Some b }

-- the request in progress, if any
abbrev pub request_in : ℕ → ℕ → Option ℕ → Option Control
request_in (suc n) multiple size = Some (Wtx multiple)
request_in zero multiple (Some size) = Some (Ifs size)
request_in zero multiple None = None

abbrev pub request_of : Requests → Option Control
request_of left = request_in left.extensions left.multiple left.size

-- the requests after the one in progress
abbrev pub after_request : ℕ → Requests → Requests
after_request (suc n) left = record left { extensions = n }
after_request zero left = record left { size = None }

-- R, which asks for the terminal's block
abbrev pub asks_for : BlockReason → Card → Turn
asks_for reason c = turn c (R c.due reason)

-- the reply to an invalid or unexpected block (rules of error handling)
abbrev pub again : Option Control → BlockReason → Card → Turn
again None reason c = asks_for reason c
again (Some control) reason c = turn c (Request control)

-- the next request, or the first field of the response
abbrev pub answers_with : Option Control → Card → Turn
answers_with None c =
    turn (record c { next = other c.next; answering = true }) (I c.next (more c.rest) c.field)
answers_with (Some control) c = turn c (Request control)

-- the end of a command: its first request, or the first field of its response
abbrev pub responds : Requests → List ℕ → Card → Turn
responds asks response c =
    answers_with (request_of asks)
    (record c {
      collected = [];
      due = other c.due;
      field = take c.size response;
      rest = drop c.size response;
      answering = false;
      left = asks;
    })

abbrev pub carries_out : Meaning → Card → List (List ℕ) → Turn
carries_out m c ran = responds (m.asks ran) (m.does ran) (record c { ran = ran })

-- a field of a command, which ends the previous response
abbrev pub collects : Meaning → List ℕ → Bool → Card → List ℕ → Turn
collects m [] true c f =
    turn (record c {
      collected = c.collected ++ f;
      due = other c.due;
      field = [];
      answering = false;
    }) (R (other c.due) NoError)
collects m [] false c f = carries_out m c (c.ran ++ (c.collected ++ f) ∷ [])
collects m (b ∷ bytes) more c f = asks_for Other c

-- R asks for the next field of the response
abbrev pub goes_on : List ℕ → Card → Turn
goes_on [] c = asks_for Other c
goes_on (b ∷ bytes) c =
    let rest : List ℕ = drop c.size (b ∷ bytes) in
    let field : List ℕ = take c.size (b ∷ bytes) in
    turn (record c { field = field; rest = rest; next = other c.next }) (I c.next (more rest) field)

-- A field that is longer than the IFSD in force is cut again: the rest of it follows in a field of
-- its own (profile).
abbrev pub shortened : Card → Card
shortened c =
    record c { field = take c.size c.field; rest = drop c.size c.field ++ c.rest }

-- R asks for the newest I-block again, if a response is in progress
abbrev pub repeats : Bool → Card → Turn
repeats true c =
    let now : Card = shortened c in turn now (I (other now.next) (more now.rest) now.field)
repeats false c = asks_for Other c

-- a request of the terminal (rules of S-blocks)
abbrev pub serves : Control → Card → Turn
serves Resynch c = turn (card_after c.ran) (Response Resynch)
serves (Ifs size) c =
    cond (is_size size) (turn (record c { size = size }) (Response (Ifs size)))
    (again (request_of c.left) Other c)
serves Abort c =
    turn (record c {
      collected = [];
      field = [];
      rest = [];
      answering = false;
      left = no_requests;
    }) (Response Abort)
serves (Wtx multiple) c = again (request_of c.left) Other c

abbrev pub takes_block : Meaning → Block → Card → Turn
takes_block m (I n more f) c = cond (same n c.due) (collects m c.rest more c f) (asks_for Other c)
takes_block m (R n reason) c = cond (same n c.next) (goes_on c.rest c) (repeats c.answering c)
takes_block m (Request control) c = serves control c
takes_block m (Response control) c = asks_for Other c

-- the terminal has answered the request in progress
abbrev pub granted : Card → Turn
granted c =
    let left : Requests = after_request c.left.extensions c.left in
    answers_with (request_of left) (record c { left = left })

-- a block while a request is in progress
abbrev pub takes_waiting : Control → Block → Card → Turn
takes_waiting control (Response response) c =
    cond (answers response control) (granted c) (turn c (Request control))
takes_waiting control (Request request) c = serves request c
takes_waiting control _ c = turn c (Request control)

abbrev pub takes_at : Meaning → Option Control → Block → Card → Turn
takes_at m None b c = takes_block m b c
takes_at m (Some control) b c = takes_waiting control b c

abbrev pub card_takes : Meaning → Block → Card → Turn
card_takes m b c = takes_at m (request_of c.left) b c

-- an invalid block
abbrev pub card_damaged : BlockReason → Card → Turn
card_damaged reason c = again (request_of c.left) reason c

abbrev pub card_hears : Meaning → Arrival → Card → Turn
card_hears m (Bad reason) c = card_damaged reason c
card_hears m (Came b) c = card_takes m b c

abbrev pub card_meets : Meaning → Fate → Block → Card → Turn
card_meets m Delivers b c = card_takes m b c
card_meets m Damages b c = card_damaged Edc c
card_meets m Loses b c = record { card = c; block = None }

-- the block of a reply
abbrev pub replies : Reply → Card → Block
replies reply.Information c = I (other c.next) (more c.rest) c.field
replies (reply.Ready reason) c = R c.due reason
replies (reply.Request control) c = Request control
replies (reply.Response control) c = Response control
