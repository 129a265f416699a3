-- A card's end above which a command may wait for its response.
use Rattle.std.specs.Prelude.{cond, length, nat_lt, ◌+◌, ◌≡◌, ℕ, suc, Bool, true, false, ◌&&◌, List, [], ◌∷◌, ◌++◌, Option, Some, None, is_some, not, if◌then◌else◌}
use Rattle.t1_core.specs.declared.applet.Applet.{Ghosts}
use Rattle.t1_core.specs.declared.block.Control.{Control}
use Rattle.t1_core.specs.declared.block.Control.TheVariants.{Wtx}
use Rattle.t1_core.specs.declared.card.Reply.{Reply}
use Rattle.t1_core.specs.declared.card.Reply.TheVariants as reply
use Rattle.t1_core.specs.declared.pcb.BlockReason.{BlockReason}
use Rattle.t1_core.specs.Block.{Block, I, R, Request, Response, Arrival, Came, Bad, answers}
use Rattle.t1_core.specs.BlockBytes.{arrival_of, block_of, is_whole}
use Rattle.t1_core.specs.CardSide.{Card, Turn, card_after, card_damaged, card_hears, takes_waiting}
use Rattle.t1_core.specs.Doing.{EndOf, Goes, Keeps, Steps, with_end}

-- the end; the block that waits, if any; and the multiple of the S(WTX request) in progress
pub record PatientOf (C : Type 0) : Type 0 where
  pub end : EndOf C
  pub kept : List ℕ
  pub asked : Option ℕ

-- a block waits, and no request is in progress
abbrev pub awaits : {C : Type 0} → PatientOf C → Bool
awaits p = not (is_some p.asked) && is_whole p.kept

-- The command that the block that waits ends, if it is within the limit. Then the end has all of
-- its earlier bytes.
abbrev pub ended_by : ℕ → Option Block → List ℕ → Option (List ℕ)
ended_by limit (Some (I number false field)) collected =
    cond (nat_lt limit (length collected + length field)) None (Some (collected ++ field))
ended_by limit (Some (I number true field)) collected = None
ended_by limit (Some (R number reason)) collected = None
ended_by limit (Some (Request control)) collected = None
ended_by limit (Some (Response control)) collected = None
ended_by limit None collected = None

abbrev pub command_in : {C : Type 0} → (limit : ℕ) → PatientOf C → Option (List ℕ)
command_in limit p =
    if awaits p && not p.end.over then ended_by limit (block_of p.kept) p.end.at.collected
    else None

-- an end with that request in progress
abbrev pub asking : Option ℕ → Card → Card
asking None c = c
asking (Some multiple) c =
    record c { left = record { extensions = 1; multiple = multiple; size = None } }

-- the end as the terminal sees it
abbrev pub seen : {C : Type 0} → PatientOf C → EndOf C
seen p = with_end (asking p.asked) p.end

-- The end makes its step with the block that waits, which then waits no more. Or there is no reply:
-- the card above has not carried the command out, and the block waits on.
abbrev pub Takes : {C : Type 0} (a : Ghosts C) → List ℕ → PatientOf C → Option Reply → PatientOf C
    → Type 0
Takes a bytes old (Some reply) new = (new.asked ≡ None) × (new.kept ≡ [])
    × Steps a (λ m c. card_hears m (arrival_of bytes) c) old.end reply new.end
Takes a bytes old None new = (new.asked ≡ None) × (new.kept ≡ bytes)
    × Keeps a (λ c. c) old.end new.end

-- whether this is the response to that request
abbrev pub grants : Control → Arrival → Bool
grants control (Came (Response response)) = answers response control
grants control (Came (Request request)) = false
grants control (Came (I number more field)) = false
grants control (Came (R number reason)) = false
grants control (Bad reason) = false

abbrev pub hears_waiting : Control → Arrival → Card → Turn
hears_waiting control (Came b) c = takes_waiting control b c
hears_waiting control (Bad reason) c = card_damaged reason c

-- While the request is in progress: its response ends it. At any other block the end does what any
-- end does with a request in progress. If that ends the request (S(RESYNCH), S(ABORT)), the block
-- that waits is dropped.
abbrev pub TakesAsking : {C : Type 0} → ℕ → Arrival → PatientOf C → Option Reply → PatientOf C
    → Type 0
TakesAsking multiple arrival old None new =
    (grants (Wtx multiple) arrival ≡ true) × (new ≡ record old { asked = None })
TakesAsking multiple arrival old (Some reply) new = (grants (Wtx multiple) arrival ≡ false)
    × (new.kept ≡ (if is_some new.asked then old.kept else []))
    × Goes (hears_waiting (Wtx multiple) arrival) (seen old) reply (seen new)

abbrev pub HearsAt : {C : Type 0} (a : Ghosts C) → Option ℕ → List ℕ → PatientOf C → Option Reply
    → PatientOf C → Type 0
HearsAt a None bytes old reply new = Takes a bytes old reply new
HearsAt a (Some multiple) bytes old reply new =
    TakesAsking multiple (arrival_of bytes) old reply new

-- what a block of the terminal does
abbrev pub Hears : {C : Type 0} (a : Ghosts C) → List ℕ → PatientOf C → Option Reply → PatientOf C
    → Type 0
Hears a bytes old reply new = HearsAt a old.asked bytes old reply new

-- The card asks for more time, if a block waits.
abbrev pub Asks : {C : Type 0} → ℕ → PatientOf C → Option Reply → PatientOf C → Type 0
Asks multiple old None new = (awaits old ≡ false) × (new ≡ old)
Asks multiple old (Some r) new = (awaits old ≡ true) × (r ≡ reply.Request (Wtx multiple))
    × (new ≡ record old { asked = Some multiple })

-- No valid block arrived, for this reason: the request is repeated, or R asks for the block.
abbrev pub Misses : {C : Type 0} → BlockReason → PatientOf C → Reply → PatientOf C → Type 0
Misses reason old reply new = (new.asked ≡ old.asked)
    × (new.kept ≡ (if is_some old.asked then old.kept else []))
    × Goes (λ c. card_damaged reason c) (seen old) reply (seen new)

-- all that may happen at a patient card's end, except that its card is lent
pub data PatientCall : Type 0 where
  Comes : (block : List ℕ) → (reply : Option Reply) → PatientCall
  Continues : (reply : Option Reply) → PatientCall
  Extends : (multiple : ℕ) → (reply : Option Reply) → PatientCall
  Fails : (reason : BlockReason) → (reply : Reply) → PatientCall
  Resets : PatientCall

abbrev pub HappensTo : {C : Type 0} (a : Ghosts C) → PatientCall → PatientOf C → PatientOf C
    → Type 0
HappensTo a (Comes block reply) old new = Hears a block old reply new
HappensTo a (Continues reply) old new = (awaits old ≡ true) × Takes a old.kept old reply new
HappensTo a (Extends multiple reply) old new = Asks multiple old reply new
HappensTo a (Fails reason reply) old new = Misses reason old reply new
HappensTo a Resets old new = new ≡ record {
  end = record { card = old.end.card; at = card_after []; over = false };
  kept = [];
  asked = None;
}

abbrev pub HappenAllTo : {C : Type 0} (a : Ghosts C) → List PatientCall → PatientOf C
    → PatientOf C → Type 0
HappenAllTo a [] old new = new ≡ old
HappenAllTo {C = C} a (call ∷ calls) old new =
    (mid : PatientOf C) × HappensTo a call old mid × HappenAllTo a calls mid new

-- the number of blocks that came
abbrev pub blocks_of : List PatientCall → ℕ
blocks_of [] = 0
blocks_of (Comes block reply ∷ calls) = suc (blocks_of calls)
blocks_of (Continues reply ∷ calls) = blocks_of calls
blocks_of (Extends multiple reply ∷ calls) = blocks_of calls
blocks_of (Fails reason reply ∷ calls) = blocks_of calls
blocks_of (Resets ∷ calls) = blocks_of calls

-- 1 if a block waits
abbrev pub waiting_in : {C : Type 0} → PatientOf C → ℕ
waiting_in p = if is_whole p.kept then 1 else 0
