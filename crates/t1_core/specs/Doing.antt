-- What a card carries out. The card may choose, for instance `6581` for a put, so a command is a
-- relation between two states. A meaning agrees if it makes the same choices.
use Rattle.std.specs.Prelude.{◌≡◌, ◌<◌, ◌≤◌, ◌^◌, Bool, true, false, List, ℕ, [], ◌∷◌, ◌++◌, length, map, vec_capacity, Option, Some, None}
use Rattle.t1_core.specs.declared.applet.Applet.{Ghosts}
use Rattle.t1_core.specs.declared.card.Reply.{Reply}
use Rattle.t1_core.specs.declared.card.Rooms.{Rooms}
use Rattle.t1_core.specs.Block.{Arrival, Came, I}
use Rattle.t1_core.specs.CardSide.{Card, Did, Meaning, Turn, turn, no_requests, replies}

abbrev pub commands_of : List Did → List (List ℕ)
commands_of dids = map (λ (d : Did). d.command) dids

abbrev pub responses_of : List Did → List (List ℕ)
responses_of dids = map (λ (d : Did). d.response) dids

-- these commands, in order, lead from the state `old` to `new`
abbrev pub DoesAll : {State : Type 0} → (State → Did → State → Type 0) → State → List Did → State
    → Type 0
DoesAll Does old [] new = new ≡ old
DoesAll {State = State} Does old (d ∷ dids) new =
    (mid : State) × Does old d mid × DoesAll Does mid dids new

-- after the commands `ran` the meaning does this
abbrev pub IsOf : Meaning → List (List ℕ) → Did → Type 0
IsOf m ran d =
    (m.does (ran ++ d.command ∷ []) ≡ d.response) × (m.asks (ran ++ d.command ∷ []) ≡ d.asks)

abbrev pub Agrees : Meaning → List (List ℕ) → List Did → Type 0
Agrees m ran [] = Unit {0}
Agrees m ran (d ∷ dids) = IsOf m ran d × Agrees m (ran ++ d.command ∷ []) dids

-- The meaning of a log: its entry after these commands, or nothing if it has none.
abbrev pub entry : List Did → List (List ℕ) → Did
entry [] ran = record { command = []; response = []; asks = no_requests }
entry (d ∷ dids) [] = record { command = []; response = []; asks = no_requests }
entry (d ∷ dids) (c ∷ []) = d
entry (d ∷ dids) (c ∷ e ∷ ran) = entry dids (e ∷ ran)

abbrev pub meaning_of : List Did → Meaning
meaning_of log =
    record { does = λ ran. (entry log ran).response; asks = λ ran. (entry log ran).asks }

-- The card's end: the card, and the end of the definitions with `ran` empty. `over`: the bytes of a
-- command so far are more than the limit, and `collected` has none of them.
pub record EndOf (C : Type 0) : Type 0 where
  pub card : C
  pub at : Card
  pub over : Bool

abbrev pub so_far : (over : Bool) → (kept sent : List ℕ) → List ℕ
so_far true kept sent = sent
so_far false kept sent = kept

-- The end of the definitions, if the card has carried out these commands. If the bytes of a command
-- so far exceed the limit, they are `sent`.
abbrev pub after : {C : Type 0} → EndOf C → (ran : List (List ℕ)) → (sent : List ℕ) → Card
after e ran sent = record e.at { ran = ran; collected = so_far e.over e.at.collected sent }

-- no more bytes of a command are kept than `limit`, and none of a longer one
abbrev pub Keeping : (limit : ℕ) → (over : Bool) → (kept sent : List ℕ) → Type 0
Keeping limit true kept sent = (kept ≡ []) × (limit < length sent)
Keeping limit false kept sent = length kept ≤ limit

abbrev pub IsKeeping : {C : Type 0} → ℕ → EndOf C → (sent : List ℕ) → Type 0
IsKeeping limit e sent = Keeping limit e.over e.at.collected sent

abbrev pub with_end : {C : Type 0} → (Card → Card) → EndOf C → EndOf C
with_end f e = record e { at = f e.at }

-- empty rooms for a command of `limit` bytes, and for the response of a short command
abbrev pub AreRooms : (limit : ℕ) → Rooms → Type 0
AreRooms limit rooms = (rooms.command.items ≡ []) × (limit ≤ vec_capacity rooms.command)
    × (rooms.response.items ≡ []) × (258 ≤ vec_capacity rooms.response)

-- no response has more bytes than memory
abbrev pub most_bytes : ℕ
most_bytes = 2 ^ 63

abbrev pub DoesSome : {State : Type 0} → (State → Did → State → Type 0) → State → Option Did
    → State → Type 0
DoesSome Does old None new = new ≡ old
DoesSome Does old (Some d) new = Does old d new × (length d.response < most_bytes)

abbrev pub IsOfSome : Meaning → List (List ℕ) → Option Did → Type 0
IsOfSome m ran None = Unit {0}
IsOfSome m ran (Some d) = IsOf m ran d

abbrev pub ran_with : List (List ℕ) → Option Did → List (List ℕ)
ran_with ran None = ran
ran_with ran (Some d) = ran ++ d.command ∷ []

-- The card carries out one command or none. This holds of each meaning that agrees, before and
-- after it, whatever the card carried out before. `sent` and `later` are the bytes of a command
-- before and after it, if they exceed the limit.
abbrev pub Carries : {C : Type 0} (a : Ghosts C) → (Meaning → (old new : Card) → Type 0)
    → (old new : EndOf C) → Type 0
Carries a Holds old new = (sent : List ℕ) → IsKeeping a.LIMIT old sent
    → (did : Option Did) × (later : List ℕ) × IsKeeping a.LIMIT new later
    × DoesSome a.Does (a.standing old.card) did (a.standing new.card)
    × ((m : Meaning) (ran : List (List ℕ)) → IsOfSome m ran did
    → Holds m (after old ran sent) (after new (ran_with ran did) later))

-- the last field of a command: the card above can refuse nothing else
abbrev pub IsDue : {C : Type 0} → Arrival → EndOf C → Type 0
IsDue (Came (I n more f)) e = (n ≡ e.at.due) × (e.at.rest ≡ []) × (more ≡ false)
IsDue other e = ⊥

-- the end makes this step, and replies
abbrev pub Steps : {C : Type 0} (a : Ghosts C) → (Meaning → Card → Turn) → EndOf C → Reply
    → EndOf C → Type 0
Steps a step old reply new =
    Carries a (λ m before later. step m before ≡ turn later (replies reply new.at)) old new

-- the end makes this step, and the card carries out no command
abbrev pub Goes : {C : Type 0} → (Card → Turn) → EndOf C → Reply → EndOf C → Type 0
Goes step old reply new = (new.card ≡ old.card)
    × ((limit : ℕ) (sent : List ℕ) → IsKeeping limit old sent → IsKeeping limit new sent)
    × ((ran : List (List ℕ)) (sent : List ℕ)
    → step (after old ran sent) ≡ turn (after new ran sent) (replies reply new.at))

-- the card above has refused a command in this state
abbrev pub HasRefused : {C : Type 0} (a : Ghosts C) → EndOf C → Type 0
HasRefused a e = (command : List ℕ) × a.Refuses (a.standing e.card) command

-- the command is not carried out: the card is unchanged, and `f` changes the end
abbrev pub Keeps : {C : Type 0} (a : Ghosts C) → (Card → Card) → EndOf C → EndOf C → Type 0
Keeps a f old new = (a.standing new.card ≡ a.standing old.card) × (new.at ≡ f old.at)
    × (new.over ≡ old.over)
