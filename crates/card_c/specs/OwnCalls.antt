-- What the calls on a card of an own application do to it. A refusal changes nothing.
use Rattle.std.specs.Prelude.{◌≡◌, ◌≢◌, ◌⊎◌, ⊤, ◌<◌, ◌≤◌, ◌/◌, ◌%◌, ℕ, ℤ, pos, List, [], ◌∷◌, ◌++◌, length, drop, take, replicate, Bool, true, false, Option, Some, None, MatchOption, unwrap_or, slice_set, if◌then◌else◌}
use Rattle.apdu_core.specs.declared.header.Header.{Header}
use Rattle.apdu_core.specs.CommandBytes.{Command, IsCommand, command_bytes}
use Rattle.apdu_core.specs.StatusWord.{IsStatusWord, StatusWord}
use Rattle.t0_core.specs.Character.{Character}
use Rattle.t0_core.specs.declared.end.End.TheVariants.{Card}
use Rattle.t0_core.specs.declared.line_fault.LineFault.TheVariants.{NotListening}
use Rattle.t0_core.specs.declared.tpdu_card.TpduCard.{Ghosts}
use Rattle.t0_core.specs.Buffers.{HandsOut, Steps}
use Rattle.t0_core.specs.CardHistory.{Leads, LeadsUnder, IsTakenLast}
use Rattle.t0_core.specs.CardSide.{EndOf, StandsAt, Taking_header, listens, takes_plan}
use Rattle.t0_core.specs.CardSending.{IsHandedOut}
use Rattle.t0_core.specs.CardTaking.{IsTaken}
use Rattle.t0_core.specs.Dialogue.{Dialogue}
use Rattle.t0_core.specs.Front.{Front, GoesThrough}
use Rattle.t0_core.specs.History.{Event, Passed, Reset}
use Rattle.t0_core.specs.Meaning.{tpdu_of}
use Rattle.t0_core.specs.Plan.{Course, Cursor, advanced, plan_kept}
use Rattle.t0_core.specs.TpduBytes.{Asked, asked_in}
use Rattle.t1_core.specs.Patience.{PatientOf}
use Rattle.command_card.specs.declared.given_applet.GivenApplet.{GivenApplet}
use Rattle.command_card.specs.declared.given.Directions.{Directions}
use Rattle.command_card.specs.declared.given.Directions.TheVariants as way
use Rattle.command_card.specs.declared.own.Wanted.{Wanted}
use Rattle.command_card.specs.declared.own.Wanted.TheVariants as wanted
use Rattle.command_card.specs.declared.own.GiveFault.{GiveFault}
use Rattle.command_card.specs.declared.own.GiveFault.TheVariants as fault
use Rattle.command_card.specs.Given.{Answers, GivenState, after_drop, at_rest, new_given, settled, takes_data}
use Rattle.command_card.specs.Meaning.{Does}
use Rattle.command_card.specs.State.{CardState}
use Rattle.command_card.specs.View.{CardOf, MayReceive, MaySend, after_reset, new_card, prepared_in, standing_in}
use Rattle.command_card.specs.Wanted.{IsNotTaken, IsTaken as IsGiven, IsWanted, forgotten_by, may_decide, wanted_by, wanted_for}
use Rattle.card_c.specs.declared.card_side.CardSide.{CardSide}
use Rattle.card_c.specs.declared.card_side.CardSide.TheVariants.{Own, OwnAtT1}
use Rattle.card_c.specs.declared.command_record.CommandRecord.{CommandRecord}
use Rattle.card_c.specs.declared.own_side.OwnSide.{OwnSide}
use Rattle.card_c.specs.declared.own_side.OwnT1Side.{OwnT1Side}
use Rattle.card_c.specs.declared.own_side.Whole.{Whole}
use Rattle.card_c.specs.declared.own_side.Whole.TheVariants as whole
use Rattle.card_c.specs.Codes.{gt_ok, gt_sends, gt_command, gt_header, gt_state, gt_memory, gt_argument, line_code}

abbrev pub OwnCard : Type 0
OwnCard = CardOf GivenState

-- the card of given responses, as its end of the line sees it: each command gets the response that
-- was given for it
abbrev pub own_card : Ghosts OwnCard
own_card = record {
  State = CardState GivenState;
  standing = λ card. standing_in at_rest card;
  Does = Does takes_data Answers;
  after_reset = after_reset after_drop;
  MayReceive = MayReceive takes_data;
  MaySend = MaySend takes_data;
  prepared = λ card. prepared_in at_rest settled card;
}

-- the card at T=1, as it was at T=0, and another in its place
abbrev pub own_end : OwnT1Side → EndOf OwnCard
own_end at = at.end.end.card.end

abbrev pub lent : EndOf OwnCard → PatientOf GivenApplet → PatientOf GivenApplet
lent end p = record p { end = record p.end { card = record { end = end } } }

abbrev pub with_own : EndOf OwnCard → OwnT1Side → OwnT1Side
with_own end at = record at { end = lent end at.end }

-- these events led to the end, from a card in this state
abbrev pub OwnLed : CardState GivenState → List Event → EndOf OwnCard → Type 0
OwnLed first events end = Leads own_card.Does own_card.after_reset first events
    (own_card.standing end.card) (own_card.prepared end.card) end.stage

abbrev pub OwnLedUnder : CardState GivenState → List Character → List Course → EndOf OwnCard
    → Type 0
OwnLedUnder first came taken end = LeadsUnder own_card.Does first came taken
    (own_card.standing end.card) (own_card.prepared end.card) end.stage

-- The card's next character, as `HandsOutCharacter` says of a card of data objects.
abbrev pub OwnHandsOut : EndOf OwnCard → Cursor → ℕ → EndOf OwnCard → Cursor → Type 0
OwnHandsOut end plans byte next left = (listens end.stage ≡ false)
    × (left ≡ (if takes_plan end.stage then advanced plans else plans))
    × ((first : CardState GivenState) (events : List Event) → OwnLed first events end
    → OwnLed first (events ++ Passed (Card, byte) ∷ []) next)
    × ((first : CardState GivenState) (came : List Character) (taken : List Course)
    → OwnLedUnder first came taken end
    → (takes_plan end.stage ≡ false → IsTakenLast (plan_kept plans) taken)
    → OwnLedUnder first (came ++ (Card, byte) ∷ [])
    (if takes_plan end.stage then taken ++ plan_kept left ∷ [] else taken) next)

-- the code for what waits
abbrev pub wait_code : Wanted → Option ℤ
wait_code wanted.Nothing = None
wait_code (wanted.Direction h) = Some gt_header
wait_code (wanted.Response c) = Some gt_command

-- A character of the terminal is taken if the card listens.
abbrev pub OwnTakesOne : ℕ → OwnSide → ℤ → OwnSide → Type 0
OwnTakesOne byte own code new =
    ((listens own.end.stage ≡ false) × (code ≡ line_code NotListening) × (new ≡ own))
    ⊎ ((code ≡ gt_ok) × (new ≡ record own { end = new.end })
    × IsTaken own_card own.end byte new.end)

-- A call by characters or buffers does this if nothing waits as a whole. Otherwise nothing changes.
abbrev pub Freely : (OwnSide → ℤ → OwnSide → Type 0) → Type 0 → OwnSide → ℤ → OwnSide → Type 0
Freely Calls Untold own code new = ((own.whole ≡ whole.Nothing) × Calls own code new)
    ⊎ ((own.whole ≢ whole.Nothing) × (code ≡ gt_state) × (new ≡ own) × Untold)

abbrev pub OwnTakes : ℕ → CardSide → ℤ → CardSide → Type 0
OwnTakes byte (Own own) code new = (next : OwnSide) × (new ≡ Own next)
    × Freely (OwnTakesOne byte) ⊤ own code next
OwnTakes byte side code new = (code ≡ gt_state) × (new ≡ side)

-- The card's next character, unless something waits or it listens.
abbrev pub OwnTurnsOne : ℕ → ℕ → OwnSide → ℤ → OwnSide → Type 0
OwnTurnsOne before byte own code new = (w : Wanted) × IsWanted own.end w
    × MatchOption (wait_code w)
    (((listens own.end.stage ≡ true) × (code ≡ gt_ok) × (new ≡ own) × (byte ≡ before))
    ⊎ ((code ≡ gt_sends) × (new ≡ record own { end = new.end; plans = new.plans })
    × OwnHandsOut own.end own.plans byte new.end new.plans))
    (λ waits. (code ≡ waits) × (new ≡ own) × (byte ≡ before))

-- This character changes no TPDU. Whatever dialogue the end comes to from its front, with any
-- number of these characters first the line comes to a dialogue of the same TPDU.
abbrev pub StaysInStep : EndOf OwnCard → ℕ → Type 0
StaysInStep end byte = (cut n : ℕ) (front : Front) (cs : List Character) (d : Dialogue)
    → StandsAt own_card.Does (own_card.standing end.card) (own_card.prepared end.card) end.stage
    cut front
    → GoesThrough front cs d
    → (e : Dialogue) × GoesThrough front (replicate n (Card, byte) ++ cs) e
    × (tpdu_of e ≡ tpdu_of d)

abbrev pub is_response : Wanted → Bool
is_response (wanted.Response c) = true
is_response wanted.Nothing = false
is_response (wanted.Direction h) = false

-- The pause ends. If a command waits, a NULL goes out, and the end is as it was.
abbrev pub GivesNull : OwnSide → Bool → OwnSide → Type 0
GivesNull own gives new = (new ≡ record own { whole = whole.Nothing })
    × ((w : Wanted) × IsWanted own.end w × (gives ≡ is_response w))
    × (gives ≡ true → StaysInStep own.end 0x60)

abbrev pub SendsNull : ℕ → ℕ → OwnSide → ℤ → OwnSide → Type 0
SendsNull before byte own code new =
    (GivesNull own true new × (byte ≡ 0x60) × (code ≡ gt_sends))
    ⊎ (GivesNull own false new × (byte ≡ before) × (code ≡ gt_state))

-- The NULL is written alone, if there is room for it.
abbrev pub SendsNullIn : List ℕ → List ℕ → ℕ → OwnSide → ℤ → OwnSide → Type 0
SendsNullIn room room' n own code new =
    ((room ≡ []) × (room' ≡ room) × (n ≡ 0) × (new ≡ own) × (code ≡ gt_sends))
    ⊎ ((room ≢ []) × GivesNull own true new × (room' ≡ slice_set room 0 0x60) × (n ≡ 1)
    × (code ≡ gt_sends))
    ⊎ ((room ≢ []) × GivesNull own false new × (room' ≡ room) × (n ≡ 0) × (code ≡ gt_state))

-- A call that sends does this if nothing waits as a whole, and before it a NULL that was asked for.
abbrev pub Pausing : (OwnSide → ℤ → OwnSide → Type 0) → (OwnSide → ℤ → OwnSide → Type 0) → Type 0
    → OwnSide → ℤ → OwnSide → Type 0
Pausing Sends Calls Untold own code new = ((own.whole ≡ whole.Nothing) × Calls own code new)
    ⊎ ((own.whole ≡ whole.Null) × Sends own code new)
    ⊎ ((own.whole ≢ whole.Nothing) × (own.whole ≢ whole.Null) × (code ≡ gt_state) × (new ≡ own)
    × Untold)

abbrev pub OwnTurns : ℕ → ℕ → CardSide → ℤ → CardSide → Type 0
OwnTurns before byte (Own own) code new = (next : OwnSide) × (new ≡ Own next)
    × Pausing (SendsNull before byte) (OwnTurnsOne before byte) (byte ≡ before) own code next
OwnTurns before byte side code new = (code ≡ gt_state) × (new ≡ side) × (byte ≡ before)

abbrev pub OwnDriven : Type 0
OwnDriven = EndOf OwnCard × Cursor

-- Nothing waits before the character, or it is data of the card.
abbrev pub OwnHandsOutOne : OwnDriven → ℕ → OwnDriven → Type 0
OwnHandsOutOne s byte t = (IsWanted s.0 wanted.Nothing ⊎ IsHandedOut own_card s.0 byte t.0)
    × OwnHandsOut s.0 s.1 byte t.0 t.1

-- why no more characters are written: the array is full, something waits, or the card listens
abbrev pub OwnStops : List ℕ → ℕ → EndOf OwnCard → ℤ → Type 0
OwnStops room n end code = ((n ≡ length room) × (code ≡ gt_sends))
    ⊎ ((n < length room) × (w : Wanted) × IsWanted end w
    × MatchOption (wait_code w) ((listens end.stage ≡ true) × (code ≡ gt_ok))
    (λ waits. code ≡ waits))

-- It writes this number of characters to an array.
abbrev pub OwnHandsOutAll : EndOf OwnCard → Cursor → List ℕ → List ℕ → ℕ → ℤ → EndOf OwnCard
    → Cursor → Type 0
OwnHandsOutAll end plans room room' n code next left =
    HandsOut OwnHandsOutOne (end, plans) room room' n (next, left) × OwnStops room n next code

abbrev pub OwnSendsOne : List ℕ → List ℕ → ℕ → OwnSide → ℤ → OwnSide → Type 0
OwnSendsOne room room' n own code new =
    (new ≡ record own { end = new.end; plans = new.plans })
    × OwnHandsOutAll own.end own.plans room room' n code new.end new.plans

abbrev pub OwnSends : List ℕ → ℕ → List ℕ → ℕ → CardSide → ℤ → CardSide → Type 0
OwnSends room before room' n (Own own) code new = (next : OwnSide) × (new ≡ Own next)
    × Pausing (SendsNullIn room room' n) (OwnSendsOne room room' n)
    ((room' ≡ room) × (n ≡ before)) own code next
OwnSends room before room' n side code new =
    (code ≡ gt_state) × (new ≡ side) × (room' ≡ room) × (n ≡ before)

-- Characters of an array are taken: all, or until the card does not listen.
abbrev pub OwnReceivesAll : List ℕ → ℕ → OwnSide → ℤ → OwnSide → Type 0
OwnReceivesAll bytes n own code new = (new ≡ record own { end = new.end })
    × Steps (IsTaken own_card) own.end (take n bytes) new.end
    × (((n ≡ length bytes) × (code ≡ gt_ok))
    ⊎ ((n < length bytes) × (code ≡ line_code NotListening) × (listens new.end.stage ≡ false)))

abbrev pub OwnReceives : List ℕ → ℕ → ℕ → CardSide → ℤ → CardSide → Type 0
OwnReceives bytes before n (Own own) code new = (next : OwnSide) × (new ≡ Own next)
    × Freely (OwnReceivesAll bytes n) (n ≡ before) own code next
OwnReceives bytes before n side code new = (code ≡ gt_state) × (new ≡ side) × (n ≡ before)

-- The card is reset. What waits is dropped, and so is a response that did not settle, or that the
-- card still held; the plans stay.
abbrev pub OwnResetsOne : EndOf OwnCard → Cursor → ℤ → OwnSide → Type 0
OwnResetsOne end plans code new = (code ≡ gt_ok) × (new.plans ≡ plans)
    × (new.whole ≡ whole.Nothing) × (new.asked.items ≡ [])
    × (new.end.card.app.given ≡ None) × (new.end.card ≡ forgotten_by new.end.card)
    × (own_card.standing new.end.card ≡ own_card.after_reset (own_card.standing end.card))
    × (new.end.stage ≡ Taking_header [])
    × ((first : CardState GivenState) (events : List Event) → OwnLed first events end
    → OwnLed first (events ++ Reset ∷ []) new.end)
    × OwnLed (own_card.standing new.end.card) [] new.end
    × OwnLedUnder (own_card.standing new.end.card) [] [] new.end

abbrev pub OwnResets : CardSide → ℤ → CardSide → Type 0
OwnResets (Own own) code new = (next : OwnSide) × (new ≡ Own next)
    × OwnResetsOne own.end own.plans code next
OwnResets side code new = (code ≡ gt_state) × (new ≡ side)

-- no plans, no response, nothing pending, and the events since its making: none
abbrev pub IsFresh : Directions → OwnSide → Type 0
IsFresh directions own = (own.plans ≡ record { rest = []; kept = None })
    × (own.whole ≡ whole.Nothing) × (own.asked.items ≡ [])
    × (own.end ≡ record {
      card = new_card (new_given directions);
      stage = Taking_header [];
    })
    × OwnLed (own_card.standing own.end.card) [] own.end
    × OwnLedUnder (own_card.standing own.end.card) [] [] own.end

-- 32 bytes, or none: each header is asked for
abbrev pub IsDirections : List ℕ → Option Directions → Type 0
IsDirections [] d = d ≡ Some way.Unknown
IsDirections (b ∷ bytes) None = length (b ∷ bytes) ≢ 32
IsDirections (b ∷ bytes) (Some d) = (length (b ∷ bytes) ≡ 32) × (d ≡ way.Table (b ∷ bytes))

abbrev pub BeginsOwn : List ℕ → Option CardSide → ℤ → Option CardSide → Type 0
BeginsOwn bytes (Some old) code new = (code ≡ gt_state) × (new ≡ Some old)
BeginsOwn bytes None code new =
    (IsDirections bytes None × (code ≡ gt_argument) × (new ≡ None))
    ⊎ ((d : Directions) × IsDirections bytes (Some d) × (code ≡ gt_memory) × (new ≡ None))
    ⊎ ((d : Directions) × IsDirections bytes (Some d) × (own : OwnSide) × (code ≡ gt_ok)
    × (new ≡ Some (Own own)) × IsFresh d own)

-- what is wanted for a TPDU that waits as a whole, or for a command
abbrev pub wanted_at : OwnCard → Option Asked → Wanted
wanted_at card None = wanted.Nothing
wanted_at card (Some asked) = wanted_by card asked.header asked.p3 asked.content

abbrev pub IsWantedFor : OwnCard → List ℕ → Wanted → Type 0
IsWantedFor card bytes w =
    ((c : Command) × IsCommand c × (bytes ≡ command_bytes c) × (w ≡ wanted_for card.app c))
    ⊎ (((c : Command) → IsCommand c → bytes ≡ command_bytes c → ⊥) × (w ≡ wanted.Nothing))

abbrev pub IsWantedIn : Whole → List ℕ → EndOf OwnCard → Wanted → Type 0
IsWantedIn whole.Nothing bytes end w = IsWanted end w
IsWantedIn whole.Null bytes end w = w ≡ wanted.Nothing
IsWantedIn whole.Tpdu bytes end w = w ≡ wanted_at end.card (asked_in bytes)
IsWantedIn whole.Command bytes end w = IsWantedFor end.card bytes w

-- What is wanted of the caller.
abbrev pub IsOwnWanted : OwnSide → Wanted → Type 0
IsOwnWanted own w = IsWantedIn own.whole own.asked.items own.end w

-- The same at T=1: the command that the sending call returned for.
abbrev pub IsWantedAtT1 : OwnT1Side → Wanted → Type 0
IsWantedAtT1 at w = IsWantedFor (own_end at).card at.asked.items w

-- header, Le and data as C sees them
pub record IsRecord (h : Header) (bytes : List ℕ) (le : ℕ) (r : CommandRecord) : Type 0 where
  pub cla : r.cla ≡ h.cla
  pub ins : r.ins ≡ h.ins
  pub p1 : r.p1 ≡ h.p1
  pub p2 : r.p2 ≡ h.p2
  pub le_is : r.le ≡ le
  pub size : r.size ≡ length bytes
  pub data_is : r.data ≡ bytes ++ drop (length bytes) (replicate 255 0)

abbrev pub TellsWanted : Wanted → CommandRecord → CommandRecord → ℤ → Type 0
TellsWanted wanted.Nothing old new code = (code ≡ gt_state) × (new ≡ old)
TellsWanted (wanted.Direction h) old new code = (code ≡ gt_ok) × IsRecord h [] 0 new
TellsWanted (wanted.Response c) old new code = (code ≡ gt_ok)
    × IsRecord c.header c.content (unwrap_or c.le 0) new

abbrev pub TellsCommand : CommandRecord → CommandRecord → CardSide → ℤ → Type 0
TellsCommand old new (Own own) code = (w : Wanted) × IsOwnWanted own w × TellsWanted w old new code
TellsCommand old new (OwnAtT1 at) code =
    (w : Wanted) × IsWantedAtT1 at w × TellsWanted w old new code
TellsCommand old new side code = (code ≡ gt_state) × (new ≡ old)

-- the end is at the same place of its TPDU, over this card
abbrev pub IsEndWith : EndOf OwnCard → OwnCard → EndOf OwnCard → Type 0
IsEndWith end card new = (new.stage ≡ end.stage) × (new.card ≡ card)

-- The header that waits gets its direction, if the card takes one.
abbrev pub DecidesOne : Wanted → Bool → EndOf OwnCard → ℤ → EndOf OwnCard → Type 0
DecidesOne (wanted.Direction h) to_card end code new =
    ((may_decide end.card ≡ false) × (code ≡ gt_state) × IsEndWith end end.card new)
    ⊎ ((may_decide end.card ≡ true) × (code ≡ gt_ok) × IsEndWith end (record end.card {
      app = record end.card.app { directions = way.Known to_card };
    }) new)
DecidesOne wanted.Nothing to_card end code new = (code ≡ gt_state) × (new ≡ end)
DecidesOne (wanted.Response c) to_card end code new = (code ≡ gt_state) × (new ≡ end)

abbrev pub DecidesAt : Whole → List ℕ → Bool → EndOf OwnCard → ℤ → EndOf OwnCard → Type 0
DecidesAt whole asked to_card end code new =
    (w : Wanted) × IsWantedIn whole asked end w × DecidesOne w to_card end code new

abbrev pub Decides : Bool → CardSide → ℤ → CardSide → Type 0
Decides to_card (Own own) code new = (end : EndOf OwnCard)
    × (new ≡ Own (record own { end = end }))
    × DecidesAt own.whole own.asked.items to_card own.end code end
Decides to_card (OwnAtT1 at) code new = (end : EndOf OwnCard)
    × (new ≡ OwnAtT1 (with_own end at))
    × DecidesAt whole.Command at.asked.items to_card (own_end at) code end
Decides to_card side code new = (code ≡ gt_state) × (new ≡ side)

-- the two bytes of this number, as a status word
abbrev pub word_of : ℕ → StatusWord
word_of number = (number / 256, number % 256)

abbrev pub give_code : GiveFault → ℤ
give_code fault.NotWanted = gt_state
give_code fault.TooLong = gt_argument
give_code fault.CardsOwn = gt_argument
give_code fault.OutOfMemory = gt_memory

-- The command in progress gets this response, and no other goes out for it. Or nothing changes, for
-- the first reason that holds: the number is no status word, or a reason of the card.
abbrev pub GivesOne : List ℕ → ℕ → EndOf OwnCard → ℤ → EndOf OwnCard → Type 0
GivesOne bytes number end code new = (new.stage ≡ end.stage)
    × (((¬ IsStatusWord (word_of number)) × (code ≡ gt_argument) × (new.card ≡ end.card))
    ⊎ (IsStatusWord (word_of number) × (why : GiveFault) × (code ≡ give_code why)
    × IsNotTaken end.card bytes (word_of number) why × (new.card ≡ end.card))
    ⊎ (IsStatusWord (word_of number) × (code ≡ gt_ok)
    × IsGiven end.card bytes (word_of number) new.card))

-- the same of the command that waits, if one does
abbrev pub RespondsOne : Wanted → List ℕ → ℕ → EndOf OwnCard → ℤ → EndOf OwnCard → Type 0
RespondsOne (wanted.Response c) bytes number end code new = GivesOne bytes number end code new
RespondsOne wanted.Nothing bytes number end code new = (code ≡ gt_state) × (new ≡ end)
RespondsOne (wanted.Direction h) bytes number end code new = (code ≡ gt_state) × (new ≡ end)

abbrev pub RespondsAt : Whole → List ℕ → List ℕ → ℕ → EndOf OwnCard → ℤ → EndOf OwnCard → Type 0
RespondsAt whole asked bytes number end code new =
    (w : Wanted) × IsWantedIn whole asked end w × RespondsOne w bytes number end code new

abbrev pub RespondsOwn : List ℕ → ℕ → CardSide → ℤ → CardSide → Type 0
RespondsOwn bytes number (Own own) code new = (end : EndOf OwnCard)
    × (new ≡ Own (record own { end = end }))
    × RespondsAt own.whole own.asked.items bytes number own.end code end
RespondsOwn bytes number (OwnAtT1 at) code new = (end : EndOf OwnCard)
    × (new ≡ OwnAtT1 (with_own end at))
    × RespondsAt whole.Command at.asked.items bytes number (own_end at) code end
RespondsOwn bytes number side code new = (code ≡ gt_state) × (new ≡ side)

abbrev pub TellsSettled : CardSide → ℤ → Type 0
TellsSettled (Own own) code = code ≡ (if own.end.card.app.settled then pos 1 else pos 0)
TellsSettled (OwnAtT1 at) code =
    code ≡ (if (own_end at).card.app.settled then pos 1 else pos 0)
TellsSettled side code = code ≡ gt_state
