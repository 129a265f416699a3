-- What the caller of a card of given responses does to it, as part of the card's history.
use Rattle.std.specs.Prelude.{◌≡◌, ◌⊎◌, ℕ, ◌≤◌, List, [], ◌∷◌, ◌++◌, length, Option, Some, None, Bool, true, false, is_some, if◌then◌else◌}
use Rattle.apdu_core.specs.CommandBytes.{Command}
use Rattle.apdu_core.specs.StatusWord.{count}
use Rattle.t0_core.specs.declared.direction.Direction.TheVariants.{ToCard}
use Rattle.t0_core.specs.declared.tpdu_card.TpduCard.{Ghosts}
use Rattle.t0_core.specs.CardSide.{EndOf}
use Rattle.t0_core.specs.Dialogue.{Body}
use Rattle.t0_core.specs.Front.{Front, In_header, In_body, After_first}
use Rattle.command_card.specs.declared.application.TheConstants.{OWN_RESPONSE_LIMIT}
use Rattle.command_card.specs.declared.given.Directions.TheVariants as way
use Rattle.command_card.specs.declared.own.Wanted.{Wanted}
use Rattle.command_card.specs.declared.own.Wanted.TheVariants as wanted
use Rattle.command_card.specs.Carrying.{IsOwn, asking, taking}
use Rattle.command_card.specs.Given.{Answer, Answers, GivenState, after_drop, at_rest, settled, takes_data, with_answer}
use Rattle.command_card.specs.Lending.{Happening, LeadsLent, Lent}
use Rattle.command_card.specs.Meaning.{Asks, Does, Kind, Takes, kind_in}
use Rattle.command_card.specs.State.{CardState, is_fetch}
use Rattle.command_card.specs.View.{CardOf, MayReceive, MaySend, after_reset, prepared_in, standing_in}
use Rattle.command_card.specs.AtT1.{shown}
use Rattle.command_card.specs.Wanted.{RespondsAs, is_known}

-- What a caller does to a card that it is lent.
pub data Giving : Type 0 where
  -- it gives a response, for the command that was shown, if one was
  Gave : (shown : Option Command) (answer : Answer) → Giving
  -- it states which way the data of the next header go
  Decided : (to_card : Bool) → Giving
  -- it takes back what it gave and stated
  TookBack : Giving
  -- It passes a whole command, and gets this response. `reached`: the application carried it out.
  Responded : (c : Command) (reached : Bool) (response : List ℕ) → Giving

-- A TPDU in progress tells this command of the application's own: P3 as Le, or its data, once all
-- of them came.
abbrev pub Tells : Body → Command → Kind → Type 0
Tells b c Asks = c ≡ asking b.header (count b.p3)
Tells b c Takes = (c ≡ taking b.header b.moved) × (length b.moved ≡ b.p3)
    × ((b.direction ≡ ToCard) ⊎ (b.moved ≡ []))
Tells b c other = ⊥

-- what was shown is the command of the TPDU in progress, whose direction the card knows
abbrev pub Shows : Option Command → Front → CardState GivenState → Type 0
Shows None front s = Unit {0}
Shows (Some c) (In_header bytes) s = ⊥
Shows (Some c) (In_body b) s =
    (is_known s.app.directions ≡ true) × Tells b c (kind_in takes_data s b.header b.p3)
Shows (Some c) (After_first b sw1) s = ⊥

-- the application carries out this whole command; the card refuses any other, or fetches
abbrev pub reaches : CardState GivenState → Command → Bool
reaches s c = if is_fetch c.header then false
    else is_some (shown (takes_data s.app c.header) c.header c.content c.le)

-- what `CommandCard::give`, `decide`, `take_back` and `respond` do
abbrev pub Lends : Giving → Front → CardState GivenState → CardState GivenState → Type 0
Lends (Gave shown a) front old new = Shows shown front old × (old.app.given ≡ None)
    × IsOwn a.status × (length a.bytes ≤ OWN_RESPONSE_LIMIT)
    × (new ≡ record old { app = with_answer old.app a.bytes a.status })
Lends (Decided to_card) front old new = (is_known old.app.directions ≡ false)
    × (new ≡ record old { app = record old.app { directions = way.Known to_card } })
Lends TookBack front old new = new ≡ record old { app = after_drop old.app }
Lends (Responded c reached response) front old new =
    (reached ≡ reaches old c) × RespondsAs old c response new

-- a card of given responses, as its end of the line sees it
abbrev pub given_card : Ghosts (CardOf GivenState)
given_card = record {
  State = CardState GivenState;
  standing = λ card. standing_in at_rest card;
  Does = Does takes_data Answers;
  after_reset = after_reset after_drop;
  MayReceive = MayReceive takes_data;
  MaySend = MaySend takes_data;
  prepared = λ card. prepared_in at_rest settled card;
}

-- these happenings led to the end of a card of given responses
abbrev pub LedLent : CardState GivenState → List (Happening Giving) → EndOf (CardOf GivenState)
    → Type 0
LedLent first happenings e = LeadsLent (Does takes_data Answers) (after_reset after_drop) Lends
    first happenings (standing_in at_rest e.card) (prepared_in at_rest settled e.card) e.stage

-- the command that is shown
abbrev pub shown_in : Wanted → Option Command
shown_in (wanted.Response c) = Some c
shown_in wanted.Nothing = None
shown_in (wanted.Direction h) = None

-- this was done to the card of an end, and what led there leads on
abbrev pub LeadsBy : Giving → EndOf (CardOf GivenState) → EndOf (CardOf GivenState) → Type 0
LeadsBy k old new = (first : CardState GivenState) (happenings : List (Happening Giving))
    → LedLent first happenings old → LedLent first (happenings ++ Lent k ∷ []) new

-- nothing was done to the card of an end, and what led there still leads there
abbrev pub LeadsStill : EndOf (CardOf GivenState) → EndOf (CardOf GivenState) → Type 0
LeadsStill old new = (first : CardState GivenState) (happenings : List (Happening Giving))
    → LedLent first happenings old → LedLent first happenings new
