-- What the lines of a script of `card` do: they build a card, and run its answer to reset and its
-- end.
use Rattle.std.specs.Prelude.{◌≡◌, ◌≢◌, ◌≤◌, ◌⊎◌, ℕ, List, [], ◌∷◌, ◌++◌, length, Option, Some, None, true, false}
use Rattle.t0_core.specs.declared.end.End.TheVariants.{Terminal, Card}
use Rattle.t0_core.specs.Character.{Character, sent_by}
use Rattle.t0_core.specs.Meaning.{Prepared}
use Rattle.t0_core.specs.Plan.{Course, plain}
use Rattle.t0_core.specs.History as history
use Rattle.t0_core.specs.History.{Event, passed}
use Rattle.t0_core.specs.CardSide.{Stage, listens}
use Rattle.t0_core.specs.CardHistory.{Leads, LeadsUnder}
use Rattle.object_card.specs.Tables.{Application}
use Rattle.object_card.specs.State.{CardState, after_reset}
use Rattle.object_card.specs.CardMeaning.{Does}
use Rattle.object_card.specs.Builder.{new_card}
use Rattle.card_trace.specs.declared.script.reason.LineReason.{LineReason}
use Rattle.card_trace.specs.declared.script.refusal.Refusal.TheVariants.{Line}
use Rattle.card_trace.specs.AnswerToReset.{AnswerToReset, at_first, characters_of, up_to, without, AreOfAnswer, RefusesAnswer}
use Rattle.card_trace.specs.PrintedText.{reset_text, not_listening_text}
use Rattle.card_trace.specs.TableText.{table_text}
use Rattle.card_trace.specs.TraceText.{handed_out_text}
use Rattle.card_trace.specs.declared.script.keyword.Keyword.{Keyword}
use Rattle.card_trace.specs.declared.script.keyword.Keyword.TheVariants as keywords
use Rattle.card_trace.specs.declared.script.section.Section.{Section}
use Rattle.card_trace.specs.Script.{Script, InTable}
use Rattle.card_trace.specs.ScriptCard.{Part, Adds, Atr, Plan, Act, Take, HandOut, Reset, Table, SaysPart, SaysAct, NoPart, NoAct}
use Rattle.card_trace.specs.Scripts.{IsAdded, IsNotAdded}

-- What led to a card's end. `events` are all events since the card was built, in the state `first`.
-- The rest is since the end was made or last reset: the state then (`start`), the characters, and
-- the plans that TPDUs took.
pub record Past : Type 0 where
  pub first : CardState
  pub events : List Event
  pub start : CardState
  pub characters : List Character
  pub taken : List Course

-- A card's end that runs: what led to it, the plans of the script that no TPDU has taken yet, the
-- card's state, what it has prepared, and how far the current TPDU is.
pub record RunningEnd : Type 0 where
  pub past : Past
  pub left : List Course
  pub standing : CardState
  pub prepared : Prepared CardState
  pub stage : Stage

-- All events led to the end, under some plans. The characters since the last reset led to it under
-- the plans taken: each TPDU took one with the card's first character after its header.
pub record IsLed (e : RunningEnd) : Type 0 where
  pub by_all : Leads Does after_reset e.past.first e.past.events e.standing e.prepared e.stage
  pub under_plans :
      LeadsUnder Does e.past.start e.past.characters e.past.taken e.standing e.prepared e.stage

-- TPDUs take these plans from those that are left: the next ones in order, and after the last the
-- plan without steps and with the cut 256.
abbrev pub TakeInTurn : List Course → List Course → List Course → Type 0
TakeInTurn left [] still_left = still_left ≡ left
TakeInTurn [] (plan ∷ taken) still_left = (plan ≡ plain) × TakeInTurn [] taken still_left
TakeInTurn (next ∷ left) (plan ∷ taken) still_left =
    (plan ≡ next) × TakeInTurn left taken still_left

-- A card that runs: its answer to reset, and its end.
pub record RunningCard : Type 0 where
  pub answer : AnswerToReset
  pub end : RunningEnd

-- the past, then these characters, which took these plans
abbrev pub extended : Past → List Character → List Course → Past
extended past characters taken = record {
  first = past.first;
  events = past.events ++ passed characters;
  start = past.start;
  characters = past.characters ++ characters;
  taken = past.taken ++ taken;
}

-- the past, then a reset, which leaves this state
abbrev pub reset_to : Past → CardState → Past
reset_to past state = record {
  first = past.first;
  events = past.events ++ history.Reset ∷ [];
  start = state;
  characters = [];
  taken = [];
}

-- the same card's end, after these characters
pub record ContinuesBy (old : RunningEnd) (characters : List Character) (new : RunningEnd) : Type 0
  where
    pub taken : List Course
    pub past_is : new.past ≡ extended old.past characters taken
    pub in_turn : TakeInTurn old.left taken new.left
    pub is_led : IsLed new

-- The same card's end after a reset. The plans that are left stay.
pub record IsReset (old new : RunningEnd) : Type 0 where
  pub past_is : new.past ≡ reset_to old.past new.standing
  pub same_left : new.left ≡ old.left
  pub standing_is : new.standing ≡ after_reset old.standing
  pub is_led : IsLed new

-- The end takes all characters, and nothing is printed. Or it takes those before one that it
-- refuses, since the card sends next, and `! not listening` is printed.
pub record TakesCharacters (old : RunningEnd) (bytes text : List ℕ) (new : RunningEnd)
    : Type 0 where
  pub taken : List ℕ
  pub refused : List ℕ
  pub all : bytes ≡ taken ++ refused
  pub continues : ContinuesBy old (sent_by Terminal taken) new
  pub prints : ((refused ≡ []) × (text ≡ []))
      ⊎ ((refused ≢ []) × (listens new.stage ≡ false) × (text ≡ not_listening_text))

-- at most `most` characters, and fewer only if the end then listens
abbrev pub IsEnough : Option ℕ → ℕ → Stage → Type 0
IsEnough None n stage = listens stage ≡ true
IsEnough (Some most) n stage = (n ≤ most) × ((listens stage ≡ true) ⊎ (n ≡ most))

-- the characters that the end hands out
pub record HandsOut (old : RunningEnd) (most : Option ℕ) (text : List ℕ) (new : RunningEnd)
    : Type 0 where
  pub handed : List ℕ
  pub continues : ContinuesBy old (sent_by Card handed) new
  pub is_enough : IsEnough most (length handed) new.stage
  pub prints : text ≡ handed_out_text handed

-- What a `>` line does: the card's end takes its characters, but none until the whole answer to
-- reset is handed out.
pub data Takes (old : RunningCard) (bytes text : List ℕ) (new : RunningCard) : Type 0 where
  listens_now : old.answer.left ≡ [] → TakesCharacters old.end bytes text new.end
      → new.answer ≡ old.answer → Takes old bytes text new
  answers_first : old.answer.left ≢ [] → new ≡ old → text ≡ not_listening_text
      → Takes old bytes text new

-- What a `<` line does: it hands out what is left of the answer to reset, or the first `most`
-- characters of that. If nothing is left, it hands out those of the card's end.
pub data HandsOutNext (old : RunningCard) (most : Option ℕ) (text : List ℕ) (new : RunningCard)
    : Type 0 where
  of_answer : old.answer.left ≢ [] → text ≡ handed_out_text (up_to most old.answer.left)
      → new ≡ record old { answer = without most old.answer } → HandsOutNext old most text new
  of_end : old.answer.left ≡ [] → HandsOut old.end most text new.end → new.answer ≡ old.answer
      → HandsOutNext old most text new

-- an act is carried out on the card, and prints this text
abbrev pub RunsLine : RunningCard → Act → List ℕ → RunningCard → Type 0
RunsLine old (Take bytes) text new = Takes old bytes text new
RunsLine old (HandOut most) text new = HandsOutNext old most text new
RunsLine old Reset text new = IsReset old.end new.end
    × (new.answer ≡ at_first old.answer.all) × (text ≡ reset_text)
RunsLine old Table text new =
    (new ≡ old) × (text ≡ table_text old.end.standing.applications)

-- the past of a card that was just built in this state
abbrev pub no_past : CardState → Past
no_past state = record { first = state; events = []; start = state; characters = []; taken = [] }

-- the end of a card with these tables that was just made, with all plans of the script
pub record IsFresh (tables : List Application) (plans : List Course) (e : RunningEnd) : Type 0 where
  pub past_is : e.past ≡ no_past (new_card tables).state
  pub all_left : e.left ≡ plans
  pub is_led : IsLed e

-- What table lines have added: the tables of the card, the plans, and the answer to reset, if the
-- script has one.
pub record Built : Type 0 where
  pub tables : List Application
  pub plans : List Course
  pub answer : Option (List ℕ)

-- the table with one more part
abbrev pub IsBuilt : Built → Part → Built → Type 0
IsBuilt old (Adds addition) new = (after : List Application) × IsAdded old.tables addition after
    × (new ≡ record old { tables = after })
IsBuilt old (Atr bytes) new =
    (old.answer ≡ None) × AreOfAnswer bytes × (new ≡ record old { answer = Some bytes })
IsBuilt old (Plan plan) new = new ≡ record old { plans = old.plans ++ plan ∷ [] }

-- why a part is refused: the builder's reason; or it is no answer to reset, or the second one
abbrev pub IsNotBuilt : Built → Part → LineReason → Type 0
IsNotBuilt old (Adds addition) reason = IsNotAdded old.tables addition (Line reason)
IsNotBuilt old (Atr bytes) reason = RefusesAnswer old.answer bytes reason
IsNotBuilt old (Plan plan) reason = ⊥

-- why a line says nothing
abbrev pub CardDenies : Section → Keyword → List (List ℕ) → LineReason → Type 0
CardDenies section (keywords.Adds word) fields reason =
    InTable section (NoPart (keywords.Adds word) fields) reason
CardDenies section keywords.Atr fields reason =
    InTable section (NoPart keywords.Atr fields) reason
CardDenies section keywords.Plan fields reason =
    InTable section (NoPart keywords.Plan fields) reason
CardDenies section keyword fields reason = NoAct keyword fields reason

-- the scripts of `card`
abbrev pub card_script : Script
card_script = record {
  Part = Part;
  Act = Act;
  Table = Built;
  Card = RunningCard;
  SaysPart = SaysPart;
  SaysAct = SaysAct;
  Denies = CardDenies;
  empty = record { tables = []; plans = []; answer = None };
  Adds = IsBuilt;
  Refuses = IsNotBuilt;
  Begins = λ built card. (card.answer ≡ at_first (characters_of built.answer))
      × IsFresh built.tables built.plans card.end;
  Does = RunsLine;
}
