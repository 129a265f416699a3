-- What the lines of a script of `play` do: they build a card, and run it in a session.
use Rattle.std.specs.Prelude.{◌≡◌, ℕ, List, [], ◌∷◌, ◌++◌, true, false}
use Rattle.std.specs.List.{AllByRecursion, flat_map}
use Rattle.apdu_core.specs.CommandBytes.{Command, IsCommand, command_bytes}
use Rattle.t0_core.specs.Character.{Character}
use Rattle.t0_core.specs.Dialogue.{IsDialogue, characters}
use Rattle.t0_core.specs.Meaning.{Runs}
use Rattle.t0_core.specs.Plan.{Course, FollowInTurn}
use Rattle.object_card.specs.Tables.{Application}
use Rattle.object_card.specs.State.{CardState, is_idle, after_reset}
use Rattle.apdu_core.specs.Shared.{Reply}
use Rattle.object_card.specs.OneStep.{Operation}
use Rattle.object_card.specs.CardMeaning.{Does}
use Rattle.object_card.specs.declared.builder_fault.BuilderFault.{BuilderFault}
use Rattle.object_card.specs.Builder.{TakesApplication, TakesObject, RefusesApplication, RefusesObject, with_application, with_last_entry, new_card}
use Rattle.exchange_core.specs.Gathered.{UnitOf, Gathers, dialogues_of}
use Rattle.card_terminal.specs.Talk.{Talk}
use Rattle.card_trace.specs.declared.script.refusal.Refusal.{Refusal}
use Rattle.card_trace.specs.declared.script.refusal.Refusal.TheVariants.{Line}
use Rattle.card_trace.specs.PrintedText.{reset_text, busy_text}
use Rattle.card_trace.specs.TableText.{table_text}
use Rattle.card_trace.specs.TraceText.{operation_text}
use Rattle.card_trace.specs.ScriptReasons.{refusal_of_builder}
use Rattle.card_trace.specs.declared.script.keyword.Keyword.{Keyword}
use Rattle.card_trace.specs.declared.script.keyword.Keyword.TheVariants as keywords
use Rattle.card_trace.specs.declared.script.reason.LineReason.{LineReason}
use Rattle.card_trace.specs.declared.script.section.Section.{Section}
use Rattle.card_trace.specs.NoFields.{NoAddition}
use Rattle.card_trace.specs.Script.{Script, InTable}
use Rattle.card_trace.specs.ScriptTable.{Addition, App, Object, Locked, SaysAddition}
use Rattle.card_trace.specs.ScriptPlay.{Act, Plan, Run, Send, Reset, Table, SaysAct, NoAct}

-- the card in its session, and the plans since the last operation
pub record InSession : Type 0 where
  pub card : CardState
  pub plans : List Course

-- the tables can take what a table line adds, and then have it
abbrev pub IsAdded : List Application → Addition → List Application → Type 0
IsAdded old (App aid) new = TakesApplication aid old × (new ≡ with_application aid old)
IsAdded old (Object tag value) new =
    TakesObject tag value old × (new ≡ with_last_entry tag value false old)
IsAdded old (Locked tag value) new =
    TakesObject tag value old × (new ≡ with_last_entry tag value true old)

-- why the builder refuses to add it
abbrev pub Refuses : List Application → Addition → BuilderFault → Type 0
Refuses old (App aid) fault = RefusesApplication aid old fault
Refuses old (Object tag value) fault = RefusesObject tag value old fault
Refuses old (Locked tag value) fault = RefusesObject tag value old fault

-- what a table line adds is not added, and the line is refused because of this
abbrev pub IsNotAdded : List Application → Addition → Refusal → Type 0
IsNotAdded old addition refusal =
    (fault : BuilderFault) × Refuses old addition fault × (refusal ≡ refusal_of_builder fault)

-- An operation: its talk with the card under the plans, and its answer. If a chain is pending,
-- nothing is sent. In both cases the plans are dropped.
pub data IsRun (card : CardState) (plans : List Course) (operation : Operation)
    : List ℕ → InSession → Type 0 where
  talks : (reply : Reply) (after : CardState) (left : List Course) (line : List Character)
      → is_idle card.pending ≡ true
      → Talk Does card plans (operation ∷ []) (reply ∷ []) after left line
      → IsRun card plans operation (operation_text line reply)
      (record { card = after; plans = [] })
  is_busy : is_idle card.pending ≡ false
      → IsRun card plans operation busy_text (record { card = card; plans = [] })

-- one command: its exchange with the card under the plans, and its answer
pub record IsSent (card : CardState) (plans : List Course) (bytes text : List ℕ)
    (new : InSession) : Type 0 where
  pub command : Command
  pub is_command : IsCommand command
  pub bytes_are : bytes ≡ command_bytes command
  pub units : List UnitOf
  pub reply : Reply
  pub gathers : Gathers command units reply.content reply.status
  pub after : CardState
  pub are_dialogues : AllByRecursion IsDialogue (flat_map dialogues_of units)
  pub follow : FollowInTurn (flat_map dialogues_of units) plans
  pub runs : Runs Does card (flat_map dialogues_of units) plans after
  pub text_is : text ≡ operation_text (flat_map characters (flat_map dialogues_of units)) reply
  pub new_is : new ≡ record { card = after; plans = [] }

-- an act is carried out, and prints this text
abbrev pub PlaysAct : InSession → Act → List ℕ → InSession → Type 0
PlaysAct old (Plan plan) text new =
    (text ≡ []) × (new ≡ record old { plans = old.plans ++ plan ∷ [] })
PlaysAct old (Run operation) text new = IsRun old.card old.plans operation text new
PlaysAct old (Send bytes) text new = IsSent old.card old.plans bytes text new
PlaysAct old Reset text new =
    (text ≡ reset_text) × (new ≡ record old { card = after_reset old.card })
PlaysAct old Table text new = (text ≡ table_text old.card.applications) × (new ≡ old)

-- why a line says nothing
abbrev pub PlayDenies : Section → Keyword → List (List ℕ) → LineReason → Type 0
PlayDenies section (keywords.Adds word) fields reason =
    InTable section (NoAddition word fields) reason
PlayDenies section keyword fields reason = NoAct keyword fields reason

-- the scripts of `play`
abbrev pub play_script : Script
play_script = record {
  Part = Addition;
  Act = Act;
  Table = List Application;
  Card = InSession;
  SaysPart = SaysAddition;
  SaysAct = SaysAct;
  Denies = PlayDenies;
  empty = [];
  Adds = IsAdded;
  Refuses = λ tables addition reason. IsNotAdded tables addition (Line reason);
  Begins = λ tables session. session ≡ record { card = (new_card tables).state; plans = [] };
  Does = PlaysAct;
}
