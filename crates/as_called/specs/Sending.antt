-- How a whole command ends, in the fields of the card. For the proof: what the loop of `send` says.
use Rattle.std.specs.Prelude.{◌≡◌, Bool, true, false}
use Rattle.apdu_core.specs.CommandBytes.{Command}
use Rattle.apdu_core.specs.StatusWord.{StatusWord}
use Rattle.apdu_terminal.specs.ApduSide.{ApduExchangeOf}
use Rattle.apdu_terminal.specs.declared.stage.Stage.TheVariants.{Done}
use Rattle.t1_core.specs.declared.terminal.Fault.{Fault}
use Rattle.t1_core.specs.declared.terminal.Outcome.{Outcome}
use Rattle.t1_core.specs.declared.terminal.Outcome.TheVariants.{InPart}
use Rattle.command_card.specs.declared.application.Application.{Ghosts}
use Rattle.command_card.specs.Calls.{CallsFor}
use Rattle.command_card.specs.View.{AppletView, applet_in}
use Rattle.as_called.specs.AsIfCalled.{AsIfCalled, By_whole}
use Rattle.as_called.specs.Faults.{IsLeft, IsTrue}

-- the calls of the application for a command
abbrev pub HasCalls : {A : Type 0} (a : Ghosts A) → AppletView A → Command → AppletView A → Type 0
HasCalls a old c new = CallsFor a.Called (a.takes (a.standing old.app)) old.app c new.app

-- the exchange has ended, and its data and status are as if the application had been called
pub record HasEnded {A : Type 0} (a : Ghosts A) (old : AppletView A) (c : Command)
    (ex : ApduExchangeOf) (new : AppletView A) : Type 0 where
  pub status : StatusWord
  pub done : ex.stage ≡ Done status
  pub as_if : AsIfCalled a.takes a.Does By_whole (applet_in a.standing old) c ex.gather.bytes
      status (applet_in a.standing new)
  pub called : HasCalls a old c new

-- there was a fault with this outcome
pub record HasStopped {A : Type 0} (a : Ghosts A) (old : AppletView A) (c : Command)
    (outcome : Outcome) (new : AppletView A) : Type 0 where
  pub left : IsLeft a.takes a.Does (a.standing old.app) c outcome (a.standing new.app)
  pub called : IsTrue outcome (new.app ≡ old.app) (HasCalls a old c new)

-- the fault of the whole command: after the first response it has been carried out
abbrev pub of_all : Bool → Fault → Fault
of_all true fault = fault
of_all false fault = record { cause = fault.cause; outcome = InPart }
