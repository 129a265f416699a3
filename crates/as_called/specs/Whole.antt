-- A whole command at the card of an application: the response, and the calls of the application.
use Rattle.std.specs.Prelude.{ℕ, List}
use Rattle.apdu_core.specs.CommandBytes.{Command}
use Rattle.t1_core.specs.declared.applet.Applet.{Ghosts as AppletGhosts}
use Rattle.t1_core.specs.CardSide.{Did as Done}
use Rattle.command_card.specs.declared.application.Application.{Ghosts}
use Rattle.command_card.specs.AtT1.{DoesAt, Responds}
use Rattle.command_card.specs.Calls.{CallsFor, CallsForBytes}
use Rattle.command_card.specs.View.{AppletView, applet_in}

-- the card takes a command, and gives this response
pub record Takes {A : Type 0} (a : Ghosts A) (old : AppletView A) (c : Command)
    (response : List ℕ) (new : AppletView A) : Type 0 where
  pub responds : Responds a.takes a.Does (applet_in a.standing old) c response
      (applet_in a.standing new)
  pub called : CallsFor a.Called (a.takes (a.standing old.app)) old.app c new.app

-- the same for any bytes, as at T=1
pub record TakesBytes {A : Type 0} (a : Ghosts A) (old : AppletView A) (d : Done)
    (new : AppletView A) : Type 0 where
  pub does : DoesAt a.takes a.Does (applet_in a.standing old) d (applet_in a.standing new)
  pub called : CallsForBytes a.Called (a.takes (a.standing old.app)) old.app d.command new.app

-- the fields of a card that is called directly
pub record DirectOf (A : Type 0) : Type 0 where
  pub card : AppletView A
  pub said : List ℕ

-- the card above its end of a line at T=1: its state is all of it
abbrev pub at_t1 : {A : Type 0} (a : Ghosts A) → AppletGhosts (AppletView A)
at_t1 {A = A} a = record {
  LIMIT = 261;
  State = AppletView A;
  standing = λ c. c;
  Does = TakesBytes a;
  Refuses = λ s command. ⊥;
}
