-- What the call that sends any one command does to a session. A refusal changes nothing.
use Rattle.std.specs.Prelude.{◌≡◌, ◌⊎◌, ℕ, ℤ, List, [], Some, None}
use Rattle.std.specs.List.{flat_map}
use Rattle.apdu_core.specs.declared.command.ApduFault.{ApduFault}
use Rattle.apdu_core.specs.CommandBytes.{Command, IsCommand, command_bytes}
use Rattle.t0_core.specs.Plan.{Course}
use Rattle.apdu_core.specs.Shared.{Reply}
use Rattle.object_card.specs.CardMeaning.{Does}
use Rattle.object_card.specs.Agreed.{IsAgreed}
use Rattle.object_card.specs.Instructions.{MayReceive, MaySend}
use Rattle.exchange_core.specs.Gathered.{UnitOf, Gathers, dialogues_of}
use Rattle.card_terminal.specs.Conversing.{point, HaveGone}
use Rattle.card_c.specs.declared.card_side.CardSide.{CardSide}
use Rattle.card_c.specs.declared.card_side.CardSide.TheVariants.{Joined}
use Rattle.card_c.specs.declared.session_side.SessionSide.{SessionSide}
use Rattle.card_c.specs.Codes.{gt_ok, gt_state, gt_memory, gt_argument, command_code}
use Rattle.card_c.specs.ExchangeCalls.{AreNone}
use Rattle.card_c.specs.SessionCalls.{IsAsBefore, beginning}

-- The command has its answer, gathered from units on the line under the plans, which are then used
-- up.
pub record HasBeenSent (c : Command) (old new : SessionSide) : Type 0 where
  pub reply : Reply
  pub answer_is : new.answer ≡ Some reply
  pub plans_are : new.plans.items ≡ []
  pub listens_is : new.listens ≡ old.listens
  pub units : List UnitOf
  pub gathered : Gathers c units reply.content reply.status
  pub left : List Course
  pub gone : HaveGone Does (point old.session.state old.plans.items (beginning old.listens))
      (flat_map dialogues_of units) (point new.session.state left new.heard)

-- One command that is agreed with the card. If memory for its answer runs out, which takes the room
-- of the last one, nothing is sent.
abbrev pub SendsAgreed : Command → SessionSide → ℤ → SessionSide → Type 0
SendsAgreed c old code new =
    ((code ≡ gt_memory) × (old.answer ≡ None) × IsAsBefore old new)
    ⊎ ((code ≡ gt_ok) × HasBeenSent c old new)

-- the command that these bytes are
abbrev pub SendsBytes : List ℕ → CardSide → ℤ → CardSide → Type 0
SendsBytes bytes (Joined session) code new =
    ((fault : ApduFault) × AreNone bytes fault × (code ≡ command_code fault)
    × (new ≡ Joined session))
    ⊎ ((c : Command) × IsCommand c × (bytes ≡ command_bytes c)
    × (¬ IsAgreed MayReceive MaySend c) × (code ≡ gt_argument) × (new ≡ Joined session))
    ⊎ ((c : Command) × (next : SessionSide) × IsCommand c × (bytes ≡ command_bytes c)
    × IsAgreed MayReceive MaySend c × (new ≡ Joined next) × SendsAgreed c session code next)
SendsBytes bytes side code new = (code ≡ gt_state) × (new ≡ side)
