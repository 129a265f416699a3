-- What the call that carries out a whole command does to a card.
use Rattle.std.specs.Prelude.{◌≡◌, ◌≢◌, ◌⊎◌, ℕ, ℤ, ◌<◌, ◌≤◌, List, [], length, true, false, Ok}
use Rattle.apdu_core.specs.declared.command.ApduFault.{ApduFault}
use Rattle.apdu_core.specs.declared.command.ApduFault.TheVariants.{BadLength}
use Rattle.apdu_core.specs.CommandBytes.{Command, IsCommand, command_bytes}
use Rattle.t0_core.specs.CardSide.{EndOf}
use Rattle.t0_core.specs.CardTpdu.{rests}
use Rattle.object_card.specs.Agreed.{IsAgreed}
use Rattle.object_card.specs.CardMeaning.{Does}
use Rattle.object_card.specs.CardView.{CardView}
use Rattle.object_card.specs.Instructions.{MayReceive, MaySend}
use Rattle.apdu_terminal.specs.Apdus.{Pair}
use Rattle.apdu_terminal.specs.CardApdu.{Responds}
use Rattle.card_c.specs.declared.card_side.CardSide.{CardSide}
use Rattle.card_c.specs.declared.card_side.CardSide.TheVariants.{Standing}
use Rattle.card_c.specs.Codes.{gt_state, gt_memory, gt_buffer, command_code}
use Rattle.card_c.specs.ExchangeCalls.{AreNone}
use Rattle.card_c.specs.OwnWhole.{OwnCommand}
use Rattle.card_c.specs.WholeCalls.{RefusesLength, TellsAnswer, TellsNothing, longest_response, wrong_length}

-- The response of a card at rest, which is then at rest again. To a command that is not agreed with
-- it the response is 6700, and nothing changes. To any other it is what its own TPDUs bring.
pub record IsResponse (end : EndOf CardView) (p : Pair) (end' : EndOf CardView) : Type 0 where
  pub refuses : (¬ IsAgreed MayReceive MaySend p.command)
      → (p.status ≡ wrong_length) × (p.content ≡ []) × (end' ≡ end)
  pub responds : IsAgreed MayReceive MaySend p.command
      → Responds Does end.card.state p end'.card.state
  pub rests_again : rests end'.stage ≡ true

-- A command at a card at rest: the array is too small, or memory ran out, and nothing changes; or
-- the response is written.
abbrev pub RespondsToCommand : Command → EndOf CardView → List ℕ → ℕ → ℤ
    → EndOf CardView → List ℕ → ℕ → Type 0
RespondsToCommand c end room len code end' room' len' =
    ((length room < longest_response c) × TellsNothing gt_buffer room len code room' len'
    × (end' ≡ end))
    ⊎ ((longest_response c ≤ length room) × TellsNothing gt_memory room len code room' len'
    × (end' ≡ end))
    ⊎ ((p : Pair) × (longest_response c ≤ length room) × (p.command ≡ c) × IsResponse end p end'
    × TellsAnswer (Ok p.status) p.content room len code room' len')

-- Bytes at a card. A TPDU may have begun. The bytes may not be a command: then wrong lengths,
-- extended ones too, get 6700. Or they are this command.
abbrev pub RespondsTo : List ℕ → List ℕ → ℕ → List ℕ → ℕ → CardSide → ℤ → CardSide → Type 0
RespondsTo apdu room len room' len' (Standing end plans) code new =
    ((rests end.stage ≡ false) × TellsNothing gt_state room len code room' len'
    × (new ≡ Standing end plans))
    ⊎ ((fault : ApduFault) × (rests end.stage ≡ true) × AreNone apdu fault × (fault ≢ BadLength)
    × TellsNothing (command_code fault) room len code room' len' × (new ≡ Standing end plans))
    ⊎ ((rests end.stage ≡ true) × AreNone apdu BadLength × RefusesLength room len code room' len'
    × (new ≡ Standing end plans))
    ⊎ ((c : Command) × (next : EndOf CardView) × (rests end.stage ≡ true) × IsCommand c
    × (apdu ≡ command_bytes c) × RespondsToCommand c end room len code next room' len'
    × (new ≡ Standing next plans))
RespondsTo apdu room len room' len' side code new =
    OwnCommand apdu room len room' len' side code new
