-- What the call that carries out a whole TPDU does to a card.
use Rattle.std.specs.Prelude.{◌≡◌, ◌⊎◌, ℕ, ℤ, ◌≤◌, List, length, true, Some}
use Rattle.t0_core.specs.declared.tpdu_card.TpduCard.{Ghosts}
use Rattle.t0_core.specs.CardSide.{EndOf}
use Rattle.t0_core.specs.CardTpdu.{rests}
use Rattle.t0_core.specs.Plan.{Cursor}
use Rattle.t0_core.specs.TpduBytes.{Asked, asked_in}
use Rattle.object_card.specs.State.{CardState, after_reset}
use Rattle.object_card.specs.CardMeaning.{Does}
use Rattle.object_card.specs.CardView.{CardView}
use Rattle.object_card.specs.Instructions.{MayReceive, MaySend}
use Rattle.card_c.specs.declared.card_side.CardSide.{CardSide}
use Rattle.card_c.specs.declared.card_side.CardSide.TheVariants.{Standing}
use Rattle.card_c.specs.OwnWhole.{OwnTpdu}
use Rattle.card_c.specs.WholeCalls.{IsCarriedOut, IsRefusal, data_room, longest_answer}

-- the card of data objects, as its end of the line sees it
abbrev pub object_card : Ghosts CardView
object_card = record {
  State = CardState;
  standing = λ card. card.state;
  Does = Does;
  after_reset = after_reset;
  MayReceive = MayReceive;
  MaySend = MaySend;
  prepared = λ card. card.prepared;
}

abbrev pub CarriesOut : List ℕ → List ℕ → ℕ → List ℕ → ℕ → CardSide → ℤ → CardSide → Type 0
CarriesOut tpdu room len room' len' (Standing end plans) code new =
    (IsRefusal tpdu end.stage room code × (new ≡ Standing end plans) × (room' ≡ room)
    × (len' ≡ len))
    ⊎ ((asked : Asked) × (next : EndOf CardView) × (left : Cursor) × (rests end.stage ≡ true)
    × (asked_in tpdu ≡ Some asked) × (longest_answer asked ≤ length room)
    × (new ≡ Standing next left)
    × IsCarriedOut object_card tpdu end plans (data_room asked) room len code next left room' len')
CarriesOut tpdu room len room' len' side code new = OwnTpdu tpdu room len room' len' side code new
