-- What the calls on a card at T=1 do to it. A refusal changes nothing.
use Rattle.std.specs.Prelude.{◌≡◌, ◌⊎◌, ℕ, ℤ, ◌<◌, Bool, true, false, List, [], ◌++◌, take, length, Option, Some, None}
use Rattle.apdu_core.specs.CommandBytes.{Command, IsCommand, command_bytes}
use Rattle.t0_core.specs.CardSide.{EndOf}
use Rattle.t0_core.specs.CardTpdu.{rests}
use Rattle.t0_core.specs.Plan.{Cursor}
use Rattle.t1_core.specs.declared.applet.Applet.{Ghosts}
use Rattle.t1_core.specs.declared.card.Reply.{Reply}
use Rattle.t1_core.specs.declared.pcb.BlockReason.{BlockReason}
use Rattle.t1_core.specs.BlockBytes.{arrival_of, bytes_of, is_whole}
use Rattle.t1_core.specs.CardSide.{card_after, card_damaged, card_hears, replies, request_of}
use Rattle.t1_core.specs.Doing.{Goes, IsDue, Keeps, Steps}
use Rattle.object_card.specs.State.{CardState}
use Rattle.object_card.specs.CardMeaning.{Does}
use Rattle.object_card.specs.CardView.{CardView}
use Rattle.t1_terminal.specs.CardCommand.{DoesAt}
use Rattle.card_c.specs.declared.card_side.CardSide.{CardSide}
use Rattle.card_c.specs.declared.card_side.CardSide.TheVariants.{Standing, AtT1, Own, OwnAtT1}
use Rattle.card_c.specs.declared.card_side.CardT1Side.{CardT1Side}
use Rattle.card_c.specs.declared.own_side.OwnT1Side.{OwnT1Side}
use Rattle.card_c.specs.Codes.{gt_ok, gt_sends, gt_done, gt_state, gt_memory}
use Rattle.card_c.specs.Copying.{IsCopied}
use Rattle.card_c.specs.OwnT1.{is_idle, own_at_t0, own_begun}

-- the card above the end: its states, and what a command does to them
abbrev pub applet : Ghosts (EndOf CardView)
applet = record {
  LIMIT = 261;
  State = CardState;
  standing = λ end. end.card.state;
  Does = DoesAt Does;
  Refuses = λ s bytes. (c : Command) × IsCommand c × (bytes ≡ command_bytes c);
}

-- A card at rest begins to speak T=1: it has sent no block, and its end has all its memory.
abbrev pub begun : EndOf CardView → Cursor → CardT1Side
begun end plans = record {
  end = record { card = end; at = card_after []; over = false };
  block = [];
  reply = None;
  plans = plans;
}

abbrev pub at_t1 : CardSide → CardSide
at_t1 (Standing end plans) = AtT1 (begun end plans)
at_t1 (Own own) = OwnAtT1 (own_begun own)
at_t1 side = side

-- a card at T=0, with nothing in progress
abbrev pub may_begin : CardSide → Bool
may_begin (Standing end plans) = rests end.stage
may_begin (Own own) = is_idle own
may_begin side = false

abbrev pub BeginsT1 : CardSide → ℤ → CardSide → Type 0
BeginsT1 side code new = ((may_begin side ≡ false) × (code ≡ gt_state) × (new ≡ side))
    ⊎ ((may_begin side ≡ true) × (code ≡ gt_memory) × (new ≡ side))
    ⊎ ((may_begin side ≡ true) × (code ≡ gt_ok) × (new ≡ at_t1 side))

-- a card at T=1 speaks T=0 again
abbrev pub at_t0 : CardSide → CardSide
at_t0 (AtT1 at) = Standing at.end.card at.plans
at_t0 (OwnAtT1 at) = Own (own_at_t0 at)
at_t0 side = side

-- A call on a card at T=1 does this: on one of data objects, and on one of an own application. On
-- any other it writes nothing, and nothing changes.
abbrev pub OnLine : (CardT1Side → ℤ → CardT1Side → Type 0) → (OwnT1Side → ℤ → OwnT1Side → Type 0)
    → Type 0 → CardSide → ℤ → CardSide → Type 0
OnLine Calls OwnCalls Untold (AtT1 at) code new =
    (next : CardT1Side) × (new ≡ AtT1 next) × Calls at code next
OnLine Calls OwnCalls Untold (OwnAtT1 at) code new =
    (next : OwnT1Side) × (new ≡ OwnAtT1 next) × OwnCalls at code next
OnLine Calls OwnCalls Untold side code new = (code ≡ gt_state) × (new ≡ side) × Untold

-- The block of the reply is written. Before the terminal's first block, and after a block at which
-- memory ran out, no block is.
abbrev pub SendsOf : Option Reply → List ℕ → ℕ → List ℕ → ℕ → CardT1Side → ℤ → Type 0
SendsOf None room n room' n' at code = (code ≡ gt_done) × (room' ≡ room) × (n' ≡ n)
SendsOf (Some reply) room n room' n' at code =
    IsCopied (bytes_of (replies reply at.end.at)) room code room'
    × (n' ≡ length (bytes_of (replies reply at.end.at)))

abbrev pub SendsReply : List ℕ → ℕ → List ℕ → ℕ → CardT1Side → ℤ → CardT1Side → Type 0
SendsReply room n room' n' old code new =
    SendsOf old.reply room n room' n' old code × (new ≡ old)

-- Bytes of the terminal are taken up to the end of its block. With a whole block the end makes its
-- step, and replies. If memory runs out for a command, it is not carried out, and its last block is
-- as a lost one.
abbrev pub HearsBytes : List ℕ → ℕ → CardT1Side → ℤ → CardT1Side → Type 0
HearsBytes bytes n' old code new = (block : List ℕ) × (block ≡ old.block ++ take n' bytes)
    × ((k : ℕ) → k < n' → is_whole (old.block ++ take k bytes) ≡ false)
    × (new.plans ≡ old.plans)
    × (((is_whole block ≡ false) × (n' ≡ length bytes) × (code ≡ gt_ok)
    × (new ≡ record old { block = block }))
    ⊎ ((reply : Reply) × (is_whole block ≡ true) × (code ≡ gt_sends) × (new.block ≡ [])
    × (new.reply ≡ Some reply)
    × Steps applet (λ m c. card_hears m (arrival_of block) c) old.end reply new.end)
    ⊎ ((is_whole block ≡ true) × IsDue (arrival_of block) old.end
    × (request_of old.end.at.left ≡ None) × (code ≡ gt_memory) × (new.block ≡ [])
    × (new.reply ≡ None) × Keeps applet (λ c. c) old.end new.end))

-- no valid block arrived, for this reason
abbrev pub Misses : BlockReason → CardT1Side → ℤ → CardT1Side → Type 0
Misses why old code new = (reply : Reply) × (code ≡ gt_sends)
    × (new ≡ record old { block = []; reply = Some reply })
    × Goes (λ c. card_damaged why c) old.end reply new.end
