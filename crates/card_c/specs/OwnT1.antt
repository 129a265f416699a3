-- What the calls on a card of an own application at T=1 do to it. A refusal changes nothing.
use Rattle.std.specs.Prelude.{◌≡◌, ◌≢◌, ◌⊎◌, ⊤, ℕ, ℤ, ◌<◌, zero, suc, ◌&&◌, Bool, true, false, List, [], ◌++◌, take, length, Option, Some, None, MatchOption}
use Rattle.apdu_core.specs.CommandBytes.{Command, IsCommand, command_bytes}
use Rattle.t0_core.specs.CardSide.{EndOf}
use Rattle.t0_core.specs.CardTpdu.{rests}
use Rattle.t1_core.specs.declared.applet.Applet.{Ghosts}
use Rattle.t1_core.specs.declared.card.Reply.{Reply}
use Rattle.t1_core.specs.declared.pcb.BlockReason.{BlockReason}
use Rattle.t1_core.specs.BlockBytes.{arrival_of, bytes_of, is_whole}
use Rattle.t1_core.specs.CardSide.{card_after, replies}
use Rattle.t1_core.specs.Doing.{IsDue}
use Rattle.t1_core.specs.Patience as patience
use Rattle.t1_core.specs.Patience.{Asks, Hears, PatientOf, Takes, awaits, command_in}
use Rattle.command_card.specs.declared.given_applet.GivenApplet.{GivenApplet}
use Rattle.command_card.specs.declared.own.Wanted.{Wanted}
use Rattle.command_card.specs.declared.own.Wanted.TheVariants as wanted
use Rattle.command_card.specs.AtT1.{DoesBytes}
use Rattle.command_card.specs.Given.{GivenState, at_rest}
use Rattle.command_card.specs.State.{CardState}
use Rattle.command_card.specs.View.{standing_in}
use Rattle.command_card.specs.Wanted.{IsWanted, RespondsAtT1, taken_back}
use Rattle.card_c.specs.declared.card_side.CardSide.{CardSide}
use Rattle.card_c.specs.declared.card_side.CardSide.TheVariants.{Own, OwnAtT1}
use Rattle.card_c.specs.declared.own_side.OwnSide.{OwnSide}
use Rattle.card_c.specs.declared.own_side.OwnT1Side.{OwnT1Side}
use Rattle.card_c.specs.declared.own_side.Whole.{Whole}
use Rattle.card_c.specs.declared.own_side.Whole.TheVariants as whole
use Rattle.card_c.specs.Codes.{gt_ok, gt_sends, gt_done, gt_state, gt_memory, gt_argument}
use Rattle.card_c.specs.Copying.{IsCopied}
use Rattle.card_c.specs.OwnCalls.{Freely, IsEndWith, IsWantedAtT1, OwnCard, lent, own_end, wait_code}

-- the card above the end: each command gets the response that was given for it
abbrev pub own_applet : Ghosts GivenApplet
own_applet = record {
  LIMIT = 261;
  State = CardState GivenState;
  standing = λ applet. standing_in at_rest applet.end.card;
  Does = DoesBytes RespondsAtT1;
  Refuses = λ s bytes. (c : Command) × IsCommand c × (bytes ≡ command_bytes c);
}

-- nothing waits as a whole
abbrev pub is_nothing : Whole → Bool
is_nothing whole.Nothing = true
is_nothing whole.Null = false
is_nothing whole.Tpdu = false
is_nothing whole.Command = false

abbrev pub is_idle : OwnSide → Bool
is_idle own = rests own.end.stage && is_nothing own.whole

-- the card at T=1, as it begins and as it ends
abbrev pub own_begun : OwnSide → OwnT1Side
own_begun own = record {
  end = record {
    end = record { card = record { end = own.end }; at = card_after []; over = false };
    kept = [];
    asked = None;
  };
  block = [];
  reply = None;
  asked = own.asked;
  plans = own.plans;
}

abbrev pub own_at_t0 : OwnT1Side → OwnSide
own_at_t0 at = record {
  end = own_end at;
  plans = at.plans;
  whole = whole.Nothing;
  asked = at.asked;
}

-- what the sending call keeps of a command that waits
abbrev pub HasCommand : Option (List ℕ) → List ℕ → Type 0
HasCommand None bytes = bytes ≡ []
HasCommand (Some command) bytes = bytes ≡ command

-- The end makes its step with the block that waits, if one does. There is no reply only if the
-- block has the next field of a command.
abbrev pub TakesAgain : OwnT1Side → OwnT1Side → Type 0
TakesAgain old new = ((awaits old.end ≡ false) × (new ≡ old))
    ⊎ ((awaits old.end ≡ true) × (new.asked.items ≡ [])
    × (new ≡ record old { end = new.end; reply = new.reply; asked = new.asked })
    × Takes own_applet old.end.kept old.end new.reply new.end
    × (new.reply ≡ None → IsDue (arrival_of old.end.kept) old.end.end))

-- The code for what waits: a header, or the whole command. Otherwise memory ran out, for the copy
-- of a command or when it was carried out.
abbrev pub SendsWaiting : OwnT1Side → ℤ → OwnT1Side → Type 0
SendsWaiting old code new = ((awaits old.end ≡ false) × (code ≡ gt_done) × (new ≡ old))
    ⊎ ((awaits old.end ≡ true) × (new ≡ record old { asked = new.asked })
    × (((code ≡ gt_memory) × (command_in 261 old.end ≢ None) × (new.asked.items ≡ []))
    ⊎ (HasCommand (command_in 261 old.end) new.asked.items
    × (w : Wanted) × IsWantedAtT1 new w
    × MatchOption (wait_code w) (code ≡ gt_memory) (λ waits. code ≡ waits))))

-- The block of the reply is written. Without one, what waits is returned.
abbrev pub SendsOwnOf : Option Reply → List ℕ → ℕ → List ℕ → ℕ → OwnT1Side → ℤ → OwnT1Side → Type 0
SendsOwnOf None room n room' n' at code new =
    (room' ≡ room) × (n' ≡ n) × SendsWaiting at code new
SendsOwnOf (Some reply) room n room' n' at code new = (new ≡ at)
    × IsCopied (bytes_of (replies reply at.end.end.at)) room code room'
    × (n' ≡ length (bytes_of (replies reply at.end.end.at)))

abbrev pub SendsOwn : List ℕ → ℕ → List ℕ → ℕ → OwnT1Side → ℤ → OwnT1Side → Type 0
SendsOwn room n room' n' old code new = (at : OwnT1Side) × TakesAgain old at
    × SendsOwnOf at.reply room n room' n' at code new

-- A block of the terminal drops what was given for the command that waits.
abbrev pub DropsGiven : OwnT1Side → OwnT1Side → Type 0
DropsGiven old new = (end : EndOf OwnCard)
    × IsEndWith (own_end old) (taken_back (own_end old).card) end
    × (new ≡ record old { end = lent end old.end; asked = new.asked }) × (new.asked.items ≡ [])

-- A block of the terminal. Unless a request is in progress, there is no reply only if the block has
-- the next field of a command.
abbrev pub HearsOwnBlock : OwnT1Side → OwnT1Side → Type 0
HearsOwnBlock old new = (mid : OwnT1Side) × DropsGiven old mid × (new.block ≡ [])
    × (new ≡ record mid { end = new.end; block = new.block; reply = new.reply })
    × Hears own_applet old.block mid.end new.reply new.end
    × (mid.end.asked ≡ None → new.reply ≡ None → IsDue (arrival_of old.block) mid.end.end)

-- Bytes of the terminal are taken up to the end of its block. With a whole block the end makes its
-- step.
abbrev pub HearsOwn : List ℕ → ℕ → OwnT1Side → ℤ → OwnT1Side → Type 0
HearsOwn bytes n' old code new = (block : List ℕ) × (block ≡ old.block ++ take n' bytes)
    × ((k : ℕ) → k < n' → is_whole (old.block ++ take k bytes) ≡ false)
    × (((is_whole block ≡ false) × (n' ≡ length bytes) × (code ≡ gt_ok)
    × (new ≡ record old { block = block }))
    ⊎ ((is_whole block ≡ true) × (code ≡ gt_sends)
    × HearsOwnBlock (record old { block = block }) new))

-- no valid block arrived, for this reason
abbrev pub MissesOwn : BlockReason → OwnT1Side → ℤ → OwnT1Side → Type 0
MissesOwn why old code new = (mid : OwnT1Side) × DropsGiven old mid × (reply : Reply)
    × (code ≡ gt_sends)
    × (new ≡ record mid { end = new.end; block = []; reply = Some reply })
    × patience.Misses why mid.end reply new.end

-- The card at T=0 sends a NULL next, if a command waits by characters.
abbrev pub PausesFor : Wanted → ℕ → OwnSide → ℤ → OwnSide → Type 0
PausesFor (wanted.Response c) zero old code new = (code ≡ gt_argument) × (new ≡ old)
PausesFor (wanted.Response c) (suc n) old code new =
    (code ≡ gt_ok) × (new ≡ record old { whole = whole.Null })
PausesFor wanted.Nothing n old code new = (code ≡ gt_state) × (new ≡ old)
PausesFor (wanted.Direction h) n old code new = (code ≡ gt_state) × (new ≡ old)

abbrev pub PausesOne : ℕ → OwnSide → ℤ → OwnSide → Type 0
PausesOne multiple old code new =
    (w : Wanted) × IsWanted old.end w × PausesFor w multiple old code new

-- The card asks for more time, if the sending call has returned for a command, which has no
-- response yet.
abbrev pub AsksTimeFor : Wanted → ℕ → OwnT1Side → ℤ → OwnT1Side → Type 0
AsksTimeFor (wanted.Response c) zero old code new = (code ≡ gt_argument) × (new ≡ old)
AsksTimeFor (wanted.Response c) (suc n) old code new = (reply : Option Reply)
    × (end : PatientOf GivenApplet) × Asks (suc n) old.end reply end
    × MatchOption reply ((code ≡ gt_state) × (new ≡ old))
    (λ r. (code ≡ gt_ok) × (new.asked.items ≡ [])
    × (new ≡ record old { end = end; reply = reply; asked = new.asked }))
AsksTimeFor wanted.Nothing n old code new = (code ≡ gt_state) × (new ≡ old)
AsksTimeFor (wanted.Direction h) n old code new = (code ≡ gt_state) × (new ≡ old)

abbrev pub AsksTimeOne : ℕ → OwnT1Side → ℤ → OwnT1Side → Type 0
AsksTimeOne multiple old code new =
    (w : Wanted) × IsWantedAtT1 old w × AsksTimeFor w multiple old code new

abbrev pub AsksTime : ℕ → CardSide → ℤ → CardSide → Type 0
AsksTime multiple (OwnAtT1 at) code new =
    (next : OwnT1Side) × (new ≡ OwnAtT1 next) × AsksTimeOne multiple at code next
AsksTime multiple (Own own) code new =
    (next : OwnSide) × (new ≡ Own next) × Freely (PausesOne multiple) ⊤ own code next
AsksTime multiple side code new = (code ≡ gt_state) × (new ≡ side)
