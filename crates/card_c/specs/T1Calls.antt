-- What the calls on the handle of a terminal's end at T=1 do to it. A refusal changes nothing.
use Rattle.std.specs.Prelude.{◌≡◌, ◌⊎◌, ℕ, ℤ, ◌<◌, ◌==◌, Bool, true, false, List, [], ◌++◌, take, length, Option, Some, None, if◌then◌else◌}
use Rattle.t1_core.specs.declared.block.Control.TheVariants.{Wtx}
use Rattle.t1_core.specs.declared.settings.Edc.TheVariants.{Lrc}
use Rattle.t1_core.specs.declared.settings.Settings.{Settings}
use Rattle.t1_core.specs.declared.terminal.Fault.{Fault}
use Rattle.t1_core.specs.declared.pcb.BlockReason.{BlockReason}
use Rattle.t1_core.specs.Block.{Block, Response, Bad}
use Rattle.t1_core.specs.BlockBytes.{arrival_of, bytes_of, is_whole}
use Rattle.t1_core.specs.Settings as settings
use Rattle.t1_core.specs.TerminalSide.{begins, fault_of, fresh, has_stopped, is_ready, sends, takes}
use Rattle.card_c.specs.declared.t1_side.T1Side.{T1Side}
use Rattle.card_c.specs.Codes.{gt_ok, gt_sends, gt_done, gt_state, gt_memory, gt_argument, gt_not_found, gt_failed, cause_code, outcome_number}
use Rattle.card_c.specs.Copying.{IsCopied}

-- an error detection code and an IFSC that the end takes: 1 is LRC
abbrev pub IsTaken : ℕ → ℕ → Type 0
IsTaken edc ifsc = (edc ≡ 1) × (settings.fault_of Lrc ifsc ≡ None)

abbrev pub HasSettings : ℕ → ℕ → ℕ → ℕ → Settings → Type 0
HasSettings ifsc tries extensions limit s = (s.ifsc ≡ ifsc) × (s.tries ≡ tries)
    × (s.extensions ≡ extensions) × (s.limit ≡ limit)

-- an end as after a reset, in a handle that was empty
abbrev pub HasBegun : ℕ → ℕ → ℕ → ℕ → ℕ → Option T1Side → ℤ → Option T1Side → Type 0
HasBegun edc ifsc tries extensions limit (Some old) code new =
    (code ≡ gt_state) × (new ≡ Some old)
HasBegun edc ifsc tries extensions limit None code new =
    ((IsTaken edc ifsc → ⊥) × (code ≡ gt_argument) × (new ≡ None))
    ⊎ (IsTaken edc ifsc × (code ≡ gt_memory) × (new ≡ None))
    ⊎ (IsTaken edc ifsc × (code ≡ gt_ok)
    × (s : Settings) × HasSettings ifsc tries extensions limit s
    × (new ≡ Some (record { end = fresh s; block = [] })))

abbrev pub Begins : List ℕ → T1Side → ℤ → T1Side → Type 0
Begins apdu old code new =
    ((is_ready old.end.phase ≡ false) × (code ≡ gt_state) × (new ≡ old))
    ⊎ ((is_ready old.end.phase ≡ true) × (261 < length apdu) × (code ≡ gt_memory) × (new ≡ old))
    ⊎ ((is_ready old.end.phase ≡ true) × (code ≡ gt_ok)
    × (new ≡ record old { end = begins apdu old.end }))

-- the card's time for its answer to this block, as a multiple of BWT: the multiple that it asked
-- for, or 1
abbrev pub waits_for : Block → ℕ
waits_for (Response (Wtx multiple)) = if multiple == 0 then 1 else multiple
waits_for _ = 1

-- The next block is written. If no command is in progress, or if the end gave up, nothing is
-- written.
abbrev pub SendsOf : Option Block → Bool → List ℕ → ℕ → ℕ → ℤ → List ℕ → ℕ → ℕ → Type 0
SendsOf None ready room n waits code room' n' waits' =
    (code ≡ (if ready then gt_done else gt_failed)) × (room' ≡ room) × (n' ≡ n) × (waits' ≡ waits)
SendsOf (Some block) ready room n waits code room' n' waits' =
    IsCopied (bytes_of block) room code room' × (n' ≡ length (bytes_of block))
    × (waits' ≡ waits_for block)

abbrev pub SendsBlock : List ℕ → ℕ → ℕ → List ℕ → ℕ → ℕ → T1Side → ℤ → T1Side → Type 0
SendsBlock room n waits room' n' waits' old code new =
    SendsOf (sends old.end) (is_ready old.end.phase) room n waits code room' n' waits'
    × (new ≡ old)

-- Bytes of the card are taken up to the end of its block, and then the block.
abbrev pub ReceivesBytes : List ℕ → ℕ → ℕ → T1Side → ℤ → T1Side → Type 0
ReceivesBytes bytes n n' old code new =
    ((has_stopped old.end.phase ≡ true) × (code ≡ gt_state) × (n' ≡ n) × (new ≡ old))
    ⊎ ((block : List ℕ) × (has_stopped old.end.phase ≡ false)
    × (block ≡ old.block ++ take n' bytes)
    × ((k : ℕ) → k < n' → is_whole (old.block ++ take k bytes) ≡ false)
    × (((is_whole block ≡ false) × (n' ≡ length bytes) × (code ≡ gt_ok)
    × (new ≡ record old { block = block }))
    ⊎ ((is_whole block ≡ true) × (code ≡ gt_sends)
    × (new ≡ record { end = takes old.end (arrival_of block); block = [] }))))

-- no valid block arrived, for this reason, while one is expected
abbrev pub Misses : BlockReason → T1Side → ℤ → T1Side → Type 0
Misses why old code new =
    ((has_stopped old.end.phase ≡ true) × (code ≡ gt_state) × (new ≡ old))
    ⊎ ((has_stopped old.end.phase ≡ false) × (code ≡ gt_ok)
    × (new ≡ record { end = takes old.end (Bad why); block = [] }))

abbrev pub Resets : T1Side → ℤ → T1Side → Type 0
Resets old code new = (code ≡ gt_ok)
    × (new ≡ record { end = fresh old.end.settings; block = [] })

-- the response is written, unless a command is in progress or the end gave up
abbrev pub TellsResponse : List ℕ → ℕ → List ℕ → ℕ → T1Side → ℤ → T1Side → Type 0
TellsResponse room n room' n' old code new =
    (((is_ready old.end.phase ≡ false) × (code ≡ gt_state) × (room' ≡ room) × (n' ≡ n))
    ⊎ ((is_ready old.end.phase ≡ true) × IsCopied old.end.got room code room'
    × (n' ≡ length old.end.got)))
    × (new ≡ old)

-- why the end gave up, and what is known of the command, if it did
abbrev pub TellsFaultOf : Option Fault → ℤ → ℤ → ℤ → ℤ → ℤ → Type 0
TellsFaultOf None cause outcome code cause' outcome' =
    (code ≡ gt_not_found) × (cause' ≡ cause) × (outcome' ≡ outcome)
TellsFaultOf (Some fault) cause outcome code cause' outcome' = (code ≡ gt_ok)
    × (cause' ≡ cause_code fault.cause) × (outcome' ≡ outcome_number fault.outcome)

abbrev pub TellsFault : ℤ → ℤ → ℤ → ℤ → T1Side → ℤ → T1Side → Type 0
TellsFault cause outcome cause' outcome' old code new =
    TellsFaultOf (fault_of old.end) cause outcome code cause' outcome' × (new ≡ old)
