-- What the calls by whole TPDUs and commands do to a card of an own application.
use Rattle.std.specs.Prelude.{◌≡◌, ◌≢◌, ◌⊎◌, ◌<◌, ◌≤◌, ℕ, ℤ, List, [], length, Some, None, true, false}
use Rattle.apdu_core.specs.declared.command.ApduFault.{ApduFault}
use Rattle.apdu_core.specs.declared.command.ApduFault.TheVariants.{BadLength}
use Rattle.apdu_core.specs.CommandBytes.{Command, IsCommand, command_bytes}
use Rattle.t0_core.specs.CardSide.{EndOf}
use Rattle.t0_core.specs.CardTpdu.{rests}
use Rattle.t0_core.specs.TpduBytes.{Asked, asked_in}
use Rattle.command_card.specs.declared.own.Wanted.TheVariants as wanted
use Rattle.command_card.specs.Wanted.{RespondsAs, forgotten_by, wanted_by, wanted_for}
use Rattle.card_c.specs.declared.card_side.CardSide.{CardSide}
use Rattle.card_c.specs.declared.card_side.CardSide.TheVariants.{Own}
use Rattle.card_c.specs.declared.own_side.OwnSide.{OwnSide}
use Rattle.card_c.specs.declared.own_side.Whole.{Whole}
use Rattle.card_c.specs.declared.own_side.Whole.TheVariants.{Nothing, Tpdu, Command as Apdu}
use Rattle.card_c.specs.declared.own_whole.Went.{Went}
use Rattle.card_c.specs.declared.own_whole.Went.TheVariants.{Waits, Refused, Over}
use Rattle.card_c.specs.Codes.{gt_ok, gt_state, gt_memory, gt_buffer, command_code}
use Rattle.card_c.specs.Copying.{IsCopied}
use Rattle.card_c.specs.ExchangeCalls.{AreNone}
use Rattle.card_c.specs.OwnCalls.{IsEndWith, OwnCard, OwnDriven, own_card, wait_code, wanted_at}
use Rattle.card_c.specs.WholeCalls.{IsCarriedOut, IsRefusal, RefusesLength, data_room, longest_answer, longest_response}

-- nothing is written
abbrev pub Unwritten : List ℕ → ℕ → List ℕ → ℕ → Type 0
Unwritten room len room' len' = (room' ≡ room) × (len' ≡ len)

-- These bytes at the end and its plans. They are refused, for memory only if nothing is wanted; or
-- they are a TPDU that waits for the application; or they are one that is carried out. Only then
-- something changes.
abbrev pub TriesTpdu : List ℕ → List ℕ → ℕ → List ℕ → ℕ → OwnDriven → Went → OwnDriven → Type 0
TriesTpdu tpdu room len room' len' s went t =
    ((code : ℤ) × IsRefusal tpdu s.0.stage room code
    × (code ≡ gt_memory → wanted_at s.0.card (asked_in tpdu) ≡ wanted.Nothing)
    × (went ≡ Refused code) × (t ≡ s) × Unwritten room len room' len')
    ⊎ ((code : ℤ) × (asked : Asked) × (rests s.0.stage ≡ true) × (asked_in tpdu ≡ Some asked)
    × (longest_answer asked ≤ length room)
    × (wait_code (wanted_by s.0.card asked.header asked.p3 asked.content) ≡ Some code)
    × (went ≡ Waits code) × (t ≡ s) × Unwritten room len room' len')
    ⊎ ((code : ℤ) × (asked : Asked) × (rests s.0.stage ≡ true) × (asked_in tpdu ≡ Some asked)
    × (longest_answer asked ≤ length room)
    × (wait_code (wanted_by s.0.card asked.header asked.p3 asked.content) ≡ None)
    × (went ≡ Over code)
    × IsCarriedOut own_card tpdu s.0 s.1 (data_room asked) room len code t.0 t.1 room' len')

-- A command at an end at rest: the array is too small; it waits for the application; memory ran
-- out; or the response is written, and the card holds it no longer. It is the one that was given,
-- as far as Le asks for it.
abbrev pub TriesCommand : Command → List ℕ → ℕ → List ℕ → ℕ → EndOf OwnCard → Went
    → EndOf OwnCard → Type 0
TriesCommand c room len room' len' end went end' =
    ((length room < longest_response c) × (went ≡ Refused gt_buffer) × (end' ≡ end)
    × Unwritten room len room' len')
    ⊎ ((longest_response c ≤ length room) × (code : ℤ)
    × (wait_code (wanted_for end.card.app c) ≡ Some code) × (went ≡ Waits code) × (end' ≡ end)
    × Unwritten room len room' len')
    ⊎ ((longest_response c ≤ length room) × (wait_code (wanted_for end.card.app c) ≡ None)
    × (went ≡ Refused gt_memory) × IsEndWith end (forgotten_by end.card) end'
    × Unwritten room len room' len')
    ⊎ ((longest_response c ≤ length room) × (wait_code (wanted_for end.card.app c) ≡ None)
    × (went ≡ Over gt_ok) × (end'.stage ≡ end.stage) × (end'.card.fresh ≡ [])
    × (response : List ℕ)
    × RespondsAs (own_card.standing end.card) c response (own_card.standing end'.card)
    × IsCopied response room gt_ok room' × (len' ≡ length response))

-- Bytes at an end. A TPDU may have begun. The bytes may not be a command: then wrong lengths get
-- 6700. Or they are this command.
abbrev pub TriesBytes : List ℕ → List ℕ → ℕ → List ℕ → ℕ → EndOf OwnCard → Went → EndOf OwnCard
    → Type 0
TriesBytes apdu room len room' len' end went end' =
    ((rests end.stage ≡ false) × (went ≡ Refused gt_state) × (end' ≡ end)
    × Unwritten room len room' len')
    ⊎ ((fault : ApduFault) × (rests end.stage ≡ true) × AreNone apdu fault × (fault ≢ BadLength)
    × (went ≡ Refused (command_code fault)) × (end' ≡ end) × Unwritten room len room' len')
    ⊎ ((code : ℤ) × (rests end.stage ≡ true) × AreNone apdu BadLength × (went ≡ Refused code)
    × (end' ≡ end) × RefusesLength room len code room' len')
    ⊎ ((c : Command) × (rests end.stage ≡ true) × IsCommand c × (apdu ≡ command_bytes c)
    × TriesCommand c room len room' len' end went end')

-- what waits as a whole stays so
abbrev pub StillWaits : OwnSide → OwnSide → Type 0
StillWaits old new = (new.whole ≡ old.whole) × (new.asked.items ≡ old.asked.items)

-- After the first try of these bytes, with nothing that waits: they wait, if memory suffices.
abbrev pub Begins : Whole → List ℕ → OwnSide → Went → ℤ → OwnSide → Type 0
Begins kind bytes old (Waits waits) code new =
    ((code ≡ waits) × (new.whole ≡ kind) × (new.asked.items ≡ bytes))
    ⊎ ((code ≡ gt_memory) × (new.whole ≡ Nothing) × (new.asked.items ≡ []))
Begins kind bytes old (Refused why) code new = (code ≡ why) × StillWaits old new
Begins kind bytes old (Over says) code new = (code ≡ says) × StillWaits old new

-- After a further try of those that wait: nothing waits once they are carried out.
abbrev pub Continues : OwnSide → Went → ℤ → OwnSide → Type 0
Continues old (Waits waits) code new = (code ≡ waits) × StillWaits old new
Continues old (Refused why) code new = (code ≡ why) × StillWaits old new
Continues old (Over says) code new =
    (code ≡ says) × (new.whole ≡ Nothing) × (new.asked.items ≡ [])

-- A call with these bytes of one kind begins it if nothing waits as a whole. Without bytes it
-- continues what waits of that kind. Otherwise nothing changes.
abbrev pub Goes : Whole → (List ℕ → OwnSide → Went → OwnSide → Type 0) → Type 0 → List ℕ → OwnSide
    → ℤ → OwnSide → Type 0
Goes kind Tries Untold bytes own code new =
    ((went : Went) × (own.whole ≡ Nothing) × Tries bytes own went new
    × Begins kind bytes own went code new)
    ⊎ ((went : Went) × (own.whole ≡ kind) × (bytes ≡ []) × Tries own.asked.items own went new
    × Continues own went code new)
    ⊎ ((own.whole ≢ Nothing) × (own.whole ≡ kind → bytes ≢ []) × (code ≡ gt_state) × (new ≡ own)
    × Untold)

abbrev pub OwnTpduOne : List ℕ → List ℕ → ℕ → List ℕ → ℕ → OwnSide → ℤ → OwnSide → Type 0
OwnTpduOne tpdu room len room' len' own code new = Goes Tpdu
    (λ bytes s went t. TriesTpdu bytes room len room' len' (s.end, s.plans) went (t.end, t.plans))
    (Unwritten room len room' len') tpdu own code new

abbrev pub OwnTpdu : List ℕ → List ℕ → ℕ → List ℕ → ℕ → CardSide → ℤ → CardSide → Type 0
OwnTpdu tpdu room len room' len' (Own own) code new = (next : OwnSide) × (new ≡ Own next)
    × OwnTpduOne tpdu room len room' len' own code next
OwnTpdu tpdu room len room' len' side code new =
    (code ≡ gt_state) × (new ≡ side) × Unwritten room len room' len'

abbrev pub OwnCommandOne : List ℕ → List ℕ → ℕ → List ℕ → ℕ → OwnSide → ℤ → OwnSide → Type 0
OwnCommandOne apdu room len room' len' own code new = Goes Apdu
    (λ bytes s went t. TriesBytes bytes room len room' len' s.end went t.end × (t.plans ≡ s.plans))
    (Unwritten room len room' len') apdu own code new

abbrev pub OwnCommand : List ℕ → List ℕ → ℕ → List ℕ → ℕ → CardSide → ℤ → CardSide → Type 0
OwnCommand apdu room len room' len' (Own own) code new = (next : OwnSide) × (new ≡ Own next)
    × OwnCommandOne apdu room len room' len' own code next
OwnCommand apdu room len room' len' side code new =
    (code ≡ gt_state) × (new ≡ side) × Unwritten room len room' len'
