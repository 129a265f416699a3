-- A block of the terminal and the card's reply, over the line.
use Rattle.std.specs.Prelude.{◌≡◌, ◌⊎◌, ℕ, List, [], ◌∷◌, Option, Some, None, true}
use Rattle.std.specs.Option.{option_map}
use Rattle.t1_core.specs.declared.applet.Applet.{Ghosts}
use Rattle.t1_core.specs.declared.card.Reply.{Reply}
use Rattle.t1_core.specs.declared.line.Fate.{Fate}
use Rattle.t1_core.specs.declared.line.Fate.TheVariants.{Delivers, Damages, Loses}
use Rattle.t1_core.specs.declared.line.Fates.{Fates}
use Rattle.t1_core.specs.Block.{Bad, Block, are_filled}
use Rattle.t1_core.specs.declared.pcb.BlockReason.TheVariants.{Other}
use Rattle.t1_core.specs.BlockBytes.{arrival_of}
use Rattle.t1_core.specs.CardSide.{Card, Meaning, Turn, card_hears, card_meets, replies}
use Rattle.t1_core.specs.Doing.{Carries, EndOf}
use Rattle.t1_core.specs.TerminalSide.{Terminal, sends, takes}
use Rattle.t1_core.specs.World.{arrives}

-- the line delivers, damages or loses a block; the card replies
abbrev pub Hears : {C : Type 0} (a : Ghosts C) → Fate → Block → EndOf C → Option Reply → EndOf C
    → Type 0
Hears a fate b old reply new = Carries a (λ m before later. card_meets m fate b before
    ≡ record { card = later; block = option_map (λ r. replies r new.at) reply }) old new

abbrev pub PassesWith : Meaning → Fates → Option Block → (old new : Terminal) →
    (before later : Card) → Type 0
PassesWith m fates None old new before later = (new ≡ old) × (later ≡ before)
PassesWith m fates (Some b) old new before later =
    let t = card_meets m fates.down b before in
    (new ≡ takes old (arrives fates.up t.block)) × (later ≡ t.card)
    × (are_filled (arrives fates.up t.block) ≡ true)

-- both ends make the steps of each meaning that agrees with what the card carries out
abbrev pub Passes : {C : Type 0} (a : Ghosts C) → Fates → (old new : Terminal)
    → (before later : EndOf C) → Type 0
Passes a fates old new before later =
    Carries a (λ m card card'. PassesWith m fates (sends old) old new card card') before later

-- What the ends hear of an exchange: what the line did with it. Or the line delivered the block of
-- the terminal, the card above refused the command that it ends, and there is no reply: as if the
-- block had been lost.
abbrev pub IsHeard : {C : Type 0} (a : Ghosts C) → (line heard : Fates) → Type 0
IsHeard a x y = (y ≡ x) ⊎ ((x.down ≡ Delivers) × (y ≡ record x { down = Loses })
    × (s : a.State) × (command : List ℕ) × a.Refuses s command)

abbrev pub AreHeard : {C : Type 0} (a : Ghosts C) → (line heard : List Fates) → Type 0
AreHeard a [] [] = Unit {0}
AreHeard a (x ∷ xs) (y ∷ ys) = IsHeard a x y × AreHeard a xs ys
AreHeard a xs ys = ⊥

-- ---- the same by bytes

-- what arrives of a block with these bytes: they, the bytes `noise` instead, or nothing
abbrev pub bytes_arrive : Fate → (noise bytes : List ℕ) → Option (List ℕ)
bytes_arrive Delivers noise bytes = Some bytes
bytes_arrive Damages noise bytes = Some noise
bytes_arrive Loses noise bytes = None

-- the card's end takes the bytes of a block, valid or not, or receives nothing
abbrev pub card_reads : Meaning → Option (List ℕ) → Card → Turn
card_reads m None c = record { card = c; block = None }
card_reads m (Some bytes) c = card_hears m (arrival_of bytes) c

-- so does the terminal's end; if it receives nothing, its time runs out
abbrev pub terminal_reads : Terminal → Option (List ℕ) → Terminal
terminal_reads t None = takes t (Bad Other)
terminal_reads t (Some bytes) = takes t (arrival_of bytes)
