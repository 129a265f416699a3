-- A tap that hears one character after another.
use Rattle.std.specs.Prelude.{◌≡◌, List, [], ◌∷◌, None}
use Rattle.t0_core.specs.declared.heard.Heard.{Heard}
use Rattle.t0_core.specs.declared.heard.Heard.TheVariants as heard
use Rattle.t0_core.specs.Character.{Character}
use Rattle.t0_core.specs.Dialogue.{Dialogue}
use Rattle.t0_core.specs.TapSide.{Place, tap_fault_at, heard_at, after_hearing, SaysSo}

-- it takes each character, and returns these
abbrev pub HearsInTurn : Place → List Character → List Heard → Place → Type 0
HearsInTurn old [] told new = (told ≡ []) × (new ≡ old)
HearsInTurn old (c ∷ cs) [] new = ⊥
HearsInTurn old (c ∷ cs) (this ∷ told) new = (tap_fault_at old c.0 c.1 ≡ None)
    × (this ≡ heard_at old c.0 c.1) × HearsInTurn (after_hearing old c.0 c.1) cs told new

-- Each SW2 among its results reports one of the dialogues, in turn: its header and P3, the
-- direction and number of its data, and its status.
abbrev pub AreTold : List Heard → List Dialogue → Type 0
AreTold [] [] = Unit {0}
AreTold [] (d ∷ ds) = ⊥
AreTold (heard.SecondStatus said status ∷ told) [] = ⊥
AreTold (heard.SecondStatus said status ∷ told) (d ∷ ds) =
    SaysSo said d.body × (d.status ≡ status) × AreTold told ds
AreTold (heard.Header ∷ told) ds = AreTold told ds
AreTold (heard.Procedure step ∷ told) ds = AreTold told ds
AreTold (heard.Data direction ∷ told) ds = AreTold told ds
AreTold (heard.FirstStatus ∷ told) ds = AreTold told ds
