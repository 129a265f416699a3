-- How contracts see the stages of a tap.
use Rattle.std.specs.Prelude.{◌≡◌, ◌≤◌, length, take}
use Rattle.t0_core.specs.declared.tap.TapStage.{TapStage}
use Rattle.t0_core.specs.declared.tap.TapStage.TheVariants as stage
use Rattle.t0_core.specs.TapSide.{Place, In_opening, Between, In_data, After_sw1, IsPlace}

abbrev pub place_of : TapStage → Place
place_of (stage.Opening bytes taken) = In_opening (take taken bytes)
place_of (stage.Awaiting said) = Between said
place_of (stage.Moving said until) = In_data said until
place_of (stage.AwaitingSecond said sw1) = After_sw1 said sw1

abbrev pub IsHeldAt : TapStage → Type 0
IsHeldAt (stage.Opening bytes taken) = (length bytes ≡ 4) × (taken ≤ 4)
IsHeldAt (stage.Awaiting said) = IsPlace (Between said)
IsHeldAt (stage.Moving said until) = IsPlace (In_data said until)
IsHeldAt (stage.AwaitingSecond said sw1) = IsPlace (After_sw1 said sw1)
