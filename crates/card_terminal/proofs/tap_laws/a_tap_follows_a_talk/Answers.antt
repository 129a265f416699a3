use Rattle.std.proofs.Common.{◌≡◌, List, sym, subst, ◌∙◌}
use Rattle.std.specs.List.{AllByRecursion, flat_map}
use Rattle.t0_core.specs.declared.heard.Heard.{Heard}
use Rattle.t0_core.specs.Character.{Character}
use Rattle.t0_core.specs.Dialogue.{characters}
use Rattle.t0_core.specs.History.{IsByteEvent, passed}
use Rattle.t0_core.specs.TapLine.{AreTold, HearsInTurn}
use Rattle.t0_core.specs.TapSide.{afresh}
use Rattle.card_terminal.proofs.tap_laws.a_tap_follows_a_talk.Goals as goal

pub returns : goal.returns
returns g c = λ first last plans left operations replies line hearing talk hears kept bytes.
    let heard_is : hearing.heard ≡ flat_map characters talk.dialogues =
    (hears.all kept).1 ∙ talk.line_is in
    let Bytes : List Character → Type 0 = λ cs. AllByRecursion IsByteEvent (passed cs) in
    let Told : List Character → Type 0 =
    λ cs. (told : List Heard) × HearsInTurn afresh cs told afresh × AreTold told talk.dialogues in
    subst Told (sym heard_is)
    (c.a_tap_takes_dialogues_under_plans.ensures talk.dialogues plans talk.are_dialogues talk.follow
    (subst Bytes heard_is bytes))
