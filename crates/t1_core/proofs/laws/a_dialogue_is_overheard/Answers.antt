use Rattle.t1_core.proofs.HeardPlaces.{overheard}
use Rattle.t1_core.proofs.laws.a_dialogue_is_overheard.Goals as goal

pub returns : goal.returns
returns c = λ at m settings before commands fates heard items tap h passes.
    overheard at m settings before commands fates tap.edc items _ h.divided passes
