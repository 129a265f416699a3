use Rattle.apdu_terminal.proofs.DrivenLemmas.{is_taken, none_fails}
use Rattle.apdu_terminal.proofs.StallLemmas.{sound_after}
use Rattle.apdu_terminal.proofs.stop_laws.a_card_of_data_objects_is_taken.Goals as goal

pub returns-clause-taken : goal.returns-clause-taken
returns-clause-taken c = is_taken

pub returns-clause-fine : goal.returns-clause-fine
returns-clause-fine c = none_fails

pub returns-clause-sound : goal.returns-clause-sound
returns-clause-sound c = sound_after
