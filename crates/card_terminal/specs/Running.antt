-- The operations of a list that a session has carried out, and their answers.
use Rattle.std.specs.Prelude.{List, length, take, drop, map}
use Rattle.apdu_core.specs.Shared.{Reply}
use Rattle.object_card.specs.OneStep.{Operation}
use Rattle.card_terminal.specs.declared.operation.Op.{Op}
use Rattle.card_terminal.specs.Operations.{operation_of}

-- the answers after those that the list held before
abbrev pub new_answers : List Reply → List Reply → List Reply
new_answers before now = drop (length before) now

-- the operations with these answers: as many, from the first
abbrev pub carried_out : {A : Type 0} → List (Op A) → List Reply → List Operation
carried_out ops answers = take (length answers) (map operation_of ops)
