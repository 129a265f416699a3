-- The operations of a session, as those of the one-step card.
use Rattle.object_card.specs.OneStep.{Operation, Select, Get, Put}
use Rattle.card_terminal.specs.declared.operation.Op.{Op}
use Rattle.card_terminal.specs.declared.operation.Op.TheVariants as op

abbrev pub operation_of : {A : Type 0} → Op A → Operation
operation_of (op.Select aid) = Select aid
operation_of (op.Get tag) = Get tag
operation_of (op.Put tag value) = Put tag value
