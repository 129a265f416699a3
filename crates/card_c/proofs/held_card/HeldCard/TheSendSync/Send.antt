-- What a handle holds names no thread, so it may go to another.
use denote.Struct.Struct.{exits_of}
use denote.Struct.Owning.{shape, fields, to}
use denote.Param.Send.{IsSend, AllSend, owning_send, struct_send, sendable}
use Rattle.std.proofs.alloc.Global.TheSendSync as handle
use Rattle.std_alloc.proofs.SendSync.{quiet}
use Rattle.card_c.specs.contracts.card_side.CardSide as side
use Rattle.card_c.proofs.card_side.CardSide.TheSendSync.{the_send as side_send}
use Rattle.card_c.specs.contracts.held_card.HeldCard.{the_row, the_type}
use Rattle.card_c.proofs.HeldSend.{held_goes}

pub send : IsSend the_row
send =
    let all : AllSend (fields the_type) = (search sendable, (handle.the_field_send, tt)) in
    owning_send the_type all (λ d. held_goes side.the_row side_send d.at d.alloc d.value)
    (λ k. quiet (to the_type) (exits_of k (fields the_type))
    ((struct_send (shape the_type) all).leaving k))
