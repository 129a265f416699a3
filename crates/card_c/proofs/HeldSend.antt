-- What a handle points to names no thread, if its type names none, nor does what frees it.
use mir.Raw.{raw}
use base.Shift.{Keyless}
use denote.Memory.{lone}
use denote.RattleType.{RattleType}
use denote.RawPtr.{Ptr}
use denote.Param.Send.{IsSend}
use Rattle.std.specs.Prelude.{Option, Some, None}
use Rattle.std.specs.Global.{Global}
use Rattle.std.proofs.Crossing as heap
use Rattle.std_alloc.proofs.SendSync.{lies}
use Rattle.card_c.specs.HeldOwned.{held_owns}

pub held_goes : (R : RattleType) → IsSend R → (p : Ptr) (a : Global) (v : Option R.Denot)
    → Keyless (held_owns R p a v)
held_goes R goes p a None = tt
held_goes R goes p a (Some x) = (lies R goes p x, heap.frees.frees a (raw (lone R.mir)) p)
