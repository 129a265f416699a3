-- What a handle owns: nothing if it is empty, otherwise the block with its value.
use Rattle.std.specs.Prelude.{Option, Some, None}
use Rattle.std.specs.Global.{Global}
use Rattle.std.specs.contracts.impls.GlobalAllocator.TheImpl.{ghosts}
use base.Fml.{Fml, ftrue}
use denote.RattleType.{RattleType}
use denote.RawPtr.{Ptr}
use Rattle.std_alloc.specs.Box.Ownership.{box_owns}

abbrev pub held_owns : (R : RattleType) → Ptr → Global → Option R.Denot → Fml
held_owns R p a None = ftrue
held_owns R p a (Some x) = box_owns (ghosts.dealloc_token a) R p x
