-- What differs between the kinds of handles.
use Rattle.std.proofs.Common.{◌≡◌, List, []}
use lib.Dec.{T}
use mir.Syntax.{Sym}
use mir.Val.{Val}
use denote.Exit.{yes, Last, left}
use denote.RattleType.{RattleType}
use denote.RawPtr.{Ptr, null_ptr}
use denote.Param.Laws.{Laws}
use denote.Param.Mute.{blank}
use Rattle.std.specs.Prelude.{Option, Some, None}
use Rattle.std.specs.Global.{Global}
use Rattle.std.specs.contracts.alloc.Global as heap
use Rattle.std.proofs.alloc.Global.TheLaws as heap_laws
use Rattle.std.specs.contracts.impls.GlobalAllocator.TheImpl.{ghosts}
use Rattle.card_c.proofs.PointerValues.{block_owned, none_owned}

abbrev pub Z : RattleType
Z = heap.the_row

abbrev pub LZ : Laws Z
LZ = heap_laws.the_row_laws

-- A kind of handle. `content` is what it points to. The rest is about the struct that C sees: its
-- name and row, and how a value is made, seen and used up. `owns_some` and `owns_none` say what it
-- owns, `none_left` that nothing is left of a used value.
pub record Kind : Type 1 where
  pub content : RattleType
  pub name : Sym
  pub row : RattleType
  pub make : Ptr → Global → Option content.Denot → row.Denot
  pub value : row.Denot → Option content.Denot
  pub as_made : (d : row.Denot) → (p : Ptr) × ((a : Global) × (d ≡ make p a (value d)))
  pub valued : (p : Ptr) (a : Global) (v : Option content.Denot) → value (make p a v) ≡ v
  pub owns_some : (p : Ptr) (a : Global) (x : content.Denot) (vs : List Val)
      → block_owned Z LZ ghosts name [] content p a x vs ≡ row.own_val (make p a (Some x)) vs
  pub owns_none : (a : Global) (vs : List Val)
      → none_owned Z LZ ghosts name [] content a vs ≡ row.own_val (make null_ptr a None) vs
  pub last : (d : row.Denot) → Last (row.exit yes) d
  pub none_left : (d : row.Denot) (f : Last (row.exit yes) d) → T (blank (left (row.exit yes) d f))
