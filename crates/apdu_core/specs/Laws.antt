-- Words for the laws on the commands of a chain.
use Rattle.std.specs.Prelude.{◌≡◌, ◌+◌, ◌≤◌, List, [], ◌∷◌, ◌++◌, length, All, IsBitSet, None}
use Rattle.apdu_core.specs.declared.header.Header.{Header}
use Rattle.apdu_core.specs.CommandBytes.{Command, IsCommand}
use Rattle.apdu_core.specs.Chaining.{IsLast, as_last, ChainState, Accepts, added}

-- bit 5 of CLA (bit 4 counting from 0) is set in every command except the last
abbrev pub MoreInAllButLast : List Command → Type 0
MoreInAllButLast commands =
    (before : List Command) × (last : Command) × (commands ≡ before ++ last ∷ [])
    × All (λ c. IsBitSet c.header.cla 4) before × IsLast last.header

-- a command without Le, whose header differs from this one in bit 5 of CLA at most
pub record IsLink (header : Header) (c : Command) : Type 0 where
  pub command : IsCommand c
  pub same : as_last c.header ≡ header
  pub no_le : c.le ≡ None

-- the chain accepts each command in turn and has room for it; `after` is its state at the end
abbrev pub AreAdded : ChainState → List Command → ChainState → Type 0
AreAdded chain [] after = after ≡ chain
AreAdded chain (c ∷ others) after =
    Accepts chain c.header × (length chain.bytes + length c.content ≤ chain.limit)
    × AreAdded (added chain c.header c.content) others after
