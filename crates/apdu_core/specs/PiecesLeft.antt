-- What an iterator over the pieces of a value has left.
use Rattle.std.specs.Prelude.{List, []}
use Rattle.std.specs.Option.{option_map_or}
use Rattle.apdu_core.specs.CommandBytes.{Command}
use Rattle.apdu_core.specs.Chaining.{chain_commands}
use Rattle.apdu_core.specs.PieceList.{pieces_of}
use Rattle.apdu_core.specs.declared.cut.iter.Pieces.TheInside.{Inside}

-- the commands that are left
abbrev pub commands_left : Inside → List Command
commands_left pieces =
    option_map_or (λ left. chain_commands pieces.header (pieces_of left.now)) pieces.left []
