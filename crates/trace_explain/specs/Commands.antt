-- Which TPDUs are one command.
use Rattle.std.specs.Prelude.{Bool, true, false, not, ◌==◌}
use Rattle.trace_explain.specs.declared.follow.links.Link.{Link}
use Rattle.trace_explain.specs.declared.follow.links.Link.TheVariants.{None, Piece}

-- A TPDU with this link continues the command of the one right before it: it repeats that after
-- `6CXX`, fetches a part of the response, or is a piece of the chain, not the first. Nothing of the
-- dialogue is between them.
abbrev pub continues : Link → Bool
continues None = false
continues (Piece n) = not (n == 1)
continues other = true
