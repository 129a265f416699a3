use Rattle.std.proofs.Common.{◌≡◌, drop}
use Rattle.std.specs.Option.{option_copied, option_or}
use Rattle.trace_explain.specs.Files.{file_at}
use Rattle.trace_explain.proofs.read.files.FileList.file.Given as goal

-- The last one of the rest, or else of those so far.
abbrev pub invariant-loop-part : goal.invariant-loop-part
invariant-loop-part l = file_at l.self.parts.items l.line
    ≡ option_or (file_at (drop l.part-index l.self.parts.items) l.line) (option_copied l.found)
