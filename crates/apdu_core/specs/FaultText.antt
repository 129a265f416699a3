-- The texts of errors.
use Rattle.std.specs.Prelude.{ℕ, List, codes}
use Rattle.apdu_core.specs.declared.command.ApduFault.{ApduFault}
use Rattle.apdu_core.specs.declared.command.ApduFault.TheVariants.{TooShort, BadLength, InvalidIns}

-- why bytes are not a command
abbrev pub fault_text : ApduFault → List ℕ
fault_text TooShort = codes "command too short"
fault_text BadLength = codes "bad command length"
fault_text InvalidIns = codes "invalid INS"
