-- The reasons to refuse a line of a script, with their texts.
use Rattle.std.specs.Prelude.{ℕ, List, ◌++◌, codes}
use Rattle.apdu_core.specs.declared.command.ApduFault.{ApduFault}
use Rattle.apdu_core.specs.declared.command.ApduFault.TheVariants as command
use Rattle.atr_core.specs.FaultText.{fault_text}
use Rattle.object_card.specs.declared.builder_fault.BuilderFault.{BuilderFault}
use Rattle.object_card.specs.declared.builder_fault.BuilderFault.TheVariants as builder
use Rattle.card_trace.specs.declared.script.reason.LineReason.{LineReason}
use Rattle.card_trace.specs.declared.script.reason.LineReason.TheVariants.{UnknownWord, LateTableLine, WrongWordCount, BadHex, BadTag, BadPlan, BadNumber, BadAid, BadAtr, ValueTooLong, CommandTooShort, BadCommandLength, InvalidIns, AtrTwice, AidTwice, TooManyApps, NoApp, NotObjects, TableFull}
use Rattle.card_trace.specs.declared.script.refusal.Refusal.{Refusal}
use Rattle.card_trace.specs.declared.script.refusal.Refusal.TheVariants.{Line, OutOfMemory}
use Rattle.card_trace.specs.declared.play_fault.PlayFault.{PlayFault}
use Rattle.card_trace.specs.declared.play_fault.PlayFault.TheVariants as play

-- the texts of the reasons
abbrev pub reason_text : LineReason → List ℕ
reason_text UnknownWord = codes "unknown word"
reason_text LateTableLine = codes "table line after the first run line"
reason_text WrongWordCount = codes "wrong number of words"
reason_text BadHex = codes "bad hex"
reason_text BadTag = codes "bad tag"
reason_text BadPlan = codes "bad plan"
reason_text BadNumber = codes "bad number"
reason_text BadAid = codes "bad aid"
reason_text (BadAtr fault) = codes "bad atr: " ++ fault_text fault
reason_text ValueTooLong = codes "value too long"
reason_text CommandTooShort = codes "command too short"
reason_text BadCommandLength = codes "bad command length"
reason_text InvalidIns = codes "invalid INS"
reason_text AtrTwice = codes "atr twice"
reason_text AidTwice = codes "aid twice"
reason_text TooManyApps = codes "too many apps"
reason_text NoApp = codes "no app"
reason_text NotObjects = codes "not objects"
reason_text TableFull = codes "table full"

-- the reason for bytes that are no command
abbrev pub reason_of_command : ApduFault → LineReason
reason_of_command command.TooShort = CommandTooShort
reason_of_command command.BadLength = BadCommandLength
reason_of_command command.InvalidIns = InvalidIns

-- the refusal of a line that the builder of the card refuses
abbrev pub refusal_of_builder : BuilderFault → Refusal
refusal_of_builder builder.Twice = Line AidTwice
refusal_of_builder builder.TooManyApps = Line TooManyApps
refusal_of_builder builder.NoApp = Line NoApp
refusal_of_builder builder.ValueTooLong = Line ValueTooLong
refusal_of_builder builder.NotObjects = Line NotObjects
refusal_of_builder builder.Full = Line TableFull
refusal_of_builder builder.OutOfMemory = OutOfMemory

-- the program's fault at a line that is refused
abbrev pub fault_at : ℕ → Refusal → PlayFault
fault_at line (Line reason) = play.Script line reason
fault_at line OutOfMemory = play.OutOfMemory

-- this holds of the reason; if memory ran out, nothing is promised
abbrev pub OnReason : Refusal → (LineReason → Type 0) → Type 0
OnReason (Line reason) P = P reason
OnReason OutOfMemory P = Unit {0}
