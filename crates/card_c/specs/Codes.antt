-- The numbers of the codes that exports return.
use Rattle.std.specs.Prelude.{ℤ, pos, negsuc}
use Rattle.atr_core.specs.declared.fault.AtrReason as atr
use Rattle.atr_core.specs.declared.pps.PpsFault as pps
use Rattle.object_card.specs.declared.builder_fault.BuilderFault as builder
use Rattle.t0_core.specs.declared.data_sent.DataSent as sent
use Rattle.t0_core.specs.declared.line_fault.LineFault as line
use Rattle.tlv_core.specs.declared.fault.Reason as reason
use Rattle.apdu_core.specs.declared.command.ApduFault as command
use Rattle.t0_core.specs.declared.answer_fault.AnswerFault as answer
use Rattle.t0_core.specs.declared.tpdu_fault.TpduFault as tpdu
use Rattle.t1_core.specs.declared.terminal.CommandFault as begin
use Rattle.t1_core.specs.declared.terminal.Cause as cause
use Rattle.t1_core.specs.declared.terminal.Outcome as outcome

abbrev pub gt_ok : ℤ
gt_ok = pos 0

abbrev pub gt_sends : ℤ
gt_sends = pos 1

abbrev pub gt_done : ℤ
gt_done = pos 2

abbrev pub gt_command : ℤ
gt_command = pos 3

abbrev pub gt_header : ℤ
gt_header = pos 4

abbrev pub gt_all_sent : ℤ
gt_all_sent = pos 10

abbrev pub gt_not_all_sent : ℤ
gt_not_all_sent = pos 11

abbrev pub gt_sent_unknown : ℤ
gt_sent_unknown = pos 12

abbrev pub sent_code : sent.DataSent → ℤ
sent_code sent.TheVariants.All = gt_all_sent
sent_code sent.TheVariants.NotAll = gt_not_all_sent
sent_code sent.TheVariants.NotKnown = gt_sent_unknown

-- negsuc n is -(n + 1): -2, and so on
abbrev pub gt_empty : ℤ
gt_empty = negsuc 1

abbrev pub gt_state : ℤ
gt_state = negsuc 2

abbrev pub gt_memory : ℤ
gt_memory = negsuc 3

abbrev pub gt_argument : ℤ
gt_argument = negsuc 4

abbrev pub gt_buffer : ℤ
gt_buffer = negsuc 5

abbrev pub gt_busy : ℤ
gt_busy = negsuc 6

abbrev pub gt_not_found : ℤ
gt_not_found = negsuc 7

abbrev pub gt_failed : ℤ
gt_failed = negsuc 8

abbrev pub gt_plans : ℤ
gt_plans = negsuc 9

abbrev pub builder_code : builder.BuilderFault → ℤ
builder_code builder.TheVariants.OutOfMemory = gt_memory
builder_code builder.TheVariants.Twice = negsuc 19
builder_code builder.TheVariants.TooManyApps = negsuc 20
builder_code builder.TheVariants.NoApp = negsuc 21
builder_code builder.TheVariants.ValueTooLong = negsuc 22
builder_code builder.TheVariants.NotObjects = negsuc 23
builder_code builder.TheVariants.Full = negsuc 24

abbrev pub line_code : line.LineFault → ℤ
line_code line.TheVariants.NotListening = negsuc 29
line_code (line.TheVariants.BadProcedure byte) = negsuc 30
line_code line.TheVariants.TooLong = negsuc 31
line_code line.TheVariants.Stalled = negsuc 32
line_code line.TheVariants.AfterEnd = negsuc 33

abbrev pub reason_code : reason.Reason → ℤ
reason_code reason.TheVariants.TagCut = negsuc 39
reason_code reason.TheVariants.TagForm = negsuc 40
reason_code reason.TheVariants.LengthCut = negsuc 41
reason_code reason.TheVariants.LengthForm = negsuc 42
reason_code reason.TheVariants.ValueCut = negsuc 43
reason_code reason.TheVariants.TooDeep = negsuc 44

abbrev pub command_code : command.ApduFault → ℤ
command_code command.TheVariants.TooShort = negsuc 49
command_code command.TheVariants.BadLength = negsuc 50
command_code command.TheVariants.InvalidIns = negsuc 51

abbrev pub gt_not_due : ℤ
gt_not_due = negsuc 59

abbrev pub gt_no_status : ℤ
gt_no_status = negsuc 60

abbrev pub gt_no_tpdu : ℤ
gt_no_tpdu = negsuc 63

abbrev pub answer_code : answer.AnswerFault → ℤ
answer_code answer.TheVariants.NotDue = gt_not_due
answer_code answer.TheVariants.NotAsked = negsuc 61
answer_code answer.TheVariants.TooMany = negsuc 62
answer_code answer.TheVariants.TooLong = negsuc 31
answer_code answer.TheVariants.Stalled = negsuc 32

abbrev pub tpdu_code : tpdu.TpduFault → ℤ
tpdu_code tpdu.TheVariants.UnderWay = gt_state
tpdu_code tpdu.TheVariants.NoTpdu = gt_no_tpdu
tpdu_code tpdu.TheVariants.WantsData = negsuc 64
tpdu_code tpdu.TheVariants.SendsData = negsuc 65
tpdu_code tpdu.TheVariants.TooLong = negsuc 31

abbrev pub atr_code : atr.AtrReason → ℤ
atr_code atr.TheVariants.NoTs = negsuc 69
atr_code atr.TheVariants.Cut = negsuc 70
atr_code atr.TheVariants.TooLong = negsuc 71
atr_code atr.TheVariants.OutOfOrder = negsuc 72
atr_code atr.TheVariants.Surplus = negsuc 73
atr_code atr.TheVariants.CheckMissing = negsuc 74
atr_code atr.TheVariants.CheckNotDue = negsuc 75
atr_code atr.TheVariants.CheckWrong = negsuc 76

abbrev pub pps_code : pps.PpsFault → ℤ
pps_code pps.TheVariants.NoPpss = negsuc 79
pps_code pps.TheVariants.Cut = negsuc 80
pps_code pps.TheVariants.Reserved = negsuc 81
pps_code pps.TheVariants.Surplus = negsuc 82
pps_code pps.TheVariants.CheckWrong = negsuc 83

abbrev pub begin_code : begin.CommandFault → ℤ
begin_code begin.TheVariants.NotReady = gt_state
begin_code begin.TheVariants.OutOfMemory = gt_memory

abbrev pub cause_code : cause.Cause → ℤ
cause_code cause.TheVariants.TriesSpent = negsuc 89
cause_code cause.TheVariants.ExtensionsSpent = negsuc 90
cause_code cause.TheVariants.Aborted = negsuc 91
cause_code cause.TheVariants.TooLong = negsuc 31

abbrev pub outcome_number : outcome.Outcome → ℤ
outcome_number outcome.TheVariants.NotCarriedOut = pos 0
outcome_number outcome.TheVariants.Unknown = pos 1
outcome_number outcome.TheVariants.InPart = pos 2
