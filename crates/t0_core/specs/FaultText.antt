-- The texts of errors.
use Rattle.std.specs.Prelude.{ℕ, List, codes}
use Rattle.t0_core.specs.declared.line_fault.LineFault.{LineFault}
use Rattle.t0_core.specs.declared.line_fault.LineFault.TheVariants.{BadProcedure, AfterEnd, TooLong, Stalled, NotListening}
use Rattle.t0_core.specs.declared.answer_fault.AnswerFault.{AnswerFault}
use Rattle.t0_core.specs.declared.answer_fault.AnswerFault.TheVariants as answer
use Rattle.t0_core.specs.declared.tpdu_fault.TpduFault.{TpduFault}
use Rattle.t0_core.specs.declared.tpdu_fault.TpduFault.TheVariants as tpdu

-- why a terminal refuses a character
abbrev pub fault_text : LineFault → List ℕ
fault_text (BadProcedure byte) = codes "bad procedure byte"
fault_text AfterEnd = codes "character after the end"
fault_text TooLong = codes "response too long"
fault_text Stalled = codes "response stalled"
fault_text NotListening = codes "character out of turn"

-- why a terminal refuses the answer to a whole TPDU
abbrev pub answer_fault_text : AnswerFault → List ℕ
answer_fault_text answer.NotDue = codes "no answer due"
answer_fault_text answer.NotAsked = codes "data not asked for"
answer_fault_text answer.TooMany = codes "more data than asked for"
answer_fault_text answer.TooLong = codes "response too long"
answer_fault_text answer.Stalled = codes "response stalled"

-- why a card's end does not carry out a whole TPDU
abbrev pub tpdu_fault_text : TpduFault → List ℕ
tpdu_fault_text tpdu.UnderWay = codes "another TPDU is under way"
tpdu_fault_text tpdu.NoTpdu = codes "no whole TPDU"
tpdu_fault_text tpdu.WantsData = codes "card takes data that were not given"
tpdu_fault_text tpdu.SendsData = codes "card sends data that were not asked for"
tpdu_fault_text tpdu.TooLong = codes "response too long"
