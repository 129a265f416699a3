use Rattle.std.specs.Prelude.{map, string_bytes}
use Rattle.clap.specs.Faults.{fault_of}
use Rattle.clap.specs.Values.{kind_of}
use Rattle.card_trace.specs.CommandLine.{program, asked_by, Stops}
use Rattle.card_trace.specs.FaultTexts.{Prints}
use Rattle.card_trace.proofs.CommandLineLemmas.{refused_for, has_fault, stops_unread}
use Rattle.card_trace.proofs.main_status.ended.Goals as goal

pub returns-in-Err-clause-refused : goal.returns-in-Err-clause-refused
returns-in-Err-clause-refused g c =
    λ two. let refused = c.ending_unparsed.ensures.refused two in
    refused_for (fault_of program (map string_bytes c.args.words.now))
    (kind_of c.in-Err.error) c.in-Err.ensures.err refused.0 refused.1

pub returns-in-Ok-clause-stops : goal.returns-in-Ok-clause-stops
returns-in-Ok-clause-stops g c =
    λ none one. let asked = asked_by c.in-Ok.request in
    let failed = has_fault c.run.result c.ending_after.result.status (Stops asked _ _ _)
    (Prints c.ending_after.result.is_printed _ _) c.ending_after.ensures.success one
    c.run.ensures.stops c.ending_after.ensures.prints in
    (asked, c.in-Ok.ensures.ok.1, failed.0, failed.1, failed.2)

pub returns-in-Err-clause-stops : goal.returns-in-Err-clause-stops
returns-in-Err-clause-stops g c =
    λ none one. stops_unread (map string_bytes c.args.words.now) (kind_of c.in-Err.error) _ _ _
    (Prints c.ending_unparsed.result.is_printed _ _) c.in-Err.ensures.err
    (λ memory. let all = c.ending_unparsed.ensures.memory memory in (all.1, all.2)) none
