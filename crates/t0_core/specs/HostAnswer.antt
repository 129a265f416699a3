-- The answer to a whole TPDU, as a transport of whole TPDUs gives it to the terminal's end.
use Rattle.std.specs.Prelude.{◌≡◌, ℕ, ◌+◌, List, length, Option, Some, None, Bool, true, false, ◌==◌, nat_le, nat_lt, if◌then◌else◌}
use Rattle.apdu_core.specs.StatusWord.{StatusWord, count}
use Rattle.t0_core.specs.declared.answer_fault.AnswerFault.{AnswerFault}
use Rattle.t0_core.specs.declared.answer_fault.AnswerFault.TheVariants.{NotDue, NotAsked, TooMany, TooLong, Stalled}
use Rattle.t0_core.specs.declared.host_end.HostStage.{HostStage}
use Rattle.t0_core.specs.declared.host_end.HostStage.TheVariants.{SendingHeader, Moving, AwaitingSecond, Broken}
use Rattle.t0_core.specs.declared.data_sent.DataSent.TheVariants.{NotKnown}
use Rattle.t0_core.specs.declared.direction.Direction.{Direction}
use Rattle.t0_core.specs.declared.direction.Direction.TheVariants.{ToCard, FromCard}
use Rattle.t0_core.specs.Room.{Room}
use Rattle.t0_core.specs.Dialogue.{Body, Dialogue, IsDialogue, to_move}
use Rattle.t0_core.specs.Meaning.{received}
use Rattle.t0_core.specs.HostSide.{Hosting, IsOpenedBy, at_stage}

-- a TPDU is about to start: none of its characters was sent
abbrev pub is_start : HostStage → Bool
is_start (SendingHeader sent) = sent == 0
is_start _ = false

abbrev pub is_due : Hosting → Bool
is_due host = is_start host.stage

-- the most data characters that may come back
abbrev pub may_come : Direction → ℕ → ℕ
may_come ToCard p3 = 0
may_come FromCard p3 = count p3

-- the error if more come
abbrev pub excess : Direction → AnswerFault
excess ToCard = NotAsked
excess FromCard = TooMany

-- the error of an answer with these data, if any
abbrev pub answer_fault : Hosting → Room → List ℕ → Option AnswerFault
answer_fault host gather bytes =
    if is_due host then
    (if nat_lt (may_come host.direction host.p3) (length bytes) then Some (excess host.direction)
    else (if nat_le (length gather.bytes + length bytes) gather.limit then None else Some TooLong))
    else Some NotDue

-- the errors after which the end has failed for good
abbrev pub fails_with : AnswerFault → Bool
fails_with NotDue = false
fails_with NotAsked = false
fails_with TooMany = false
fails_with TooLong = true
fails_with Stalled = true

abbrev pub after_answer_fault : HostStage → AnswerFault → HostStage
after_answer_fault stage fault = if fails_with fault then Broken else stage

-- the end as it waits for SW2 of this status; which data left in the TPDU is not known
abbrev pub before_sw2 : Hosting → StatusWord → Hosting
before_sw2 host sw = at_stage host (AwaitingSecond sw.0 NotKnown)

-- the end inside a segment: these data have moved, and more follow
abbrev pub moving_in : Hosting → Body → Hosting
moving_in host b = at_stage host (Moving (length b.moved) (to_move b))

-- the dialogue is one that the end opened, with these data and this status
pub record Gives (host : Hosting) (d : Dialogue) (bytes : List ℕ) (sw : StatusWord) : Type 0 where
  pub opened : IsOpenedBy host d.body
  pub is_dialogue : IsDialogue d
  pub brings : received d ≡ bytes
  pub status : d.status ≡ sw
