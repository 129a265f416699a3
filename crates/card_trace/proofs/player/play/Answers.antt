use Rattle.std.proofs.Common.{[], inl, inr, refl, subst}
use Rattle.std.specs.Io.KnownBytes.{Appends}
use Rattle.std.proofs.KnownBytes.{Appends-nil}
use Rattle.card_trace.specs.declared.script.reason.LineReason.{LineReason}
use Rattle.card_trace.specs.declared.script.section.Section.{Section}
use Rattle.card_trace.specs.PrintedText.{printed_text}
use Rattle.card_trace.specs.ScriptWords.{words_of}
use Rattle.card_trace.specs.Script.{Builds, Runs, Running, Says, SaysNothing, DeniesWords, RefusesLine, RefusesMeaning}
use Rattle.card_trace.proofs.ScriptFaultLemmas.{of_refusal}
use Rattle.card_trace.proofs.player.play.Goals as goal

pub returns-in-Err-clause-fault : goal.returns-in-Err-clause-fault
returns-in-Err-clause-fault g c = λ state stands.
    let s = g.R.Runner.script in
    let line = c.args.line.now in
    let Denied : Section → LineReason → Type 0 = λ section reason. SaysNothing s section line
    × DeniesWords s section (words_of line) reason in
    of_refusal (Denied c.section.result) (RefusesLine s state line) c.args.number _
    c.in-Err.refusal c.at.result c.at.ensures
    (λ reason denied. inl (subst (λ x. Denied x reason) (c.section.ensures state stands) denied))
    c.in-Err.ensures.refused

pub returns-in-Ok-None-clause-played : goal.returns-in-Ok-None-clause-played
returns-in-Ok-None-clause-played g c = λ state stands. (
  [],
  state,
  stands,
  Appends-nil _,
  inl (rw c.in-Ok-None.field-0-is at c.in-Ok-None.ensures.ok, refl, refl),
)

pub returns-in-Ok-clause-played : goal.returns-in-Ok-clause-played
returns-in-Ok-clause-played g c = λ state stands.
    let r = g.R.Runner in
    let part = Builds (r.part_of c.in-Ok-Some-Builds.part) in
    let says = subst (λ x. Says r.script x (words_of c.args.line.now) part)
    (c.section.ensures state stands)
    (rw (c.in-Ok-Some-Builds.field-0-is, c.in-Ok-Some-Builds.field-0-0-is)
    at c.in-Ok-Some-Builds.ensures.ok) in
    let (next, now, does) = c.in-Ok.ensures.added state stands in
    ([], next, now, Appends-nil _, inr (part, says, does))

pub returns-in-Err-add-clause-fault : goal.returns-in-Err-add-clause-fault
returns-in-Err-add-clause-fault g c = λ state stands.
    let r = g.R.Runner in
    let line = c.args.line.now in
    let part = Builds (r.part_of c.in-Ok-Some-Builds.part) in
    let says = subst (λ x. Says r.script x (words_of line) part) (c.section.ensures state stands)
    (rw (c.in-Ok-Some-Builds.field-0-is, c.in-Ok-Some-Builds.field-0-0-is)
    at c.in-Ok-Some-Builds.ensures.ok) in
    of_refusal (RefusesMeaning r.script state part) (RefusesLine r.script state line) c.args.number
    _ c.in-Err-add.refusal c.at-in-Err-add.result c.at-in-Err-add.ensures
    (λ reason refused. inr (part, says, refused))
    (c.in-Err-add.ensures.refused state stands says.3.0)

pub returns-in-Ok-write_all-clause-played : goal.returns-in-Ok-write_all-clause-played
returns-in-Ok-write_all-clause-played g c = λ state stands.
    let r = g.R.Runner in
    let act = Runs (r.act_of c.in-Ok-Some-Runs.act) in
    let says = subst (λ x. Says r.script x (words_of c.args.line.now) act)
    (c.section.ensures state stands)
    (rw (c.in-Ok-Some-Runs.field-0-is, c.in-Ok-Some-Runs.field-0-0-is)
    at c.in-Ok-Some-Runs.ensures.ok) in
    let old = g.W.Write.contents c.args.writer.now in
    let new = g.W.Write.contents c.write_all.new.self in
    let (card, runs_on, is) = c.in_ok-runner-in-Ok-Some-Runs.ensures state stands in
    let (next, now, does) = c.in_ok-printed-in-Ok-Some-Runs.ensures card is in (
      printed_text c.in_ok-printed-in-Ok-Some-Runs.printed,
      Running next,
      (next, now, refl),
      subst (λ t. Appends old new t) c.text.ensures c.in-Ok-write_all.ensures.bytes,
      inr (act, says, (card, next, runs_on, does, refl)),
    )
