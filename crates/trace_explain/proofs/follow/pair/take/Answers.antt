use Rattle.std.proofs.lemmas.Result.{on_ok_weaker}
use Rattle.trace_explain.proofs.LogLemmas.{command_by}
use Rattle.trace_explain.proofs.follow.pair.take.Goals as goal

pub returns-clause-reports : goal.returns-clause-reports
returns-clause-reports c = on_ok_weaker c.with_p3.result (λ (x, is, r). (
  x,
  command_by c.args.command.now _ _ x c.if-command-lt4.false c.if-command-eq4.false
      c.split_at.ensures.front c.split_at-2.ensures.back is,
  r,
)) c.with_p3.ensures.reports
