use Rattle.std.proofs.Common.{subst, sym}
use Rattle.t1_core.specs.CardSide.{serves}
use Rattle.t1_core.specs.Doing.{Goes}
use Rattle.t1_core.specs.Patience.{seen}
use Rattle.t1_core.proofs.patient.PatientCard.serve.Goals as goal

pub returns-in-Resynch-clause-goes : goal.returns-in-Resynch-clause-goes
returns-in-Resynch-clause-goes g c =
    subst (λ k. Goes (serves k) (seen c.args.self.now) c.serve_resynch.result
    (seen c.serve_resynch.new.self)) (sym c.in-Resynch.is) c.serve_resynch.ensures.goes

pub returns-in-Abort-clause-goes : goal.returns-in-Abort-clause-goes
returns-in-Abort-clause-goes g c =
    subst (λ k. Goes (serves k) (seen c.args.self.now) c.serve_abort.result
    (seen c.serve_abort.new.self)) (sym c.in-Abort.is) c.serve_abort.ensures.goes
