use Rattle.std.proofs.Common.{◌≡◌, ◌∙◌, None, ap, subst}
use Rattle.t1_core.specs.declared.block.Control.TheVariants.{Abort}
use Rattle.t1_core.specs.CardSide.{serves}
use Rattle.t1_core.specs.Doing.{Goes}
use Rattle.t1_core.specs.Patience.{PatientOf}
use Rattle.t1_core.proofs.PatienceLemmas.{aborted}
use Rattle.t1_core.proofs.patient.PatientCard.serve_abort.Goals as goal

pub returns-clause-goes : goal.returns-clause-goes
returns-clause-goes g c =
    let p = c.args.self.now in let r = c.serve.result in
    let q : PatientOf g.row.C.Denot = record {
      end = c.serve.new.self;
      kept = c.self.inside.kept;
      asked = c.self.inside.asked;
    } in
    let end_is : c.self.inside.end ≡ p.end =
    ap (λ (p : PatientOf g.row.C.Denot). p.end) (c.self.view_is ∙ c.forget.ensures) in
    let asked_is : c.self.inside.asked ≡ None =
    ap (λ (p : PatientOf g.row.C.Denot). p.asked) (c.self.view_is ∙ c.forget.ensures) in
    aborted c.args.multiple p q r c.requires asked_is
    (subst (λ e. Goes (serves Abort) e r c.serve.new.self) end_is c.serve.ensures)
