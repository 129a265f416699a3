use Rattle.std.proofs.Common.{◌≡◌, OnOk, subst}
use Rattle.std.proofs.lemmas.Result.{on_ok_weaker}
use Rattle.trace_explain.specs.Openings.{Opening, opening_of, opens, role_of}
use Rattle.trace_explain.proofs.AccountLemmas.{boxes_from}
use Rattle.trace_explain.proofs.write.teller.Teller.answer_again.Goals as goal

pub returns-clause-opened : goal.returns-clause-opened
returns-clause-opened c =
    let P : Opening → Type 0 = λ o. OnOk c.open.result (opening_of c.open.new.preface
    ≡ opens o (role_of o c.args.from c.args.byte) c.args.byte c.args.number) in
    subst P c.begin_again.ensures.opened c.open.ensures.opens

pub returns-clause-boxes : goal.returns-clause-boxes
returns-clause-boxes c = on_ok_weaker c.open.result
    (λ h. boxes_from c.begin_again.ensures.stays h) c.open.ensures.boxes
