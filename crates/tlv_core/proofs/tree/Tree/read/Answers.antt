use Rattle.std.proofs.Common.{rules}
use Rattle.tlv_core.specs.Spelling.{AreObjects}
use Rattle.tlv_core.proofs.ReadFaults.{fault_is_first, want_is_no_fault, forest_is_no_fault}
use Rattle.tlv_core.proofs.tree.Tree.read.Goals as goal

pub returns-in_err-objects-clause-fault : goal.returns-in_err-objects-clause-fault
returns-in_err-objects-clause-fault g c =
    fault_is_first c.args.bytes.now c.from_residual.result c.in_err-objects.field-0.0
    c.from_residual.ensures.1 c.in_err-objects.ensures.fault

pub returns-in_err-grow-clause-fault : goal.returns-in_err-grow-clause-fault
returns-in_err-grow-clause-fault g c =
    let objects : AreObjects c.args.bytes.now 1 = search rules in
    want_is_no_fault c.args.bytes.now c.from_residual-in_err-grow.result
    c.from_residual-in_err-grow.ensures.1 objects

pub returns-clause-fault : goal.returns-clause-fault
returns-clause-fault g c =
    let objects : AreObjects c.args.bytes.now 1 = search rules in
    forest_is_no_fault c.args.bytes.now c.in_ok-grow.field-0 objects
