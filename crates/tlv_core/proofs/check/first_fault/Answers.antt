-- Each step of the loop is one step of the reader.
use Rattle.std.proofs.Common.{arith, refl, sym}
use Rattle.tlv_core.proofs.Reading.{keeps_at_start, keeps_past_zero, keeps_past_object, keeps_in_template, keeps_behind, keeps_to_end, fault_here}
use Rattle.tlv_core.proofs.check.first_fault.Goals as goal

pub reading-init : goal.reading-init
reading-init c = keeps_at_start _ _ _ refl c.requires.in_depth

pub closing-preserved : goal.closing-preserved
closing-preserved c = record {
  keeps = keeps_behind _ _ _ _ _ _ c.if-open-eq0.false c.closing-test.true
      c.closing.invariant.keeps;
  fewer = omega (arith, c.closing.invariant.fewer);
}

pub returns-then-open-eq0 : goal.returns-then-open-eq0
returns-then-open-eq0 c = keeps_to_end _ _ _ _ _ _ c.if-open-eq0.true c.closing-test.true
    c.closing.invariant.keeps

pub reading-preserved-then-bytes-place-eq0 : goal.reading-preserved-then-bytes-place-eq0
reading-preserved-then-bytes-place-eq0 c = keeps_past_zero _ _ _ _ _ _ c.closing-test.false
    c.if-bytes-place-eq0.true c.closing.invariant.keeps

pub returns-in-Err : goal.returns-in-Err
returns-in-Err c = fault_here _ _ _ _ _ _ _ c.closing-test.false c.if-bytes-place-eq0.false
    c.in-Err.ensures c.closing.invariant.keeps

pub reading-preserved-then-starts_template : goal.reading-preserved-then-starts_template
reading-preserved-then-starts_template c =
    keeps_in_template _ _ _ _ _ _ _ _ _ c.requires.above c.closing-test.false c.in-Ok.ensures
    (sym c.if-starts_template.ensures) c.closing.invariant.keeps

pub reading-preserved : goal.reading-preserved
reading-preserved c =
    keeps_past_object _ _ _ _ _ _ _ _ _ c.closing-test.false c.in-Ok.ensures
    (sym c.if-starts_template.ensures) c.closing.invariant.keeps
