-- Each number is that of a tag, which is written to the array while it fits.
use Rattle.std.proofs.Common.{◌+◌, List, ℕ, refl, sym, subst, arith}
use Rattle.card_c.proofs.FindLemmas.{Numbered, numbered_none, numbered_in, numbered_past, numbered_all, no_numbers}
use Rattle.card_c.proofs.find.tags_of.Goals as goal
use Rattle.card_c.proofs.find.tags_of.Goals.{then-at-lt-DEEPEST, else-at-lt-DEEPEST}

pub loop-at-init : goal.loop-at-init
loop-at-init c = numbered_none _ _ refl

pub returns-in_err-tag : goal.returns-in_err-tag
returns-in_err-tag c =
    rw c.from_residual-in_err-tag.ensures
    (no_numbers c.args.path.now c.loop-at.at _ c.loop-at-test.true refl c.in_err-tag.ensures)

pub loop-at-preserved : goal.loop-at-preserved
loop-at-preserved c =
    let at = c.loop-at.at in let path = c.args.path.now in let numbers = c.in_ok-tag.ensures in
    let P : List (List ℕ) → Type 0 = λ cells. Numbered path (at + 1) cells in
    elim c.if-at-lt-DEEPEST.branch [
      | then-at-lt-DEEPEST w ↦ subst P (sym w.tags-is)
          (numbered_in path at _ c.loop-at.tags c.in_ok-tag.tag c.loop-at-test.true refl numbers
          (omega (arith, w.if-at-lt-DEEPEST)) c.loop-at.invariant)
      | else-at-lt-DEEPEST w ↦ subst P (sym w.tags-is)
          (numbered_past path at _ c.loop-at.tags c.in_ok-tag.tag c.loop-at-test.true refl numbers
          (omega (arith, w.if-at-lt-DEEPEST)) c.loop-at.invariant)
    ]

pub returns : goal.returns
returns c = numbered_all c.args.path.now c.loop-at.at c.loop-at.tags
    (omega (arith, c.loop-at-test.false, c.loop-at.auto.at-end)) c.loop-at.invariant
