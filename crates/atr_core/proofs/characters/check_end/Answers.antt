use Rattle.std.proofs.Common.{◌≡◌, true, false, rules, arith}
use Rattle.atr_core.proofs.Ends.{one_behind, many_behind, long_check, no_check, many_behind_check}
use Rattle.atr_core.proofs.characters.check_end.Goals as goal

pub returns-in-1 : goal.returns-in-1
returns-in-1 c = let due : c.args.is_due ≡ false = search rules in
    rw due (one_behind c.args.bytes.now c.args.place (omega (arith, c.in-1.is)))

pub returns-in_default : goal.returns-in_default
returns-in_default c = let due : c.args.is_due ≡ false = search rules in
    rw due (many_behind c.args.bytes.now c.args.place (omega (arith, c.in_default)))

pub returns-then-place-eq-LONGEST : goal.returns-then-place-eq-LONGEST
returns-then-place-eq-LONGEST c = let due : c.args.is_due ≡ true = search rules in
    rw due (long_check c.args.bytes.now c.args.place c.if-place-eq-LONGEST.true)

pub returns-then-behind-eq0 : goal.returns-then-behind-eq0
returns-then-behind-eq0 c = let due : c.args.is_due ≡ true = search rules in
    rw due (no_check c.args.bytes.now c.args.place (omega arith) c.if-place-eq-LONGEST.false)

pub returns-then-behind-gt1 : goal.returns-then-behind-gt1
returns-then-behind-gt1 c = let due : c.args.is_due ≡ true = search rules in
    rw due (many_behind_check c.args.bytes.now c.args.place (omega arith)
    c.if-place-eq-LONGEST.false)
