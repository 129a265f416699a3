-- A length that is cut off, and the longest spelling.
use Rattle.std.proofs.Common.{◌+◌, arith}
use Rattle.tlv_core.proofs.LengthFacts.{cut_at_length, cut_in_81, cut_in_82, spelled_by_82}
use Rattle.tlv_core.proofs.front.length_at.Goals as goal

pub returns-then-start-bytes : goal.returns-then-start-bytes
returns-then-start-bytes c = cut_at_length _ _ c.if-start-bytes.true

pub returns-in-129 : goal.returns-in-129
returns-in-129 c = cut_in_81 _ _ (λ e. c.if-start-bytes.false (omega arith)) c.if-left-lt2.true
    c.in-129.is

pub returns-in-130 : goal.returns-in-130
returns-in-130 c = cut_in_82 _ _ (λ e. c.if-start-bytes.false (omega arith)) c.if-left-lt3.true
    c.in-130.is (omega (arith, c.type_inv.bytes (c.args.start + 1)))

pub returns-in-130-2 : goal.returns-in-130-2
returns-in-130-2 c = spelled_by_82 _ _ c.if-left-lt3.false c.in-130.is
    (omega (arith, c.type_inv.bytes (c.args.start + 1)))
    (omega (arith, c.type_inv.bytes (c.args.start + 2)))
