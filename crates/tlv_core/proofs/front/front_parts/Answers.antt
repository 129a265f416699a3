-- What the readers of a tag and of a length found, combined.
use Rattle.std.proofs.lemmas.Result.{err_from_is_err_and}
use Rattle.tlv_core.proofs.StartFacts.{tag_fits, fails_for_length, cut_for_value, has_parts}
use Rattle.tlv_core.proofs.front.front_parts.Goals as goal

pub length_at-requires : goal.length_at-requires
length_at-requires c = tag_fits _ _ c.in_ok-tag.ensures

pub returns-in_err-length : goal.returns-in_err-length
returns-in_err-length c =
    let p = err_from_is_err_and c.from_residual-in_err-length.result
    c.from_residual-in_err-length.ensures.1 in
    rw (p.1, p.2) (fails_for_length _ _ _ _ c.if-level.false c.in_ok-tag.ensures
    c.in_err-length.ensures)

pub returns-then-bytes-length : goal.returns-then-bytes-length
returns-then-bytes-length c = cut_for_value _ _ _ _ _ c.if-level.false c.in_ok-tag.ensures
    c.in_ok-length.ensures c.if-bytes-length.true

pub returns : goal.returns
returns c = has_parts _ _ _ _ _ c.if-level.false c.in_ok-tag.ensures c.in_ok-length.ensures
    c.if-bytes-length.false
