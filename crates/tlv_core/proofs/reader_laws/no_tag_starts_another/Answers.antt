use Rattle.std.proofs.Common.{[], ◌++◌, ◌≡◌, ◌∙◌, sym}
use Rattle.std.proofs.lemmas.List.{append-nil, append_cancel_left}
use Rattle.tlv_core.specs.TagLaws.{tags_agree}
use Rattle.tlv_core.proofs.reader_laws.no_tag_starts_another.Goals as goal

pub returns : goal.returns
returns c = λ tag rest is_tag is_longer.
    let same : tag ≡ tag ++ rest = tags_agree tag (tag ++ rest) rest [] is_tag is_longer
    (sym (append-nil (tag ++ rest))) in
    append_cancel_left tag rest [] (sym same ∙ sym (append-nil tag))
