use Rattle.std.proofs.Common.{[], ◌++◌, ◌∙◌, sym}
use Rattle.std.proofs.lemmas.List.{append-nil, append_cancel_left}
use Rattle.tlv_core.specs.LengthLaws.{sizes_agree}
use Rattle.tlv_core.proofs.reader_laws.no_length_starts_another.Goals as goal

pub returns : goal.returns
returns c = λ size rest n m is_size is_longer.
    let same = sizes_agree size (size ++ rest) rest [] n m is_size is_longer
    (sym (append-nil (size ++ rest))) in
    (append_cancel_left size rest [] (sym same.0 ∙ sym (append-nil size)), same.1)
