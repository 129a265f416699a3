-- The parts of an object, cut by their sizes.
use Rattle.tlv_core.proofs.StartFacts.{parts_cut}
use Rattle.tlv_core.proofs.Known.{known_starts_tag, known_inside, known_starts_length, known_parts}
use Rattle.tlv_core.proofs.front.front_object.Goals as goal

pub known_tag-tag_size-requires : goal.known_tag-tag_size-requires
known_tag-tag_size-requires c = known_starts_tag _ c.requires

pub known_length-length-requires-clause-inside : goal.known_length-length-requires-clause-inside
known_length-length-requires-clause-inside c =
    known_inside _ _ c.requires c.known_tag-tag_size.ensures

pub known_length-length-requires-clause-spelled : goal.known_length-length-requires-clause-spelled
known_length-length-requires-clause-spelled c =
    known_starts_length _ _ c.requires c.known_tag-tag_size.ensures

pub returns : goal.returns
returns c =
    rw c.of.ensures (parts_cut _ _ _ _ _ _ _ _ _ _ _
    (known_parts _ _ _ _ c.requires c.known_tag-tag_size.ensures c.known_length-length.ensures)
    c.split_at.ensures.front c.split_at.ensures.back
    c.split_at-2.ensures.front c.split_at-2.ensures.back c.split_at-3.ensures.front
    c.split_at-3.ensures.back)
