-- The rest of a list of objects is such a list, so it starts with its next object.
use Rattle.tlv_core.specs.SpellingLaws.{after_is_spelled}
use Rattle.tlv_core.proofs.SpellingFacts.{objects_past_padding, spelled_starts, spelled_is_object, object_left}
use Rattle.tlv_core.proofs.objects.ObjectsIterator.next.Goals as goal

pub front_object-front-requires : goal.front_object-front-requires
front_object-front-requires c =
    let rest = objects_past_padding _ _ _ _ c.past_padding-bytes.ensures.is_padding
    c.past_padding-bytes.ensures.split c.self.invariant in
    (spelled_starts _ _ rest
    (object_left _ c.if-is_empty.ensures c.past_padding-bytes.ensures.at_object)).0

pub at_level-requires : goal.at_level-requires
at_level-requires c =
    let rest = objects_past_padding _ _ _ _ c.past_padding-bytes.ensures.is_padding
    c.past_padding-bytes.ensures.split c.self.invariant in
    spelled_is_object _ _ _ _ _ _ rest
    (spelled_starts _ _ rest
    (object_left _ c.if-is_empty.ensures c.past_padding-bytes.ensures.at_object)).1
    c.front_object-front.ensures

pub invariant_of-self-2 : goal.invariant_of-self-2
invariant_of-self-2 c =
    let rest = objects_past_padding _ _ _ _ c.past_padding-bytes.ensures.is_padding
    c.past_padding-bytes.ensures.split c.self.invariant in
    after_is_spelled _ _ _ _ _ _ c.front_object-front.ensures rest
