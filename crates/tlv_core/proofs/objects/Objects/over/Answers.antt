-- Bytes with a fault are not a list of objects.
use Rattle.tlv_core.specs.PlaceLaws.{spelled_has_no_fault}
use Rattle.tlv_core.proofs.objects.Objects.over.Goals as goal

pub returns-in-Some-clause-objects : goal.returns-in-Some-clause-objects
returns-in-Some-clause-objects c =
    (λ clash. cc, λ objects. absurd (spelled_has_no_fault _ _ _ _ objects c.in-Some.ensures.here))
