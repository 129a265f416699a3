use Rattle.std.proofs.Common.{ap, ◌∙◌, sym, map}
use Rattle.std.proofs.lemmas.Simd.{map-map}
use Rattle.object_card.proofs.entries.Entries.of.Goals as goal

pub returns : goal.returns
returns g c =
    ap (λ es. map (λ e. (e.0, e.1.value.items)) es) c.iter.ensures.rest
    ∙ sym (map-map (λ e. (e.tag, e.value))
    (λ e. record { tag = e.0; value = e.1.value.items; locked = e.1.locked })
    c.objects.result.now.entries)
    ∙ ap (λ es. map (λ e. (e.tag, e.value)) es) c.objects.ensures
