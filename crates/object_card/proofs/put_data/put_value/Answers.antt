use Rattle.std.proofs.Common.{◌∙◌, sym, ap, subst, refl, inl, inr, Some}
use Rattle.std.proofs.Math.ListN.{get_or}
use Rattle.std.proofs.lemmas.Option.{slice_get-get_or}
use Rattle.apdu_core.specs.StatusWord.{StatusWord}
use Rattle.object_card.specs.PutData.{DoesNotStore}
use Rattle.object_card.proofs.PutValueLemmas.{slice_get-set}
use Rattle.object_card.proofs.put_data.put_value.Goals as goal

pub returns-in-Ok : goal.returns-in-Ok
returns-in-Ok g c =
    let at_place = slice_get-get_or c.args.applications.now c.args.selected
    c.index-applications-selected.result c.requires.within in
    let named = sym c.named.ensures ∙ c.unwrap-tag.ensures in
    let put = c.in-Ok.ensures {u = tt} in (
      (get_or c.args.applications.now c.args.selected c.index-applications-selected.result),
      c.value_to_put.new.application,
      c.unwrap-tag.result,
      at_place,
      named,
      slice_get-set c.args.applications.now c.args.selected c.value_to_put.new.application
          c.requires.within,
      put.aid,
      put.entries,
      refl,
      inl (
        refl,
        ap (λ v. Some (c.unwrap-tag.result, v)) put.ok.0,
        c.status.ensures,
        put.ok.1,
        put.ok.2,
      ),
    )

pub returns-in-Err : goal.returns-in-Err
returns-in-Err g c =
    let at_place = slice_get-get_or c.args.applications.now c.args.selected
    c.index-applications-selected.result c.requires.within in
    let named = sym c.named.ensures ∙ c.unwrap-tag.ensures in
    let put = c.in-Err.ensures {u = tt} in
    let Refused : StatusWord → Type 0 = λ status. DoesNotStore
    (get_or c.args.applications.now c.args.selected c.index-applications-selected.result).entries
    c.unwrap-tag.result c.args.value.now status in (
      (get_or c.args.applications.now c.args.selected c.index-applications-selected.result),
      c.value_to_put.new.application,
      c.unwrap-tag.result,
      at_place,
      named,
      slice_get-set c.args.applications.now c.args.selected c.value_to_put.new.application
          c.requires.within,
      put.aid,
      put.entries,
      refl,
      inr (
        c.not_put.ensures.ready,
        c.not_put.ensures.put,
        subst Refused (sym c.not_put.ensures.status) put.err,
      ),
    )
