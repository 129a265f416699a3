use Rattle.std.proofs.Common.{rules, ◌<◌, length, ◌∙◌, sym, ap, subst, refl, Option, Some, ℕ}
use Rattle.std.proofs.Math.ListN.{get_or}
use Rattle.std.specs.Prelude.{option_map, slice_set}
use Rattle.std.proofs.lemmas.Option.{slice_get-get_or}
use Rattle.object_card.specs.CardFields.{HasPlace}
use Rattle.object_card.specs.CardView.{NewValue}
use Rattle.object_card.specs.PutData.{CanBeStored, IsStored}
use Rattle.object_card.proofs.PutValueLemmas.{slice_get-set, some_same}
use Rattle.object_card.proofs.put_data.store.Goals as goal

-- with `within` the search takes a moment, without it 25 seconds
pub offset_bounds-applications-unwrap : goal.offset_bounds-applications-unwrap
offset_bounds-applications-unwrap g c =
    let Chosen : Option ℕ → Type 0 = λ v. CanBeStored c.args.applications.now v
    (option_map (λ p. (p.tag, p.value.items)) c.args.put) in
    let Value : Option NewValue → Type 0 = λ v. CanBeStored c.args.applications.now
    (Some c.unwrap.result) v in
    let can = subst Value (ap (option_map (λ p. (p.tag, p.value.items))) c.in-Some.is)
    (subst Chosen c.unwrap.ensures c.requires) in
    let within : c.unwrap.result < length c.args.applications.now = can.2 in
    search rules

pub store-requires : goal.store-requires
store-requires g c =
    let Chosen : Option ℕ → Type 0 = λ v. CanBeStored c.args.applications.now v
    (option_map (λ p. (p.tag, p.value.items)) c.args.put) in
    let Value : Option NewValue → Type 0 = λ v. CanBeStored c.args.applications.now
    (Some c.unwrap.result) v in
    let can = subst Value (ap (option_map (λ p. (p.tag, p.value.items))) c.in-Some.is)
    (subst Chosen c.unwrap.ensures c.requires) in
    let same = some_same _ _ (sym can.1 ∙ slice_get-get_or c.args.applications.now c.unwrap.result
    c.index-applications-unwrap.result can.2) in
    subst (λ a. HasPlace a c.in-Some.put.tag) same can.3

pub returns-in-Some : goal.returns-in-Some
returns-in-Some g c =
    let Chosen : Option ℕ → Type 0 = λ v. CanBeStored c.args.applications.now v
    (option_map (λ p. (p.tag, p.value.items)) c.args.put) in
    let Value : Option NewValue → Type 0 = λ v. CanBeStored c.args.applications.now
    (Some c.unwrap.result) v in
    let can = subst Value (ap (option_map (λ p. (p.tag, p.value.items))) c.in-Some.is)
    (subst Chosen c.unwrap.ensures c.requires) in
    let Stored : Option ℕ → Type 0 = λ v. IsStored c.args.applications.now v
    (option_map (λ p. (p.tag, p.value.items)) c.args.put)
    (slice_set c.args.applications.now c.unwrap.result c.store.new.self) in
    let StoredValue : Option NewValue → Type 0 =
    λ v. IsStored c.args.applications.now (Some c.unwrap.result) v
    (slice_set c.args.applications.now c.unwrap.result c.store.new.self) in
    subst Stored (sym c.unwrap.ensures)
    (subst StoredValue (sym (ap (option_map (λ p. (p.tag, p.value.items))) c.in-Some.is)) (
      get_or c.args.applications.now c.unwrap.result c.index-applications-unwrap.result,
      c.store.new.self,
      slice_get-get_or c.args.applications.now c.unwrap.result
          c.index-applications-unwrap.result can.2,
      slice_get-set c.args.applications.now c.unwrap.result c.store.new.self can.2,
      c.store.ensures.aid,
      c.store.ensures.entries,
      refl,
    ))
