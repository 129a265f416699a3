use Rattle.std.proofs.Common.{◌∙◌, sym, subst, ap, true}
use Rattle.std.proofs.lemmas.List.{with_items_is}
use Rattle.object_card.specs.Tables.{AreApplications}
use Rattle.object_card.specs.CardFields.{applications_of}
use Rattle.object_card.proofs.BuilderLemmas as builder
use Rattle.object_card.proofs.builder.CardBuilder.locked.Goals as goal

pub invariant_of-self : goal.invariant_of-self
invariant_of-self g c =
    let new = c.add_to_last.new.applications in
    let before = applications_of c.deref_mut.result.now in
    let is = with_items_is c.self.inside.applications new
    (c.add_to_last.auto.applications ∙ c.deref_mut.ensures.len) in
    subst AreApplications (ap applications_of (sym is)) (
    builder.stays_sound c.args.tag c.args.value.now true c.add_to_last.result before
    (applications_of new) c.add_to_last.ensures.ok
    c.add_to_last.ensures.addressable c.add_to_last.ensures.stays
    (subst AreApplications (ap applications_of (sym c.deref_mut.ensures.value))
    c.self.invariant)
    )

pub returns-clause-ok : goal.returns-clause-ok
returns-clause-ok g c =
    let new = c.add_to_last.new.applications in
    let is = with_items_is c.self.inside.applications new
    (c.add_to_last.auto.applications ∙ c.deref_mut.ensures.len) in
    builder.is_stored c.args.tag c.args.value.now true c.add_to_last.result
    (applications_of c.deref_mut.result.now) (applications_of new) c.add_to_last.ensures.ok
    c.args.self.now _ (ap applications_of c.deref_mut.ensures.value ∙ c.self.view_is)
    (ap applications_of is)
