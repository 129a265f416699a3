use Rattle.std.proofs.Common.{◌≡◌, subst, sym, Option}
use Rattle.std.specs.Prelude.{MatchOption}
use Rattle.object_card.specs.Tables.{Application}
use Rattle.object_card.specs.Builder.{TakesEntry, RefusesEntry}
use Rattle.object_card.specs.declared.builder_fault.BuilderFault.TheVariants.{NoApp}
use Rattle.object_card.proofs.BuilderLemmas.{last_held, last_replaced, last_stays, on_ok, on_err, if_err}
use Rattle.object_card.proofs.builder.add_to_last.Goals as goal

pub returns-clause-ok : goal.returns-clause-ok
returns-clause-ok g c =
    let old = c.in-Some.application.now in
    let some = c.in-Some.ensures.item.3.0 in
    let is = c.in-Some.ensures.item.1 in
    let Takes : Option Application → Type 0 = λ last. MatchOption last ⊥
    (λ a. TakesEntry c.args.tag c.args.value.now a.entries) in
    on_ok c.add.result (λ stored. (
      subst Takes (sym (last_held c.args.applications.now old some is)) stored.0,
      last_replaced c.args.applications.now old some is c.args.tag c.args.value.now c.args.locked
          c.add.new.application c.add.ensures.aid stored.1,
    )) c.add.ensures.ok

pub returns-clause-err : goal.returns-clause-err
returns-clause-err g c =
    let last = last_held c.args.applications.now c.in-Some.application.now
    c.in-Some.ensures.item.3.0 c.in-Some.ensures.item.1 in
    if_err c.add.result (λ fault why.
    let Refuses : Option Application → Type 0 = λ last. MatchOption last (fault ≡ NoApp)
    (λ a. RefusesEntry c.args.tag c.args.value.now a.entries fault) in
    subst Refuses (sym last) why) c.add.ensures.err

pub returns-clause-stays : goal.returns-clause-stays
returns-clause-stays g c =
    on_err c.add.result (last_stays c.args.applications.now c.in-Some.application.now
    c.in-Some.ensures.item.3.0 c.in-Some.ensures.item.1
    c.add.new.application c.add.ensures.aid) c.add.ensures.stays
