use Rattle.std.proofs.Common.{◌≡◌, ◌∙◌, sym, subst, ap, arith, List, true}
use Rattle.std.specs.Prelude.{is_some, is_ok}
use Rattle.std.proofs.lemmas.List.{length-map}
use Rattle.object_card.specs.Tables.{Application, AreApplications, entries_in}
use Rattle.object_card.specs.CardFields.{applications_of}
use Rattle.object_card.specs.Builder.{TakesApplication, with_application}
use Rattle.object_card.proofs.BuilderLemmas.{Finds, finds_in, is_there, is_not_there, pushed, application_in, application_added}
use Rattle.object_card.proofs.builder.CardBuilder.app.Goals as goal

pub returns-then-is_some-clause-err : goal.returns-then-is_some-clause-err
returns-then-is_some-clause-err g c =
    let held = c.self.inside.applications.items in
    let finds : Finds c.args.aid held c.find.result =
    finds_in c.args.aid c.bytes.result.now held c.deref.result.now c.find.result
    c.bytes.ensures.bytes c.deref.ensures.value c.find.ensures in
    let IsThere : List Application → Type 0 = λ x. is_some (entries_in c.args.aid x) ≡ true in
    subst IsThere c.self.view_is
    (is_there c.args.aid held c.find.result c.self.invariant finds
    (sym c.is_some.ensures ∙ c.if-is_some.true))

pub returns-then-is_err-clause-err : goal.returns-then-is_err-clause-err
returns-then-is_err-clause-err g c =
    let held = c.self.inside.applications.items in
    let finds : Finds c.args.aid held c.find.result =
    finds_in c.args.aid c.bytes.result.now held c.deref.result.now c.find.result
    c.bytes.ensures.bytes c.deref.ensures.value c.find.ensures in
    let Takes : List Application → Type 0 = λ x. TakesApplication c.args.aid x in
    subst Takes c.self.view_is (
      is_not_there c.args.aid held c.find.result finds (sym c.is_some.ensures ∙ c.if-is_some.false),
      omega (
        arith,
        c.if-len-ge-APPLICATION_LIMIT.false,
        c.len.ensures,
        length-map held
            application_in,
      ),
    )

pub invariant_of-self-2 : goal.invariant_of-self-2
invariant_of-self-2 g c =
    let held = c.self.inside.applications.items in
    let finds : Finds c.args.aid held c.find.result =
    finds_in c.args.aid c.bytes.result.now held c.deref.result.now c.find.result
    c.bytes.ensures.bytes c.deref.ensures.value c.find.ensures in
    subst AreApplications
    (sym (pushed held c.push.new.self.items c.new-application.result c.args.aid
    (is_ok c.push.result) c.push.ensures.items
    c.if-is_err.ensures.negation c.new-application.ensures.aid
    c.new-application.ensures.none))
    (application_added c.args.aid (applications_of held) c.bytes.ensures.aid (
      is_not_there c.args.aid held c.find.result finds (sym c.is_some.ensures ∙ c.if-is_some.false),
      omega (
        arith,
        c.if-len-ge-APPLICATION_LIMIT.false,
        c.len.ensures,
        length-map held
            application_in,
      ),
    ) c.self.invariant)

pub returns-clause-ok : goal.returns-clause-ok
returns-clause-ok g c =
    let held = c.self.inside.applications.items in
    let finds : Finds c.args.aid held c.find.result =
    finds_in c.args.aid c.bytes.result.now held c.deref.result.now c.find.result
    c.bytes.ensures.bytes c.deref.ensures.value c.find.ensures in
    let Takes : List Application → Type 0 = λ x. TakesApplication c.args.aid x in (
      subst Takes c.self.view_is (
        is_not_there c.args.aid held c.find.result finds
            (sym c.is_some.ensures ∙ c.if-is_some.false),
        omega (
          arith,
          c.if-len-ge-APPLICATION_LIMIT.false,
          c.len.ensures,
          length-map held
              application_in,
        ),
      ),
      pushed held c.push.new.self.items c.new-application.result c.args.aid
          (is_ok c.push.result) c.push.ensures.items
          c.if-is_err.ensures.negation c.new-application.ensures.aid c.new-application.ensures.none
          ∙ ap (with_application c.args.aid) c.self.view_is,
    )
