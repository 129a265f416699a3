-- All parts of the answer, combined.
use Rattle.std.proofs.Common.{◌≡◌, ℕ, List, drop, ◌∙◌, ap, sym, arith}
use Rattle.atr_core.specs.Answer.{Answer, names_other_than_0}
use Rattle.atr_core.specs.FirstFault.{end_fault}
use Rattle.atr_core.proofs.Whole.{whole}
use Rattle.atr_core.proofs.answer.whole.Goals as goal

pub invariant_of-result : goal.invariant_of-result
invariant_of-result c =
    let all : List ℕ = c.args.bytes.now in
    let others = c.in_ok-others.others.items in
    let last : ℕ = c.in_ok-historical.last in
    let names : c.names_other_than_0.result ≡ names_other_than_0 others =
    c.names_other_than_0.ensures ∙ ap names_other_than_0 c.deref.ensures.0 in
    let a : Answer = record {
      convention = c.in-Some.convention;
      first = c.in_ok-first.first;
      others = others;
      historical = c.in_ok-historical.historical.items;
    } in
    let read = whole all c.in_ok-ts.ts c.in_ok-t0.t0 c.in_ok-first.place c.in_ok-others.end last a
    (record {
      first = record {
        ts = record { at = c.in_ok-ts.ensures; is = sym c.in-Some.ensures };
        at = c.in_ok-t0.ensures;
        fits = omega arith;
        group = c.in_ok-first.ensures;
      };
      groups = c.in_ok-others.ensures;
      historical = c.in_ok-historical.ensures;
    })
    (ap (λ v. end_fault all v last (drop last all)) (sym names) ∙ c.in_ok-check_end.ensures) in
    read.answer

pub returns : goal.returns
returns c =
    let all : List ℕ = c.args.bytes.now in
    let others = c.in_ok-others.others.items in
    let last : ℕ = c.in_ok-historical.last in
    let names : c.names_other_than_0.result ≡ names_other_than_0 others =
    c.names_other_than_0.ensures ∙ ap names_other_than_0 c.deref.ensures.0 in
    let a : Answer = record {
      convention = c.in-Some.convention;
      first = c.in_ok-first.first;
      others = others;
      historical = c.in_ok-historical.historical.items;
    } in
    let read = whole all c.in_ok-ts.ts c.in_ok-t0.t0 c.in_ok-first.place c.in_ok-others.end last a
    (record {
      first = record {
        ts = record { at = c.in_ok-ts.ensures; is = sym c.in-Some.ensures };
        at = c.in_ok-t0.ensures;
        fits = omega arith;
        group = c.in_ok-first.ensures;
      };
      groups = c.in_ok-others.ensures;
      historical = c.in_ok-historical.ensures;
    })
    (ap (λ v. end_fault all v last (drop last all)) (sym names) ∙ c.in_ok-check_end.ensures) in
    read
