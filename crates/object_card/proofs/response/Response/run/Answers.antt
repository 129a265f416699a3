use Rattle.std.proofs.Common.{ℕ, List, arith, subst, sym, take, drop, length, ◌++◌, ◌≤◌, ◌+◌, ◌-◌}
use Rattle.std.proofs.lemmas.List.{take_rest}
use Rattle.t0_core.specs.DataRun.{IsRunAt}
use Rattle.object_card.specs.CardFields.{entries_at, left_of}
use Rattle.object_card.proofs.Responses.{run-front, run-value, begun-small}
use Rattle.object_card.proofs.response.Response.run.Goals as goal

pub overflow_add-place : goal.overflow_add-place
overflow_add-place g c =
    let Begun : List ℕ → Type 0 = λ v. c.args.self.now.sent
    ≤ length (take c.args.self.now.len c.args.self.now.front ++ v) in
    let begun = subst Begun (sym c.value-value.ensures) c.requires.response.begun in
    let small = begun-small c.args.self.now.front c.value-value.result.now c.args.self.now.len
    c.args.self.now.sent c.requires.response.within begun in
    omega (arith, small, c.value-value.type_inv.1, c.ranges.at)

pub returns-then-place-self-clause-run : goal.returns-then-place-self-clause-run
returns-then-place-self-clause-run g c =
    let Run : List ℕ → Type 0 = λ bs. IsRunAt
    (left_of (entries_at c.args.applications.now c.args.selected) c.args.self.now) c.args.at bs in
    subst Run (sym c.first.ensures)
    (run-front c.args.self.now.front _ c.args.self.now.len c.args.self.now.sent c.args.at
    c.args.most c.requires.response.room c.requires.response.within c.if-place-self.true
    c.requires.most)

pub returns-else-place-self-clause-run : goal.returns-else-place-self-clause-run
returns-else-place-self-clause-run g c =
    let left : List ℕ =
    left_of (entries_at c.args.applications.now c.args.selected) c.args.self.now in
    let value : List ℕ = c.value-value.result.now in
    let k : ℕ = c.args.self.now.sent + c.args.at - c.args.self.now.len in
    let Run : List ℕ → Type 0 = λ bs. IsRunAt left c.args.at bs in
    let Read : List ℕ → Type 0 = λ v. Run (take c.args.most (drop k v)) in
    let run : Read value = subst Read (sym c.value-value.ensures)
    (run-value c.args.self.now.front _ c.args.self.now.len c.args.self.now.sent c.args.at
    c.args.most c.requires.response.room c.requires.response.within
    c.if-place-self.false c.requires.within c.requires.most) in
    subst Run (sym c.first-else-place-self.ensures)
    (subst (λ bs. Run (take c.args.most bs)) (sym (take_rest value k)) run)
