use Rattle.std.proofs.Common.{◌≡◌, ℕ, List, Some, arith, subst, sym, take, length, ◌++◌, ◌≤◌, ◌+◌, ◌-◌}
use Rattle.std.specs.Prelude.{slice_get, slice_index_or}
use Rattle.object_card.specs.CardFields.{entries_at, left_of}
use Rattle.object_card.proofs.Responses.{byte-front, byte-value, begun-small}
use Rattle.object_card.proofs.response.Response.byte.Goals as goal

pub overflow_add-place : goal.overflow_add-place
overflow_add-place g c =
    let Begun : List ℕ → Type 0 = λ v. c.args.self.now.sent
    ≤ length (take c.args.self.now.len c.args.self.now.front ++ v) in
    let begun = subst Begun (sym c.value-value.ensures) c.requires.response.begun in
    let small = begun-small c.args.self.now.front c.value-value.result.now c.args.self.now.len
    c.args.self.now.sent c.requires.response.within begun in
    omega (arith, small, c.value-value.type_inv.1, c.ranges.at)

pub returns-then-place-self : goal.returns-then-place-self
returns-then-place-self g c =
    byte-front c.args.self.now.front _ c.args.self.now.len c.args.self.now.sent c.args.at
    c.requires.response.room c.requires.response.within c.if-place-self.true

pub returns-else-place-self : goal.returns-else-place-self
returns-else-place-self g c =
    let Read : List ℕ → Type 0 = λ v. slice_get
    (left_of (entries_at c.args.applications.now c.args.selected) c.args.self.now) c.args.at
    ≡ Some (slice_index_or v (c.args.self.now.sent + c.args.at - c.args.self.now.len) 0) in
    subst Read (sym c.value-value.ensures)
    (byte-value c.args.self.now.front _ c.args.self.now.len c.args.self.now.sent c.args.at
    c.requires.response.room c.requires.response.within
    c.if-place-self.false c.requires.within)
