use Rattle.std.proofs.Common.{◌≡◌, ◌+◌, ◌-◌, ◌++◌, ◌∙◌, min, length, take, drop, List, ℕ, arith, ap}
use Rattle.command_card.specs.AtT1.{may_bring, status_bytes}
use Rattle.command_card.specs.View.{left_of}
use Rattle.command_card.proofs.CutLemmas.{hands_out, rest_length}
use Rattle.command_card.proofs.applet.hand_out.Goals as goal

pub returns-clause-hands : goal.returns-clause-hands
returns-clause-hands c =
    let bytes = c.args.bytes.now.items in
    let n = may_bring c.args.le in
    let first = c.min-first.result in
    let count = c.min-count.result in
    let left = c.len-2.result - first in
    let first_is : first ≡ min c.args.from (length bytes) =
    omega (arith, c.len.ensures, c.min-first.ensures) in
    let left_is : left ≡ length bytes - first = omega (arith, c.len-2.ensures) in
    let count_is : count ≡ min n left = omega (arith, c.unwrap_or.ensures, c.min-count.ensures) in
    hands_out n c.args.from first left count bytes c.write.new.response.items c.args.status
    c.announcing.result (left_of bytes c.fetch_left.result) first_is left_is count_is
    (c.write.ensures.bytes
    ∙ ap (λ (xs : List ℕ). take (first + count - first) (drop first xs)
    ++ status_bytes c.announcing.result) c.deref.ensures.value)
    (c.announcing.ensures (drop n (drop c.args.from bytes))
    (rest_length n c.args.from first left count bytes first_is left_is count_is))
    (c.fetch_left.ensures.left bytes)
