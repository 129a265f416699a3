use Rattle.std.proofs.Common.{ap, ◌∙◌, ◌++◌, sym}
use Rattle.card_trace.proofs.TraceLemmas.{run_written}
use Rattle.card_trace.proofs.text.push_run.Goals as goal

pub returns : goal.returns
returns g c =
    run_written c.extend_from_slice-2.result c.args.text.now.items
    c.extend_from_slice.new.self.items c.push_hex.new.text.items
    c.extend_from_slice-2.new.self.items
    c.args.from c.args.bytes.now (sym c.is_empty.ensures ∙ c.if-is_empty.false)
    (c.in_ok-extend_from_slice.ensures.items
    ∙ ap (λ t. c.args.text.now.items ++ t) c.sign_of.ensures)
    c.in_ok-push_hex.ensures c.extend_from_slice-2.ensures.items
