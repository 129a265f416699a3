-- Bytes that are not UTF-8 are no number.
use Rattle.std.proofs.Common.{sym, ◌∙◌}
use Rattle.card_trace.proofs.ScriptFieldLemmas.{number_is_utf8, was_err}
use Rattle.card_trace.proofs.script.fields.read_number.Goals as goal

pub returns-in_err-ok-in-49-to-57 : goal.returns-in_err-ok-in-49-to-57
returns-in_err-ok-in-49-to-57 c =
    rw c.from_residual.ensures (λ n h.
    was_err c.from_utf8.result _ _ ⊥ (sym c.in_err-ok-in-49-to-57.was ∙ c.ok.ensures.value)
    (λ e no. no.0 (number_is_utf8 c.args.text.now n h)) c.from_utf8.ensures.cases)
