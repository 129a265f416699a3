use Rattle.std.proofs.Common.{ℕ, List, ap, drop, take, ◌∙◌}
use Rattle.std.proofs.lemmas.Result.{on_ok_weaker}
use Rattle.trace_explain.specs.Logs.{command_len, log_at}
use Rattle.trace_explain.specs.Patterns.{all_of, marked_by}
use Rattle.trace_explain.proofs.LogLemmas.{both_are}
use Rattle.trace_explain.proofs.read.log.Log.take_both.Goals as goal

pub returns : goal.returns
returns c =
    let size = c.command_len.ensures.value
    ∙ ap (λ (bytes : List ℕ). command_len bytes) c.as_slice.ensures.value in
    let all = c.in_ok-command.command.items in
    on_ok_weaker c.pair.result (λ h.
    both_are (log_at c.args.self.now) (all_of (marked_by c.args.marks))
    c.split_off.new.self.items c.in_ok-answer.answer.items
    c.args.entries.now.items c.pair.new.entries.items c.pair.new.self h
    (c.in_ok-answer.ensures.items ∙ ap (λ (n : ℕ). take n all) size
    ∙ ap (λ (bytes : List ℕ). take (command_len bytes) bytes) c.in_ok-command.ensures)
    (c.in_ok-answer.ensures.tail ∙ ap (λ (n : ℕ). drop n all) size
    ∙ ap (λ (bytes : List ℕ). drop (command_len bytes) bytes) c.in_ok-command.ensures))
    c.pair.ensures
