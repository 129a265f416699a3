-- The tag at the front must be all of the bytes.
use Rattle.std.proofs.Common.{sym, ap, ◌∙◌, true≢false}
use Rattle.std.specs.Prelude.{is_some}
use Rattle.card_trace.proofs.ScriptFieldLemmas.{named_starts, whole_tag, named_tag, was_ok}
use Rattle.card_trace.proofs.script.fields.object_tag.Goals as goal

pub returns-in_err-tag : goal.returns-in_err-tag
returns-in_err-tag c =
    rw c.from_residual.ensures (λ named.
    let read = c.read.ensures.starts.1 (named_starts c.args.bytes.now named) in
    true≢false (sym read ∙ sym c.ok.ensures.variant ∙ ap (λ o. is_some o) c.in_err-tag.was))

pub returns-then-size-bytes : goal.returns-then-size-bytes
returns-then-size-bytes c =
    let tag = c.in_ok-tag.tag in
    let size = c.in_ok-tag.size in
    let bytes = c.args.bytes.now in
    let read = was_ok c.read.result (tag, size) _ c.in_ok-tag.ensures.value c.read.ensures.tag in
    let whole = whole_tag bytes tag read.2.0 read.2.1 (sym c.if-size-bytes.true ∙ read.1) in
    named_tag c.new.result tag bytes whole c.new.ensures.named c.new.ensures.same
