use Rattle.std.proofs.Common.{◌++◌, ◌∙◌, ap}
use Rattle.trace_explain.proofs.write.tpdu_box.tell_value.Goals as goal

pub returns : goal.returns
returns c =
    let (lines, are, adds) = c.push_shown.ensures in (
      lines,
      are,
      c.push_beside.ensures lines
          (λ whole. adds.text whole ∙ ap (λ t. t ++ lines) c.clear.ensures.text),
    )
