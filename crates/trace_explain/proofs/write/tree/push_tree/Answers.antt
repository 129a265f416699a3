use Rattle.std.proofs.Common.{◌≡◌, [], true, false, refl}
use Rattle.trace_explain.proofs.SheetLemmas.{adds_nothing}
use Rattle.trace_explain.proofs.write.tree.push_tree.Goals as goal

pub returns-in-Err : goal.returns-in-Err
returns-in-Err c = (
  [],
  record {
    never = λ _. refl;
    none = λ _. refl;
    objects = λ may are.
        absurd (let no : false ≡ true = c.in-Err.ensures.objects.1 are in cc);
  },
  refl,
  adds_nothing,
)
