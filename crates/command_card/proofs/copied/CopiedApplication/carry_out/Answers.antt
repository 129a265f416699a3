use Rattle.std.proofs.Common.{[], ◌∷◌, ◌++◌, List, refl, subst, append_assoc}
use Rattle.command_card.specs.Calls.{Call, Carried_out, Was_copied}
use Rattle.command_card.specs.Carrying.{Did}
use Rattle.command_card.proofs.copied.CopiedApplication.carry_out.Goals as goal

pub returns-clause-copied : goal.returns-clause-copied
returns-clause-copied g c =
    let did : Did = record {
      command = c.args.command;
      response = c.carry_out.new.response.items;
      status = c.in_ok-status.status;
    } in (
      c.copy.ensures.called,
      did,
      refl,
      λ before was. subst (λ (cs : List Call). g.E.Eager.Called c.carry_out.new.self cs)
          (append_assoc before (Was_copied ∷ []) (Carried_out did ∷ []))
          (c.in_ok-status.ensures.called (before ++ Was_copied ∷ [])
          (c.in_ok-copy.ensures.follows before was)),
    )
