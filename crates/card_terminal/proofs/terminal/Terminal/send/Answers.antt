use Rattle.std.proofs.Common.{[], ◌∷◌, refl, sym, ◌∙◌}
use Rattle.card_terminal.proofs.PartLemmas.{command_begins, begins_by_characters}
use Rattle.card_terminal.proofs.terminal.Terminal.send.Goals as goal

pub returns-clause-begins : goal.returns-clause-begins
returns-clause-begins g c =
    let (o, is, begins) = c.in_ok-begin.ensures.begins in
    record {
      begun = (
        c.args.command ∷ [],
        refl,
        command_begins c.args.command c.data-data.result.now o _ c.data-data.ensures.value is
            begins,
      );
      by_characters = begins_by_characters o _ is begins;
      under_way = sym c.is_going.ensures.going ∙ c.if-is_going.false;
    }
