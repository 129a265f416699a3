use Rattle.t1_terminal.proofs.KeepLemmas.{all_keep}
use Rattle.t1_terminal.proofs.laws.only_a_put_changes_entries.Goals as goal

pub returns : goal.returns
returns g c state_of means calls old new sent keeping happen =
    let (did, goes) = c.only_commands_change_a_card.ensures calls old new sent keeping happen in (
      did,
      all_keep g.C.TpduCard.Does (λ s. (state_of s).applications)
          (c.only_a_put_command_changes_entries.ensures.responds state_of means) did _ _ goes,
    )
