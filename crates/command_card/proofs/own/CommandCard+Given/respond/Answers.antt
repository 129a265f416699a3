use Rattle.std.proofs.Common.{rules, sym, subst, ap}
use Rattle.command_card.specs.AtT1.{Responds}
use Rattle.command_card.specs.Given.{Gives, at_rest, takes_data}
use Rattle.command_card.specs.State.{Left}
use Rattle.command_card.specs.View.{standing_in}
use Rattle.command_card.proofs.own.CommandCard+Given.respond.Goals as goal

pub returns-clause-done : goal.returns-clause-done
returns-clause-done c =
    let a = c.args in
    let mid = at_rest c.respond_given.new.application in
    let P : Left → Type 0 = λ left. Responds takes_data Gives (standing_in at_rest a.self.now)
    (record { header = a.header; content = a.bytes.now; le = a.le })
    c.respond_given.new.response.items (record { app = mid; left = left }) in (
      mid,
      subst P (sym c.wipe_ended.ensures.left) (search rules),
      ap at_rest c.forget_direction.ensures,
    )
