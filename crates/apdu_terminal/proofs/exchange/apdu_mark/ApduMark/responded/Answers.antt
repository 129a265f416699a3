use Rattle.std.proofs.Common.{◌≡◌, ◌∙◌, ◌==◌, ap, length, refl, subst}
use Rattle.t0_core.specs.Room.{Room}
use Rattle.apdu_terminal.specs.ApduSide.{ApduExchangeOf, of_mark}
use Rattle.apdu_terminal.proofs.OperationLemmas.{responds_over}
use Rattle.apdu_terminal.proofs.exchange.apdu_mark.ApduMark.responded.Goals as goal

pub returns-clause-responding : goal.returns-clause-responding
returns-clause-responding g c =
    let content = c.args.content.now in
    let new = c.responded-taken.new.self in
    let place = c.exchange.inside.mark in
    let At : Room → ApduExchangeOf = λ room. of_mark content room c.args.self.now in
    responds_over c.args.gather.now c.into_gather.result c.args.self.now place content
    c.args.bytes.now c.args.status c.responded-taken.result (At c.replace.result) new
    c.is_empty-keeps.result (ap At c.replace.ensures.value)
    (ap (λ (r : Room). of_mark new.content r place) c.into_gather.ensures
    ∙ subst (λ (x : ApduExchangeOf). of_mark x.content x.gather place ≡ x) c.exchange.view_is refl)
    c.responded-taken.ensures.data
    (c.is_empty-keeps.ensures
    ∙ ap (λ (x : ApduExchangeOf). length x.content == 0) c.exchange.view_is)
    c.responded-taken.ensures.responding
