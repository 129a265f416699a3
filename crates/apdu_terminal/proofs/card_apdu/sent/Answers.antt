use Rattle.std.proofs.Common.{◌∙◌, ap, arith, take}
use Rattle.apdu_core.specs.CommandBytes.{command_bytes}
use Rattle.apdu_terminal.proofs.CardLemmas.{command_is_short, tpdu_goes, taken_of}
use Rattle.apdu_terminal.proofs.card_apdu.sent.Goals as goal

pub unreachable-requires : goal.unreachable-requires
unreachable-requires g c =
    omega (
      arith,
      command_is_short c.args.due.now c.le-le.ensures.command.sizes,
      c.in_default.ensures.0,
    )

pub returns : goal.returns
returns g c =
    let (rests, limit, goes) = tpdu_goes g.C.TpduCard c.args.due.now _ c.args.end.now
    c.tpdu.new.self c.over.result c.tpdu.new.plans c.args.gather.now c.tpdu.new.gather _
    c.le-le.ensures.command.sizes c.requires.tpdu
    (ap (take c.in-Some.count) c.in-Some.ensures.1
    ∙ taken_of c.in-Some.count (command_bytes c.args.due.now) _ c.in-Some.ensures.0)
    c.over.ensures c.requires.rests c.requires.empty c.requires.room c.tpdu.ensures in
    record { rests = rests; limit = limit; goes = goes }
