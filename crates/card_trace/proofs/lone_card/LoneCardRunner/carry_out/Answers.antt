use Rattle.std.proofs.Common.{◌∙◌, ap, sym, refl}
use Rattle.card_trace.specs.PrintedText.{reset_text, printed_text}
use Rattle.card_trace.specs.TableText.{table_text}
use Rattle.card_trace.specs.ScriptCard.{act_of, Take, HandOut, Reset, Table}
use Rattle.card_trace.proofs.CardLemmas.{runs_as, leads_reset, ready_reset}
use Rattle.card_trace.proofs.lone_card.LoneCardRunner.carry_out.Goals as goal

pub returns-in-Take : goal.returns-in-Take
returns-in-Take g c =
    let now = c.args.self.now in
    let new = c.take.new.self in
    runs_as (act_of c.args.act) (Take c.bytes.result.now) now.opening (now.end, now.plans)
    new.opening (new.end, new.plans) (printed_text c.take.result)
    (ap act_of c.in-Take.is ∙ ap (λ b. Take b) (sym c.bytes.ensures)) c.take.ensures

pub returns-in_ok-text-in-HandOut : goal.returns-in_ok-text-in-HandOut
returns-in_ok-text-in-HandOut g c =
    let now = c.args.self.now in
    let new = c.hand_out.new.self in
    runs_as (act_of c.args.act) (HandOut c.in-HandOut.most) now.opening (now.end, now.plans)
    new.opening (new.end, new.plans) c.in_ok-text-in-HandOut.text.items
    (ap act_of c.in-HandOut.is) c.in_ok-text-in-HandOut.ensures

pub returns-in-Reset : goal.returns-in-Reset
returns-in-Reset g c =
    let now = c.args.self.now in
    runs_as (act_of c.args.act) Reset now.opening (now.end, now.plans)
    c.begin_anew.new.self (c.reset.new.self, now.plans) reset_text (ap act_of c.in-Reset.is)
    (leads_reset now.opening c.begin_anew.new.self now.end c.reset.new.self now.plans
    c.begin_anew.ensures c.reset.ensures.card
    (ready_reset now.end c.reset.new.self now.plans c.reset.ensures.stage c.reset.ensures.led
    c.reset.ensures.led_under))

pub returns-in_ok-text-in-Table : goal.returns-in_ok-text-in-Table
returns-in_ok-text-in-Table g c =
    let now = c.args.self.now in
    runs_as (act_of c.args.act) Table now.opening (now.end, now.plans) now.opening
    (now.end, now.plans) c.in_ok-text-in-Table.text.items (ap act_of c.in-Table.is)
    (λ past ready. (
      past,
      ready,
      (
        refl,
        c.in_ok-text-in-Table.ensures
            ∙ ap (λ card. table_text card.state.applications) c.card.ensures,
      ),
    ))
