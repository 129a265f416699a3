use Rattle.std.proofs.Common.{◌≡◌, ◌+◌, ◌<◌, ◌⊎◌, true, ap, sym, ◌∙◌, arith, length, inl, inr}
use Rattle.t1_core.proofs.CardSteps.{ended, exceeded, forgets_field, on_ok}
use Rattle.t1_core.proofs.card.BlockCard.collect.Goals as goal
use Rattle.t1_core.proofs.card.BlockCard.collect.Goals.{then-self-via-then-self, then-self-via-else-self+then-before-field}

pub returns-then-more-clause-turn : goal.returns-then-more-clause-turn
returns-then-more-clause-turn g c =
    let old = c.args.self.now in
    let size = c.len-before.ensures in
    let kept = ap (λ e. length e.at.collected) c.self.view_is in
    let more : (old.over ≡ true)
    ⊎ (g.C.Applet.LIMIT < length old.at.collected + length c.args.field.now) =
    elim c.then-self.branch [
      | then-self-via-then-self w ↦ inl (sym (ap (λ e. e.over) c.self.view_is) ∙ w.if-self.true)
      | then-self-via-else-self+then-before-field w ↦
          inr (omega (arith, w.if-before-field.true, w.LIMIT.ensures, size, kept))
    ] in
    rw (c.if-more.true, c.exceed.ensures.reply)
    (exceeded g.C.Applet old c.exceed.new.self c.args.field.now c.drop_response.new.self
    c.drop_response.ensures more c.requires c.exceed.ensures.after)

pub returns-then-self-clause-turn : goal.returns-then-self-clause-turn
returns-then-self-clause-turn g c =
    let old = c.args.self.now in
    let size = c.len-before.ensures in
    let kept = ap (λ e. length e.at.collected) c.self.view_is in
    let more : (old.over ≡ true)
    ⊎ (g.C.Applet.LIMIT < length old.at.collected + length c.args.field.now) =
    elim c.then-self.branch [
      | then-self-via-then-self w ↦ inl (sym (ap (λ e. e.over) c.self.view_is) ∙ w.if-self.true)
      | then-self-via-else-self+then-before-field w ↦
          inr (omega (arith, w.if-before-field.true, w.LIMIT.ensures, size, kept))
    ] in
    rw (c.if-more.false)
    (on_ok (λ reply steps. steps c.args.field.now more) c.refuse.result c.refuse.ensures.turn)

pub returns-clause-turn : goal.returns-clause-turn
returns-clause-turn g c =
    let seen = c.self.view_is in
    let size = c.len-before.ensures in
    let kept = ap (λ e. length e.at.collected) seen in
    rw (c.if-more-2.false)
    (on_ok (λ reply steps. ended g.C.Applet c.args.self.now c.carry_out.new.self
    c.args.field.now _ seen c.append.new.bytes.items c.append.ensures.items
    reply (sym (ap (λ e. e.over) seen) ∙ c.if-self.false)
    (omega (arith, c.if-before-field.false, c.LIMIT.ensures, size, kept)) steps)
    c.carry_out.result c.carry_out.ensures.turn)

pub returns-clause-err : goal.returns-clause-err
returns-clause-err g c =
    let s = c.self.inside in
    forgets_field g.C.Applet c.args.self.now c.carry_out.new.self c.args.field.now _
    c.self.view_is c.append.new.bytes.items c.append.ensures.items
    c.len-before.result (let ok = s.collected.ok in omega (arith, c.len-before.ensures, ok.0))
    c.carry_out.result c.carry_out.ensures.err
