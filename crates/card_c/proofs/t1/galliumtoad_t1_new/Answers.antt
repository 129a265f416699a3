use Rattle.std.proofs.Common.{◌≡◌, Option, Some, None, is_some, false, [], refl, sym, ap, subst, ◌∙◌, inl, inr, pos}
use Rattle.t1_core.specs.TerminalSide.{fresh}
use Rattle.card_c.specs.declared.t1_side.T1Side.{T1Side}
use Rattle.card_c.specs.Codes.{gt_memory}
use Rattle.card_c.specs.Handles.{t1_in}
use Rattle.card_c.specs.T1Calls.{HasBegun}
use Rattle.card_c.proofs.t1.galliumtoad_t1_new.Goals as goal

none_of : (o : Option T1Side) → is_some o ≡ false → o ≡ None
none_of None is = refl
none_of (Some side) is = absurd (cc)

pub returns-in-Ok-new : goal.returns-in-Ok-new
returns-in-Ok-new c =
    let s = c.in-Some.settings in
    let made : c.in-Ok-new.side.value ≡ record { end = fresh s; block = [] } =
    c.in-Ok-new.ensures.ok
    ∙ ap (λ e. record { end = e; block = c.new-block.result }) c.in-Ok.ensures
    ∙ ap (λ b. record { end = fresh s; block = b }) c.new-block.ensures in
    subst (λ (o : Option T1Side). HasBegun c.args.edc c.args.ifsc c.args.tries c.args.extensions
    c.args.limit o (pos 0) (t1_in c.put.new.self))
    (sym (none_of (t1_in c.args.t1.now) (sym c.is_live.ensures ∙ c.if-is_live.false)))
    (inr (inr (
      c.in-Some.ensures.0,
      refl,
      s,
      c.in-Some.ensures.1,
      c.put.ensures ∙ ap Some made,
    )))

pub returns : goal.returns
returns c =
    subst (λ (o : Option T1Side). HasBegun c.args.edc c.args.ifsc c.args.tries c.args.extensions
    c.args.limit o gt_memory o)
    (sym (none_of (t1_in c.args.t1.now) (sym c.is_live.ensures ∙ c.if-is_live.false)))
    (inr (inl (c.in-Some.ensures.0, refl, refl)))
