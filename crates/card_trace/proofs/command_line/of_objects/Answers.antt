use Rattle.std.proofs.Common.{◌≡◌, ◌∙◌, ap, ap₂, Bool, true, false}
use Rattle.std.specs.Prelude.{codes}
use Rattle.std.proofs.lemmas.Result.{IfOk-weaker}
use Rattle.clap.specs.Simple.{app_of, app_of_fields, new_app, with_rule}
use Rattle.clap.specs.Walk.{Rule, rule_of}
use Rattle.clap.specs.declared.builder.arg.Arg.{Arg}
use Rattle.card_trace.specs.CommandLine.{hex_rule}
use Rattle.card_trace.proofs.command_line.of_objects.Goals as goal

-- the argument is required
abbrev required : Rule → Rule
required r = record r { required = true }

abbrev is_global : Arg → Bool
is_global a = a.global

pub returns-clause-app : goal.returns-clause-app
returns-clause-app c =
    let base : app_of c.after_help.result ≡ new_app (codes "objects") =
    ap app_of_fields c.after_help.ensures ∙ ap app_of_fields c.about.ensures
    ∙ c.new-2.ensures.app in
    let rule : rule_of c.help-digits.result ≡ hex_rule =
    ap rule_of c.help-digits.ensures ∙ ap rule_of c.required.ensures
    ∙ ap required c.new.ensures.rule in
    let local : is_global c.help-digits.result ≡ false =
    ap is_global c.help-digits.ensures ∙ ap is_global c.required.ensures
    ∙ c.new.ensures.optional.1 in
    IfOk-weaker c.arg.result _ _ (λ r h. h.shape local ∙ ap₂ with_rule base rule) c.arg.ensures
