use Rattle.std.proofs.Common.{◌≡◌, ◌∙◌, ap, ap₂, true}
use Rattle.std.specs.Prelude.{codes}
use Rattle.std.proofs.lemmas.Result.{IfOk-weaker}
use Rattle.clap.specs.Simple.{App, app_of, app_of_fields, new_app, on_top, with_subcommand}
use Rattle.card_trace.specs.CommandLine.{play_shape, card_shape}
use Rattle.card_trace.proofs.command_line.command.Goals as goal

-- a subcommand is required
abbrev required : App → App
required = on_top (λ s. record s { subcommand_required = true })

-- there is a version
abbrev versioned : App → App
versioned = on_top (λ s. record s { has_version = true })

-- the command without its subcommands
abbrev alone : App
alone = required (versioned (new_app (codes "card_trace")))

pub returns : goal.returns
returns c =
    let top = λ (a : App). a.top in
    let base : app_of c.subcommand_required-command.result ≡ alone =
    ap app_of_fields c.subcommand_required-command.ensures
    ∙ ap required (ap app_of_fields c.after_help.ensures ∙ ap app_of_fields c.version.ensures
    ∙ ap versioned (ap app_of_fields c.about.ensures ∙ c.new.ensures.app)) in
    let first : app_of c.in_ok-subcommand.field-0 ≡ with_subcommand alone play_shape =
    c.in_ok-subcommand.ensures.shape c.of_scripts.ensures.local
    ∙ ap₂ with_subcommand base (ap top c.of_scripts.ensures.app) in
    let second : app_of c.in_ok-subcommand-2.field-0
    ≡ with_subcommand (with_subcommand alone play_shape) card_shape =
    c.in_ok-subcommand-2.ensures.shape c.of_scripts-2.ensures.local
    ∙ ap₂ with_subcommand first (ap top c.of_scripts-2.ensures.app) in
    IfOk-weaker c.subcommand-3.result _ _
    (λ r h. h.shape c.in_ok-objects.ensures.local
    ∙ ap₂ with_subcommand second (ap top c.in_ok-objects.ensures.app)) c.subcommand-3.ensures
