use Rattle.std.proofs.Common.{◌∙◌, sym, ap, subst, map, refl}
use Rattle.std.specs.Prelude.{codes, string_bytes, option_map}
use Rattle.clap.specs.Walk.{rows_of}
use Rattle.clap.specs.Matches.{found_of}
use Rattle.clap.specs.Simple.{app_of}
use Rattle.clap.proofs.WalkLemmas.{first_value-rows}
use Rattle.card_trace.specs.CommandLine.{asked_by, request_in, request_named}
use Rattle.card_trace.proofs.CommandLineLemmas.{IsNamed, met, whole, named_asks, digits_read, some_of_map}
use Rattle.card_trace.proofs.command_line.parsed.Goals as goal

pub unwrap-requires-2 : goal.unwrap-requires-2
unwrap-requires-2 c =
    let m = c.in_ok-matches.matches in
    let known = met (app_of c.in_ok-command.field-0) (map string_bytes c.args.words.now) m
    c.in_ok-command.ensures c.in_ok-matches.ensures.kinds c.in_ok-matches.ensures.matches in
    let found = whole m c.subcommand.result c.unwrap.result c.unwrap.ensures
    c.subcommand.ensures.name c.subcommand.ensures.rows in
    some_of_map asked_by c.named.result
    (request_named c.unwrap.result.0.now c.unwrap_or-digits.result.now) c.named.ensures
    (named_asks c.unwrap.result.0.now c.unwrap_or-digits.result.now
    (rows_of (found_of c.unwrap.result.1.now)) (subst IsNamed found known.named))

pub returns-clause-ok : goal.returns-clause-ok
returns-clause-ok c =
    let m = c.in_ok-matches.matches in
    let known = met (app_of c.in_ok-command.field-0) (map string_bytes c.args.words.now) m
    c.in_ok-command.ensures c.in_ok-matches.ensures.kinds c.in_ok-matches.ensures.matches in
    let found = whole m c.subcommand.result c.unwrap.result c.unwrap.ensures
    c.subcommand.ensures.name c.subcommand.ensures.rows in
    let digits = digits_read c.get_str.result _ _
    (c.get_str.ensures ∙ first_value-rows (found_of c.unwrap.result.1.now) (codes "HEX"))
    refl in (
      known.no_fault,
      ap request_in (sym known.rows ∙ found)
          ∙ ap (request_named c.unwrap.result.0.now)
          (sym digits ∙ sym (ap (λ b. b.now) c.unwrap_or-digits.ensures))
          ∙ sym c.named.ensures ∙ ap (option_map asked_by) c.unwrap-2.ensures,
    )
