-- Each fault of a command has its reason.
use Rattle.std.proofs.Common.{◌≡◌, ◌↔◌, ◌<◌, ◌≤◌, ℕ, List, length, Result, Err, sym, ◌∙◌, true≢false}
use Rattle.apdu_core.specs.declared.command.ApduFault.{ApduFault}
use Rattle.apdu_core.specs.declared.command.ApduFault.TheVariants as command
use Rattle.apdu_core.specs.CommandBytes.{Command, HasForm, HasInvalidIns, command_bytes}
use Rattle.card_trace.specs.NoFields.{IsNotAgreed, too_short, no_form, invalid_ins, another_case}
use Rattle.card_trace.specs.ScriptReasons.{reason_of_command}
use Rattle.card_trace.proofs.ScriptRefusalLemmas.{err_is}
use Rattle.card_trace.proofs.script.fields.agreed_command.Goals as goal

of_fault : {T : Type 0} (bytes : List ℕ) (r : Result T ApduFault) (fault : ApduFault)
    → r ≡ Err fault
    → ((r ≡ Err command.TooShort) ↔ (length bytes < 4))
    → ((r ≡ Err command.BadLength) ↔ ((4 ≤ length bytes) × (HasForm bytes → ⊥)))
    → ((r ≡ Err command.InvalidIns)
    ↔ ((c : Command) × HasInvalidIns c × (bytes ≡ command_bytes c)))
    → IsNotAgreed bytes (reason_of_command fault)
of_fault bytes r command.TooShort is short form ins = too_short (short.0 is)
of_fault bytes r command.BadLength is short form ins =
    let found = form.0 is in
    no_form found.0 found.1
of_fault bytes r command.InvalidIns is short form ins =
    let found = ins.0 is in
    invalid_ins found.0 found.1 found.2

pub returns-in_err-command-clause-why : goal.returns-in_err-command-clause-why
returns-in_err-command-clause-why c =
    let bytes = c.args.bytes.now in
    let fault = c.in_err-command.field-0.0 in
    err_is c.from_residual.result (reason_of_command fault) (IsNotAgreed bytes)
    c.from_residual.ensures.1
    (of_fault bytes c.read.result fault c.in_err-command.was c.read.ensures.too_short
    c.read.ensures.bad_length c.read.ensures.invalid_ins)

pub returns-else-is_agreed-clause-why : goal.returns-else-is_agreed-clause-why
returns-else-is_agreed-clause-why c =
    let command = c.in_ok-command.command in
    another_case command c.in_ok-command.ensures.command.0 c.in_ok-command.ensures.command.1
    (λ agreed. true≢false (sym (c.is_agreed.ensures.1 agreed) ∙ c.if-is_agreed.false))
