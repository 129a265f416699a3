use Rattle.std.proofs.Common.{refl}
use Rattle.apdu_core.proofs.CommandForms.{has_form, has_invalid_ins}
use Rattle.apdu_core.proofs.command.Command.read.Goals as goal

pub returns-then-not-ins_is_valid-clause-bad_length :
    goal.returns-then-not-ins_is_valid-clause-bad_length
returns-then-not-ins_is_valid-clause-bad_length c =
    let found = c.in-Some.ensures.some in
    (λ e. cc, λ h. absurd (h.1 (has_form _ _ _ c.in-len4-up.len_at_least found.0 found.1)))

pub returns-then-not-ins_is_valid-clause-invalid_ins :
    goal.returns-then-not-ins_is_valid-clause-invalid_ins
returns-then-not-ins_is_valid-clause-invalid_ins c =
    let found = c.in-Some.ensures.some in
    (λ e. has_invalid_ins _ _ _ c.in-len4-up.len_at_least found.0 found.1 cc, λ h. refl)

pub returns-clause-bad_length : goal.returns-clause-bad_length
returns-clause-bad_length c =
    let found = c.in-Some.ensures.some in
    (λ e. cc, λ h. absurd (h.1 (has_form _ _ _ c.in-len4-up.len_at_least found.0 found.1)))
