use Rattle.std.proofs.Common.{◌≡◌, ℤ, refl, sym, subst, inl, if◌then◌else◌, w32, to_z, of_z}
use Rattle.apdu_core.specs.declared.command.ApduFault.{ApduFault}
use Rattle.apdu_core.specs.declared.command.ApduFault.TheVariants.{TooShort, BadLength, InvalidIns}
use Rattle.card_c.specs.Codes.{gt_state, command_code}
use Rattle.card_terminal.specs.TerminalSide.{is_going}
use Rattle.card_c.specs.TerminalCalls.{BeginsSend}
use Rattle.card_c.proofs.CodeLemmas.{as_it_is}
use Rattle.card_c.proofs.terminal.send.Goals as goal

code_as_it_is : (fault : ApduFault)
    → to_z w32 (of_z w32 (command_code fault)) ≡ command_code fault
code_as_it_is TooShort = refl
code_as_it_is BadLength = refl
code_as_it_is InvalidIns = refl

pub returns-in-Err-clause-begins : goal.returns-in-Err-clause-begins
returns-in-Err-clause-begins c =
    let none = c.in-Err.ensures.refused in
    let before = c.args.terminal.now.operation in
    let Sends : ℤ → Type 0 = λ z. BeginsSend c.args.bytes.now before z before in
    let Is : ℤ → Type 0 = λ z. c.refused.result
    ≡ (if is_going before then gt_state else z) in
    let is : Is (command_code none.0) = subst Is (code_as_it_is none.0)
    (subst (λ z. Is (to_z w32 (of_z w32 z))) none.2 c.refused.ensures.code) in
    subst Sends (sym (as_it_is c.refused.result c.refused.type_inv))
    (inl (none.0, none.1, (is, refl)))
