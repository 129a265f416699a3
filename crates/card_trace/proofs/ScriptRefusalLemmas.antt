-- What holds of a refusal that a call passes on.
use Rattle.std.proofs.Common.{◌≡◌, Result, Ok, Err, subst, sym}
use Rattle.std.specs.Prelude.{IfOk, IfErr, IsErrAnd}
use Rattle.card_trace.specs.declared.script.reason.LineReason.{LineReason}
use Rattle.card_trace.specs.declared.script.refusal.Refusal.{Refusal}
use Rattle.card_trace.specs.declared.script.refusal.Refusal.TheVariants.{Line, OutOfMemory}
use Rattle.card_trace.specs.ScriptReasons.{OnReason}

pub reason_implies : (refusal : Refusal) (P Q : LineReason → Type 0)
    → ((reason : LineReason) → P reason → Q reason)
    → OnReason refusal P → OnReason refusal Q
reason_implies (Line reason) P Q f h = f reason h
reason_implies OutOfMemory P Q f h = tt

-- an error that a call passes on
pub err_is : {T E : Type 0} (r : Result T E) (x : E) (P : E → Type 0) → IsErrAnd r (λ e. e ≡ x)
    → P x → IfErr r P
err_is (Ok y) x P same h = absurd same
err_is (Err e) x P same h = subst P (sym same) h

-- a refusal that a call passes on
pub passed_on : {T : Type 0} (r : Result T Refusal) (refusal : Refusal) (P Q : LineReason → Type 0)
    → IsErrAnd r (λ e. e ≡ refusal) → ((reason : LineReason) → P reason → Q reason)
    → OnReason refusal P
    → IfErr r (λ e. OnReason e Q)
passed_on r refusal P Q same f h =
    let R : Refusal → Type 0 = λ x. OnReason x Q in
    err_is r refusal R same (reason_implies refusal P Q f h)

pub refuses_more : {T : Type 0} (r : Result T Refusal) (P Q : LineReason → Type 0)
    → ((reason : LineReason) → P reason → Q reason) → IfErr r (λ e. OnReason e P)
    → IfErr r (λ e. OnReason e Q)
refuses_more (Ok x) P Q f h = tt
refuses_more (Err e) P Q f h = reason_implies e P Q f h

pub ok_more : {T E : Type 0} (r : Result T E) (P Q : T → Type 0) → ((x : T) → P x → Q x) → IfOk r P
    → IfOk r Q
ok_more (Ok x) P Q f h = f x h
ok_more (Err e) P Q f h = tt
