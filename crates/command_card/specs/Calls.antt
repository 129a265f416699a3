-- The calls of an application that change it, in order. `takes_data` changes nothing.
use Rattle.std.specs.Prelude.{◌≡◌, ℕ, ◌<◌, ◌≤◌, List, [], ◌∷◌, ◌++◌, length, Option, Some, None, Bool, true, false, if◌then◌else◌, Result, Ok, Err}
use Rattle.apdu_core.specs.declared.header.Header.{Header}
use Rattle.apdu_core.specs.CommandBytes.{Command, IsCommand, command_bytes}
use Rattle.apdu_core.specs.StatusWord.{StatusWord, count}
use Rattle.command_card.specs.declared.application.TheConstants.{OWN_RESPONSE_LIMIT}
use Rattle.command_card.specs.declared.ready.Ready.{Ready}
use Rattle.command_card.specs.declared.ready.Ready.TheVariants as ready
use Rattle.command_card.specs.Carrying.{Did, asking}
use Rattle.command_card.specs.AtT1.{shown}
use Rattle.command_card.specs.Meaning.{Kind, Asks}
use Rattle.command_card.specs.State.{is_fetch}

-- `carry_out`, and what it did, or that it ran out of memory; `settle`; `reset`; and of an
-- application that can be copied, `copy`
pub data Call : Type 0 where
  Carried_out : (did : Did) → Call
  Ran_out : (command : Command) → Call
  Settled : Call
  Was_reset : Call
  Was_copied : Call

-- the call of `carry_out` with this result
abbrev pub carrying_out : {E : Type 0} → Command → List ℕ → Result StatusWord E → Call
carrying_out c response (Ok status) =
    Carried_out (record { command = c; response = response; status = status })
carrying_out c response (Err e) = Ran_out c

-- These calls were made, in order. `Called`: what is known of the calls so far.
abbrev pub AreMade : {A : Type 0} → (A → List Call → Type 0) → A → List Call → A → Type 0
AreMade Called old calls new =
    (before : List Call) → Called old before → Called new (before ++ calls)

-- `carry_out` with this command. If `settles`, its response is within the limit.
abbrev pub IsCarriedOut : Command → Bool → Call → Type 0
IsCarriedOut c true (Carried_out did) =
    (did.command ≡ c) × (length did.response ≤ OWN_RESPONSE_LIMIT)
IsCarriedOut c false (Carried_out did) =
    (did.command ≡ c) × (OWN_RESPONSE_LIMIT < length did.response)
IsCarriedOut c false (Ran_out command) = command ≡ c
IsCarriedOut c settles other = ⊥

-- one call: `carry_out` with this command
abbrev pub CallsOnce : {A : Type 0} → (A → List Call → Type 0) → A → Command → Bool → A → Type 0
CallsOnce Called old c settles new =
    (call : Call) × IsCarriedOut c settles call × AreMade Called old (call ∷ []) new

-- the command that was carried out takes effect with SW2
abbrev pub settles_in : Ready → Bool
settles_in (ready.Sends h p3 cut from status ending) = ending.settles
settles_in (ready.Leaves ending) = ending.settles
settles_in other = false

-- At a header of this kind: one call if the application answers it, otherwise none.
abbrev pub CallsAt : {A : Type 0} → (A → List Call → Type 0) → Kind → Header → ℕ → A → Bool → A
    → Type 0
CallsAt Called Asks h p3 old settles new =
    CallsOnce Called old (asking h (count p3)) settles new
CallsAt Called other h p3 old settles new = (settles ≡ false) × (new ≡ old)

-- `settle` if the command that was carried out takes effect, otherwise no call
abbrev pub CallsAfter : {A : Type 0} → (A → List Call → Type 0) → A → Bool → A → Type 0
CallsAfter Called old true new = AreMade Called old (Settled ∷ []) new
CallsAfter Called old false new = new ≡ old

-- `carry_out`, and `settle` if the command takes effect
abbrev pub settling_calls : Call → Bool → List Call
settling_calls call true = call ∷ Settled ∷ []
settling_calls call false = call ∷ []

-- the command that reaches the application, if this whole command brings one
abbrev pub told_to : (Header → Bool) → Command → Option Command
told_to takes c = if is_fetch c.header then None
    else shown (takes c.header) c.header c.content c.le

-- for a whole command: these two calls, or the first, or none
abbrev pub CallsBy : {A : Type 0} → (A → List Call → Type 0) → A → Option Command → A → Type 0
CallsBy Called old (Some told) new = (call : Call) × (settles : Bool)
    × IsCarriedOut told settles call × AreMade Called old (settling_calls call settles) new
CallsBy Called old None new = new ≡ old

abbrev pub CallsFor : {A : Type 0} → (A → List Call → Type 0) → (Header → Bool) → A → Command → A
    → Type 0
CallsFor Called takes old c new = CallsBy Called old (told_to takes c) new

-- the same at T=1: no call for bytes that are no command
pub record CallsForBytes {A : Type 0} (Called : A → List Call → Type 0) (takes : Header → Bool)
    (old : A) (bytes : List ℕ) (new : A) : Type 0 where
  pub command : (c : Command) → IsCommand c → bytes ≡ command_bytes c
      → CallsFor Called takes old c new
  pub other : ((c : Command) → IsCommand c → bytes ≡ command_bytes c → ⊥) → new ≡ old

-- An application that can be copied is copied once, and the copy carries this command out, once. It
-- is kept if that succeeds.
abbrev pub CallsCopy : {E : Type 0} → (E → List Call → Type 0) → E → Command → E → Option E
    → Type 0
CallsCopy Called old c new None = AreMade Called old (Was_copied ∷ []) new
CallsCopy Called old c new (Some copy) = AreMade Called old (Was_copied ∷ []) new
    × (did : Did) × (did.command ≡ c)
    × AreMade Called old (Was_copied ∷ Carried_out did ∷ []) copy
