-- Which calls of an application a card makes at a header.
use Rattle.std.proofs.Common.{◌≡◌, ℕ, List, Bool, false, refl, sym, subst}
use Rattle.apdu_core.specs.declared.header.Header.{Header}
use Rattle.apdu_core.specs.CommandBytes.{Command}
use Rattle.apdu_core.specs.StatusWord.{count}
use Rattle.command_card.specs.Calls.{Call, CallsAt, CallsOnce}
use Rattle.command_card.specs.Carrying.{asking}
use Rattle.command_card.specs.Meaning.{Kind, Invalid, Hands, Unfetched, Takes, Asks}

-- a header of this kind is no command without data to the card
abbrev pub IsSilent : Kind → Type 0
IsSilent Asks = ⊥
IsSilent other = Unit {0}

pub none_called : {A : Type 0} (Called : A → List Call → Type 0) (k kind : Kind) (h : Header)
    (p3 : ℕ) (old : A) (settles : Bool) → k ≡ kind → IsSilent kind → settles ≡ false
    → CallsAt Called k h p3 old settles old
none_called {A = A} Called k kind h p3 old settles is silent none =
    subst (λ (x : Kind). CallsAt Called x h p3 old settles old) (sym is) (at kind silent)
  where
    at : (x : Kind) → IsSilent x → CallsAt Called x h p3 old settles old
    at Invalid silent = (none, refl)
    at (Hands hand) silent = (none, refl)
    at Unfetched silent = (none, refl)
    at Takes silent = (none, refl)
    at Asks silent = absurd silent

pub asked_called : {A : Type 0} (Called : A → List Call → Type 0) (k : Kind) (h : Header) (p3 : ℕ)
    (c : Command) (old new : A) (says settles : Bool) → k ≡ Asks → c ≡ asking h (count p3)
    → settles ≡ says → CallsOnce Called old c says new → CallsAt Called k h p3 old settles new
asked_called {A = A} Called k h p3 c old new says settles is command same once =
    subst (λ (x : Kind). CallsAt Called x h p3 old settles new) (sym is)
    (subst (λ (s : Bool). CallsOnce Called old (asking h (count p3)) s new) (sym same)
    (subst (λ (m : Command). CallsOnce Called old m says new) command once))
