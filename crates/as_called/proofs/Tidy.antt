-- What waits is the rest of a response, within its limit.
use Rattle.std.proofs.Common.{◌≤◌, ℕ, List, [], ◌∷◌, length, drop, refl, sym, ap, subst, arith, inl, inr, length-drop}
use Rattle.apdu_core.specs.CommandBytes.{Command}
use Rattle.apdu_core.specs.StatusWord.{StatusWord}
use Rattle.command_card.specs.declared.application.TheConstants.{OWN_RESPONSE_LIMIT}
use Rattle.command_card.specs.Carrying.{Did, IsOwn, Makes}
use Rattle.command_card.specs.State.{fetch_left}
use Rattle.as_called.specs.AsIfCalled.{IsTidy}

pub tidy_rest : (bytes : List ℕ) (own : StatusWord) → IsOwn own
    → length bytes ≤ OWN_RESPONSE_LIMIT → IsTidy (fetch_left bytes own)
tidy_rest [] own is short = tt
tidy_rest (b ∷ bytes) own is short = ((λ e. absurd (cc)), is, short)

pub own_made : {S : Type 0} (Act : S → Did → S → Type 0) (old new : S) (c : Command)
    (response : List ℕ) (own : StatusWord) → Makes Act old c response own new
    → IsOwn own × (length response ≤ OWN_RESPONSE_LIMIT)
own_made Act old new c response own (inl made) = (made.1, made.2)
own_made Act old new c response own (inr (same, none, is, long)) =
    (subst IsOwn (sym is) (refl, refl), omega (arith, ap length none))

-- what is left of a response is no longer
pub shorter : (n : ℕ) (bytes : List ℕ) → length bytes ≤ OWN_RESPONSE_LIMIT
    → length (drop n bytes) ≤ OWN_RESPONSE_LIMIT
shorter n bytes short =
    let e = length-drop n bytes in omega (arith, e, short)
