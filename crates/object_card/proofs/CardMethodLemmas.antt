-- A card that takes data, sends data, or judges a header: how contracts see its fields.
use Rattle.std.proofs.Common.{◌≡◌, ℕ, List, Option, None, refl, sym, subst}
use Rattle.apdu_core.specs.Chaining.{ChainState}
use Rattle.t0_core.specs.Meaning.{Ask, IsReceiving, IsSending}
use Rattle.object_card.specs.declared.response.Response.{Response}
use Rattle.object_card.specs.declared.ready.Ready.{Ready}
use Rattle.object_card.specs.declared.ready.Ready.TheVariants as ready
use Rattle.object_card.specs.CardFields.{ApplicationView, state_of}
use Rattle.object_card.specs.CardView.{CardView, NewValue, IsCard, IsReady, IsStanding, prepared_of, view_of}
use Rattle.object_card.specs.PendingChain.{CanBeGivenUp}

-- the fields of a card that takes data or sends bytes, as contracts see them
pub record IsAtWork (held : List ApplicationView) (selected : Option ℕ) (chain : ChainState)
    (response : Option Response) (now : Ready) (put : Option NewValue) (seen : CardView) : Type 0
  where
    pub standing : IsStanding held selected chain response
    pub fits : IsReady held selected chain response now None
    pub none_put : put ≡ None
    pub same_state : state_of held selected chain response ≡ seen.state
    pub same_prepared : prepared_of held selected chain response now None ≡ seen.prepared

module _ (held : List ApplicationView) (selected : Option ℕ) (chain : ChainState)
    (response : Option Response) (put : Option NewValue) where
  abbrev AtWork : Ready → CardView → Type 0
  AtWork now seen = IsAtWork held selected chain response now put seen

  pub takes : (now : Ready) (seen : CardView) (P : Ask → Type 0)
      → IsCard held selected chain response now put
      → view_of held selected chain response now put ≡ seen → IsReceiving seen.prepared P
      → AtWork now seen
  takes now seen P is view receives =
      subst (AtWork now) view
      (each now is (subst (λ v. IsReceiving v.prepared P) (sym view) receives))
    where
      each : (now : Ready) → IsCard held selected chain response now put
          → IsReceiving (prepared_of held selected chain response now put) P
          → AtWork now (view_of held selected chain response now put)
      each (ready.Receives h p3 cut) is receives = record {
        standing = is.standing;
        fits = (is.fits.0, is.fits.1, refl);
        none_put = is.fits.2;
        same_state = refl;
        same_prepared = refl;
      }
      each _ _ receives = absurd receives

  pub sends : (now : Ready) (seen : CardView) (P : Ask → List ℕ → Type 0)
      → IsCard held selected chain response now put
      → view_of held selected chain response now put ≡ seen → IsSending seen.prepared P
      → AtWork now seen
  sends now seen P is view sending =
      subst (AtWork now) view
      (each now is (subst (λ v. IsSending v.prepared P) (sym view) sending))
    where
      each : (now : Ready) → IsCard held selected chain response now put
          → IsSending (prepared_of held selected chain response now put) P
          → AtWork now (view_of held selected chain response now put)
      each (ready.Sends h p3 cut sent) is sending = record {
        standing = is.standing;
        fits = (is.fits.0, is.fits.1, is.fits.2, is.fits.3, refl);
        none_put = is.fits.4;
        same_state = refl;
        same_prepared = refl;
      }
      each _ _ sending = absurd sending

-- what is prepared can be dropped
pub gives_up : (held : List ApplicationView) (selected : Option ℕ) (chain : ChainState)
    (response : Option Response) (now : Ready) (put : Option NewValue)
    → IsCard held selected chain response now put → CanBeGivenUp chain now
gives_up held selected chain response (ready.Joins before) put is = is.fits.1
gives_up _ _ _ _ _ _ _ = tt
