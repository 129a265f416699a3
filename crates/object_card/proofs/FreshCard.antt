-- A card with nothing selected, pending or prepared, and what a card sends.
use Rattle.std.proofs.Common.{◌≡◌, ℕ, zero, suc, ◌<◌, ◌≤◌, ◌-◌, List, [], ◌∷◌, arith, length, take, length-take, Option, Some, None, refl, sym, subst}
use Rattle.std.specs.Prelude.{slice_get}
use Rattle.std.proofs.Math.Nat.{min-le_left}
use Rattle.apdu_core.specs.declared.header.Header.{Header}
use Rattle.apdu_core.specs.StatusWord.{count}
use Rattle.t0_core.specs.Meaning.{IsSending}
use Rattle.apdu_core.specs.Chaining.{ChainState, idle}
use Rattle.object_card.specs.declared.limits.TheConstants.{VALUE_LIMIT}
use Rattle.object_card.specs.declared.response.Response.{Response}
use Rattle.object_card.specs.declared.ready.Ready.{Ready}
use Rattle.object_card.specs.declared.ready.Ready.TheVariants as ready
use Rattle.object_card.specs.Tables.{AreApplications}
use Rattle.object_card.specs.CardFields.{ApplicationView, applications_of, entries_at, left_of}
use Rattle.t0_core.specs.DataRun.{IsRunAt}
use Rattle.object_card.proofs.Responses.{run-within}
use Rattle.object_card.specs.CardView.{IsCard, NewValue, chain_before, prepared_of, standing_chain}

chain_limit : (chain : ChainState) (before : Option ℕ) → (chain_before chain before).limit
    ≡ chain.limit
chain_limit chain None = refl
chain_limit chain (Some len) = refl

-- what is prepared changes no limit
pub standing_limit : (chain : ChainState) (r : Ready) → (standing_chain chain r).limit ≡ chain.limit
standing_limit chain (ready.Joins before) = chain_limit chain before
standing_limit _ _ = refl

pub is_fresh : (held : List ApplicationView) (chain : ChainState)
    → AreApplications (applications_of held) → chain ≡ idle VALUE_LIMIT
    → IsCard held None chain None ready.Nothing None
is_fresh held chain are is =
    let Fresh : ChainState → Type 0 = λ c. IsCard held None c None ready.Nothing None in
    subst Fresh (sym is) (record {
      standing = record {
        sound = record { are_applications = are; selected_is_held = tt; is_pending = tt };
        selected_is = tt;
        limit_is = refl;
        of_puts = tt;
        response_is = tt;
        alone = λ _. refl;
      };
      fits = refl;
    })

-- a byte within the first n is a byte of the whole
of_whole : (bytes : List ℕ) (n at byte : ℕ) → at < length (take n bytes) → slice_get bytes at
    ≡ Some byte
    → slice_get (take n bytes) at ≡ Some byte
of_whole [] n at byte lt is = absurd (cc)
of_whole (b ∷ bytes) zero at byte lt is = absurd (omega (arith, lt))
of_whole (b ∷ bytes) (suc n) zero byte lt is = is
of_whole (b ∷ bytes) (suc n) (suc at) byte lt is = of_whole bytes n at byte (omega (arith, lt)) is

-- the byte that is read is one of the data to send
pub sends_byte : (held : List ApplicationView) (selected : Option ℕ) (chain : ChainState)
    (response : Option Response) (r : Ready)
    (put : Option NewValue) (h : Header) (p3 cut : ℕ) (sent : Response) (at byte : ℕ) → r
    ≡ ready.Sends h p3 cut sent
    → slice_get (left_of (entries_at held selected) sent) at ≡ Some byte
    → IsSending (prepared_of held selected chain response r put) (λ ask bytes. at < length bytes)
    → IsSending (prepared_of held selected chain response r put)
    (λ ask bytes. slice_get bytes at ≡ Some byte)
sends_byte held selected chain response r put h p3 cut sent at byte is read =
    let Read : Ready → Type 0 = λ x. IsSending (prepared_of held selected chain response x put)
    (λ ask bytes. at < length bytes)
    → IsSending (prepared_of held selected chain response x put)
    (λ ask bytes. slice_get bytes at ≡ Some byte) in
    subst Read (sym is) (λ within. of_whole (left_of (entries_at held selected) sent)
    (count p3) at byte within read)

-- so are the bytes of a run
pub sends_run : (held : List ApplicationView) (selected : Option ℕ) (chain : ChainState)
    (response : Option Response) (r : Ready)
    (put : Option NewValue) (h : Header) (p3 cut : ℕ) (sent : Response) (at : ℕ) (run : List ℕ)
    → r ≡ ready.Sends h p3 cut sent
    → IsRunAt (left_of (entries_at held selected) sent) at run → length run ≤ count p3 - at
    → IsSending (prepared_of held selected chain response r put) (λ ask bytes. at < length bytes)
    → IsSending (prepared_of held selected chain response r put)
    (λ ask bytes. IsRunAt bytes at run)
sends_run held selected chain response r put h p3 cut sent at run is runs fits =
    let left : List ℕ = left_of (entries_at held selected) sent in
    let Runs : Ready → Type 0 = λ x. IsSending (prepared_of held selected chain response x put)
    (λ ask bytes. at < length bytes)
    → IsSending (prepared_of held selected chain response x put)
    (λ ask bytes. IsRunAt bytes at run) in
    subst Runs (sym is) (λ within. run-within left run (count p3) at
    (omega (arith, fits, within, length-take (count p3) left, min-le_left (count p3) (length left)))
    runs)
