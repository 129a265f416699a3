-- What follows a response, in an exchange of whole commands.
use Rattle.std.proofs.Common.{◌≡◌, ◌∙◌, ◌⊎◌, ℕ, ◌+◌, Option, Some, None, Bool, true, false, refl, sym, ap, inl, inr}
use Rattle.std.specs.Prelude.{if◌then◌else◌, ◌==◌, ◌&&◌}
use Rattle.apdu_core.specs.StatusWord.{StatusWord, announces, count}
use Rattle.apdu_core.specs.Shared.{get_response}
use Rattle.exchange_core.specs.declared.attempt.Attempt.{Attempt}
use Rattle.exchange_core.specs.declared.attempt.Next.TheVariants as next
use Rattle.exchange_core.specs.declared.wanted.Wanted.{Wanted}
use Rattle.exchange_core.specs.declared.wanted.Wanted.TheVariants.{Bytes, Everything}
use Rattle.exchange_core.specs.Attempts.{again_with, fetch, following, next_by}
use Rattle.exchange_core.specs.Gathered.{fetched_of, less, wanted_by}
use Rattle.apdu_terminal.specs.Apdus.{Place, Follow, Goes, Ends, asked, asking, command_at, follow, leads}
use Rattle.command_card.specs.AtT1.{may_bring}
use Rattle.command_card.specs.Carrying.{IsOwn}

-- what is wanted, and what a response may bring
pub wanted_cases : (le : Option ℕ)
    → (wanted_by le ≡ Bytes (may_bring le)) ⊎ (wanted_by le ≡ Everything)
wanted_cases None = inl refl
wanted_cases (Some n) = split (n == 256) refl where
  split : (v : Bool) → (n == 256) ≡ v
      → (wanted_by (Some n) ≡ Bytes n) ⊎ (wanted_by (Some n) ≡ Everything)
  split true e = inr (ap (λ (v : Bool). if v then Everything else Bytes n) e)
  split false e = inl (ap (λ (v : Bool). if v then Everything else Bytes n) e)

pub not_both : {f : Follow} {next : Place} → f ≡ Ends → f ≡ Goes next → ⊥
not_both ends goes = let e = sym ends ∙ goes in absurd (cc)

-- a status of its own ends an exchange
pub ends_own : (at : Place) (came : ℕ) (own : StatusWord) → IsOwn own → follow at came own ≡ Ends
ends_own at came own is =
    let a : Attempt = at.attempt in
    let g : ℕ = at.gathered + came in
    let left : Wanted = less at.left came in
    ap (λ (o : Option ℕ).
    leads at came (next_by a g (again_with a left o) (fetched_of left (announces own)))) is.1
    ∙ ap (λ (o : Option ℕ). leads at came (next_by a g None (fetched_of left o))) is.0

-- 61XX ends an exchange that wants no more
pub ends_full : (at : Place) (came k : ℕ) → less at.left came ≡ Bytes 0
    → follow at came (0x61, k) ≡ Ends
ends_full at came k none =
    ap (λ (w : Wanted). leads at came (following at.attempt (at.gathered + came) w (0x61, k))) none

abbrev Fetches_next : Place → ℕ → ℕ → Bool → Follow
Fetches_next at came n v = leads at came
    (if v then next.Stalls else next.Asks (fetch at.attempt (at.gathered + came)) n)

goes_is : (at to : Place) (came n : ℕ) (v : Bool) → Fetches_next at came n v ≡ Goes to
    → to ≡ asked at came (fetch at.attempt (at.gathered + came)) n
goes_is at to came n true e = absurd (cc)
goes_is at to came n false e = cc

never : (at : Place) (came n : ℕ) (v : Bool) → Fetches_next at came n v ≡ Ends → ⊥
never at came n true e = absurd (cc)
never at came n false e = absurd (cc)

-- what an exchange that wants everything does after 61XX
more_is : (at : Place) (came k : ℕ) → at.left ≡ Everything
    → follow at came (0x61, k) ≡ Fetches_next at came (count k)
    (at.attempt.fetches && (at.gathered + came == at.attempt.before))
more_is at came k wants =
    ap (λ (w : Wanted).
    leads at came (following at.attempt (at.gathered + came) (less w came) (0x61, k))) wants

-- so it does not end, and a GET RESPONSE is next
pub never_ends : (at : Place) (came k : ℕ) → at.left ≡ Everything
    → follow at came (0x61, k) ≡ Ends → ⊥
never_ends at came k wants e = never at came (count k) _ (sym (more_is at came k wants) ∙ e)

pub fetch_next : (at to : Place) (came k : ℕ) → at.left ≡ Everything
    → follow at came (0x61, k) ≡ Goes to
    → (command_at to ≡ asking get_response (count k)) × (to.left ≡ Everything)
fetch_next at to came k wants e =
    let is = goes_is at to came (count k) _ (sym (more_is at came k wants) ∙ e) in (
      ap command_at is,
      ap (λ (x : Place). x.left) is ∙ ap (λ (w : Wanted). less w came) wants,
    )
