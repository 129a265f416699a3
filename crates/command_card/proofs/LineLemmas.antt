-- The same application over T=0 and T=1.
use Rattle.std.proofs.Common.{◌≡◌, ◌∙◌, ℕ, ◌≤◌, List, [], ◌∷◌, ◌++◌, length, take, Option, Some, None, Bool, true, false, refl, sym, ap, subst}
use Rattle.std.proofs.lemmas.List.{take_all, drop_all}
use Rattle.apdu_core.specs.declared.header.Header.{Header}
use Rattle.apdu_core.specs.CommandBytes.{Command}
use Rattle.apdu_core.specs.StatusWord.{StatusWord}
use Rattle.std.specs.List.{flat_map}
use Rattle.t0_core.specs.Meaning.{Runs}
use Rattle.t0_core.specs.Plan.{Course}
use Rattle.exchange_core.specs.Gathered.{UnitOf, Gathers, dialogues_of}
use Rattle.card_terminal.specs.Talk.{HaveCuts}
use Rattle.command_card.specs.Meaning.{Does}
use Rattle.command_card.proofs.WholeLemmas.{gathers_the_response}
use Rattle.command_card.specs.Carrying.{Did, Makes}
use Rattle.command_card.specs.State.{CardState, Nothing_left, announcing, fetch_left}
use Rattle.command_card.specs.AtT1.{Carries, CarriesTold, HandsOut, Responds, RespondsBy, may_bring, shown, status_bytes}
use Rattle.command_card.specs.Told.{AreAgreed, IsOneStep, told}

module _ {S : Type 0} (takes : S → Header → Bool) (Act : S → Did → S → Type 0) where
  hands_all : (bytes : List ℕ) (status : StatusWord) → length bytes ≤ 256
      → HandsOut bytes status 256 (bytes ++ status_bytes status) Nothing_left
  hands_all bytes status few =
      let none = drop_all 256 bytes few in
      record {
        response_is = ap (λ xs. xs ++ status_bytes status) (sym (take_all 256 bytes few))
            ∙ ap (λ xs. take 256 bytes ++ status_bytes (announcing xs status 256)) (sym none);
        left_is = ap (λ xs. fetch_left xs status) (sym none);
      }

  -- a command of the application's own is shown to it
  is_shown : (v : Bool) (h : Header) (content : List ℕ) (le : Option ℕ)
      → (v ≡ false → content ≡ []) → (v ≡ true → content ≡ [] → le ≡ None)
      → shown v h content le ≡ Some (told v (record { header = h; content = content; le = le }))
  is_shown true h [] (Some n) none no_le =
      let no : Some n ≡ None = no_le refl refl in absurd (cc)
  is_shown false h (b ∷ content) le none no_le =
      let no : b ∷ content ≡ [] = none refl in absurd (cc)
  is_shown true h [] None none no_le = refl
  is_shown true h (b ∷ content) le none no_le = refl
  is_shown false h [] le none no_le = refl

  -- one step is a response, for any Le
  pub hands_so : (first new : CardState S) (c : Command) (bytes : List ℕ) (status : StatusWord)
      (response : List ℕ) → AreAgreed takes first c
      → Makes Act first.app (told (takes first.app c.header) c) bytes status new.app
      → HandsOut bytes status (may_bring c.le) response new.left
      → Responds takes Act first c response new
  hands_so first new c bytes status response agreed makes hands =
      let carries : Carries Act first (told (takes first.app c.header) c) (may_bring c.le)
      response new = record { bytes = bytes; status = status; makes = makes; hands = hands } in
      subst (λ v. RespondsBy takes Act first c response new v) (sym agreed.no_fetch)
      (subst (λ o. CarriesTold Act first c response new o) (sym (is_shown (takes first.app c.header)
      c.header c.content c.le agreed.no_data agreed.no_le)) carries)

  pub responds_so : (first : CardState S) (app : S) (c : Command) (bytes : List ℕ)
      (status : StatusWord) → c.le ≡ Some 256 → AreAgreed takes first c → length bytes ≤ 256
      → Makes Act first.app (told (takes first.app c.header) c) bytes status app
      → Responds takes Act first c (bytes ++ status_bytes status)
      (record { app = app; left = Nothing_left })
  responds_so first app c bytes status asks agreed few makes =
      let new : CardState S = record { app = app; left = Nothing_left } in
      let response : List ℕ = bytes ++ status_bytes status in
      hands_so first new c bytes status response agreed makes
      (subst (λ (m : Option ℕ). HandsOut bytes status (may_bring m) response Nothing_left)
      (sym asks) (hands_all bytes status few))

  pub one_step : (old new : CardState S) (c : Command) (response : List ℕ)
      → AreAgreed takes old c → Responds takes Act old c response new
      → IsOneStep takes Act old c response new
  one_step old new c response agreed responds =
      let it : Carries Act old (told (takes old.app c.header) c) (may_bring c.le) response new =
      subst (λ o. CarriesTold Act old c response new o)
      (is_shown (takes old.app c.header) c.header c.content c.le agreed.no_data agreed.no_le)
      (subst (λ v. RespondsBy takes Act old c response new v) agreed.no_fetch responds) in
      record {
        bytes = it.bytes;
        status = it.status;
        makes = it.makes;
        hands = it.hands;
      }

pub from_exchange : {S : Type 0} (takes : S → Header → Bool) (Act : S → Did → S → Type 0)
    (first last : CardState S) (c : Command) (units : List UnitOf) (plans : List Course)
    (gathered : List ℕ) (status : StatusWord) → c.le ≡ Some 256 → AreAgreed takes first c
    → HaveCuts plans → Runs (Does takes Act) first (flat_map dialogues_of units) plans last
    → Gathers c units gathered status → length gathered ≤ 256
    → Responds takes Act first c (gathered ++ status_bytes status) last
from_exchange takes Act first last c units plans gathered status asks agreed have runs gathers few =
    let (makes, none) =
    gathers_the_response takes Act first last c units plans gathered status asks agreed have runs
    gathers in
    subst (λ l. Responds takes Act first c (gathered ++ status_bytes status)
    (record { app = last.app; left = l })) (sym none)
    (responds_so takes Act first last.app c gathered status asks agreed few makes)
