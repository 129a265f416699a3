-- What whole commands gather of a response.
use Rattle.std.proofs.Common.{◌≡◌, ◌∙◌, ℕ, List, [], ◌∷◌, ◌++◌, length, take, drop, Option, Some, None, Bool, refl, sym, ap, subst, arith, length-append}
use Rattle.std.proofs.lemmas.List.{take-append-drop}
use Rattle.apdu_core.specs.declared.header.Header.{Header}
use Rattle.apdu_core.specs.CommandBytes.{Command}
use Rattle.apdu_core.specs.StatusWord.{StatusWord, announces}
use Rattle.command_card.specs.Carrying.{Did, IsOwn, Makes}
use Rattle.command_card.specs.State.{CardState, Nothing_left, announcing, fetch_left}
use Rattle.command_card.specs.AtT1.{Fetches, HandsOut, Responds, RespondsBy, may_bring, status_bytes}
use Rattle.command_card.specs.Told.{AreAgreed, GathersRest, told}
use Rattle.command_card.proofs.LineLemmas.{one_step}
use Rattle.command_card.proofs.WholeLemmas.{own_status}

-- two responses are the same only if their data and statuses are
pub tail_same : (xs ys : List ℕ) (v w : StatusWord) → xs ++ status_bytes v ≡ ys ++ status_bytes w
    → (xs ≡ ys) × (v ≡ w)
tail_same [] [] v w e =
    let first : v.0 ≡ w.0 = cc in
    let second : v.1 ≡ w.1 = cc in
    (refl, ap (λ (n : ℕ). (n, v.1)) first ∙ ap (λ (n : ℕ). (w.0, n)) second)
tail_same [] (y ∷ ys) v w e =
    absurd (omega (arith, ap length e, length-append ys (status_bytes w)))
tail_same (x ∷ xs) [] v w e =
    absurd (omega (arith, ap length e, length-append xs (status_bytes v)))
tail_same (x ∷ xs) (y ∷ ys) v w e =
    let head : x ≡ y = cc in
    let others : xs ++ status_bytes v ≡ ys ++ status_bytes w = cc in
    let (same, words) = tail_same xs ys v w others in
    (ap (λ (n : ℕ). n ∷ xs) head ∙ ap (λ zs. y ∷ zs) same, words)

module _ {S : Type 0} (takes : S → Header → Bool) (Act : S → Did → S → Type 0) where
  rest_comes : (others : List (List ℕ)) (bytes : List ℕ) (own sw : StatusWord)
      (old new : CardState S) (gathered : List ℕ) (status : StatusWord) → IsOwn own
      → old.left ≡ fetch_left bytes own → sw ≡ announcing bytes own 256
      → GathersRest takes Act old sw others gathered status new
      → (gathered ≡ bytes) × (status ≡ own) × (new.app ≡ old.app) × (new.left ≡ Nothing_left)
  rest_comes [] [] own sw old new gathered status is left_is sw_is (no_more, none, status_is, same)
      = (
        none,
        status_is ∙ sw_is,
        ap (λ (s : CardState S). s.app) same,
        ap (λ (s : CardState S). s.left) same ∙ left_is,
      )
  rest_comes [] (b ∷ bytes) own sw old new gathered status is left_is sw_is
      (no_more, none, status_is, same) =
      let more : None ≡ announces (announcing (b ∷ bytes) own 256) =
      sym no_more ∙ ap announces sw_is in absurd (cc)
  rest_comes (r ∷ others) [] own sw old new gathered status is left_is sw_is go =
      absurd (go.0 (ap announces sw_is ∙ is.0))
  rest_comes (r ∷ others) (b ∷ bytes) own sw old new gathered status is left_is sw_is
      (more, fetch, fetches, n, le_is, some, mid, responds, front, rest, next, r_is, all_is, go) =
      let all : List ℕ = b ∷ bytes in
      let fetched : Fetches old (may_bring fetch.le) r mid old.left =
      subst (λ v. RespondsBy takes Act old fetch r mid v) fetches responds in
      let (same, hands) : (mid.app ≡ old.app) × HandsOut all own n r mid.left =
      subst (λ (m : Option ℕ). (mid.app ≡ old.app) × HandsOut all own (may_bring m) r mid.left)
      le_is (subst (λ l. Fetches old (may_bring fetch.le) r mid l) left_is fetched) in
      let (front_is, next_is) = tail_same front (take n all) next
      (announcing (drop n all) own 256) (sym r_is ∙ hands.response_is) in
      let (rest_is, status_is, app_is, none) =
      rest_comes others (drop n all) own next mid new rest status is hands.left_is next_is go in (
        all_is ∙ ap (λ xs. xs ++ rest) front_is ∙ ap (λ xs. take n all ++ xs) rest_is
            ∙ take-append-drop n all,
        status_is,
        app_is ∙ same,
        none,
      )

  pub whole_gathers : (first mid last : CardState S) (c : Command) (front rest : List ℕ)
      (sw status : StatusWord) (others : List (List ℕ)) → c.le ≡ Some 256
      → AreAgreed takes first c → Responds takes Act first c (front ++ status_bytes sw) mid
      → GathersRest takes Act mid sw others rest status last
      → Makes Act first.app (told (takes first.app c.header) c) (front ++ rest) status last.app
      × (last.left ≡ Nothing_left)
  whole_gathers first mid last c front rest sw status others asks agreed responds go =
      let one = one_step takes Act first mid c (front ++ status_bytes sw) agreed responds in
      let hands : HandsOut one.bytes one.status 256 (front ++ status_bytes sw) mid.left =
      subst (λ (m : Option ℕ). HandsOut one.bytes one.status (may_bring m)
      (front ++ status_bytes sw) mid.left) asks one.hands in
      let (front_is, sw_is) = tail_same front (take 256 one.bytes) sw
      (announcing (drop 256 one.bytes) one.status 256) hands.response_is in
      let own = own_status Act first.app _ one.bytes one.status mid.app one.makes in
      let (rest_is, status_is, app_is, none) =
      rest_comes others (drop 256 one.bytes) one.status sw mid last rest status own
      hands.left_is sw_is go in
      let all : front ++ rest ≡ one.bytes =
      ap (λ xs. xs ++ rest) front_is ∙ ap (λ xs. take 256 one.bytes ++ xs) rest_is
      ∙ take-append-drop 256 one.bytes in
      let M : List ℕ → StatusWord → S → Type 0 =
      λ r w a. Makes Act first.app (told (takes first.app c.header) c) r w a in (
        subst (λ a. M (front ++ rest) status a) (sym app_is)
            (subst (λ w. M (front ++ rest) w mid.app) (sym status_is)
            (subst (λ r. M r one.status mid.app) (sym all) one.makes)),
        none,
      )
