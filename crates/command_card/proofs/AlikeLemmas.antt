-- The same answers at T=0 and by whole commands.
use Rattle.std.proofs.Common.{◌≡◌, ◌∙◌, ◌⊎◌, ℕ, zero, suc, ◌%◌, ◌≤◌, min, List, [], ◌∷◌, ◌++◌, length, take, drop, Option, Some, None, Bool, true, false, refl, sym, ap, subst, arith, inl, inr, length-drop}
use Rattle.std.specs.Prelude.{if◌then◌else◌, ◌==◌}
use Rattle.std.specs.List.{flat_map}
use Rattle.std.proofs.lemmas.Bool.{eqb-true}
use Rattle.std.proofs.lemmas.List.{take-append-drop}
use Rattle.apdu_core.specs.declared.header.Header.{Header}
use Rattle.apdu_core.specs.CommandBytes.{Command}
use Rattle.apdu_core.specs.StatusWord.{StatusWord, IsStatusWord, count}
use Rattle.t0_core.specs.Meaning.{Runs}
use Rattle.t0_core.specs.Plan.{Course, IsCut}
use Rattle.apdu_core.specs.Shared.{get_response}
use Rattle.exchange_core.specs.declared.wanted.Wanted.{Wanted}
use Rattle.exchange_core.specs.declared.wanted.Wanted.TheVariants.{Bytes, Everything}
use Rattle.exchange_core.specs.Gathered.{Gathers, UnitOf, dialogues_of, wanted_by}
use Rattle.card_terminal.specs.Talk.{HaveCuts}
use Rattle.command_card.specs.Carrying.{Did, IsOwn, Makes}
use Rattle.command_card.specs.State.{CardState, Nothing_left, announcing, fetch_left}
use Rattle.command_card.specs.Meaning.{Does}
use Rattle.command_card.specs.AtT1.{Responds, may_bring, status_bytes}
use Rattle.command_card.specs.Told.{AreAgreed, GathersPart, GathersRest, IsCutOf, told, unwanted_part, wanted_part}
use Rattle.command_card.specs.Alike.{FollowsUp, GathersAtT0, GathersWhole, cut_to}
use Rattle.command_card.proofs.WholeLemmas.{count_told, gathers_a_part, own_status}
use Rattle.command_card.proofs.LineLemmas.{hands_so, one_step}
use Rattle.command_card.proofs.GatherLemmas.{tail_same, whole_gathers}
use Rattle.command_card.proofs.BuildLemmas.{exchange_under}

cut_in_range : (plans : List Course) (cut : ℕ) → HaveCuts plans → IsCutOf plans cut → IsCut cut
cut_in_range [] cut have is = (omega (arith, is), omega (arith, is))
cut_in_range (p ∷ plans) cut have (inl is) = subst IsCut (sym is) have.0
cut_in_range (p ∷ plans) cut have (inr is) = cut_in_range plans cut have.1 is

-- the two statuses
recounted : (rest : List ℕ) (own : StatusWord) (cut : ℕ) → IsOwn own → IsCut cut
    → announcing rest own cut ≡ cut_to cut (announcing rest own 256)
recounted [] own cut is in_range = split (own.0 == 0x61) refl is.0
  where
    split : (v : Bool) → (own.0 == 0x61) ≡ v
        → (if v then Some (count own.1) else None) ≡ None
        → own ≡ (if own.0 == 0x61 then (0x61, min (count own.1) cut % 256) else own)
    split true e none = absurd (cc)
    split false e none =
        ap (λ (v : Bool). if v then (0x61, min (count own.1) cut % 256) else own) (sym e)
recounted (b ∷ rest) own cut is in_range =
    let n : ℕ = suc (length rest) in
    let counts : count (min (suc (length rest)) 256 % 256) ≡ min (suc (length rest)) 256 =
    count_told (min (suc (length rest)) 256) (omega arith) (omega arith) in
    let same : min (suc (length rest)) cut
    ≡ min (count (min (suc (length rest)) 256 % 256)) cut = omega (arith, counts, in_range.1) in
    ap (λ (k : ℕ). (0x61, k % 256)) same

-- what is wanted, and what a response may bring
wanted_cases : (le : Option ℕ)
    → (wanted_by le ≡ Bytes (may_bring le)) ⊎ ((wanted_by le ≡ Everything) × (le ≡ Some 256))
wanted_cases None = inl refl
wanted_cases (Some n) = split (n == 256) refl
  where
    split : (v : Bool) → (n == 256) ≡ v
        → (wanted_by (Some n) ≡ Bytes n) ⊎ ((wanted_by (Some n) ≡ Everything) × (Some n ≡ Some 256))
    split true e = inr (
      ap (λ (v : Bool). if v then Everything else Bytes n) e,
      ap (λ k. Some k) (eqb-true n 256 e),
    )
    split false e = inl (ap (λ (v : Bool). if v then Everything else Bytes n) e)

module _ {S : Type 0} (takes : S → Header → Bool) (Act : S → Did → S → Type 0) where
  abbrev pending : S → List ℕ → StatusWord → CardState S
  pending app rest own = record { app = app; left = fetch_left rest own }

  -- GET RESPONSE brings what is pending
  rest_goes : (fuel : ℕ) (bytes : List ℕ) (own : StatusWord) (app : S) → length bytes ≤ fuel
      → IsOwn own → (others : List (List ℕ)) × GathersRest takes Act (pending app bytes own)
      (announcing bytes own 256) others bytes own (record { app = app; left = Nothing_left })
  rest_goes fuel [] own app long is = ([], (is.0, refl, refl, refl))
  rest_goes zero (b ∷ bytes) own app long is = absurd (omega (arith, long))
  rest_goes (suc fuel) (b ∷ bytes) own app long is =
      let xs : List ℕ = b ∷ bytes in
      let next : StatusWord = announcing (drop 256 (b ∷ bytes)) own 256 in
      let fetch : Command = record { header = get_response; content = []; le = Some 256 } in
      let (others, goes) = rest_goes fuel (drop 256 (b ∷ bytes)) own app
      (omega (arith, long, length-drop 256 (b ∷ bytes))) is in (
        (take 256 (b ∷ bytes) ++ status_bytes next) ∷ others,
        (
          λ e. absurd (cc),
          fetch,
          refl,
          256,
          refl,
          omega arith,
          pending app (drop 256 (b ∷ bytes)) own,
          (refl, record { response_is = refl; left_is = refl }),
          take 256 (b ∷ bytes),
          drop 256 (b ∷ bytes),
          next,
          refl,
          sym (take-append-drop 256 (b ∷ bytes)),
          goes,
        ),
      )

  -- one step of the application is what whole commands gather
  whole_of : (first last : CardState S) (c : Command) (bytes : List ℕ) (own : StatusWord)
      → AreAgreed takes first c
      → Makes Act first.app (told (takes first.app c.header) c) bytes own last.app
      → last.left ≡ fetch_left (unwanted_part (wanted_by c.le) bytes) own
      → GathersWhole takes Act first c (wanted_part (wanted_by c.le) bytes)
      (announcing (unwanted_part (wanted_by c.le) bytes) own 256) last
  whole_of first last c bytes own agreed makes left_is = by_wanted (wanted_cases c.le)
    where
      n : ℕ
      n = may_bring c.le

      front_of : (mid : CardState S) → mid.app ≡ last.app
          → mid.left ≡ fetch_left (drop (may_bring c.le) bytes) own
          → Responds takes Act first c (take (may_bring c.le) bytes
          ++ status_bytes (announcing (drop (may_bring c.le) bytes) own 256)) mid
      front_of mid same left_is = hands_so takes Act first mid c bytes own _ agreed
          (subst (λ a. Makes Act first.app (told (takes first.app c.header) c) bytes own a)
          (sym same) makes)
          (record { response_is = refl; left_is = left_is })

      by_wanted : (wanted_by c.le ≡ Bytes (may_bring c.le))
          ⊎ ((wanted_by c.le ≡ Everything) × (c.le ≡ Some 256))
          → GathersWhole takes Act first c (wanted_part (wanted_by c.le) bytes)
          (announcing (unwanted_part (wanted_by c.le) bytes) own 256) last
      by_wanted (inl is) = record {
        front = take (may_bring c.le) bytes;
        sw = announcing (drop (may_bring c.le) bytes) own 256;
        mid = last;
        responds = front_of last refl
            (subst (λ w. last.left ≡ fetch_left (unwanted_part w bytes) own) is left_is);
        follows = subst (λ w. FollowsUp takes Act last (take (may_bring c.le) bytes)
            (announcing (drop (may_bring c.le) bytes) own 256) (wanted_part w bytes)
            (announcing (unwanted_part w bytes) own 256) last w) (sym is) (refl, refl, refl);
      }
      by_wanted (inr (is, asks)) =
          let none : last.left ≡ Nothing_left =
          subst (λ w. last.left ≡ fetch_left (unwanted_part w bytes) own) is left_is in
          let rest : List ℕ = drop 256 bytes in
          let own_is = own_status Act first.app _ bytes own last.app makes in
          let (others, goes) = rest_goes (length (drop 256 bytes)) (drop 256 bytes) own last.app
          (omega arith) own_is in
          let mid : CardState S = pending last.app (drop 256 bytes) own in
          let goes_so : GathersRest takes Act mid (announcing (drop 256 bytes) own 256) others
          (drop 256 bytes) own last =
          subst (λ l. GathersRest takes Act mid (announcing (drop 256 bytes) own 256) others
          (drop 256 bytes) own (record { app = last.app; left = l })) (sym none) goes in
          record {
            front = take 256 bytes;
            sw = announcing (drop 256 bytes) own 256;
            mid = mid;
            responds = subst (λ (m : Option ℕ). Responds takes Act first c
                (take (may_bring m) bytes
                ++ status_bytes (announcing (drop (may_bring m) bytes) own 256)) mid) asks
                (front_of mid refl (subst (λ (m : Option ℕ). fetch_left (drop 256 bytes) own
                ≡ fetch_left (drop (may_bring m) bytes) own) (sym asks) refl));
            follows = subst (λ w. FollowsUp takes Act mid (take 256 bytes)
                (announcing (drop 256 bytes) own 256) (wanted_part w bytes)
                (announcing (unwanted_part w bytes) own 256) last w) (sym is)
                (others, drop 256 bytes, sym (take-append-drop 256 bytes), goes_so);
          }

  -- and the other way round
  part_of : (first last : CardState S) (c : Command) (gathered : List ℕ) (status : StatusWord)
      → AreAgreed takes first c → GathersWhole takes Act first c gathered status last
      → GathersPart takes Act [] first c gathered status last
  part_of first last c gathered status agreed g = by_wanted (wanted_cases c.le)
    where
      by_wanted : (wanted_by c.le ≡ Bytes (may_bring c.le))
          ⊎ ((wanted_by c.le ≡ Everything) × (c.le ≡ Some 256))
          → GathersPart takes Act [] first c gathered status last
      by_wanted (inl is) =
          let (gathered_is, status_is, same) =
          subst (λ w. FollowsUp takes Act g.mid g.front g.sw gathered status last w) is g.follows in
          let one = one_step takes Act first g.mid c (g.front ++ status_bytes g.sw) agreed
          g.responds in
          let (front_is, sw_is) = tail_same g.front (take (may_bring c.le) one.bytes) g.sw
          (announcing (drop (may_bring c.le) one.bytes) one.status 256) one.hands.response_is in
          record {
            bytes = one.bytes;
            own = one.status;
            cut = 256;
            is_cut = refl;
            makes = subst (λ (s : CardState S). Makes Act first.app
                (told (takes first.app c.header) c) one.bytes one.status s.app) (sym same)
                one.makes;
            gathered_is = gathered_is ∙ front_is ∙ ap (λ w. wanted_part w one.bytes) (sym is);
            status_is = status_is ∙ sw_is
                ∙ ap (λ w. announcing (unwanted_part w one.bytes) one.status 256) (sym is);
            left_is = ap (λ (s : CardState S). s.left) same ∙ one.hands.left_is
                ∙ ap (λ w. fetch_left (unwanted_part w one.bytes) one.status) (sym is);
          }
      by_wanted (inr (is, asks)) =
          let (others, rest, gathered_is, goes) =
          subst (λ w. FollowsUp takes Act g.mid g.front g.sw gathered status last w) is g.follows in
          let (makes, none) = whole_gathers takes Act first g.mid last c g.front rest g.sw status
          others asks agreed g.responds goes in
          record {
            bytes = g.front ++ rest;
            own = status;
            cut = 256;
            is_cut = refl;
            makes = makes;
            gathered_is = gathered_is ∙ ap (λ w. wanted_part w (g.front ++ rest)) (sym is);
            status_is = ap (λ w. announcing (unwanted_part w (g.front ++ rest)) status 256)
                (sym is);
            left_is = none
                ∙ ap (λ w. fetch_left (unwanted_part w (g.front ++ rest)) status) (sym is);
          }

pub from_t0 : {S : Type 0} (takes : S → Header → Bool) (Act : S → Did → S → Type 0)
    (first last : CardState S) (c : Command) (units : List UnitOf) (plans : List Course)
    (gathered : List ℕ) (status : StatusWord) → AreAgreed takes first c → HaveCuts plans
    → Runs (Does takes Act) first (flat_map dialogues_of units) plans last
    → Gathers c units gathered status
    → (cut : ℕ) × (whole : StatusWord) × IsCutOf plans cut × (status ≡ cut_to cut whole)
    × GathersWhole takes Act first c gathered whole last
from_t0 takes Act first last c units plans gathered status agreed have runs gathers =
    let p = gathers_a_part takes Act first last c units plans gathered status agreed have runs
    gathers in
    let rest : List ℕ = unwanted_part (wanted_by c.le) p.bytes in
    let is = own_status Act first.app _ p.bytes p.own last.app p.makes in (
      p.cut,
      announcing (unwanted_part (wanted_by c.le) p.bytes) p.own 256,
      p.is_cut,
      p.status_is ∙ recounted (unwanted_part (wanted_by c.le) p.bytes) p.own p.cut is
          (cut_in_range plans p.cut have p.is_cut),
      subst (λ xs. GathersWhole takes Act first c xs
          (announcing (unwanted_part (wanted_by c.le) p.bytes) p.own 256) last)
          (sym p.gathered_is) (whole_of takes Act first last c p.bytes p.own agreed p.makes
          p.left_is),
    )

pub to_t0 : {S : Type 0} (takes : S → Header → Bool) (Act : S → Did → S → Type 0)
    (first last : CardState S) (c : Command) (plans : List Course) (gathered : List ℕ)
    (status : StatusWord) → AreAgreed takes first c → HaveCuts plans → IsStatusWord status
    → GathersWhole takes Act first c gathered status last
    → (cut : ℕ) × IsCutOf plans cut
    × GathersAtT0 takes Act plans first c gathered (cut_to cut status) last
to_t0 takes Act first last c plans gathered status agreed have word whole =
    let p = part_of takes Act first last c gathered status agreed whole in
    let w : Wanted = wanted_by c.le in
    let is = own_status Act first.app _ p.bytes p.own last.app p.makes in
    let status_is : status ≡ announcing (unwanted_part (wanted_by c.le) p.bytes) p.own 256 =
    p.status_is ∙ ap (λ k. announcing (unwanted_part (wanted_by c.le) p.bytes) p.own k) p.is_cut in
    let (cut, among, exchange) = exchange_under takes Act c first p.bytes p.own last.app plans
    agreed have (subst IsStatusWord status_is word) p.makes in
    let said : announcing (unwanted_part (wanted_by c.le) p.bytes) p.own cut ≡ cut_to cut status =
    recounted (unwanted_part (wanted_by c.le) p.bytes) p.own cut is among.0
    ∙ ap (λ s. cut_to cut s) (sym status_is) in (
      cut,
      among.1,
      subst (λ xs. GathersAtT0 takes Act plans first c xs (cut_to cut status) last)
          (sym p.gathered_is)
          (subst (λ s. GathersAtT0 takes Act plans first c
          (wanted_part (wanted_by c.le) p.bytes) s last) said
          (subst (λ l. GathersAtT0 takes Act plans first c (wanted_part (wanted_by c.le) p.bytes)
          (announcing (unwanted_part (wanted_by c.le) p.bytes) p.own cut)
          (record { app = last.app; left = l })) (sym p.left_is) exchange)),
    )
