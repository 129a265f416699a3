-- Case 1 of an application that takes no data, at T=0 and by whole commands.
use Rattle.std.proofs.Common.{◌≡◌, ◌∙◌, ℕ, ◌-◌, List, [], ◌∷◌, ◌++◌, length, take, drop, Option, Some, None, Bool, true, false, refl, sym, ap, subst, arith, inl, length-take}
use Rattle.std.specs.Prelude.{nat_lt}
use Rattle.std.specs.List.{flat_map}
use Rattle.std.proofs.lemmas.Bool.{ltb-true, ltb-false}
use Rattle.apdu_core.specs.declared.header.Header.{Header}
use Rattle.apdu_core.specs.HeaderBytes.{ins_is_valid}
use Rattle.apdu_core.specs.CommandBytes.{Command}
use Rattle.apdu_core.specs.StatusWord.{StatusWord, IsStatusWord, announces, corrects, count}
use Rattle.t0_core.specs.declared.direction.Direction.{Direction}
use Rattle.t0_core.specs.declared.direction.Direction.TheVariants.{ToCard}
use Rattle.t0_core.specs.Dialogue.{Dialogue}
use Rattle.t0_core.specs.Meaning.{Runs, received, tpdu_of}
use Rattle.t0_core.specs.Plan.{Course}
use Rattle.exchange_core.specs.declared.wanted.Wanted.{Wanted}
use Rattle.exchange_core.specs.declared.wanted.Wanted.TheVariants.{Bytes}
use Rattle.exchange_core.specs.Gathered.{AreFollowed, By_command, Gathers, IsUnit, Opening, OpensWith, Repeated, SendsFrom, Single, UnitOf, after_dialogue, correction_of, dialogues_of, fetched_after, fetched_of, first_of, last_of, less, unit_data}
use Rattle.command_card.specs.Carrying.{Did, Makes, asking}
use Rattle.command_card.specs.State.{CardState, For_repeat, Nothing_left, Outcome, announcing, handed, is_fetch, pending_for}
use Rattle.command_card.specs.Meaning.{Asks, Brings, CarriesAsked, Does, DoesBy, kind_in}
use Rattle.command_card.specs.AtT1.{Carries, CarriesTold, HandsOut, Responds, RespondsBy, shown, status_bytes}
use Rattle.command_card.specs.Alike.{GathersAtT0, IsCase1}
use Rattle.command_card.proofs.HandLemmas.{handed_enough, handed_fewer}
use Rattle.command_card.proofs.AnswerLemmas.{kind_by}
use Rattle.command_card.proofs.WholeLemmas.{own_status}
use Rattle.command_card.proofs.GatherLemmas.{tail_same}
use Rattle.command_card.proofs.BuildLemmas.{dialogue_so, follow_more, follows_so, head_of, made, runs_more}

abbrev bare : Header → Command
bare h = record { header = h; content = []; le = None }

bare_is : (c : Command) → c.content ≡ [] → c.le ≡ None → c ≡ bare c.header
bare_is c none no_le =
    ap (λ (k : List ℕ). record { header = c.header; content = k; le = c.le }) none
    ∙ ap (λ (m : Option ℕ). record { header = c.header; content = []; le = m }) no_le

-- nothing is fetched where nothing is wanted
none_fetched : (k : ℕ) (sw : StatusWord) → fetched_after (less (Bytes 0) k) sw ≡ None
none_fetched k sw =
    let zero_is : 0 - k ≡ 0 = omega arith in
    ap (λ n. fetched_of (Bytes n) (announces sw)) zero_is ∙ each (announces sw)
  where
    each : (v : Option ℕ) → fetched_of (Bytes 0) v ≡ None
    each None = refl
    each (Some n) = refl

-- the data from the card, if it had this direction
abbrev received_if : Dialogue → Direction → List ℕ
received_if d x = received (record d { body = record d.body { direction = x } })

none_received : (d : Dialogue) → d.body.direction ≡ ToCard → received d ≡ []
none_received d to_card = ap (λ x. received_if d x) to_card

module _ {S : Type 0} (takes : S → Header → Bool) (Act : S → Did → S → Type 0) where
  begins : (old new : CardState S) (d : Dialogue) (ds : List Dialogue) (plans : List Course)
      → Runs (Does takes Act) old (d ∷ ds) plans new
      → (cut : ℕ) × (mid : CardState S) × (later : List Course)
      × Does takes Act old cut (tpdu_of d) mid × Runs (Does takes Act) mid ds later new
  begins old new d ds [] (mid, does, runs) = (256, mid, [], does, runs)
  begins old new d ds (p ∷ plans) (mid, does, runs) = (p.cut, mid, plans, does, runs)

  asks_kind : (first : CardState S) (h : Header) (p3 : ℕ) → ins_is_valid h.ins ≡ true
      → is_fetch h ≡ false → takes first.app h ≡ false
      → ((n : ℕ) → pending_for first.left h n ≡ None) → kind_in takes first h p3 ≡ Asks
  asks_kind first h p3 valid no_fetch takes_none none =
      kind_by _ true _ None _ false _ false valid (none p3) no_fetch takes_none

  -- without 6CXX there is no response
  no_response : (h : Header) (d : Dialogue) (bytes : List ℕ) (own : StatusWord) (cut : ℕ)
      (left : _) → received d ≡ [] → corrects d.status ≡ None
      → Brings (tpdu_of d) left (handed (For_repeat h bytes own) bytes own 256 cut)
      → (bytes ≡ []) × (d.status ≡ own) × (left ≡ Nothing_left)
  no_response h d [] own cut left none no_more brings = (refl, brings.status_is, brings.left_is)
  no_response h d (b ∷ bytes) own cut left none no_more brings =
      split (nat_lt (length (b ∷ bytes)) 256) refl
    where
      split : (v : Bool) → nat_lt (length (b ∷ bytes)) 256 ≡ v
          → (b ∷ bytes ≡ []) × (d.status ≡ own) × (left ≡ Nothing_left)
      split true e =
          let is = handed_fewer (For_repeat h (b ∷ bytes) own) (b ∷ bytes) own 256 cut
          (omega arith) (ltb-true (length (b ∷ bytes)) 256 e) in
          let said : d.status ≡ (0x6C, length (b ∷ bytes)) =
          brings.status_is ∙ ap (λ (o : Outcome). o.status) is in
          let no : None ≡ Some (count (length (b ∷ bytes))) =
          sym no_more ∙ ap (λ s. corrects s) said in absurd (cc)
      split false e =
          let many = ltb-false (length (b ∷ bytes)) 256 e in
          let is = handed_enough (For_repeat h (b ∷ bytes) own) (b ∷ bytes) own 256 cut
          (omega arith) many in
          let brought : [] ≡ take 256 (b ∷ bytes) =
          sym none ∙ brings.received_is ∙ ap (λ (o : Outcome). o.received) is in
          absurd (omega (arith, ap length brought, length-take 256 (b ∷ bytes), many))

  by_dialogue : (h : Header) (first last : CardState S) (d : Dialogue) (plans : List Course)
      → ins_is_valid h.ins ≡ true → is_fetch h ≡ false → takes first.app h ≡ false
      → ((n : ℕ) → pending_for first.left h n ≡ None) → SendsFrom h [] d
      → corrects d.status ≡ None → Runs (Does takes Act) first (d ∷ []) plans last
      → Responds takes Act first (bare h) (status_bytes d.status) last
  by_dialogue h first last d plans valid no_fetch takes_none none opens no_more runs =
      let (cut, mid, later, does, ended) = begins first last d [] plans runs in
      let kind : kind_in takes first d.body.header d.body.p3 ≡ Asks =
      ap (λ x. kind_in takes first x d.body.p3) opens.header_is
      ∙ asks_kind first h d.body.p3 valid no_fetch takes_none none in
      let t : CarriesAsked Act first cut (tpdu_of d) mid =
      subst (λ k. DoesBy Act first cut (tpdu_of d) mid k) kind does in
      let counts : count d.body.p3 ≡ 256 = ap (λ n. count n) opens.counts in
      let B : ℕ → Header → Type 0 = λ k x. Brings (tpdu_of d) mid.left
      (handed (For_repeat x t.response t.status) t.response t.status k cut) in
      let (none_is, status_is, left_is) = no_response h d t.response t.status cut mid.left
      (none_received d opens.to_card) no_more (subst (λ x. B 256 x) opens.header_is
      (subst (λ k. B k d.body.header) counts t.brings)) in
      let M : Header → ℕ → List ℕ → StatusWord → S → Type 0 =
      λ x k r s a. Makes Act first.app (asking x k) r s a in
      let makes : Makes Act first.app (asking h 256) [] d.status mid.app =
      subst (λ s. M h 256 [] s mid.app) (sym status_is)
      (subst (λ r. M h 256 r t.status mid.app) none_is
      (subst (λ k. M h k t.response t.status mid.app) counts
      (subst (λ x. M x (count d.body.p3) t.response t.status mid.app) opens.header_is
      t.makes))) in
      let carries : Carries Act first (asking h 256) 0 (status_bytes d.status) mid = record {
        bytes = [];
        status = d.status;
        makes = makes;
        hands = record { response_is = refl; left_is = left_is };
      } in
      subst (λ (s : CardState S). Responds takes Act first (bare h) (status_bytes d.status) s)
      (sym ended)
      (subst (λ v. RespondsBy takes Act first (bare h) (status_bytes d.status) mid v)
      (sym no_fetch)
      (subst (λ v. CarriesTold Act first (bare h) (status_bytes d.status) mid (shown v h [] None))
      (sym takes_none) carries))

  abbrev Alone : Header → CardState S → CardState S → List ℕ → StatusWord → Type 0
  Alone h first last gathered status =
      (gathered ≡ []) × Responds takes Act first (bare h) (status_bytes status) last

  by_units : (h : Header) (first last : CardState S) (before : List UnitOf) (final : UnitOf)
      (opening : Opening) (left : Wanted) (plans : List Course) (gathered : List ℕ)
      (status : StatusWord) → ins_is_valid h.ins ≡ true → is_fetch h ≡ false
      → takes first.app h ≡ false → ((n : ℕ) → pending_for first.left h n ≡ None)
      → AreFollowed (By_command (bare h)) (Bytes 0) before opening left
      → OpensWith opening (first_of final) → IsUnit left final
      → status ≡ (last_of final).status → gathered ≡ flat_map unit_data (before ++ final ∷ [])
      → corrects status ≡ None
      → Runs (Does takes Act) first (flat_map dialogues_of (before ++ final ∷ [])) plans last
      → Alone h first last gathered status
  by_units h first last [] (Single d) opening left plans gathered status valid no_fetch takes_none
      none followed opens unit status_is gathered_is no_more runs =
      let opens_so : SendsFrom h [] d = subst (λ o. OpensWith o d) followed.0 opens in (
        gathered_is ∙ ap (λ xs. (xs ++ []) ++ []) (none_received d opens_so.to_card),
        subst (λ s. Responds takes Act first (bare h) (status_bytes s) last) (sym status_is)
            (by_dialogue h first last d plans valid no_fetch takes_none none opens_so
            (ap (λ s. corrects s) (sym status_is) ∙ no_more) runs),
      )
  by_units h first last [] (Repeated d e) opening left plans gathered status valid no_fetch
      takes_none none followed opens unit status_is gathered_is no_more runs =
      let opens_so : SendsFrom h [] d = subst (λ o. OpensWith o d) followed.0 opens in
      let never : None ≡ Some unit.0 =
      ap (λ x. correction_of x (after_dialogue left d) (corrects d.status)) (sym opens_so.to_card)
      ∙ unit.1 in absurd (cc)
  by_units h first last (u ∷ before) final opening left plans gathered status valid no_fetch
      takes_none none (n, follows, others) opens unit status_is gathered_is no_more runs =
      let never : None ≡ Some n =
      sym (none_fetched (length (unit_data u)) (last_of u).status) ∙ follows.fetched in absurd (cc)

  -- a response that is its status alone
  alone : (h : Header) (bytes : List ℕ) (own status : StatusWord) (left : _)
      → HandsOut bytes own 0 (status_bytes status) left → announces status ≡ None
      → (bytes ≡ []) × (status ≡ own) × (left ≡ Nothing_left)
  alone h [] own status left hands no_more =
      let (front, is) = tail_same [] (take 0 []) status (announcing (drop 0 []) own 256)
      hands.response_is in (refl, is, hands.left_is)
  alone h (b ∷ bytes) own status left hands no_more =
      let (front, is) = tail_same [] (take 0 (b ∷ bytes)) status
      (announcing (drop 0 (b ∷ bytes)) own 256) hands.response_is in
      let no : None ≡ announces (announcing (b ∷ bytes) own 256) =
      sym no_more ∙ ap (λ s. announces s) is in absurd (cc)

  to_bare : (h : Header) (first last : CardState S) (plans : List Course) (status : StatusWord)
      → ins_is_valid h.ins ≡ true → is_fetch h ≡ false → takes first.app h ≡ false
      → ((n : ℕ) → pending_for first.left h n ≡ None) → IsStatusWord status
      → announces status ≡ None → Responds takes Act first (bare h) (status_bytes status) last
      → GathersAtT0 takes Act plans first (bare h) [] status last
  to_bare h first last plans status valid no_fetch takes_none none word no_more responds =
      let said = status_bytes status in
      let k : Carries Act first (asking h 256) 0 (status_bytes status) last =
      subst (λ v. CarriesTold Act first (bare h) said last (shown v h [] None)) takes_none
      (subst (λ v. RespondsBy takes Act first (bare h) said last v) no_fetch responds) in
      let (none_is, status_is, left_is) = alone h k.bytes k.status status last.left k.hands
      no_more in
      let own = own_status Act first.app _ k.bytes k.status last.app k.makes in
      let corrected : corrects status ≡ None = ap (λ s. corrects s) status_is ∙ own.1 in
      let d : Dialogue = made h 0 ToCard [] status (head_of plans) in
      let carries : CarriesAsked Act first (head_of plans).cut (tpdu_of d) last = record {
        response = [];
        status = status;
        makes = subst (λ s. Makes Act first.app (asking h 256) [] s last.app) (sym status_is)
            (subst (λ r. Makes Act first.app (asking h 256) r k.status last.app) none_is k.makes);
        none_sent = refl;
        brings = record { received_is = refl; status_is = refl; left_is = left_is };
      } in
      let does : Does takes Act first (head_of plans).cut (tpdu_of d) last =
      subst (λ v. DoesBy Act first (head_of plans).cut (tpdu_of d) last v)
      (sym (asks_kind first h 0 valid no_fetch takes_none none)) carries in
      record {
        units = Single d ∷ [];
        are_dialogues = (
          dialogue_so h 0 ToCard [] status (head_of plans) valid (inl refl) word,
          tt,
        );
        follow = follow_more d [] plans
            (follows_so h 0 ToCard [] status (head_of plans) (inl refl)) tt;
        runs = runs_more takes Act [] first last last d [] plans does refl;
        gathers = record {
          is_open = record {
            before = [];
            last = Single d;
            opening = By_command (bare h);
            left = Bytes 0;
            units_are = refl;
            followed = (refl, refl);
            opens = record {
              header_is = refl;
              to_card = refl;
              counts = refl;
              sends = ([], refl);
            };
            is_unit = refl;
          };
          ends = none_fetched 0 status;
          status_is = refl;
          gathered_is = refl;
        };
      }

pub case_from_t0 : {S : Type 0} (takes : S → Header → Bool) (Act : S → Did → S → Type 0)
    (first last : CardState S) (c : Command) (units : List UnitOf) (plans : List Course)
    (gathered : List ℕ) (status : StatusWord) → IsCase1 takes first c
    → Runs (Does takes Act) first (flat_map dialogues_of units) plans last
    → Gathers c units gathered status → corrects status ≡ None
    → (gathered ≡ []) × Responds takes Act first c (status_bytes status) last
case_from_t0 takes Act first last c units plans gathered status case runs gathers no_more =
    let is = bare_is c case.no_data case.no_le in
    let g : Gathers (bare c.header) units gathered status =
    subst (λ x. Gathers x units gathered status) is gathers in
    let o = g.is_open in
    subst (λ x. (gathered ≡ []) × Responds takes Act first x (status_bytes status) last) (sym is)
    (by_units takes Act c.header first last o.before o.last o.opening o.left plans gathered status
    case.valid case.no_fetch case.takes_none case.none_pending o.followed o.opens o.is_unit
    g.status_is (g.gathered_is ∙ ap (λ us. flat_map unit_data us) o.units_are) no_more
    (subst (λ us. Runs (Does takes Act) first (flat_map dialogues_of us) plans last) o.units_are
    runs))

pub case_to_t0 : {S : Type 0} (takes : S → Header → Bool) (Act : S → Did → S → Type 0)
    (first last : CardState S) (c : Command) (plans : List Course) (status : StatusWord)
    → IsCase1 takes first c → IsStatusWord status → announces status ≡ None
    → Responds takes Act first c (status_bytes status) last
    → GathersAtT0 takes Act plans first c [] status last
case_to_t0 takes Act first last c plans status case word no_more responds =
    let is = bare_is c case.no_data case.no_le in
    subst (λ x. GathersAtT0 takes Act plans first x [] status last) (sym is)
    (to_bare takes Act c.header first last plans status case.valid case.no_fetch case.takes_none
    case.none_pending word no_more
    (subst (λ x. Responds takes Act first x (status_bytes status) last) is responds))
