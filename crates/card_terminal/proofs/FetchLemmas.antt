-- What a command that wants everything brings: its first unit, and the fetches of all that is then
-- announced, as TPDUs of the card.
use Rattle.std.proofs.Common.{◌≡◌, ℕ, List, [], ◌∷◌, ◌++◌, Option, Some, None, refl, sym, ap, ◌∙◌, arith, append-nil}
use Rattle.std.specs.List.{flat_map}
use Rattle.apdu_core.specs.declared.header.Header.{Header}
use Rattle.apdu_core.specs.StatusWord.{StatusWord, count, announces, corrects}
use Rattle.apdu_core.specs.CommandBytes.{Command}
use Rattle.t0_core.specs.declared.direction.Direction.{Direction}
use Rattle.t0_core.specs.declared.direction.Direction.TheVariants.{ToCard, FromCard}
use Rattle.t0_core.specs.Dialogue.{Dialogue}
use Rattle.t0_core.specs.Meaning.{Tpdu, tpdu_of, received, sent, Runs}
use Rattle.t0_core.specs.Plan.{Course, IsCut}
use Rattle.object_card.specs.State.{CardState, IsCardState}
use Rattle.object_card.specs.CardMeaning.{Does}
use Rattle.apdu_core.specs.Shared.{get_response}
use Rattle.object_card.specs.CarryingOut.{FetchAll}
use Rattle.object_card.specs.StateLaws.{stays_sound}
use Rattle.object_card.specs.ResponseLaws.{announced_is_brought}
use Rattle.exchange_core.specs.declared.wanted.Wanted.TheVariants.{Everything}
use Rattle.exchange_core.specs.declared.wanted.Wanted.{Wanted}
use Rattle.exchange_core.specs.Gathered.{UnitOf, Opens, By_command, Gathers, after_dialogue, Single, Repeated, By_fetch, first_of, last_of, dialogues_of, unit_data, after_unit, fetched_of, fetched_after, repeated_with, correction_of, Opening, OpensWith, IsUnit, AreFollowed}
use Rattle.card_terminal.specs.Talk.{HaveCuts}

-- the card goes from state to state by these dialogues, each under some cut
abbrev pub Goes : CardState → List Dialogue → CardState → Type 0
Goes old [] new = new ≡ old
Goes old (d ∷ ds) new = (cut : ℕ) × (mid : CardState) × IsCut cut × Does old cut (tpdu_of d) mid
    × Goes mid ds new

pub goes_by_runs : (old new : CardState) (ds : List Dialogue) (plans : List Course) → HaveCuts plans
    → Runs Does old ds plans new → Goes old ds new
goes_by_runs old new [] plans have runs = runs
goes_by_runs old new (d ∷ ds) [] have (mid, does, others) =
    (256, mid, (omega arith, omega arith), does, goes_by_runs mid new ds [] tt others)
goes_by_runs old new (d ∷ ds) (p ∷ plans) have (mid, does, others) =
    (p.cut, mid, have.0, does, goes_by_runs mid new ds plans have.1 others)

pub goes_apart : (old new : CardState) (xs ys : List Dialogue) → Goes old (xs ++ ys) new
    → (mid : CardState) × Goes old xs mid × Goes mid ys new
goes_apart old new [] ys goes = (old, refl, goes)
goes_apart old new (x ∷ xs) ys (cut, next, is, does, others) =
    let (mid, before, after) = goes_apart next new xs ys others in
    (mid, (cut, next, is, does, before), after)

-- a sound state of the card stays sound
pub goes_sound : (old new : CardState) (ds : List Dialogue) → IsCardState old → Goes old ds new
    → IsCardState new
goes_sound old new [] sound goes = rw goes sound
goes_sound old new (d ∷ ds) sound (cut, mid, is_cut, does, others) =
    goes_sound mid new ds (stays_sound old mid cut (tpdu_of d) does sound) others

-- a dialogue is repeated only after 6CXX
pub not_repeated : (d : Dialogue) → corrects d.status ≡ None → repeated_with Everything d ≡ None
not_repeated d told = by d.body.direction (corrects d.status) told
  where
    by : (v : Direction) (c : Option ℕ) → c ≡ None → correction_of v Everything c ≡ None
    by ToCard c e = refl
    by FromCard None e = refl
    by FromCard (Some n) e = absurd (cc)

-- a fetch of announced data is one dialogue
record IsFetch (n : ℕ) (u : UnitOf) (old new : CardState) : Type 0 where
  cut : ℕ
  dialogue : Dialogue
  is : u ≡ Single dialogue
  in_range : IsCut cut
  header_is : dialogue.body.header ≡ get_response
  counts : count dialogue.body.p3 ≡ n
  does : Does old cut (tpdu_of dialogue) new

one_fetch : (n cut : ℕ) (t : Tpdu) (u : UnitOf) (prior old new : CardState) → Does prior cut t old
    → IsCut cut → announces t.status ≡ Some n → OpensWith (By_fetch n) (first_of u)
    → IsUnit Everything u → Goes old (dialogues_of u) new → IsFetch n u old new
one_fetch n cut t (Single d) prior old new before in_range announced opens is_unit
    (next, mid, is_cut, does, is) =
    record {
      cut = next;
      dialogue = d;
      is = refl;
      in_range = is_cut;
      header_is = opens.header_is;
      counts = opens.counts;
      does = rw is does;
    }
one_fetch n cut t (Repeated d e) prior old new before in_range announced opens is_unit
    (next, mid, is_cut, does, others) =
    let told = (announced_is_brought prior old mid cut next n t (tpdu_of d) before in_range
    announced does opens.header_is (omega (arith, opens.counts))).2 in
    let no : Some is_unit.0 ≡ None = sym is_unit.1 ∙ not_repeated d told in
    absurd (cc)

-- the next fetch is of what is announced
announced_by : (status : StatusWord) (m : ℕ) → fetched_after Everything status ≡ Some m
    → announces status ≡ Some m
announced_by status m e = by (announces status) e
  where
    by : (v : Option ℕ) → fetched_of Everything v ≡ Some m → v ≡ Some m
    by None e = absurd (cc)
    by (Some k) e = e

-- if nothing more is fetched, nothing more is announced
none_announced : (status : StatusWord) → fetched_after Everything status ≡ None
    → announces status ≡ None
none_announced status e = by (announces status) e
  where
    by : (v : Option ℕ) → fetched_of Everything v ≡ None → v ≡ None
    by None e = refl
    by (Some k) e = absurd (cc)

abbrev pub all_brought : List Tpdu → List ℕ
all_brought ts = flat_map (λ (t : Tpdu). t.received) ts

-- after this status all announced data are fetched, and these are the data
pub record AreFetched (old : CardState) (told : StatusWord) (content : List ℕ) (status : StatusWord)
    (new : CardState) : Type 0 where
  pub fetches : List Tpdu
  pub all : FetchAll old told fetches status new
  pub content_is : content ≡ all_brought fetches

fetched_all : (n cut : ℕ) (t : Tpdu) (before : List UnitOf) (last : UnitOf) (opening : Opening)
    (left : Wanted) (prior old new : CardState) → Does prior cut t old → IsCut cut
    → announces t.status ≡ Some n → AreFollowed (By_fetch n) Everything before opening left
    → OpensWith opening (first_of last) → IsUnit left last
    → fetched_after (after_unit left last) (last_of last).status ≡ None
    → Goes old (flat_map dialogues_of (before ++ last ∷ [])) new
    → AreFetched old t.status (flat_map unit_data (before ++ last ∷ [])) (last_of last).status new
fetched_all n cut t [] last opening left prior old new does in_range announced followed opens
    is_unit ends goes =
    let one = one_fetch n cut t last prior old new does in_range announced
    (rw followed.0 at opens) (rw followed.1 at is_unit)
    (rw (append-nil (dialogues_of last)) at goes) in
    let d = one.dialogue in
    let none_more : fetched_after Everything (last_of last).status ≡ None =
    rw followed.1 at ends in
    let status_is : (last_of last).status ≡ d.status = ap (λ u. (last_of u).status) one.is in
    let none : announces d.status ≡ None =
    ap (λ s. announces s) (sym status_is) ∙ none_announced (last_of last).status none_more in
    record {
      fetches = tpdu_of d ∷ [];
      all = (
        n,
        one.cut,
        new,
        announced,
        one.header_is,
        one.counts,
        one.in_range,
        one.does,
        (none, status_is, refl),
      );
      content_is = ap (λ u. unit_data u ++ []) one.is ∙ append-nil (received d ++ []);
    }
fetched_all n cut t (u ∷ before) last opening left prior old new does in_range announced
    (m, is, followed) opens is_unit ends goes =
    let rest = flat_map unit_data (before ++ last ∷ []) in
    let (mid, first, others) =
    goes_apart old new (dialogues_of u) (flat_map dialogues_of (before ++ last ∷ [])) goes in
    let one = one_fetch n cut t u prior old mid does in_range announced is.opens is.is_unit first in
    let d = one.dialogue in
    let told : announces d.status ≡ Some m =
    ap (λ v. announces (last_of v).status) (sym one.is)
    ∙ announced_by (last_of u).status m is.fetched in
    let more = fetched_all m one.cut (tpdu_of d) before last opening left old mid new one.does
    one.in_range told followed opens is_unit ends others in
    record {
      fetches = tpdu_of d ∷ more.fetches;
      all = (
        n,
        one.cut,
        mid,
        announced,
        one.header_is,
        one.counts,
        one.in_range,
        one.does,
        more.all,
      );
      content_is = ap (λ v. unit_data v ++ rest) one.is
          ∙ ap (λ z. z ++ rest) (append-nil (received d))
          ∙ ap (λ z. received d ++ z) more.content_is;
    }

-- After the first unit of a command that wants everything: the fetches of what its last dialogue
-- announces, if it does.
abbrev pub Rest : UnitOf → CardState → CardState → List ℕ → StatusWord → Type 0
Rest u mid new content status =
    (prior : CardState) (cut : ℕ) → IsCut cut → Does prior cut (tpdu_of (last_of u)) mid
    → (brought : List ℕ) × (content ≡ unit_data u ++ brought)
    × AreFetched mid (last_of u).status brought status new

-- the first unit and those after it
pub record IsBegun (c : Command) (u : UnitOf) (old mid new : CardState) (content : List ℕ)
    (status : StatusWord) : Type 0 where
  pub opens : Opens c (first_of u)
  pub is_unit : IsUnit Everything u
  pub goes : Goes old (dialogues_of u) mid
  pub rest : Rest u mid new content status

abbrev pub wanting_all : Header → List ℕ → Command
wanting_all h bytes = record { header = h; content = bytes; le = Some 256 }

pub begun : (h : Header) (bytes : List ℕ) (units : List UnitOf) (content : List ℕ)
    (status : StatusWord) (old new : CardState)
    → Gathers (wanting_all h bytes) units content status
    → Goes old (flat_map dialogues_of units) new
    → (u : UnitOf) × (mid : CardState) × IsBegun (wanting_all h bytes) u old mid new content status
begun h bytes units content status old new g goes =
    by g.is_open.before g.is_open.last g.is_open.opening g.is_open.left g.is_open.followed
    g.is_open.opens g.is_open.is_unit g.ends g.status_is
    (g.gathered_is ∙ ap (λ us. flat_map unit_data us) g.is_open.units_are)
    (rw g.is_open.units_are at goes)
  where
    by : (before : List UnitOf) (last : UnitOf) (opening : Opening) (left : Wanted)
        → AreFollowed (By_command (wanting_all h bytes)) Everything before opening left
        → OpensWith opening (first_of last) → IsUnit left last
        → fetched_after (after_unit left last) (last_of last).status ≡ None
        → status ≡ (last_of last).status → content ≡ flat_map unit_data (before ++ last ∷ [])
        → Goes old (flat_map dialogues_of (before ++ last ∷ [])) new
        → (u : UnitOf) × (mid : CardState)
        × IsBegun (wanting_all h bytes) u old mid new content status
    by [] last opening left followed opens is_unit ends status_is content_is goes = (
      last,
      new,
      record {
        opens = rw followed.0 at opens;
        is_unit = rw followed.1 at is_unit;
        goes = rw (append-nil (dialogues_of last)) at goes;
        rest = λ prior cut in_range does. (
          [],
          content_is ∙ append-nil (unit_data last) ∙ sym (append-nil (unit_data last)),
          record {
            fetches = [];
            all = (
              none_announced (last_of last).status (rw followed.1 at ends),
              status_is,
              refl,
            );
            content_is = refl;
          },
        );
      },
    )
    by (u ∷ before) last opening left (n, is, followed) opens is_unit ends status_is content_is
        goes =
        let (mid, first, others) =
        goes_apart old new (dialogues_of u) (flat_map dialogues_of (before ++ last ∷ []))
        goes in (
          u,
          mid,
          record {
            opens = is.opens;
            is_unit = is.is_unit;
            goes = first;
            rest = λ prior cut in_range does. (
              flat_map unit_data (before ++ last ∷ []),
              content_is,
              rw status_is (fetched_all n cut (tpdu_of (last_of u)) before last opening left prior
                  mid new does in_range (announced_by (last_of u).status n is.fetched) followed
                  opens is_unit ends others),
            );
          },
        )

-- a unit that sends data to the card has one dialogue
pub sent_once : (u : UnitOf) → (first_of u).body.direction ≡ ToCard → IsUnit Everything u
    → u ≡ Single (first_of u)
sent_once (Single d) to is = refl
sent_once (Repeated d e) to is = let no : Some is.0 ≡ None =
    sym is.1 ∙ ap (λ v. correction_of v (after_dialogue Everything d) (corrects d.status)) to in
    absurd (cc)

pub sent_data : (d : Dialogue) → d.body.direction ≡ ToCard → sent d ≡ d.body.moved
sent_data d to = by d.body.direction to refl
  where
    by : (v : Direction) → v ≡ ToCard → d.body.direction ≡ v → sent d ≡ d.body.moved
    by ToCard e is = rw is refl
    by FromCard e is = absurd (cc)

pub received_none : (d : Dialogue) → d.body.direction ≡ ToCard → received d ≡ []
received_none d to = by d.body.direction to refl
  where
    by : (v : Direction) → v ≡ ToCard → d.body.direction ≡ v → received d ≡ []
    by ToCard e is = rw is refl
    by FromCard e is = absurd (cc)
