-- The commands of a put, with one exchange each, equal the put in one step.
use Rattle.std.proofs.Common.{◌≡◌, ℕ, ◌-◌, List, [], ◌∷◌, ◌++◌, length, Option, Some, None, refl, sym, ap, subst, ◌∙◌, arith, append-nil}
use Rattle.std.specs.List.{flat_map}
use Rattle.apdu_core.specs.declared.header.Header.{Header}
use Rattle.apdu_core.specs.StatusWord.{StatusWord, announces, corrects}
use Rattle.apdu_core.specs.Chaining.{link, chain_commands}
use Rattle.t0_core.specs.Dialogue.{Dialogue}
use Rattle.t0_core.specs.Meaning.{tpdu_of, received}
use Rattle.object_card.specs.State.{CardState}
use Rattle.apdu_core.specs.Shared.{Reply}
use Rattle.object_card.specs.CardMeaning.{Does}
use Rattle.object_card.specs.CarryingOut.{Carries, IsAnswered, EndsWith}
use Rattle.exchange_core.specs.declared.wanted.Wanted.{Wanted}
use Rattle.exchange_core.specs.declared.wanted.Wanted.TheVariants.{Bytes}
use Rattle.exchange_core.specs.Gathered.{UnitOf, Single, Repeated, Opening, By_command, Opens, OpensWith, SendsFrom, Gathers, first_of, last_of, dialogues_of, unit_data, after_dialogue, less, fetched_of, correction_of, IsUnit, AreFollowed}
use Rattle.card_terminal.specs.Talk.{AreExchangesOf, talk_dialogues}
use Rattle.card_terminal.specs.TalkLaws.{chains_end}
use Rattle.card_terminal.proofs.FetchLemmas.{Goes, goes_apart, sent_data, received_none}

-- a command without Le wants nothing, and nothing is fetched after it
none_wanted : (k : ℕ) (v : Option ℕ) → fetched_of (less (Bytes 0) k) v ≡ None
none_wanted k None = refl
none_wanted k (Some n) = let e : 0 - k ≡ 0 = omega arith in rw e refl

sends_piece : (h : Header) (piece : List ℕ) (d : Dialogue) → Opens (link h piece) d
    → SendsFrom h piece d
sends_piece h [] d opens = opens
sends_piece h (b ∷ piece) d opens = opens

-- its exchange is one dialogue
record IsAlone (h : Header) (piece : List ℕ) (units : List UnitOf) (content : List ℕ)
    (status : StatusWord) (d : Dialogue) : Type 0 where
  units_are : units ≡ Single d ∷ []
  sends : SendsFrom h piece d
  none : content ≡ []
  status_is : status ≡ d.status

alone : (h : Header) (piece : List ℕ) (units : List UnitOf) (content : List ℕ) (status : StatusWord)
    → Gathers (link h piece) units content status
    → (d : Dialogue) × IsAlone h piece units content status d
alone h piece units content status g =
    by g.is_open.before g.is_open.last g.is_open.opening g.is_open.left g.is_open.followed
    g.is_open.opens g.is_open.is_unit g.is_open.units_are g.status_is
  where
    last_unit : (left : Wanted) (u : UnitOf) → SendsFrom h piece (first_of u) → IsUnit left u
        → units ≡ u ∷ [] → status ≡ (last_of u).status
        → (d : Dialogue) × IsAlone h piece units content status d
    last_unit left (Single d) sends is_unit units_are status_is = (
      d,
      record {
        units_are = units_are;
        sends = sends;
        none = g.gathered_is ∙ ap (λ us. flat_map unit_data us) units_are
            ∙ append-nil (received d ++ []) ∙ append-nil (received d)
            ∙ received_none d sends.to_card;
        status_is = status_is;
      },
    )
    last_unit left (Repeated d e) sends is_unit units_are status_is =
        let no : Some is_unit.0 ≡ None =
        sym is_unit.1 ∙ ap (λ v. correction_of v (after_dialogue left d) (corrects d.status))
        sends.to_card in absurd (cc)

    by : (before : List UnitOf) (last : UnitOf) (opening : Opening) (left : Wanted)
        → AreFollowed (By_command (link h piece)) (Bytes 0) before opening left
        → OpensWith opening (first_of last) → IsUnit left last → units ≡ before ++ last ∷ []
        → status ≡ (last_of last).status
        → (d : Dialogue) × IsAlone h piece units content status d
    by [] last opening left followed opens is_unit units_are status_is =
        last_unit left last (sends_piece h piece (first_of last) (rw followed.0 at opens)) is_unit
        units_are status_is
    by (u ∷ before) last opening left (n, is, followed) opens is_unit units_are status_is =
        let no : Some n ≡ None =
        sym is.fetched ∙ none_wanted (length (unit_data u)) (announces (last_of u).status) in
        absurd (cc)

answered_by : (h : Header) (piece : List ℕ) (units : List UnitOf) (content : List ℕ)
    (status : StatusWord) (old new : CardState)
    → Gathers (link h piece) units content status → Goes old (flat_map dialogues_of units) new
    → IsAnswered old (link h piece) status new × (content ≡ [])
answered_by h piece units content status old new g goes =
    let (d, is) = alone h piece units content status g in
    let (cut, mid, is_cut, does, last) = rw is.units_are at goes in
    let carries : Carries h piece (tpdu_of d) = record {
      header_is = is.sends.header_is;
      counts = is.sends.counts;
      takes = (
        is.sends.sends.0,
        is.sends.sends.1
            ∙ ap (λ bs. bs ++ is.sends.sends.0) (sym (sent_data d is.sends.to_card)),
      );
    } in (
      (
        cut,
        tpdu_of d,
        carries,
        sym is.status_is,
        subst (λ s. Does old cut (tpdu_of d) s) (sym last) does,
      ),
      is.none,
    )

-- one exchange and the others
apart : (old new : CardState) (units : List UnitOf) (exchanges : List (List UnitOf))
    → Goes old (talk_dialogues (units ∷ exchanges)) new
    → (mid : CardState) × Goes old (flat_map dialogues_of units) mid
    × Goes mid (talk_dialogues exchanges) new
apart old new units exchanges goes =
    goes_apart old new (flat_map dialogues_of units) (talk_dialogues exchanges) goes

-- The exchanges of a chain's commands: how they end, and that they bring no data.
pub chain_ends : (h : Header) (pieces : List (List ℕ)) (exchanges : List (List UnitOf))
    (answer : Reply) (old new : CardState)
    → AreExchangesOf (chain_commands h pieces) exchanges answer
    → Goes old (talk_dialogues exchanges) new
    → EndsWith old (chain_commands h pieces) new answer.status × (answer.content ≡ [])
chain_ends = chains_end Gathers (λ old units new. Goes old (flat_map dialogues_of units) new)
    (λ old exchanges new. Goes old (talk_dialogues exchanges) new) apart (λ old new goes. goes)
    answered_by
