-- An exchange at T=0 as one call of the application.
use Rattle.std.proofs.Common.{◌≡◌, ℕ, List, [], ◌∷◌, ◌≤◌, length, take, Option, Some, None, Bool, true, false, refl, sym, ap, subst, arith, inl, inr}
use Rattle.std.specs.Prelude.{if◌then◌else◌}
use Rattle.std.specs.List.{flat_map}
use Rattle.apdu_core.specs.declared.header.Header.{Header}
use Rattle.apdu_core.specs.CommandBytes.{Command, IsCommand}
use Rattle.apdu_core.specs.StatusWord.{StatusWord}
use Rattle.t0_core.specs.Dialogue.{Dialogue}
use Rattle.t0_core.specs.Meaning.{Runs, Tpdu}
use Rattle.t0_core.specs.Plan.{Course, IsCut}
use Rattle.t0_core.specs.Watch.{Hearing}
use Rattle.object_card.specs.Agreed.{IsAgreed}
use Rattle.exchange_core.specs.declared.wanted.Wanted.{Wanted}
use Rattle.exchange_core.specs.declared.wanted.Wanted.TheVariants.{Bytes, Everything}
use Rattle.command_card.specs.declared.application.TheConstants.{OWN_RESPONSE_LIMIT}
use Rattle.exchange_core.specs.Gathered.{Gathers, UnitOf, dialogues_of, wanted_by}
use Rattle.card_terminal.specs.Conversing.{HaveGone, point}
use Rattle.card_terminal.specs.Talk.{HaveCuts}
use Rattle.command_card.specs.Carrying.{Did}
use Rattle.command_card.specs.State.{CardState, Left, Nothing_left, For_fetch, For_repeat, is_fetch, pending_for}
use Rattle.command_card.specs.Meaning.{Does}
use Rattle.command_card.specs.View.{MayReceive, MaySend}
use Rattle.command_card.specs.AtT1.{shown}
use Rattle.command_card.specs.Told.{AreAgreed, GathersPart, IsCutOf, told, unwanted_part}
use Rattle.as_called.specs.AsIfCalled.{AsIfBy, AsIfCalled, By_plans, IsCalledOnce, IsCalledWith, IsTidy}
use Rattle.as_called.proofs.Tidy.{own_made, shorter, tidy_rest}

part_shorter : (w : Wanted) (bytes : List ℕ) → length bytes ≤ OWN_RESPONSE_LIMIT
    → length (unwanted_part w bytes) ≤ OWN_RESPONSE_LIMIT
part_shorter (Bytes n) bytes short = shorter n bytes short
part_shorter Everything bytes short = omega arith

-- a run uses only as many plans as it has dialogues
runs_front : {State : Type 0} (Own : State → ℕ → Tpdu → State → Type 0) (old new : State)
    (ds : List Dialogue) (plans : List Course) → Runs Own old ds plans new
    → Runs Own old ds (take (length ds) plans) new
runs_front Own old new [] plans runs = runs
runs_front Own old new (d ∷ ds) [] (mid, does, runs) = (mid, does, runs)
runs_front Own old new (d ∷ ds) (p ∷ plans) (mid, does, runs) =
    (mid, does, runs_front Own mid new ds plans runs)

cut_in_range : (plans : List Course) (cut : ℕ) → HaveCuts plans → IsCutOf plans cut → IsCut cut
cut_in_range [] cut have is = (omega (arith, is), omega (arith, is))
cut_in_range (p ∷ plans) cut have (inl is) = subst IsCut (sym is) have.0
cut_in_range (p ∷ plans) cut have (inr is) = cut_in_range plans cut have.1 is

none_waits : (left : Left) (h : Header) → IsTidy left → is_fetch h ≡ false → (p3 : ℕ)
    → pending_for left h p3 ≡ None
none_waits Nothing_left h tidy other p3 = refl
none_waits (For_fetch bytes own) h tidy other p3 =
    ap (λ (v : Bool). if v then Some (record { bytes = bytes; status = own }) else None) other
none_waits (For_repeat g bytes own) h tidy other p3 = absurd tidy

module _ {S : Type 0} (takes : S → Header → Bool) (Act : S → Did → S → Type 0) where
  -- both ends agree on the direction, whatever the state: so they do in this state
  agreed_so : (first : CardState S) (h : Header) (content : List ℕ) (le : Option ℕ)
      → IsAgreed (MayReceive takes) (MaySend takes)
      (record { header = h; content = content; le = le })
      → is_fetch h ≡ false → IsTidy first.left
      → IsCommand (record { header = h; content = content; le = le })
      → AreAgreed takes first (record { header = h; content = content; le = le })
  agreed_so first h [] None agreed other tidy is = record {
    valid = is.valid_ins;
    no_fetch = other;
    no_data = λ e. refl;
    has_le = λ e. absurd (agreed (inr (first.app, e)));
    no_le = λ e none. refl;
    none_pending = none_waits first.left h tidy other;
  }
  agreed_so first h [] (Some n) agreed other tidy is = record {
    valid = is.valid_ins;
    no_fetch = other;
    no_data = λ e. refl;
    has_le = λ e. (n, refl, is.sizes.le_in_range.0, is.sizes.le_in_range.1);
    no_le = λ e none. absurd (agreed.0 (other, first.app, e));
    none_pending = none_waits first.left h tidy other;
  }
  agreed_so first h (b ∷ bs) None agreed other tidy is = record {
    valid = is.valid_ins;
    no_fetch = other;
    no_data = λ e. absurd (agreed (inr (first.app, e)));
    has_le = λ e. absurd (agreed (inr (first.app, e)));
    no_le = λ e none. refl;
    none_pending = none_waits first.left h tidy other;
  }
  agreed_so first h (b ∷ bs) (Some n) agreed other tidy is = record {
    valid = is.valid_ins;
    no_fetch = other;
    no_data = λ e. absurd (agreed.0 (inr (first.app, e)));
    has_le = λ e. absurd (agreed.0 (inr (first.app, e)));
    no_le = λ e none. absurd (cc);
    none_pending = none_waits first.left h tidy other;
  }

  is_shown : (v : Bool) (h : Header) (content : List ℕ) (le : Option ℕ)
      → (v ≡ false → content ≡ []) → (v ≡ true → content ≡ [] → le ≡ None)
      → shown v h content le ≡ Some (told v (record { header = h; content = content; le = le }))
  is_shown true h [] (Some n) none no_le =
      let no : Some n ≡ None = no_le refl refl in absurd (cc)
  is_shown false h (b ∷ content) le none no_le =
      let no : b ∷ content ≡ [] = none refl in absurd (cc)
  is_shown true h [] None none no_le = refl
  is_shown true h (b ∷ content) le none no_le = refl
  is_shown false h [] le none no_le = refl

  -- law of `command_card`
  abbrev pub GathersAsAsked : Type 0
  GathersAsAsked = (first last : CardState S) (c : Command) (units : List UnitOf)
      (plans : List Course) (gathered : List ℕ) (status : StatusWord) → AreAgreed takes first c
      → HaveCuts plans → Runs (Does takes Act) first (flat_map dialogues_of units) plans last
      → Gathers c units gathered status → GathersPart takes Act plans first c gathered status last

  pub as_if_at_t0 : GathersAsAsked → (first last : CardState S) (c : Command)
      (units : List UnitOf) (plans left : List Course) (before after : Hearing)
      (gathered : List ℕ) (status : StatusWord)
      → IsAgreed (MayReceive takes) (MaySend takes) c → is_fetch c.header ≡ false
      → IsTidy first.left → IsCommand c → Gathers c units gathered status
      → HaveGone (Does takes Act) (point first plans before) (flat_map dialogues_of units)
      (point last left after)
      → AsIfCalled takes Act By_plans first c gathered status last × IsTidy last.left
  as_if_at_t0 law first last c units plans left before after gathered status agreed other tidy is
      gathers gone =
      let ds : List Dialogue = flat_map dialogues_of units in
      let own = agreed_so first c.header c.content c.le agreed other tidy is in
      let part = law first last c units (take (length ds) plans) gathered status own gone.cuts
      (runs_front (Does takes Act) first last ds plans gone.runs) gathers in
      let once : IsCalledOnce Act By_plans first c (told (takes first.app c.header) c) gathered
      status last = record {
        response = part.bytes;
        own = part.own;
        makes = part.makes;
        reports = record {
          gathered_is = part.gathered_is;
          most = part.cut;
          is_most = cut_in_range (take (length ds) plans) part.cut gone.cuts part.is_cut;
          status_is = part.status_is;
          left_is = part.left_is;
        };
      } in (
        subst (λ v. AsIfBy takes Act By_plans first c gathered status last v) (sym other)
            (subst (λ o. IsCalledWith Act By_plans first c gathered status last o)
            (sym (is_shown (takes first.app c.header) c.header c.content c.le own.no_data
            own.no_le)) once),
        subst IsTidy (sym part.left_is)
            (tidy_rest (unwanted_part (wanted_by c.le) part.bytes) part.own
            (own_made Act first.app last.app _ part.bytes part.own part.makes).0
            (part_shorter (wanted_by c.le) part.bytes
            (own_made Act first.app last.app _ part.bytes part.own part.makes).1)),
      )
