-- Dialogues from one point of a talk to another: none, one, and others after them.
use Rattle.std.proofs.Common.{append-nil, ◌≡◌, ℕ, zero, suc, ◌+◌, List, [], ◌∷◌, ◌++◌, length, take, drop, refl, sym, ap, ◌∙◌, arith, length-append, Option}
use Rattle.std.specs.List.{flat_map}
use Rattle.std.proofs.lemmas.Grind.{flat_map-append}
use Rattle.t0_core.specs.Dialogue.{Dialogue, IsDialogue, characters}
use Rattle.t0_core.specs.Meaning.{Tpdu, tpdu_of, Runs}
use Rattle.t0_core.specs.Plan.{Course, IsCut, Follows, FollowInTurn, advanced}
use Rattle.t0_core.specs.Watch.{Hearing, Hears}
use Rattle.t0_core.specs.WatchLaws.{hears_more, hears_nothing}
use Rattle.card_terminal.specs.Talk.{HaveCuts}
use Rattle.card_terminal.specs.Conversing.{Point, point, HaveGone, next_plan}
use Rattle.card_terminal.proofs.TalkListLemmas.{left_after_both, follow_both, runs_both, all_both}

-- the cuts of some plans, and of those after them
pub cuts_both : (n m : ℕ) (plans : List Course) → HaveCuts (take n plans)
    → HaveCuts (take m (drop n plans)) → HaveCuts (take (n + m) plans)
cuts_both zero m plans first second = let e : 0 + m ≡ m = omega arith in rw e second
cuts_both (suc n) m [] first second = let e : suc n + m ≡ suc (n + m) = omega arith in rw e tt
cuts_both (suc n) m (p ∷ plans) first second =
    let e : suc n + m ≡ suc (n + m) = omega arith in
    rw e (first.0, cuts_both n m plans first.1 second)

-- dialogues, and others after them
pub gone_both : {State : Type 0} (Does : State → ℕ → Tpdu → State → Type 0)
    (from mid to : Point State) (ds es : List Dialogue) → HaveGone Does from ds mid
    → HaveGone Does mid es to → HaveGone Does from (ds ++ es) to
gone_both Does from mid to ds es one two =
    let n = length ds in
    let plans = from.plans in
    record {
      are_dialogues = all_both IsDialogue ds es one.are_dialogues two.are_dialogues;
      follow = follow_both ds es plans one.follow (rw one.used at two.follow);
      cuts = rw (length-append ds es)
          (cuts_both n (length es) plans one.cuts (rw one.used at two.cuts));
      runs = runs_both Does from.standing mid.standing to.standing ds es plans one.runs
          (rw one.used at two.runs);
      used = two.used ∙ ap (λ p. drop (length es) p) one.used ∙ sym (left_after_both ds es plans);
      hears = rw (flat_map-append characters ds es)
          (hears_more from.hearing mid.hearing to.hearing (flat_map characters ds)
          (flat_map characters es) one.hears two.hears);
    }

follow_none : (plans : List Course) → FollowInTurn [] plans
follow_none [] = tt
follow_none (p ∷ ps) = tt

cuts_none : (plans : List Course) → HaveCuts (take 0 plans)
cuts_none [] = tt
cuts_none (p ∷ ps) = tt

runs_none : {State : Type 0} (Does : State → ℕ → Tpdu → State → Type 0) (standing : State)
    (plans : List Course) → Runs Does standing [] plans standing
runs_none Does standing [] = refl
runs_none Does standing (p ∷ ps) = refl

pub none_gone : {State : Type 0} (Does : State → ℕ → Tpdu → State → Type 0) (at : Point State)
    → HaveGone Does at [] at
none_gone Does at = record {
  are_dialogues = tt;
  follow = follow_none at.plans;
  cuts = cuts_none at.plans;
  runs = runs_none Does at.standing at.plans;
  used = refl;
  hears = hears_nothing at.hearing;
}

-- one dialogue, under the next of the plans
pub one_gone : {State : Type 0} (Does : State → ℕ → Tpdu → State → Type 0) (old new : State)
    (rest : List Course) (kept : Option Course) (since now : Hearing) (d : Dialogue)
    → IsDialogue d → Follows d (next_plan rest) → IsCut (next_plan rest).cut
    → Does old (next_plan rest).cut (tpdu_of d) new → Hears since (characters d) now
    → HaveGone Does (point old rest since) (d ∷ [])
    (point new (advanced (record { rest = rest; kept = kept })).rest now)
one_gone Does old new [] kept since now d is follows cut does hears = record {
  are_dialogues = (is, tt);
  follow = (follows, tt);
  cuts = tt;
  runs = (new, does, refl);
  used = refl;
  hears = rw (append-nil (characters d)) hears;
}
one_gone Does old new (p ∷ ps) kept since now d is follows cut does hears = record {
  are_dialogues = (is, tt);
  follow = (follows, follow_none ps);
  cuts = (cut, cuts_none ps);
  runs = (new, does, runs_none Does new ps);
  used = refl;
  hears = rw (append-nil (characters d)) hears;
}
