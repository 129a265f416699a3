use Rattle.std.proofs.Common.{◌<◌, ◌≤◌, ◌-◌, List, ℕ, length, subst, sym, arith}
use Rattle.std.specs.Prelude.{IfSome}
use Rattle.apdu_core.specs.StatusWord.{count}
use Rattle.t0_core.specs.Meaning.{IsSending}
use Rattle.t0_core.specs.DataRun.{IsRunAt}
use Rattle.object_card.specs.CardFields.{ApplicationView, entries_at, left_of}
use Rattle.object_card.specs.CardView.{CardView}
use Rattle.object_card.proofs.FreshCard.{sends_run}
use Rattle.object_card.proofs.card.ObjectCardTpduCard.run.Goals as goal

pub run-requires-clause-selected : goal.run-requires-clause-selected
run-requires-clause-selected g c =
    let Within : List ApplicationView → Type 0 =
    λ hs. IfSome c.self.inside.selected (λ place. place < length hs) in
    subst Within (sym c.deref.ensures.value) c.self.invariant.standing.selected_is

pub returns : goal.returns
returns g c =
    let i = c.self.inside in
    let s = c.in-Sends in
    let run : List ℕ = c.run.result.now in
    let Runs : List ApplicationView → Type 0 = λ hs. IsRunAt
    (left_of (entries_at hs i.selected) s.response) c.args.at run in
    let runs = subst Runs c.deref.ensures.value c.run.ensures.run in
    let fits : length run ≤ count s.p3 - c.args.at =
    omega (arith, c.run.ensures.most, c.from-most.ensures, c.count.ensures) in
    let Sends : CardView → Type 0 = λ v. IsSending v.prepared
    (λ ask bytes. c.args.at < length bytes)
    → IsSending v.prepared (λ ask bytes. IsRunAt bytes c.args.at run) in
    subst Sends c.self.view_is
    (sends_run i.applications.items i.selected i.chain i.response i.ready _ s.header s.p3 s.cut
    s.response c.args.at run s.is runs fits)
    c.requires
