use Rattle.std.proofs.Common.{◌∙◌, sym, ap, subst}
use Rattle.std.specs.List.{AllByRecursion}
use Rattle.t0_core.specs.Front.{front_characters}
use Rattle.t0_core.specs.History.{IsByteEvent}
use Rattle.t0_core.specs.HistoryLaws.{leads_are_cut}
use Rattle.object_card.specs.State.{IsFresh}
use Rattle.object_card.specs.ShownPuts.{shown_puts, with_puts}
use Rattle.object_card.proofs.HistoryLemmas.{same_shown, runs_over_stand}
use Rattle.object_card.proofs.ShownPutLemmas.{tables_are_shown}
use Rattle.object_card.proofs.laws.histories.an_end_holds_what_its_history_shows.Goals as goal

pub returns-clause-is_cut : goal.returns-clause-is_cut
returns-clause-is_cut g c = λ first card events stage leads. (
  leads.items,
  front_characters leads.front,
  leads_are_cut g.C.TpduCard.Does g.C.TpduCard.after_reset (g.C.TpduCard.standing first) events
      (g.C.TpduCard.standing card) (g.C.TpduCard.prepared card) stage leads,
)

pub returns-clause-shown : goal.returns-clause-shown
returns-clause-shown g c = λ first card events stage items part fresh leads bytes into.
    let m = g.met.C.DataCard.means in
    let from = subst IsFresh (sym (m.1 first)) fresh in
    let own = leads_are_cut g.C.TpduCard.Does g.C.TpduCard.after_reset
    (g.C.TpduCard.standing first) events (g.C.TpduCard.standing card)
    (g.C.TpduCard.prepared card) stage leads in
    let one = c.events_have_one_cutting.ensures leads.items items (front_characters leads.front)
    part own.are_items into.are_items own.is_part into.is_part
    (subst (AllByRecursion IsByteEvent) leads.events_are bytes)
    (sym leads.events_are ∙ into.all_of_them) in
    let shown = tables_are_shown (m.0 (g.C.TpduCard.standing first))
    (m.0 (g.C.TpduCard.standing card)) leads.items from.0 from.1
    (runs_over_stand g.C.TpduCard.Does g.C.TpduCard.after_reset m.0 m.2
    (g.C.TpduCard.standing first) (g.C.TpduCard.standing card) leads.items leads.runs) in
    sym (ap (λ s. s.applications) (m.1 card)) ∙ shown
    ∙ ap (λ puts. with_puts puts (m.0 (g.C.TpduCard.standing first)).applications)
    (same_shown leads.items items one.0)
    ∙ ap (λ s. with_puts (shown_puts items) s.applications) (m.1 first)

pub returns-clause-fresh : goal.returns-clause-fresh
returns-clause-fresh g c = λ before after is.
    let m = g.met.C.DataCard.means in
    let stands = sym (m.1 after) ∙ ap m.0 is ∙ m.2.resets _ in (
      (ap (λ s. s.selected) stands, ap (λ s. s.pending) stands),
      ap (λ s. s.applications) stands ∙ ap (λ s. s.applications) (m.1 before),
    )
