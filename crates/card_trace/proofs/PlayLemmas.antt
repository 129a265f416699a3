-- What the run lines of a script of `play` do.
use Rattle.std.proofs.Common.{◌≡◌, ℕ, List, [], ◌∷◌, true, false, sym, subst}
use Rattle.t0_core.specs.Character.{Character}
use Rattle.t0_core.specs.Plan.{Course}
use Rattle.t0_core.specs.Watch.{Hearing, Hears}
use Rattle.object_card.specs.State.{CardState, is_idle}
use Rattle.object_card.specs.CardMeaning.{Does}
use Rattle.apdu_core.specs.Shared.{Reply}
use Rattle.object_card.specs.OneStep.{Operation}
use Rattle.card_terminal.specs.Talk.{Talk}
use Rattle.card_trace.specs.PrintedText.{busy_text}
use Rattle.card_trace.specs.TraceText.{operation_text}
use Rattle.card_trace.specs.Scripts.{IsRun, talks, is_busy}

-- a recorder that has lost nothing has the whole line
heard_whole : (line : List Character) (now : Hearing) → now.lost ≡ false
    → Hears (record { heard = []; lost = false }) line now → now.heard ≡ line
heard_whole line now kept hears = (hears.all kept).1

-- a busy card is sent nothing
pub was_busy : (card : CardState) (plans left : List Course) (operation : Operation)
    → is_idle card.pending ≡ false → left ≡ []
    → IsRun card plans operation busy_text (record { card = card; plans = left })
was_busy card plans left operation busy none =
    subst (λ l. IsRun card plans operation busy_text (record { card = card; plans = l })) (sym none)
    (is_busy busy)

-- an operation that was run, with the printed answer
pub ran : (card after : CardState) (plans used rest left : List Course) (operation : Operation)
    (r : Reply) (since now : Hearing) (text : List ℕ)
    → used ≡ plans → left ≡ [] → since ≡ record { heard = []; lost = false }
    → is_idle card.pending ≡ true
    → ((line : List Character) × Talk Does card used (operation ∷ []) (r ∷ []) after rest line
    × Hears since line now) → now.lost ≡ false → text ≡ operation_text now.heard r
    → IsRun card plans operation text (record { card = after; plans = left })
ran card after plans used rest left operation r since now text used_are cleared fresh idle talked
    kept prints =
    let line = talked.0 in
    let of = subst (λ p. Talk Does card p (operation ∷ []) (r ∷ []) after rest line) used_are
    talked.1 in
    let heard = heard_whole line now kept (subst (λ h. Hears h line now) fresh talked.2) in
    let R : List ℕ → List Course → Type 0 =
    λ t l. IsRun card plans operation t (record { card = after; plans = l }) in
    subst (λ l. R text l) (sym cleared) (subst (λ t. R t []) (sym prints)
    (subst (λ h. R (operation_text h r) []) (sym heard) (talks r after rest line idle of)))
