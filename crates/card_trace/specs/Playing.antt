-- What a player stands for: a table, or a card that runs.
use Rattle.std.specs.Prelude.{◌≡◌}
use Rattle.card_trace.specs.declared.both_ends.BothEnds.{BothEnds}
use Rattle.card_trace.specs.declared.player.Player.{Player}
use Rattle.card_trace.specs.declared.player.Player.TheVariants as player
use Rattle.card_trace.specs.Script.{Script, State, Building, Running}
use Rattle.card_trace.specs.Scripts.{InSession}

abbrev pub in_session : {A : Type 0} → BothEnds A → InSession
in_session ends = record { card = ends.session.state; plans = ends.plans.items }

-- the state of a player, given what its table and its card stand for
abbrev pub IsAt : {T R : Type 0} (s : Script) → (T → s.Table) → (R → s.Card → Type 0)
    → Player T R → State s → Type 0
IsAt s table_of StandsFor (player.Building table) state = state ≡ Building (table_of table)
IsAt s table_of StandsFor (player.Running runner) state =
    (card : s.Card) × StandsFor runner card × (state ≡ Running card)
