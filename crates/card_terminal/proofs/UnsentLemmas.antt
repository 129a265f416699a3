-- The command that an exchange returns before its first character is the one that began it.
use Rattle.std.proofs.Common.{◌≡◌, ◌≤◌, ℕ, zero, suc, List, [], ◌∷◌, refl, sym, ◌∙◌, ap, arith, true, false, not, ◌&&◌, ◌==◌, Bool, Option, Some, None, if◌then◌else◌}
use Rattle.std.specs.Prelude.{SomeIff, IfSome}
use Rattle.std.specs.List.{AllByRecursion}
use Rattle.std.proofs.lemmas.Bool.{eqb-true}
use Rattle.apdu_core.specs.declared.header.Header.{Header}
use Rattle.apdu_core.specs.StatusWord.{StatusWord}
use Rattle.apdu_core.specs.CommandBytes.{Command, IsCommand}
use Rattle.t0_core.specs.declared.direction.Direction.{Direction}
use Rattle.t0_core.specs.declared.direction.Direction.TheVariants.{ToCard, FromCard}
use Rattle.t0_core.specs.declared.host_end.HostTurn.TheVariants.{Done, Failed}
use Rattle.t0_core.specs.Character.{Character}
use Rattle.t0_core.specs.Dialogue.{Dialogue}
use Rattle.t0_core.specs.Front.{Front}
use Rattle.t0_core.specs.AnswerLaws.{due_sends}
use Rattle.t0_core.specs.HostAnswer.{is_due}
use Rattle.t0_core.specs.HostSide.{Hosting, AreForeseen, turn_of}
use Rattle.t0_core.specs.TpduBytes.{Asked, asked_by, due_by}
use Rattle.card_terminal.specs.declared.unsent.Unsent.{Unsent}
use Rattle.exchange_core.specs.declared.wanted.Wanted.TheVariants.{Everything, Bytes}
use Rattle.exchange_core.specs.Gathered.{UnitOf, Single, Repeated, wanted_by}
use Rattle.exchange_core.specs.ExchangeSide.{ExchangeOf, UnderWay, HostOpensBy, exchange_turn}
use Rattle.exchange_core.specs.ExchangeHistory.{ComesTo, to_front, to_end, to_stall, to_fault}
use Rattle.card_terminal.specs.Talk.{AreTakenUpTo}
use Rattle.card_terminal.specs.TerminalSide.{OperationOf, AreLeft}
use Rattle.exchange_core.specs.Unsent.{le_by, is_unsent, IsFirst}
use Rattle.card_terminal.specs.Unsent.{IsUnsent}
use Rattle.exchange_core.specs.UnsentLaws.{first_is, Unsending, unsending, read_from}

-- the first of the operation's commands
first_of : (commands : List Command) (c : Command) (more : List Command) → c ∷ more ≡ commands
    → AllByRecursion IsCommand commands → IsCommand c
first_of [] c more e are = absurd (cc)
first_of (d ∷ commands) c more e are =
    let same : d ≡ c = cc in rw same at are.0

second : (a b : Bool) → (a && b) ≡ true → (a ≡ true) × (b ≡ true)
second true b e = (refl, e)
second false b e = absurd (cc)

-- if no exchange has ended, all commands are left
taken : (commands : List Command) (gone : List (List UnitOf)) (left : List Command)
    → gone ≡ []
    → AreTakenUpTo commands gone left → left ≡ commands
taken commands [] left none is = is
taken commands (units ∷ gone) left none is = absurd (cc)

-- the same for an operation, whose first command it is
unsent_is : (o : OperationOf) (u : Unsent) → o.first ≡ true
    → IsFirst o.exchange (Some u.first) → u.p1 ≡ o.p1 → u.p2 ≡ o.p2 → u.rest.now ≡ o.rest
    → IsUnsent (Some o) (Some u)
unsent_is o u is_first first p1_is p2_is rest_is = record {
  known = rw is_first first.known;
  led = λ commands came are leads unsent.
      let l = leads.0 in
      let one : l.current ∷ l.left ≡ commands = taken commands l.gone (l.current ∷ l.left)
      (l.is_first is_first) l.taken in
      let is : IsCommand l.current = first_of commands l.current l.left one are in
      let same : Some u.first ≡ Some l.current =
      first.led l.current l.here is l.led (second o.first (is_unsent o.exchange) unsent).1 in (
        l.left,
        sym one ∙ ap (λ c. c ∷ l.left) (sym (got u.first l.current same)),
        left l.left p1_is p2_is rest_is l.are_left,
      );
}
  where
    got : (a b : Command) → Some a ≡ Some b → a ≡ b
    got a b e = cc

    left : (cs : List Command) → u.p1 ≡ o.p1 → u.p2 ≡ o.p2 → u.rest.now ≡ o.rest
        → AreLeft o.p1 o.p2 o.rest cs → AreLeft u.p1 u.p2 u.rest.now cs
    left cs a b d are = rw (a, b, d) are

pub unsent_at : (inside seen : OperationOf) (u : Unsent) → inside ≡ seen
    → inside.first ≡ true → IsFirst inside.exchange (Some u.first) → u.p1 ≡ inside.p1
    → u.p2 ≡ inside.p2 → u.rest.now ≡ inside.rest → IsUnsent (Some seen) (Some u)
unsent_at inside seen u same is_first first p1_is p2_is rest_is =
    rw (sym same) (unsent_is inside u is_first first p1_is p2_is rest_is)

pub none_unsent : (o : OperationOf) → IsFirst o.exchange None → IsUnsent (Some o) None
none_unsent o first = record {
  known = tt;
  led = λ commands came are leads unsent.
      let l = leads.0 in
      let both = second o.first (is_unsent o.exchange) unsent in
      let one = taken commands l.gone (l.current ∷ l.left) (l.is_first both.0) l.taken in
      absurd (never l.current (first.led l.current l.here
      (first_of commands l.current l.left one are) l.led both.1));
}
  where
    never : (c : Command) → None ≡ Some c → ⊥
    never c e = cc
