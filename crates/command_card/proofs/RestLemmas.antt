-- What becomes of each response where nothing moves on the line.
use Rattle.std.proofs.Common.{◌≡◌, List, [], ◌∷◌, None, true, inr, refl, lit<, lit≤}
use Rattle.t0_core.specs.declared.direction.Direction.TheVariants.{FromCard}
use Rattle.t0_core.specs.declared.end.End.TheVariants.{Terminal, Card}
use Rattle.t0_core.specs.declared.plan.Step.TheVariants.{All}
use Rattle.t0_core.specs.CardSide.{Taking_header}
use Rattle.t0_core.specs.Dialogue.{Dialogue}
use Rattle.t0_core.specs.Front.{In_header}
use Rattle.t0_core.specs.History.{IsPart, IsUnderPlan}
use Rattle.t0_core.specs.Meaning.{Nothing}
use Rattle.t0_core.specs.Plan.{Course}
use Rattle.command_card.specs.Giving.{Giving, Lends}
use Rattle.command_card.specs.Lending.{AreLent, Lent, all_lent, line_of}
use Rattle.command_card.specs.Settling.{AnswersBy, ComesOf}
use Rattle.command_card.specs.State.{CardState, Nothing_left}
use Rattle.command_card.specs.Given.{GivenState}
use Rattle.command_card.proofs.GivingLemmas.{comes}

-- some dialogue, which no character begins
abbrev some : Dialogue
some = record {
  body = record {
    header = record { cla = 0x80; ins = 0x10; p1 = 0; p2 = 0 };
    p3 = 1;
    direction = FromCard;
    segments = All ∷ [];
    moved = 0 ∷ [];
  };
  status = (0x90, 0x00);
}

abbrev plan : Course
plan = record { steps = All ∷ []; cut = 256 }

under : IsUnderPlan some plan
under = record {
  is_dialogue = record {
    moved_by_segments = refl;
    is_status = (refl, lit< tt);
    only_nulls = λ invalid. absurd (cc);
  };
  in_range = (lit≤ tt, lit≤ tt);
  follows = record { all_or_nothing = inr refl; step_by_step = refl };
}

none_came : IsPart []
none_came = (
  plan,
  (
    some,
    (Terminal, 0x80),
    (Terminal, 0x10) ∷ (Terminal, 0) ∷ (Terminal, 0)
        ∷ (Terminal, 1) ∷ (Card, 0x10) ∷ (Card, 0) ∷ (Card, 0x90) ∷ (Card, 0x00) ∷ [],
    under,
    refl,
  ),
)

no_line : (ks : List Giving) → line_of (all_lent ks) ≡ []
no_line [] = refl
no_line (k ∷ ks) = no_line ks

pub at_rest_comes : (first last : CardState GivenState) (ks : List Giving)
    → first.left ≡ Nothing_left → first.app.given ≡ None → AreLent Lends [] first (all_lent ks) last
    → ComesOf true first.app (all_lent ks) last.app
at_rest_comes first last ks none unheld lent = comes true (AnswersBy true)
    (λ old new did is. is) first last (all_lent ks) Nothing (Taking_header []) none unheld (record {
      stretches = [];
      current = all_lent ks;
      mid = first;
      cut = 256;
      front = In_header [];
      happenings_are = refl;
      line_is = no_line ks;
      runs = refl;
      are_lent = lent;
      at_front = record {
        is_front = lit< tt;
        is_part = none_came;
        in_range = (lit≤ tt, lit≤ tt);
        stands = (refl, lit< tt);
      };
    })
