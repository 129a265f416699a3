-- Units one after another: one more of them, their dialogues and their data.
use Rattle.std.proofs.Common.{◌≡◌, ℕ, ◌+◌, List, [], ◌∷◌, ◌++◌, length, refl, sym, ◌∙◌, ap, arith, Option, Some, None, append-nil, length-append}
use Rattle.std.specs.List.{flat_map}
use Rattle.apdu_core.specs.declared.header.Header.{Header}
use Rattle.apdu_core.specs.StatusWord.{StatusWord}
use Rattle.t0_core.specs.declared.direction.Direction.{Direction}
use Rattle.t0_core.specs.declared.direction.Direction.TheVariants.{ToCard, FromCard}
use Rattle.t0_core.specs.declared.plan.Step.{Step}
use Rattle.t0_core.specs.Dialogue.{Body, Dialogue}
use Rattle.t0_core.specs.Meaning.{received}
use Rattle.t0_core.specs.Front.{from_card}
use Rattle.exchange_core.specs.declared.wanted.Wanted.{Wanted}
use Rattle.exchange_core.specs.declared.wanted.Wanted.TheVariants.{Bytes, Everything}
use Rattle.exchange_core.specs.Gathered.{less, after_unit, Opening, By_fetch, UnitOf, unit_data, IsFollowed, AreFollowed}
use Rattle.exchange_core.specs.ExchangeSide.{begun_with, ended_with}

-- what is wanted less a number and then another
pub less_less : (w : Wanted) (a b : ℕ) → less (less w a) b ≡ less w (a + b)
less_less (Bytes n) a b = ap Bytes (omega arith)
less_less Everything a b = refl

less_none : (w : Wanted) → less w 0 ≡ w
less_none (Bytes n) = ap Bytes (omega arith)
less_none Everything = refl

pub followed_left : (opening : Opening) (w : Wanted) (units : List UnitOf) (next : Opening)
    (left : Wanted) → AreFollowed opening w units next left
    → left ≡ less w (length (flat_map unit_data units))
followed_left opening w [] next left followed = followed.1 ∙ sym (less_none w)
followed_left opening w (u ∷ units) next left followed =
    followed_left (By_fetch followed.0) (after_unit w u) units next left followed.2
    ∙ less_less w (length (unit_data u)) (length (flat_map unit_data units))
    ∙ ap (less w) (sym (length-append (unit_data u) (flat_map unit_data units)))

-- one more unit
pub one_more : (opening : Opening) (w : Wanted) (units : List UnitOf) (next : Opening)
    (left : Wanted) (u : UnitOf) (n : ℕ) → AreFollowed opening w units next left
    → IsFollowed next left u n
    → AreFollowed opening w (units ++ u ∷ []) (By_fetch n) (after_unit left u)
one_more opening w [] next left u n followed more =
    (n, rw (followed.0, followed.1) at more, (refl, ap (λ v. after_unit v u) followed.1))
one_more opening w (v ∷ units) next left u n followed more = (
  followed.0,
  followed.1,
  one_more (By_fetch followed.0) (after_unit w v) units next left u n followed.2 more,
)

pub ended_data : (first : Option Dialogue) (d : Dialogue)
    → unit_data (ended_with first d) ≡ flat_map received (begun_with first) ++ received d
ended_data None d = append-nil (received d)
ended_data (Some e) d =
    ap (λ ds. received e ++ ds) (append-nil (received d))
    ∙ ap (λ ds. ds ++ received d) (sym (append-nil (received e)))

-- the data of a dialogue are what its body brought
by_direction : (h : Header) (p3 : ℕ) (direction : Direction) (segments : List Step)
    (moved : List ℕ) (status : StatusWord)
    → received (record {
      body =
          record {
            header = h;
            p3 = p3;
            direction = direction;
            segments = segments;
            moved =
                moved;
          };
      status = status;
    }) ≡ from_card direction moved
by_direction h p3 ToCard segments moved status = refl
by_direction h p3 FromCard segments moved status = refl

pub received_of : (b : Body) (status : StatusWord)
    → received (record { body = b; status = status }) ≡ from_card b.direction b.moved
received_of b status = by_direction b.header b.p3 b.direction b.segments b.moved status
