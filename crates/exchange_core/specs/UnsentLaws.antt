-- The command that an exchange returns before its first character is the one that began it.
use Rattle.std.proofs.Common.{◌≡◌, ◌≤◌, ℕ, zero, suc, List, [], ◌∷◌, refl, sym, ◌∙◌, ap, arith, true, false, not, ◌&&◌, ◌==◌, Bool, Option, Some, None, if◌then◌else◌}
use Rattle.std.specs.Prelude.{SomeIff, IfSome}
use Rattle.std.proofs.lemmas.Bool.{eqb-true}
use Rattle.apdu_core.specs.declared.header.Header.{Header}
use Rattle.apdu_core.specs.StatusWord.{StatusWord}
use Rattle.apdu_core.specs.CommandBytes.{Command, IsCommand}
use Rattle.t0_core.specs.declared.direction.Direction.{Direction}
use Rattle.t0_core.specs.declared.direction.Direction.TheVariants.{ToCard, FromCard}
use Rattle.t0_core.specs.declared.host_end.HostTurn.TheVariants.{Done, Failed}
use Rattle.t0_core.specs.Character.{Character}
use Rattle.t0_core.specs.Dialogue.{Dialogue}
use Rattle.t0_core.specs.Front.{Front}
use Rattle.t0_core.specs.AnswerLaws.{due_sends}
use Rattle.t0_core.specs.HostAnswer.{is_due}
use Rattle.t0_core.specs.HostSide.{Hosting, AreForeseen, turn_of}
use Rattle.t0_core.specs.TpduBytes.{Asked, asked_by, due_by}
use Rattle.exchange_core.specs.declared.wanted.Wanted.TheVariants.{Everything, Bytes}
use Rattle.exchange_core.specs.Gathered.{UnitOf, Single, Repeated, wanted_by}
use Rattle.exchange_core.specs.ExchangeSide.{ExchangeOf, UnderWay, HostOpensBy, exchange_turn}
use Rattle.exchange_core.specs.ExchangeHistory.{ComesTo, to_front, to_end, to_stall, to_fault}
use Rattle.exchange_core.specs.Unsent.{le_by, is_unsent, IsFirst}

-- what is wanted determines Le
le_back : (le : Option ℕ) → IfSome le (λ n. (1 ≤ n) × (n ≤ 256)) → le_by (wanted_by le) ≡ le
le_back None sizes = refl
le_back (Some zero) sizes = absurd (omega (arith, sizes.0))
le_back (Some (suc n)) sizes = by (suc n == 256) refl
  where
    by : (v : Bool) → (suc n == 256) ≡ v
        → le_by (if v then Everything else Bytes (suc n)) ≡ Some (suc n)
    by true e = ap Some (sym (eqb-true (suc n) 256 e))
    by false e = refl

pub record Unsending (ex : ExchangeOf) : Type 0 where
  pub going : ex.stalled ≡ false
  pub number : ex.attempt.number ≡ 1
  pub due : is_due ex.host ≡ true

pub unsending : (ex : ExchangeOf) → is_unsent ex ≡ true → Unsending ex
unsending ex is =
    let parts = by ex.stalled (ex.attempt.number == 1) (is_due ex.host) is in record {
      going = parts.0;
      number = eqb-true ex.attempt.number 1 parts.1;
      due = parts.2;
    }
  where
    by : (s n d : Bool) → (not s && (n && d)) ≡ true → (s ≡ false) × (n ≡ true) × (d ≡ true)
    by false true true e = (refl, refl, refl)
    by false true false e = absurd (cc)
    by false false d e = absurd (cc)
    by true n d e = absurd (cc)

-- an end before its first character has neither ended nor failed
not_done : (host : Hosting) (status : StatusWord) → is_due host ≡ true
    → turn_of host ≡ Done status → ⊥
not_done host status due done =
    let (byte, sends) = due_sends host due in
    absurd (cc)

not_failed : (host : Hosting) → is_due host ≡ true → turn_of host ≡ Failed → ⊥
not_failed host due failed =
    let (byte, sends) = due_sends host due in
    absurd (cc)

-- the command that the first TPDU is of
pub record IsOf (c : Command) (ex : ExchangeOf) : Type 0 where
  pub header_is : ex.host.header ≡ c.header
  pub content_is : ex.host.content ≡ c.content
  pub le_is : le_by ex.wanted ≡ c.le

no_content : (d : Direction) (content : List ℕ) (p3 : ℕ) → d ≡ FromCard
    → AreForeseen d content p3 → content ≡ []
no_content ToCard content p3 is are = absurd (cc)
no_content FromCard content p3 is are = are

opens_of : (h : Header) (content : List ℕ) (le : Option ℕ) (host : Hosting)
    → AreForeseen host.direction host.content host.p3 → HostOpensBy h content le host
    → (host.header ≡ h) × (host.content ≡ content)
opens_of h [] None host are opens = (opens.header_is, opens.has)
opens_of h [] (Some n) host are opens =
    (opens.header_is, no_content host.direction host.content host.p3 opens.from_card are)
opens_of h (b ∷ bs) le host are opens = (opens.header_is, opens.has)

under_way : (c : Command) (ex : ExchangeOf) (units : List UnitOf) (first : Option Dialogue)
    (front : Front) → IsCommand c → ex.attempt.number ≡ 1 → UnderWay c ex units first front
    → IsOf c ex
under_way c ex (Single d ∷ units) first front is one under =
    absurd (omega (arith, one, under.place.number_is))
under_way c ex (Repeated d e ∷ units) first front is one under =
    absurd (omega (arith, one, under.place.number_is))
under_way c ex [] (Some d) front is one under =
    absurd (omega (arith, one, under.place.number_is))
under_way c ex [] None front is one under =
    let opens = opens_of c.header c.content c.le ex.host under.request.2
    (rw under.followed.0 at under.opened_as) in record {
      header_is = opens.0;
      content_is = opens.1;
      le_is = ap le_by under.wanted_is ∙ le_back c.le is.sizes.le_in_range;
    }

turn_when : (ex : ExchangeOf) → ex.stalled ≡ false → exchange_turn ex ≡ turn_of ex.host
turn_when ex going = ap (λ v. if v then Failed else turn_of ex.host) going

of_command : (c : Command) (came : List Character) (ex : ExchangeOf) → IsCommand c
    → Unsending ex → ComesTo c came ex → IsOf c ex
of_command c came ex is u (to_front units first front under e) =
    under_way c ex units first front is u.number under
of_command c came ex is u (to_end units status over e) =
    absurd (not_done ex.host status u.due over.done)
of_command c came ex is u (to_stall units stall are failed e) =
    absurd (not_failed ex.host u.due (sym (turn_when ex u.going) ∙ failed))
of_command c came ex is u
    (to_fault units first front before byte fault under is_fault final failed limit e) =
    absurd (not_failed ex.host u.due (sym (turn_when ex u.going) ∙ failed))

abbrev pub read_from : Asked → Option ℕ → Command
read_from asked le = record { header = asked.header; content = asked.content; le = le }

same_asked : (host : Hosting) (asked : Asked) → Some asked ≡ due_by host
    → (is_due host ≡ true) × (asked ≡ asked_by host)
same_asked host asked e = by (is_due host) refl e
  where
    by : (v : Bool) → is_due host ≡ v
        → Some asked ≡ (if v then Some (asked_by host) else None)
        → (is_due host ≡ true) × (asked ≡ asked_by host)
    by true is e = (is, cc)
    by false is e = absurd (cc)

pub first_is : (ex : ExchangeOf) (asked : Asked) (le : Option ℕ) (first : Option Command)
    → ex.stalled ≡ false → ex.attempt.number ≡ 1 → Some asked ≡ due_by ex.host
    → le ≡ le_by ex.wanted
    → SomeIff first (IsCommand (read_from asked le)) (read_from asked le) → IsFirst ex first
first_is ex asked le first going one due le_is some =
    let (is_due_now, asked_is) = same_asked ex.host asked due in
    record {
      known = known first (is_unsent_by is_due_now);
      led = λ c came is comes unsent.
          let of = of_command c came ex is (unsending ex unsent) comes in
          let same : read_from asked le ≡ c =
          ap (λ (a : Asked). read_from a le) asked_is
          ∙ ap (λ l. read_from (asked_by ex.host) l) le_is
          ∙ made ex.host.header ex.host.content (le_by ex.wanted) c of.header_is of.content_is
          of.le_is in
          there first (read_from asked le) c some same is;
    }
  where
    is_unsent_by : is_due ex.host ≡ true → is_unsent ex ≡ true
    is_unsent_by due = rw (going, one, due) refl

    known : (f : Option Command) → is_unsent ex ≡ true
        → IfSome f (λ c. is_unsent ex ≡ true)
    known None is = tt
    known (Some c) is = is

    made : (h : Header) (content : List ℕ) (l : Option ℕ) (c : Command) → h ≡ c.header
        → content ≡ c.content → l ≡ c.le
        → record { header = h; content = content; le = l } ≡ c
    made h content l c a b d = rw (a, b, d) refl

    there : (f : Option Command) (parts c : Command) → SomeIff f (IsCommand parts) parts
        → parts ≡ c → IsCommand c → f ≡ Some c
    there None parts c none same is = absurd (none (rw same is))
    there (Some d) parts c some same is = ap Some (some.1 ∙ same)
