-- The mark of an exchange, and the exchange that is made of it again.
use Rattle.std.proofs.Common.{◌≡◌, ℕ, List, refl, sym, subst, ap, ◌∙◌, Some, None, Bool, false, if◌then◌else◌}
use Rattle.apdu_core.specs.StatusWord.{StatusWord}
use Rattle.t0_core.specs.declared.end.End.TheVariants.{Terminal}
use Rattle.t0_core.specs.declared.host_end.HostTurn.{HostTurn}
use Rattle.t0_core.specs.declared.host_end.HostTurn.TheVariants.{Sends, Done, Failed}
use Rattle.t0_core.specs.declared.host_mark.HostMark.{HostMark}
use Rattle.t0_core.specs.Front.{Front, GoesOn}
use Rattle.t0_core.specs.Room.{Room}
use Rattle.t0_core.specs.HostSide.{Hosting, HostStandsAt, IsRequest, at_stage, turn_of, after_turn, data_sent}
use Rattle.t0_core.specs.HostMark.{HasOnly, with_data}
use Rattle.t0_core.specs.DataSent.{IsKnown}
use Rattle.t0_core.specs.DataSentLaws.{sends_known}
use Rattle.exchange_core.specs.declared.attempt.Attempt.{Attempt}
use Rattle.exchange_core.specs.declared.wanted.Wanted.{Wanted}
use Rattle.exchange_core.specs.Gathered.{Gathers}
use Rattle.exchange_core.specs.ExchangeSide.{ExchangeOf, IsKept, exchange_turn}
use Rattle.exchange_core.specs.ExchangeSteps.{IsTurn, IsAnswer}
use Rattle.exchange_core.specs.OwnedExchange.{of_parts}
use Rattle.exchange_core.proofs.ComesToLemmas.{next_leads}
use Rattle.exchange_core.proofs.ExchangeLemmas.{sends_further, with_host}
use Rattle.exchange_core.specs.ComesToLaws.{end_leads}
use Rattle.exchange_core.specs.OwnedLaws.{bounded, same_done}

pub no_answer : (ex : ExchangeOf)
    → ((status : StatusWord) → exchange_turn ex ≡ Done status → ⊥) → IsAnswer ex None
no_answer ex none = record {
  done = λ status done. absurd (none status done);
  undone = λ _. refl;
  led = λ c came leads. tt;
}

pub answers : (ex : ExchangeOf) (status : StatusWord) (bytes : List ℕ)
    → exchange_turn ex ≡ Done status → bytes ≡ ex.gather.bytes → IsAnswer ex (Some (status, bytes))
answers ex status bytes turn same = record {
  done = λ other done. let e : status ≡ other = same_done status other (sym turn ∙ done) in
      ap (λ (s : StatusWord). Some (s, bytes)) e ∙ ap (λ (bs : List ℕ). Some (other, bs)) same;
  undone = λ none. absurd (none status turn);
  led = λ c came leads. let end = end_leads c came ex status turn leads in
      (end.0, subst (λ (bs : List ℕ). Gathers c end.0 bs status) (sym same) end.1, end.2);
}

pub same_sent : (a b : ℕ) → Sends a ≡ Sends b → a ≡ b
same_sent a b e = cc

-- the exchange with these fields, whose end was made of its mark again
pub same_parts : (end : HostMark) (gather : Room) (attempt : Attempt) (wanted : Wanted)
    (stalled : Bool) (content : List ℕ) (host : Hosting) (ex : ExchangeOf)
    → host ≡ with_data end content
    → of_parts (with_data end content) gather attempt wanted stalled ≡ ex
    → of_parts host gather attempt wanted stalled ≡ ex
same_parts end gather attempt wanted stalled content host ex is view =
    ap (λ (h : Hosting). of_parts h gather attempt wanted stalled) is ∙ view

-- what holds of an exchange with an end holds of the exchange whose end is made of its mark again
pub over_mark : (P : ExchangeOf → Type 0) (mark : HostMark) (content : List ℕ) (host : Hosting)
    (gather : Room) (attempt : Attempt) (wanted : Wanted) (stalled : Bool)
    → with_data mark content ≡ host → P (of_parts host gather attempt wanted stalled)
    → P (of_parts (with_data mark content) gather attempt wanted stalled)
over_mark P mark content host gather attempt wanted stalled is holds =
    subst (λ (h : Hosting). P (of_parts h gather attempt wanted stalled)) (sym is) holds

pub end_has_only : (mark : HostMark) (content : List ℕ) (host : Hosting)
    → host ≡ with_data mark content → HasOnly content host
end_has_only mark content host is =
    rw is refl

-- a turn of its end is one of the exchange
pub turned : (ex : ExchangeOf) (turn : HostTurn) (host : Hosting) → IsKept ex
    → ex.stalled ≡ false → turn ≡ turn_of ex.host → host ≡ at_stage ex.host (after_turn ex.host)
    → IsRequest host → (((byte : ℕ) → turn ≡ Sends byte → ⊥) → host ≡ ex.host)
    → ((front : Front) (byte : ℕ) → HostStandsAt ex.host front → turn ≡ Sends byte
    → (new : Front) × GoesOn front (Terminal, byte) new × HostStandsAt host new)
    → IsTurn ex turn (with_host ex host ex.gather)
turned ex turn host kept going is after request stays goes_on =
    let does : turn ≡ exchange_turn ex =
    is ∙ sym (ap (λ b. if b then Failed else turn_of ex.host) going) in
    record {
      turn_is = does;
      stays = λ none. ap (λ (h : Hosting). with_host ex h ex.gather) (stays none);
      bounds = let within = bounded ex kept in
          record { room = within.room; fits = within.fits; tpdus = within.tpdus };
      limit = refl;
      goes_on = λ c units first front byte under sends.
          sends_further c ex host units first front byte under after request
          (goes_on front byte under.stands sends);
      by_characters = λ known. (
        known.0,
        subst (λ (h : Hosting). IsKnown (data_sent h)) (sym after)
            (sends_known ex.host known.1),
      );
      led = λ c came byte leads sends.
          next_leads c came ex (with_host ex host ex.gather) byte (sym does ∙ sends)
          (λ units first front under.
          sends_further c ex host units first front byte under after request
          (goes_on front byte under.stands sends)) leads;
    }
