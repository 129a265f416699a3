-- What an exchange says of the data that the terminal has sent.
use Rattle.std.proofs.Common.{◌≡◌, ap, sym, ◌∙◌}
use Rattle.t0_core.specs.declared.data_sent.DataSent.{DataSent}
use Rattle.t0_core.specs.DataSent.{both, Tells}
use Rattle.t0_core.specs.DataSentLaws.{tells_both, tells_itself, known_both, sent_in_front, sent_after_sw1}
use Rattle.t0_core.specs.HostSide.{data_sent}
use Rattle.exchange_core.specs.ExchangeSide.{ExchangeOf, exchange_sent}
use Rattle.exchange_core.specs.SentData.{TellsSent}

tells_when : (sent other : DataSent) → sent ≡ other → Tells sent other
tells_when sent other is = rw is (tells_itself other)

pub tells_sent : (ex : ExchangeOf) (sent : DataSent) → sent ≡ exchange_sent ex → TellsSent ex sent
tells_sent ex sent is = record {
  value = is;
  known = λ both_known. rw is (known_both ex.attempt.sent (data_sent ex.host) both_known.0
      both_known.1);
  in_body = λ c units first b under. rw is (tells_both ex.attempt.sent (data_sent ex.host) _ _
      under.place.sent_is (tells_when _ _ (sent_in_front ex.host b under.stands)));
  after_sw1 = λ c units first b sw1 under. rw is (tells_both ex.attempt.sent (data_sent ex.host) _
      _ under.place.sent_is (sent_after_sw1 ex.host b sw1 under.stands));
  over = λ c units status over. rw is over.sent_is;
}

-- of the exchange as contracts see it
pub tells_sent_as : (ex seen : ExchangeOf) (here sent : DataSent) → ex ≡ seen
    → sent ≡ both ex.attempt.sent here → here ≡ data_sent ex.host → TellsSent seen sent
tells_sent_as ex seen here sent is both_is here_is =
    rw (sym is) (tells_sent ex sent (both_is ∙ ap (both ex.attempt.sent) here_is))
