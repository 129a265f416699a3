use Rattle.std.proofs.Common.{◌≡◌, rules, ℕ, arith, length-append, refl, ap, ◌∙◌, length, sym, subst, Some}
use Rattle.std.specs.List.{flat_map}
use Rattle.std.proofs.lemmas.Grind.{common_steps}
use Rattle.std.proofs.lemmas.Result.{err_from_is_err_and}
use Rattle.t0_core.specs.declared.end.End.TheVariants.{Card}
use Rattle.t0_core.specs.Meaning.{received}
use Rattle.t0_core.specs.Room.{Room}
use Rattle.t0_core.specs.HostSide.{Hosting, at_stage, after_taking, data_sent}
use Rattle.t0_core.specs.HostLaws.{going, too_long}
use Rattle.t0_core.specs.DataSentLaws.{takes_known, takes_same, asks_sent, both_all, known_both, known_begun, sent_ended}
use Rattle.t0_core.specs.DataSent.{both, IsKnown}
use Rattle.exchange_core.specs.ExchangeSide.{so_far}
use Rattle.exchange_core.proofs.EndLemmas.{at_end, follows_as, asks_next, ends_over, ends_stalled, sent_by_end, following_keeps}
use Rattle.exchange_core.specs.Attempts.{with_sent}
use Rattle.exchange_core.proofs.ExchangeLemmas.{goes_further}
use Rattle.exchange_core.proofs.ComesToLemmas.{failed_turn, broken}
use Rattle.exchange_core.proofs.TakingLemmas.{more_bounded, takes, takes_as, stalls, fails}
use Rattle.exchange_core.proofs.exchange.taking.taken_by.Goals as goal

-- what is known of the data stays known
known_after : (old new : Hosting) (byte : ℕ) → new ≡ at_stage old (after_taking old byte)
    → IsKnown (data_sent old) → IsKnown (data_sent new)
known_after old new byte is known =
    subst (λ (h : Hosting). IsKnown (data_sent h)) (sym is) (takes_known old byte known)

pub returns-in-Stalls-clause-kept : goal.returns-in-Stalls-clause-kept
returns-in-Stalls-clause-kept g c =
    let taken = c.in_ok-take.ensures.taken in
    let bytes = ap (λ (r : Room). length r.bytes) taken.1 in
    let limit = ap (λ (r : Room). r.limit) taken.1 in
    record {
      counted = record {
        valid = c.requires.counted.valid;
        begun = omega (arith, bytes, length-append {A = ℕ}, c.requires.counted.begun);
        number = c.requires.counted.number;
      };
      room = omega (arith, limit, c.requires.room);
      fits = omega (
        arith,
        c.bytes-gathered.ensures.fits,
        ap length c.bytes-gathered.ensures.value,
      );
      stalled_at_end = λ _. (c.in-Some.status, (c.in-Some.ensures c.in-Some.status).0 refl);
    }

pub returns-in_default-clause-taking : goal.returns-in_default-clause-taking
returns-in_default-clause-taking g c =
    let into = c.in_ok-take.ensures.taken.1 in
    takes _ _ c.args.byte c.requires (more_bounded _ _ c.requires refl
    (ap (λ (r : Room). r.limit) into)
    (omega (arith, ap (λ (r : Room). length r.bytes) into, length-append {A = ℕ}))
    (grind (arith, common_steps))) (search rules) c.in_ok-take.ensures.fault
    (λ command units first front new seen goes.
    let stands = c.in_ok-take.ensures.goes_on front new seen.stands goes in
    let taken = c.in_ok-take.ensures.taken in
    goes_further command _ c.take.new.self c.take.new.gather units first front new
    (Card, c.args.byte)
    (record {
      header = ap (λ (h : Hosting). h.header) taken.0;
      p3 = ap (λ (h : Hosting). h.p3) taken.0;
      direction = ap (λ (h : Hosting). h.direction) taken.0;
      content = ap (λ (h : Hosting). h.content) taken.0;
    }) c.in_ok-take.ensures.keeps seen goes stands
    (c.in_ok-take.ensures.gathers front new (flat_map received (so_far units first)) seen.stands
    goes seen.gathered))
    (λ command units first front d seen ends.
    absurd (c.in_default.not-Some d.status
    ((c.status.ensures d.status).1 (c.in_ok-take.ensures.done front d seen.stands ends).0)))
    (λ command units first front seen. takes_as (c.in_ok-take.ensures.came front seen.stands))
    (λ known. (
      known.0,
      known_after c.args.end.now c.take.new.self c.args.byte c.in_ok-take.ensures.taken.0 known.1,
    ))
    (ap (both c.args.attempt.now.sent) (takes_same c.args.end.now c.take.new.self
    c.args.gather.now c.args.byte c.in_ok-take.ensures.taken.0 (sym c.in_ok-take.ensures.fault)))

pub returns-in-Asks-clause-taking : goal.returns-in-Asks-clause-taking
returns-in-Asks-clause-taking g c =
    takes _ _ c.args.byte c.requires (search rules) (search rules) c.in_ok-take.ensures.fault
    (λ command units first front new seen goes.
    let stands = c.in_ok-take.ensures.goes_on front new seen.stands goes in
    absurd (going c.take.new.self new c.in-Some.status stands
    ((c.in-Some.ensures c.in-Some.status).0 refl)))
    (λ command units first front d seen ends.
    let done = c.in_ok-take.ensures.done front d seen.stands ends in
    let end = at_end command _ units first front c.args.byte d seen ends in
    let follows = follows_as end _ c.take.new.gather _ c.in-Some.status _ _ c.in-Asks.ensures.value
    c.bytes-gathered.ensures.value done.1 c.less.ensures ((c.in-Some.ensures d.status).1 done.0) in
    let ended = (c.in_ok-take.ensures.ends front d seen.stands ends).1 in
    let told = sent_by_end command _ units first front c.args.byte d c.data_sent.result seen ends
    (c.data_sent.ensures.value ∙ sent_ended _ _ c.take.new.self ended) in
    asks_next end c.asking.result c.take.new.gather c.in-Asks.next c.in-Asks.count c.and-sent.result
    (rw c.and-sent.ensures told) done.1 follows
    (record {
      header_is = c.asking.ensures.header;
      from_card = c.asking.ensures.data.0;
      counts = c.asking.ensures.p3.0;
      is_byte = c.asking.ensures.p3.1;
    }) c.asking.ensures.stands c.asking.ensures.keeps)
    (λ command units first front seen. takes_as (c.in_ok-take.ensures.came front seen.stands))
    (λ known. (
      subst IsKnown (sym (following_keeps (with_sent c.args.attempt.now c.and-sent.result)
          (length c.bytes-gathered.result.now) c.less.result
          c.in-Some.status c.in-Asks.next c.in-Asks.count c.in-Asks.ensures.value
          ∙ c.and-sent.ensures))
          (known_both _ _ known.0 (subst IsKnown (sym c.data_sent.ensures.value)
          (known_after c.args.end.now c.take.new.self c.args.byte
          c.in_ok-take.ensures.taken.0 known.1))),
      known_begun c.asking.result c.asking.ensures.stage,
    ))
    (ap (both c.in-Asks.next.sent) (asks_sent c.asking.result c.asking.ensures.stage
    c.asking.ensures.data.0) ∙ both_all c.in-Asks.next.sent
    ∙ following_keeps (with_sent c.args.attempt.now c.and-sent.result)
    (length c.bytes-gathered.result.now) c.less.result
    c.in-Some.status c.in-Asks.next c.in-Asks.count c.in-Asks.ensures.value
    ∙ c.and-sent.ensures ∙ ap (both c.args.attempt.now.sent) (c.data_sent.ensures.value
    ∙ takes_same c.args.end.now c.take.new.self c.args.gather.now c.args.byte
    c.in_ok-take.ensures.taken.0 (sym c.in_ok-take.ensures.fault)))

pub returns-in-Ends-clause-taking : goal.returns-in-Ends-clause-taking
returns-in-Ends-clause-taking g c =
    let into = c.in_ok-take.ensures.taken.1 in
    takes _ _ c.args.byte c.requires (more_bounded _ _ c.requires refl
    (ap (λ (r : Room). r.limit) into)
    (omega (arith, ap (λ (r : Room). length r.bytes) into, length-append {A = ℕ}))
    (omega (arith, c.bytes-gathered.ensures.fits, ap length c.bytes-gathered.ensures.value)))
    (search rules) c.in_ok-take.ensures.fault
    (λ command units first front new seen goes.
    let stands = c.in_ok-take.ensures.goes_on front new seen.stands goes in
    absurd (going c.take.new.self new c.in-Some.status stands
    ((c.in-Some.ensures c.in-Some.status).0 refl)))
    (λ command units first front d seen ends.
    let done = c.in_ok-take.ensures.done front d seen.stands ends in
    let end = at_end command _ units first front c.args.byte d seen ends in
    let follows = follows_as end _ c.take.new.gather _ c.in-Some.status _ _ c.in-Ends.ensures.value
    c.bytes-gathered.ensures.value done.1 c.less.ensures ((c.in-Some.ensures d.status).1 done.0) in
    let ended = (c.in_ok-take.ensures.ends front d seen.stands ends).1 in
    let told = sent_by_end command _ units first front c.args.byte d _ seen ends
    (sent_ended _ _ c.take.new.self ended) in
    ends_over end c.take.new.self c.take.new.gather c.and-sent.result told done.1 follows done.0)
    (λ command units first front seen. takes_as (c.in_ok-take.ensures.came front seen.stands))
    (λ known. (
      known.0,
      known_after c.args.end.now c.take.new.self c.args.byte c.in_ok-take.ensures.taken.0 known.1,
    ))
    (ap (both c.args.attempt.now.sent) (takes_same c.args.end.now c.take.new.self
    c.args.gather.now c.args.byte c.in_ok-take.ensures.taken.0 (sym c.in_ok-take.ensures.fault)))

pub returns-in-Stalls-clause-taking : goal.returns-in-Stalls-clause-taking
returns-in-Stalls-clause-taking g c =
    stalls _ _ c.args.byte c.requires (search rules) (search rules) c.in_ok-take.ensures.fault refl
    (λ command units first front new seen goes.
    going c.take.new.self new c.in-Some.status
    (c.in_ok-take.ensures.goes_on front new seen.stands goes)
    ((c.in-Some.ensures c.in-Some.status).0 refl))
    (λ command units first front d seen ends.
    let done = c.in_ok-take.ensures.done front d seen.stands ends in
    let end = at_end command _ units first front c.args.byte d seen ends in
    let follows = follows_as end _ c.take.new.gather _ c.in-Some.status _ _
    c.in-Stalls.ensures.value c.bytes-gathered.ensures.value done.1 c.less.ensures
    ((c.in-Some.ensures d.status).1 done.0) in
    ends_stalled end c.and-sent.result follows)
    (λ command units first front seen. takes_as (c.in_ok-take.ensures.came front seen.stands))

pub returns-in_err-take-clause-taking : goal.returns-in_err-take-clause-taking
returns-in_err-take-clause-taking g c =
    let p = err_from_is_err_and c.from_residual.result c.from_residual.ensures.1 in
    rw (p.1, p.2)
    (fails _ _ c.args.byte c.requires (search rules) (search rules) _
    (sym c.in_err-take.ensures.fault) (search rules)
    (λ final. failed_turn c.args.stalled.now c.take.new.self
    (broken c.args.end.now c.take.new.self _ c.in_err-take.ensures.refused.0 final))
    (λ command units first front new seen goes.
    let long = c.in_err-take.ensures.goes_on front new seen.stands goes in
    let full = too_long c.args.end.now c.args.gather.now c.args.byte front new seen.stands
    (sym c.in_err-take.ensures.fault ∙ ap Some long) goes in
    (long, full.0, full.1))
    (λ command units first front d seen ends.
    let none = (c.in_err-take.ensures.ends front d seen.stands ends).0 in absurd (cc)))
