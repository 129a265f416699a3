use Rattle.std.proofs.Common.{rules, ap, inl, inr, refl}
use Rattle.std.proofs.lemmas.Result.{err_from_is_err_and}
use Rattle.t0_core.specs.Front.{After_first}
use Rattle.exchange_core.specs.ExchangeSide.{is_final}
use Rattle.exchange_core.proofs.WholeTpduLemmas.{whole_sent, took, under_took, front_took, leads_took, ends_took, leads_all, gives_inside, refused_ends, refused_leads}
use Rattle.exchange_core.proofs.exchange.Exchange.answered.Goals as goal

pub returns-in-Ok-clause-answering : goal.returns-in-Ok-clause-answering
returns-in-Ok-clause-answering g c =
    let sw = c.args.status in
    let arm = c.in_ok-take_up_to_sw2.ensures in
    let went = took _ _ _ c.args.bytes.now sw c.self.invariant arm.fault arm.taken arm.stands in
    record {
      fault = search rules;
      bounds = c.in-Ok.ensures.taking.bounds;
      limit = search rules;
      unchanged = tt;
      failed = tt;
      ends = λ command units first d under gives.
          c.in-Ok.ensures.taking.ends command units first (After_first d.body sw.0) d
          (under_took command _ _ _ _ units first c.args.bytes.now sw d c.self.view_is went gives
          under) (ends_took _ d c.args.bytes.now sw c.sw2.result c.sw2.ensures.value gives);
      led = λ command came d leads gives.
          leads_all command came c.take.new.self _ d c.args.bytes.now sw c.sw2.result
          c.sw2.ensures.value gives
          (c.in-Ok.ensures.taking.led command _
          (leads_took command came _ _ _ _ c.args.bytes.now sw d c.self.view_is went gives leads));
      whole = whole_sent _ _ _ c.take_up_to_sw2.new.gather c.take.new.self sw c.self.view_is
          went.host_is c.in-Ok.ensures.taking.sent;
      given = search rules;
    }

pub returns-in-Err-clause-answering : goal.returns-in-Err-clause-answering
returns-in-Err-clause-answering g c =
    let sw = c.args.status in
    let arm = c.in_ok-take_up_to_sw2.ensures in
    let went = took _ _ _ c.args.bytes.now sw c.self.invariant arm.fault arm.taken arm.stands in
    record {
      fault = search rules;
      bounds = c.in-Err.ensures.taking.bounds;
      limit = search rules;
      unchanged = search rules;
      failed = search rules;
      ends = λ command units first d under gives.
          let ended = c.in-Err.ensures.taking.ends command units first (After_first d.body sw.0) d
          (under_took command _ _ _ _ units first c.args.bytes.now sw d c.self.view_is went gives
          under) (ends_took _ d c.args.bytes.now sw c.sw2.result c.sw2.ensures.value gives) in
          inl (refl, ended.1);
      led = λ command came d leads gives.
          let at = front_took command came _ _ _ _ c.args.bytes.now sw c.self.view_is went leads in
          let ended = c.in-Err.ensures.taking.ends command at.0 at.1 (After_first d.body sw.0) d
          (under_took command _ _ _ _ at.0 at.1 c.args.bytes.now sw d c.self.view_is went gives
          at.2) (ends_took _ d c.args.bytes.now sw c.sw2.result c.sw2.ensures.value gives) in
          let led = c.in-Err.ensures.taking.led command _
          (leads_took command came _ _ _ _ c.args.bytes.now sw d c.self.view_is went gives leads)
          (ap is_final ended.0) in
          inl (
            refl,
            leads_all command came c.take.new.self _ d c.args.bytes.now sw c.sw2.result
                c.sw2.ensures.value gives led,
          );
      whole = tt;
      given = search rules;
    }

pub returns-in_err-take_up_to_sw2-clause-answering :
    goal.returns-in_err-take_up_to_sw2-clause-answering
returns-in_err-take_up_to_sw2-clause-answering g c =
    let arm = c.in_err-take_up_to_sw2.ensures in
    let p = err_from_is_err_and c.from_residual.result c.from_residual.ensures.1 in
    rw (p.1, p.2) (record {
      fault = search rules;
      bounds = search rules;
      limit = search rules;
      unchanged = search rules;
      failed = search rules;
      ends = λ command units first d under gives.
          inr (refused_ends command _ _ units first c.args.bytes.now _ c.self.view_is under
          (arm.stands d (gives_inside _ _ _ _ d c.self.view_is gives)) arm.fault);
      led = λ command came d leads gives.
          inr (refused_leads command came _ _ c.take_up_to_sw2.new.self c.args.bytes.now
          c.args.status d _ c.self.view_is c.self.invariant leads gives arm.refused.0
          (arm.stands d (gives_inside _ _ _ _ d c.self.view_is gives)) arm.fault
          c.take_up_to_sw2.new.gather arm.refused.1);
      whole = tt;
      given = search rules;
    })
