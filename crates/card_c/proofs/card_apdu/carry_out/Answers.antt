use Rattle.std.proofs.Common.{◌≡◌, ℕ, ◌≤◌, length, Option, refl, ◌∙◌, ap, inl, inr, arith}
use Rattle.std.specs.Prelude.{unwrap_or}
use Rattle.apdu_terminal.specs.Apdus.{may_bring}
use Rattle.card_c.specs.WholeCalls.{longest_response}
use Rattle.card_c.proofs.CardApduLemmas.{goes_out, is_over, responds, unwrapped}
use Rattle.card_c.proofs.card_apdu.carry_out.Goals as goal

pub unreachable-requires : goal.unreachable-requires
unreachable-requires c =
    is_over c.args.command c.args.end.now c.respond.new.end c.in-Ok.exchange.gather.bytes
    c.in-Ok.exchange.stage c.in-Ok.ensures.refuses c.in-Ok.ensures.responds
    (λ s over. c.in_default.not-Some s ((c.status.ensures s).1 over))

pub hand_out-requires : goal.hand_out-requires
hand_out-requires c =
    let le_is : c.unwrap_or.result ≡ may_bring c.args.command.le = c.unwrap_or.ensures
    ∙ ap (λ (o : Option ℕ). unwrap_or o 0) c.le.ensures.value ∙ unwrapped c.args.command.le in
    omega (
      arith,
      c.if-response-le.false,
      c.from-le.ensures,
      le_is,
      c.in-Ok.ensures.within,
      ap length c.data.ensures,
    )

pub returns-in-Some : goal.returns-in-Some
returns-in-Some c =
    let status = c.in-Some.status in let bytes = c.in-Ok.exchange.gather.bytes in
    let le_is : c.unwrap_or.result ≡ may_bring c.args.command.le = c.unwrap_or.ensures
    ∙ ap (λ (o : Option ℕ). unwrap_or o 0) c.le.ensures.value ∙ unwrapped c.args.command.le in
    let enough : longest_response c.args.command ≤ length c.args.response.now =
    omega (arith, c.if-response-le.false, c.from-le.ensures, le_is) in
    let is = responds c.args.command c.args.end.now c.respond.new.end bytes c.in-Ok.exchange.stage
    status c.in-Ok.ensures.refuses c.in-Ok.ensures.responds
    ((c.status.ensures status).0 c.in-Some.is) (c.in-Ok.ensures.rests ∙ c.requires) in
    goes_out c.args.command c.args.end.now c.respond.new.end status bytes c.data.result.now
    c.args.response.now c.hand_out.new.answer c.args.len.now c.hand_out.new.len is enough
    c.data.ensures c.hand_out.ensures.len c.hand_out.ensures.answer

pub returns-in-Err : goal.returns-in-Err
returns-in-Err c =
    let le_is : c.unwrap_or.result ≡ may_bring c.args.command.le = c.unwrap_or.ensures
    ∙ ap (λ (o : Option ℕ). unwrap_or o 0) c.le.ensures.value ∙ unwrapped c.args.command.le in
    let enough : longest_response c.args.command ≤ length c.args.response.now =
    omega (arith, c.if-response-le.false, c.from-le.ensures, le_is) in
    inr (inl (enough, (refl, refl, refl), c.in-Err.ensures.fault.0))
