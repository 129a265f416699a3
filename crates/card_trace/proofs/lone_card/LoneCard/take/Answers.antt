use Rattle.std.proofs.Common.{◌<◌, [], length, take, drop, inl, inr, refl, sym, ◌∙◌, append-nil, arith}
use Rattle.std.proofs.lemmas.List.{take-append-drop, take_all}
use Rattle.t0_core.specs.declared.end.End.TheVariants.{Terminal}
use Rattle.t0_core.specs.Character.{sent_by}
use Rattle.card_trace.specs.PrintedText.{not_listening_text}
use Rattle.card_trace.specs.CardScripts.{Takes, listens_now}
use Rattle.card_trace.proofs.CardLemmas.{lead_take, lead_taken, leads_by, some_left, silent_then}
use Rattle.card_trace.proofs.lone_card.LoneCard.take.Goals as goal

pub returns-then-take_bytes-characters :
    goal.returns-then-take_bytes-characters
returns-then-take_bytes-characters g c =
    let now = c.args.self.now in
    let bytes = c.args.characters.now in
    let count = c.take_bytes.result in
    let new = c.take_bytes.new.self in
    let over = c.is_over.ensures.0 c.if-not-is_over.false in
    let fewer : count < length bytes = omega (arith, c.if-take_bytes-characters.true) in
    let led = lead_taken _ now.plans
    (λ old b next t. lead_take old next b t.taken t.led t.led_under now.plans)
    now.end new (take count bytes) c.take_bytes.ensures.taken in
    leads_by (λ o n. Takes o bytes not_listening_text n) now.opening (now.end, now.plans)
    (new, now.plans) (sent_by Terminal (take count bytes)) led
    (λ past more goes. listens_now over
    (record {
      taken = take count bytes;
      refused = drop count bytes;
      all = sym (take-append-drop count bytes);
      continues = goes;
      prints = inr (
        some_left count bytes fewer,
        silent_then count (length bytes) _ c.take_bytes.ensures.all fewer,
        refl,
      );
    }) refl)

pub returns : goal.returns
returns g c =
    let now = c.args.self.now in
    let bytes = c.args.characters.now in
    let count = c.take_bytes.result in
    let new = c.take_bytes.new.self in
    let over = c.is_over.ensures.0 c.if-not-is_over.false in
    let whole = take_all count bytes (omega (arith, c.if-take_bytes-characters.false)) in
    let led = lead_taken _ now.plans
    (λ old b next t. lead_take old next b t.taken t.led t.led_under now.plans)
    now.end new (take count bytes) c.take_bytes.ensures.taken in
    leads_by (λ o n. Takes o bytes [] n) now.opening (now.end, now.plans) (new, now.plans)
    (sent_by Terminal (take count bytes)) led
    (λ past more goes. listens_now over
    (record {
      taken = take count bytes;
      refused = [];
      all = sym (append-nil (take count bytes) ∙ whole);
      continues = goes;
      prints = inl (refl, refl);
    }) refl)
