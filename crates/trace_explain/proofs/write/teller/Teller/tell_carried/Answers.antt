use Rattle.std.proofs.Common.{List, ℕ, subst}
use Rattle.std.proofs.lemmas.Result.{on_ok_weaker}
use Rattle.trace_explain.specs.Overheard.{overheard_by}
use Rattle.trace_explain.specs.Pairs.{IsBadPair, IsPair}
use Rattle.trace_explain.proofs.AccountLemmas.{boxes_from, boxes_stay}
use Rattle.trace_explain.proofs.CarriedLemmas.{carries_pair, carries_refused}
use Rattle.trace_explain.proofs.write.teller.Teller.tell_carried.Goals as goal

pub returns-in-Ok : goal.returns-in-Ok
returns-in-Ok c =
    let P : List ℕ → Type 0 = λ x. IsPair x c.args.blocks.now.gathered.bytes c.in-Ok.tpdu in
    let Q : List ℕ → Type 0 = λ x. IsPair c.command.result.now x c.in-Ok.tpdu in
    record {
      same = c.take_rows.ensures;
      heard = λ events before h. carries_pair c.tell_exchange.result
          (overheard_by c.args.blocks.now).mark
          c.args.blocks.now.command.items c.args.blocks.now.gathered.bytes c.in-Ok.tpdu
          events before c.tell_exchange.new.listener c.args.self.now c.tell_exchange.new.self
          (subst P c.command.ensures (subst Q c.gathered.ensures c.in-Ok.ensures.reports))
          (c.tell_exchange.ensures events before h);
    }

pub returns-in-Err : goal.returns-in-Err
returns-in-Err c =
    let why = c.in-Err.why in
    let P : List ℕ → Type 0 = λ x. IsBadPair why x c.args.blocks.now.gathered.bytes in
    let Q : List ℕ → Type 0 = λ x. IsBadPair why c.command.result.now x in
    record {
      same = c.tell_refused.ensures.same;
      heard = λ events before h. carries_refused c.tell_refused.result why
          (overheard_by c.args.blocks.now).mark c.args.blocks.now.command.items
          c.args.blocks.now.gathered.bytes events before c.args.listener.now c.args.self.now
          c.tell_refused.new.self
          (subst P c.command.ensures (subst Q c.gathered.ensures c.in-Err.ensures.refused))
          c.tell_refused.ensures.refusal h
          (on_ok_weaker c.tell_refused.result (λ s. boxes_from s boxes_stay)
          c.tell_refused.ensures.stays);
    }
